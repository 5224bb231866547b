-- What requests and attributes are found by, as functions of places.
use Rattle.std.specs.Prelude.{ℕ, ◌+◌, ◌&&◌, ◌||◌, Bool, true, false, if◌then◌else◌, List, Option, Some, None, slice_get, codes}
use Rattle.std.specs.Str.{bytes_eq}
use Rattle.es_tree.specs.declared.tokens.TokenKind.{TokenKind}
use Rattle.es_tree.specs.declared.tokens.TokenKind.TheVariants as token_kind
use Rattle.es_tree.specs.Names.{string_value}
use Rattle.es_outline.specs.declared.mark.Mark.{Mark}
use Rattle.es_outline.specs.declared.mark.Mark.TheVariants as mark
use Rattle.es_outline.specs.declared.mark.Role.TheVariants as is
use Rattle.es_scope.specs.Source.{Source, spelled_at, name_at}

abbrev pub spells : Source → ℕ → List ℕ → Bool
spells source place word = bytes_eq (spelled_at source place) word

-- the value of a StringLiteral at the place
abbrev pub text_at : Source → ℕ → List ℕ
text_at source place = string_value (spelled_at source place)

abbrev pub is_string_kind : TokenKind → Bool
is_string_kind token_kind.String = true
is_string_kind _ = false

abbrev pub is_string_mark : Option Mark → Bool
is_string_mark (Some (mark.Token role token)) = is_string_kind token.kind
is_string_mark _ = false

abbrev pub is_string : Source → ℕ → Bool
is_string source place = is_string_mark (slice_get source.marks place)

abbrev pub is_word_kind : TokenKind → Bool
is_word_kind token_kind.IdName = true
is_word_kind _ = false

abbrev pub is_word_mark : Option Mark → Bool
is_word_mark (Some (mark.Token role token)) = is_word_kind token.kind
is_word_mark _ = false

abbrev pub is_word : Source → ℕ → Bool
is_word source place = is_word_mark (slice_get source.marks place)

-- `)`, maybe behind a comma
abbrev pub close_at : Source → ℕ → Option ℕ
close_at source left =
    if spells source (left + 2) (codes ")") then Some (left + 2)
    else (if spells source (left + 2) (codes ",") && spells source (left + 3) (codes ")") then Some (left + 3) else None)

-- where an argument list of one StringLiteral ends that begins at the place
abbrev pub argument_end : Source → ℕ → Option ℕ
argument_end source left = if spells source left (codes "(") && is_string source (left + 1) then close_at source left else None

abbrev pub is_call_word : Option Mark → Bool
is_call_word (Some (mark.Token is.ImportCall token)) = true
is_call_word _ = false

-- where the `import()` of a text ends that begins at the place
abbrev pub import_end : Source → ℕ → Option ℕ
import_end source place = if is_call_word (slice_get source.marks place) then argument_end source (place + 1) else None

abbrev pub is_attributes : Option Mark → Bool
is_attributes (Some (mark.Token is.Attributes token)) = true
is_attributes _ = false

abbrev pub has_attributes : Source → ℕ → Bool
has_attributes source request = is_attributes (slice_get source.marks (request + 1))

abbrev pub has_no_pair : Source → ℕ → Bool
has_no_pair source request = has_attributes source request && spells source (request + 3) (codes "}")

-- a text or a word of this value
abbrev pub is_text_of : Source → ℕ → List ℕ → Bool
is_text_of source place value = is_string source place && bytes_eq (text_at source place) value

abbrev pub is_word_of : Source → ℕ → List ℕ → Bool
is_word_of source place value = is_word source place && bytes_eq (name_at source place) value

abbrev pub is_key_of : Source → ℕ → List ℕ → Bool
is_key_of source place value = is_text_of source place value || is_word_of source place value

abbrev pub closes_pairs : Source → ℕ → Bool
closes_pairs source request =
    spells source (request + 6) (codes "}") || (spells source (request + 6) (codes ",") && spells source (request + 7) (codes "}"))

abbrev pub asks_for_json : Source → ℕ → Bool
asks_for_json source request =
    has_attributes source request
    && (closes_pairs source request && (is_key_of source (request + 3) (codes "type") && is_text_of source (request + 5) (codes "json")))
