-- What the functions tell of texts, arguments and attributes is what is defined of them.
use Rattle.std.proofs.Common.{◌≡◌, ◌<◌, ℕ, ◌+◌, ◌&&◌, ◌↔◌, inl, inr, ⊎_elim, Bool, true, false, cond, List, ◌∷◌, Option, Some, None, slice_get, length, codes, refl, sym, ap, subst, ◌∙◌, arith, true≢false}
use Rattle.std.specs.Str.{bytes_eq}
use Rattle.std.proofs.lemmas.Option.{none-some, same_Some, slice_get_within}
use Rattle.std.proofs.lemmas.Slice.Eq.{bytes_eq-Decides}
use Rattle.pk_types.proofs.ListMembers.{both, first_so, second_so, or_one, or_first, or_second}
use Rattle.es_tree.specs.declared.tokens.TokenKind.{TokenKind}
use Rattle.es_tree.specs.declared.tokens.TokenKind.TheVariants as token_kind
use Rattle.es_tree.specs.Names.{string_value}
use Rattle.es_outline.specs.declared.mark.Mark.{Mark}
use Rattle.es_outline.specs.declared.mark.Mark.TheVariants as mark
use Rattle.es_outline.specs.declared.mark.Role.TheVariants as is
use Rattle.es_scope.specs.Source.{Source, HasRole, spelled_at, spelled_token, token_of, name_at}
use Rattle.es_scope.specs.Asking.{IsString, TextArgument, ImportsText, IsAttributeText, HasAttributes, HasNoPair, ClosesPairs, AsksForJson}
use Rattle.es_asks.specs.Texts.{spells, text_at, is_string_kind, is_string_mark, is_string, is_word_kind, is_word_mark, is_word, close_at, argument_end, is_call_word, import_end, is_attributes, has_attributes, has_no_pair, is_text_of, is_word_of, is_key_of, closes_pairs, asks_for_json}

-- what is spelled as something is a token
pub something_there : (source : Source) (place first : ℕ) (rest : List ℕ) (there : Option Mark) → slice_get source.marks place ≡ there
    → spelled_token source.text (token_of there) ≡ first ∷ rest → place < length source.marks
something_there source place first rest None e s = cc
something_there source place first rest (Some one_mark) e s = slice_get_within source.marks place one_mark e

pub spelled_within : (source : Source) (place first : ℕ) (rest : List ℕ) → spells source place (first ∷ rest) ≡ true → place < length source.marks
spelled_within source place first rest e =
    something_there source place first rest (slice_get source.marks place) refl ((bytes_eq-Decides (spelled_at source place) (first ∷ rest)).0 e)

module _ (source : Source) (left : ℕ) where
  close_within_by : (end : ℕ) (b c d : Bool) → spells source (left + 2) (codes ")") ≡ b → spells source (left + 2) (codes ",") ≡ c
      → spells source (left + 3) (codes ")") ≡ d → cond b (Some (left + 2)) (cond (c && d) (Some (left + 3)) None) ≡ Some end → end < length source.marks
  close_within_by end true c d e f g is = subst (λ n. n < length source.marks) (same_Some (left + 2) end is) (spelled_within source (left + 2) _ _ e)
  close_within_by end false true true e f g is = subst (λ n. n < length source.marks) (same_Some (left + 3) end is) (spelled_within source (left + 3) _ _ g)
  close_within_by end false true false e f g is = absurd (none-some end is)
  close_within_by end false false d e f g is = absurd (none-some end is)

  -- the end of an argument list is a place
  pub ends_within : (end : ℕ) → close_at source left ≡ Some end → end < length source.marks
  ends_within end is = close_within_by end (spells source (left + 2) (codes ")")) (spells source (left + 2) (codes ",")) (spells source (left + 3) (codes ")")) refl refl refl is

-- words, strings and names at places
so : (source : Source) (place : ℕ) (word : List ℕ) → spelled_at source place ≡ word → spells source place word ≡ true
so source place word e = (bytes_eq-Decides (spelled_at source place) word).1 e

is_so : (source : Source) (place : ℕ) (word : List ℕ) → spells source place word ≡ true → spelled_at source place ≡ word
is_so source place word e = (bytes_eq-Decides (spelled_at source place) word).0 e

string_kind : (k : TokenKind) → is_string_kind k ≡ true → k ≡ token_kind.String
string_kind token_kind.String e = refl
string_kind _ e = absurd (true≢false (sym e))

word_kind : (k : TokenKind) → is_word_kind k ≡ true → k ≡ token_kind.IdName
word_kind token_kind.IdName e = refl
word_kind _ e = absurd (true≢false (sym e))

pub string_there : (source : Source) (place : ℕ) (value : List ℕ) → IsString source place value → (is_string source place ≡ true) × (text_at source place ≡ value)
string_there source place value s = (
  ap is_string_mark s.stands ∙ ap is_string_kind s.kind,
  ap (λ (there : Option Mark). string_value (spelled_token source.text (token_of there))) s.stands ∙ s.spells,
)

string_by : (source : Source) (place : ℕ) (there : Option Mark) → slice_get source.marks place ≡ there → is_string_mark there ≡ true
    → IsString source place (text_at source place)
string_by source place (Some (mark.Token role token)) e is = record {
  role = role;
  token = token;
  stands = e;
  kind = string_kind token.kind is;
  spells = sym (ap (λ (there : Option Mark). string_value (spelled_token source.text (token_of there))) e);
}
string_by source place _ e is = absurd (true≢false (sym is))

pub there_string : (source : Source) (place : ℕ) → is_string source place ≡ true → IsString source place (text_at source place)
there_string source place is = string_by source place (slice_get source.marks place) refl is

-- argument lists
pub guarded : {A : Type 0} (b : Bool) (found : Option A) (x : A) → cond b found None ≡ Some x → (b ≡ true) × (found ≡ Some x)
guarded true found x e = (refl, e)
guarded false found x e = absurd (none-some x e)

module _ (source : Source) (left : ℕ) where
  close_by : (value : List ℕ) (right : ℕ) (b c : Bool) → spelled_at source left ≡ codes "(" → IsString source (left + 1) value
      → spells source (left + 2) (codes ")") ≡ b → (spells source (left + 2) (codes ",") && spells source (left + 3) (codes ")")) ≡ c
      → cond b (Some (left + 2)) (cond c (Some (left + 3)) None) ≡ Some right → TextArgument source left value right
  close_by value right true c begins s e f is =
      subst (TextArgument source left value) (same_Some (left + 2) right is) (TextArgument.plain begins s (is_so source (left + 2) (codes ")") e))
  close_by value right false true begins s e f is =
      let first = first_so (spells source (left + 2) (codes ",")) (spells source (left + 3) (codes ")")) f in
      let second = second_so (spells source (left + 2) (codes ",")) (spells source (left + 3) (codes ")")) f in
      subst (TextArgument source left value) (same_Some (left + 3) right is)
      (TextArgument.comma begins s (is_so source (left + 2) (codes ",") first) (is_so source (left + 3) (codes ")") second))
  close_by value right false false begins s e f is = absurd (none-some right is)

  -- what is found is an argument list
  pub argument_there : (right : ℕ) → argument_end source left ≡ Some right → TextArgument source left (text_at source (left + 1)) right
  argument_there right e =
      let found = guarded (spells source left (codes "(") && is_string source (left + 1)) (close_at source left) right e in
      let begins = first_so (spells source left (codes "(")) (is_string source (left + 1)) found.0 in
      let text = second_so (spells source left (codes "(")) (is_string source (left + 1)) found.0 in
      close_by (text_at source (left + 1)) right _ _ (is_so source left (codes "(") begins) (there_string source (left + 1) text) refl refl found.1

  -- an argument list is found, with its text
  pub there_argument : (value : List ℕ) (right : ℕ) → TextArgument source left value right
      → (argument_end source left ≡ Some right) × (text_at source (left + 1) ≡ value)
  there_argument value _ (TextArgument.plain begins s closes) =
      let text = string_there source (left + 1) value s in
      (rw (so source left (codes "(") begins, text.0, so source (left + 2) (codes ")") closes) refl, text.1)
  there_argument value _ (TextArgument.comma begins s comma closes) =
      let text = string_there source (left + 1) value s in
      let other : spells source (left + 2) (codes ")") ≡ false = ap (λ (word : List ℕ). bytes_eq word (codes ")")) comma in
      (rw (so source left (codes "(") begins, text.0, other, so source (left + 2) (codes ",") comma, so source (left + 3) (codes ")") closes) refl, text.1)

-- import() of a text
call_word : (source : Source) (place : ℕ) (there : Option Mark) → slice_get source.marks place ≡ there → is_call_word there ≡ true → HasRole source place is.ImportCall
call_word source place (Some (mark.Token is.ImportCall token)) e is_word = (token, e)
call_word source place _ e is_word = absurd (true≢false (sym is_word))

pub import_there : (source : Source) (place right : ℕ) → import_end source place ≡ Some right → ImportsText source place (text_at source (place + 1 + 1)) right
import_there source place right e =
    let found = guarded (is_call_word (slice_get source.marks place)) (argument_end source (place + 1)) right e in
    record { word = call_word source place (slice_get source.marks place) refl found.0; argument = argument_there source (place + 1) right found.1 }

pub there_import : (source : Source) (place : ℕ) (value : List ℕ) (right : ℕ) → ImportsText source place value right
    → (import_end source place ≡ Some right) × (text_at source (place + 1 + 1) ≡ value)
there_import source place value right i =
    let argument = there_argument source (place + 1) value right i.argument in
    (ap (λ (there : Option Mark). cond (is_call_word there) (argument_end source (place + 1)) None) i.word.1 ∙ argument.0, argument.1)

-- attributes
attributes_by : (source : Source) (request : ℕ) (there : Option Mark) → slice_get source.marks (request + 1) ≡ there → is_attributes there ≡ true
    → HasAttributes source request
attributes_by source request (Some (mark.Token is.Attributes token)) e is_with = (token, e)
attributes_by source request _ e is_with = absurd (true≢false (sym is_with))

pub has_attributes_is : (source : Source) (request : ℕ) → (has_attributes source request ≡ true) ↔ HasAttributes source request
has_attributes_is source request = (λ e. attributes_by source request (slice_get source.marks (request + 1)) refl e, λ h. ap is_attributes h.1)

pub has_no_pair_is : (source : Source) (request : ℕ) → (has_no_pair source request ≡ true) ↔ HasNoPair source request
has_no_pair_is source request = (
  λ e. (
    (has_attributes_is source request).0 (first_so (has_attributes source request) (spells source (request + 3) (codes "}")) e),
    is_so source (request + 3) (codes "}") (second_so (has_attributes source request) (spells source (request + 3) (codes "}")) e),
  ),
  λ h. both (has_attributes source request) (spells source (request + 3) (codes "}")) ((has_attributes_is source request).1 h.0) (so source (request + 3) (codes "}") h.1),
)

pub text_of_is : (source : Source) (place : ℕ) (value : List ℕ) → (is_text_of source place value ≡ true) ↔ IsString source place value
text_of_is source place value = (
  λ e. subst (IsString source place) ((bytes_eq-Decides (text_at source place) value).0 (second_so (is_string source place) (bytes_eq (text_at source place) value) e))
      (there_string source place (first_so (is_string source place) (bytes_eq (text_at source place) value) e)),
  λ s. let there = string_there source place value s in
      both (is_string source place) (bytes_eq (text_at source place) value) there.0 ((bytes_eq-Decides (text_at source place) value).1 there.1),
)

word_by : (source : Source) (place : ℕ) (value : List ℕ) (there : Option Mark) → slice_get source.marks place ≡ there → is_word_mark there ≡ true
    → name_at source place ≡ value → IsAttributeText source place value
word_by source place value (Some (mark.Token role token)) e is same = IsAttributeText.word role token e (word_kind token.kind is) same
word_by source place value _ e is same = absurd (true≢false (sym is))

pub key_of_is : (source : Source) (place : ℕ) (value : List ℕ) → (is_key_of source place value ≡ true) ↔ IsAttributeText source place value
key_of_is source place value = (
  λ e. ⊎_elim (λ text. IsAttributeText.text ((text_of_is source place value).0 text))
      (λ word. word_by source place value (slice_get source.marks place) refl (first_so (is_word source place) (bytes_eq (name_at source place) value) word)
      ((bytes_eq-Decides (name_at source place) value).0 (second_so (is_word source place) (bytes_eq (name_at source place) value) word)))
      (or_one (is_text_of source place value) (is_word_of source place value) e),
  λ h. key_by h,
)
  where
    key_by : IsAttributeText source place value → is_key_of source place value ≡ true
    key_by (IsAttributeText.text s) = or_first (is_text_of source place value) (is_word_of source place value) ((text_of_is source place value).1 s)
    key_by (IsAttributeText.word role token stands kind same) = or_second (is_text_of source place value) (is_word_of source place value)
        (both (is_word source place) (bytes_eq (name_at source place) value) (ap is_word_mark stands ∙ ap is_word_kind kind)
        ((bytes_eq-Decides (name_at source place) value).1 same))

module _ (source : Source) (request : ℕ) where
  pub closes_pairs_is : (closes_pairs source request ≡ true) ↔ ClosesPairs source (request + 6)
  closes_pairs_is = (
    λ e. ⊎_elim (λ closed. inl (is_so source (request + 6) (codes "}") closed))
        (λ comma. inr (
          is_so source (request + 6) (codes ",") (first_so (spells source (request + 6) (codes ",")) (spells source (request + 7) (codes "}")) comma),
          subst (λ p. spelled_at source p ≡ codes "}") (omega arith) (is_so source (request + 7) (codes "}") (second_so (spells source (request + 6) (codes ",")) (spells source (request + 7) (codes "}")) comma)),
        ))
        (or_one (spells source (request + 6) (codes "}")) (spells source (request + 6) (codes ",") && spells source (request + 7) (codes "}")) e),
    λ h. ⊎_elim (λ closed. or_first (spells source (request + 6) (codes "}")) (spells source (request + 6) (codes ",") && spells source (request + 7) (codes "}"))
        (so source (request + 6) (codes "}") closed))
        (λ comma. or_second (spells source (request + 6) (codes "}")) (spells source (request + 6) (codes ",") && spells source (request + 7) (codes "}"))
        (both (spells source (request + 6) (codes ",")) (spells source (request + 7) (codes "}")) (so source (request + 6) (codes ",") comma.0)
        (so source (request + 7) (codes "}") (subst (λ p. spelled_at source p ≡ codes "}") (omega arith) comma.1)))) h,
  )

  pub json_is : (asks_for_json source request ≡ true) ↔ AsksForJson source request
  json_is = (
    λ e. let rest = second_so (has_attributes source request) _ e in
        let further = second_so (closes_pairs source request) _ rest in
        record {
          attributes = (has_attributes_is source request).0 (first_so (has_attributes source request) _ e);
          key = (key_of_is source (request + 3) (codes "type")).0 (first_so (is_key_of source (request + 3) (codes "type")) _ further);
          value = (text_of_is source (request + 5) (codes "json")).0 (second_so (is_key_of source (request + 3) (codes "type")) _ further);
          one = closes_pairs_is.0 (first_so (closes_pairs source request) _ rest);
        },
    λ h. both (has_attributes source request) _ ((has_attributes_is source request).1 h.attributes)
        (both (closes_pairs source request) _ (closes_pairs_is.1 h.one)
        (both (is_key_of source (request + 3) (codes "type")) _ ((key_of_is source (request + 3) (codes "type")).1 h.key)
        ((text_of_is source (request + 5) (codes "json")).1 h.value))),
  )
