-- Where a semicolon may be left out, and where an expression and an item are closed (ECMA-262, clause 12.10).
use Rattle.std.specs.Prelude.{◌≡◌, ℕ, Bool, true, false, not, ◌||◌, ◌&&◌, List, [], ◌∷◌, ◌++◌, Option, Some, None, codes}
use Rattle.std.specs.List.{list_any}
use Rattle.std.specs.Str.{bytes_eq}
use Rattle.es_tree.specs.declared.tokens.Token.{Token}
use Rattle.es_tree.specs.declared.tokens.TokenKind.{TokenKind}
use Rattle.es_tree.specs.declared.tokens.TokenKind.TheVariants as kind
use Rattle.es_tree.specs.declared.tokens.Goal.TheVariants.{Operand, Operator}
use Rattle.es_grammar.specs.declared.places.Ending.{Ending}
use Rattle.es_grammar.specs.declared.places.Ending.TheVariants as ended
use Rattle.es_grammar.specs.declared.places.Stop.{Stop}
use Rattle.es_grammar.specs.Reading.{Bytes, spelled, IsAt, MarkAt, WordAt}

-- the words of `Ending`
abbrev pub block_arrow : Ending
block_arrow = ended.BlockArrow

abbrev pub postfix : Ending
postfix = ended.Postfix

abbrev pub expression : Ending
expression = ended.Expression

abbrev pub declared_name : Ending
declared_name = ended.DeclaredName

abbrev pub exported_names : Ending
exported_names = ended.ExportedNames

abbrev pub request : Ending
request = ended.Request

abbrev pub field_key : Ending
field_key = ended.FieldKey

abbrev pub accessor_key : Ending
accessor_key = ended.AccessorKey

abbrev pub static_key : Ending
static_key = ended.StaticKey

abbrev pub other : Ending
other = ended.Other

abbrev pub stop : ℕ → Ending → Stop
stop at ending = record { at = at; ending = ending }

unfoldable pub binary_marks : List (List ℕ)
binary_marks =
    codes "??" ∷ codes "||" ∷ codes "&&" ∷ codes "|" ∷ codes "^" ∷ codes "&" ∷ codes "==" ∷ codes "!=" ∷ codes "===" ∷ codes "!==" ∷ codes "<" ∷ codes ">"
    ∷ codes "<=" ∷ codes ">=" ∷ codes "<<" ∷ codes ">>" ∷ codes ">>>" ∷ codes "+" ∷ codes "-" ∷ codes "*" ∷ codes "/" ∷ codes "%" ∷ codes "**" ∷ []

unfoldable pub binary_words : List (List ℕ)
binary_words = codes "in" ∷ codes "instanceof" ∷ []

unfoldable pub assignment_marks : List (List ℕ)
assignment_marks =
    codes "*=" ∷ codes "/=" ∷ codes "%=" ∷ codes "+=" ∷ codes "-=" ∷ codes "<<=" ∷ codes ">>=" ∷ codes ">>>=" ∷ codes "&=" ∷ codes "^=" ∷ codes "|="
    ∷ codes "**=" ∷ codes "&&=" ∷ codes "||=" ∷ codes "??=" ∷ []

-- the punctuators that go on with what ended
abbrev pub marks_behind : Ending → List (List ℕ)
marks_behind ended.BlockArrow = codes "," ∷ []
marks_behind ended.Postfix = codes "," ∷ codes "?" ∷ binary_marks
marks_behind ended.Expression = codes "," ∷ codes "?" ∷ codes "=" ∷ codes "." ∷ codes "?." ∷ codes "(" ∷ codes "[" ∷ (binary_marks ++ assignment_marks)
marks_behind ended.DeclaredName = codes "=" ∷ codes "," ∷ []
marks_behind ended.FieldKey = codes "=" ∷ codes "(" ∷ []
marks_behind ended.AccessorKey = codes "=" ∷ codes "(" ∷ codes "[" ∷ []
marks_behind ended.StaticKey = codes "=" ∷ codes "(" ∷ codes "[" ∷ codes "*" ∷ codes "{" ∷ []
marks_behind _ = []

abbrev pub words_behind : Ending → List (List ℕ)
words_behind ended.Postfix = binary_words
words_behind ended.Expression = binary_words
words_behind ended.ExportedNames = codes "from" ∷ []
words_behind ended.Request = codes "with" ∷ []
words_behind _ = []

-- a key goes on with `get`, `set` and `static`
abbrev pub takes_key : Ending → Bool
takes_key ended.AccessorKey = true
takes_key ended.StaticKey = true
takes_key _ = false

-- a template goes on with an expression
abbrev pub takes_template : Ending → Bool
takes_template ended.Expression = true
takes_template _ = false

-- a token with this spelling goes on with what ended
abbrev pub continues : Ending → TokenKind → List ℕ → Bool
continues ending kind.IdName word = list_any (bytes_eq word) (words_behind ending) || takes_key ending
continues ending kind.Private word = takes_key ending
continues ending kind.Number word = takes_key ending
continues ending kind.String word = takes_key ending
continues ending kind.Template word = takes_template ending
continues ending kind.Regex word = false
continues ending kind.Punctuator word = list_any (bytes_eq word) (marks_behind ending)
continues ending kind.End word = false

-- a closing mark, or the end of the text
abbrev pub closes : List (List ℕ) → TokenKind → List ℕ → Bool
closes marks kind.Punctuator word = list_any (bytes_eq word) marks
closes marks kind.End word = true
closes marks _ word = false

-- on a new line, and not going on
abbrev pub is_fresh : Bytes → Ending → Token → Bool
is_fresh text ending token = token.newline && not (continues ending token.kind (spelled text token))

-- A semicolon stands wherever the next token is one. It may be left out before `}`, at the end, and before a token on a new line that doesn't go on.
pub data SemiAt (text : Bytes) (s : Stop) : Option Token → ℕ → Type 0 where
  written : (token : Token) → MarkAt text Operator (codes ";") s.at token → SemiAt text s (Some token) token.end
  left_out : (token : Token) → IsAt text Operator s.at token → (MarkAt text Operator (codes ";") s.at token → ⊥)
      → closes (codes "}" ∷ []) token.kind (spelled text token) || is_fresh text s.ending token ≡ true → SemiAt text s None s.at

-- behind `do .. while ( .. )` it may always be left out
pub data FreeSemiAt (text : Bytes) (at : ℕ) : Option Token → ℕ → Type 0 where
  written : (token : Token) → MarkAt text Operator (codes ";") at token → FreeSemiAt text at (Some token) token.end
  left_out : ((token : Token) → MarkAt text Operator (codes ";") at token → ⊥) → FreeSemiAt text at None at

-- an expression ends where the end of the text or a closing mark follows, or a token on a new line that doesn't go on
pub record IsClosed (text : Bytes) (s : Stop) : Type 0 where
  pub next : Token
  pub read : IsAt text Operator s.at next
  pub closed : closes (codes ")" ∷ codes "]" ∷ codes "}" ∷ codes ":" ∷ codes ";" ∷ []) next.kind (spelled text next) || is_fresh text s.ending next ≡ true

-- no token behind an item belongs to it
pub record IsClosedItem (text : Bytes) (at : ℕ) : Type 0 where
  pub no_else : (token : Token) → WordAt text Operand (codes "else") at token → ⊥
  pub no_catch : (token : Token) → WordAt text Operand (codes "catch") at token → ⊥
  pub no_finally : (token : Token) → WordAt text Operand (codes "finally") at token → ⊥
  pub no_colon : (token : Token) → MarkAt text Operand (codes ":") at token → ⊥
