-- A text with its outline, and what stands at the places of the outline.
use Rattle.std.specs.Prelude.{◌≡◌, ℕ, List, [], Option, Some, None, slice_get}
use Rattle.es_tree.specs.declared.tokens.Token.{Token}
use Rattle.es_tree.specs.declared.tokens.ProgramGoal.{ProgramGoal}
use Rattle.es_tree.specs.Names.{name_of}
use Rattle.es_grammar.specs.Reading.{Bytes, spelled}
use Rattle.es_outline.specs.declared.mark.Mark.{Mark}
use Rattle.es_outline.specs.declared.mark.Mark.TheVariants as mark
use Rattle.es_outline.specs.declared.mark.Role.{Role}
use Rattle.es_outline.specs.Outline.{Marks}

-- a text, the goal at which it was read, and the marks of its outline
pub record Source : Type 0 where
  pub text : Bytes
  pub goal : ProgramGoal
  pub marks : Marks

-- this mark stands at the place
abbrev pub IsMark : Source → ℕ → Mark → Type 0
IsMark source place one_mark = slice_get source.marks place ≡ Some one_mark

-- this token stands at the place, and is this there
abbrev pub IsToken : Source → ℕ → Role → Token → Type 0
IsToken source place role token = IsMark source place (mark.Token role token)

-- a token that is this stands at the place
abbrev pub HasRole : Source → ℕ → Role → Type 0
HasRole source place role = (token : Token) × IsToken source place role token

abbrev pub token_of : Option Mark → Option Token
token_of (Some (mark.Token role token)) = Some token
token_of _ = None

abbrev pub spelled_token : Bytes → Option Token → List ℕ
spelled_token text (Some token) = spelled text token
spelled_token text None = []

-- how the token at the place is spelled; nothing where a mark of another kind stands
abbrev pub spelled_at : Source → ℕ → List ℕ
spelled_at source place = spelled_token source.text (token_of (slice_get source.marks place))

-- the name that the token at the place spells
abbrev pub name_at : Source → ℕ → List ℕ
name_at source place = name_of (spelled_at source place)
