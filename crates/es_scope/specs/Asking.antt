-- What a module asks for: by declarations, by `import()`, and in CommonJS by `require()`.
use Rattle.std.specs.Prelude.{◌≡◌, ◌⊎◌, ℕ, ◌+◌, ◌<◌, true, false, List, codes}
use Rattle.es_tree.specs.declared.tokens.Token.{Token}
use Rattle.es_tree.specs.declared.tokens.TokenKind.TheVariants as token_kind
use Rattle.es_tree.specs.declared.tokens.ProgramGoal.TheVariants.{Script}
use Rattle.es_tree.specs.Names.{string_value}
use Rattle.es_grammar.specs.Reading.{spelled}
use Rattle.es_outline.specs.declared.mark.Mark.TheVariants as mark
use Rattle.es_outline.specs.declared.mark.Role.{Role}
use Rattle.es_outline.specs.declared.mark.Role.TheVariants as is
use Rattle.es_outline.specs.declared.mark.Part.{Part}
use Rattle.pk_types.specs.declared.form.Form.TheVariants as form
use Rattle.pk_types.specs.declared.facts.Request.{Request}
use Rattle.es_scope.specs.Parts.{IsDirectlyIn}
use Rattle.es_scope.specs.Source.{Source, IsMark, IsToken, HasRole, spelled_at, name_at}
use Rattle.es_scope.specs.Refers.{IsFreeNamed}

-- a StringLiteral of this value stands at the place
pub record IsString (source : Source) (place : ℕ) (value : List ℕ) : Type 0 where
  pub role : Role
  pub token : Token
  pub stands : IsToken source place role token
  pub kind : token.kind ≡ token_kind.String
  pub spells : string_value (spelled source.text token) ≡ value

-- from the place on stands an argument list of one StringLiteral, up to its `)`
pub data TextArgument (source : Source) (left : ℕ) (value : List ℕ) : ℕ → Type 0 where
  plain : spelled_at source left ≡ codes "(" → IsString source (left + 1) value → spelled_at source (left + 2) ≡ codes ")"
      → TextArgument source left value (left + 2)
  comma : spelled_at source left ≡ codes "(" → IsString source (left + 1) value → spelled_at source (left + 2) ≡ codes ","
      → spelled_at source (left + 3) ≡ codes ")" → TextArgument source left value (left + 3)

-- an `import()` of a text, up to its `)`
pub record ImportsText (source : Source) (place : ℕ) (value : List ℕ) (right : ℕ) : Type 0 where
  pub word : HasRole source place is.ImportCall
  pub argument : TextArgument source (place + 1) value right

abbrev pub require : List ℕ
require = codes "require"

-- a call of a free `require` with a text, up to its `)`
pub record CallsRequire (source : Source) (place : ℕ) (value : List ℕ) (right : ℕ) : Type 0 where
  pub free : IsFreeNamed source place require
  pub call : IsMark source (place + 1) mark.Call
  pub argument : TextArgument source (place + 2) value right

-- a key or a value of an import attribute: a word or a text
pub data IsAttributeText (source : Source) (place : ℕ) (value : List ℕ) : Type 0 where
  text : IsString source place value → IsAttributeText source place value
  word : (role : Role) (token : Token) → IsToken source place role token → token.kind ≡ token_kind.IdName → name_at source place ≡ value
      → IsAttributeText source place value

-- the request has attributes
abbrev pub HasAttributes : Source → ℕ → Type 0
HasAttributes source request = HasRole source (request + 1) is.Attributes

abbrev pub HasNoPair : Source → ℕ → Type 0
HasNoPair source request = HasAttributes source request × (spelled_at source (request + 3) ≡ codes "}")

-- the place closes attributes, maybe behind a comma
abbrev pub ClosesPairs : Source → ℕ → Type 0
ClosesPairs source place =
    (spelled_at source place ≡ codes "}") ⊎ ((spelled_at source place ≡ codes ",") × (spelled_at source (place + 1) ≡ codes "}"))

-- the attributes of the request are the one pair `type: "json"`
pub record AsksForJson (source : Source) (request : ℕ) : Type 0 where
  pub attributes : HasAttributes source request
  pub key : IsAttributeText source (request + 3) (codes "type")
  pub value : IsString source (request + 5) (codes "json")
  pub one : ClosesPairs source (request + 6)

-- the request at the place, of a declaration or a call
pub data AsksFor (source : Source) (place : ℕ) : Request → Type 0 where
  declared : (value : List ℕ) → HasRole source place is.Request → IsString source place value → ¬ AsksForJson source place
      → AsksFor source place (record { text = value; form = form.Import; json = false })
  json : (value : List ℕ) → HasRole source place is.Request → IsString source place value → AsksForJson source place
      → AsksFor source place (record { text = value; form = form.Import; json = true })
  imported : (value : List ℕ) (right : ℕ) → ImportsText source place value right
      → AsksFor source place (record { text = value; form = form.Import; json = false })
  required : (value : List ℕ) (right : ℕ) → source.goal ≡ Script → CallsRequire source place value right
      → AsksFor source place (record { text = value; form = form.Require; json = false })

-- the same, where none before it asks for the same
pub record AsksFirst (source : Source) (place : ℕ) (request : Request) : Type 0 where
  pub asks : AsksFor source place request
  pub first : (other : ℕ) → AsksFor source other request → place < other ⊎ (place ≡ other)

-- the request of the declaration that the place stands directly in
pub record RequestOf (source : Source) (place : ℕ) (request : Request) : Type 0 where
  pub which : Part
  pub opening : ℕ
  pub at : ℕ
  pub here : IsDirectlyIn source.marks place which opening
  pub there : IsDirectlyIn source.marks at which opening
  pub is_request : HasRole source at is.Request
  pub asks : AsksFor source at request
