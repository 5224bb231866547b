-- What a module imports, and what it declares at its top.
use Rattle.std.specs.Prelude.{◌≡◌, ℕ, ◌+◌, ◌≤◌, List, Option, Some, None, IsSomeAnd, slice_get, codes}
use Rattle.es_tree.specs.declared.tokens.Token.{Token}
use Rattle.es_outline.specs.declared.mark.Mark.TheVariants as mark
use Rattle.es_outline.specs.declared.mark.Role.{Role}
use Rattle.es_outline.specs.declared.mark.Role.TheVariants as is
use Rattle.es_outline.specs.declared.mark.Part.TheVariants as part
use Rattle.pk_types.specs.declared.facts.ImportEntry.{ImportEntry}
use Rattle.pk_types.specs.declared.facts.Binding.{Binding}
use Rattle.pk_types.specs.declared.facts.BindKind.{BindKind}
use Rattle.pk_types.specs.declared.facts.BindKind.TheVariants as bind
use Rattle.es_scope.specs.declared.kinds.DeclarationKind.{DeclarationKind}
use Rattle.es_scope.specs.declared.kinds.DeclarationKind.TheVariants as kind
use Rattle.es_scope.specs.Parts.{IsDirectlyIn}
use Rattle.es_scope.specs.Source.{Source, IsMark, IsToken, HasRole, name_at}
use Rattle.es_scope.specs.Occurrences.{IsDeclared}
use Rattle.es_scope.specs.Scopes.{Declares, BelongsTo}
use Rattle.es_scope.specs.Known.{Known}
use Rattle.es_scope.specs.Asking.{RequestOf}

-- a token stands at the place that starts at this byte
abbrev pub StartsAt : Source → ℕ → ℕ → Type 0
StartsAt source place start = (role : Role) × (token : Token) × IsToken source place role token × (start ≡ token.start)

-- the request of this number is that of the declaration at the place
abbrev pub IsRequestOf : Source → Known → ℕ → ℕ → Type 0
IsRequestOf source known place number = IsSomeAnd (slice_get known.requests number) (RequestOf source place)

abbrev pub default : List ℕ
default = codes "default"

-- The name at the place is imported: the name that the other module exports, or none for its namespace, and the place where this is said.
pub data Imports (source : Source) (place : ℕ) : Option (List ℕ) → ℕ → Type 0 where
  same : (before : ℕ) → before + 1 ≡ place → HasRole source place is.Imported → IsMark source before mark.Shorthand → Imports source place (Some (name_at source place)) place
  renamed : (outer : ℕ) → outer + 2 ≡ place → HasRole source place is.Imported → HasRole source outer is.Outer
      → Imports source place (Some (name_at source outer)) outer
  by_default : HasRole source place is.ImportedDefault → Imports source place (Some default) place
  space : (star : ℕ) → star + 2 ≡ place → HasRole source place is.ImportedSpace → Imports source place None star

-- the import at the place is this entry
pub record IsImport (source : Source) (known : Known) (place : ℕ) (entry : ImportEntry) : Type 0 where
  pub said : ℕ
  pub imports : Imports source place entry.name said
  pub starts : StartsAt source said entry.place
  pub request : IsRequestOf source known place entry.request

-- a declaration of the top that is no import, as bindings tell it
pub data IsBindKind : DeclarationKind → BindKind → Type 0 where
  var : IsBindKind kind.Var bind.Var
  «let» : IsBindKind kind.Let bind.Let
  const : IsBindKind kind.Const bind.Const
  class : IsBindKind kind.Class bind.Class
  function : IsBindKind kind.Function bind.Function

-- the name of what `export default` exports without a name
abbrev pub default_binding : List ℕ
default_binding = codes "__webpack_default"

-- an `export default` begins at `opening`, whose second word stands at the place
pub record IsDefault (source : Source) (opening place : ℕ) : Type 0 where
  pub begins : IsMark source opening (mark.Begin part.ExportDefault)
  pub place_is : place ≡ opening + 2

-- it exports an expression; or a function or a class that has no name
abbrev pub ExportsValue : Source → ℕ → Type 0
ExportsValue source opening = IsMark source (opening + 3) (mark.Begin part.ExportedValue)

-- the mark that its function or class has no name stands here
pub record IsUnnamed (source : Source) (opening unnamed : ℕ) : Type 0 where
  pub stands : IsMark source unnamed mark.Unnamed
  pub within : IsDirectlyIn source.marks unnamed part.ExportDefault opening

-- what an `export default` binds without a name
pub data BindsUnnamed (source : Source) (place : ℕ) : BindKind → Type 0 where
  value : (opening : ℕ) → IsDefault source opening place → ExportsValue source opening → BindsUnnamed source place bind.Const
  class : (opening at : ℕ) → IsDefault source opening place → IsUnnamed source opening at → IsMark source (at + 1) (mark.Begin part.Class)
      → BindsUnnamed source place bind.Class
  function : (opening at : ℕ) → IsDefault source opening place → IsUnnamed source opening at → IsMark source (at + 1) (mark.Begin part.Function)
      → BindsUnnamed source place bind.Function

-- the place declares a name at the top, not an import, and none before it declares the same
pub record DeclaresOwn (source : Source) (place : ℕ) (how : BindKind) : Type 0 where
  pub manner : DeclarationKind
  pub declared : IsDeclared source place manner
  pub kind_is : IsBindKind manner how
  pub belongs : BelongsTo source place 0
  pub first : (other : ℕ) → Declares source 0 (name_at source place) other → place ≤ other

-- the binding that stands at the place
pub data IsBinding (source : Source) (place : ℕ) : Binding → Type 0 where
  named : (how : BindKind) → DeclaresOwn source place how → IsBinding source place (record { name = name_at source place; kind = how })
  unnamed : (how : BindKind) → BindsUnnamed source place how → IsBinding source place (record { name = default_binding; kind = how })
