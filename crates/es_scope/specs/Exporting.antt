-- What a module exports, under which names, and which exports are faults.
use Rattle.std.specs.Prelude.{◌≡◌, ℕ, ◌+◌, ◌<◌, List, Option, Some, None}
use Rattle.es_outline.specs.declared.mark.Mark.TheVariants as mark
use Rattle.es_outline.specs.declared.mark.Role.TheVariants as is
use Rattle.es_outline.specs.declared.mark.Part.TheVariants as part
use Rattle.pk_types.specs.declared.facts.ExportEntry.{ExportEntry}
use Rattle.pk_types.specs.declared.facts.BindKind.{BindKind}
use Rattle.pk_types.specs.declared.facts.Origin.{Origin}
use Rattle.pk_types.specs.declared.facts.Origin.TheVariants.{Own, Other, Space}
use Rattle.es_scope.specs.declared.kinds.DeclarationKind.{DeclarationKind}
use Rattle.es_scope.specs.Parts.{IsDirectlyIn}
use Rattle.es_scope.specs.Source.{Source, IsMark, HasRole, name_at}
use Rattle.es_scope.specs.Occurrences.{IsDeclared, BoundBy, ExportsFrom}
use Rattle.es_scope.specs.Scopes.{Declares}
use Rattle.es_scope.specs.Refers.{Refers}
use Rattle.es_scope.specs.Known.{Known, IsBindingNamed}
use Rattle.es_scope.specs.Declaring.{StartsAt, IsRequestOf, Imports, IsDefault, BindsUnnamed, default, default_binding}

-- the name by which the specifier at the place exports
pub data ExportedAs (source : Source) (place : ℕ) : List ℕ → Type 0 where
  same : ¬ HasRole source (place + 2) is.Outer → ExportedAs source place (name_at source place)
  renamed : HasRole source (place + 2) is.Outer → ExportedAs source place (name_at source (place + 2))

-- the `*` of an `export * as` stands at the place, and the name behind it
pub record ExportsSpace (source : Source) (place : ℕ) : Type 0 where
  pub opening : ℕ
  pub begins : IsMark source opening (mark.Begin part.ExportStar)
  pub place_is : place ≡ opening + 2
  pub named : HasRole source (place + 2) is.Outer

-- the `*` of an `export * from` stands at the place
pub record ExportsAll (source : Source) (place : ℕ) : Type 0 where
  pub opening : ℕ
  pub begins : IsMark source opening (mark.Begin part.ExportStar)
  pub place_is : place ≡ opening + 2
  pub unnamed : ¬ HasRole source (place + 2) is.Outer

-- The place declares a name in an exported declaration: by `var`, `let` or `const` right behind `export`, or as its function or class.
pub data ExportsDeclared (source : Source) (place : ℕ) : Type 0 where
  by_word : (opening : ℕ) → IsMark source opening (mark.Begin part.ExportedDeclaration) → HasRole source place is.Bound
      → BoundBy source place part.Declaration (opening + 2) → ExportsDeclared source place
  other : (opening : ℕ) (how : DeclarationKind) → IsDeclared source place how → IsDirectlyIn source.marks place part.ExportedDeclaration opening
      → ExportsDeclared source place

-- the place exports by this name
pub data ExportsName (source : Source) (place : ℕ) : List ℕ → Type 0 where
  listed : (name : List ℕ) → HasRole source place is.Exported → ExportedAs source place name → ExportsName source place name
  space : ExportsSpace source place → ExportsName source place (name_at source (place + 2))
  declared : ExportsDeclared source place → ExportsName source place (name_at source place)
  by_default : (opening : ℕ) → IsDefault source opening place → ExportsName source place default

-- what is exported: what the top declares at a place, a name of the module that is asked for, its namespace, or what has no name
pub data Exportable : Type 0 where
  declared : ℕ → Exportable
  foreign : List ℕ → Exportable
  space : Exportable
  unnamed : Exportable

-- the place exports this
pub data ExportsWhat (source : Source) (place : ℕ) : Exportable → Type 0 where
  own : (declaration : ℕ) → HasRole source place is.Exported → ¬ ExportsFrom source place → Refers source place 0 declaration
      → ExportsWhat source place (Exportable.declared declaration)
  foreign : HasRole source place is.Exported → ExportsFrom source place → ExportsWhat source place (Exportable.foreign (name_at source place))
  space : ExportsSpace source place → ExportsWhat source place Exportable.space
  declared : (declaration : ℕ) → ExportsDeclared source place → Refers source place 0 declaration → ExportsWhat source place (Exportable.declared declaration)
  by_default : (opening at declaration : ℕ) (how : DeclarationKind) → IsDefault source opening place → IsDeclared source at how
      → IsDirectlyIn source.marks at part.ExportDefault opening → Refers source at 0 declaration
      → ExportsWhat source place (Exportable.declared declaration)
  unnamed : (how : BindKind) → BindsUnnamed source place how → ExportsWhat source place Exportable.unnamed

-- what the place exports comes from here; an import that is exported again comes from where it is imported from
pub data ComesFrom (source : Source) (known : Known) (place : ℕ) : Exportable → Origin → Type 0 where
  own : (declaration number : ℕ) → ((name : Option (List ℕ)) (said : ℕ) → ¬ Imports source declaration name said)
      → IsBindingNamed known number (name_at source declaration) → ComesFrom source known place (Exportable.declared declaration) (Own number)
  imported : (declaration said request : ℕ) (name : List ℕ) → Imports source declaration (Some name) said → IsRequestOf source known declaration request
      → ComesFrom source known place (Exportable.declared declaration) (Other request name)
  imported_space : (declaration said request : ℕ) → Imports source declaration None said → IsRequestOf source known declaration request
      → ComesFrom source known place (Exportable.declared declaration) (Space request)
  foreign : (request : ℕ) (name : List ℕ) → IsRequestOf source known place request → ComesFrom source known place (Exportable.foreign name) (Other request name)
  space : (request : ℕ) → IsRequestOf source known place request → ComesFrom source known place Exportable.space (Space request)
  unnamed : (number : ℕ) → IsBindingNamed known number default_binding → ComesFrom source known place Exportable.unnamed (Own number)

-- the export that stands at the place
pub record IsExport (source : Source) (known : Known) (place : ℕ) (entry : ExportEntry) : Type 0 where
  pub what : Exportable
  pub named : ExportsName source place entry.name
  pub exports : ExportsWhat source place what
  pub origin : ComesFrom source known place what entry.origin
  pub starts : StartsAt source place entry.place

-- a place before exports by the same name
pub record IsExportedTwice (source : Source) (place : ℕ) : Type 0 where
  pub earlier : ℕ
  pub name : List ℕ
  pub before : earlier < place
  pub here : ExportsName source place name
  pub there : ExportsName source earlier name

-- the list exports a name that the top doesn't declare
pub record ExportsUndeclared (source : Source) (place : ℕ) : Type 0 where
  pub exported : HasRole source place is.Exported
  pub own : ¬ ExportsFrom source place
  pub undeclared : (declaration : ℕ) → ¬ Declares source 0 (name_at source place) declaration
