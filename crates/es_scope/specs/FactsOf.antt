-- The facts of a script or a module: each list has what stands at places, in the order of places, or the names that are so, in byte order.
use Rattle.std.specs.Prelude.{◌≡◌, ◌≢◌, ◌↔◌, ℕ, ◌+◌, ◌≤◌, List, Some, slice_get}
use Rattle.std.specs.List.{Contains}
use Rattle.es_tree.specs.declared.tokens.ProgramGoal.{ProgramGoal}
use Rattle.es_tree.specs.declared.tokens.ProgramGoal.TheVariants.{Script, Module}
use Rattle.es_outline.specs.declared.mark.Role.TheVariants as is
use Rattle.pk_types.specs.declared.facts.Kind.{Kind}
use Rattle.pk_types.specs.declared.facts.Kind.TheVariants.{Es, Cjs}
use Rattle.pk_types.specs.declared.facts.Request.{Request}
use Rattle.pk_types.specs.declared.facts.Facts.{Facts}
use Rattle.pk_types.specs.ExportedNames.{AreInByteOrder}
use Rattle.es_scope.specs.Source.{Source, HasRole}
use Rattle.es_scope.specs.Scopes.{Declares, BelongsTo}
use Rattle.es_scope.specs.Refers.{IsFreeNamed}
use Rattle.es_scope.specs.Known.{Known, known_of}
use Rattle.es_scope.specs.Listed.{AreThose}
use Rattle.es_scope.specs.Asking.{AsksFor, AsksFirst}
use Rattle.es_scope.specs.Declaring.{IsImport, IsBinding, IsRequestOf}
use Rattle.es_scope.specs.Exporting.{IsExport, ExportsAll}
use Rattle.es_scope.specs.SiteRules.{IsSite}

abbrev pub kind_of : ProgramGoal → Kind
kind_of Script = Cjs
kind_of Module = Es

-- the declaration at the place asks by the request of this number, and none before it does
pub record IsOrdered (source : Source) (requests : List Request) (place number : ℕ) : Type 0 where
  pub request : Request
  pub has_number : slice_get requests number ≡ Some request
  pub is_request : HasRole source place is.Request
  pub asks : AsksFor source place request
  pub first : (other : ℕ) → HasRole source other is.Request → AsksFor source other request → place ≤ other

-- the `export * from` at the place has the request of this number
pub record IsStar (source : Source) (known : Known) (place number : ℕ) : Type 0 where
  pub all : ExportsAll source place
  pub request : IsRequestOf source known place number

-- a free occurrence in the text has this name
abbrev pub IsUsedFree : Source → List ℕ → Type 0
IsUsedFree source name = (place : ℕ) × HasRole source place is.Reference × IsFreeNamed source place name

-- the scope holds the name of a class that is declared at the top
abbrev pub IsTopClass : Source → ℕ → Type 0
IsTopClass source scope = (place : ℕ) × HasRole source place is.ClassName × BelongsTo source place 0 × (place + 2 ≡ scope)

-- a scope declares the name that is not the top, nor holds the name of a class of the top
pub record IsInner (source : Source) (name : List ℕ) : Type 0 where
  pub scope : ℕ
  pub place : ℕ
  pub declares : Declares source scope name place
  pub inner : scope ≢ 0
  pub other : ¬ IsTopClass source scope

pub record AreFacts (source : Source) (facts : Facts) : Type 0 where
  pub kind : facts.kind ≡ kind_of source.goal
  pub requests : AreThose (AsksFirst source) facts.requests
  pub order : AreThose (IsOrdered source facts.requests) facts.order
  pub imports : AreThose (IsImport source (known_of facts)) facts.imports
  pub exports : AreThose (IsExport source (known_of facts)) facts.exports
  pub stars : AreThose (IsStar source (known_of facts)) facts.stars
  pub bindings : AreThose (IsBinding source) facts.bindings
  pub sites : AreThose (IsSite source (known_of facts)) facts.sites
  pub free : (name : List ℕ) → Contains facts.free name ↔ IsUsedFree source name
  pub inner : (name : List ℕ) → Contains facts.inner name ↔ IsInner source name
  pub free_order : AreInByteOrder facts.free
  pub inner_order : AreInByteOrder facts.inner
