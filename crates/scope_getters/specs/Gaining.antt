-- How a set grows. Only private clauses cite this.
use Rattle.std.specs.Prelude.{◌≡◌, ◌≢◌, ◌↔◌, ◌⊎◌, ℕ, ◌<◌, Bool, true, List, [], ◌∷◌, ◌++◌, Option, Some, None, length, flat_map, slice_get}
use Rattle.std.specs.List.{Contains}
use Rattle.pk_types.specs.declared.found.Found.{Found}
use Rattle.pk_types.specs.declared.found.Found.TheVariants as found
use Rattle.pk_types.specs.declared.graph.Graph.{Graph}
use Rattle.pk_types.specs.declared.graph.Row.{Row}
use Rattle.pk_types.specs.declared.plan.Active.{Active}
use Rattle.pk_types.specs.declared.plan.Used.{Used}
use Rattle.pk_types.specs.HoistSets.{set_of, IsReachedModule}
use Rattle.pk_types.specs.Reexports.{FindsOne}
use Rattle.emit_body.specs.declared.getters.Getter.{Getter}
use Rattle.emit_body.specs.declared.getters.ScopeGetters.{ScopeGetters}
use Rattle.module_spelling.specs.Spelled.{SpellsName}
use Rattle.prune_graph.specs.Meeting.{IsCalled}
use Rattle.prune_graph.specs.Gathering.{IsNamed}
use Rattle.prune_graph.specs.declared.through.Through.{Through}
use Rattle.module_spelling.specs.Layout.{Layout, root_of}
use Rattle.scope_getters.specs.Scopes.{Cell, HasSpace, IsOfOther, SpellsAtSite, SpellsInSpace, AreGetters, module_variables, module_cells}

-- exactly these are there beside what was
pub record Gains {X : Type 0} (old : List X) (IsNew : X → Type 0) (new : List X) : Type 0 where
  pub each : (x : X) → Contains new x ↔ (Contains old x ⊎ IsNew x)

-- true of one of the first numbers
abbrev pub Below : {X : Type 0} → ℕ → (ℕ → X → Type 0) → X → Type 0
Below count Is x = (number : ℕ) × (number < count) × Is number x

-- the module is reached and calls for the target
abbrev pub CallsFor : Graph → Active → ℕ → ℕ → Type 0
CallsFor graph active from target = (row : Row) × IsReachedModule active from × (slice_get graph.rows from ≡ Some row) × IsCalled row target

-- the modules that reached modules call for
pub record AreCalled (graph : Graph) (active : Active) (called : List ℕ) : Type 0 where
  pub each : (target : ℕ) → Contains called target ↔ ((from : ℕ) × CallsFor graph active from target)

-- what is found is the binding, which is of another set
abbrev pub IsOther : Layout → ℕ → Found → Cell → Type 0
IsOther layout from one cell = (one ≡ found.Binding cell.0 cell.1) × (root_of layout from ≢ root_of layout cell.0)

-- the name at a place of the list stands for it
abbrev pub IsOfName : Layout → ℕ → ℕ → List (List ℕ) → ℕ → Cell → Type 0
IsOfName layout from target names place cell = (name : List ℕ) × (slice_get names place ≡ Some name) × IsOfOther layout from target name cell

-- one of the names does
abbrev pub IsOfNames : Layout → ℕ → ℕ → List (List ℕ) → Cell → Type 0
IsOfNames layout from target names cell = (name : List ℕ) × Contains names name × IsOfOther layout from target name cell

-- a name that goes through the request stands for it
abbrev pub IsOfRequest : Layout → ℕ → Through → List ℕ → ℕ → Cell → Type 0
IsOfRequest layout from through targets request cell = (target : ℕ) × (name : List ℕ) × (slice_get targets request ≡ Some target)
    × IsNamed through request name × IsOfOther layout from target name cell

-- the module is reached, and a site of it spells the binding
abbrev pub IsOfModule : Layout → Active → ℕ → Cell → Type 0
IsOfModule layout active from cell = (row : Row) × IsReachedModule active from × (slice_get layout.graph.rows from ≡ Some row) × SpellsAtSite layout from row cell

-- for each module whether its namespace has a list
pub record AreSpaces (layout : Layout) (active : Active) (used : Used) (spaces : List Bool) : Type 0 where
  pub each : length spaces ≡ length layout.graph.rows
  pub listed : (root : ℕ) → (slice_get spaces root ≡ Some true) ↔ HasSpace layout active used root

-- the namespace of the root has a list, and a name of it is spelled as the binding
abbrev pub IsOfSpace : Layout → List Bool → ℕ → Cell → Type 0
IsOfSpace layout spaces root cell = (slice_get spaces root ≡ Some true) × SpellsInSpace layout root cell

-- the bindings that are spelled in another scope, at a site or in the list of a namespace
pub record AreCells (layout : Layout) (active : Active) (spaces : List Bool) (cells : List Cell) : Type 0 where
  pub each : (cell : Cell) → Contains cells cell
      ↔ (Below (length layout.graph.rows) (IsOfModule layout active) cell ⊎ Below (length layout.graph.rows) (IsOfSpace layout spaces) cell)

-- ---- getters

-- the name leads to one thing
abbrev pub FindsSome : Graph → ℕ → List ℕ → Type 0
FindsSome graph number name = (one : Found) × FindsOne graph number name one

pub record IsGetter (layout : Layout) (root : ℕ) (name : List ℕ) (getter : Getter) : Type 0 where
  pub named : getter.name ≡ name
  pub finds : FindsSome layout.graph root name
  pub spelled : SpellsName layout root root getter.name getter.spelling

-- the getter of the name was added, or it leads to no one thing
abbrev pub AddsGetter : Layout → ℕ → List ℕ → List Getter → List Getter → Type 0
AddsGetter layout root name old new = ((getter : Getter) × IsGetter layout root name getter × (new ≡ old ++ getter ∷ []))
    ⊎ ((¬ FindsSome layout.graph root name) × (new ≡ old))

-- there are getters exactly where there is a list
abbrev pub AreListed : Layout → List Bool → ℕ → Option (List Getter) → Type 0
AreListed layout spaces root None = slice_get spaces root ≢ Some true
AreListed layout spaces root (Some getters) = (slice_get spaces root ≡ Some true) × AreGetters layout root getters

-- the lists of the scope of a root
pub record IsListed (layout : Layout) (spaces : List Bool) (cells : List Cell) (root : ℕ) (scope : ScopeGetters) : Type 0 where
  pub variables : scope.variables ≡ flat_map (module_variables layout) (set_of layout.roots root)
  pub cells_are : scope.cells ≡ flat_map (module_cells layout cells) (set_of layout.roots root)
  pub space : AreListed layout spaces root scope.space
