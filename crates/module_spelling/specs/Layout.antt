-- How the modules of a graph share scopes, and how they and their bindings are called in a bundle.
use Rattle.std.specs.Prelude.{◌≡◌, ℕ, ◌<◌, List, [], Some, length, slice_get, slice_index, slice_index_or}
use Rattle.pk_types.specs.declared.graph.Graph.{Graph}
use Rattle.pk_types.specs.declared.graph.Row.{Row}
use Rattle.pk_types.specs.declared.found.Found.{Found}
use Rattle.pk_types.specs.declared.found.Found.TheVariants.{Binding, Namespace, Foreign, Nothing, Ambiguous}
use Rattle.pk_types.specs.Fitting.{Fits}
use Rattle.pk_types.specs.Places.{ArePlacesIn}

-- for each module the root of its set, the names that its bindings have in the bundle, and its id
pub record Layout : Type 0 where
  pub graph : Graph
  pub roots : List ℕ
  pub names : List (List (List ℕ))
  pub ids : List ℕ

abbrev pub root_of : Layout → ℕ → ℕ
root_of layout number = slice_index layout.roots number

abbrev pub id_of : Layout → ℕ → ℕ
id_of layout number = slice_index layout.ids number

-- the names that the bindings of a module have
abbrev pub names_of : Layout → ℕ → List (List ℕ)
names_of layout number = slice_index_or layout.names number []

-- the name that a binding of a module has
abbrev pub name_of : Layout → ℕ → ℕ → List ℕ
name_of layout number binding = slice_index_or (names_of layout number) binding []

-- each module has a root, an id and a name for each of its bindings
pub record LayoutFits (layout : Layout) : Type 0 where
  pub graph : Fits layout.graph
  pub each_root : length layout.roots ≡ length layout.graph.rows
  pub roots : ArePlacesIn layout.graph.rows layout.roots
  pub each_names : length layout.names ≡ length layout.graph.rows
  pub names : (number : ℕ) (row : Row) → slice_get layout.graph.rows number ≡ Some row
      → length (names_of layout number) ≡ length row.facts.bindings
  pub each_id : length layout.ids ≡ length layout.graph.rows

-- what a name stands for is there
abbrev pub FoundFits : Graph → Found → Type 0
FoundFits graph (Binding owner binding) = (row : Row) × (slice_get graph.rows owner ≡ Some row) × (binding < length row.facts.bindings)
FoundFits graph (Namespace number) = number < length graph.rows
FoundFits graph (Foreign number name) = number < length graph.rows
FoundFits graph Nothing = Unit {0}
FoundFits graph Ambiguous = Unit {0}
