-- The edges of modules: those that their declarations lead to, and which of them are active.
use Rattle.std.specs.Prelude.{ℕ, Bool, false, List, [], length, map, if◌then◌else◌, slice_index, slice_index_or}
use Rattle.std.specs.List.{range_with_len}
use Rattle.pk_types.specs.declared.graph.Graph.{Graph}
use Rattle.pk_types.specs.declared.graph.Row.{Row}
use Rattle.pk_text.specs.FirstPlaces.{first_places}

-- the targets of the declarations, in the order of these
abbrev pub declared_targets : Row → List ℕ
declared_targets row = map (slice_index row.targets) row.facts.order

-- each target is an edge, whether or not it is said to have side effects
abbrev pub edges_of : Row → List ℕ
edges_of row = first_places (declared_targets row)

-- the edges that the declarations of each module give, by number
abbrev pub declared_edges : Graph → List (List ℕ)
declared_edges graph = map edges_of graph.rows

-- a module that is reached has its edges, and another one has none
abbrev pub edges_where : List Bool → List (List ℕ) → ℕ → List ℕ
edges_where reached edges number = if slice_index_or reached number false then slice_index_or edges number [] else []

-- the active edges of each module, by number
abbrev pub active_edges : List Bool → List (List ℕ) → List (List ℕ)
active_edges reached edges = map (edges_where reached edges) (range_with_len 0 (length edges))
