-- The modules that stars lead to from a module, in any number of steps. Only private clauses cite this.
use Rattle.std.specs.Prelude.{ℕ, List, [], map, slice_index, slice_index_or}
use Rattle.std.specs.List.{Contains}
use Rattle.pk_types.specs.declared.graph.Graph.{Graph}
use Rattle.pk_types.specs.declared.graph.Row.{Row}

-- the modules that the stars of a module lead to
abbrev pub star_targets : Row → List ℕ
star_targets row = map (slice_index row.targets) row.facts.stars

-- the same for each module, by number
abbrev pub star_edges : Graph → List (List ℕ)
star_edges graph = map star_targets graph.rows

-- the module is the first, or an edge leads to it from one that is reached
pub data IsReached (edges : List (List ℕ)) (from : ℕ) : ℕ → Type 0 where
  itself : IsReached edges from from
  along : (number target : ℕ) → IsReached edges from number → Contains (slice_index_or edges number []) target → IsReached edges from target
