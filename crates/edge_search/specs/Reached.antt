-- The nodes that edges lead to from a node, in any number of steps. A node's number is the place of its edges.
use Rattle.std.specs.Prelude.{ℕ, ◌<◌, List, [], length, slice_index_or}
use Rattle.std.specs.List.{All, Contains}

pub data IsReached (edges : List (List ℕ)) (from : ℕ) : ℕ → Type 0 where
  itself : IsReached edges from from
  along : (number target : ℕ) → IsReached edges from number → Contains (slice_index_or edges number []) target → IsReached edges from target

-- the edges lead to nodes that have edges, or none, themselves
abbrev pub LeadWithin : List (List ℕ) → Type 0
LeadWithin edges = All (λ targets. All (λ target. target < length edges) targets) edges
