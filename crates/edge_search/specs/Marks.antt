-- Which nodes were met, as marks that are found by a node's number. Only the model of a search cites this.
use Rattle.std.specs.Prelude.{◌≡◌, ℕ, Bool, false, List, nat_eq, slice_index_or}
use Rattle.std.specs.List.{IsDistinct, list_any}

-- exactly the nodes that were met are marked, and each was met once
pub record AreMarked (marks : List Bool) (met : List ℕ) : Type 0 where
  pub marked : (number : ℕ) → slice_index_or marks number false ≡ list_any (nat_eq number) met
  pub distinct : IsDistinct nat_eq met
