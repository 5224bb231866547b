-- The modules that edges lead to from a module, in any number of steps.
use Rattle.std.specs.Prelude.{◌↔◌, ℕ, Bool, nat_eq, List, [], map, slice_index_or}
use Rattle.std.specs.List.{Contains, filter, list_any, range_with_len}
use Rattle.std.specs.List.Sorted.{IsStrictlyIncreasing}

pub data IsReached (edges : List (List ℕ)) (from : ℕ) : ℕ → Type 0 where
  itself : IsReached edges from from
  along : (number target : ℕ) → IsReached edges from number → Contains (slice_index_or edges number []) target → IsReached edges from target

-- exactly these modules are reached, and they stand in the order of their numbers
pub record IsClosure (edges : List (List ℕ)) (from : ℕ) (modules : List ℕ) : Type 0 where
  pub ascending : IsStrictlyIncreasing modules
  pub reached : (number : ℕ) → Contains modules number ↔ IsReached edges from number

-- those of the first modules that are known, by number; only private clauses cite it
abbrev pub known_below : List ℕ → ℕ → List ℕ
known_below known count = filter (λ number. list_any (nat_eq number) known) (range_with_len 0 count)

-- which of the first modules are known; only private clauses cite it
abbrev pub known_flags : List ℕ → ℕ → List Bool
known_flags known count = map (λ number. list_any (nat_eq number) known) (range_with_len 0 count)
