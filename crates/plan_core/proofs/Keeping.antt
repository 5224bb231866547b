-- Edges of which those of modules that are not reached go, one module after another.
use Rattle.std.proofs.Common.{◌≡◌, ℕ, ◌<◌, ◌≤◌, Bool, List, [], length, get_or, arith}
use Rattle.std.proofs.lemmas.List.FromFn.{fill_by_all}
use Rattle.plan_core.specs.Edges.{edges_where, active_edges}

-- what was gone through is as it shall be, and what is left as it was
pub record IsKept (reached : List Bool) (edges now : List (List ℕ)) (number : ℕ) : Type 0 where
  pub each : length now ≡ length edges
  pub done : (k : ℕ) → k < number → get_or now k [] ≡ edges_where reached edges k
  pub left : (k : ℕ) → number ≤ k → get_or now k [] ≡ get_or edges k []

pub ends : (reached : List Bool) (edges now : List (List ℕ)) (number : ℕ) → IsKept reached edges now number → length edges ≤ number
    → now ≡ active_edges reached edges
ends reached edges now number so_far all = fill_by_all (edges_where reached edges) now (length edges) [] so_far.each (λ k h. so_far.done k (omega arith))
