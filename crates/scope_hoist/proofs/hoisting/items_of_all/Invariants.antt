-- the modules so far
use Rattle.std.proofs.Common.{◌≡◌, ◌≢◌, ℕ, ◌<◌, [], length, get_or}
use Rattle.scope_hoist.specs.Walks.{IsWalked}
use Rattle.scope_hoist.proofs.hoisting.items_of_all.Given as goal

abbrev pub invariant-loop-number : goal.invariant-loop-number
invariant-loop-number l = record {
  each : length l.items.items ≡ l.number;
  walked : (k : ℕ) → k < l.number → get_or l.roots k 0 ≡ k → IsWalked l.edges l.roots k (get_or l.items.items k []);
  others : (k : ℕ) → k < l.number → get_or l.roots k 0 ≢ k → get_or l.items.items k [] ≡ [];
}
