-- the numbers so far
use Rattle.std.proofs.Common.{◌≡◌, ℕ, ◌<◌, length, get_or}
use Rattle.scope_hoist.proofs.roots.numbers.Given as goal

abbrev pub invariant-loop-number : goal.invariant-loop-number
invariant-loop-number l = record {
  each : length l.numbers.items ≡ l.number;
  numbers : (k : ℕ) → k < l.number → get_or l.numbers.items k 0 ≡ k;
}
