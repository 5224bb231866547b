-- the sets so far
use Rattle.std.proofs.Common.{◌≡◌, ℕ, [], length, get_or}
use Rattle.bundle_plan.proofs.members.empty_sets.Given as goal

abbrev pub invariant-loop : goal.invariant-loop
invariant-loop l = record {
  each : length l.sets.items ≡ l.counter;
  empty : (k : ℕ) → get_or l.sets.items k [] ≡ [];
}
