use Rattle.std.proofs.Common.{◌≡◌, ◌<◌, ℕ, [], false, not, length, get_or, filter}
use Rattle.split_chunks.proofs.placed.placed.Given as goal

abbrev pub invariant-loop-group : goal.invariant-loop-group
invariant-loop-group l = record {
  each : length l.placed.items ≡ l.group;
  lists : (k : ℕ) → k < l.group → get_or l.placed.items k [] ≡ filter (λ member. not (get_or (get_or l.avail k []) member false)) (get_or l.groups.closures k []);
}
