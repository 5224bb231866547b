-- the lines so far
use Rattle.std.proofs.Common.{◌≡◌, ℕ, [], length, get_or}
use Rattle.scope_hoist.proofs.lists.empty_lines.Given as goal

abbrev pub invariant-loop-place : goal.invariant-loop-place
invariant-loop-place l = record {
  each : length l.lines.items ≡ l._place;
  empty : (k : ℕ) → get_or l.lines.items k [] ≡ [];
}
