-- the rows so far
use Rattle.std.proofs.Common.{◌≡◌, ℕ, ◌<◌, [], length, get_or}
use Rattle.avail_sets.specs.Rows.{IsFirst}
use Rattle.avail_sets.proofs.shrinking.first_rows.Given as goal

abbrev pub invariant-loop-group : goal.invariant-loop-group
invariant-loop-group l = record {
  each : length l.rows.items ≡ l.group;
  rows : (k : ℕ) → k < l.group → IsFirst l.groups.entries l.modules k (get_or l.rows.items k []);
}
