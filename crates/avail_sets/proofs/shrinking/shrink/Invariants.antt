-- the groups of entries so far wait, and then rows shrink
use Rattle.std.proofs.Common.{◌≡◌, ◌↔◌, ◌+◌, ◌<◌, ℕ, length}
use Rattle.std.specs.List.{Contains}
use Rattle.avail_sets.specs.Rows.{IsShrinking, weight}
use Rattle.avail_sets.specs.Words.{words_for}
use Rattle.avail_sets.proofs.shrinking.shrink.Given as goal

abbrev pub invariant-loop-group : goal.invariant-loop-group
invariant-loop-group l = (k : ℕ) → Contains l.waiting.keys k ↔ (k < l.group)

abbrev pub invariant-loop-group-2 : goal.invariant-loop-group-2
invariant-loop-group-2 l = record {
  shrinking : IsShrinking l.groups l.modules l.rows.items l.waiting.keys;
  long : length l.have ≡ words_for l.modules;
}

abbrev pub decreases-loop-group-2 : goal.decreases-loop-group-2
decreases-loop-group-2 l = weight l.rows.items + length l.waiting.keys
