use Rattle.std.proofs.Common.{ℕ, ◌<◌, get_or}
use Rattle.std.specs.List.{Contains}
use Rattle.pk_types.specs.SplitCandidates.{path_of}
use Rattle.pk_types.specs.SplitPicks.{IsBefore}
use Rattle.split_chunks.proofs.order.least.Given as goal

abbrev pub invariant-loop-member : goal.invariant-loop-member
invariant-loop-member l = record {
  among : Contains l.modules l.least;
  least : (k : ℕ) → k < l.member-index → ¬ IsBefore (path_of l.graph (get_or l.modules k 0)) (path_of l.graph l.least);
}
