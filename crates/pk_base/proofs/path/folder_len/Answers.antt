use Rattle.std.proofs.Common.{arith}
use Rattle.pk_base.proofs.Segments.{segments_before_place, segments_with_no_slash}
use Rattle.pk_base.proofs.path.folder_len.Goals as goal

pub returns-then-text-at-eq47-clause-segments : goal.returns-then-text-at-eq47-clause-segments
returns-then-text-at-eq47-clause-segments c =
    segments_before_place _ _ c.requires (omega arith) (omega arith) (omega arith) c.loop-at.invariant.free

pub returns-clause-segments : goal.returns-clause-segments
returns-clause-segments c = segments_with_no_slash _ (λ k from within. c.loop-at.invariant.free k (omega arith) within)
