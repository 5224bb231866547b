use Rattle.std.proofs.Common.{arith}
use Rattle.pk_base.proofs.Joins.{segments_test}
use Rattle.pk_base.proofs.path.has_segments.Goals as goal

pub returns-else-is_empty : goal.returns-else-is_empty
returns-else-is_empty c =
    segments_test _ c.first_fault.result _ (omega arith) c.if-is_empty.ensures c.first_fault.ensures c.is_none.ensures
