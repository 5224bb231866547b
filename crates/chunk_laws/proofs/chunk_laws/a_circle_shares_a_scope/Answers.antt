use Rattle.pk_types.proofs.HoistRows.{circle_is_hoisted}
use Rattle.chunk_laws.proofs.chunk_laws.a_circle_shares_a_scope.Goals as goal

pub returns : goal.returns
returns c = circle_is_hoisted
