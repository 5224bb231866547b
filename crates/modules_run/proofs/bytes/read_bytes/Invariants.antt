use Rattle.std.proofs.Common.{length}
use Rattle.modules_run.proofs.bytes.read_bytes.Given as goal

abbrev pub decreases-loop-rest : goal.decreases-loop-rest
decreases-loop-rest l = length l.rest
