use Rattle.pk_base.proofs.Readings.{bad_is, Outcome-from_err, Outcome-from_memory}
use Rattle.pk_base.proofs.path.Path.read.Goals as goal

pub returns-in_err-text-clause-bad : goal.returns-in_err-text-clause-bad
returns-in_err-text-clause-bad c = bad_is _ _ (Outcome-from_err _ _ _ c.from_residual.ensures.1 c.in_err-text.ensures)

pub returns-in_err-text-2-clause-bad : goal.returns-in_err-text-2-clause-bad
returns-in_err-text-2-clause-bad c =
    let read = c.in_ok-text.ensures in bad_is _ _ (Outcome-from_memory _ _ c.from_residual-in_err-text-2.ensures.1 (read.1, read.2))

pub returns-clause-bad : goal.returns-clause-bad
returns-clause-bad c = let read = c.in_ok-text.ensures in bad_is _ _ (read.1, read.2)
