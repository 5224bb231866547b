use Rattle.pk_base.proofs.Breaks.{no_break, first_of_fault, first_of_text_alone, first_of_both}
use Rattle.pk_base.proofs.path.checked.Goals as goal

pub returns-in-Ok-None : goal.returns-in-Ok-None
returns-in-Ok-None c =
    (c.in-Ok-None.ensures.cases.0, no_break _ c.in-Ok-None.ensures.cases.1 (rw c.in-Ok-None.is-1 at c.first_fault-fault.ensures))

pub returns-in-Ok-Some : goal.returns-in-Ok-Some
returns-in-Ok-Some c =
    first_of_fault _ _ c.in-Ok-Some.ensures.cases.1 (rw c.in-Ok-Some.is-1 at c.first_fault-fault.ensures)

pub returns-in-Err-None : goal.returns-in-Err-None
returns-in-Err-None c =
    rw c.valid_up_to.ensures (first_of_text_alone _ _ c.in-Err-None.ensures.cases.1 (rw c.in-Err-None.is-1 at c.first_fault-fault.ensures))

pub returns-in-Err-Some : goal.returns-in-Err-Some
returns-in-Err-Some c =
    rw (c.min.ensures, c.valid_up_to-in-Err-Some.ensures) (first_of_both _ _ _ (rw c.in-Err-Some.is-1 at c.first_fault-fault.ensures) c.in-Err-Some.ensures.cases.1)
