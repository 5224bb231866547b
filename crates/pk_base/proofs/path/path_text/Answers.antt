use Rattle.std.proofs.Common.{arith, rules}
use Rattle.pk_base.proofs.Breaks.{first_within, is_path-from_no_break}
use Rattle.pk_base.proofs.path.path_text.Goals as goal

pub overflow_cast-result-in-Err : goal.overflow_cast-result-in-Err
overflow_cast-result-in-Err c = let at = first_within _ _ c.in-Err.ensures in omega arith

pub returns-in-Ok : goal.returns-in-Ok
returns-in-Ok c = (c.in-Ok.ensures.0, search rules, is_path-from_no_break _ (omega arith) c.in-Ok.ensures.1)
