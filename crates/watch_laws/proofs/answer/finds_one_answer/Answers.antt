use Rattle.watch_laws.proofs.OneAnswer.{one_answer}
use Rattle.watch_laws.proofs.answer.finds_one_answer.Goals as goal

pub returns : goal.returns
returns c tree asks others one other is also = one_answer tree asks others one other is also
