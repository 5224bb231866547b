use Rattle.grammar_laws.proofs.Derivations.{await_call}
use Rattle.grammar_laws.proofs.law.await_call.Goals as goal

pub returns : goal.returns
returns c = await_call
