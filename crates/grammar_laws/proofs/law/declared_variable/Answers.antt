use Rattle.grammar_laws.proofs.Derivations.{declared_variable}
use Rattle.grammar_laws.proofs.law.declared_variable.Goals as goal

pub returns : goal.returns
returns c = declared_variable
