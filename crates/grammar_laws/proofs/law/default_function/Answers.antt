use Rattle.grammar_laws.proofs.Derivations.{default_function}
use Rattle.grammar_laws.proofs.law.default_function.Goals as goal

pub returns : goal.returns
returns c = default_function
