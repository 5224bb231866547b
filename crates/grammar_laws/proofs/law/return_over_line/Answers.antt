use Rattle.grammar_laws.proofs.Derivations.{return_over_line}
use Rattle.grammar_laws.proofs.law.return_over_line.Goals as goal

pub returns : goal.returns
returns c = return_over_line
