use Rattle.grammar_laws.proofs.Derivations.{call_over_line}
use Rattle.grammar_laws.proofs.law.call_over_line.Goals as goal

pub returns : goal.returns
returns c = call_over_line
