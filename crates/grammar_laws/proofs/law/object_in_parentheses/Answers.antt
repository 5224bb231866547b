use Rattle.grammar_laws.proofs.Derivations.{object_in_parentheses}
use Rattle.grammar_laws.proofs.law.object_in_parentheses.Goals as goal

pub returns : goal.returns
returns c = object_in_parentheses
