use Rattle.grammar_laws.proofs.Derivations.{member_assigned}
use Rattle.grammar_laws.proofs.law.member_assigned.Goals as goal

pub returns : goal.returns
returns c = member_assigned
