use Rattle.grammar_laws.proofs.DefaultValueDerivation.{default_value}
use Rattle.grammar_laws.proofs.law.default_value.Goals as goal

pub returns : goal.returns
returns c = default_value
