use Rattle.es_grammar.proofs.Nesting.{too_deep}
use Rattle.es_grammar.proofs.law.brackets_nest_no_deeper.Goals as goal

pub returns : goal.returns
returns c text program opens parse = too_deep text program opens parse
