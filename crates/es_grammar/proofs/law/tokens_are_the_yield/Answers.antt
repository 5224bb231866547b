use Rattle.es_grammar.proofs.Whole.{yield_stands}
use Rattle.es_grammar.proofs.law.tokens_are_the_yield.Goals as goal

pub returns : goal.returns
returns c text program parse = yield_stands text program parse
