use Rattle.std.proofs.Common.{◌∙◌}
use Rattle.es_strings.proofs.Passing.{is_nothing, nothing_left, value_within}
use Rattle.es_strings.proofs.plain.is_plain.Goals as goal

pub returns : goal.returns
returns c = λ _. value_within c.args.spelling.now ∙ c.loop-first.invariant (nothing_left _ (is_nothing _ c.in_default.ensures.cases))
