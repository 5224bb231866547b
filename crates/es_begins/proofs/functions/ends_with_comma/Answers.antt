use Rattle.std.proofs.Common.{◌∙◌}
use Rattle.es_begins.proofs.Lists.{comma_at_last}
use Rattle.es_begins.proofs.functions.ends_with_comma.Goals as goal

pub returns-in-Some : goal.returns-in-Some
returns-in-Some g c = c.is_some.ensures ∙ comma_at_last c.args.list.now c.in-Some.last.now c.in-Some.ensures.value
