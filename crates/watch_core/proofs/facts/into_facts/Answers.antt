use Rattle.std.proofs.Common.{arith, rules}
use Rattle.watch_core.proofs.FactsFitting.{few_enough, fitting}
use Rattle.watch_core.proofs.facts.into_facts.Goals as goal

pub first_numbers-requires : goal.first_numbers-requires
first_numbers-requires c = omega (arith, c.len.ensures, few_enough c.args.said c.requires)

pub returns-clause-fitting : goal.returns-clause-fitting
returns-clause-fitting c = fitting c.args.said _ (search rules) c.requires
