-- What is collected of a range; the error's type has no part in it.
use Rattle.std.proofs.Common.{refl, ◌∙◌, arith, Ok}
use Rattle.std.proofs.lemmas.Iterator.{YieldsList-from_range, items_from_collect}
use Rattle.watch_core.proofs.facts.first_numbers.Goals as goal

pub returns : goal.returns
returns c =
    let range = YieldsList-from_range 0 c.args.count c.args.count refl (omega arith) in
    c.from_vec.ensures ∙ items_from_collect {E = Unit {0}} (Ok c.in_ok-numbers.numbers) c.in_ok-numbers.ensures.ran range
