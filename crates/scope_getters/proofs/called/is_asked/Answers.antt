use Rattle.std.proofs.Common.{ap, sym, ◌∙◌, get_or, false}
use Rattle.scope_getters.proofs.Calling.{asked_or}
use Rattle.scope_getters.proofs.called.is_asked.Goals as goal

pub returns-else-as_slice-number : goal.returns-else-as_slice-number
returns-else-as_slice-number c =
    asked_or c.args.speller.now.graph c.args.active.now c.args.used.now c.args.called.now.keys c.args.number c.contains.result c.requires.called
    (ap (λ l. get_or l c.args.number false) (sym c.as_slice.ensures) ∙ c.if-as_slice-number.false) c.contains.ensures
