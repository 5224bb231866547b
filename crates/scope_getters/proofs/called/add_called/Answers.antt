use Rattle.std.proofs.Common.{◌≡◌, true, false, get_or, ap, ◌∙◌, sym, arith}
use Rattle.scope_getters.proofs.Calling.{flag_set, called_gains, none_called}
use Rattle.scope_getters.proofs.called.add_called.Goals as goal

pub returns-in_ok-meet_called : goal.returns-in_ok-meet_called
returns-in_ok-meet_called c =
    let flags = c.args.active.now.reached in
    let read : get_or flags c.args.from false ≡ true = ap (λ l. get_or l c.args.from false) (sym c.as_slice.ensures) ∙ c.if-as_slice-from.true in
    called_gains c.args.speller.now.graph c.args.active.now c.args.from c.row.result.now c.args.called.now.keys c.meet_called.new.known.keys
    (flag_set flags c.args.from (omega (arith, c.requires.from, c.requires.each)) read) c.row.ensures.at c.in_ok-meet_called.ensures

pub returns-else-as_slice-from : goal.returns-else-as_slice-from
returns-else-as_slice-from c =
    none_called c.args.speller.now.graph c.args.active.now c.args.from c.args.called.now.keys
    (ap (λ l. get_or l c.args.from false) (sym c.as_slice.ensures) ∙ c.if-as_slice-from.false)
