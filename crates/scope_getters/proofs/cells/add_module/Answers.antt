use Rattle.std.proofs.Common.{◌≡◌, true, false, get_or, sym, ap, ◌∙◌, arith}
use Rattle.scope_getters.proofs.CellGains.{module_gains, module_none}
use Rattle.scope_getters.proofs.Calling.{flag_set}
use Rattle.scope_getters.proofs.cells.add_module.Goals as goal

pub returns-in_ok-add_row-clause-gains : goal.returns-in_ok-add_row-clause-gains
returns-in_ok-add_row-clause-gains c =
    let flags = c.args.active.now.reached in
    let read : get_or flags c.args.from false ≡ true = ap (λ l. get_or l c.args.from false) (sym c.as_slice.ensures) ∙ c.if-as_slice-from.true in
    module_gains c.args.speller.now c.args.active.now c.args.from c.row-row.result.now c.args.cells.now.keys c.add_row.new.cells.keys
    (flag_set flags c.args.from (omega (arith, c.requires.from, c.requires.each)) read) c.row-row.ensures.at c.in_ok-add_row.ensures.gains

pub returns-else-as_slice-from-clause-gains : goal.returns-else-as_slice-from-clause-gains
returns-else-as_slice-from-clause-gains c =
    module_none c.args.speller.now c.args.active.now c.args.from c.args.cells.now.keys
    (ap (λ l. get_or l c.args.from false) (sym c.as_slice.ensures) ∙ c.if-as_slice-from.false)
