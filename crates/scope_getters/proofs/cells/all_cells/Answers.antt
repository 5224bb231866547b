use Rattle.std.proofs.Common.{◌≡◌, List, [], length, subst}
use Rattle.std.proofs.Common.{rules}
use Rattle.module_spelling.specs.Layout.{Layout}
use Rattle.scope_getters.specs.Gaining.{Gains, Below, IsOfModule, IsOfSpace}
use Rattle.scope_getters.specs.Scopes.{Cell}
use Rattle.scope_getters.proofs.CellGains.{all_gain}
use Rattle.scope_getters.proofs.cells.all_cells.Goals as goal

pub returns-clause-cells : goal.returns-clause-cells
returns-clause-cells c =
    let layout = c.args.speller.now in
    let active = c.args.active.now in
    let none : c.new-cells.result.keys ≡ [] = search rules in
    all_gain layout active c.args.spaces.now c.add_modules.new.cells.keys c.add_spaces.new.cells.keys
    (subst (λ (keys : List Cell). Gains keys (Below (length layout.graph.rows) (IsOfModule layout active)) c.add_modules.new.cells.keys) none c.in_ok-add_modules.ensures.gains)
    (subst (λ (l : Layout). Gains c.add_modules.new.cells.keys (Below (length l.graph.rows) (IsOfSpace l c.args.spaces.now)) c.add_spaces.new.cells.keys)
    c.in_ok-add_modules.ensures.same c.in_ok-add_spaces.ensures.gains)
