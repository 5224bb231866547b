use Rattle.std.proofs.Common.{List, sym, ap, subst, ◌∙◌}
use Rattle.module_spelling.specs.Layout.{Layout}
use Rattle.scope_getters.specs.Gaining.{Gains, IsOther}
use Rattle.scope_getters.specs.Scopes.{Cell, IsOfOther}
use Rattle.scope_getters.proofs.CellGains.{cell_added, no_cell_added}
use Rattle.scope_getters.proofs.cells.add_name.Goals.{in-Some+in_ok-insert, in_default}
use Rattle.scope_getters.proofs.cells.add_name.Goals as goal

pub returns-clause-gains : goal.returns-clause-gains
returns-clause-gains c =
    let layout = c.args.speller.now in
    let from = c.args.from in
    let found = c.in_ok-found.found in
    let old = c.args.cells.now.keys in
    elim c.match-other_cell.branch [
      | in-Some+in_ok-insert w ↦
          cell_added layout from c.args.target c.args.name.now found c.in_ok-found.ensures.found w.in-Some.cell old c.match-other_cell.cells.keys
          (subst (λ (l : Layout). IsOther l from found w.in-Some.cell) c.in_ok-found.ensures.same w.in-Some.ensures.some)
          (ap (λ s. s.keys) w.cells-is ∙ w.in_ok-insert.ensures.keys)
      | in_default w ↦
          subst (λ (keys : List Cell). Gains old (IsOfOther layout from c.args.target c.args.name.now) keys) (sym (ap (λ s. s.keys) w.cells-is))
          (no_cell_added layout from c.args.target c.args.name.now found c.in_ok-found.ensures.found old
          (subst (λ (l : Layout). (cell : Cell) → ¬ IsOther l from found cell) c.in_ok-found.ensures.same w.in_default.ensures.none))
    ]
