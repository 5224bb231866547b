use Rattle.std.proofs.Common.{List, Bool, length, slice_get, sym, ap, subst, ◌∙◌}
use Rattle.module_spelling.specs.Layout.{Layout}
use Rattle.scope_getters.specs.Gaining.{AreCells, IsListed}
use Rattle.scope_getters.proofs.Heads.{cells_are, scope_is}
use Rattle.scope_getters.proofs.scopes.getters.Goals as goal

pub returns-clause-getters : goal.returns-clause-getters
returns-clause-getters c =
    let layout = c.args.speller.now in
    let active = c.args.active.now in
    let used = c.args.used.now in
    let spaces = c.in_ok-spaces.spaces.items in
    let cells = c.in_ok-cells.cells.keys in
    let scopes = c.in_ok-scopes.scopes.items in
    let are = c.in_ok-spaces.ensures in
    let spelled : AreCells layout active spaces cells = subst (λ (l : List Bool). AreCells layout active l cells) c.as_slice.ensures.value c.in_ok-cells.ensures.cells in
    record {
      each = ap length c.from_vec.ensures ∙ c.in_ok-scopes.ensures.each ∙ ap (λ (l : Layout). length l.graph.rows) c.in_ok-cells.ensures.same;
      cells = cells;
      are_cells = cells_are layout active used spaces are cells spelled;
      scopes = λ root scope at.
          scope_is layout active used spaces are cells root scope
          (subst (λ (l : List Bool). IsListed layout l cells root scope) c.as_slice-2.ensures.value
          (subst (λ (l : Layout). IsListed l c.as_slice-2.result.now cells root scope) c.in_ok-cells.ensures.same
          (c.in_ok-scopes.ensures.scopes root scope (ap (λ l. slice_get l root) (sym c.from_vec.ensures) ∙ at))));
    }
