use Rattle.std.proofs.Common.{◌+◌, [], ◌∷◌, length, sym, ap, subst, ◌∙◌, length-append}
use Rattle.avail_sets.specs.Rows.{IsFirst}
use Rattle.avail_sets.proofs.Falling.{one_row_more, first_all, first_none}
use Rattle.avail_sets.proofs.shrinking.first_rows.Goals.{then-group-groups, else-group-groups}
use Rattle.avail_sets.proofs.shrinking.first_rows.Goals as goal

pub loop-group-preserved : goal.loop-group-preserved
loop-group-preserved c =
    let entries = c.args.groups.now.entries in
    let count = c.args.modules in
    let group = c.loop-group.group in
    let row = c.if-group-groups.row in
    let first : IsFirst entries count group row = elim c.if-group-groups.branch [
      | then-group-groups w ↦
          let is = w.row-is ∙ w.copy_from.ensures in
          subst (IsFirst entries count group) (sym is) (first_all entries count group c.in_ok-full.full w.if-group-groups.true c.in_ok-full.ensures.long c.in_ok-full.ensures.flags)
      | else-group-groups w ↦
          subst (IsFirst entries count group) (sym w.row-is) (first_none entries count group c.in_ok-row.row w.if-group-groups.false c.in_ok-row.ensures.long c.in_ok-row.ensures.flags)
    ] in
    record {
      each = ap length c.in_ok-push.ensures.items ∙ length-append c.loop-group.rows.items (row ∷ []) ∙ ap (λ n. n + 1) c.loop-group.invariant.each;
      rows = one_row_more (IsFirst entries count) c.loop-group.rows.items row c.push.new.self.items group c.loop-group.invariant.each c.loop-group.invariant.rows first c.in_ok-push.ensures.items;
    }
