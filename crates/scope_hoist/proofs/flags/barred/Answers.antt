use Rattle.std.proofs.Common.{◌≡◌, ◌<◌, true, false, true≢false, Some, slice_get, length, get_or, sym, ap, subst, ◌∙◌, arith}
use Rattle.std.proofs.lemmas.Option.{slice_get-get_or, same_Some}
use Rattle.chunk_groups.specs.Gathered.{IsGathered}
use Rattle.scope_hoist.specs.Scopes.{CallsAtSite}
use Rattle.scope_hoist.proofs.Barring.{called_more, called_none, all_barred}
use Rattle.scope_hoist.proofs.flags.barred.Goals as goal
use Rattle.scope_hoist.proofs.flags.barred.Goals.{then-as_slice-number+in_ok-barred-2, else-as_slice-number}

pub loop-number-preserved : goal.loop-number-preserved
loop-number-preserved c =
    let graph = c.args.graph.now in
    let active = c.args.active.now in
    let number = c.loop-number.number in
    let old = c.loop-number.barred.items in
    let new = c.if-as_slice-number.barred.items in
    let row = c.row-item.result in
    let marks = c.as_slice-in-loop-number.result.now in
    let inside : number < length graph.rows = omega (arith, c.loop-number-test.true, ap length c.as_slice-row-items.ensures) in
    let at : slice_get graph.rows number ≡ Some row = slice_get-get_or graph.rows number row inside ∙ ap Some (sym (c.row-item.is ∙ ap (λ l. get_or l number row) c.as_slice-row-items.ensures)) in
    let within : number < length active.reached = omega (arith, inside, c.requires.active.each_reached) in
    let read : slice_get active.reached number ≡ Some (get_or marks number false) =
    slice_get-get_or active.reached number false within ∙ ap (λ l. Some (get_or l number false)) (sym c.as_slice-in-loop-number.ensures) in
    elim c.if-as_slice-number.branch [
      | then-as_slice-number+in_ok-barred-2 w ↦
          called_more graph active graph.entries old number c.loop-number.invariant row new at (read ∙ ap Some w.if-as_slice-number.true)
          (subst (IsGathered old (CallsAtSite row) (length row.facts.sites)) (sym (ap (λ v. v.items) w.barred-is)) w.in_ok-barred-2.ensures)
      | else-as_slice-number w ↦
          called_none graph active graph.entries old number c.loop-number.invariant new (λ reached. true≢false (same_Some true false (sym reached ∙ (read ∙ ap Some w.if-as_slice-number.false))))
          (ap (λ v. v.items) w.barred-is)
    ]

pub returns : goal.returns
returns c = all_barred c.args.graph.now c.args.active.now c.loop-number.barred.items c.loop-number.number c.loop-number.invariant
    (omega (arith, c.loop-number-test.false, c.loop-number.auto.number-end, ap length c.as_slice-row-items.ensures, c.requires.active.each_reached))
