use Rattle.std.proofs.Common.{[], ◌∷◌, ◌++◌, refl, ap, subst, ◌∙◌}
use Rattle.scope_hoist.specs.Walks.{IsWalked}
use Rattle.scope_hoist.proofs.HoistedSets.{items_more}
use Rattle.scope_hoist.proofs.hoisting.items_of_all.Goals as goal
use Rattle.scope_hoist.proofs.hoisting.items_of_all.Goals.{then-root-number+in_ok-of_root+in_ok-push, else-root-number+in_ok-push-2}

pub loop-number-preserved : goal.loop-number-preserved
loop-number-preserved c =
    let edges = c.args.edges.now in
    let roots = c.args.roots.now in
    let number = c.loop-number.number in
    let items = c.loop-number.items.items in
    let so_far = c.loop-number.invariant in
    elim c.if-root-number.branch [
      | then-root-number+in_ok-of_root+in_ok-push w ↦
          let more = items_more edges roots items c.if-root-number.items.items w.in_ok-of_root.of_root.items number so_far.each so_far.walked so_far.others
          (ap (λ v. v.items) w.items-is ∙ w.in_ok-push.ensures.items ∙ ap (λ l. items ++ l ∷ []) w.from_vec.ensures)
          (λ own. subst (λ r. IsWalked edges roots r w.in_ok-of_root.of_root.items) own w.in_ok-of_root.ensures)
          (λ other. absurd (other w.if-root-number.true)) in
          record { each = more.0; walked = more.1; others = more.2 }
      | else-root-number+in_ok-push-2 w ↦
          let more = items_more edges roots items c.if-root-number.items.items [] number so_far.each so_far.walked so_far.others
          (ap (λ v. v.items) w.items-is ∙ w.in_ok-push-2.ensures.items ∙ ap (λ l. items ++ l ∷ []) w.new.ensures)
          (λ own. absurd (w.if-root-number.false own)) (λ other. refl) in
          record { each = more.0; walked = more.1; others = more.2 }
    ]
