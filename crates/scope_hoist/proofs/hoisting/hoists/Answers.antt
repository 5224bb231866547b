use Rattle.std.proofs.Common.{sym, subst}
use Rattle.pk_types.specs.HoistItems.{AreHoists}
use Rattle.scope_hoist.specs.Walks.{AreItemsOfAll}
use Rattle.scope_hoist.proofs.HoistedSets.{all_hoisted}
use Rattle.scope_hoist.proofs.hoisting.hoists.Goals as goal

pub returns : goal.returns
returns c =
    let roots = c.in_ok-roots.roots.items in
    let items = c.in_ok-items.items.items in
    let all = subst (λ l. AreItemsOfAll l roots items) c.as_slice.ensures (subst (λ l. AreItemsOfAll c.as_slice.result.now l items) c.as_slice-2.ensures.value c.in_ok-items.ensures) in
    subst (λ l. AreHoists (record { graph = c.args.graph.now; active = c.args.active.now; used = c.args.used.now; chunks = c.args.chunks.now }) c.args.concatenate (record { root = l; items = c.from_vec-2.result })) (sym c.from_vec.ensures)
    (subst (λ l. AreHoists (record { graph = c.args.graph.now; active = c.args.active.now; used = c.args.used.now; chunks = c.args.chunks.now }) c.args.concatenate (record { root = roots; items = l })) (sym c.from_vec-2.ensures)
    (all_hoisted (record { graph = c.args.graph.now; active = c.args.active.now; used = c.args.used.now; chunks = c.args.chunks.now }) c.args.concatenate roots items c.in_ok-roots.ensures all))
