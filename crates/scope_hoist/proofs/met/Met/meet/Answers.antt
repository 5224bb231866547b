use Rattle.std.proofs.Common.{◌≡◌, ◌<◌, true, false, length, get_or, subst, ◌∙◌, sym, arith}
use Rattle.std.proofs.Math.ListN.{set}
use Rattle.std.proofs.lemmas.List.{get_or_default}
use Rattle.edge_search.specs.Marks.{AreMarked}
use Rattle.edge_search.proofs.Marking.{met_last}
use Rattle.scope_hoist.proofs.met.Met.meet.Goals as goal

pub invariant_of-self-then-not-index : goal.invariant_of-self-then-not-index
invariant_of-self-then-not-index c =
    let marks = c.loop-self.self-inside.marks.items in
    let within : c.args.module < length marks = omega (arith, c.loop-self-test.false, c.len.ensures, c.loop-self.self-inside.marks.ok) in
    let unmarked : get_or marks c.args.module false ≡ false =
    get_or_default marks c.args.module false c.index.result.now within ∙ sym c.index.ensures ∙ c.if-not-index.true in
    subst (AreMarked (set c.loop-self.self-inside.marks.items c.args.module true)) (sym c.in_ok-push-2.ensures.items)
    (met_last c.loop-self.self-inside.marks.items c.loop-self.self-inside.met.items c.args.module c.loop-self.invariant.marked within unmarked)
