use Rattle.std.proofs.Common.{◌≡◌, length, ap, ◌∙◌, arith}
use Rattle.split_chunks.proofs.PickSteps.{placed_are}
use Rattle.split_chunks.proofs.placed.placed.Goals as goal

pub returns : goal.returns
returns c =
    let groups = c.args.groups.now in
    let end : c.loop-group.group ≡ length groups.closures = omega (arith, c.loop-group-test.false, c.loop-group.auto.group-end, ap length c.as_slice-closure-items.ensures) in
    placed_are groups c.args.avail.now c.loop-group.placed.items c.args.modules c.requires.fits c.requires.closures c.requires.modules c.requires.rows (c.loop-group.invariant.each ∙ end)
    (λ k low. c.loop-group.invariant.lists k (omega (arith, low, end)))
