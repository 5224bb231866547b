use Rattle.std.proofs.Common.{◌≡◌, length, ap, arith}
use Rattle.pk_types.specs.declared.graph.Graph.{Graph}
use Rattle.scope_getters.proofs.Calling.{first_more, all_spaces}
use Rattle.scope_getters.proofs.called.spaces.Goals as goal

pub loop-number-preserved : goal.loop-number-preserved
loop-number-preserved c =
    first_more c.args.speller.now c.args.active.now c.args.used.now c.loop-number.spaces.items _ c.loop-number.number c.has_space.result c.in_ok-push.ensures.items
    c.loop-number.invariant c.has_space.ensures

pub returns : goal.returns
returns c =
    let end : c.loop-number.number ≡ length c.args.speller.now.graph.rows =
    omega (arith, c.loop-number-test.false, c.loop-number.auto.number-end, c.len-count.ensures, ap (λ (g : Graph). length g.rows) c.graph.ensures.graph) in
    all_spaces c.args.speller.now c.args.active.now c.args.used.now c.loop-number.spaces.items c.loop-number.number end c.loop-number.invariant
