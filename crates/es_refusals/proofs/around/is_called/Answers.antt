use Rattle.std.proofs.Common.{sym, ◌∙◌, arith}
use Rattle.es_refusals.proofs.Calling.{enclosed_inside, goes_outward, stops_there}
use Rattle.es_refusals.proofs.around.is_called.Goals as goal

pub loop-outer-preserved : goal.loop-outer-preserved
loop-outer-preserved c =
    let marks = c.args.outlined.now.marks in
    let is = sym c.is_enclosed.ensures ∙ c.loop-outer-test.true in
    let inside = enclosed_inside marks c.loop-outer.outer c.loop-outer.last is in
    record {
      around = omega (arith, inside, c.loop-outer.invariant.around);
      called = goes_outward marks c.loop-outer.outer c.loop-outer.last is ∙ c.loop-outer.invariant.called;
    }

pub returns : goal.returns
returns c =
    let marks = c.args.outlined.now.marks in
    c.is_call.ensures ∙ stops_there marks c.loop-outer.outer c.loop-outer.last _ c.mark_at.ensures (sym c.is_enclosed.ensures ∙ c.loop-outer-test.false) ∙ c.loop-outer.invariant.called
