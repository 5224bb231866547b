use Rattle.std.proofs.Common.{◌∙◌, sym, arith}
use Rattle.es_sites.proofs.MarkLaws.{enclosed_closes, deleted_step, deleted_stop}
use Rattle.es_sites.proofs.marks.deleted.Goals as goal

pub loop-outer-preserved : goal.loop-outer-preserved
loop-outer-preserved c =
    let e = sym c.enclosed.ensures ∙ c.loop-outer-test.true in
    let inside = enclosed_closes c.args.outlined.now c.loop-outer.outer c.loop-outer.end e in
    record {
      same = deleted_step c.args.outlined.now c.loop-outer.outer c.loop-outer.end e ∙ c.loop-outer.invariant.same;
      short = omega (arith, inside.1, c.requires.short);
    }

pub returns : goal.returns
returns c =
    c.behind_delete.ensures ∙ deleted_stop c.args.outlined.now c.loop-outer.outer c.loop-outer.end (sym c.enclosed.ensures ∙ c.loop-outer-test.false)
    ∙ c.loop-outer.invariant.same
