use Rattle.std.proofs.Common.{◌∙◌, ap, subst, ◌≤◌, length}
use Rattle.es_outline.specs.Outline.{Marks}
use Rattle.module_body.specs.Writing.{body_of}
use Rattle.module_body.proofs.Going.{none_gone, one_gone, next_mark, rest_from, all_gone}
use Rattle.module_body.proofs.writing.body_of.Goals as goal

pub loop-place-init : goal.loop-place-init
loop-place-init c = none_gone c.args.outlined.now c.new-changes.result c.nothing-before.result c.in_ok-draft.draft c.nothing-before.ensures c.in_ok-draft.ensures

pub loop-place-preserved : goal.loop-place-preserved
loop-place-preserved c =
    let at = next_mark c.args.outlined.now c.marks-marks.result.now c.loop-place.place _ c.marks-marks.ensures c.loop-place-test.true in
    let rest = rest_from c.args.outlined.now c.marks-marks.result.now c.loop-place.place c.marks-marks.ensures in
    one_gone c.args.outlined.now c.new-changes.result c.loop-place.place c.loop-place.before c.pass.new.self c.loop-place.draft c.write_mark.new.draft _ _
    at rest c.loop-place.invariant c.in_ok-write_mark.ensures c.pass.ensures

pub returns : goal.returns
returns c =
    let ended : length c.args.outlined.now.marks ≤ c.loop-place.place =
    subst (λ (marks : Marks). length marks ≤ c.loop-place.place) c.marks-marks.ensures c.loop-place-test.false in
    c.finish.ensures ∙ all_gone c.args.outlined.now c.new-changes.result c.loop-place.place c.loop-place.before c.loop-place.draft ended c.loop-place.invariant
    ∙ ap (body_of c.args.outlined.now) c.new-changes.ensures
