use Rattle.std.proofs.Common.{◌<◌, ◌≤◌, ◌∙◌, length, slice_get, sym, ap, subst}
use Rattle.std.proofs.lemmas.Option.{slice_get-get_or}
use Rattle.es_outline.specs.Outline.{Marks}
use Rattle.es_scope.specs.Noting.{Takes, claim_at}
use Rattle.es_scope.proofs.FirstTwice.{searched_none, searched_more, first_there, never, frames_more, number_there}
use Rattle.es_scope.proofs.twice.first_twice.Goals as goal

pub loop-index-init : goal.loop-index-init
loop-index-init c = searched_none c.args.outlined.now c.args.names.now.numbers.items c.new-parts.result c.new-noted.result c.new-parts.ensures c.new-noted.ensures

pub take-requires-clause-mark : goal.take-requires-clause-mark
take-requires-clause-mark c =
    ap (λ (marks : Marks). slice_get marks c.loop-index.index) (sym c.marks-mark-items.ensures)
    ∙ slice_get-get_or c.marks-mark-items.result.now c.loop-index.index _ c.loop-index-test.true

pub returns-then-branch : goal.returns-then-branch
returns-then-branch c =
    let inside : c.loop-index.index < length c.args.outlined.now.marks = subst (λ (marks : Marks). c.loop-index.index < length marks) c.marks-mark-items.ensures c.loop-index-test.true in
    let here = number_there c.args.outlined.now c.args.names.now.texts c.args.names.now.numbers.items c.requires.numbered c.loop-index.index c.as_slice-numbers.result.now c.as_slice-numbers.ensures.value inside in
    first_there c.args.outlined.now c.args.names.now.texts c.args.names.now.numbers.items c.requires.numbered c.loop-index.index _ c.loop-index.parts c.loop-index.noted c.take.new.self here c.loop-index.invariant
    (subst (Takes c.loop-index.noted (claim_at c.args.outlined.now _ c.loop-index.index) c.take.new.self) c.if-branch.true c.in_ok-take.ensures)

pub loop-index-preserved : goal.loop-index-preserved
loop-index-preserved c =
    let inside : c.loop-index.index < length c.args.outlined.now.marks = subst (λ (marks : Marks). c.loop-index.index < length marks) c.marks-mark-items.ensures c.loop-index-test.true in
    let here = number_there c.args.outlined.now c.args.names.now.texts c.args.names.now.numbers.items c.requires.numbered c.loop-index.index c.as_slice-numbers.result.now c.as_slice-numbers.ensures.value inside in
    let mark =
    ap (λ (marks : Marks). slice_get marks c.loop-index.index) (sym c.marks-mark-items.ensures)
    ∙ slice_get-get_or c.marks-mark-items.result.now c.loop-index.index _ c.loop-index-test.true in
    searched_more c.args.outlined.now c.args.names.now.texts c.args.names.now.numbers.items c.requires.numbered c.loop-index.index _ c.loop-index.parts c.loop-index.noted c.take.new.self here c.loop-index.invariant
    c.pass.new.self
    (frames_more c.args.outlined.now c.loop-index.index c.loop-index.parts c.pass.new.self _ mark c.loop-index.invariant.parts c.in_ok-pass.ensures)
    (subst (Takes c.loop-index.noted (claim_at c.args.outlined.now _ c.loop-index.index) c.take.new.self) c.if-branch.false c.in_ok-take.ensures)

pub returns : goal.returns
returns c = never c.args.outlined.now c.args.names.now.numbers.items c.loop-index.index c.loop-index.parts c.loop-index.noted c.loop-index.invariant
    (subst (λ (marks : Marks). length marks ≤ c.loop-index.index) c.marks-mark-items.ensures c.loop-index-test.false)
