use Rattle.std.proofs.Common.{◌≡◌, ◌∙◌, ◌+◌, ◌≤◌, length, ap, subst, sym, arith}
use Rattle.es_outline.specs.Outline.{Marks}
use Rattle.es_sites.specs.Listing.{AreBefore}
use Rattle.es_sites.proofs.Listing.{none_before, all_before}
use Rattle.es_touches.specs.Touches.{IsTouch}
use Rattle.es_touches.specs.Told.{Tables}
use Rattle.es_touches.proofs.TouchLaws.{touch_pushed, no_touch, touch_within}
use Rattle.es_touches.proofs.finding.touches_by.Goals as goal
use Rattle.es_touches.proofs.finding.touches_by.Goals.{in-Some+in_ok-push, in_default}

pub loop-place-init : goal.loop-place-init
loop-place-init c = none_before (IsTouch c.args.tables.now.source c.args.tables.now.bindings) c.new-touches.result.items c.new-touches.ensures.items

pub loop-place-preserved : goal.loop-place-preserved
loop-place-preserved c =
    elim c.match-touch_at.branch [
      | in-Some+in_ok-push w ↦
          subst (AreBefore (IsTouch c.args.tables.now.source c.args.tables.now.bindings) (c.loop-place.place + 1)) (sym (ap (λ v. v.items) w.touches-is))
          (touch_pushed c.args.tables.now c.requires c.loop-place.place c.loop-place.touches.items _ w.in-Some.touch c.loop-place.invariant
          (sym w.in-Some.is ∙ c.touch_at.ensures) w.in_ok-push.ensures.items)
      | in_default w ↦
          subst (AreBefore (IsTouch c.args.tables.now.source c.args.tables.now.bindings) (c.loop-place.place + 1)) (sym (ap (λ v. v.items) w.touches-is))
          (no_touch c.args.tables.now c.requires c.loop-place.place c.loop-place.touches.items c.loop-place.invariant (sym w.in_default.is ∙ c.touch_at.ensures))
    ]

pub returns : goal.returns
returns c =
    let same : c.marks-mark-items.result.now ≡ c.args.tables.now.source.marks =
    c.marks-mark-items.ensures ∙ ap (λ (tables : Tables). tables.source.marks) c.tables.view_is in
    let most : length c.args.tables.now.source.marks ≤ c.loop-place.place = subst (λ (marks : Marks). length marks ≤ c.loop-place.place) same c.loop-place-test.false in
    all_before (IsTouch c.args.tables.now.source c.args.tables.now.bindings) c.loop-place.place c.loop-place.touches.items c.loop-place.invariant
    (λ place touch h. let within = touch_within c.args.tables.now c.requires place touch h in omega (arith, within, most))
