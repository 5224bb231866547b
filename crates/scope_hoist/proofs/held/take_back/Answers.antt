use Rattle.std.proofs.Common.{◌<◌, ◌+◌, length, get_or, [], sym, ap, subst, ◌∙◌, refl, arith}
use Rattle.std.proofs.lemmas.Bool.{true≢false}
use Rattle.std.proofs.lemmas.List.{get_or_default}
use Rattle.std.proofs.lemmas.List.Elements.{All-get_or}
use Rattle.pk_types.specs.Places.{ArePlacesIn}
use Rattle.scope_hoist.proofs.Holding.{IsTakingBack, same_so_far, none_left, passes_target, holds_target}
use Rattle.scope_hoist.proofs.held.take_back.Goals as goal
use Rattle.scope_hoist.proofs.held.take_back.Goals.{then-is_led_by+then-are_together+in_ok-hold, else-is_led_by, else-is_led_by-via-then-is_led_by+else-are_together, else-is_led_by-via-else-is_led_by}

pub loop-target-init : goal.loop-target-init
loop-target-init c = record { standing = c.requires.standing; more = same_so_far c.args.marks.now; none = λ k h. absurd (omega (arith, h)) }

pub loop-target-preserved : goal.loop-target-preserved
loop-target-preserved c =
    let asks = c.args.asks.now in
    let homes = c.args.homes.now in
    let from = c.args.from in
    let first = c.args.marks.now in
    let old = c.loop-target.marks in
    let new = c.if-is_led_by.marks in
    let place = c.loop-target.target-index in
    let targets = c.as_slice-target-items.result.now in
    let target = get_or targets place 0 in
    let inside : place < length targets = c.loop-target-test.true in
    elim c.if-is_led_by.branch [
      | then-is_led_by+then-are_together+in_ok-hold w ↦
          subst (IsTakingBack asks homes first from targets (place + 1)) (sym w.marks-is)
          (holds_target asks homes first from targets place old c.loop-target.invariant (w.if-is_led_by.ensures.0 refl) w.hold.new.marks w.in_ok-hold.ensures
          (subst (λ l. get_or l place 0 < length asks) (sym (c.as_slice-target-items.ensures ∙ c.index-asks-from.is ∙ get_or_default asks from c.index-asks-from.result [] c.requires.from))
          (All-get_or (λ t. t < length asks) (get_or asks from []) place 0 (omega (arith, inside, ap length (c.as_slice-target-items.ensures ∙ c.index-asks-from.is ∙ get_or_default asks from c.index-asks-from.result [] c.requires.from)))
          (All-get_or (ArePlacesIn asks) asks from [] c.requires.from c.requires.asks))))
      | else-is_led_by w ↦ elim w.else-is_led_by.branch [
        | else-is_led_by-via-then-is_led_by+else-are_together v ↦
            passes_target asks homes first from targets place old c.loop-target.invariant (λ by together. true≢false (sym (v.if-are_together.ensures.1 together))) new w.marks-is
        | else-is_led_by-via-else-is_led_by v ↦
            passes_target asks homes first from targets place old c.loop-target.invariant (λ by together. true≢false (sym (v.if-is_led_by.ensures.1 by))) new w.marks-is
      ]
    ]

pub returns-clause-none : goal.returns-clause-none
returns-clause-none c = none_left c.args.asks.now c.args.homes.now c.loop-target.marks c.args.from c.as_slice-target-items.result.now c.loop-target.invariant.standing
    (c.as_slice-target-items.ensures ∙ c.index-asks-from.is ∙ get_or_default c.args.asks.now c.args.from c.index-asks-from.result [] c.requires.from)
    (λ k h. c.loop-target.invariant.none k (omega (arith, h, c.loop-target-test.false)))
