use Rattle.std.proofs.Common.{◌≡◌, ◌<◌, ◌+◌, false, true≢false, [], length, get_or, sym, ap, subst, ◌∙◌, arith}
use Rattle.std.proofs.lemmas.List.{get_or_default}
use Rattle.std.proofs.lemmas.List.Elements.{Contains-get_or}
use Rattle.std.specs.List.{Contains}
use Rattle.scope_hoist.specs.Standing.{Asks}
use Rattle.scope_hoist.proofs.Requesters.{asks_read, asks_within}
use Rattle.scope_hoist.proofs.Going.{IsPassing, passes_by, passes_on, passing_ends}
use Rattle.scope_hoist.proofs.gone.pass_on.Goals as goal
use Rattle.scope_hoist.proofs.gone.pass_on.Goals.{then-target-root+then-index+in_ok-push, else-target-root, else-target-root-via-then-target-root+else-index, else-target-root-via-else-target-root}

pub loop-target-preserved : goal.loop-target-preserved
loop-target-preserved c =
    let ground = c.args.ground.now in
    let asks = ground.asks.items in
    let homes = ground.homes.items in
    let root = c.args.root in
    let from = c.args.from in
    let first = c.args.marks.now in
    let old = c.loop-target.marks in
    let new = c.if-target-root.marks in
    let place = c.loop-target.target-index in
    let targets = c.as_slice-target-items.result.now in
    let before = c.args.gone.now.items in
    let gone = c.loop-target.gone.items in
    let now = c.if-target-root.gone.items in
    let inside : place < length targets = c.loop-target-test.true in
    let read : targets ≡ get_or asks from [] = asks_read ground c.requires.ground from c.index.result.now targets c.requires.from c.index.ensures c.as_slice-target-items.ensures in
    let low : get_or targets place 0 < length asks = asks_within ground c.requires.ground from place targets read c.requires.from inside in
    let within : get_or targets place 0 < length old.held.items = omega (arith, low, c.loop-target.invariant.standing.each_held) in
    let asking : Asks asks from (get_or targets place 0) = subst (λ l. Contains l (get_or targets place 0)) read (Contains-get_or targets place 0 inside) in
    elim c.if-target-root.branch [
      | then-target-root+then-index+in_ok-push w ↦
          subst (IsPassing asks homes root from targets (place + 1) first c.if-target-root.marks before) (sym (ap (λ v. v.items) w.gone-is))
          (subst (λ m. IsPassing asks homes root from targets (place + 1) first m before w.push.new.self.items) (sym w.marks-is)
          (passes_on asks homes root from targets place first old w.let_go.new.marks before gone w.push.new.self.items c.loop-target.invariant w.let_go.ensures w.in_ok-push.ensures.items
          w.if-target-root.true (get_or_default old.held.items (get_or targets place 0) false w.index-then-target-root.result.now within ∙ sym w.index-then-target-root.ensures ∙ w.if-index.true) low asking))
      | else-target-root w ↦ elim w.else-target-root.branch [
        | else-target-root-via-then-target-root+else-index v ↦
            passes_by asks homes root from targets place first old c.if-target-root.marks before gone now c.loop-target.invariant w.marks-is (ap (λ x. x.items) w.gone-is) (λ ne is.
            true≢false (sym is ∙ (get_or_default old.held.items (get_or targets place 0) false v.index-then-target-root.result.now within ∙ sym v.index-then-target-root.ensures ∙ v.if-index.false)))
        | else-target-root-via-else-target-root v ↦
            passes_by asks homes root from targets place first old c.if-target-root.marks before gone now c.loop-target.invariant w.marks-is (ap (λ x. x.items) w.gone-is) (λ ne is. ne v.if-target-root.false)
      ]
    ]

pub returns : goal.returns
returns c =
    let ground = c.args.ground.now in
    let targets = c.as_slice-target-items.result.now in
    passing_ends ground.asks.items ground.homes.items c.args.root c.args.from targets c.loop-target.target-index c.args.marks.now c.loop-target.marks c.args.gone.now.items c.loop-target.gone.items
    c.loop-target.invariant (asks_read ground c.requires.ground c.args.from c.index.result.now targets c.requires.from c.index.ensures c.as_slice-target-items.ensures)
    (omega (arith, c.loop-target-test.false))
