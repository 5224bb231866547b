use Rattle.std.proofs.Common.{◌<◌, length, subst, ◌∙◌, arith}
use Rattle.std.proofs.lemmas.List.{get_or_default}
use Rattle.scope_hoist.specs.Steps.{LeadsNone}
use Rattle.scope_hoist.proofs.Standing.{holds_standing}
use Rattle.scope_hoist.proofs.Holding.{root_held, more_held, gone_through_more, all_apart}
use Rattle.scope_hoist.proofs.held.hold_all.Goals as goal

pub loop-place-init : goal.loop-place-init
loop-place-init c =
    let old = c.args.marks.now in
    let new = c.hold.new.marks in
    let holds = c.in_ok-hold.ensures in
    let standing = c.requires.standing in
    let root = c.args.root in
    let inside : root < length old.held.items = omega (arith, c.requires.root, standing.each_held) in
    let within : root < length old.witness.items = omega (arith, c.requires.root, standing.each_witness) in
    record {
      standing = holds_standing old new root holds inside within c.args.asks.now c.args.homes.now standing;
      all = root_held old new root holds inside within;
      through = record { within = omega arith; none = λ k h. absurd (omega (arith, h)) };
    }

pub loop-place-preserved : goal.loop-place-preserved
loop-place-preserved c =
    let old = c.loop-place.marks in
    let new = c.take_back.new.marks in
    let place = c.loop-place.place in
    let so_far = c.loop-place.invariant in
    let inside : place < length old.list.items = omega (arith, c.loop-place-test.true, c.len.ensures) in
    let ensures = c.in_ok-take_back.ensures in
    record {
      standing = ensures.standing;
      all = more_held c.args.marks.now old new c.args.root so_far.all ensures.more;
      through = gone_through_more c.args.homes.now old new place so_far.through inside ensures.more
          (subst (LeadsNone c.args.homes.now new) (c.index-from.ensures ∙ get_or_default old.list.items place c.index-from.result.now 0 inside) ensures.none);
    }

pub returns-clause-apart : goal.returns-clause-apart
returns-clause-apart c = all_apart c.args.asks.now c.args.homes.now c.loop-place.marks c.loop-place.place c.loop-place.invariant.standing c.loop-place.invariant.through
    (omega (arith, c.loop-place-test.false, c.len.ensures))
