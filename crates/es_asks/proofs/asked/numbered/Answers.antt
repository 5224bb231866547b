use Rattle.std.proofs.Common.{◌<◌, length, subst, arith}
use Rattle.es_outline.specs.Outline.{Marks}
use Rattle.es_asks.proofs.AskedLaws.{asks_once}
use Rattle.es_asks.proofs.Passed.{none_asked, one_passed}
use Rattle.es_asks.proofs.asked.numbered.Goals as goal

pub loop-place-init : goal.loop-place-init
loop-place-init c = record {
  asked = none_asked c.args.outlined.now c.args.requests.now.items.items c.in_ok-numbers.numbers.items c.requires.none c.in_ok-numbers.ensures.items;
  keyed = c.requires.keyed;
}

pub loop-place-preserved : goal.loop-place-preserved
loop-place-preserved c = record {
  asked = one_passed c.args.outlined.now
      (λ place request other h also. asks_once c.args.outlined.now c.args.scopes.now c.args.forwarded.now c.requires.scopes c.requires.forwarded place request other h also)
      c.loop-place.place c.loop-place.requests.items.items c.loop-place.numbers.items c.push.new.self.items c.loop-place.invariant.asked
      c.number_at.new.requests.items.items c.in_ok-number.number c.in_ok-number.ensures.passes c.in_ok-push.ensures.items;
  keyed = c.in_ok-number.ensures.keyed;
}

pub number_at-requires-clause-few : goal.number_at-requires-clause-few
number_at-requires-clause-few c =
    let few = c.loop-place.invariant.asked.firsts.few in
    let inside : c.loop-place.place < length c.args.outlined.now.marks =
    subst (λ (marks : Marks). c.loop-place.place < length marks) c.marks-place-end.ensures c.loop-place-test.true in
    let short = c.requires.short in
    omega arith
