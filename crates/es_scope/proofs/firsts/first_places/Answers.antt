use Rattle.es_scope.proofs.Placing.{item_at}
use Rattle.es_scope.proofs.Following.{none_open, one_passed}
use Rattle.es_scope.proofs.FirstPlaces.{no_place, one_place, all_places, none_known, one_known}
use Rattle.es_scope.proofs.firsts.first_places.Goals as goal

pub loop-place-init : goal.loop-place-init
loop-place-init c = record {
  open_parts = none_open c.args.outlined.now.marks c.new-open.result c.new-open.ensures;
  first = no_place c.args.outlined.now c.args.names.now.texts c.new-firsts.result c.new-firsts.ensures;
  named = none_known c.args.names.now.texts c.new-firsts.result c.new-firsts.ensures;
}

pub loop-place-preserved : goal.loop-place-preserved
loop-place-preserved c = record {
  open_parts = one_passed c.args.outlined.now.marks c.loop-place.place _ c.loop-place.open c.pass.new.self c.loop-place.invariant.open_parts
      (item_at c.args.outlined.now.marks c.marks-mark-items.result.now c.loop-place.place _ c.marks-mark-items.ensures c.loop-place-test.true) c.in_ok-pass.ensures;
  first = one_place c.args.outlined.now c.args.names.now.texts c.args.names.now.numbers.items c.args.names.now.arguments c.requires.numbered c.requires.arguments c.loop-place.place
      c.loop-place.firsts c.tell_declared.new.firsts c.in_ok-tell_declared.ensures c.loop-place.invariant.first;
  named = one_known c.args.outlined.now c.args.names.now.texts c.args.names.now.numbers.items c.args.names.now.arguments c.requires.numbered c.requires.arguments c.loop-place.place
      c.loop-place.firsts c.tell_declared.new.firsts c.in_ok-tell_declared.ensures c.loop-place.invariant.named;
}

pub returns-clause-firsts : goal.returns-clause-firsts
returns-clause-firsts c =
    all_places c.args.outlined.now c.args.names.now.texts c.loop-place.firsts c.marks-mark-items.result.now c.loop-place.place c.marks-mark-items.ensures c.loop-place-test.false
    c.loop-place.auto.place-end c.loop-place.invariant.first
