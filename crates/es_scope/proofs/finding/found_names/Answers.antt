use Rattle.es_scope.specs.Firsts.{told}
use Rattle.es_scope.proofs.Placing.{item_at}
use Rattle.es_scope.proofs.Following.{none_open, one_passed}
use Rattle.es_scope.proofs.FoundTable.{no_answer, one_answer, all_answers}
use Rattle.es_scope.proofs.finding.found_names.Goals as goal

pub loop-place-init : goal.loop-place-init
loop-place-init c = record {
  open_parts = none_open c.args.outlined.now.marks c.new-open.result c.new-open.ensures;
  answers = no_answer c.args.outlined.now c.args.names.now.texts c.args.names.now.numbers.items (told c.args.firsts.now) c.in_ok-table.table.items c.in_ok-table.ensures.items;
}

pub loop-place-preserved : goal.loop-place-preserved
loop-place-preserved c =
    let at = item_at c.args.outlined.now.marks c.marks-mark-items.result.now c.loop-place.place _ c.marks-mark-items.ensures c.loop-place-test.true in
    record {
      open_parts = one_passed c.args.outlined.now.marks c.loop-place.place _ c.loop-place.open c.pass.new.self c.loop-place.invariant.open_parts at c.in_ok-pass.ensures;
      answers = one_answer c.args.outlined.now c.args.names.now.texts c.args.names.now.numbers.items (told c.args.firsts.now) c.loop-place.place c.loop-place.table.items
          c.push.new.self.items c.found_at.result _ c.loop-place.open c.loop-place.invariant.answers at c.loop-place.invariant.open_parts c.found_at.ensures c.in_ok-push.ensures.items;
    }

pub returns : goal.returns
returns c =
    all_answers c.args.outlined.now c.args.names.now.texts c.args.names.now.numbers.items (told c.args.firsts.now) c.requires.numbered c.requires.firsts c.loop-place.table.items
    c.marks-mark-items.result.now c.loop-place.place c.marks-mark-items.ensures c.loop-place-test.false c.loop-place.auto.place-end c.loop-place.invariant.answers
