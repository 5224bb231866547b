use Rattle.es_scope.specs.Scopes.{arguments}
use Rattle.es_scope.proofs.Numbering.{one_number, all_numbers}
use Rattle.es_scope.proofs.Placing.{item_at}
use Rattle.es_scope.proofs.names.numbered.Goals as goal

pub loop-mark-preserved : goal.loop-mark-preserved
loop-mark-preserved c = record {
  numbered = one_number c.args.outlined.now c.loop-mark.texts c.number_at.new.texts c.loop-mark.mark-index c.in_ok-number_at.field-0 c.loop-mark.numbers.items c.push.new.self.items _
      c.loop-mark.invariant.numbered (item_at c.args.outlined.now.marks c.marks-mark-items.result.now c.loop-mark.mark-index _ c.marks-mark-items.ensures c.loop-mark-test.true)
      c.number_at.ensures.kept c.in_ok-number_at.ensures.number c.in_ok-push.ensures.items;
  arguments = c.number_at.ensures.kept arguments c.in_ok-arguments.arguments c.loop-mark.invariant.arguments;
}

pub returns-clause-numbered : goal.returns-clause-numbered
returns-clause-numbered c =
    all_numbers c.args.outlined.now c.loop-mark.texts c.loop-mark.numbers.items c.marks-mark-items.result.now c.loop-mark.mark-index c.marks-mark-items.ensures
    c.loop-mark-test.false c.loop-mark.auto.mark-index-end c.loop-mark.invariant.numbered
