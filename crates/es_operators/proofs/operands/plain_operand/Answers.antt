use Rattle.std.proofs.Common.{sym, subst}
use Rattle.es_trace.specs.Basics.{Traces}
use Rattle.es_operators.proofs.Passing.{operand_gives_way}
use Rattle.es_operators.proofs.operands.plain_operand.Goals as goal

pub returns-then-has_passed-clause-traces : goal.returns-then-has_passed-clause-traces
returns-then-has_passed-clause-traces g c =
    let same = operand_gives_way c.args.cursor.now c.args.knot.now.nest c.args.c c.args.at c.args.token c.requires.first c.args.outline.now.marks
    (c.has_passed.ensures c.if-has_passed.true) in
    subst (λ x. Traces x c.other_postfix.new.outline.marks c.other_postfix.result) (sym same) c.other_postfix.ensures.traces
