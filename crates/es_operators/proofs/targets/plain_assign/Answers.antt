use Rattle.std.proofs.Common.{sym, subst}
use Rattle.es_trace.specs.Basics.{Traces}
use Rattle.es_operators.proofs.Passing.{assign_gives_way, postfix_gives_way}
use Rattle.es_operators.proofs.targets.plain_assign.Goals as goal

pub returns-then-has_passed-clause-traces : goal.returns-then-has_passed-clause-traces
returns-then-has_passed-clause-traces g c =
    let same = assign_gives_way c.args.cursor.now c.args.knot.now.nest c.args.c c.args.at c.args.token c.requires.first c.args.outline.now.marks
    (c.has_passed.ensures c.if-has_passed.true) in
    subst (λ x. Traces x c.other_assign.new.outline.marks c.other_assign.result) (sym same) c.other_assign.ensures.traces

pub returns-then-has_passed-2-clause-traces : goal.returns-then-has_passed-2-clause-traces
returns-then-has_passed-2-clause-traces g c =
    let same = postfix_gives_way c.args.cursor.now c.args.knot.now.nest c.args.c c.args.at c.args.token c.requires.first c.args.outline.now.marks
    (c.has_passed-2.ensures c.if-has_passed-2.true) in
    subst (λ x. Traces x c.postfix_assign.new.outline.marks c.postfix_assign.result) (sym same) c.postfix_assign.ensures.traces
