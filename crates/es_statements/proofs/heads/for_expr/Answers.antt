use Rattle.std.proofs.Common.{sym, subst}
use Rattle.es_trace.specs.Basics.{Traces}
use Rattle.es_statements.proofs.Passing.{init_gives_way}
use Rattle.es_statements.proofs.heads.for_expr.Goals as goal

pub returns-then-has_passed-clause-traces : goal.returns-then-has_passed-clause-traces
returns-then-has_passed-clause-traces g c =
    let same = init_gives_way c.args.cursor.now c.args.knot.now.nest c.args.c c.args.outline.now.marks c.args.at c.requires.behind
    (c.has_passed.ensures c.if-has_passed.true) in
    subst (λ x. Traces x c.for_target.new.outline.marks c.for_target.result) (sym same) c.for_target.ensures.traces
