use Rattle.std.proofs.Common.{Err, sym, subst}
use Rattle.es_trace.specs.Basics.{Traces}
use Rattle.es_trace.specs.Operators as spec
use Rattle.es_trace.specs.Tying.{tracers_to}
use Rattle.es_cursor.specs.declared.passed.Attempt.TheVariants as attempt
use Rattle.es_cursor.specs.Giving.{GivesWay}
use Rattle.es_operators.proofs.Passing.{async_head_gives_way, async_head_passed, tried}
use Rattle.es_operators.proofs.arrows.try_async_head.Goals as goal

pub returns-then-has_passed-clause-traces : goal.returns-then-has_passed-clause-traces
returns-then-has_passed-clause-traces g c =
    async_head_gives_way c.args.cursor.now c.args.knot.now.nest c.args.c c.args.at c.args.word c.requires.first c.args.outline.now.marks
    (c.has_passed.ensures c.if-has_passed.true)

pub pass-requires : goal.pass-requires
pass-requires g c =
    let none = subst (λ f. Traces (spec.async_head c.args.cursor.now (tracers_to c.args.cursor.now c.args.knot.now.nest) c.args.c
    c.args.outline.now.marks c.args.word) c.async_head_or_back.new.outline.marks (Err f)) c.in-Err-Syntax.field-0-is c.in-Err-Syntax.ensures.traces in
    let passed = async_head_passed c.args.cursor.now c.args.knot.now.nest c.args.c c.args.at c.args.word c.requires.first c.args.outline.now.marks none in
    subst (λ text. GivesWay text (tried attempt.AsyncHead c.args.knot.now.nest c.args.c c.args.at)) (sym c.in-Err-Syntax.ensures.same) passed
