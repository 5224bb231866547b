use Rattle.std.proofs.Common.{Err, sym, subst}
use Rattle.es_trace.specs.Basics.{Traces}
use Rattle.es_trace.specs.Expressions.{trace_parts}
use Rattle.es_trace.specs.Tying.{tracers_to}
use Rattle.es_cursor.specs.declared.passed.Attempt.TheVariants as attempt
use Rattle.es_cursor.specs.Giving.{GivesWay}
use Rattle.es_operators.proofs.Passing.{no_assign, tried}
use Rattle.es_operators.proofs.targets.try_assign.Goals as goal

pub pass-requires : goal.pass-requires
pass-requires g c =
    let none = subst (λ f. Traces (trace_parts c.args.cursor.now (tracers_to c.args.cursor.now c.args.knot.now.nest) c.args.c
    c.keep-before.new.self.marks c.args.at) c.trace_parts.new.outline.marks (Err f)) c.in-Err-Syntax.field-0-is c.in-Err-Syntax.ensures.traces in
    let gives = no_assign c.args.cursor.now c.args.knot.now.nest c.args.c c.args.at c.args.token c.requires.first c.keep-before.new.self.marks none in
    subst (λ text. GivesWay text (tried attempt.Assign c.args.knot.now.nest c.args.c c.args.at)) (sym c.in-Err-Syntax.ensures.same) gives
