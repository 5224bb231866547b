use Rattle.std.proofs.Common.{Err, sym, subst}
use Rattle.es_trace.specs.Basics.{Traces}
use Rattle.es_trace.specs.Expressions.{trace_parts}
use Rattle.es_trace.specs.Tying.{tracers_to}
use Rattle.es_cursor.specs.declared.passed.Attempt.TheVariants as attempt
use Rattle.es_cursor.specs.Giving.{GivesWay}
use Rattle.es_operators.specs.Giving.{GivesWayAtPostfix}
use Rattle.es_operators.proofs.Passing.{no_operand, no_operand_behind, tried}
use Rattle.es_operators.proofs.operands.try_operand.Goals as goal

pub operand_behind-requires-clause-gives : goal.operand_behind-requires-clause-gives
operand_behind-requires-clause-gives g c =
    let gives = no_operand_behind c.args.cursor.now c.args.knot.now.nest c.args.c c.args.at c.args.token c.requires.first
    c.keep-before.new.self.marks c.trace_parts.new.outline.marks c.in-Ok.chain c.in-Ok.ensures.traces in
    subst (λ text. GivesWayAtPostfix text c.in-Ok.chain (tried attempt.Operand c.args.knot.now.nest c.args.c c.args.at)) (sym c.in-Ok.ensures.same) gives

pub pass-requires : goal.pass-requires
pass-requires g c =
    let none = subst (λ f. Traces (trace_parts c.args.cursor.now (tracers_to c.args.cursor.now c.args.knot.now.nest) c.args.c
    c.keep-before.new.self.marks c.args.at) c.trace_parts.new.outline.marks (Err f)) c.in-Err-Syntax.field-0-is c.in-Err-Syntax.ensures.traces in
    let gives = no_operand c.args.cursor.now c.args.knot.now.nest c.args.c c.args.at c.args.token c.requires.first c.keep-before.new.self.marks none in
    subst (λ text. GivesWay text (tried attempt.Operand c.args.knot.now.nest c.args.c c.args.at)) (sym c.in-Err-Syntax.ensures.same) gives
