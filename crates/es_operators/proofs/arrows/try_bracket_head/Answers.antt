use Rattle.std.proofs.Common.{Err, sym, subst}
use Rattle.es_grammar.specs.declared.places.Context.{Context}
use Rattle.es_trace.specs.Basics.{Traces}
use Rattle.es_trace.specs.Operators as spec
use Rattle.es_trace.specs.Tying.{tracers_to}
use Rattle.es_cursor.specs.declared.passed.Attempt.TheVariants as attempt
use Rattle.es_cursor.specs.Giving.{GivesWay}
use Rattle.es_operators.proofs.Passing.{list_head_gives_way, list_head_passed, tried}
use Rattle.es_operators.proofs.arrows.try_bracket_head.Goals as goal

pub returns-then-has_passed-clause-traces : goal.returns-then-has_passed-clause-traces
returns-then-has_passed-clause-traces g c =
    let gives = subst (λ (k : Context). GivesWay c.args.cursor.now (tried attempt.ListHead c.args.knot.now.nest k c.args.at))
    c.in_arrow.ensures (c.has_passed.ensures c.if-has_passed.true) in
    list_head_gives_way c.args.cursor.now c.args.knot.now.nest c.args.c c.args.at c.args.left c.requires.first c.args.outline.now.marks gives

pub pass-requires : goal.pass-requires
pass-requires g c =
    let none = subst (λ f. Traces (spec.bracket_head c.args.cursor.now (tracers_to c.args.cursor.now c.args.knot.now.nest) c.args.c
    c.args.outline.now.marks c.args.left) c.bracket_head_or_back.new.outline.marks (Err f)) c.in-Err-Syntax.field-0-is c.in-Err-Syntax.ensures.traces in
    let passed = list_head_passed c.args.cursor.now c.args.knot.now.nest c.args.c c.args.at c.args.left c.requires.first c.args.outline.now.marks none in
    let there = subst (λ (k : Context). GivesWay c.args.cursor.now (tried attempt.ListHead c.args.knot.now.nest k c.args.at))
    (sym c.in_arrow.ensures) passed in
    subst (λ text. GivesWay text (tried attempt.ListHead c.args.knot.now.nest c.in_arrow.result c.args.at)) (sym c.in-Err-Syntax.ensures.same) there
