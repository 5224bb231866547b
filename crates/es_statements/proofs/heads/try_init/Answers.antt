use Rattle.std.proofs.Common.{◌≡◌, None, Err, sym, subst}
use Rattle.es_grammar.specs.declared.places.Context.{Context}
use Rattle.es_trace.specs.Basics.{Traces}
use Rattle.es_trace.specs.Statements.{init_expr}
use Rattle.es_trace.specs.Tying.{tracers_to}
use Rattle.es_cursor.specs.Giving.{GivesWay}
use Rattle.es_statements.proofs.Passing.{init_passed, tried}
use Rattle.es_statements.proofs.heads.try_init.Goals as goal

pub pass-requires : goal.pass-requires
pass-requires g c =
    let none = subst (λ f. Traces (init_expr c.args.cursor.now (tracers_to c.args.cursor.now c.args.knot.now.nest) c.without_in.result
    c.keep-before.new.self.marks c.args.at) c.init_expr.new.outline.marks (Err f)) c.in-Err-Syntax.field-0-is c.in-Err-Syntax.ensures.traces in
    let there = subst (λ (k : Context). init_expr c.args.cursor.now (tracers_to c.args.cursor.now c.args.knot.now.nest) k
    c.keep-before.new.self.marks c.args.at ≡ None) c.without_in.ensures none in
    subst (λ text. GivesWay text (tried c.args.knot.now.nest c.args.c c.args.at)) (sym c.in-Err-Syntax.ensures.same)
    (init_passed c.args.cursor.now c.args.knot.now.nest c.args.c c.keep-before.new.self.marks c.args.at there)
