use Rattle.std.proofs.Common.{rules, arith, ◌≡◌, ◌+◌, ◌∙◌, Some, Err, codes, refl, subst}
use Rattle.es_tree.specs.declared.tokens.Goal.TheVariants.{Operand}
use Rattle.es_reader.specs.Basics.{Reads, mark}
use Rattle.es_trace.specs.Basics.{Traces}
use Rattle.es_trace.specs.Targets.{closing, trace_bare}
use Rattle.es_trace.specs.Tying.{tracers_to}
use Rattle.es_targets.proofs.Closing.{ends_here, fails_here, goes_deeper, no_more}
use Rattle.es_targets.proofs.parens.trace_paren_target.Goals as goal

pub returns-in-Ok-clause-traces : goal.returns-in-Ok-clause-traces
returns-in-Ok-clause-traces g c =
    let here = ends_here c.loop-turn.cursor (tracers_to c.loop-turn.cursor c.args.knot.now.nest) c.args.c (c.len-turn-end.result + 1) c.loop-turn.turn
    (omega arith) c.loop-turn.outline.marks c.loop-turn.place c.try_bare.new.outline.marks c.in-Ok.end c.in-Ok.ensures.traces in
    let all = c.loop-turn.invariant.3 ∙ here in
    let closes = subst (λ text. Traces (closing text (c.loop-turn.turn + 1) c.try_bare.new.outline.marks c.in-Ok.end) c.closing.new.outline.marks c.closing.result)
    c.in-Ok.ensures.same c.closing.ensures.traces in
    rw all closes

pub returns-in_err-deeper-in-Err-Syntax-clause-traces : goal.returns-in_err-deeper-in-Err-Syntax-clause-traces
returns-in_err-deeper-in-Err-Syntax-clause-traces g c =
    let none = subst (λ f. Traces (trace_bare c.loop-turn.cursor (tracers_to c.loop-turn.cursor c.args.knot.now.nest) c.args.c c.loop-turn.outline.marks
    c.loop-turn.place) c.try_bare.new.outline.marks (Err f)) c.in-Err-Syntax.field-0-is c.in-Err-Syntax.ensures.traces in
    let reads = subst (λ text. Reads (mark text Operand (codes "(") c.loop-turn.place) (Err c.in_err-deeper-in-Err-Syntax.field-0.0))
    c.in-Err-Syntax.ensures.same c.in_err-deeper-in-Err-Syntax.ensures.reads in
    let r = fails_here c.loop-turn.cursor (tracers_to c.loop-turn.cursor c.args.knot.now.nest) c.args.c (c.len-turn-end.result + 1) c.loop-turn.turn
    (omega arith) c.loop-turn.outline.marks c.loop-turn.place _ c.try_bare.new.outline.marks c.in_err-deeper-in-Err-Syntax.field-0.0
    c.loop-turn.invariant.3 none reads in
    search rules

pub loop-turn-preserved : goal.loop-turn-preserved
loop-turn-preserved g c =
    let same = c.in-Err-Syntax.ensures.same in
    let back = c.in-Err-Syntax.ensures.back in
    let kept = c.in_ok-deeper-in-Err-Syntax.ensures.kept in
    let marks = c.in_ok-role-in-Err-Syntax.ensures.marks in
    let lies = c.in_ok-deeper-in-Err-Syntax.ensures.lies in
    let none = subst (λ f. Traces (trace_bare c.loop-turn.cursor (tracers_to c.loop-turn.cursor c.args.knot.now.nest) c.args.c c.loop-turn.outline.marks
    c.loop-turn.place) c.try_bare.new.outline.marks (Err f)) c.in-Err-Syntax.field-0-is c.in-Err-Syntax.ensures.traces in
    let there = subst (λ text. mark text Operand (codes "(") c.loop-turn.place ≡ Some c.in_ok-deeper-in-Err-Syntax.deeper) same
    c.in_ok-deeper-in-Err-Syntax.ensures.reads in
    let deep = goes_deeper c.loop-turn.cursor (tracers_to c.loop-turn.cursor c.args.knot.now.nest) c.args.c (c.len-turn-end.result + 1) c.loop-turn.turn
    (omega arith) c.loop-turn.outline.marks c.loop-turn.place c.in_ok-deeper-in-Err-Syntax.deeper none there in (
      cc (c.loop-turn.invariant.0, same, kept),
      cc (c.loop-turn.invariant.1, c.in-Err-Syntax.ensures.kept, c.in_ok-role-in-Err-Syntax.ensures.kept),
      rw kept (record { short = lies.short; inside = lies.inside }),
      rw (kept, same, marks, back) (c.loop-turn.invariant.3 ∙ rw deep refl),
    )

pub returns-clause-traces : goal.returns-clause-traces
returns-clause-traces g c = c.loop-turn.invariant.3
    ∙ no_more c.loop-turn.cursor (tracers_to c.loop-turn.cursor c.args.knot.now.nest) c.args.c (c.len-turn-end.result + 1) c.loop-turn.turn
    c.loop-turn.outline.marks c.loop-turn.place (omega arith)
