use Rattle.std.proofs.Common.{rules, arith, ◌∙◌}
use Rattle.es_targets.proofs.Closing.{closes_all, closes_none, closes_one}
use Rattle.es_targets.proofs.parens.closing.Goals as goal

pub returns-in_err-right-clause-traces : goal.returns-in_err-right-clause-traces
returns-in_err-right-clause-traces c =
    let r = closes_none c.loop-turn.cursor c.args.count c.loop-turn._turn c.loop-turn.outline.marks c.loop-turn.place _ c.loop-turn.outline.marks
    c.in_err-right.field-0.0 c.loop-turn.invariant.3 (omega arith) c.in_err-right.ensures.reads in
    search rules

pub loop-turn-preserved : goal.loop-turn-preserved
loop-turn-preserved c =
    let one = closes_one c.loop-turn.cursor c.args.count c.loop-turn._turn c.loop-turn.outline.marks c.loop-turn.place c.in_ok-right.right (omega arith)
    c.in_ok-right.ensures.reads in
    let kept = c.in_ok-right.ensures.kept in
    let marks = c.in_ok-role.ensures.marks in (
      cc (c.loop-turn.invariant.0, kept),
      cc (c.loop-turn.invariant.1, c.in_ok-role.ensures.kept),
      rw kept (record { short = c.in_ok-right.ensures.lies.short; inside = c.in_ok-right.ensures.lies.inside }),
      rw (kept, marks) (c.loop-turn.invariant.3 ∙ one),
    )

pub returns-clause-traces : goal.returns-clause-traces
returns-clause-traces c = c.loop-turn.invariant.3 ∙ closes_all c.loop-turn.cursor c.args.count c.loop-turn._turn _ _ (omega arith)
