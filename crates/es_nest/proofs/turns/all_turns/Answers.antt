use Rattle.std.proofs.Common.{rules, arith, ◌+◌, ◌≤◌, ◌∙◌, length, subst}
use Rattle.es_nest.specs.Turns.{state_of}
use Rattle.es_nest.proofs.Repeating.{ends, goes_on, no_answer, no_turns}
use Rattle.es_nest.proofs.turns.all_turns.Goals as goal

pub returns-in_err-last-clause-traces : goal.returns-in_err-last-clause-traces
returns-in_err-last-clause-traces g c =
    let r = no_answer _ _ _ _ (c.len-turn-end.result + 1) c.loop-turn._turn _ c.turn.new.arg3.marks _ c.in_err-last.field-0.0 (omega arith) c.loop-turn.invariant.3
    (λ turn gives. gives _ _ _ _ _ _ c.loop-turn.invariant.0 c.in_err-last.ensures) in
    search rules

pub returns-in-Ended-clause-traces : goal.returns-in-Ended-clause-traces
returns-in-Ended-clause-traces g c = λ turn gives.
    let one = gives _ _ _ _ _ _ c.loop-turn.invariant.0 c.in_ok-last.ensures in
    c.loop-turn.invariant.3 turn gives ∙ ends turn (c.len-turn-end.result + 1) c.loop-turn._turn _ _ (omega arith) _ _ (cc (one, c.in-Ended.is))

pub loop-turn-preserved : goal.loop-turn-preserved
loop-turn-preserved g c =
    let keeps = c.requires.takes.keeps _ _ _ _ _ _ c.in_ok-last.ensures in
    let stays = keeps.stays in
    let inside = subst (λ turn. g.S.Placed.place (state_of turn) ≤ length c.loop-turn.cursor) c.in-More.is keeps.ends in (
      cc (c.loop-turn.invariant.0, stays),
      cc (c.loop-turn.invariant.1, keeps.kept),
      rw stays inside,
      λ turn gives.
          let one = gives _ _ _ _ _ _ c.loop-turn.invariant.0 c.in_ok-last.ensures in
          let held = c.loop-turn.invariant.3 turn gives in
          let goes = goes_on turn (c.len-turn-end.result + 1) c.loop-turn._turn _ _ (omega arith) _ _ (cc (one, c.in-More.is)) in
          held ∙ goes,
    )

pub returns-clause-traces : goal.returns-clause-traces
returns-clause-traces g c = λ turn gives. c.loop-turn.invariant.3 turn gives ∙ no_turns turn (c.len-turn-end.result + 1) c.loop-turn._turn _ _ (omega arith)
