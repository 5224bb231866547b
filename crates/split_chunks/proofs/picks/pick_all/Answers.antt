use Rattle.std.proofs.Common.{[], length, subst}
use Rattle.pk_types.specs.Splitting.{ended}
use Rattle.split_chunks.specs.States.{state_of}
use Rattle.split_chunks.specs.Picking.{IsPicked, IsStep}
use Rattle.split_chunks.proofs.PickSteps.{held_sound, held_after, goes_on, fewer_left}
use Rattle.split_chunks.proofs.picks.pick_all.Goals as goal

pub step-requires-clause-sound : goal.step-requires-clause-sound
step-requires-clause-sound c = held_sound (length c.args.graph.now.rows) (state_of c.loop-state.state) c.loop-state.invariant.held

pub loop-state-smaller : goal.loop-state-smaller
loop-state-smaller c =
    fewer_left c.args.graph.now c.args.config.now (state_of c.loop-state.state) c.in-Some.next (subst (IsStep c.args.graph.now c.args.config.now (state_of c.loop-state.state)) c.in-Some.is c.in_ok-next.ensures)

pub loop-state-preserved : goal.loop-state-preserved
loop-state-preserved c =
    let graph = c.args.graph.now in
    let config = c.args.config.now in
    let state = state_of c.loop-state.state in
    let step : IsPicked graph config state c.in-Some.next = subst (IsStep graph config state) c.in-Some.is c.in_ok-next.ensures in
    record {
      held = held_after graph config state c.loop-state.invariant.held c.in-Some.next step;
      goes_on = λ last from. c.loop-state.invariant.goes_on last (goes_on graph config state c.loop-state.invariant.held c.in-Some.next step last from);
    }

pub returns-clause-picks : goal.returns-clause-picks
returns-clause-picks c =
    let graph = c.args.graph.now in
    let config = c.args.config.now in
    let state = state_of c.loop-state.state in
    c.loop-state.invariant.goes_on state ([], ended state (subst (IsStep graph config state) c.in_default.is c.in_ok-next.ensures))
