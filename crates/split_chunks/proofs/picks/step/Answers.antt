use Rattle.std.proofs.Common.{◌<◌, length, sym, subst}
use Rattle.std.specs.List.{All}
use Rattle.pk_types.proofs.SplitLaws.{modules_in_range}
use Rattle.split_chunks.specs.States.{state_of}
use Rattle.split_chunks.specs.Choices.{candidate_of}
use Rattle.split_chunks.specs.Picking.{IsBest}
use Rattle.split_chunks.proofs.Lists.{all_of}
use Rattle.split_chunks.proofs.Turning.{moves_sound}
use Rattle.split_chunks.proofs.picks.step.Goals as goal

pub apply-requires-clause-moves : goal.apply-requires-clause-moves
apply-requires-clause-moves c =
    let graph = c.args.graph.now in
    let config = c.args.config.now in
    let state = state_of c.args.state.now in
    let best = subst (IsBest graph config state) c.in-Some.is c.in_ok-choice.ensures in
    moves_sound graph config state (candidate_of c.in-Some.choice) c.requires.sound best.so_far.0.is_candidate

pub apply-requires-clause-modules : goal.apply-requires-clause-modules
apply-requires-clause-modules c =
    let graph = c.args.graph.now in
    let config = c.args.config.now in
    let state = state_of c.args.state.now in
    let best = subst (IsBest graph config state) c.in-Some.is c.in_ok-choice.ensures in
    subst (λ n. All (λ member. member < n) c.in-Some.choice.modules.now) (sym c.len.ensures)
    (all_of (λ member. member < length graph.rows) c.in-Some.choice.modules.now (modules_in_range graph config state (candidate_of c.in-Some.choice) best.so_far.0.is_candidate))
