use Rattle.std.proofs.Common.{◌<◌, length, Some, sym, subst}
use Rattle.pk_types.proofs.SplitLaws.{modules_in_range}
use Rattle.split_chunks.specs.States.{state_of}
use Rattle.split_chunks.specs.Choices.{candidate_of, IsSoFar, IsBetter}
use Rattle.split_chunks.proofs.Lists.{all_of}
use Rattle.split_chunks.proofs.Standing.{loads_below}
use Rattle.split_chunks.proofs.Turning.{moves_sound}
use Rattle.split_chunks.proofs.Orders.{better_first, better_ahead, better_behind}
use Rattle.split_chunks.proofs.picks.better.Goals.{in-Some+else-not-is_ahead, in_default}
use Rattle.split_chunks.proofs.picks.better.Goals as goal

pub is_ahead-requires-clause-within : goal.is_ahead-requires-clause-within
is_ahead-requires-clause-within c =
    let graph = c.args.graph.now in
    let config = c.args.config.now in
    let state = state_of c.args.state.now in
    all_of (λ member. member < length graph.rows) c.args.choice.modules.now (modules_in_range graph config state (candidate_of c.args.choice) c.requires.choice.is)

pub is_ahead-requires-clause-some : goal.is_ahead-requires-clause-some
is_ahead-requires-clause-some c =
    let graph = c.args.graph.now in
    let config = c.args.config.now in
    let state = state_of c.args.state.now in
    (moves_sound graph config state (candidate_of c.args.choice) c.requires.sound c.requires.choice.is).some

pub is_ahead-requires-clause-other_within : goal.is_ahead-requires-clause-other_within
is_ahead-requires-clause-other_within c =
    let graph = c.args.graph.now in
    let config = c.args.config.now in
    let state = state_of c.args.state.now in
    let so_far = subst (IsSoFar graph config state) c.in-Some.is c.requires.best in
    all_of (λ member. member < length graph.rows) c.in-Some.best.modules.now (modules_in_range graph config state (candidate_of c.in-Some.best) so_far.0.is_candidate)

pub is_ahead-requires-clause-other_some : goal.is_ahead-requires-clause-other_some
is_ahead-requires-clause-other_some c =
    let graph = c.args.graph.now in
    let config = c.args.config.now in
    let state = state_of c.args.state.now in
    let so_far = subst (IsSoFar graph config state) c.in-Some.is c.requires.best in
    (moves_sound graph config state (candidate_of c.in-Some.best) c.requires.sound so_far.0.is_candidate).some

pub returns-then-not-is_ahead : goal.returns-then-not-is_ahead
returns-then-not-is_ahead c =
    let graph = c.args.graph.now in
    let config = c.args.config.now in
    let state = state_of c.args.state.now in
    let so_far = subst (IsSoFar graph config state) c.in-Some.is c.requires.best in
    subst (λ z. IsBetter graph config state z c.args.choice (Some c.in-Some.best)) (sym c.in-Some.is)
    (better_behind graph config state c.requires.fits.labels c.requires.named c.args.choice c.requires.choice.bytes c.in-Some.best so_far c.requires.choice.is (c.is_ahead.ensures.behind c.if-not-is_ahead.true))

pub qualifies-requires-clause-loads : goal.qualifies-requires-clause-loads
qualifies-requires-clause-loads c = loads_below (length c.args.graph.now.rows) (state_of c.args.state.now) c.requires.sound

pub qualifies-requires-clause-moves : goal.qualifies-requires-clause-moves
qualifies-requires-clause-moves c =
    let graph = c.args.graph.now in
    let config = c.args.config.now in
    let state = state_of c.args.state.now in
    moves_sound graph config state (candidate_of c.args.choice) c.requires.sound c.requires.choice.is

pub returns-then-branch : goal.returns-then-branch
returns-then-branch c =
    let graph = c.args.graph.now in
    let config = c.args.config.now in
    let state = state_of c.args.state.now in
    let good = (c.in_ok-qualifies.ensures graph c.requires.choice).0 c.if-branch.true in
    elim c.match-best.branch [
      | in-Some+else-not-is_ahead w ↦ subst (λ z. IsBetter graph config state z c.args.choice (Some c.args.choice)) (sym w.in-Some.is)
          (better_ahead graph config state c.requires.fits.labels c.requires.named c.args.choice c.requires.choice.bytes w.in-Some.best (subst (IsSoFar graph config state) w.in-Some.is c.requires.best) good
          (w.is_ahead.ensures.ahead w.if-not-is_ahead.false))
      | in_default w ↦ subst (λ z. IsBetter graph config state z c.args.choice (Some c.args.choice)) (sym w.in_default.is)
          (better_first graph config state c.requires.fits.labels c.requires.named c.args.choice c.requires.choice.bytes good)
    ]
