use Rattle.std.proofs.Common.{◌+◌, max, [], ◌∷◌, ◌++◌, length, ap, ◌∙◌, arith}
use Rattle.std.proofs.lemmas.List.FromFn.{length-map-range_with_len}
use Rattle.pk_types.specs.SplitPicks.{chunk_after}
use Rattle.split_chunks.specs.States.{state_of}
use Rattle.split_chunks.specs.Choices.{candidate_of}
use Rattle.split_chunks.proofs.Standing.{loads_below}
use Rattle.split_chunks.proofs.apply.apply.Goals as goal

pub all_loads-requires-clause-loads : goal.all_loads-requires-clause-loads
all_loads-requires-clause-loads c = loads_below c.args.rows (state_of c.args.state.now) c.requires.sound

pub returns : goal.returns
returns c =
    let state = state_of c.args.state.now in
    let candidate = candidate_of c.args.choice.now in
    let turn = c.in_ok-turn.turn in
    let modules = c.in_ok-all_modules.ensures in
    let loads = c.in_ok-all_loads.ensures in
    let split = c.in_ok-push.ensures.items ∙ ap (λ l. l ++ turn.split ∷ []) (c.in_ok-split.ensures.items ∙ c.as_slice.ensures.value) in
    let long = ap length modules ∙ length-map-range_with_len (chunk_after state candidate turn.split) 0 (max (length state.modules) (turn.split + 1)) in
    record {
      split = turn.split;
      into = c.in_ok-turn.ensures.split;
      is_after = λ i. record { entries = state.entries; modules = modules i; loads = loads i; split = split i };
      short = omega (arith, long, c.in_ok-turn.ensures.long, c.len.ensures, c.if-len.false);
    }
