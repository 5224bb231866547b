use Rattle.std.proofs.Common.{◌≡◌, false, cond, [], ◌∷◌, ◌++◌, length, get_or, sym, ap, ◌∙◌}
use Rattle.std.specs.List.{list_any}
use Rattle.split_chunks.specs.States.{state_of}
use Rattle.split_chunks.specs.Choices.{candidate_of}
use Rattle.split_chunks.proofs.Turning.{loads_are, met_by_flags}
use Rattle.split_chunks.proofs.limits.loads_of.Goals.{then-is_met+in_ok-push, else-is_met}
use Rattle.split_chunks.proofs.limits.loads_of.Goals as goal

pub returns : goal.returns
returns c =
    let state = state_of c.args.state.now in
    let candidate = candidate_of c.args.choice.now in
    let turn = c.args.turn.now in
    let met = c.is_met.result in
    let others = c.in_ok-others_after.field-0.items in
    let after : c.if-is_met.after ≡ cond met (others ++ turn.split ∷ []) others = elim c.if-is_met.branch [
      | then-is_met+in_ok-push w ↦ w.after-is ∙ w.in_ok-push.ensures ∙ ap (λ l. l ++ turn.split ∷ []) c.from_vec-after.ensures ∙ ap (λ b. cond b (others ++ turn.split ∷ []) others) (sym w.if-is_met.true)
      | else-is_met w ↦ w.after-is ∙ c.from_vec-after.ensures ∙ ap (λ b. cond b (others ++ turn.split ∷ []) others) (sym w.if-is_met.false)
    ] in
    loads_are state candidate turn.split c.args.loads.now others c.if-is_met.after c.put_in_order.new.self turn.stays.items met
    c.requires.loads (c.requires.turn.long, c.requires.turn.stays) c.requires.turn.lasting
    (c.is_met.ensures ∙ ap (λ l. list_any (λ chunk. get_or l chunk false) c.args.loads.now) c.as_slice.ensures.value
    ∙ met_by_flags c.args.loads.now candidate.chunks turn.chunks.items (length state.modules) c.requires.turn.chunks)
    c.in_ok-others_after.ensures after c.put_in_order.ensures
