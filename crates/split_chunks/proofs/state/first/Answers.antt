use Rattle.std.proofs.Common.{[], ◌∷◌, ◌++◌, map, sym, ap, ◌∙◌, arith}
use Rattle.std.specs.List.{range_with_len}
use Rattle.std.proofs.lemmas.List.FromFn.{map-range_with_len_more}
use Rattle.pk_types.specs.SplitStates.{own_chunks}
use Rattle.split_chunks.proofs.state.first.Goals as goal

pub loop-group-preserved : goal.loop-group-preserved
loop-group-preserved c =
    let placed = c.args.placed.items in
    let group = c.loop-group.group in
    c.in_ok-push.ensures.items ∙ ap (λ l. l ++ c.in_ok-first_loads.field-0 ∷ []) c.loop-group.invariant
    ∙ ap (λ b. map (own_chunks c.args.entries placed) (range_with_len 0 group) ++ b ∷ []) (c.in_ok-first_loads.ensures ∙ ap (λ l. own_chunks c.args.entries l group) c.as_slice.ensures.value)
    ∙ sym (map-range_with_len_more (own_chunks c.args.entries placed) 0 group group (omega arith))
