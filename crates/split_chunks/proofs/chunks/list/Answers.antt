use Rattle.std.proofs.Common.{◌<◌, length, map, slice_index, ap, sym, subst, ◌∙◌}
use Rattle.std.specs.List.{All}
use Rattle.split_chunks.specs.States.{state_of}
use Rattle.split_chunks.proofs.Numbered.{others_inside, is_list}
use Rattle.split_chunks.proofs.chunks.list.Goals as goal

pub numbered-requires : goal.numbered-requires
numbered-requires c = subst (All (λ chunk. chunk < length c.args.numbers.now)) (sym (c.as_slice.ensures.value ∙ c.in_ok-others.ensures))
    (others_inside (state_of c.args.state.now) c.args.loads.now c.args.numbers.now c.requires.loads c.requires.numbers)

pub returns : goal.returns
returns c = c.from_vec.ensures ∙ c.in_ok-list.ensures ∙ ap (map (slice_index c.args.numbers.now)) (c.as_slice.ensures.value ∙ c.in_ok-others.ensures)
    ∙ is_list (state_of c.args.state.now) c.args.loads.now c.args.numbers.now c.requires.loads c.requires.numbers
