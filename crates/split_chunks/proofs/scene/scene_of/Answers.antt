use Rattle.std.proofs.Common.{◌<◌, length, sym, subst}
use Rattle.std.specs.List.{All}
use Rattle.std.specs.List.Sorted.{IsStrictlyIncreasing}
use Rattle.split_chunks.specs.States.{state_of}
use Rattle.split_chunks.proofs.Standing.{all_below, all_ascend}
use Rattle.split_chunks.proofs.scene.scene_of.Goals as goal

pub homes-requires-clause-within : goal.homes-requires-clause-within
homes-requires-clause-within c = subst (λ n. All (All (λ member. member < n)) c.as_slice.result.now) (sym c.len-count.ensures)
    (subst (All (All (λ member. member < length c.args.graph.now.rows))) (sym c.as_slice.ensures.value) (all_below (length c.args.graph.now.rows) (state_of c.args.state.now) c.requires))

pub homes-requires-clause-ascending : goal.homes-requires-clause-ascending
homes-requires-clause-ascending c = subst (All IsStrictlyIncreasing) (sym c.as_slice.ensures.value) (all_ascend (length c.args.graph.now.rows) (state_of c.args.state.now) c.requires)
