use Rattle.pk_types.specs.SplitCandidates.{is_movable, chunks_with}
use Rattle.split_chunks.specs.States.{state_of}
use Rattle.split_chunks.specs.Gathering.{AreGathered}
use Rattle.split_chunks.proofs.gather.gather.Given as goal

abbrev pub invariant-loop-member : goal.invariant-loop-member
invariant-loop-member l = AreGathered (is_movable l.scene.graph.now (state_of l.scene.state.now) l.cache) (chunks_with (state_of l.scene.state.now) l.cache) l.member l.gathered.sets.keys l.gathered.members.items
