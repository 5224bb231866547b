use Rattle.std.proofs.Common.{not, count_by, length}
use Rattle.std.specs.List.{range_with_len}
use Rattle.pk_types.specs.SplitCandidates.{is_split}
use Rattle.pk_types.specs.SplitStates.{SplitState}
use Rattle.split_chunks.specs.States.{state_of}
use Rattle.split_chunks.specs.Picking.{IsHeld, IsPickedFrom}
use Rattle.split_chunks.proofs.picks.pick_all.Given as goal

abbrev pub invariant-loop-state : goal.invariant-loop-state
invariant-loop-state l = record {
  held : IsHeld (length l.graph.rows) (state_of l.state);
  goes_on : (last : SplitState) → IsPickedFrom l.graph l.config (state_of l.state) last → IsPickedFrom l.graph l.config (state_of l.initial.state) last;
}

abbrev pub decreases-loop-state : goal.decreases-loop-state
decreases-loop-state l = count_by (λ member. not (is_split (state_of l.state) member)) (range_with_len 0 (length l.graph.rows))
