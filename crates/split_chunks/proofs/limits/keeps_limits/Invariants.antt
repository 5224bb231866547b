use Rattle.std.proofs.Common.{ℕ, ◌<◌}
use Rattle.split_chunks.specs.States.{state_of}
use Rattle.split_chunks.specs.Choices.{candidate_of}
use Rattle.split_chunks.specs.Turns.{GroupKeeps}
use Rattle.split_chunks.proofs.limits.keeps_limits.Given as goal

abbrev pub invariant-loop-group : goal.invariant-loop-group
invariant-loop-group l = (k : ℕ) → k < l.group → GroupKeeps l.config (state_of l.state) (candidate_of l.choice) l.turn.split k
