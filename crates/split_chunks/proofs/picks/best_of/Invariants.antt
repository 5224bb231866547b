use Rattle.std.proofs.Common.{ℕ, ◌<◌}
use Rattle.pk_types.specs.SplitCandidates.{Candidate}
use Rattle.split_chunks.specs.States.{state_of}
use Rattle.split_chunks.specs.Choices.{IsSoFar, Yields}
use Rattle.split_chunks.specs.Picking.{candidate_at}
use Rattle.split_chunks.proofs.picks.best_of.Given as goal

abbrev pub invariant-loop-place : goal.invariant-loop-place
invariant-loop-place l = record {
  so_far : IsSoFar l.graph l.config (state_of l.state) l.best;
  yields : (candidate : Candidate) → Yields l.graph l.config (state_of l.state) l.initial.best candidate → Yields l.graph l.config (state_of l.state) l.best candidate;
  all : (k : ℕ) → k < l.place → Yields l.graph l.config (state_of l.state) l.best (candidate_at l.cache l.gathered k);
}
