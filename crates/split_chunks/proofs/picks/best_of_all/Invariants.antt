use Rattle.std.proofs.Common.{◌≡◌, ℕ, ◌<◌, Some, slice_get}
use Rattle.pk_types.specs.declared.settings.CacheGroup.{CacheGroup}
use Rattle.pk_types.specs.SplitCandidates.{Candidate}
use Rattle.split_chunks.specs.States.{state_of}
use Rattle.split_chunks.specs.Choices.{IsSoFar, Yields}
use Rattle.split_chunks.proofs.picks.best_of_all.Given as goal

abbrev pub invariant-loop-place : goal.invariant-loop-place
invariant-loop-place l = record {
  so_far : IsSoFar l.graph l.config (state_of l.state) l.best;
  all : (k : ℕ) (cache : CacheGroup) → k < l.place → slice_get l.config.groups k ≡ Some cache → (candidate : Candidate) → candidate.cache_group ≡ cache
      → Yields l.graph l.config (state_of l.state) l.best candidate;
}
