-- Steps from pick to pick. Only private clauses cite this.
use Rattle.std.specs.Prelude.{◌≡◌, ℕ, ◌<◌, List, [], ◌∷◌, length, Option, MatchOption, slice_get, Some}
use Rattle.std.specs.List.{All, Contains}
use Rattle.pk_types.specs.declared.graph.Graph.{Graph}
use Rattle.pk_types.specs.declared.settings.CacheGroup.{CacheGroup}
use Rattle.pk_types.specs.declared.settings.SplitConfig.{SplitConfig}
use Rattle.pk_types.specs.Places.{IsShort}
use Rattle.pk_types.specs.SplitStates.{SplitState, chunk_at}
use Rattle.pk_types.specs.SplitCandidates.{Candidate}
use Rattle.pk_types.specs.SplitPicks.{IsSplitChunk, Qualifies, IsPick, after_pick}
use Rattle.pk_types.specs.Splitting.{ArePicks}
use Rattle.pk_types.specs.ChunkClauses.{row_at}
use Rattle.pk_types.proofs.StateClauses.{KeepClauses}
use Rattle.split_chunks.specs.declared.state.State.{State}
use Rattle.split_chunks.specs.declared.gather.Gathered.{Gathered}
use Rattle.split_chunks.specs.declared.choice.Choice.{Choice}
use Rattle.split_chunks.specs.States.{state_of}
use Rattle.split_chunks.specs.Choices.{IsSoFar, Yields}
use Rattle.split_chunks.specs.Gathering.{AreOfScene}

-- the candidate has one chunk, which holds just its modules
abbrev pub IsAlone : SplitState → Candidate → Type 0
IsAlone state candidate = (chunk : ℕ) × (candidate.chunks ≡ chunk ∷ []) × (chunk_at state chunk ≡ candidate.modules)

-- the candidate of the set at this place
abbrev pub candidate_at : CacheGroup → Gathered → ℕ → Candidate
candidate_at cache gathered place = record { cache_group = cache; chunks = row_at gathered.sets.keys place; modules = row_at gathered.members.items place }

-- for each of the first cache groups what it may move
abbrev pub AreFirstGathered : Graph → SplitConfig → SplitState → List Gathered → ℕ → Type 0
AreFirstGathered graph config state all count = (place : ℕ) (cache : CacheGroup) (gathered : Gathered) → place < count
    → slice_get config.groups place ≡ Some cache → slice_get all place ≡ Some gathered → AreOfScene graph state cache gathered

-- for each cache group what it may move
pub record AreAllGathered (graph : Graph) (config : SplitConfig) (state : SplitState) (all : List Gathered) : Type 0 where
  pub each : length all ≡ length config.groups
  pub gathered : AreFirstGathered graph config state all (length config.groups)

-- the best candidate of all, if one qualifies
pub record IsBest (graph : Graph) (config : SplitConfig) (state : SplitState) (best : Option Choice) : Type 0 where
  pub so_far : IsSoFar graph config state best
  pub yields : (candidate : Candidate) → Yields graph config state best candidate

-- the state after the pick of the candidate
pub record IsAfter (state : SplitState) (candidate : Candidate) (after : State) : Type 0 where
  pub split : ℕ
  pub into : IsSplitChunk state candidate split
  pub is_after : state_of after ≡ after_pick state candidate split
  pub short : IsShort after.modules.items

-- the state after the next pick
pub record IsPicked (graph : Graph) (config : SplitConfig) (state : SplitState) (next : State) : Type 0 where
  pub pick : Candidate
  pub is : IsPick graph config state pick
  pub after : IsAfter state pick next

-- the next pick, if there is one
abbrev pub IsStep : Graph → SplitConfig → SplitState → Option State → Type 0
IsStep graph config state next = MatchOption next ((candidate : Candidate) → ¬ Qualifies graph config state candidate) (IsPicked graph config state)

-- The state stands between picks of groups with some closures, whose modules have smaller numbers.
pub record IsHeld (rows : ℕ) (state : SplitState) : Type 0 where
  pub closures : List (List ℕ)
  pub placed : List (List ℕ)
  pub keeps : KeepClauses state.entries closures placed state
  pub below : (group member : ℕ) → Contains (row_at closures group) member → member < rows
  pub split : All (λ chunk. chunk < length state.modules) state.split
  pub short : IsShort state.modules

-- picks lead from the one state to the other, where no candidate qualifies
abbrev pub IsPickedFrom : Graph → SplitConfig → SplitState → SplitState → Type 0
IsPickedFrom graph config first last = (picks : List Candidate) × ArePicks graph config first picks last
