-- Modules gathered by sets of chunks. Only private clauses cite this.
use Rattle.std.specs.Prelude.{◌≡◌, ◌<◌, ◌≤◌, ◌&&◌, ℕ, Bool, true, List, [], ◌∷◌, ◌++◌, length, filter}
use Rattle.std.specs.List.{range_with_len}
use Rattle.pk_types.specs.declared.graph.Graph.{Graph}
use Rattle.pk_types.specs.declared.settings.CacheGroup.{CacheGroup}
use Rattle.pk_types.specs.Numbers.{are_same}
use Rattle.pk_types.specs.SplitStates.{SplitState}
use Rattle.pk_types.specs.ChunkClauses.{row_at}
use Rattle.pk_types.specs.SplitCandidates.{is_movable, chunks_with}
use Rattle.split_chunks.specs.declared.gather.Gathered.{Gathered}

-- nothing is gathered
pub record IsNothing (gathered : Gathered) : Type 0 where
  pub sets : gathered.sets.keys ≡ []
  pub members : gathered.members.items ≡ []

-- a member more of the set at this place
pub record GainsMember (sets members : List (List ℕ)) (set : List ℕ) (member : ℕ) (sets_now members_now : List (List ℕ)) : Type 0 where
  pub each : length members_now ≡ length sets_now
  pub place : ℕ
  pub inside : place < length sets_now
  pub is_set : row_at sets_now place ≡ set
  pub gains : row_at members_now place ≡ row_at members place ++ member ∷ []
  pub others : (other : ℕ) → ¬ (other ≡ place) → row_at members_now other ≡ row_at members other
  pub same_sets : (other : ℕ) → other < length sets → row_at sets_now other ≡ row_at sets other
  pub more : (other : ℕ) → other < length sets_now → ¬ (other ≡ place) → other < length sets
  pub fewer : length sets ≤ length sets_now
  pub only : (other : ℕ) → other < length sets_now → row_at sets_now other ≡ set → other ≡ place

-- Those of the first modules that pass and stand in chunks are gathered by these.
pub record AreGathered (test : ℕ → Bool) (chunks : ℕ → List ℕ) (count : ℕ) (sets lists : List (List ℕ)) : Type 0 where
  pub each : length lists ≡ length sets
  pub members : (place : ℕ) → place < length sets
      → row_at lists place ≡ filter (λ member. test member && are_same (chunks member) (row_at sets place)) (range_with_len 0 count)
  -- a module of each set
  pub some : (place : ℕ) → place < length sets
      → (member : ℕ) × (test member ≡ true) × (row_at sets place ≡ chunks member) × (0 < length (row_at sets place))
  pub all : (member : ℕ) → member < count → test member ≡ true → 0 < length (chunks member)
      → (place : ℕ) × (place < length sets) × (row_at sets place ≡ chunks member)

-- the modules of the graph are
abbrev pub AreOfScene : Graph → SplitState → CacheGroup → Gathered → Type 0
AreOfScene graph state cache gathered =
    AreGathered (is_movable graph state cache) (chunks_with state cache) (length graph.rows) gathered.sets.keys gathered.members.items
