-- Splitting: picks are made until none qualifies. It is said of a finished list of picks, and of the chunks that they leave.
use Rattle.std.specs.Prelude.{◌≡◌, ℕ, ◌-◌, List, [], ◌∷◌, Option, Some, None, length, map, filter, nat_le, count_by}
use Rattle.std.specs.List.{range_with_len}
use Rattle.pk_types.specs.declared.limits.TheConstants.{MAX_CHUNKS}
use Rattle.pk_types.specs.declared.graph.Graph.{Graph}
use Rattle.pk_types.specs.declared.plan.Chunks.{Chunks}
use Rattle.pk_types.specs.declared.settings.SplitConfig.{SplitConfig}
use Rattle.pk_types.specs.SplitStates.{SplitState, chunk_at, is_there, first_state}
use Rattle.pk_types.specs.SplitCandidates.{Candidate}
use Rattle.pk_types.specs.SplitPicks.{IsSplitChunk, after_pick, Qualifies, IsPick}

-- the list of picks is right: each is the greatest candidate of the state before it that qualifies, and after the last none does
pub data ArePicks (graph : Graph) (config : SplitConfig) : SplitState → List Candidate → SplitState → Type 0 where
  ended : (state : SplitState) → ((candidate : Candidate) → ¬ Qualifies graph config state candidate) → ArePicks graph config state [] state
  picked : (state last : SplitState) (pick : Candidate) (picks : List Candidate) (split : ℕ) → IsPick graph config state pick
      → IsSplitChunk state pick split → ArePicks graph config (after_pick state pick split) picks last
      → ArePicks graph config state (pick ∷ picks) last

-- where chunks are not split, nothing is picked
abbrev pub PicksEndIn : Graph → Option SplitConfig → SplitState → SplitState → Type 0
PicksEndIn graph None first last = first ≡ last
PicksEndIn graph (Some config) first last = (picks : List Candidate) × ArePicks graph config first picks last

-- the chunks that are there, of those with these numbers
abbrev pub chunks_there : SplitState → List ℕ → List ℕ
chunks_there state chunks = filter (is_there state) chunks

-- the number of a chunk: how many that are there come between the entry chunks and it
abbrev pub chunk_number : SplitState → ℕ → ℕ
chunk_number state chunk = count_by (is_there state) (range_with_len state.entries (chunk - state.entries))

-- the list of a group: the chunks that it loads, without its entry chunk
abbrev pub list_of : SplitState → List ℕ → List ℕ
list_of state loads = map (chunk_number state) (filter (nat_le state.entries) loads)

-- the chunks that are there, with their lists
abbrev pub chunks_of : SplitState → Chunks
chunks_of state = record {
  modules = map (chunk_at state) (chunks_there state (range_with_len 0 (length state.modules)));
  entries = state.entries;
  lists = map (list_of state) state.loads;
}

-- how many chunks there are without the entry chunks, counted after the last pick
abbrev pub chunk_count : Chunks → ℕ
chunk_count chunks = length chunks.modules - chunks.entries

-- how many there may be
abbrev pub most_chunks : ℕ
most_chunks = MAX_CHUNKS

-- What is placed in each group, by number and each module once, is split into these chunks.
pub record IsSplit (graph : Graph) (config : Option SplitConfig) (entries : ℕ) (placed : List (List ℕ)) (chunks : Chunks) : Type 0 where
  pub last : SplitState
  pub picks : PicksEndIn graph config (first_state entries placed) last
  pub finished : chunks ≡ chunks_of last
