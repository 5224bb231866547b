-- What a pick does, which candidates qualify, and which of them comes first.
use Rattle.std.specs.Prelude.{◌≡◌, ◌≢◌, ◌⊎◌, ℕ, ◌+◌, ◌-◌, ◌*◌, ◌<◌, ◌≤◌, max, Bool, true, ◌&&◌, ◌||◌, ◌==◌, ◌<ℤ◌, List, [], ◌∷◌, ◌++◌}
use Rattle.std.specs.Prelude.{length, map, filter, nat_lt, if◌then◌else◌}
use Rattle.std.specs.List.{All, Contains, range_with_len}
use Rattle.std.specs.Ordering.{nat_cmp}
use Rattle.std.specs.declared.cmp.Ordering.TheVariants.{Less}
use Rattle.std.specs.Cmp.Lexicographic.{slice_cmp}
use Rattle.pk_types.specs.declared.graph.Graph.{Graph}
use Rattle.pk_types.specs.declared.settings.SplitConfig.{SplitConfig}
use Rattle.pk_types.specs.Numbers.{has, meets, without}
use Rattle.pk_types.specs.SplitStates.{SplitState, chunk_at, loads_at, is_entry}
use Rattle.pk_types.specs.SplitCandidates.{Candidate, IsCandidate, bytes_of, path_of}

-- a chunk of the candidate that is no entry chunk and holds just its modules
abbrev pub HoldsJust : SplitState → Candidate → ℕ → Type 0
HoldsJust state candidate chunk = (Contains candidate.chunks chunk) × (state.entries ≤ chunk) × (chunk_at state chunk ≡ candidate.modules)

-- The chunk that the modules move into: where the cache group reuses chunks, the least that holds just them, if there is one; else a new one.
pub data IsSplitChunk (state : SplitState) (candidate : Candidate) : ℕ → Type 0 where
  reused : (chunk : ℕ) → candidate.cache_group.reuse ≡ true → HoldsJust state candidate chunk
      → ((other : ℕ) → HoldsJust state candidate other → chunk ≤ other) → IsSplitChunk state candidate chunk
  made : (candidate.cache_group.reuse ≡ true → (other : ℕ) → ¬ HoldsJust state candidate other) → IsSplitChunk state candidate (length state.modules)

-- the split chunk holds the candidate's modules, and the candidate's other chunks lose them
abbrev pub chunk_after : SplitState → Candidate → ℕ → ℕ → List ℕ
chunk_after state candidate split chunk =
    if chunk == split then candidate.modules else
    if has candidate.chunks chunk then without candidate.modules (chunk_at state chunk) else chunk_at state chunk

-- an entry chunk stays, any other that is left empty goes
abbrev pub stays : SplitState → Candidate → ℕ → ℕ → Bool
stays state candidate split chunk = is_entry state chunk || nat_lt 0 (length (chunk_after state candidate split chunk))

-- a group that loads a chunk of the candidate loads the split chunk too
abbrev pub loads_after : SplitState → Candidate → ℕ → List ℕ → List ℕ
loads_after state candidate split loads =
    filter (λ chunk. (if chunk == split then meets loads candidate.chunks else has loads chunk) && stays state candidate split chunk)
    (range_with_len 0 (max (length state.modules) (split + 1)))

-- the chunks after the pick
abbrev pub after_pick : SplitState → Candidate → ℕ → SplitState
after_pick state candidate split = record {
  entries = state.entries;
  modules = map (chunk_after state candidate split) (range_with_len 0 (max (length state.modules) (split + 1)));
  loads = map (loads_after state candidate split) state.loads;
  split = state.split ++ split ∷ [];
}

-- how many chunks a group may load, its entry chunk among them
abbrev pub request_limit : SplitConfig → SplitState → ℕ → ℕ
request_limit config state group = if nat_lt group state.entries then config.max_initial else config.max_async

-- no group with a chunk of the candidate loads more chunks after the pick than it may
abbrev pub KeepsLimits : SplitConfig → SplitState → Candidate → Type 0
KeepsLimits config state candidate = (split : ℕ) → IsSplitChunk state candidate split
    → (group : ℕ) → meets (loads_at state group) candidate.chunks ≡ true
    → length (loads_at (after_pick state candidate split) group) ≤ request_limit config state group

-- a candidate that may be picked: it has enough chunks and bytes, changes something, and is large or keeps the limits of requests
pub record Qualifies (graph : Graph) (config : SplitConfig) (state : SplitState) (candidate : Candidate) : Type 0 where
  pub is_candidate : IsCandidate graph config state candidate
  pub enough_chunks : candidate.cache_group.min_chunks ≤ length candidate.chunks
  pub enough_bytes : candidate.cache_group.min_size ≤ bytes_of graph candidate.modules
  -- its chunks are not one chunk that holds just its modules
  pub changes : (chunk : ℕ) → candidate.chunks ≡ chunk ∷ [] → chunk_at state chunk ≢ candidate.modules
  pub requests : (config.enforce ≤ bytes_of graph candidate.modules) ⊎ KeepsLimits config state candidate

-- its bytes, once for each of its chunks but one
abbrev pub gain : Graph → Candidate → ℕ
gain graph candidate = bytes_of graph candidate.modules * (length candidate.chunks - 1)

-- byte order
abbrev pub IsBefore : List ℕ → List ℕ → Type 0
IsBefore text other = slice_cmp nat_cmp text other ≡ Less

-- a path of the one comes before all paths of the other
abbrev pub HasLesserPath : Graph → Candidate → Candidate → Type 0
HasLesserPath graph candidate other = (member : ℕ) × Contains candidate.modules member
    × All (λ second. IsBefore (path_of graph member) (path_of graph second)) other.modules

-- the one is picked before the other
pub data IsAhead (graph : Graph) (candidate other : Candidate) : Type 0 where
  by_priority : other.cache_group.priority <ℤ candidate.cache_group.priority → IsAhead graph candidate other
  by_gain : candidate.cache_group.priority ≡ other.cache_group.priority → gain graph other < gain graph candidate → IsAhead graph candidate other
  by_name : candidate.cache_group.priority ≡ other.cache_group.priority → gain graph candidate ≡ gain graph other
      → IsBefore candidate.cache_group.name other.cache_group.name → IsAhead graph candidate other
  by_path : candidate.cache_group.priority ≡ other.cache_group.priority → gain graph candidate ≡ gain graph other
      → candidate.cache_group.name ≡ other.cache_group.name → HasLesserPath graph candidate other → IsAhead graph candidate other

-- the candidate qualifies, and is ahead of each other one that does
pub record IsPick (graph : Graph) (config : SplitConfig) (state : SplitState) (candidate : Candidate) : Type 0 where
  pub qualifies : Qualifies graph config state candidate
  pub greatest : (other : Candidate) → Qualifies graph config state other → (other ≡ candidate) ⊎ IsAhead graph candidate other
