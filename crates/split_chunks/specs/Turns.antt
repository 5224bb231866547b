-- What a pick does to chunks. Only private clauses cite this.
use Rattle.std.specs.Prelude.{◌≡◌, ℕ, ◌+◌, ◌<◌, ◌≤◌, max, ◌&&◌, Bool, true, false, length, nat_le, slice_index_or}
use Rattle.std.specs.List.{All, Contains}
use Rattle.std.specs.List.Sorted.{IsStrictlyIncreasing}
use Rattle.pk_types.specs.declared.settings.SplitConfig.{SplitConfig}
use Rattle.pk_types.specs.Numbers.{are_same, meets}
use Rattle.pk_types.specs.SplitStates.{SplitState, chunk_at, loads_at}
use Rattle.pk_types.specs.SplitCandidates.{Candidate}
use Rattle.pk_types.specs.SplitPicks.{IsSplitChunk, stays, loads_after, request_limit}
use Rattle.split_chunks.specs.declared.limits.Turn.{Turn}
use Rattle.split_chunks.specs.Marked.{AreFlags}

-- the chunk is no entry chunk and holds just the candidate's modules
abbrev pub holds_just : SplitState → Candidate → ℕ → Bool
holds_just state candidate chunk = nat_le state.entries chunk && are_same (chunk_at state chunk) candidate.modules

-- A candidate whose chunks and modules stand by number: its chunks are there, hold its modules, and it has some.
pub record MovesSound (state : SplitState) (candidate : Candidate) : Type 0 where
  pub chunks : IsStrictlyIncreasing candidate.chunks
  pub modules : IsStrictlyIncreasing candidate.modules
  pub inside : All (λ chunk. chunk < length state.modules) candidate.chunks
  pub some : 0 < length candidate.modules
  pub holds : (chunk member : ℕ) → Contains candidate.chunks chunk → Contains candidate.modules member → Contains (chunk_at state chunk) member
  pub ascending : (chunk : ℕ) → IsStrictlyIncreasing (chunk_at state chunk)

-- what the pick of the candidate does
pub record IsTurn (state : SplitState) (candidate : Candidate) (turn : Turn) : Type 0 where
  pub split : IsSplitChunk state candidate turn.split
  pub below : turn.split ≤ length state.modules
  pub lasting : stays state candidate turn.split turn.split ≡ true
  pub chunks : AreFlags candidate.chunks (length state.modules) turn.chunks.items
  pub long : length turn.stays.items ≡ max (length state.modules) (turn.split + 1)
  pub stays : (chunk : ℕ) → chunk < length turn.stays.items → slice_index_or turn.stays.items chunk false ≡ stays state candidate turn.split chunk

-- the group keeps its limit where it loads a chunk of the candidate
abbrev pub GroupKeeps : SplitConfig → SplitState → Candidate → ℕ → ℕ → Type 0
GroupKeeps config state candidate split group = meets (loads_at state group) candidate.chunks ≡ true
    → length (loads_after state candidate split (loads_at state group)) ≤ request_limit config state group
