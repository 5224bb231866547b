-- The state as it is kept. Only private clauses cite this.
use Rattle.std.specs.Prelude.{ℕ, ◌<◌, ◌≤◌, length}
use Rattle.std.specs.List.{All, Contains}
use Rattle.std.specs.List.Sorted.{IsStrictlyIncreasing}
use Rattle.pk_types.specs.Places.{IsShort}
use Rattle.pk_types.specs.SplitStates.{SplitState, chunk_at, loads_at}
use Rattle.split_chunks.specs.declared.state.State.{State}

abbrev pub state_of : State → SplitState
state_of state = record { entries = state.entries; modules = state.modules.items; loads = state.loads.items; split = state.split.items }

-- Modules stand by number, and all numbers are those of modules, of which there are so many, or of chunks.
pub record IsSound (rows : ℕ) (state : SplitState) : Type 0 where
  pub ascending : (chunk : ℕ) → IsStrictlyIncreasing (chunk_at state chunk)
  pub members : (chunk member : ℕ) → Contains (chunk_at state chunk) member → member < rows
  pub loads : (group chunk : ℕ) → Contains (loads_at state group) chunk → chunk < length state.modules
  pub split : All (λ chunk. chunk < length state.modules) state.split
  pub short : IsShort state.modules
  pub entries : state.entries ≤ length state.modules
