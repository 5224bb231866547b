-- The clauses on chunks, of the chunks between two picks.
use Rattle.std.specs.Prelude.{◌≡◌, ℕ, ◌<◌, ◌≤◌, true, List, length}
use Rattle.std.specs.List.{Contains}
use Rattle.std.specs.List.Sorted.{IsStrictlyIncreasing}
use Rattle.pk_types.specs.SplitStates.{SplitState, chunk_at, loads_at, is_there}
use Rattle.pk_types.specs.ChunkClauses.{row_at}

pub record KeepClauses (count : ℕ) (closures placed : List (List ℕ)) (state : SplitState) : Type 0 where
  pub entries : state.entries ≡ count
  pub ascending : (chunk : ℕ) → IsStrictlyIncreasing (chunk_at state chunk)
  pub groups : length state.loads ≡ length placed
  pub few_entries : state.entries ≤ length state.modules
  pub in_range : (group chunk : ℕ) → Contains (loads_at state group) chunk → chunk < length state.modules
  pub entry : (group : ℕ) → group < state.entries → Contains (loads_at state group) group
  -- an entry chunk is loaded by its own group alone
  pub own : (group chunk : ℕ) → Contains (loads_at state group) chunk → chunk < state.entries → chunk ≡ group
  pub held : (group member : ℕ) → Contains (row_at placed group) member → (chunk : ℕ) × Contains (loads_at state group) chunk × Contains (chunk_at state chunk) member
  pub closed : (group chunk member : ℕ) → Contains (loads_at state group) chunk → Contains (chunk_at state chunk) member → Contains (row_at closures group) member
  pub listed : (chunk : ℕ) → chunk < length state.modules → is_there state chunk ≡ true → (group : ℕ) × Contains (loads_at state group) chunk
  pub there : (group chunk : ℕ) → Contains (loads_at state group) chunk → is_there state chunk ≡ true
  -- what one entry chunk holds stands in the entry chunk of every entry whose closure holds it
  pub together : (entry other member : ℕ) → entry < state.entries → other < state.entries → Contains (chunk_at state entry) member
      → Contains (row_at closures other) member → Contains (chunk_at state other) member
