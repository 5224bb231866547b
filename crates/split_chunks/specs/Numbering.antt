-- The numbers of chunks. Only private clauses cite this.
use Rattle.std.specs.Prelude.{◌≡◌, ℕ, ◌<◌, List, length, slice_index}
use Rattle.pk_types.specs.SplitStates.{SplitState}
use Rattle.pk_types.specs.Splitting.{chunk_number}

-- for each chunk the number that it has, if it is no entry chunk
pub record AreNumbers (state : SplitState) (numbers : List ℕ) : Type 0 where
  pub each : length numbers ≡ length state.modules
  pub counts : (chunk : ℕ) → chunk < length state.modules → slice_index numbers chunk ≡ chunk_number state chunk
