-- The chunks of each module. Only private clauses cite this.
use Rattle.std.specs.Prelude.{◌≡◌, ℕ, List, [], ◌∷◌, ◌++◌, length, filter, slice_index_or, if◌then◌else◌}
use Rattle.std.specs.List.{range_with_len}
use Rattle.pk_types.specs.Numbers.{has}

-- the lists of these places got the number
pub record GainsNumber (places : List ℕ) (number : ℕ) (lists now : List (List ℕ)) : Type 0 where
  pub each : length now ≡ length lists
  pub gains : (place : ℕ) → slice_index_or now place [] ≡ slice_index_or lists place [] ++ (if has places place then number ∷ [] else [])

-- for each of so many modules the chunks that hold it
pub record AreHomes (modules : List (List ℕ)) (count : ℕ) (homes : List (List ℕ)) : Type 0 where
  pub each : length homes ≡ count
  pub chunks : (member : ℕ) → slice_index_or homes member [] ≡ filter (λ chunk. has (slice_index_or modules chunk []) member) (range_with_len 0 (length modules))
