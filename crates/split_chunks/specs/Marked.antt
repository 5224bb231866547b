-- Flags that are set. Only private clauses cite this.
use Rattle.std.specs.Prelude.{◌≡◌, ◌||◌, ℕ, Bool, false, List, length, slice_index_or}
use Rattle.pk_types.specs.Numbers.{has}

-- the flags of these numbers were set, and the others stay
pub record Marks (numbers : List ℕ) (flags now : List Bool) : Type 0 where
  pub long : length now ≡ length flags
  pub each : (number : ℕ) → slice_index_or now number false ≡ (has numbers number || slice_index_or flags number false)

-- flags of so many numbers, of which these are set
pub record AreFlags (numbers : List ℕ) (count : ℕ) (flags : List Bool) : Type 0 where
  pub long : length flags ≡ count
  pub each : (number : ℕ) → slice_index_or flags number false ≡ has numbers number
