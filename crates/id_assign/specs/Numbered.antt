-- Numbers that are given to those of the numbers below a count that pass a test.
use Rattle.std.specs.Prelude.{◌≡◌, ℕ, Bool, false, List, length, map, filter, slice_index}
use Rattle.std.specs.List.{range_with_len}
use Rattle.pk_types.specs.ModuleIds.{AreGivenInOrder}

-- those that pass have numbers that are given in order, from these starts, and the others have 0
pub record AreNumbered (start : ℕ → ℕ) (test : ℕ → Bool) (count : ℕ) (ids : List ℕ) : Type 0 where
  pub each : length ids ≡ count
  pub given : AreGivenInOrder (map start (filter test (range_with_len 0 count))) (map (slice_index ids) (filter test (range_with_len 0 count)))
  pub others : (number : ℕ) → test number ≡ false → slice_index ids number ≡ 0
