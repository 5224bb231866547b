-- Flags, one for each number.
use Rattle.std.specs.Prelude.{ℕ, Bool, false, List, count_by, slice_index_or, if◌then◌else◌}
use Rattle.std.specs.List.{range_with_len}

-- the flag of the number is set
abbrev pub is_set : List Bool → ℕ → Bool
is_set flags number = slice_index_or flags number false

-- how many are set before one that is; 0 for one that isn't
abbrev pub rank_among : List Bool → ℕ → ℕ
rank_among flags number = if is_set flags number then count_by (is_set flags) (range_with_len 0 number) else 0
