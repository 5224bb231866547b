-- Rows of flags as words: flag by flag, 64 to a word, from the lowest bit.
use Rattle.std.specs.Prelude.{◌/◌, ◌%◌, ◌==◌, ℕ, Bool, List, map, slice_index}
use Rattle.std.specs.Int.{bit_at, div_ceil}
use Rattle.std.specs.List.{range_with_len}

-- the flag of this number
abbrev pub flag_in : List ℕ → ℕ → Bool
flag_in words number = bit_at (slice_index words (number / 64)) (number % 64) == 1

-- as many words as so many flags need
abbrev pub words_for : ℕ → ℕ
words_for count = div_ceil count 64

-- the first flags of a row
abbrev pub flags_of : ℕ → List ℕ → List Bool
flags_of count words = map (flag_in words) (range_with_len 0 count)
