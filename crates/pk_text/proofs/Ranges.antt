-- The numbers of a range.
use Rattle.std.proofs.Common.{ℕ, ◌+◌, ◌<◌, length, arith}
use Rattle.std.specs.List.{range_with_len}
use Rattle.std.specs.List.Sorted.{IsStrictlyIncreasing}
use Rattle.std.proofs.lemmas.List.FromFn.{length-range_with_len, get_or-range_with_len}

-- each is below the next
pub range_rises : (count : ℕ) → IsStrictlyIncreasing (range_with_len 0 count)
range_rises count k inside =
    let short : k + 1 < count = omega (arith, inside, length-range_with_len 0 count) in
    omega (arith, get_or-range_with_len 0 count k 0 (omega arith), get_or-range_with_len 0 count (k + 1) 0 short)
