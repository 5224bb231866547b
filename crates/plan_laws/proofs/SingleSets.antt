-- Where each module is its own root, each set has one member.
use Rattle.std.proofs.Common.{◌≡◌, ℕ, ◌+◌, ◌<◌, ◌==◌, [], ◌∷◌, length, Contains, sym, subst, ◌∙◌, arith, slice_index}
use Rattle.std.specs.List.{range_with_len}
use Rattle.std.specs.List.Sorted.{IsStrictlyIncreasing}
use Rattle.std.proofs.lemmas.List.FromFn.{length-range_with_len, get_or-range_with_len}
use Rattle.std.proofs.lemmas.List.Kept.{IsStrictlyIncreasing-filter}
use Rattle.pk_types.specs.HoistSets.{set_of}
use Rattle.pk_types.proofs.ListMembers.{unfiltered, range_of}
use Rattle.pk_types.proofs.OneHoist.{in_set, of_set}
use Rattle.pk_types.proofs.OneOrder.{same_rising}
use Rattle.pk_types.proofs.Parts.{Contains-one, one_only}

pub range_at : (count number : ℕ) → number < count → slice_index (range_with_len 0 count) number ≡ number
range_at count number within = get_or-range_with_len 0 count number 0 within ∙ omega arith

range_rises : (count : ℕ) → IsStrictlyIncreasing (range_with_len 0 count)
range_rises count k h =
    let short : k + 1 < count = omega (arith, h, length-range_with_len 0 count) in
    omega (arith, get_or-range_with_len 0 count k 0 (omega arith), get_or-range_with_len 0 count (k + 1) 0 short)

rising_one : (number : ℕ) → IsStrictlyIncreasing (number ∷ [])
rising_one number k l = absurd (omega (arith, l))

-- the only member of the set of a root
is_member : (count root member : ℕ) → Contains (set_of (range_with_len 0 count) root) member → root ≡ member
is_member count root member c =
    let roots = range_with_len 0 count in
    let among = unfiltered (λ number. slice_index (range_with_len 0 count) number == root) (range_with_len 0 (length (range_with_len 0 count))) member c in
    let within : member < count = omega (arith, (range_of 0 (length roots) member among.0).1, length-range_with_len 0 count) in
    sym (of_set (range_with_len 0 count) root member c) ∙ range_at count member within

pub one_member : (count root : ℕ) → root < count → set_of (range_with_len 0 count) root ≡ root ∷ []
one_member count root within =
    same_rising (set_of (range_with_len 0 count) root) (root ∷ [])
    (IsStrictlyIncreasing-filter (λ number. slice_index (range_with_len 0 count) number == root) (range_with_len 0 (length (range_with_len 0 count))) (range_rises (length (range_with_len 0 count))))
    (rising_one root)
    (λ member. (
      λ c. subst (Contains (root ∷ [])) (is_member count root member c) (Contains-one root),
      λ c. subst (Contains (set_of (range_with_len 0 count) root)) (one_only root member c)
          (in_set (range_with_len 0 count) root root (omega (arith, within, length-range_with_len 0 count)) (range_at count root within)),
    ))
