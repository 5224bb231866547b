-- Where the numbers of a range stand when some are left out: behind as many as pass before them.
use Rattle.std.proofs.Common.{◌≡◌, ℕ, zero, suc, ◌+◌, ◌<◌, ◌≤◌, Bool, true, false, cond, List, ◌∷◌, length, refl, sym, ap, ◌∙◌, arith, true≢false, count_by, filter, slice_index_or}
use Rattle.std.specs.List.{range_with_len}
use Rattle.std.proofs.lemmas.List.Sums.{sum_by-cons}

one_counted : (b : Bool) → b ≡ true → cond {A = ℕ} b 1 0 ≡ cond {A = ℕ} true 1 0
one_counted true e = refl
one_counted false e = absurd (true≢false (sym e))

-- the count of a range, from its first number on
pub count_more : (test : ℕ → Bool) (from count : ℕ)
    → count_by test (range_with_len from (suc count)) ≡ cond {A = ℕ} (test from) 1 0 + count_by test (range_with_len (from + 1) count)
count_more test from count = sum_by-cons (λ z. cond (test z) 1 0) from (range_with_len (from + 1) count)

-- one that is counted makes the count of what comes behind it greater
pub counted : (test : ℕ → Bool) (from count more : ℕ) → count < more → test (from + count) ≡ true
    → count_by test (range_with_len from count) < count_by test (range_with_len from more)
counted test from count zero fewer passes = absurd (omega arith)
counted test from zero (suc more) fewer passes =
    let start : from ≡ from + 0 = omega arith in
    let first = one_counted (test from) (ap test start ∙ passes) in
    let whole = count_more test from more in
    let none : count_by test (range_with_len from zero) ≡ 0 = refl in
    omega arith
counted test from (suc count) (suc more) fewer passes =
    let start : from + 1 + count ≡ from + suc count = omega arith in
    let rest = counted test (from + 1) count more (omega arith) (ap test start ∙ passes) in
    let one = count_more test from count in
    let two = count_more test from more in
    omega arith

-- one more in front moves the places behind it, if it passes
pass_one : (b : Bool) (number : ℕ) (numbers : List ℕ) (place d : ℕ) → slice_index_or (cond b (number ∷ numbers) numbers) (cond {A = ℕ} b 1 0 + place) d ≡ slice_index_or numbers place d
pass_one true number numbers place d = let e : 1 + place ≡ suc place = omega arith in ap (λ k. slice_index_or (number ∷ numbers) k d) e
pass_one false number numbers place d = let e : 0 + place ≡ place = omega arith in ap (λ k. slice_index_or numbers k d) e

first_passes : (b : Bool) (number : ℕ) (numbers : List ℕ) (d : ℕ) → b ≡ true → slice_index_or (cond b (number ∷ numbers) numbers) 0 d ≡ number
first_passes true number numbers d e = refl
first_passes false number numbers d e = absurd (true≢false (sym e))

-- the place of a number that passes
pub place_of_passing : (test : ℕ → Bool) (from count number d : ℕ) → number < count → test (from + number) ≡ true
    → slice_index_or (filter test (range_with_len from count)) (count_by test (range_with_len from number)) d ≡ from + number
place_of_passing test from zero number d inside passes = absurd (omega arith)
place_of_passing test from (suc count) zero d inside passes =
    let start : from ≡ from + 0 = omega arith in
    first_passes (test from) from (filter test (range_with_len (from + 1) count)) d (ap test start ∙ passes) ∙ start
place_of_passing test from (suc count) (suc number) d inside passes =
    let start : from + 1 + number ≡ from + suc number = omega arith in
    let rest = place_of_passing test (from + 1) count number d (omega arith) (ap test start ∙ passes) in
    ap (λ k. slice_index_or (filter test (range_with_len from (suc count))) k d) (count_more test from number)
    ∙ (pass_one (test from) from (filter test (range_with_len (from + 1) count)) (count_by test (range_with_len (from + 1) number)) d ∙ (rest ∙ start))

-- the number at a place
abbrev IsAt : (ℕ → Bool) → ℕ → ℕ → ℕ → Type 0
IsAt test from count place = (number : ℕ) × (number < count) × (test (from + number) ≡ true) × (count_by test (range_with_len from number) ≡ place)

later : (test : ℕ → Bool) (from count place more : ℕ) → cond {A = ℕ} (test from) 1 0 + place ≡ more → IsAt test (from + 1) count place → IsAt test from (suc count) more
later test from count place more sum (number, inside, passes, counts) =
    let start : from + suc number ≡ from + 1 + number = omega arith in
    let whole = count_more test from number in
    (suc number, omega arith, ap test start ∙ passes, omega arith)

pub passing_at : (test : ℕ → Bool) (from count place : ℕ) → place < length (filter test (range_with_len from count)) → IsAt test from count place
passing_at test from zero place inside = absurd (omega arith)
passing_at test from (suc count) place inside = by (test from) refl place inside (passing_at test (from + 1) count)
  where
    by : (b : Bool) → test from ≡ b → (place : ℕ) → place < length (cond b (from ∷ filter test (range_with_len (from + 1) count)) (filter test (range_with_len (from + 1) count)))
        → ((place : ℕ) → place < length (filter test (range_with_len (from + 1) count)) → IsAt test (from + 1) count place) → IsAt test from (suc count) place
    by true e zero inside rest = let start : from + 0 ≡ from = omega arith in (0, omega arith, ap test start ∙ e, refl)
    by true e (suc place) inside rest = let one = ap (λ b. cond {A = ℕ} b 1 0) e in later test from count place (suc place) (omega arith) (rest place (omega arith))
    by false e place inside rest = let none = ap (λ b. cond {A = ℕ} b 1 0) e in later test from count place place (omega arith) (rest place inside)

-- the count of two ranges, one behind the other
pub count_split : (test : ℕ → Bool) (from count more : ℕ)
    → count_by test (range_with_len from (count + more)) ≡ count_by test (range_with_len from count) + count_by test (range_with_len (from + count) more)
count_split test from zero more =
    let none : count_by test (range_with_len from zero) ≡ 0 = refl in
    let start : from + 0 ≡ from = omega arith in
    let all : zero + more ≡ more = omega arith in
    let one = ap (λ k. count_by test (range_with_len from k)) all in
    let two = ap (λ k. count_by test (range_with_len k more)) start in
    omega arith
count_split test from (suc count) more =
    let start : from + suc count ≡ from + 1 + count = omega arith in
    let all : suc count + more ≡ suc (count + more) = omega arith in
    let one = ap (λ k. count_by test (range_with_len from k)) all in
    let two = ap (λ k. count_by test (range_with_len k more)) start in
    let three = count_more test from (count + more) in
    let four = count_more test from count in
    let rest = count_split test (from + 1) count more in
    omega arith

-- where all pass, all are counted
pub count_all : (test : ℕ → Bool) (from count : ℕ) → ((number : ℕ) → from ≤ number → number < from + count → test number ≡ true)
    → count_by test (range_with_len from count) ≡ count
count_all test from zero all = refl
count_all test from (suc count) all =
    let first = one_counted (test from) (all from (omega arith) (omega arith)) in
    let rest = count_all test (from + 1) count (λ number low high. all number (omega arith) (omega arith)) in
    let whole = count_more test from count in
    omega arith
