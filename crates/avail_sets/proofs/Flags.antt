-- Flags by words, at one more flag and at flags that two rows have.
use Rattle.std.proofs.Common.{◌≡◌, ◌≢◌, ℕ, zero, suc, ◌+◌, ◌*◌, ◌/◌, ◌%◌, ◌^◌, ◌<◌, ◌≤◌, ◌&&◌, ◌||◌, ◌==◌, min, Bool, true, false, ◌⊎◌, ◌↔◌, inl, inr, ⊎_elim, sum_by, replicate, nat_eq, nat_lt, bit_and, bit_or, List, [], ◌∷◌, ◌++◌, length, map, get_or, w64, refl, sym, ap, subst, ◌∙◌, arith}
use Rattle.std.proofs.Math.ListN.{set}
use Rattle.std.specs.Int.{bit_at}
use Rattle.std.specs.Int.Bits.{and_zero_l}
use Rattle.std.specs.List.{Contains}
use Rattle.std.proofs.lemmas.Bool.{cases_eq, cases_lt, eq-eqb, ne_eqb, eqb-true, ltb-true, lt-ltb}
use Rattle.std.proofs.lemmas.List.{get_or-set_same, get_or-set_other, get_or_past, get_or-map, get_or-replicate, length-replicate}
use Rattle.std.proofs.lemmas.List.Elements.{Contains-append_left, Contains-append_right, Contains-push_cases}
use Rattle.std.proofs.lemmas.List.Sums.{sum_by-set}
use Rattle.std.proofs.lemmas.Grind.{div_ceil_times}
use Rattle.std.proofs.lemmas.Nat.{and_le_l}
use Rattle.std.proofs.lemmas.List.FromFn.{length-map-range_with_len, get_or-map-range_with_len}
use Rattle.std.proofs.lemmas.Nat.Bits.{bit_at_and, bit_at-lt, bit_at-zero, bit_at_set_same, bit_at_set_other}
use Rattle.pk_types.proofs.ListMembers.{or_first, or_second, or_one}
use Rattle.avail_sets.specs.Words.{flag_in, words_for, flags_of}
use Rattle.avail_sets.specs.Rows.{AreWordsOf}

-- ---- one flag is set

module _ (words : List ℕ) (number : ℕ) (within : number / 64 < length words) where
  abbrev with_flag : List ℕ
  with_flag = set words (number / 64) (bit_or (get_or words (number / 64) 0) (1 * 2 ^ (number % 64) % 2 ^ 64))

  low : number % 64 < 64
  low = omega arith

  apart : (other : ℕ) → other ≢ number → flag_in with_flag other ≡ flag_in words other
  apart other ne = ⊎_elim
      (λ same_word.
      let ne_bit : other % 64 ≢ number % 64 = λ e. absurd (omega (arith, ne, same_word, e)) in
      ap (λ k. nat_eq (bit_at (get_or with_flag k 0) (other % 64)) 1) same_word
      ∙ ap (λ w. nat_eq (bit_at w (other % 64)) 1) (get_or-set_same words (number / 64) (bit_or (get_or words (number / 64) 0) (1 * 2 ^ (number % 64) % 2 ^ 64)) 0 within)
      ∙ ap (λ b. nat_eq b 1) (bit_at_set_other w64 (get_or words (number / 64) 0) (number % 64) low (other % 64) ne_bit)
      ∙ ap (λ k. nat_eq (bit_at (get_or words k 0) (other % 64)) 1) (sym same_word))
      (λ other_word. ap (λ w. nat_eq (bit_at w (other % 64)) 1)
      (get_or-set_other words (number / 64) (other / 64) (bit_or (get_or words (number / 64) 0) (1 * 2 ^ (number % 64) % 2 ^ 64)) 0 other_word))
      (cases_eq (other / 64) (number / 64))

  here : flag_in with_flag number ≡ true
  here = ap (λ w. nat_eq (bit_at w (number % 64)) 1) (get_or-set_same words (number / 64) (bit_or (get_or words (number / 64) 0) (1 * 2 ^ (number % 64) % 2 ^ 64)) 0 within)
      ∙ ap (λ b. nat_eq b 1) (bit_at_set_same w64 (get_or words (number / 64) 0) (number % 64) low)

  pub flag_set : (other : ℕ) → flag_in with_flag other ≡ (nat_eq other number || flag_in words other)
  flag_set other = ⊎_elim
      (λ e. ap (flag_in with_flag) e ∙ here ∙ sym (ap (λ b. b || flag_in words other) (eq-eqb other number e)))
      (λ ne. apart other ne ∙ sym (ap (λ b. b || flag_in words other) (ne_eqb other number ne)))
      (cases_eq other number)

-- ---- flags that two rows have

both_bits : (x y : ℕ) → x < 2 → y < 2 → (min x y == 1) ≡ ((x == 1) && (y == 1))
both_bits zero zero a b = refl
both_bits zero (suc zero) a b = refl
both_bits (suc zero) zero a b = refl
both_bits (suc zero) (suc zero) a b = refl
both_bits zero (suc (suc y)) a b = absurd (omega (arith, b))
both_bits (suc zero) (suc (suc y)) a b = absurd (omega (arith, b))
both_bits (suc (suc x)) y a b = absurd (omega (arith, a))

pub flags_common : (words others now : List ℕ) → ((k : ℕ) → get_or now k 0 ≡ bit_and (get_or words k 0) (get_or others k 0))
    → (number : ℕ) → flag_in now number ≡ (flag_in words number && flag_in others number)
flags_common words others now each number =
    let place = number / 64 in
    let bit = number % 64 in
    ap (λ w. nat_eq (bit_at w bit) 1) (each place)
    ∙ ap (λ b. nat_eq b 1) (bit_at_and (get_or words place 0) (get_or others place 0) bit)
    ∙ both_bits (bit_at (get_or words place 0) bit) (bit_at (get_or others place 0) bit) (bit_at-lt (get_or words place 0) bit) (bit_at-lt (get_or others place 0) bit)

-- past the last word nothing is left over
pub all_words : (words others now : List ℕ) → length now ≡ length words → ((k : ℕ) → k < length words → get_or now k 0 ≡ bit_and (get_or words k 0) (get_or others k 0))
    → (k : ℕ) → get_or now k 0 ≡ bit_and (get_or words k 0) (get_or others k 0)
all_words words others now long each k = ⊎_elim (λ h. each k h)
    (λ past. get_or_past now k 0 (omega arith) ∙ sym (ap (λ w. bit_and w (get_or others k 0)) (get_or_past words k 0 past) ∙ and_zero_l (get_or others k 0)))
    (cases_lt k (length words))

-- ---- the words that two rows share, one word more

-- a row that was shortened, or not, has no more
pub not_more : (old now : List ℕ) (went : Bool) → (went ≡ false → now ≡ old) → (went ≡ true → sum_by (λ word. word) now < sum_by (λ word. word) old)
    → sum_by (λ word. word) now ≤ sum_by (λ word. word) old
not_more old now true same fewer = let less = fewer refl in omega arith
not_more old now false same fewer = let e = ap (sum_by (λ word. word)) (same refl) in omega arith

module _ (old others now : List ℕ) (place : ℕ) (h : place < length old) (long : length now ≡ length old)
    (done : (k : ℕ) → k < place → get_or now k 0 ≡ bit_and (get_or old k 0) (get_or others k 0)) (left : (k : ℕ) → place ≤ k → get_or now k 0 ≡ get_or old k 0) where
  abbrev common : ℕ
  common = bit_and (get_or now place 0) (get_or others place 0)

  is_common : common ≡ bit_and (get_or old place 0) (get_or others place 0)
  is_common = ap (λ w. bit_and w (get_or others place 0)) (left place (omega arith))

  pub written : (k : ℕ) → k < place + 1 → get_or (set now place common) k 0 ≡ bit_and (get_or old k 0) (get_or others k 0)
  written k below = ⊎_elim
      (λ e. subst (λ n. get_or (set now place common) n 0 ≡ bit_and (get_or old n 0) (get_or others n 0)) (sym e) (get_or-set_same now place common 0 (omega arith) ∙ is_common))
      (λ ne. get_or-set_other now place k common 0 ne ∙ done k (omega arith))
      (cases_eq k place)

  pub still_left : (k : ℕ) → place + 1 ≤ k → get_or (set now place common) k 0 ≡ get_or old k 0
  still_left k above = get_or-set_other now place k common 0 (omega arith) ∙ left k (omega arith)

  pub less : ¬ (common ≡ get_or now place 0) → sum_by (λ word. word) (set now place common) < sum_by (λ word. word) now
  less ne =
      let sums = sum_by-set (λ word. word) now place common 0 (omega arith) in
      let under = and_le_l (get_or now place 0) (get_or others place 0) in
      let apart : common ≢ get_or now place 0 = ne in
      omega arith

  pub unwritten : common ≡ get_or now place 0 → (k : ℕ) → k < place + 1 → get_or now k 0 ≡ bit_and (get_or old k 0) (get_or others k 0)
  unwritten e k below = ⊎_elim
      (λ same. subst (λ n. get_or now n 0 ≡ bit_and (get_or old n 0) (get_or others n 0)) (sym same) (sym e ∙ is_common))
      (λ ne. done k (omega arith))
      (cases_eq k place)

-- ---- rows without and with all flags

pub zero_words : (count k : ℕ) → let none : List ℕ = replicate count 0 in get_or none k 0 ≡ 0
zero_words count k =
    let zero_word : ℕ = 0 in
    ⊎_elim (λ h. get_or-replicate count k zero_word zero_word h)
    (λ past. get_or_past (replicate count zero_word) k zero_word (omega (arith, length-replicate count zero_word, past)))
    (cases_lt k count)

-- so many words have room for the flags
pub has_room : (count : ℕ) → count ≤ 64 * words_for count
has_room count = omega (arith, (div_ceil_times count 64 (omega arith)).0)

pub no_flag : (words : List ℕ) → ((k : ℕ) → get_or words k 0 ≡ 0) → (number : ℕ) → flag_in words number ≡ false
no_flag words none number = ap (λ w. nat_eq (bit_at w (number % 64)) 1) (none (number / 64)) ∙ ap (λ b. nat_eq b 1) (bit_at-zero (number % 64))

pub one_below_more : (k number : ℕ) → (nat_eq k number || nat_lt k number) ≡ nat_lt k (number + 1)
one_below_more k number = ⊎_elim
    (λ e. ap (λ b. b || nat_lt k number) (eq-eqb k number e) ∙ sym (lt-ltb k (number + 1) (omega arith)))
    (λ ne. ap (λ b. b || nat_lt k number) (ne_eqb k number ne) ∙ ⊎_elim
    (λ h. lt-ltb k number h ∙ sym (lt-ltb k (number + 1) (omega arith)))
    (λ h. not_below k number h ∙ sym (not_below k (number + 1) (omega arith)))
    (cases_lt k number))
    (cases_eq k number)
  where
    by : (k number : ℕ) (b : Bool) → nat_lt k number ≡ b → number ≤ k → nat_lt k number ≡ false
    by k number true e h = absurd (omega (arith, h, ltb-true k number e))
    by k number false e h = e

    not_below : (k number : ℕ) → number ≤ k → nat_lt k number ≡ false
    not_below k number h = by k number (nat_lt k number) refl h

-- one number more is set
pub set_more : (row before after : List ℕ) (numbers : List ℕ) (number : ℕ) → ((k : ℕ) → (flag_in before k ≡ true) ↔ ((flag_in row k ≡ true) ⊎ Contains numbers k))
    → ((k : ℕ) → flag_in after k ≡ (nat_eq k number || flag_in before k)) → (k : ℕ) → (flag_in after k ≡ true) ↔ ((flag_in row k ≡ true) ⊎ Contains (numbers ++ number ∷ []) k)
set_more row before after numbers number so_far step k = (
  λ there. ⊎_elim
      (λ one. inr (Contains-append_right numbers (number ∷ []) k (0, omega arith, sym (eqb-true k number one))))
      (λ old. ⊎_elim (λ own. inl own) (λ among. inr (Contains-append_left numbers (number ∷ []) k among)) ((so_far k).0 old))
      (or_one (nat_eq k number) (flag_in before k) (sym (step k) ∙ there)),
  λ either. step k ∙ ⊎_elim
      (λ own. or_second (nat_eq k number) (flag_in before k) ((so_far k).1 (inl own)))
      (λ among. ⊎_elim
      (λ old. or_second (nat_eq k number) (flag_in before k) ((so_far k).1 (inr old)))
      (λ e. or_first (nat_eq k number) (flag_in before k) (eq-eqb k number (sym e)))
      (Contains-push_cases numbers number k among))
      either,
)

-- ---- rows as flags

pub length_flags : (count : ℕ) (words : List ℕ) → length (flags_of count words) ≡ count
length_flags count words = length-map-range_with_len (flag_in words) 0 count

pub read_below : (count : ℕ) (words : List ℕ) (number : ℕ) → number < count → get_or (flags_of count words) number false ≡ flag_in words number
read_below count words number h = get_or-map-range_with_len (flag_in words) 0 count number number false h (omega arith)

pub read_flag : (count : ℕ) (words : List ℕ) → ((number : ℕ) → flag_in words number ≡ true → number < count)
    → (number : ℕ) → flag_in words number ≡ get_or (flags_of count words) number false
read_flag count words below number = ⊎_elim
    (λ h. sym (read_below count words number h))
    (λ h. unset (flag_in words number) refl h ∙ sym (get_or_past (flags_of count words) number false (omega (arith, length_flags count words, h))))
    (cases_lt number count)
  where
    unset : (b : Bool) → flag_in words number ≡ b → count ≤ number → flag_in words number ≡ false
    unset true e h = absurd (omega (arith, h, below number e))
    unset false e h = e

pub row_of : (count : ℕ) (rows : List (List ℕ)) (group : ℕ) → group < length rows → get_or (map (flags_of count) rows) group [] ≡ flags_of count (get_or rows group [])
row_of count rows group h = get_or-map (flags_of count) rows group [] [] h

pub words_of_flags : (count : ℕ) (words : List ℕ) → length words ≡ words_for count → ((number : ℕ) → flag_in words number ≡ true → number < count)
    → AreWordsOf (flags_of count words) words
words_of_flags count words long past = record { long = long ∙ ap words_for (sym (length_flags count words)); each = read_flag count words past }
