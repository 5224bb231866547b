-- Chunks that are left, and their numbers.
use Rattle.std.proofs.Common.{◌≡◌, ⊎_elim, ℕ, suc, ◌+◌, ◌-◌, ◌<◌, ◌≤◌, ◌&&◌, Bool, true, false, cond, List, [], ◌∷◌, ◌++◌, length, map, filter, get_or, nat_le, slice_index, count_by, refl, sym, ap, ◌∙◌, arith}
use Rattle.std.specs.List.{All, Contains, range_with_len}
use Rattle.std.proofs.lemmas.Bool.{cases_lt, le-leb, cases_Bool, leb-true}
use Rattle.std.proofs.lemmas.List.{map-id, map-append, get_or_append_left}
use Rattle.std.proofs.Math.Seq.{get_or-append_seam}
use Rattle.std.proofs.lemmas.List.Elements.{All-contains}
use Rattle.std.proofs.lemmas.List.FromFn.{sum_by-map-range_with_len_more}
use Rattle.pk_types.specs.SplitStates.{SplitState, is_there}
use Rattle.pk_types.specs.Splitting.{chunk_number, list_of}
use Rattle.pk_types.proofs.ListMembers.{unfiltered}
use Rattle.split_chunks.specs.Numbering.{AreNumbers}
use Rattle.split_chunks.proofs.Lists.{passes_more, fails_more, all_of}

count_range : (test : ℕ → Bool) (from count last : ℕ) → from + count ≡ last → count_by test (range_with_len from (count + 1)) ≡ count_by test (range_with_len from count) + cond (test last) 1 0
count_range test from count last at =
    ap (count_by test) (sym (map-id (range_with_len from (count + 1))))
    ∙ sum_by-map-range_with_len_more (λ z. cond (test z) 1 0) (λ k. k) from count last at
    ∙ ap (λ l. count_by test l + cond (test last) 1 0) (map-id (range_with_len from count))

pub number_more : (state : SplitState) (chunk : ℕ) → chunk_number state (chunk + 1) ≡ chunk_number state chunk + cond (nat_le state.entries chunk && is_there state chunk) 1 0
number_more state chunk = ⊎_elim below above (cases_lt chunk state.entries)
  where
    count : ℕ → ℕ
    count n = count_by (is_there state) (range_with_len state.entries n)

    below : chunk < state.entries → count (chunk + 1 - state.entries) ≡ count (chunk - state.entries) + cond (nat_le state.entries chunk && is_there state chunk) 1 0
    below low =
        let none : nat_le state.entries chunk ≡ false = ⊎_elim (λ does. absurd (let over = leb-true state.entries chunk does in omega arith)) (λ isnt. isnt) (cases_Bool (nat_le state.entries chunk)) in
        let one : chunk + 1 - state.entries ≡ 0 = omega arith in
        let two : chunk - state.entries ≡ 0 = omega arith in
        let zero_one : count (chunk + 1 - state.entries) ≡ 0 = ap count one in
        let zero_two : count (chunk - state.entries) ≡ 0 = ap count two in
        let add : cond (nat_le state.entries chunk && is_there state chunk) 1 0 ≡ 0 = ap (λ b. cond {A = ℕ} (b && is_there state chunk) 1 0) none in
        zero_one ∙ sym (λ i. zero_two i + add i)

    above : state.entries ≤ chunk → count (chunk + 1 - state.entries) ≡ count (chunk - state.entries) + cond (nat_le state.entries chunk && is_there state chunk) 1 0
    above high =
        let next : chunk + 1 - state.entries ≡ (chunk - state.entries) + 1 = omega arith in
        ap count next ∙ count_range (is_there state) state.entries (chunk - state.entries) chunk (omega arith)
        ∙ ap (λ b. count (chunk - state.entries) + cond {A = ℕ} (b && is_there state chunk) 1 0) (sym (le-leb state.entries chunk high))

pub first_number : (state : SplitState) → 0 ≡ chunk_number state 0
first_number state = let none : 0 - state.entries ≡ 0 = omega arith in sym (ap (λ n. count_by (is_there state) (range_with_len state.entries n)) none)

-- one number more
pub numbers_push : (numbers : List ℕ) (f : ℕ → ℕ) (next chunk : ℕ) → length numbers ≡ chunk → next ≡ f chunk → ((k : ℕ) → k < chunk → get_or numbers k 0 ≡ f k)
    → (k : ℕ) → k < chunk + 1 → get_or (numbers ++ next ∷ []) k 0 ≡ f k
numbers_push numbers f next chunk long is before k inside = ⊎_elim
    (λ low. get_or_append_left numbers (next ∷ []) 0 k (omega arith) ∙ before k low)
    (λ high. let at : k ≡ length numbers = omega arith in let same : k ≡ chunk = omega arith in
    ap (λ z. get_or (numbers ++ next ∷ []) z 0) at ∙ get_or-append_seam numbers next [] 0 ∙ is ∙ ap f (sym same))
    (cases_lt k chunk)

-- one more of the chunks that are there
pub kept_yes : {X : Type 0} (f : ℕ → X) (test : ℕ → Bool) (n : ℕ) → test n ≡ true → map f (filter test (range_with_len 0 (n + 1))) ≡ map f (filter test (range_with_len 0 n)) ++ f n ∷ []
kept_yes f test n e = ap (map f) (passes_more test n e) ∙ map-append f (filter test (range_with_len 0 n)) (n ∷ [])

pub kept_no : {X : Type 0} (f : ℕ → X) (test : ℕ → Bool) (n : ℕ) → test n ≡ false → map f (filter test (range_with_len 0 (n + 1))) ≡ map f (filter test (range_with_len 0 n))
kept_no f test n e = ap (map f) (fails_more test n e)

map_same : (f g : ℕ → ℕ) (xs : List ℕ) → ((x : ℕ) → Contains xs x → f x ≡ g x) → map f xs ≡ map g xs
map_same f g [] same = refl
map_same f g (x ∷ xs) same = (λ i. same x (0, omega arith, refl) i ∷ map_same f g xs (λ y c. same y (suc c.0, omega (arith, c.1), c.2)) i)

module _ (state : SplitState) (loads numbers : List ℕ) (below : All (λ chunk. chunk < length state.modules) loads) (are : AreNumbers state numbers) where
  others_below : (chunk : ℕ) → Contains (filter (nat_le state.entries) loads) chunk → chunk < length state.modules
  others_below chunk c = All-contains (λ chunk. chunk < length state.modules) loads chunk below (unfiltered (nat_le state.entries) loads chunk c).0

  pub others_inside : All (λ chunk. chunk < length numbers) (filter (nat_le state.entries) loads)
  others_inside = all_of (λ chunk. chunk < length numbers) (filter (nat_le state.entries) loads) (λ chunk c. let low = others_below chunk c in let long = are.each in omega arith)

  pub is_list : map (slice_index numbers) (filter (nat_le state.entries) loads) ≡ list_of state loads
  is_list = map_same (slice_index numbers) (chunk_number state) (filter (nat_le state.entries) loads) (λ chunk c. are.counts chunk (others_below chunk c))

pub one_at_most : (b : Bool) → cond {A = ℕ} b 1 0 ≤ 1
one_at_most true = omega arith
one_at_most false = omega arith
