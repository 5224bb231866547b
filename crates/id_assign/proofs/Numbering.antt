-- Numbers that are given one after another.
use Rattle.std.proofs.Common.{◌≡◌, ℕ, ◌+◌, ◌<◌, Bool, true, false, List, [], ◌∷◌, ◌++◌, length, map, take, get_or, filter, slice_index, count_by, refl, sym, ap, ap₂, subst, ◌∙◌, arith, ⊎_elim, length-append}
use Rattle.std.specs.List.{Contains, range_with_len}
use Rattle.std.proofs.Math.Seq.{get_or-append_seam}
use Rattle.std.proofs.lemmas.Bool.{cases_eq, cases_lt, true≢false}
use Rattle.std.proofs.lemmas.List.{get_or_append_left, take-append-le, take_all, map-append, get_or_past, length-map, map_more}
use Rattle.std.proofs.lemmas.List.Sums.{length-filter}
use Rattle.pk_types.specs.ModuleIds.{IsNextFree, AreGivenInOrder}
use Rattle.pk_types.proofs.Counts.{counted}
use Rattle.pk_types.proofs.ListMembers.{here, there, unfiltered, range_of}
use Rattle.id_assign.specs.Numbered.{AreNumbered}
use Rattle.id_assign.proofs.Ranges.{passes_more, fails_more}

-- at the end of a list that one item was added to
pub at_end : (xs : List ℕ) (x d : ℕ) → get_or (xs ++ x ∷ []) (length xs) d ≡ x
at_end xs x d = get_or-append_seam xs x [] d

-- what is made of each item is the same
pub map_same : (f g : ℕ → ℕ) (xs : List ℕ) → ((k : ℕ) → Contains xs k → f k ≡ g k) → map f xs ≡ map g xs
map_same f g [] same = refl
map_same f g (x ∷ xs) same = ap₂ (λ y ys. y ∷ ys) (same x (here x xs)) (map_same f g xs (λ k c. same k (there x xs k c)))

-- one number more
pub given_more : (starts numbers : List ℕ) (start number : ℕ) → AreGivenInOrder starts numbers → IsNextFree numbers start number
    → AreGivenInOrder (starts ++ start ∷ []) (numbers ++ number ∷ [])
given_more starts numbers start number (long, next) free = (
  omega (arith, length-append {A = ℕ}),
  λ place inside. ⊎_elim
      (λ before. old place before)
      (λ last. new place (omega (arith, length-append starts (start ∷ []))))
      (cases_lt place (length starts)),
)
  where
    old : (place : ℕ) → place < length starts → IsNextFree (take place (numbers ++ number ∷ [])) (slice_index (starts ++ start ∷ []) place) (slice_index (numbers ++ number ∷ []) place)
    old place before = subst (λ taken. IsNextFree taken (slice_index (starts ++ start ∷ []) place) (slice_index (numbers ++ number ∷ []) place))
        (sym (take-append-le place numbers (number ∷ []) (omega arith)))
        (subst (λ from. IsNextFree (take place numbers) from (slice_index (numbers ++ number ∷ []) place)) (sym (get_or_append_left starts (start ∷ []) 0 place before))
        (subst (IsNextFree (take place numbers) (slice_index starts place)) (sym (get_or_append_left numbers (number ∷ []) 0 place (omega arith))) (next place before)))

    new : (place : ℕ) → place ≡ length starts → IsNextFree (take place (numbers ++ number ∷ [])) (slice_index (starts ++ start ∷ []) place) (slice_index (numbers ++ number ∷ []) place)
    new place last =
        let here : place ≡ length numbers = omega arith in
        subst (λ taken. IsNextFree taken (slice_index (starts ++ start ∷ []) place) (slice_index (numbers ++ number ∷ []) place))
        (sym (ap (λ k. take k (numbers ++ number ∷ [])) here ∙ take-append-le (length numbers) numbers (number ∷ []) (omega arith) ∙ take_all (length numbers) numbers (omega arith)))
        (subst (λ from. IsNextFree numbers from (slice_index (numbers ++ number ∷ []) place)) (sym (ap (slice_index (starts ++ start ∷ [])) last ∙ at_end starts start 0))
        (subst (IsNextFree numbers start) (sym (ap (slice_index (numbers ++ number ∷ [])) here ∙ at_end numbers number 0)) free))

-- the ids so far, and the numbers that are taken
pub record IsSoFar (start : ℕ → ℕ) (test : ℕ → Bool) (count : ℕ) (ids numbers : List ℕ) : Type 0 where
  pub numbered : AreNumbered start test count ids
  pub taken : numbers ≡ map (slice_index ids) (filter test (range_with_len 0 count))

pub none_yet : (start : ℕ → ℕ) (test : ℕ → Bool) (ids numbers : List ℕ) → ids ≡ [] → numbers ≡ [] → IsSoFar start test 0 ids numbers
none_yet start test ids numbers no_ids no_numbers = record {
  numbered = record {
    each = ap length no_ids;
    given = (refl, λ place inside. absurd (omega arith));
    others = λ number fails. ap (λ l. slice_index l number) no_ids;
  };
  taken = no_numbers;
}

-- how many are taken
pub taken_so_far : (start : ℕ → ℕ) (test : ℕ → Bool) (count more : ℕ) (ids taken : List ℕ) → IsSoFar start test count ids taken → count < more → test count ≡ true
    → length taken < count_by test (range_with_len 0 more)
taken_so_far start test count more ids taken so_far before passes =
    let fewer : count_by test (range_with_len 0 count) < count_by test (range_with_len 0 more) = counted test 0 count more before (ap test (omega arith) ∙ passes) in
    omega (arith, ap length so_far.taken ∙ length-map (filter test (range_with_len 0 count)) (slice_index ids), length-filter test (range_with_len 0 count))

module _ (start : ℕ → ℕ) (test : ℕ → Bool) (count : ℕ) (ids taken : List ℕ) (id : ℕ) (so_far : IsSoFar start test count ids taken) where
  -- the ids of those before stay
  stay : map (slice_index (ids ++ id ∷ [])) (filter test (range_with_len 0 count)) ≡ map (slice_index ids) (filter test (range_with_len 0 count))
  stay = map_same (slice_index (ids ++ id ∷ [])) (slice_index ids) (filter test (range_with_len 0 count))
      (λ k c. let below = range_of 0 count k (unfiltered test (range_with_len 0 count) k c).0 in
      get_or_append_left ids (id ∷ []) 0 k (omega (arith, so_far.numbered.each)))

  last : slice_index (ids ++ id ∷ []) count ≡ id
  last = ap (slice_index (ids ++ id ∷ [])) (sym so_far.numbered.each) ∙ at_end ids id 0

  others_stay : (test count ≡ false → id ≡ 0) → (number : ℕ) → test number ≡ false → slice_index (ids ++ id ∷ []) number ≡ 0
  others_stay none number fails = ⊎_elim
      (λ before. get_or_append_left ids (id ∷ []) 0 number (omega (arith, so_far.numbered.each)) ∙ so_far.numbered.others number fails)
      (λ after. ⊎_elim
      (λ same. ap (slice_index (ids ++ id ∷ [])) same ∙ last ∙ none (ap test (sym same) ∙ fails))
      (λ other. get_or_past (ids ++ id ∷ []) number 0 (omega (arith, length-append ids (id ∷ []), so_far.numbered.each)))
      (cases_eq number count))
      (cases_lt number count)

  -- one that passes
  pub one_more : test count ≡ true → IsNextFree taken (start count) id → IsSoFar start test (count + 1) (ids ++ id ∷ []) (taken ++ id ∷ [])
  one_more passes free =
      let filtered = passes_more test count passes in
      let now : map (slice_index (ids ++ id ∷ [])) (filter test (range_with_len 0 (count + 1))) ≡ taken ++ id ∷ [] =
      ap (map (slice_index (ids ++ id ∷ []))) filtered ∙ map-append (slice_index (ids ++ id ∷ [])) (filter test (range_with_len 0 count)) (count ∷ [])
      ∙ ap₂ (λ l m. l ++ m ∷ []) (stay ∙ sym so_far.taken) last in
      record {
        numbered = record {
          each = omega (arith, length-append ids (id ∷ []), so_far.numbered.each);
          given = subst (λ numbers. AreGivenInOrder (map start (filter test (range_with_len 0 (count + 1)))) numbers) (sym now)
              (subst (λ starts. AreGivenInOrder starts (taken ++ id ∷ []))
              (sym (ap (map start) filtered ∙ map-append start (filter test (range_with_len 0 count)) (count ∷ [])))
              (given_more (map start (filter test (range_with_len 0 count))) taken (start count) id
              (subst (AreGivenInOrder (map start (filter test (range_with_len 0 count)))) (sym so_far.taken) so_far.numbered.given) free));
          others = others_stay (λ fails. absurd (true≢false (sym passes ∙ fails)));
        };
        taken = sym now;
      }

  -- one that doesn't
  pub none_more : test count ≡ false → id ≡ 0 → IsSoFar start test (count + 1) (ids ++ id ∷ []) taken
  none_more fails zero_id =
      let filtered = fails_more test count fails in
      let now : map (slice_index (ids ++ id ∷ [])) (filter test (range_with_len 0 (count + 1))) ≡ taken =
      ap (map (slice_index (ids ++ id ∷ []))) filtered ∙ stay ∙ sym so_far.taken in
      record {
        numbered = record {
          each = omega (arith, length-append ids (id ∷ []), so_far.numbered.each);
          given = subst (λ numbers. AreGivenInOrder (map start (filter test (range_with_len 0 (count + 1)))) numbers) (sym now)
              (subst (λ starts. AreGivenInOrder starts taken) (sym (ap (map start) filtered))
              (subst (AreGivenInOrder (map start (filter test (range_with_len 0 count)))) (sym so_far.taken) so_far.numbered.given));
          others = others_stay (λ fails. zero_id);
        };
        taken = sym now;
      }

-- one chunk more
pub chunk_more : (start : List ℕ → ℕ) (chunks : List (List ℕ)) (place : ℕ) (modules numbers : List ℕ) (number : ℕ) → place < length chunks → modules ≡ get_or chunks place modules
    → AreGivenInOrder (map start (take place chunks)) numbers → IsNextFree numbers (start modules) number
    → AreGivenInOrder (map start (take (place + 1) chunks)) (numbers ++ number ∷ [])
chunk_more start chunks place modules numbers number inside is so_far free =
    subst (λ starts. AreGivenInOrder starts (numbers ++ number ∷ [])) (sym (map_more start chunks place modules inside))
    (given_more (map start (take place chunks)) numbers (start (get_or chunks place modules)) number so_far
    (subst (λ (l : List ℕ). IsNextFree numbers (start l) number) is free))
