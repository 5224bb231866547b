-- The numbers from 0, one number more.
use Rattle.std.proofs.Common.{◌≡◌, ℕ, zero, suc, ◌+◌, ◌-◌, ◌<◌, ◌≤◌, Bool, true, false, cond, count_by, List, [], ◌∷◌, ◌++◌, length, map, refl, sym, ap, ◌∙◌, arith, filter}
use Rattle.std.specs.List.{range_with_len}
use Rattle.std.proofs.lemmas.List.{append-nil, map-id}
use Rattle.std.proofs.lemmas.List.Elements.{filter-append}
use Rattle.std.proofs.lemmas.List.FromFn.{map-range_with_len_more}
use Rattle.std.proofs.lemmas.List.Sums.{sum_by-append}
use Rattle.pk_types.proofs.Counts.{count_split}
use Rattle.id_assign.specs.Flags.{is_set, rank_among}

pub range_more : (n : ℕ) → range_with_len 0 (n + 1) ≡ range_with_len 0 n ++ n ∷ []
range_more n = sym (map-id (range_with_len 0 (n + 1))) ∙ map-range_with_len_more (λ k. k) 0 n n (omega arith) ∙ ap (λ l. l ++ n ∷ []) (map-id (range_with_len 0 n))

-- ---- those that pass a test

pub passes_more : (test : ℕ → Bool) (n : ℕ) → test n ≡ true → filter test (range_with_len 0 (n + 1)) ≡ filter test (range_with_len 0 n) ++ n ∷ []
passes_more test n e = ap (filter test) (range_more n) ∙ filter-append test (range_with_len 0 n) (n ∷ []) ∙ ap (λ b. filter test (range_with_len 0 n) ++ cond b (n ∷ []) []) e

pub fails_more : (test : ℕ → Bool) (n : ℕ) → test n ≡ false → filter test (range_with_len 0 (n + 1)) ≡ filter test (range_with_len 0 n)
fails_more test n e = ap (filter test) (range_more n) ∙ filter-append test (range_with_len 0 n) (n ∷ []) ∙ ap (λ b. filter test (range_with_len 0 n) ++ cond b (n ∷ []) []) e ∙ append-nil (filter test (range_with_len 0 n))

pub filter_same : (test other : ℕ → Bool) (n : ℕ) → ((k : ℕ) → k < n → test k ≡ other k) → filter test (range_with_len 0 n) ≡ filter other (range_with_len 0 n)
filter_same test other zero same = refl
filter_same test other (suc n) same =
    let next : suc n ≡ n + 1 = omega arith in
    let more = λ (p : ℕ → Bool). ap (λ m. filter p (range_with_len 0 m)) next ∙ ap (filter p) (range_more n) ∙ filter-append p (range_with_len 0 n) (n ∷ []) in
    more test ∙ ap (λ l. l ++ cond (test n) (n ∷ []) []) (filter_same test other n (λ k h. same k (omega arith)))
    ∙ ap (λ b. filter other (range_with_len 0 n) ++ cond b (n ∷ []) []) (same n (omega arith)) ∙ sym (more other)

-- ---- how many pass

count_more : (test : ℕ → Bool) (n : ℕ) → count_by test (range_with_len 0 (n + 1)) ≡ count_by test (range_with_len 0 n) + (0 + cond (test n) 1 0)
count_more test n = ap (count_by test) (range_more n) ∙ sum_by-append (λ x. cond (test x) 1 0) (range_with_len 0 n) (n ∷ [])

pub count_passes : (test : ℕ → Bool) (n : ℕ) → test n ≡ true → count_by test (range_with_len 0 (n + 1)) ≡ count_by test (range_with_len 0 n) + 1
count_passes test n e = count_more test n ∙ ap (λ b. count_by test (range_with_len 0 n) + (0 + cond b 1 0)) e ∙ omega arith

pub count_fails : (test : ℕ → Bool) (n : ℕ) → test n ≡ false → count_by test (range_with_len 0 (n + 1)) ≡ count_by test (range_with_len 0 n)
count_fails test n e = count_more test n ∙ ap (λ b. count_by test (range_with_len 0 n) + (0 + cond b 1 0)) e ∙ omega arith

pub count_within : (test : ℕ → Bool) (n more : ℕ) → n ≤ more → count_by test (range_with_len 0 n) ≤ count_by test (range_with_len 0 more)
count_within test n more h =
    let whole : n + (more - n) ≡ more = omega arith in
    let split = sym (ap (λ k. count_by test (range_with_len 0 k)) whole) ∙ count_split test 0 n (more - n) in
    omega arith

pub count_same : (test other : ℕ → Bool) (n : ℕ) → ((k : ℕ) → k < n → test k ≡ other k) → count_by test (range_with_len 0 n) ≡ count_by other (range_with_len 0 n)
count_same test other zero same = refl
count_same test other (suc n) same =
    let next : suc n ≡ n + 1 = omega arith in
    ap (λ m. count_by test (range_with_len 0 m)) next ∙ count_more test n
    ∙ ap (λ s. s + (0 + cond (test n) 1 0)) (count_same test other n (λ k h. same k (omega arith)))
    ∙ ap (λ b. count_by other (range_with_len 0 n) + (0 + cond b 1 0)) (same n (omega arith))
    ∙ sym (ap (λ m. count_by other (range_with_len 0 m)) next ∙ count_more other n)

-- ---- ranks

module _ (flags : List Bool) (n : ℕ) where
  ranks_more : map (rank_among flags) (range_with_len 0 (n + 1)) ≡ map (rank_among flags) (range_with_len 0 n) ++ rank_among flags n ∷ []
  ranks_more = map-range_with_len_more (rank_among flags) 0 n n (omega arith)

  pub set_ranks : is_set flags n ≡ true → map (rank_among flags) (range_with_len 0 (n + 1)) ≡ map (rank_among flags) (range_with_len 0 n) ++ count_by (is_set flags) (range_with_len 0 n) ∷ []
  set_ranks e = ranks_more ∙ ap (λ b. map (rank_among flags) (range_with_len 0 n) ++ cond b (count_by (is_set flags) (range_with_len 0 n)) 0 ∷ []) e

  pub unset_ranks : is_set flags n ≡ false → map (rank_among flags) (range_with_len 0 (n + 1)) ≡ map (rank_among flags) (range_with_len 0 n) ++ 0 ∷ []
  unset_ranks e = ranks_more ∙ ap (λ b. map (rank_among flags) (range_with_len 0 n) ++ cond b (count_by (is_set flags) (range_with_len 0 n)) 0 ∷ []) e

-- the next rank leaves room for one more
pub rank_within : (flags : List Bool) (n : ℕ) → n < length flags → is_set flags n ≡ true → count_by (is_set flags) (range_with_len 0 n) + 1 ≤ count_by (is_set flags) (range_with_len 0 (length flags))
rank_within flags n inside e = omega (arith, count_passes (is_set flags) n e, count_within (is_set flags) (n + 1) (length flags) (omega arith))
