-- The numbers from 0, one number more.
use Rattle.std.proofs.Common.{◌≡◌, ℕ, ◌+◌, ◌<◌, ◌||◌, Bool, true, false, cond, nat_eq, count_by, List, [], ◌∷◌, ◌++◌, length, map, sym, ap, ◌∙◌, arith}
use Rattle.std.specs.Prelude.{slice_index_or}
use Rattle.std.specs.List.{filter, list_any, range_with_len}
use Rattle.std.proofs.lemmas.List.{append-nil, map-id, get_or_default}
use Rattle.std.proofs.lemmas.List.Elements.{filter-append}
use Rattle.std.proofs.lemmas.List.FromFn.{map-range_with_len_more}
use Rattle.std.proofs.lemmas.List.Sums.{sum_by-append}
use Rattle.plan_core.specs.NaturalIds.{is_placed, natural_id, natural_ids}
use Rattle.plan_core.specs.Scopes.{items_along, scope_items}

pub range_more : (n : ℕ) → range_with_len 0 (n + 1) ≡ range_with_len 0 n ++ n ∷ []
range_more n = sym (map-id (range_with_len 0 (n + 1))) ∙ map-range_with_len_more (λ k. k) 0 n n (omega arith) ∙ ap (λ l. l ++ n ∷ []) (map-id (range_with_len 0 n))

-- ---- the answers of a test

pub flags_more : (p : ℕ → Bool) (n : ℕ) → map p (range_with_len 0 (n + 1)) ≡ map p (range_with_len 0 n) ++ p n ∷ []
flags_more p n = map-range_with_len_more p 0 n n (omega arith)

-- ---- those that pass a test

pub passes_more : (p : ℕ → Bool) (n : ℕ) → p n ≡ true → filter p (range_with_len 0 (n + 1)) ≡ filter p (range_with_len 0 n) ++ n ∷ []
passes_more p n e = ap (filter p) (range_more n) ∙ filter-append p (range_with_len 0 n) (n ∷ []) ∙ ap (λ b. filter p (range_with_len 0 n) ++ cond b (n ∷ []) []) e

pub fails_more : (p : ℕ → Bool) (n : ℕ) → p n ≡ false → filter p (range_with_len 0 (n + 1)) ≡ filter p (range_with_len 0 n)
fails_more p n e = ap (filter p) (range_more n) ∙ filter-append p (range_with_len 0 n) (n ∷ []) ∙ ap (λ b. filter p (range_with_len 0 n) ++ cond b (n ∷ []) []) e ∙ append-nil (filter p (range_with_len 0 n))

-- ---- ids

module _ (placed : List ℕ) (n : ℕ) where
  abbrev test : ℕ → Bool
  test = is_placed (placed ∷ [])

  count_more : count_by (is_placed (placed ∷ [])) (range_with_len 0 (n + 1)) ≡ count_by (is_placed (placed ∷ [])) (range_with_len 0 n) + (0 + cond (list_any (nat_eq n) placed || false) 1 0)
  count_more = ap (count_by test) (range_more n) ∙ sum_by-append (λ x. cond (test x) 1 0) (range_with_len 0 n) (n ∷ [])

  pub placed_counts : list_any (nat_eq n) placed ≡ true → count_by (is_placed (placed ∷ [])) (range_with_len 0 (n + 1)) ≡ count_by (is_placed (placed ∷ [])) (range_with_len 0 n) + 1
  placed_counts e = count_more ∙ ap (λ b. count_by test (range_with_len 0 n) + (0 + cond (b || false) 1 0)) e ∙ omega arith

  pub other_counts : list_any (nat_eq n) placed ≡ false → count_by (is_placed (placed ∷ [])) (range_with_len 0 (n + 1)) ≡ count_by (is_placed (placed ∷ [])) (range_with_len 0 n)
  other_counts e = count_more ∙ ap (λ b. count_by test (range_with_len 0 n) + (0 + cond (b || false) 1 0)) e ∙ omega arith

  ids_more : natural_ids (placed ∷ []) (n + 1) ≡ natural_ids (placed ∷ []) n ++ natural_id (placed ∷ []) n ∷ []
  ids_more = map-range_with_len_more (natural_id (placed ∷ [])) 0 n n (omega arith)

  pub placed_ids : list_any (nat_eq n) placed ≡ true → natural_ids (placed ∷ []) (n + 1) ≡ natural_ids (placed ∷ []) n ++ count_by (is_placed (placed ∷ [])) (range_with_len 0 n) ∷ []
  placed_ids e = ids_more ∙ ap (λ b. natural_ids (placed ∷ []) n ++ cond (b || false) (count_by test (range_with_len 0 n)) 0 ∷ []) e

  pub other_ids : list_any (nat_eq n) placed ≡ false → natural_ids (placed ∷ []) (n + 1) ≡ natural_ids (placed ∷ []) n ++ 0 ∷ []
  other_ids e = ids_more ∙ ap (λ b. natural_ids (placed ∷ []) n ++ cond (b || false) (count_by test (range_with_len 0 n)) 0 ∷ []) e

-- ---- scopes

pub scopes_more : (edges : List (List ℕ)) (n : ℕ) (targets : List ℕ) → n < length edges → targets ≡ slice_index_or edges n targets
    → map (scope_items edges) (range_with_len 0 (n + 1)) ≡ map (scope_items edges) (range_with_len 0 n) ++ items_along targets n ∷ []
scopes_more edges n targets within at =
    map-range_with_len_more (scope_items edges) 0 n n (omega arith)
    ∙ ap (λ l. map (scope_items edges) (range_with_len 0 n) ++ items_along l n ∷ []) (get_or_default edges n [] targets within ∙ sym at)
