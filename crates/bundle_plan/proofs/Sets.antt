-- The members of sets, gathered module by module.
use Rattle.std.proofs.Common.{◌≡◌, ◌≢◌, ◌==◌, ◌+◌, ◌<◌, ℕ, zero, suc, List, [], ◌∷◌, ◌++◌, length, get_or, set, filter, slice_index, refl, sym, ap, ◌∙◌, ⊎_elim}
use Rattle.std.specs.List.{range_with_len}
use Rattle.std.proofs.lemmas.Bool.{cases_eq, eq-eqb, ne_eqb}
use Rattle.std.proofs.lemmas.List.{get_or-set_same, get_or-set_other}
use Rattle.hoist_rename.proofs.Rows.{passes_more, fails_more}

pub still_empty : (sets : List (List ℕ)) (k : ℕ) → ((k : ℕ) → get_or sets k [] ≡ []) → get_or (sets ++ [] ∷ []) k [] ≡ []
still_empty [] zero empty = refl
still_empty [] (suc k) empty = refl
still_empty (one ∷ sets) zero empty = empty 0
still_empty (one ∷ sets) (suc k) empty = still_empty sets k (λ j. empty (suc j))

-- one module more
pub sets_more : (roots : List ℕ) (sets : List (List ℕ)) (member : ℕ) (one : List ℕ) → slice_index roots member < length sets
    → one ≡ get_or sets (slice_index roots member) [] ++ member ∷ []
    → ((root : ℕ) → get_or sets root [] ≡ filter (λ m. slice_index roots m == root) (range_with_len 0 member))
    → (root : ℕ) → get_or (set sets (slice_index roots member) one) root [] ≡ filter (λ m. slice_index roots m == root) (range_with_len 0 (member + 1))
sets_more roots sets member one inside is so_far root = ⊎_elim same other (cases_eq root (slice_index roots member))
  where
    same : root ≡ slice_index roots member → get_or (set sets (slice_index roots member) one) root [] ≡ filter (λ m. slice_index roots m == root) (range_with_len 0 (member + 1))
    same e = ap (λ k. get_or (set sets (slice_index roots member) one) k []) e ∙ get_or-set_same sets (slice_index roots member) one [] inside ∙ is
        ∙ ap (λ l. l ++ member ∷ []) (ap (λ k. get_or sets k []) (sym e) ∙ so_far root)
        ∙ sym (passes_more (λ m. slice_index roots m == root) member (eq-eqb (slice_index roots member) root (sym e)))

    other : root ≢ slice_index roots member → get_or (set sets (slice_index roots member) one) root [] ≡ filter (λ m. slice_index roots m == root) (range_with_len 0 (member + 1))
    other ne = get_or-set_other sets (slice_index roots member) root one [] ne ∙ so_far root
        ∙ sym (fails_more (λ m. slice_index roots m == root) member (ne_eqb (slice_index roots member) root (λ e. ne (sym e))))
