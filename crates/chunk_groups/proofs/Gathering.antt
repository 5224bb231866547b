-- What is gathered from one more place.
use Rattle.std.proofs.Common.{◌≡◌, ◌↔◌, ◌⊎◌, inl, inr, ⊎_elim, ℕ, ◌+◌, ◌<◌, List, [], ◌∷◌, ◌++◌, length, get_or, sym, ap, subst, ◌∙◌, length-append, arith}
use Rattle.std.specs.List.{Contains}
use Rattle.std.proofs.lemmas.Bool.{cases_eq}
use Rattle.std.proofs.lemmas.List.Elements.{Contains-append_left, Contains-append_right, Contains-append_cases, Contains-push_cases}
use Rattle.std.proofs.lemmas.List.{get_or_append_left}
use Rattle.std.proofs.Math.Seq.{get_or-append_seam}
use Rattle.pk_types.specs.ChunkGroups.{AreAll}
use Rattle.chunk_groups.specs.Gathered.{IsGathered}

pub begins : (before : List ℕ) (Gives : ℕ → ℕ → Type 0) → IsGathered before Gives 0 before
begins before Gives number = (λ c. inl c, λ either. ⊎_elim (λ c. c) (λ some. absurd (omega (arith, some.1))) either)

module _ (before : List ℕ) (Gives : ℕ → ℕ → Type 0) (count : ℕ) (numbers : List ℕ) (so_far : IsGathered before Gives count numbers) where
  pub goes_on : (more : List ℕ) → ((number : ℕ) → Contains more number ↔ (Contains numbers number ⊎ Gives count number)) → IsGathered before Gives (count + 1) more
  goes_on more step number = (
    λ c. ⊎_elim
        (λ old. ⊎_elim (λ b. inl b) (λ some. inr (some.0, omega (arith, some.1), some.2)) ((so_far number).0 old))
        (λ new. inr (count, omega arith, new))
        ((step number).0 c),
    λ either. (step number).1 (⊎_elim
        (λ b. inl ((so_far number).1 (inl b)))
        (λ some. ⊎_elim
        (λ e. inr (subst (λ k. Gives k number) e some.2))
        (λ ne. inl ((so_far number).1 (inr (some.0, omega (arith, some.1, ne), some.2))))
        (cases_eq some.0 count))
        either),
  )

  -- the place gives nothing
  pub passes : ((number : ℕ) → ¬ Gives count number) → IsGathered before Gives (count + 1) numbers
  passes none = goes_on numbers (λ number. (λ c. inl c, λ either. ⊎_elim (λ c. c) (λ gives. absurd (none number gives)) either))

  -- the place gives one number
  pub pushes : (one : ℕ) → ((number : ℕ) → Gives count number ↔ (one ≡ number)) → IsGathered before Gives (count + 1) (numbers ++ one ∷ [])
  pushes one only = goes_on (numbers ++ one ∷ []) (λ number. (
    λ c. ⊎_elim (λ old. inl old) (λ e. inr ((only number).1 e)) (Contains-push_cases numbers one number c),
    λ either. ⊎_elim
        (λ old. Contains-append_left numbers (one ∷ []) number old)
        (λ gives. Contains-append_right numbers (one ∷ []) number (0, omega arith, (only number).0 gives))
        either,
  ))

  -- the place gives a list
  pub appends : (list : List ℕ) → ((number : ℕ) → Gives count number ↔ Contains list number) → IsGathered before Gives (count + 1) (numbers ++ list)
  appends list only = goes_on (numbers ++ list) (λ number. (
    λ c. ⊎_elim (λ old. inl old) (λ new. inr ((only number).1 new)) (Contains-append_cases numbers list number c),
    λ either. ⊎_elim (λ old. Contains-append_left numbers list number old) (λ gives. Contains-append_right numbers list number ((only number).0 gives)) either,
  ))

-- ---- the numbers of a list are all that a condition is true of

pub all_same : (P Q : ℕ → Type 0) (numbers : List ℕ) → AreAll P numbers → ((number : ℕ) → P number ↔ Q number) → AreAll Q numbers
all_same P Q numbers all same = record {
  ascending = all.ascending;
  each = λ number. (λ c. (same number).0 ((all.each number).0 c), λ q. (all.each number).1 ((same number).1 q));
}

pub gathered_all : (Gives : ℕ → ℕ → Type 0) (count : ℕ) (numbers sorted : List ℕ) → IsGathered [] Gives count numbers → AreAll (Contains numbers) sorted
    → AreAll (λ number. (place : ℕ) × (place < count) × Gives place number) sorted
gathered_all Gives count numbers sorted gathered all = all_same (Contains numbers) (λ number. (place : ℕ) × (place < count) × Gives place number) sorted all (λ number. (
  λ c. ⊎_elim (λ none. absurd (omega (arith, none.1))) (λ some. some) ((gathered number).0 c),
  λ some. (gathered number).1 (inr some),
))

-- ---- one list more

pub one_more : (P : ℕ → List ℕ → Type 0) (lists : List (List ℕ)) (one : List ℕ) (more : List (List ℕ)) (count : ℕ) → length lists ≡ count
    → ((k : ℕ) → k < count → P k (get_or lists k [])) → P count one → more ≡ lists ++ one ∷ []
    → (length more ≡ count + 1) × ((k : ℕ) → k < count + 1 → P k (get_or more k []))
one_more P lists one more count each all last is = (
  ap length is ∙ length-append lists (one ∷ []) ∙ ap (λ n. n + 1) each,
  λ k h. subst (λ l. P k (get_or l k [])) (sym is) (⊎_elim
      (λ e. subst (λ n. P n (get_or (lists ++ one ∷ []) n [])) (sym e) (subst (P count) (sym (ap (λ n. get_or (lists ++ one ∷ []) n []) (sym each) ∙ get_or-append_seam lists one [] [])) last))
      (λ ne. subst (P k) (sym (get_or_append_left lists (one ∷ []) [] k (omega arith))) (all k (omega arith)))
      (cases_eq k count)),
)
