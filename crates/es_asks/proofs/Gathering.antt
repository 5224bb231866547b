-- Numbers that are gathered as a set from place to place.
use Rattle.std.proofs.Common.{◌≡◌, ◌⊎◌, inl, inr, ⊎_elim, ◌↔◌, ℕ, ◌+◌, ◌<◌, ◌≤◌, Bool, true, false, cond, List, [], ◌∷◌, ◌++◌, Option, Some, None, Contains, length, refl, sym, ap, subst, arith}
use Rattle.std.proofs.lemmas.Option.{none-some, same_Some}
use Rattle.std.proofs.lemmas.List.Elements.{Contains-append_cases, Contains-append_left, Contains-append_right}
use Rattle.pk_types.specs.Numbers.{has}
use Rattle.pk_types.proofs.ListMembers.{here, one_of, none_in, true-has}
use Rattle.es_asks.specs.Gathering.{noted, IsTold, AreGathered}

-- what a set has once a number is told to it
noted_by : (numbers : List ℕ) (number other : ℕ) (b : Bool) → has numbers number ≡ b
    → Contains (cond b numbers (numbers ++ number ∷ [])) other ↔ (Contains numbers other ⊎ (number ≡ other))
noted_by numbers number other true e = (
  λ c. inl c,
  λ h. ⊎_elim (λ c. c) (λ same. subst (λ n. Contains numbers n) same (true-has numbers number e)) h,
)
noted_by numbers number other false e = (
  λ c. ⊎_elim (λ old. inl old) (λ last. ⊎_elim (λ same. inr same) (λ none. absurd (none_in other none)) (one_of number [] other last))
      (Contains-append_cases numbers (number ∷ []) other c),
  λ h. ⊎_elim (λ c. Contains-append_left numbers (number ∷ []) other c)
      (λ same. Contains-append_right numbers (number ∷ []) other (subst (λ n. Contains (number ∷ []) n) same (here number []))) h,
)

pub in_noted : (numbers : List ℕ) (told : Option ℕ) (other : ℕ) → Contains (noted numbers told) other ↔ (Contains numbers other ⊎ (told ≡ Some other))
in_noted numbers None other = (λ c. inl c, λ h. ⊎_elim (λ c. c) (λ e. absurd (none-some other e)) h)
in_noted numbers (Some number) other =
    let both = noted_by numbers number other (has numbers number) refl in (
      λ c. ⊎_elim (λ old. inl old) (λ same. inr (ap (λ (n : ℕ). Some n) same)) (both.0 c),
      λ h. both.1 (⊎_elim (λ old. inl old) (λ e. inr (same_Some number other e)) h),
    )

module _ (IsAt : ℕ → ℕ → Type 0) where
  pub none_gathered : (numbers : List ℕ) → numbers ≡ [] → AreGathered IsAt 0 numbers
  none_gathered numbers none number = (
    λ c. absurd (none_in number (subst (λ (l : List ℕ). Contains l number) none c)),
    λ h. absurd (let before = h.1 in omega arith),
  )

  pub one_gathered : (limit : ℕ) (numbers more : List ℕ) (told : Option ℕ) → AreGathered IsAt limit numbers → IsTold (IsAt limit) told
      → more ≡ noted numbers told → AreGathered IsAt (limit + 1) more
  one_gathered limit numbers more told so_far tells same number = (
    λ c. ⊎_elim (λ old. let found = (so_far number).0 old in let before = found.1 in (found.0, omega arith, found.2))
        (λ now. (limit, omega arith, (tells number).1 now))
        ((in_noted numbers told number).0 (subst (λ (l : List ℕ). Contains l number) same c)),
    λ h. subst (λ (l : List ℕ). Contains l number) (sym same) ((in_noted numbers told number).1 (by h.0 h.1 h.2 (cases h.0 limit))),
  )
    where
      cases : (a b : ℕ) → (a < b) ⊎ (b ≤ a)
      cases a b = grind arith

      by : (place : ℕ) → place < limit + 1 → IsAt place number → (place < limit) ⊎ (limit ≤ place) → Contains numbers number ⊎ (told ≡ Some number)
      by place before at (inl below) = inl ((so_far number).1 (place, below, at))
      by place before at (inr above) =
          let last : place ≡ limit = omega arith in inr ((tells number).0 (subst (λ p. IsAt p number) last at))

  -- those of all places
  pub all_gathered : {A : Type 0} (items : List A) (limit : ℕ) (numbers : List ℕ) → ((place number : ℕ) → IsAt place number → place < length items)
      → length items ≤ limit → AreGathered IsAt limit numbers → (number : ℕ) → Contains numbers number ↔ ((place : ℕ) × IsAt place number)
  all_gathered items limit numbers within most so_far number = (
    λ c. let found = (so_far number).0 c in (found.0, found.2),
    λ h. let inside = within h.0 number h.1 in (so_far number).1 (h.0, omega arith, h.1),
  )
