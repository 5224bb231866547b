-- Conditions on given lists of numbers as tests.
use Rattle.std.proofs.Common.{◌≡◌, ◌⊎◌, inl, inr, ℕ, zero, suc, ◌<◌, ◌||◌, Bool, true, false, true≢false, nat_eq, List, [], ◌∷◌, length, get_or, Any, Contains, Option, Some, None, slice_get, refl, sym, subst, ◌∙◌, arith}
use Rattle.std.specs.List.{list_any}
use Rattle.std.proofs.lemmas.Bool.Decides.{nat_tests}
use Rattle.std.proofs.lemmas.Option.{none-some, same_Some}
use Rattle.pk_types.specs.declared.plan.Groups.{Groups}
use Rattle.pk_types.specs.Availability.{Holds, Leads}
use Rattle.pk_types.proofs.Members.{Any-none}
use Rattle.pk_types.proofs.Parts.{Contains-cases, Contains-head, Contains-tail, none_within}

abbrev pub has : List ℕ → ℕ → Bool
has [] number = false
has (first ∷ numbers) number = nat_eq first number || has numbers number

same_number : (a b : ℕ) → a ≡ b → nat_eq a b ≡ true
same_number a b e = grind (arith, nat_tests)

to_same : (a b : ℕ) → nat_eq a b ≡ true → a ≡ b
to_same a b e = grind (arith, nat_tests)

or_left : (a b : Bool) → a ≡ true → (a || b) ≡ true
or_left true b e = refl
or_left false b e = absurd (true≢false (sym e))

or_right : (a b : Bool) → b ≡ true → (a || b) ≡ true
or_right true b e = refl
or_right false b e = e

or_false : (a b : Bool) → (a || b) ≡ false → b ≡ false
or_false true b e = absurd (true≢false e)
or_false false b e = e

or_cases : (a b : Bool) → (a || b) ≡ true → (a ≡ true) ⊎ (b ≡ true)
or_cases true b e = inl refl
or_cases false b e = inr e

pub tested : (numbers : List ℕ) (number : ℕ) → Contains numbers number → has numbers number ≡ true
tested [] number m = none_within number m
tested (first ∷ numbers) number m = elim (Contains-cases first numbers number m) [
  | inl e ↦ or_left (nat_eq first number) (has numbers number) (same_number first number e)
  | inr h ↦ or_right (nat_eq first number) (has numbers number) (tested numbers number h)
]

pub passes : (numbers : List ℕ) (number : ℕ) → has numbers number ≡ true → Contains numbers number
passes [] number e = absurd (true≢false (sym e))
passes (first ∷ numbers) number e = elim (or_cases (nat_eq first number) (has numbers number) e) [
  | inl f ↦ subst (Contains (first ∷ numbers)) (to_same first number f) (Contains-head first numbers)
  | inr f ↦ Contains-tail first numbers number (passes numbers number f)
]

abbrev pub at_has : Option (List ℕ) → ℕ → Bool
at_has None number = false
at_has (Some numbers) number = has numbers number

at_tested : (at : Option (List ℕ)) (numbers : List ℕ) (number : ℕ) → at ≡ Some numbers → Contains numbers number → at_has at number ≡ true
at_tested None numbers number e m = absurd (none-some numbers e)
at_tested (Some some) numbers number e m = tested some number (subst (λ l. Contains l number) (sym (same_Some some numbers e)) m)

at_passes : (at : Option (List ℕ)) (number : ℕ) → at_has at number ≡ true → (numbers : List ℕ) × (at ≡ Some numbers) × Contains numbers number
at_passes None number e = absurd (true≢false (sym e))
at_passes (Some numbers) number e = (numbers, refl, passes numbers number e)

abbrev pub holds : Groups → ℕ → ℕ → Bool
holds groups number group = at_has (slice_get groups.closures group) number

abbrev pub leads : Groups → ℕ → ℕ → Bool
leads groups group next = at_has (slice_get groups.leads group) next

pub to_holds : (groups : Groups) (number group : ℕ) → holds groups number group ≡ true → Holds groups number group
to_holds groups number group e = at_passes (slice_get groups.closures group) number e

pub of_holds : (groups : Groups) (number group : ℕ) → Holds groups number group → holds groups number group ≡ true
of_holds groups number group h = at_tested (slice_get groups.closures group) h.0 number h.1 h.2

pub to_leads : (groups : Groups) (group next : ℕ) → leads groups group next ≡ true → Leads groups group next
to_leads groups group next e = at_passes (slice_get groups.leads group) next e

pub of_leads : (groups : Groups) (group next : ℕ) → Leads groups group next → leads groups group next ≡ true
of_leads groups group next l = at_tested (slice_get groups.leads group) l.0 next l.1 l.2

pub lacks : (groups : Groups) (number group : ℕ) → holds groups number group ≡ false → ¬ Holds groups number group
lacks groups number group e h = true≢false (sym (of_holds groups number group h) ∙ e)

pub Any-cons_cases : {A : Type 0} (P : A → Type 0) (x : A) (xs : List A) → Any P (x ∷ xs) → P x ⊎ Any P xs
Any-cons_cases {A} P x xs m = at_place m.0 m.1 m.2 m.3 m.4
  where
    at_place : (k : ℕ) (y : A) → k < length (x ∷ xs) → get_or (x ∷ xs) k y ≡ y → P y → P x ⊎ Any P xs
    at_place zero y l e p = inl (subst P (sym e) p)
    at_place (suc k) y l e p = inr (k, y, omega (arith, l), e, p)

-- none of these groups has the module
pub none_holds : (groups : Groups) (number : ℕ) (before : List ℕ) → list_any (holds groups number) before ≡ false → ¬ Any (Holds groups number) before
none_holds groups number [] e m = Any-none (Holds groups number) m
none_holds groups number (group ∷ before) e m = elim (Any-cons_cases (Holds groups number) group before m) [
  | inl h ↦ true≢false (sym (or_left (holds groups number group) (list_any (holds groups number) before) (of_holds groups number group h)) ∙ e)
  | inr h ↦ none_holds groups number before (or_false (holds groups number group) (list_any (holds groups number) before) e) h
]
