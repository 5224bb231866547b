-- Elements of a list with its first places, and of lists joined end to end.
use Rattle.std.proofs.Common.{◌≡◌, ◌⊎◌, inl, inr, ℕ, zero, suc, ◌<◌, Bool, true, false, cond, not, ◌==◌, List, [], ◌∷◌, get_or, Contains, Option, Some, None, option_map, bytes_eq, refl, sym, ap, subst, ◌∙◌, lit<, arith}
use Rattle.std.specs.List.{AllZip, concat, filter, find}
use Rattle.std.proofs.lemmas.Option.{none-some, same_Some}
use Rattle.std.proofs.lemmas.List.Elements.{Contains-append_left, Contains-append_right, Contains-append_cases}
use Rattle.std.proofs.lemmas.Bool.Decides.{nat_tests}
use Rattle.pk_types.specs.declared.facts.Facts.{Facts}
use Rattle.pk_types.specs.declared.facts.ExportEntry.{ExportEntry}
use Rattle.pk_types.specs.declared.facts.Origin.{Origin}
use Rattle.pk_types.specs.Resolving.{origin_of}
use Rattle.pk_text.specs.FirstPlaces.{first_places}

module _ {A : Type 0} where
  pub Contains-one : (x : A) → Contains (x ∷ []) x
  Contains-one x = (0, lit< tt, refl)

  pub Contains-head : (x : A) (xs : List A) → Contains (x ∷ xs) x
  Contains-head x xs = (0, omega arith, refl)

  pub Contains-tail : (x : A) (xs : List A) (y : A) → Contains xs y → Contains (x ∷ xs) y
  Contains-tail x xs y m = Contains-append_right (x ∷ []) xs y m

  one_at : (x y : A) (k : ℕ) → k < 1 → get_or (x ∷ []) k y ≡ y → x ≡ y
  one_at x y zero l e = e
  one_at x y (suc k) l e = absurd (omega (arith, l))

  pub one_only : (x y : A) → Contains (x ∷ []) y → x ≡ y
  one_only x y m = one_at x y m.0 m.1 m.2

  pub none_within : {B : Type 0} (x : A) → Contains [] x → B
  none_within x m = absurd (omega (arith, m.1))

  pub Contains-cases : (x : A) (xs : List A) (y : A) → Contains (x ∷ xs) y → (x ≡ y) ⊎ Contains xs y
  Contains-cases x xs y m = elim (Contains-append_cases (x ∷ []) xs y m) [ inl h ↦ inl (one_only x y h) | inr h ↦ inr h ]

  module _ (p : A → Bool) where
    from_kept : (x : A) (xs : List A) (y : A) (b : Bool) → (Contains (filter p xs) y → Contains xs y) → Contains (cond b (x ∷ filter p xs) (filter p xs)) y
        → Contains (x ∷ xs) y
    from_kept x xs y true ih m = elim (Contains-cases x (filter p xs) y m) [
      | inl e ↦ subst (Contains (x ∷ xs)) e (Contains-head x xs)
      | inr h ↦ Contains-tail x xs y (ih h)
    ]
    from_kept x xs y false ih m = Contains-tail x xs y (ih m)

    pub within_filter : (xs : List A) (y : A) → Contains (filter p xs) y → Contains xs y
    within_filter [] y m = m
    within_filter (x ∷ xs) y m = from_kept x xs y (p x) (within_filter xs y) m

    to_kept : (x : A) (xs : List A) (y : A) (b : Bool) → Contains (filter p xs) y → Contains (cond b (x ∷ filter p xs) (filter p xs)) y
    to_kept x xs y true m = Contains-tail x (filter p xs) y m
    to_kept x xs y false m = m

    pub filter_has : (xs : List A) (y : A) → p y ≡ true → Contains xs y → Contains (filter p xs) y
    filter_has [] y e m = m
    filter_has (x ∷ xs) y e m = elim (Contains-cases x xs y m) [
      | inl f ↦ subst (λ b. Contains (cond b (x ∷ filter p xs) (filter p xs)) y) (sym (ap p f ∙ e)) (subst (Contains (x ∷ filter p xs)) f (Contains-head x (filter p xs)))
      | inr h ↦ to_kept x xs y (p x) (filter_has xs y e h)
    ]

    found_is : (x : A) (xs : List A) (y : A) (b : Bool) → (find p xs ≡ Some y → Contains xs y) → cond b (Some x) (find p xs) ≡ Some y → Contains (x ∷ xs) y
    found_is x xs y true ih e = subst (Contains (x ∷ xs)) (same_Some x y e) (Contains-head x xs)
    found_is x xs y false ih e = Contains-tail x xs y (ih e)

    pub find_within : (xs : List A) (y : A) → find p xs ≡ Some y → Contains xs y
    find_within [] y e = absurd (none-some y e)
    find_within (x ∷ xs) y e = found_is x xs y (p x) (find_within xs y) e

pub within_first_places : (numbers : List ℕ) (number : ℕ) → Contains (first_places numbers) number → Contains numbers number
within_first_places [] number m = m
within_first_places (first ∷ numbers) number m = elim (Contains-cases first (filter (λ other. not (other == first)) (first_places numbers)) number m) [
  | inl e ↦ subst (Contains (first ∷ numbers)) e (Contains-head first numbers)
  | inr h ↦ Contains-tail first numbers number (within_first_places numbers number (within_filter (λ other. not (other == first)) (first_places numbers) number h))
]

same_or_not : (a b : ℕ) → (b ≡ a) ⊎ (not (a == b) ≡ true)
same_or_not a b = grind (arith, nat_tests)

pub first_places_has : (numbers : List ℕ) (number : ℕ) → Contains numbers number → Contains (first_places numbers) number
first_places_has [] number m = m
first_places_has (first ∷ numbers) number m = elim (same_or_not number first) [
  | inl e ↦ subst (Contains (first_places (first ∷ numbers))) e (Contains-head first (filter (λ other. not (other == first)) (first_places numbers)))
  | inr e ↦ elim (Contains-cases first numbers number m) [
    | inl f ↦ subst (Contains (first_places (first ∷ numbers))) f (Contains-head first (filter (λ other. not (other == first)) (first_places numbers)))
    | inr h ↦ Contains-tail first (filter (λ other. not (other == first)) (first_places numbers)) number
        (filter_has (λ other. not (other == first)) (first_places numbers) number e (first_places_has numbers number h))
  ]
]

module _ {A : Type 0} (R : A → List ℕ → Type 0) where
  -- an element of the parts stands in the part of a key
  pub within_parts : (keys : List A) (parts : List (List ℕ)) (number : ℕ) → AllZip R keys parts → Contains (concat parts) number
      → (key : A) × (part : List ℕ) × Contains keys key × R key part × Contains part number
  within_parts [] [] number z m = none_within number m
  within_parts [] (part ∷ parts) number z m = absurd z
  within_parts (key ∷ keys) [] number z m = absurd z
  within_parts (key ∷ keys) (part ∷ parts) number z m = elim (Contains-append_cases part (concat parts) number m) [
    | inl h ↦ (key, part, Contains-head key keys, z.0, h)
    | inr h ↦ let r = within_parts keys parts number z.1 h in (r.0, r.1, Contains-tail key keys r.0 r.2, r.3, r.4)
  ]

  -- each key has its part
  pub part_of : (keys : List A) (parts : List (List ℕ)) (key : A) → AllZip R keys parts → Contains keys key
      → (part : List ℕ) × R key part × ((number : ℕ) → Contains part number → Contains (concat parts) number)
  part_of [] parts key z m = none_within key m
  part_of (first ∷ keys) [] key z m = absurd z
  part_of (first ∷ keys) (part ∷ parts) key z m = elim (Contains-cases first keys key m) [
    | inl e ↦ (part, subst (λ k. R k part) e z.0, λ number h. Contains-append_left part (concat parts) number h)
    | inr h ↦ let r = part_of keys parts key z.1 h in (r.0, r.1, λ number w. Contains-append_right part (concat parts) number (r.2 number w))
  ]

entry_of : (entry : Option ExportEntry) (origin : Origin) → option_map (λ e. e.origin) entry ≡ Some origin → (found : ExportEntry) × (entry ≡ Some found) × (found.origin ≡ origin)
entry_of None origin e = absurd (none-some origin e)
entry_of (Some entry) origin e = (entry, refl, same_Some entry.origin origin e)

-- where a name has an origin, an export has it
pub export_of : (facts : Facts) (name : List ℕ) (origin : Origin) → origin_of facts name ≡ Some origin
    → (entry : ExportEntry) × Contains facts.exports entry × (entry.origin ≡ origin)
export_of facts name origin e =
    let f = entry_of (find (λ entry. bytes_eq entry.name name) facts.exports) origin e in
    (f.0, find_within (λ entry. bytes_eq entry.name name) facts.exports f.0 f.1, f.2)
