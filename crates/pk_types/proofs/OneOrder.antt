-- Lists in a strict order are equal where they have the same elements.
use Rattle.std.proofs.Common.{◌≡◌, ◌↔◌, inl, inr, ℕ, suc, ◌<◌, List, [], ◌∷◌, AllPairs, Contains, refl, sym, ap, subst, ◌∙◌, arith}
use Rattle.std.specs.List.Sorted.{IsStrictlyIncreasing}
use Rattle.std.proofs.lemmas.List.Kept.{AllPairs-from_increasing}
use Rattle.pk_types.specs.ChunkGroups.{AreAll}
use Rattle.pk_types.proofs.Parts.{Contains-head, Contains-tail, Contains-cases, none_within}

module _ {A : Type 0} (R : A → A → Type 0) (one_way : (x y : A) → R x y → R y x → ⊥) where
  head_before : (x : A) (xs : List A) → AllPairs R (x ∷ xs) → (y : A) → Contains xs y → R x y
  head_before x xs h y m = subst (R x) m.2 (h 0 (suc m.0) y (omega arith) (omega (arith, m.1)))

  tail_pairs : (x : A) (xs : List A) → AllPairs R (x ∷ xs) → AllPairs R xs
  tail_pairs x xs h i j d l within = h (suc i) (suc j) d (omega (arith, l)) (omega (arith, within))

  same_head : (x y : A) (xs ys : List A) → AllPairs R (x ∷ xs) → AllPairs R (y ∷ ys) → Contains (y ∷ ys) x → Contains (x ∷ xs) y → x ≡ y
  same_head x y xs ys h g m n = elim (Contains-cases y ys x m) [
    | inl e ↦ sym e
    | inr c ↦ elim (Contains-cases x xs y n) [ inl e ↦ e | inr d ↦ absurd (one_way x y (head_before x xs h y d) (head_before y ys g x c)) ]
  ]

  -- what stands behind equal heads stands behind the other one
  behind : (x y z : A) (xs ys : List A) → x ≡ y → AllPairs R (x ∷ xs) → Contains xs z → Contains (y ∷ ys) z → Contains ys z
  behind x y z xs ys e h m n = elim (Contains-cases y ys z n) [
    | inl f ↦ let r : R x x = subst (R x) (sym (e ∙ f)) (head_before x xs h z m) in absurd (one_way x x r r)
    | inr c ↦ c
  ]

  pub same_in_order : (xs ys : List A) → AllPairs R xs → AllPairs R ys → ((z : A) → Contains xs z ↔ Contains ys z) → xs ≡ ys
  same_in_order [] [] h g same = refl
  same_in_order [] (y ∷ ys) h g same = none_within y ((same y).1 (Contains-head y ys))
  same_in_order (x ∷ xs) [] h g same = none_within x ((same x).0 (Contains-head x xs))
  same_in_order (x ∷ xs) (y ∷ ys) h g same =
      let e : x ≡ y = same_head x y xs ys h g ((same x).0 (Contains-head x xs)) ((same y).1 (Contains-head y ys)) in
      ap (λ z. z ∷ xs) e ∙ ap (λ l. y ∷ l) (same_in_order xs ys (tail_pairs x xs h) (tail_pairs y ys g) (λ z. (
        λ m. behind x y z xs ys e h m ((same z).0 (Contains-tail x xs z m)),
        λ m. behind y x z ys xs (sym e) g m ((same z).1 (Contains-tail y ys z m)),
      )))

below_once : (a b : ℕ) → a < b → b < a → ⊥
below_once a b h g = omega (arith, h, g)

pub same_rising : (xs ys : List ℕ) → IsStrictlyIncreasing xs → IsStrictlyIncreasing ys → ((z : ℕ) → Contains xs z ↔ Contains ys z) → xs ≡ ys
same_rising xs ys h g same = same_in_order (λ a b. a < b) below_once xs ys (AllPairs-from_increasing xs h) (AllPairs-from_increasing ys g) same

pub same_all : (P : ℕ → Type 0) (xs ys : List ℕ) → AreAll P xs → AreAll P ys → xs ≡ ys
same_all P xs ys a b = same_rising xs ys a.ascending b.ascending (λ z. (λ m. (b.each z).1 ((a.each z).0 m), λ m. (a.each z).1 ((b.each z).0 m)))
