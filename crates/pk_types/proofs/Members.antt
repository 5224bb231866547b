-- Elements of lists, by the places of other lists that are as long.
use Rattle.std.proofs.Common.{◌≡◌, ℕ, zero, suc, ◌+◌, ◌-◌, ◌<◌, ◌≤◌, ◌⊎◌, inl, inr, List, [], ◌∷◌, ◌++◌, length, get_or, Any, Contains, Some, slice_get, refl, sym, ap, subst, ◌∙◌, length-append, add-zero, arith}
use Rattle.std.proofs.lemmas.Option.{none-some, slice_get_within, slice_get-get_or, get_or_from_slice_get}
use Rattle.std.proofs.lemmas.List.{get_or_append_left, get_or-append-add}

place_cases : (n k : ℕ) → k < n + 1 → (k < n) ⊎ (k ≡ n)
place_cases n k h = grind arith

module _ {A : Type 0} where
  pub Any-left : (P : A → Type 0) (xs ys : List A) → Any P xs → Any P (xs ++ ys)
  Any-left P xs ys m =
      (m.0, m.1, omega (arith, length-append xs ys), get_or_append_left xs ys m.1 m.0 m.2 ∙ m.3, m.4)

  pub Any-last : (P : A → Type 0) (xs : List A) (x : A) → P x → Any P (xs ++ x ∷ [])
  Any-last P xs x p =
      (length xs, x, omega (arith, length-append xs (x ∷ [])), subst (λ k. get_or (xs ++ x ∷ []) k x ≡ x) (add-zero (length xs)) (get_or-append-add xs (x ∷ []) 0 x), p)

  Any_at : (P : A → Type 0) (xs : List A) (x y : A) (k : ℕ) → k < length (xs ++ x ∷ []) → get_or (xs ++ x ∷ []) k y ≡ y → P y
      → (k < length xs) ⊎ (k ≡ length xs) → Any P xs ⊎ P x
  Any_at P xs x y k l e p (inl h) = inl (k, y, h, sym (get_or_append_left xs (x ∷ []) y k h) ∙ e, p)
  Any_at P xs x y k l e p (inr h) =
      let f : get_or (xs ++ x ∷ []) (length xs) y ≡ x = subst (λ n. get_or (xs ++ x ∷ []) n y ≡ x) (add-zero (length xs)) (get_or-append-add xs (x ∷ []) 0 y) in
      inr (subst P (sym e ∙ ap (λ n. get_or (xs ++ x ∷ []) n y) h ∙ f) p)

  pub Any-push_cases : (P : A → Type 0) (xs : List A) (x : A) → Any P (xs ++ x ∷ []) → Any P xs ⊎ P x
  Any-push_cases P xs x m = Any_at P xs x m.1 m.0 m.2 m.3 m.4 (place_cases (length xs) m.0 (omega (arith, length-append xs (x ∷ []))))

  pub Any-none : {B : Type 0} (P : A → Type 0) → Any P [] → B
  Any-none P m = absurd (omega (arith, m.2))

  pub element_at : (xs : List A) (k : ℕ) → k < length xs → (x : A) × (slice_get xs k ≡ Some x)
  element_at [] k h = absurd (omega (arith, h))
  element_at (x ∷ xs) zero h = (x, refl)
  element_at (x ∷ xs) (suc k) h = element_at xs k (omega (arith, h))

  pub Contains-at : (xs : List A) (k : ℕ) (x : A) → slice_get xs k ≡ Some x → Contains xs x
  Contains-at xs k x e = (k, slice_get_within xs k x e, get_or_from_slice_get xs k x x e)

  pub at-Contains : (xs : List A) (x : A) (m : Contains xs x) → slice_get xs m.0 ≡ Some x
  at-Contains xs x m = slice_get-get_or xs m.0 x m.1 ∙ ap Some m.2

  pub at_left : (xs ys : List A) (k : ℕ) (x : A) → slice_get xs k ≡ Some x → slice_get (xs ++ ys) k ≡ Some x
  at_left [] ys k x e = absurd (none-some x e)
  at_left (y ∷ xs) ys zero x e = e
  at_left (y ∷ xs) ys (suc k) x e = at_left xs ys k x e

  pub at_right : (xs ys : List A) (k : ℕ) (x : A) → slice_get ys k ≡ Some x → slice_get (xs ++ ys) (k + length xs) ≡ Some x
  at_right [] ys k x e = subst (λ n. slice_get ys n ≡ Some x) (sym (add-zero k)) e
  at_right (y ∷ xs) ys k x e =
      let q : k + suc (length xs) ≡ suc (k + length xs) = omega arith in
      subst (λ n. slice_get (y ∷ xs ++ ys) n ≡ Some x) (sym q) (at_right xs ys k x e)

  pub at_append : (xs ys : List A) (k : ℕ) (x : A) → slice_get (xs ++ ys) k ≡ Some x → length xs ≤ k → slice_get ys (k - length xs) ≡ Some x
  at_append [] ys k x e h = subst (λ n. slice_get ys n ≡ Some x) (omega arith) e
  at_append (y ∷ xs) ys zero x e h = absurd (omega (arith, h))
  at_append (y ∷ xs) ys (suc k) x e h =
      subst (λ n. slice_get ys n ≡ Some x) (omega arith) (at_append xs ys k x e (omega (arith, h)))

  pub at_front : (xs ys : List A) (k : ℕ) (x : A) → slice_get (xs ++ ys) k ≡ Some x → k < length xs → slice_get xs k ≡ Some x
  at_front [] ys k x e h = absurd (omega (arith, h))
  at_front (y ∷ xs) ys zero x e h = e
  at_front (y ∷ xs) ys (suc k) x e h = at_front xs ys k x e (omega (arith, h))

  pub same_by_place : (xs ys : List A) → length xs ≡ length ys → ((k : ℕ) (x y : A) → slice_get xs k ≡ Some x → slice_get ys k ≡ Some y → x ≡ y) → xs ≡ ys
  same_by_place [] [] e same = refl
  same_by_place [] (y ∷ ys) e same = absurd (omega (arith, e))
  same_by_place (x ∷ xs) [] e same = absurd (omega (arith, e))
  same_by_place (x ∷ xs) (y ∷ ys) e same =
      ap (λ z. z ∷ xs) (same 0 x y refl refl) ∙ ap (λ l. y ∷ l) (same_by_place xs ys (omega (arith, e)) (λ k u v. same (suc k) u v))

-- a list that is as long has an element at the place
pub as_long : {A B : Type 0} (xs : List A) (ys : List B) (k : ℕ) (x : A) → slice_get xs k ≡ Some x → length ys ≡ length xs → (y : B) × (slice_get ys k ≡ Some y)
as_long xs ys k x e h = element_at ys k (omega (arith, h, slice_get_within xs k x e))
