-- What holds of the items of a list by their places, when one more is put at its end.
use Rattle.std.proofs.Common.{◌≡◌, ◌⊎◌, inl, inr, ℕ, zero, suc, ◌-◌, ◌<◌, ◌≤◌, List, [], ◌∷◌, ◌++◌, length, Some, get_or, slice_get, refl, subst, arith}
use Rattle.std.proofs.lemmas.Option.{none-some, same_Some, slice_get-get_or}
use Rattle.pk_types.proofs.Members.{at_front, at_append}

-- an item that is read from an equal list
pub item_at : {A : Type 0} (items others : List A) (place : ℕ) (d : A) → others ≡ items → place < length others → slice_get items place ≡ Some (get_or others place d)
item_at {A = A} items others place d same within = subst (λ (l : List A). slice_get l place ≡ Some (get_or others place d)) same (slice_get-get_or others place d within)

-- it holds of each item at its place
abbrev pub ArePlaced : {A : Type 0} → (ℕ → A → Type 0) → List A → Type 0
ArePlaced {A} P items = (place : ℕ) (item : A) → slice_get items place ≡ Some item → P place item

last_is : {A : Type 0} (item other : A) (k : ℕ) → slice_get (item ∷ []) k ≡ Some other → (k ≡ 0) × (item ≡ other)
last_is item other zero e = (refl, same_Some item other e)
last_is item other (suc k) e = absurd (none-some other e)

module _ {A : Type 0} (P : ℕ → A → Type 0) where
  pub none_placed : ArePlaced P []
  none_placed place item e = absurd (none-some item e)

  pub one_placed : (items : List A) (item : A) → ArePlaced P items → P (length items) item → ArePlaced P (items ++ item ∷ [])
  one_placed items item so_far here place other e = by (cases place (length items))
    where
      cases : (a b : ℕ) → (a < b) ⊎ (b ≤ a)
      cases a b = grind arith

      by : (place < length items) ⊎ (length items ≤ place) → P place other
      by (inl below) = so_far place other (at_front items (item ∷ []) place other e below)
      by (inr above) =
          let last = last_is item other (place - length items) (at_append items (item ∷ []) place other e above) in
          let at : length items ≡ place = omega (arith, above, last.0) in
          subst (λ n. P n other) at (subst (P (length items)) last.1 here)
