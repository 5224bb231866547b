-- Sets that grow.
use Rattle.std.proofs.Common.{◌≡◌, ◌⊎◌, inl, inr, ⊎_elim, ◌<◌, ◌+◌, ◌&&◌, ℕ, Bool, true, false, cond, nat_eq, List, [], ◌∷◌, ◌++◌, Contains, refl, sym, ap, subst, arith}
use Rattle.std.specs.List.{list_any}
use Rattle.std.proofs.lemmas.Bool.{true≢false}
use Rattle.std.proofs.lemmas.List.Elements.{Contains-append_left, Contains-push, Contains-push_cases}
use Rattle.std.proofs.lemmas.Map.Views.{Contains-from_any, exact_unsigned_eq}
use Rattle.indexmap.specs.IndexSet.{insert_key}
use Rattle.scope_getters.specs.Gaining.{Gains, Below}
use Rattle.scope_getters.specs.Scopes.{Cell, is_cell}

pub gains_none : {X : Type 0} (xs : List X) (IsNew : X → Type 0) → ((x : X) → IsNew x → ⊥) → Gains xs IsNew xs
gains_none xs IsNew none = record { each = λ x. (λ c. inl c, λ e. ⊎_elim (λ c. c) (λ h. absurd (none x h)) e) }

pub gains_same : {X : Type 0} (old new : List X) (IsNew IsMore : X → Type 0) → Gains old IsNew new → ((x : X) → IsNew x → IsMore x)
    → ((x : X) → IsMore x → IsNew x) → Gains old IsMore new
gains_same old new IsNew IsMore gains to from = record {
  each = λ x. (
    λ c. ⊎_elim (λ was. inl was) (λ h. inr (to x h)) ((gains.each x).0 c),
    λ e. (gains.each x).1 (⊎_elim (λ was. inl was) (λ h. inr (from x h)) e),
  );
}

pub gains_then : {X : Type 0} (old between new : List X) (IsNew IsMore : X → Type 0) → Gains old IsNew between → Gains between IsMore new
    → Gains old (λ x. IsNew x ⊎ IsMore x) new
gains_then old between new IsNew IsMore first second = record {
  each = λ x. (
    λ c. ⊎_elim (λ b. ⊎_elim (λ was. inl was) (λ h. inr (inl h)) ((first.each x).0 b)) (λ h. inr (inr h)) ((second.each x).0 c),
    λ e. (second.each x).1 (⊎_elim (λ was. inl ((first.each x).1 (inl was)))
        (λ one. ⊎_elim (λ h. inl ((first.each x).1 (inr h))) (λ h. inr h) one) e),
  );
}

place_cases : (n k : ℕ) → k < n + 1 → (k < n) ⊎ (k ≡ n)
place_cases n k h = grind arith

pub below_none : {X : Type 0} (xs : List X) (Is : ℕ → X → Type 0) → Gains xs (Below 0 Is) xs
below_none xs Is = gains_none xs (Below 0 Is) (λ x h. let never : ⊥ = omega (arith, h.1) in never)

pub below_more : {X : Type 0} (old between new : List X) (Is : ℕ → X → Type 0) (count : ℕ) → Gains old (Below count Is) between
    → Gains between (Is count) new → Gains old (Below (count + 1) Is) new
below_more old between new Is count first second =
    gains_same old new (λ x. Below count Is x ⊎ Is count x) (Below (count + 1) Is) (gains_then old between new (Below count Is) (Is count) first second)
    (λ x e. ⊎_elim (λ (b : Below count Is x). (b.0, omega (arith, b.1), b.2)) (λ h. (count, omega arith, h)) e)
    (λ x b. ⊎_elim (λ h. inl (b.0, h, b.2)) (λ e. inr (subst (λ n. Is n x) e b.2)) (place_cases count b.0 b.1))

-- ---- one more in a set

inserted : {X : Type 0} (eq : X → X → Bool) → ((x y : X) → eq x y ≡ true → x ≡ y) → (xs : List X) (one : X) → Gains xs (λ x. one ≡ x) (insert_key eq xs one)
inserted {X} eq same xs one = by (list_any (eq one) xs) refl
  where
    by : (b : Bool) → list_any (eq one) xs ≡ b → Gains xs (λ x. one ≡ x) (insert_key eq xs one)
    by true e = subst (Gains xs (λ x. one ≡ x)) (sym (ap (λ b. cond b xs (xs ++ one ∷ [])) e)) (record {
      each = λ x. (λ c. inl c, λ either. ⊎_elim (λ c. c) (λ is. subst (Contains xs) is (Contains-from_any same one xs e)) either);
    })
    by false e = subst (Gains xs (λ x. one ≡ x)) (sym (ap (λ b. cond b xs (xs ++ one ∷ [])) e)) (record {
      each = λ x. (
        λ c. Contains-push_cases xs one x c,
        λ either. ⊎_elim (λ c. Contains-append_left xs (one ∷ []) x c) (λ is. subst (Contains (xs ++ one ∷ [])) is (Contains-push xs one)) either,
      );
    })

both_true : (a b : Bool) → (a && b) ≡ true → (a ≡ true) × (b ≡ true)
both_true true true e = (refl, refl)
both_true true false e = absurd (true≢false (sym e))
both_true false b e = absurd (true≢false (sym e))

pub same_cell : (cell other : Cell) → is_cell cell other ≡ true → cell ≡ other
same_cell cell other e =
    let both = both_true (nat_eq cell.0 other.0) (nat_eq cell.1 other.1) e in
    let first = exact_unsigned_eq cell.0 other.0 both.0 in
    let second = exact_unsigned_eq cell.1 other.1 both.1 in
    λ j. (first j, second j)

pub cell_inserted : (cells : List Cell) (one : Cell) → Gains cells (λ cell. one ≡ cell) (insert_key is_cell cells one)
cell_inserted cells one = inserted is_cell same_cell cells one
