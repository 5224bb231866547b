-- Marks when one more node is met, and when the last one is forgotten.
use Rattle.std.proofs.Common.{◌≡◌, ℕ, zero, suc, ◌<◌, ◌||◌, ⊎_elim, Bool, true, false, nat_eq, List, [], ◌∷◌, ◌++◌, length, get_or, refl, sym, ap, subst, ◌∙◌, arith}
use Rattle.std.proofs.Math.ListN.{set}
use Rattle.std.specs.Cmp.{nat_eq_equiv}
use Rattle.std.specs.List.{AllByRecursion, IsDistinct, list_any}
use Rattle.std.proofs.lemmas.Bool.{cases_eq, eq-eqb, ne_eqb, eqb-false}
use Rattle.std.proofs.lemmas.List.{get_or-set_same, get_or-set_other}
use Rattle.std.proofs.lemmas.List.Folds.{list_any-append}
use Rattle.std.proofs.lemmas.Map.Keys.{IsDistinct-push}
use Rattle.edge_search.specs.Marks.{AreMarked}

pub none_marked : AreMarked [] []
unfolding IsDistinct
none_marked = record { marked = λ number. refl; distinct = tt }

more_false : (marks : List Bool) (number : ℕ) → get_or (marks ++ false ∷ []) number false ≡ get_or marks number false
more_false [] zero = refl
more_false [] (suc number) = refl
more_false (mark ∷ marks) zero = refl
more_false (mark ∷ marks) (suc number) = more_false marks number

pub padded : (marks : List Bool) (met : List ℕ) → AreMarked marks met → AreMarked (marks ++ false ∷ []) met
padded marks met are = record { marked = λ number. more_false marks number ∙ are.marked number; distinct = are.distinct }

or_false : (b : Bool) → (b || false) ≡ b
or_false true = refl
or_false false = refl

-- whether a node is among those that were met, and one more
one_more : (met : List ℕ) (node number : ℕ) → list_any (nat_eq number) (met ++ node ∷ []) ≡ (list_any (nat_eq number) met || nat_eq number node)
one_more met node number = list_any-append (nat_eq number) met (node ∷ []) ∙ ap (λ b. list_any (nat_eq number) met || b) (or_false (nat_eq number node))

with_true : (b : Bool) → (b || true) ≡ true
with_true true = refl
with_true false = refl

pub met_last : (marks : List Bool) (met : List ℕ) (node : ℕ) → AreMarked marks met → node < length marks → get_or marks node false ≡ false
    → AreMarked (set marks node true) (met ++ node ∷ [])
met_last marks met node are within new = record {
  marked = λ number. ⊎_elim
      (λ e. subst (λ k. get_or (set marks node true) k false ≡ list_any (nat_eq k) (met ++ node ∷ [])) (sym e)
      (get_or-set_same marks node true false within
      ∙ sym (one_more met node node ∙ ap (λ b. list_any (nat_eq node) met || b) (eq-eqb node node refl) ∙ with_true (list_any (nat_eq node) met))))
      (λ ne. get_or-set_other marks node number true false ne ∙ are.marked number
      ∙ sym (one_more met node number ∙ ap (λ b. list_any (nat_eq number) met || b) (ne_eqb number node ne) ∙ or_false (list_any (nat_eq number) met)))
      (cases_eq number node);
  distinct = IsDistinct-push nat_eq_equiv met node are.distinct (sym (are.marked node) ∙ new);
}

-- ---- the last one goes

split_last : (p : ℕ → Type 0) (xs : List ℕ) (y : ℕ) → AllByRecursion p (xs ++ y ∷ []) → AllByRecursion p xs × p y
split_last p [] y all = (tt, all.0)
split_last p (x ∷ xs) y all = let rest = split_last p xs y all.1 in ((all.0, rest.0), rest.1)

flipped : (x y : ℕ) → nat_eq x y ≡ false → nat_eq y x ≡ false
flipped x y e = ne_eqb y x (λ same. eqb-false x y e (sym same))

apart : (xs : List ℕ) (y : ℕ) → IsDistinct nat_eq (xs ++ y ∷ []) → IsDistinct nat_eq xs × (list_any (nat_eq y) xs ≡ false)
unfolding IsDistinct
apart [] y d = (tt, refl)
apart (x ∷ xs) y d =
    let first = split_last (λ z. nat_eq x z ≡ false) xs y d.0 in
    let rest = apart xs y d.1 in
    ((first.0, rest.0), ap (λ b. b || list_any (nat_eq y) xs) (flipped x y first.1) ∙ rest.1)

pub forgot_last : (marks : List Bool) (met : List ℕ) (node : ℕ) → AreMarked marks (met ++ node ∷ []) → node < length marks → AreMarked (set marks node false) met
forgot_last marks met node are within = record {
  marked = λ number. ⊎_elim
      (λ e. subst (λ k. get_or (set marks node false) k false ≡ list_any (nat_eq k) met) (sym e)
      (get_or-set_same marks node false false within ∙ sym (apart met node are.distinct).1))
      (λ ne. get_or-set_other marks node number false false ne ∙ are.marked number ∙ one_more met node number
      ∙ ap (λ b. list_any (nat_eq number) met || b) (ne_eqb number node ne) ∙ or_false (list_any (nat_eq number) met))
      (cases_eq number node);
  distinct = (apart met node are.distinct).0;
}

-- a node that was met has a mark
pub last_within : (marks : List Bool) (met : List ℕ) (node : ℕ) → AreMarked marks (met ++ node ∷ []) → node < length marks
last_within marks met node are = below marks node
    (are.marked node ∙ one_more met node node ∙ ap (λ b. list_any (nat_eq node) met || b) (eq-eqb node node refl) ∙ with_true (list_any (nat_eq node) met))
  where
    below : (marks : List Bool) (number : ℕ) → get_or marks number false ≡ true → number < length marks
    below [] number e = (cc)
    below (mark ∷ marks) zero e = omega arith
    below (mark ∷ marks) (suc number) e = let rest = below marks number e in omega arith
