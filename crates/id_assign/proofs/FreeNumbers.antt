-- A number is free where fewer are taken than there are.
use Rattle.std.proofs.Common.{◌≡◌, ◌≢◌, ℕ, suc, ◌+◌, ◌%◌, ◌<◌, ◌≤◌, Bool, true, false, cond, List, [], ◌∷◌, length, get_or, nat_eq, refl, sym, ap, subst, ◌∙◌, arith, rules, ⊎_elim}
use Rattle.std.specs.List.{Contains}
use Rattle.std.proofs.lemmas.Bool.{cases_eq}
use Rattle.std.proofs.lemmas.Map.Views.{exact_unsigned_eq}
use Rattle.indexmap.proofs.IndexTableLemmas.Probe.{pigeonhole}
use Rattle.pk_types.proofs.ListMembers.{one_of, none_in}
use Rattle.pk_types.specs.ModuleIds.{id_count}

-- where a number first stands
first_place : List ℕ → ℕ → ℕ
first_place [] number = 0
first_place (x ∷ xs) number = cond (nat_eq x number) 0 (suc (first_place xs number))

Stands : List ℕ → ℕ → ℕ → Type 0
Stands xs number place = (place < length xs) × (get_or xs place 0 ≡ number)

stands_there : (x : ℕ) (xs : List ℕ) (number : ℕ) (b : Bool) → nat_eq x number ≡ b → (x ≢ number → Stands xs number (first_place xs number))
    → Stands (x ∷ xs) number (cond b 0 (suc (first_place xs number)))
unfolding Stands
stands_there x xs number true e rest = (omega arith, exact_unsigned_eq x number e)
stands_there x xs number false e rest =
    let behind = rest (λ same. omega (arith, ap (λ b. cond {A = ℕ} b 1 0) (sym e ∙ subst (λ n. nat_eq x n ≡ true) same (self x)))) in
    (omega (arith, behind.0), behind.1)
  where
    self : (n : ℕ) → nat_eq n n ≡ true
    self n = search rules

stands : (xs : List ℕ) (number : ℕ) → Contains xs number → Stands xs number (first_place xs number)
unfolding first_place
stands [] number c = absurd (none_in number c)
stands (x ∷ xs) number c = stands_there x xs number (nat_eq x number) refl
    (λ other. ⊎_elim (λ same. absurd (other same)) (λ d. stands xs number d) (one_of x xs number c))

-- so many numbers from the start on differ
apart : (start one two : ℕ) → start < id_count → one < id_count → two < id_count → (start + one) % id_count ≡ (start + two) % id_count → one ≡ two
apart start one two below first second same = omega arith

-- so not all of them are taken
pub search_within : (taken : List ℕ) (start steps : ℕ) → start < id_count → length taken < id_count → steps ≤ length taken
    → ((fewer : ℕ) → fewer < steps → Contains taken ((start + fewer) % id_count)) → Contains taken ((start + steps) % id_count)
    → steps + 1 ≤ length taken
unfolding Stands
search_within taken start steps below room within before now =
    pigeonhole (steps + 1) (length taken) place (λ k h. (stands taken (number k) (all k h)).0)
    (λ i j h l same. apart start i j below (omega arith) (omega arith)
    (sym (stands taken (number i) (all i h)).1 ∙ ap (λ p. get_or taken p 0) same ∙ (stands taken (number j) (all j l)).1))
  where
    number : ℕ → ℕ
    number k = (start + k) % id_count

    place : ℕ → ℕ
    place k = first_place taken ((start + k) % id_count)

    all : (k : ℕ) → k < steps + 1 → Contains taken ((start + k) % id_count)
    all k h = ⊎_elim (λ same. subst (λ s. Contains taken ((start + s) % id_count)) (sym same) now) (λ other. before k (omega arith)) (cases_eq k steps)
