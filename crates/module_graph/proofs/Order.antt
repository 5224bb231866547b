-- Where modules are numbered as they are first seen, row by row, each has an address, and these ascend.
use Rattle.std.proofs.Common.{◌≡◌, ℕ, zero, suc, ◌+◌, ◌<◌, ◌≤◌, max, inl, inr, cond, nat_eq, List, [], ◌∷◌, ◌++◌, length, Some, slice_get, refl, sym, ap, subst, ◌∙◌, arith}
use Rattle.std.proofs.lemmas.Bool.{cond-true, cond-false, eq-eqb, ne_eqb, cases_lt}
use Rattle.std.proofs.lemmas.Option.{same_Some, none-some}
use Rattle.module_graph.specs.Shortlex.{ComesBefore, IsAtMost}
use Rattle.module_graph.specs.Sightings.{count_after, AreSeenInOrder, RowsAreSeenInOrder}
use Rattle.module_graph.proofs.Shortlex.{before_trans, before_push, before_last}

-- an address for each number, once the next number has one
with_next : (ℕ → List ℕ) → ℕ → List ℕ → ℕ → List ℕ
with_next at count address n = cond (nat_eq n count) address (at n)

with_next-other : (at : ℕ → List ℕ) (count : ℕ) (address : List ℕ) (n : ℕ) → n < count → with_next at count address n ≡ at n
unfolding with_next
with_next-other at count address n h = cond-false (nat_eq n count) address (at n) (ne_eqb n count (λ e. absurd (omega arith)))

with_next-same : (at : ℕ → List ℕ) (count : ℕ) (address : List ℕ) (n : ℕ) → n ≡ count → with_next at count address n ≡ address
unfolding with_next
with_next-same at count address n e = cond-true (nat_eq n count) address (at n) (eq-eqb n count e)

each_with_next : (P : ℕ → List ℕ → Type 0) (at : ℕ → List ℕ) (count : ℕ) (address : List ℕ) → ((n : ℕ) → n < count → P n (at n)) → P count address → (n : ℕ) → n < suc count → P n (with_next at count address n)
each_with_next P at count address old new n h = elim (cases_lt n count) [
  | inl below ↦ subst (P n) (sym (with_next-other at count address n below)) (old n below)
  | inr above ↦
      let e : n ≡ count = omega arith in
      subst (P n) (sym (with_next-same at count address n e)) (subst (λ m. P m address) (sym e) new)
]

max_left : (a b : ℕ) → b ≤ a → max a b ≡ a
max_left a b h = omega arith

max_right : (a b : ℕ) → a ≤ b → max a b ≡ b
max_right a b h = omega arith

module _ (Has : ℕ → List ℕ → Type 0) where
  -- the numbers below the count have addresses, which ascend
  pub record Ascends (at : ℕ → List ℕ) (count : ℕ) : Type 0 where
    pub has : (n : ℕ) → n < count → Has n (at n)
    pub ascending : (m n : ℕ) → m < n → n < count → ComesBefore (at m) (at n)

  -- these addresses come before what is still to be seen beneath an address
  abbrev pub Precedes : (ℕ → List ℕ) → ℕ → List ℕ → ℕ → Type 0
  Precedes at count above first = (n place : ℕ) → n < count → first ≤ place → ComesBefore (at n) (above ++ place ∷ [])

  -- what one more sighting leaves
  record Step (at : ℕ → List ℕ) (count : ℕ) (new : ℕ → List ℕ) (known : ℕ) (above : List ℕ) (first seen : ℕ) : Type 0 where
    kept : (n : ℕ) → n < count → new n ≡ at n
    more : count ≤ known
    ascends : Ascends new known
    within : seen < known
    here : IsAtMost (new seen) (above ++ first ∷ [])
    precedes : Precedes new known above (suc first)

  step_old : (at : ℕ → List ℕ) (count : ℕ) (above : List ℕ) (first seen : ℕ) → seen < count → Ascends at count → Precedes at count above first → Step at count at count above first seen
  step_old at count above first seen h ascends precedes = record {
    kept = λ n k. refl;
    more = omega arith;
    ascends = ascends;
    within = h;
    here = inr (precedes seen first h (omega arith));
    precedes = λ n place k l. precedes n place k (omega arith);
  }

  step_new : (at : ℕ → List ℕ) (count : ℕ) (above : List ℕ) (first seen : ℕ) → seen ≡ count → Ascends at count → Has seen (above ++ first ∷ []) → Precedes at count above first → Step at count (with_next at count (above ++ first ∷ [])) (suc count) above first seen
  step_new at count above first seen e ascends has precedes =
      let address : List ℕ = above ++ first ∷ [] in
      let other : (n : ℕ) → n < count → with_next at count address n ≡ at n = with_next-other at count address in
      record {
        kept = other;
        more = omega arith;
        ascends = record {
          has = each_with_next Has at count address ascends.has (subst (λ n. Has n address) e has);
          ascending = λ m n below within. each_with_next (λ k a. (m : ℕ) → m < k → ComesBefore (with_next at count address m) a) at count address
              (λ k h m l. subst (λ a. ComesBefore a (at k)) (sym (other m (omega arith))) (ascends.ascending m k l h))
              (λ m l. subst (λ a. ComesBefore a address) (sym (other m l)) (precedes m first l (omega arith)))
              n within m below;
        };
        within = omega arith;
        here = inl (with_next-same at count address seen e);
        precedes = λ n place h l. each_with_next (λ k a. ComesBefore a (above ++ place ∷ [])) at count address
            (λ k b. precedes k place b (omega arith)) (before_last above first place (omega arith)) n h;
      }

  step : (at : ℕ → List ℕ) (count : ℕ) (above : List ℕ) (first seen : ℕ) → seen ≤ count → Ascends at count → Has seen (above ++ first ∷ []) → Precedes at count above first → (new : ℕ → List ℕ) × Step at count new (max count (suc seen)) above first seen
  step at count above first seen h ascends has precedes = elim (cases_lt seen count) [
    | inl below ↦ (at, subst (λ n. Step at count at n above first seen) (sym (max_left count (suc seen) (omega arith))) (step_old at count above first seen below ascends precedes))
    | inr above_it ↦
        let e : seen ≡ count = omega arith in
        let known : suc count ≡ max count (suc seen) = sym (max_right count (suc seen) (omega arith) ∙ ap suc e) in
        (with_next at count (above ++ first ∷ []), subst (λ n. Step at count (with_next at count (above ++ first ∷ [])) n above first seen) known (step_new at count above first seen e ascends has precedes))
  ]

  -- what the sightings beneath an address leave
  pub record Sees (at : ℕ → List ℕ) (count : ℕ) (new : ℕ → List ℕ) (known : ℕ) (above : List ℕ) (first : ℕ) (numbers : List ℕ) : Type 0 where
    pub kept : (n : ℕ) → n < count → new n ≡ at n
    pub more : count ≤ known
    pub ascends : Ascends new known
    pub seen : (k n place : ℕ) → slice_get numbers k ≡ Some n → place ≡ first + k → (n < known) × IsAtMost (new n) (above ++ place ∷ [])
    pub precedes : Precedes new known above (first + length numbers)

  abbrev pub Leads : List ℕ → ℕ → List ℕ → Type 0
  Leads above first numbers = (k n place : ℕ) → slice_get numbers k ≡ Some n → place ≡ first + k → Has n (above ++ place ∷ [])

  seen_next : (at : ℕ → List ℕ) (known : ℕ) (above : List ℕ) (first number : ℕ) (numbers : List ℕ) → (number < known) × IsAtMost (at number) (above ++ first ∷ [])
      → ((k n place : ℕ) → slice_get numbers k ≡ Some n → place ≡ suc first + k → (n < known) × IsAtMost (at n) (above ++ place ∷ []))
      → (k n place : ℕ) → slice_get (number ∷ numbers) k ≡ Some n → place ≡ first + k → (n < known) × IsAtMost (at n) (above ++ place ∷ [])
  seen_next at known above first number numbers here rest zero n place e p =
      let q : first ≡ place = omega arith in
      subst (λ i. (n < known) × IsAtMost (at n) (above ++ i ∷ [])) q (subst (λ i. (i < known) × IsAtMost (at i) (above ++ first ∷ [])) (same_Some number n e) here)
  seen_next at known above first number numbers here rest (suc k) n place e p = rest k n place e (omega arith)

  pub sees : (numbers : List ℕ) (at : ℕ → List ℕ) (count first : ℕ) (above : List ℕ) → AreSeenInOrder count numbers → Ascends at count → Leads above first numbers → Precedes at count above first
      → (new : ℕ → List ℕ) × Sees at count new (count_after count numbers) above first numbers
  sees [] at count first above order ascends leads precedes = (
    at,
    record {
      kept = λ n h. refl;
      more = omega arith;
      ascends = ascends;
      seen = λ k n place e p. absurd (none-some n e);
      precedes = λ n place h l. precedes n place h (omega arith);
    },
  )
  sees (number ∷ numbers) at count first above order ascends leads precedes =
      let s = step at count above first number order.0 ascends (leads zero number first refl (omega arith)) precedes in
      let r = sees numbers s.0 (max count (suc number)) (suc first) above order.1 s.1.ascends (λ k n place e p. leads (suc k) n place e (omega arith)) s.1.precedes in
      let within : number < max count (suc number) = s.1.within in
      let more : count ≤ max count (suc number) = s.1.more in
      let grown : max count (suc number) ≤ count_after (max count (suc number)) numbers = r.1.more in (
        r.0,
        record {
          kept = λ n h. r.1.kept n (omega arith) ∙ s.1.kept n h;
          more = omega arith;
          ascends = r.1.ascends;
          seen = seen_next r.0 (count_after (max count (suc number)) numbers) above first number numbers (omega arith, subst (λ a. IsAtMost a (above ++ first ∷ [])) (sym (r.1.kept number within)) s.1.here) r.1.seen;
          precedes = λ n place h l. r.1.precedes n place h (omega arith);
        },
      )

  -- what the sightings of the rows from a number on leave
  pub record SeesRows (at : ℕ → List ℕ) (count : ℕ) (new : ℕ → List ℕ) (known row : ℕ) (rows : List (List ℕ)) : Type 0 where
    pub kept : (n : ℕ) → n < count → new n ≡ at n
    pub more : count ≤ known
    pub ascends : Ascends new known
    pub seen : (k request n number : ℕ) (targets : List ℕ) → slice_get rows k ≡ Some targets → slice_get targets request ≡ Some n → number ≡ row + k → (n < known) × IsAtMost (new n) (new number ++ request ∷ [])

  abbrev pub RowsLead : ℕ → List (List ℕ) → Type 0
  RowsLead row rows = (k request n number : ℕ) (targets address : List ℕ) → slice_get rows k ≡ Some targets → slice_get targets request ≡ Some n → number ≡ row + k → Has number address → Has n (address ++ request ∷ [])

  abbrev pub PrecedesRows : (ℕ → List ℕ) → ℕ → ℕ → Type 0
  PrecedesRows at count row = (n number place : ℕ) → n < count → row ≤ number → number < count → ComesBefore (at n) (at number ++ place ∷ [])

  seen_next_row : (at : ℕ → List ℕ) (known row : ℕ) (row_targets : List ℕ) (rows : List (List ℕ))
      → ((request n : ℕ) → slice_get row_targets request ≡ Some n → (n < known) × IsAtMost (at n) (at row ++ request ∷ []))
      → ((k request n number : ℕ) (targets : List ℕ) → slice_get rows k ≡ Some targets → slice_get targets request ≡ Some n → number ≡ suc row + k → (n < known) × IsAtMost (at n) (at number ++ request ∷ []))
      → (k request n number : ℕ) (targets : List ℕ) → slice_get (row_targets ∷ rows) k ≡ Some targets → slice_get targets request ≡ Some n → number ≡ row + k → (n < known) × IsAtMost (at n) (at number ++ request ∷ [])
  seen_next_row at known row row_targets rows here rest zero request n number targets e f p =
      let q : row ≡ number = omega arith in
      subst (λ i. (n < known) × IsAtMost (at n) (at i ++ request ∷ [])) q (here request n (subst (λ l. slice_get l request ≡ Some n) (sym (same_Some row_targets targets e)) f))
  seen_next_row at known row row_targets rows here rest (suc k) request n number targets e f p = rest k request n number targets e f (omega arith)

  pub sees_rows : (rows : List (List ℕ)) (at : ℕ → List ℕ) (row count known : ℕ) → RowsAreSeenInOrder row count rows known → Ascends at count → RowsLead row rows → PrecedesRows at count row
      → (new : ℕ → List ℕ) × SeesRows at count new known row rows
  sees_rows [] at row count known order ascends leads precedes = (
    at,
    record {
      kept = λ n h. refl;
      more = omega arith;
      ascends = subst (λ n. Ascends at n) order ascends;
      seen = λ k request n number targets e f p. absurd (none-some targets e);
    },
  )
  sees_rows (targets ∷ rows) at row count known order ascends leads precedes =
      let wanted : row < count = order.0 in
      let s = sees targets at count 0 (at row) order.1 ascends
      (λ k n place e p. let q : k ≡ place = omega arith in subst (λ i. Has n (at row ++ i ∷ [])) q (leads zero k n row targets (at row) refl e (omega arith) (ascends.has row wanted)))
      (λ n place h l. precedes n row place h (omega arith) wanted) in
      let now : ℕ = count_after count targets in
      let more : count ≤ count_after count targets = s.1.more in
      let above : (n number place : ℕ) → n < count_after count targets → suc row ≤ number → number < count_after count targets → ComesBefore (s.0 n) (s.0 number ++ place ∷ []) =
      λ n number place h l b. before_trans (s.0 n) (at row ++ length targets ∷ []) (s.0 number ++ place ∷ []) (s.1.precedes n (length targets) h (omega arith))
      (before_push (at row) (s.0 number) (length targets) place (subst (λ a. ComesBefore a (s.0 number)) (s.1.kept row wanted) (s.1.ascends.ascending row number (omega arith) b))) in
      let r = sees_rows rows s.0 (suc row) (count_after count targets) known order.2 s.1.ascends (λ k request n number ts address e f p. leads (suc k) request n number ts address e f (omega arith)) above in
      let grown : count_after count targets ≤ known = r.1.more in
      let same : r.0 row ≡ at row = r.1.kept row (omega arith) ∙ s.1.kept row wanted in (
        r.0,
        record {
          kept = λ n h. r.1.kept n (omega arith) ∙ s.1.kept n h;
          more = omega arith;
          ascends = r.1.ascends;
          seen = seen_next_row r.0 known row targets rows
              (λ request n e. let here = s.1.seen request n request e (omega arith) in
              let lower : n < count_after count targets = here.0 in
              (omega arith, subst (λ a. IsAtMost (r.0 n) (a ++ request ∷ [])) (sym same) (subst (λ a. IsAtMost a (at row ++ request ∷ [])) (sym (r.1.kept n lower)) here.1)))
              r.1.seen;
        },
      )
