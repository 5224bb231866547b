-- Those that wait, one after the other.
use Rattle.std.proofs.Common.{◌≡◌, ℕ, List, [], ◌∷◌, ◌++◌, length, Contains, Some, slice_get, slice_index, refl, sym, ap, subst, ◌∙◌, append-nil, append_assoc, length-append, arith}
use Rattle.std.proofs.lemmas.List.{map-append}
use Rattle.pk_types.specs.declared.graph.Graph.{Graph}
use Rattle.pk_types.specs.Resolving.{Pair}
use Rattle.pk_types.specs.StopSearch.{StopsAt, StarsStopAt}
use Rattle.pk_types.proofs.Parts.{Contains-head, Contains-tail}
use Rattle.stop_search.specs.declared.asked.Asked.{Asked}
use Rattle.stop_search.specs.Searching.{asks, stack_of, Pending}

module _ (graph : Graph) where
  pub pending_one : (before : List Pair) (asked : Pair) (stops : List ℕ) (after : List Pair) → Pending graph before (asked ∷ []) stops after
      → StopsAt graph before asked.0 asked.1 stops after
  pending_one before asked stops after p =
      subst (λ l. StopsAt graph before asked.0 asked.1 l after) (ap (λ l. l ++ p.2) (sym p.3.0) ∙ sym p.5)
      (subst (λ b. StopsAt graph b asked.0 asked.1 p.2 after) (sym p.3.1) p.4)

  pub one_pending : (before : List Pair) (asked : Pair) (stops : List ℕ) (after : List Pair) → StopsAt graph before asked.0 asked.1 stops after
      → Pending graph before (asked ∷ []) stops after
  one_pending before asked stops after s = ([], before, stops, (refl, refl), s, refl)

  -- the upper ones are first
  pub split : (lower upper : List Pair) (before : List Pair) (stops : List ℕ) (after : List Pair) → Pending graph before (lower ++ upper) stops after
      → (first : List ℕ) × (between : List Pair) × (last : List ℕ) × Pending graph before upper first between × Pending graph between lower last after
      × (stops ≡ first ++ last)
  split [] upper before stops after p = (stops, after, [], p, (refl, refl), sym (append-nil stops))
  split (asked ∷ lower) upper before stops after p =
      let r = split lower upper before p.0 p.1 p.3 in
      (r.0, r.1, r.2 ++ p.2, r.3, (r.2, p.1, p.2, r.4, p.4, refl), p.5 ∙ ap (λ l. l ++ p.2) r.5 ∙ append_assoc r.0 r.2 p.2)

  pub join : (lower upper : List Pair) (before between : List Pair) (first last : List ℕ) (after : List Pair) → Pending graph before upper first between
      → Pending graph between lower last after → Pending graph before (lower ++ upper) (first ++ last) after
  join [] upper before between first last after u l =
      subst (λ a. Pending graph before upper (first ++ last) a) l.1
      (subst (λ s. Pending graph before upper s between) (sym (append-nil first) ∙ ap (λ s. first ++ s) (sym l.0)) u)
  join (asked ∷ lower) upper before between first last after u l = (
    first ++ l.0,
    l.1,
    l.2,
    join lower upper before between first l.0 l.1 u l.3,
    l.4,
    ap (λ s. first ++ s) l.5 ∙ sym (append_assoc first l.0 l.2),
  )

  module _ (targets : List ℕ) (name : List ℕ) where
    pub stars_of_stack : (stars : List ℕ) (before : List Pair) (stops : List ℕ) (after : List Pair)
        → ((star : ℕ) → Contains stars star → slice_get targets star ≡ Some (slice_index targets star))
        → Pending graph before (stack_of targets name stars) stops after → StarsStopAt graph before targets name stars stops after
    stars_of_stack [] before stops after lead p =
        subst (λ s. StarsStopAt graph before targets name [] s after) (sym p.0)
        (subst (λ a. StarsStopAt graph before targets name [] [] a) p.1 (StarsStopAt.ended before targets name))
    stars_of_stack (star ∷ stars) before stops after lead p =
        let asked : Pair = (slice_index targets star, name) in
        let r = split (stack_of targets name stars) (asked ∷ []) before stops after p in
        subst (λ s. StarsStopAt graph before targets name (star ∷ stars) s after) (sym r.5)
        (StarsStopAt.next before r.1 after targets name star (slice_index targets star) stars r.0 r.2 (lead star (Contains-head star stars))
        (pending_one before asked r.0 r.1 r.3)
        (stars_of_stack stars r.1 r.2 after (λ other m. lead other (Contains-tail star stars other m)) r.4))

pub count_of_stack : (targets : List ℕ) (name : List ℕ) (stars : List ℕ) → length (stack_of targets name stars) ≡ length stars
count_of_stack targets name [] = refl
count_of_stack targets name (star ∷ stars) =
    omega (arith, length-append (stack_of targets name stars) ((slice_index targets star, name) ∷ []), count_of_stack targets name stars)

-- the last of the stars is the first that waits
pub stack_pop : (targets name stars : List ℕ) (star : ℕ) → stack_of targets name (stars ++ star ∷ []) ≡ (slice_index targets star, name) ∷ stack_of targets name stars
stack_pop targets name [] star = refl
stack_pop targets name (first ∷ stars) star = ap (λ l. l ++ (slice_index targets first, name) ∷ []) (stack_pop targets name stars star)

pub asks_pushed : (waiting : List Asked) (asked : Asked) → asks (waiting ++ asked ∷ []) ≡ asks waiting ++ (asked.number, asked.name.now) ∷ []
asks_pushed waiting asked = map-append (λ (one : Asked). (one.number, one.name.now)) waiting (asked ∷ [])

-- one more waits
pub waits_more : (targets name : List ℕ) (waiting new : List Asked) (asked : Asked) (stars left : List ℕ) (star : ℕ) → asked.number ≡ slice_index targets star → asked.name.now ≡ name → stars ≡ left ++ star ∷ [] → new ≡ waiting ++ asked ∷ []
    → asks new ++ stack_of targets name left ≡ asks waiting ++ stack_of targets name stars
waits_more targets name waiting new asked stars left star n w s p =
    ap (λ l. asks l ++ stack_of targets name left) p ∙ ap (λ l. l ++ stack_of targets name left) (asks_pushed waiting asked)
    ∙ append_assoc (asks waiting) ((asked.number, asked.name.now) ∷ []) (stack_of targets name left)
    ∙ ap (λ k. asks waiting ++ (k, asked.name.now) ∷ stack_of targets name left) n
    ∙ ap (λ k. asks waiting ++ (slice_index targets star, k) ∷ stack_of targets name left) w
    ∙ ap (λ l. asks waiting ++ l) (sym (stack_pop targets name left star)) ∙ ap (λ l. asks waiting ++ stack_of targets name l) (sym s)
