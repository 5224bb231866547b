-- Modules that go.
use Rattle.std.proofs.Common.{◌≡◌, ◌≢◌, ◌⊎◌, ◌↔◌, inl, inr, ⊎_elim, ℕ, ◌+◌, ◌<◌, ◌≤◌, Bool, true, false, true≢false, cond, Some, None, List, [], ◌∷◌, ◌++◌, length, drop, get_or, refl, sym, ap, subst, ◌∙◌, arith}
use Rattle.std.proofs.Math.ListN.{set}
use Rattle.std.specs.List.{All, Contains, count_by}
use Rattle.std.proofs.lemmas.Bool.{cases_eq}
use Rattle.std.proofs.lemmas.Option.{same_Some}
use Rattle.std.proofs.lemmas.List.{length-set, append-nil, append_assoc, length-append, get_or-set_same, get_or-set_other, get_or_default, drop_more, drop-append-le, drop_all}
use Rattle.std.proofs.lemmas.List.Sums.{sum_by-set}
use Rattle.std.proofs.lemmas.List.Elements.{All-push, All-nil, All-append, All-tail, All-contains, All-get_or, Contains-append_left, Contains-append_right, Contains-append_cases, Contains-push_cases}
use Rattle.pk_types.proofs.ListMembers.{here, there, one_of, none_in}
use Rattle.scope_hoist.specs.declared.marks.Marks.{Marks}
use Rattle.scope_hoist.specs.Standing.{Asks, AreTogether, IsHeld, IsLedBy, IsLed, led, IsFound, AreStanding, AreApart}
use Rattle.scope_hoist.specs.Steps.{LetsGo, held_count}
use Rattle.scope_hoist.specs.Going.{AreOwed, LooksAt, spared, stays, goes, AreGoing, PassesOn, IsSettled}

module _ (old new : Marks) (member from : ℕ) (lets : LetsGo old new member from) (inside : member < length old.held.items) (within : member < length old.witness.items) where
  pub not_held : ¬ IsHeld new member
  not_held is = true≢false (sym is ∙ ap (λ l. get_or l member false) lets.held ∙ get_or-set_same old.held.items member false false inside)

  pub led_by_it : IsLedBy new member from
  led_by_it = ap (λ l. get_or l member None) lets.witness ∙ get_or-set_same old.witness.items member (Some from) None within

  pub held_before : (other : ℕ) → IsHeld new other → IsHeld old other
  held_before other is = ⊎_elim (λ e. absurd (not_held (subst (IsHeld new) e is)))
      (λ ne. sym (ap (λ l. get_or l other false) lets.held ∙ get_or-set_other old.held.items member other false false ne) ∙ is) (cases_eq other member)

  pub held_still : (other : ℕ) → other ≢ member → IsHeld old other → IsHeld new other
  held_still other ne is = ap (λ l. get_or l other false) lets.held ∙ get_or-set_other old.held.items member other false false ne ∙ is

  pub led_before : (other by : ℕ) → other ≢ member → IsLedBy new other by → IsLedBy old other by
  led_before other by ne is = sym (ap (λ l. get_or l other None) lets.witness ∙ get_or-set_other old.witness.items member other (Some from) None ne) ∙ is

  pub led_still : (other by : ℕ) → other ≢ member → IsLedBy old other by → IsLedBy new other by
  led_still other by ne is = ap (λ l. get_or l other None) lets.witness ∙ get_or-set_other old.witness.items member other (Some from) None ne ∙ is

  -- what is found stays found
  pub found_same : IsHeld old member → (other : ℕ) → IsFound new other ↔ IsFound old other
  found_same was other = (
    λ found. ⊎_elim (λ is. inl (held_before other is))
        (λ led. ⊎_elim (λ e. inl (subst (IsHeld old) (sym e) was)) (λ ne. inr (led.0, led_before other led.0 ne led.1)) (cases_eq other member)) found,
    λ found. ⊎_elim (λ e. inr (from, subst (λ m. IsLedBy new m from) (sym e) led_by_it))
        (λ ne. ⊎_elim (λ is. inl (held_still other ne is)) (λ led. inr (led.0, led_still other led.0 ne led.1)) found) (cases_eq other member),
  )

  module _ (asks homes : List (List ℕ)) (standing : AreStanding asks homes old) (apart : AreApart homes old) (was : IsHeld old member) where
    -- those that were led are led still
    still_led : (other : ℕ) → IsLed asks homes old other → other ≢ member → IsLed asks homes new other
    still_led other (led _ by is asking rest) ne = led other by (led_still other by ne is) asking
        (λ next leads together. ⊎_elim
        (λ e. absurd (apart other by is (subst (IsHeld old) (sym e) was) together))
        (λ apart_from. still_led by (rest next (led_before by next apart_from leads) together) apart_from)
        (cases_eq by member))

    pub goes_standing : Asks asks from member → (IsHeld old from → ¬ AreTogether homes from member) → AreStanding asks homes new
    goes_standing asking out = record {
      each_held = ap length lets.held ∙ length-set old.held.items member false ∙ standing.each_held;
      each_witness = ap length lets.witness ∙ length-set old.witness.items member (Some from) ∙ standing.each_witness;
      led = λ other by is. ⊎_elim
          (λ e. subst (IsLed asks homes new) (sym e) (led member from led_by_it asking
          (λ next leads together. ⊎_elim
          (λ same. absurd (out (subst (IsHeld old) (sym same) was) together))
          (λ other_one. still_led from (standing.led from next (led_before from next other_one leads)) other_one)
          (cases_eq from member))))
          (λ ne. still_led other (standing.led other by (led_before other by ne is)) ne)
          (cases_eq other member);
      not_both = λ other by is held. ⊎_elim (λ e. not_held (subst (IsHeld new) e held))
          (λ ne. standing.not_both other by (led_before other by ne is) (held_before other held)) (cases_eq other member);
      listed = λ other is. subst (λ l. Contains l other) (sym lets.list) (standing.listed other (held_before other is));
      within = subst (All (λ m. m < length asks)) (sym lets.list) standing.within;
    }

    pub goes_apart : (IsHeld old from → ¬ AreTogether homes from member) → AreApart homes new
    goes_apart out other by is held together = ⊎_elim
        (λ e.
        let same = same_Some by from (sym (subst (λ m. IsLedBy new m by) e is) ∙ led_by_it) in
        out (subst (IsHeld old) same (held_before by held)) (subst (λ f. AreTogether homes f member) same (subst (AreTogether homes by) e together)))
        (λ ne. apart other by (led_before other by ne is) (held_before by held) together)
        (cases_eq other member)

-- one fewer is held
pub held_one_less : (held : List Bool) (member : ℕ) → member < length held → get_or held member false ≡ true
    → count_by (λ (is : Bool). is) (set held member false) + 1 ≤ count_by (λ (is : Bool). is) held
held_one_less held member inside is =
    let moved = sum_by-set (λ (x : Bool). cond x 1 0) held member false false inside in
    let one : ◌≡◌ {A = ℕ} (cond (get_or held member false) 1 0) 1 = ap (λ (b : Bool). cond b 1 0) is in
    omega (arith, moved, one)

-- ---- looking at the held modules

module _ (asks homes : List (List ℕ)) (root : ℕ) (first old new : Marks) (gone now : List ℕ) (place : ℕ)
    (going : AreGoing asks homes root first old gone (drop place first.list.items)) (inside : place < length first.list.items) where
  member : ℕ
  member = get_or first.list.items place 0

  -- what is left, or this one
  split_left : (other : ℕ) → Contains (drop place first.list.items) other → (get_or first.list.items place 0 ≡ other) ⊎ Contains (drop (place + 1) first.list.items) other
  split_left other c = one_of (get_or first.list.items place 0) (drop (place + 1) first.list.items) other (subst (λ l. Contains l other) (drop_more first.list.items place 0 inside) c)

  pub looked_at : LooksAt asks homes root (get_or first.list.items place 0) old new gone now → AreGoing asks homes root first new now (drop (place + 1) first.list.items)
  looked_at (spared same list why) = subst (λ g. AreGoing asks homes root first new g (drop (place + 1) first.list.items)) (sym list)
      (subst (λ m. AreGoing asks homes root first m gone (drop (place + 1) first.list.items)) (sym same) (record {
        standing = going.standing;
        apart = going.apart;
        itself = going.itself;
        found = going.found;
        list = going.list;
        owed = record {
          within = going.owed.within;
          not_held = going.owed.not_held;
          owed = λ other from is ne asking. ⊎_elim
              (λ left. ⊎_elim
              (λ e. ⊎_elim (λ root_itself. absurd (ne (sym e ∙ root_itself))) (λ out. absurd (out (subst (IsHeld old) (sym e) is))) why)
              (λ later. inl later) (split_left other left))
              (λ known. inr known) (going.owed.owed other from is ne asking);
        };
      }))
  looked_at (stays same list fine) = subst (λ g. AreGoing asks homes root first new g (drop (place + 1) first.list.items)) (sym list)
      (subst (λ m. AreGoing asks homes root first m gone (drop (place + 1) first.list.items)) (sym same) (record {
        standing = going.standing;
        apart = going.apart;
        itself = going.itself;
        found = going.found;
        list = going.list;
        owed = record {
          within = going.owed.within;
          not_held = going.owed.not_held;
          owed = λ other from is ne asking. ⊎_elim
              (λ left. ⊎_elim
              (λ e. let ok = fine from (subst (Asks asks from) (sym e) asking) in inr (subst (AreTogether homes from) e ok.1, inl ok.0))
              (λ later. inl later) (split_left other left))
              (λ known. inr known) (going.owed.owed other from is ne asking);
        };
      }))
  looked_at (goes from lets list not_root was asking out) = record {
    standing = goes_standing old new (get_or first.list.items place 0) from lets within_held within_witness asks homes going.standing going.apart was asking out;
    apart = goes_apart old new (get_or first.list.items place 0) from lets within_held within_witness asks homes going.standing going.apart was out;
    itself = held_still old new (get_or first.list.items place 0) from lets within_held within_witness root (λ e. not_root (sym e)) going.itself;
    found = λ other.
        let one = found_same old new (get_or first.list.items place 0) from lets within_held within_witness was other in
        let before = going.found other in (λ f. before.0 (one.0 f), λ f. one.1 (before.1 f));
    list = lets.list ∙ going.list;
    owed = record {
      within = subst (All (λ m. m < length asks)) (sym list) (All-push (λ m. m < length asks) gone (get_or first.list.items place 0) going.owed.within low);
      not_held = λ other c is. ⊎_elim
          (λ before. going.owed.not_held other before (held_before old new (get_or first.list.items place 0) from lets within_held within_witness other is))
          (λ e. not_held old new (get_or first.list.items place 0) from lets within_held within_witness (subst (IsHeld new) (sym e) is))
          (Contains-push_cases gone (get_or first.list.items place 0) other (subst (λ l. Contains l other) list c));
      owed = λ other by is ne ask. ⊎_elim
          (λ left. ⊎_elim
          (λ e. absurd (not_held old new (get_or first.list.items place 0) from lets within_held within_witness (subst (IsHeld new) (sym e) is)))
          (λ later. inl later) (split_left other left))
          (λ known. inr (
            known.0,
            ⊎_elim
                (λ held. ⊎_elim (λ e. inr (subst (λ l. Contains l by) (sym list) (Contains-append_right gone (get_or first.list.items place 0 ∷ []) by
                (subst (Contains (get_or first.list.items place 0 ∷ [])) (sym e) (here (get_or first.list.items place 0) [])))))
                (λ apart_from. inl (held_still old new (get_or first.list.items place 0) from lets within_held within_witness by apart_from held)) (cases_eq by (get_or first.list.items place 0)))
                (λ went. inr (subst (λ l. Contains l by) (sym list) (Contains-append_left gone (get_or first.list.items place 0 ∷ []) by went)))
                known.1,
          ))
          (going.owed.owed other by (held_before old new (get_or first.list.items place 0) from lets within_held within_witness other is) ne ask);
    };
  }
    where
      low : get_or first.list.items place 0 < length asks
      low = subst (λ l. get_or l place 0 < length asks) going.list (All-get_or (λ m. m < length asks) old.list.items place 0 (omega (arith, inside, ap length going.list)) going.standing.within)

      within_held : get_or first.list.items place 0 < length old.held.items
      within_held = let each = going.standing.each_held in omega (arith, low)

      within_witness : get_or first.list.items place 0 < length old.witness.items
      within_witness = let each = going.standing.each_witness in omega (arith, low)

pub looking_starts : (asks homes : List (List ℕ)) (root : ℕ) (marks : Marks) → AreStanding asks homes marks → AreApart homes marks → IsHeld marks root
    → AreGoing asks homes root marks marks [] (drop 0 marks.list.items)
looking_starts asks homes root marks standing apart itself = record {
  standing = standing;
  apart = apart;
  itself = itself;
  found = λ other. (λ f. f, λ f. f);
  list = refl;
  owed = record {
    within = All-nil (λ m. m < length asks);
    not_held = λ other c. absurd (none_in other c);
    owed = λ other from is ne asking. inl (standing.listed other is);
  };
}

-- ---- what is asked for by what went

-- what one asks for, up to a place
pub record IsPassing (asks homes : List (List ℕ)) (root from : ℕ) (targets : List ℕ) (place : ℕ) (first marks : Marks) (before gone : List ℕ) : Type 0 where
  pub standing : AreStanding asks homes marks
  pub apart : AreApart homes marks
  pub itself : IsHeld first root → IsHeld marks root
  pub found : (member : ℕ) → IsFound marks member ↔ IsFound first member
  pub less : (member : ℕ) → IsHeld marks member → IsHeld first member
  pub out : ¬ IsHeld marks from
  pub none : (k : ℕ) → k < place → get_or targets k 0 ≢ root → ¬ IsHeld marks (get_or targets k 0)
  pub added : List ℕ
  pub list : gone ≡ before ++ added
  pub within : All (λ member. member < length asks) added
  pub went : (member : ℕ) → Contains added member → ¬ IsHeld marks member
  pub kept : (member : ℕ) → IsHeld first member → IsHeld marks member ⊎ Contains added member
  pub measure : length added + held_count marks ≤ held_count first

pub passing_starts : (asks homes : List (List ℕ)) (root from : ℕ) (targets : List ℕ) (marks : Marks) (gone : List ℕ) → AreStanding asks homes marks → AreApart homes marks
    → ¬ IsHeld marks from → IsPassing asks homes root from targets 0 marks marks gone gone
passing_starts asks homes root from targets marks gone standing apart out = record {
  standing = standing;
  apart = apart;
  itself = λ is. is;
  found = λ other. (λ f. f, λ f. f);
  less = λ other is. is;
  out = out;
  none = λ k h. absurd (omega (arith, h));
  added = [];
  list = sym (append-nil gone);
  within = All-nil (λ m. m < length asks);
  went = λ other c. absurd (none_in other c);
  kept = λ other is. inl is;
  measure = omega arith;
}

module _ (asks homes : List (List ℕ)) (root from : ℕ) (targets : List ℕ) (place : ℕ) (first old new : Marks) (before gone now : List ℕ)
    (so_far : IsPassing asks homes root from targets place first old before gone) where
  pub passes_by : new ≡ old → now ≡ gone → (get_or targets place 0 ≢ root → ¬ IsHeld old (get_or targets place 0)) → IsPassing asks homes root from targets (place + 1) first new before now
  passes_by same list out = subst (λ g. IsPassing asks homes root from targets (place + 1) first new before g) (sym list)
      (subst (λ m. IsPassing asks homes root from targets (place + 1) first m before gone) (sym same) (record {
        standing = so_far.standing;
        apart = so_far.apart;
        itself = so_far.itself;
        found = so_far.found;
        less = so_far.less;
        out = so_far.out;
        none = λ k h. ⊎_elim (λ e. subst (λ p. get_or targets p 0 ≢ root → ¬ IsHeld old (get_or targets p 0)) (sym e) out) (λ ne. so_far.none k (omega arith)) (cases_eq k place);
        added = so_far.added;
        list = so_far.list;
        within = so_far.within;
        went = so_far.went;
        kept = so_far.kept;
        measure = so_far.measure;
      }))

  pub passes_on : LetsGo old new (get_or targets place 0) from → now ≡ gone ++ get_or targets place 0 ∷ [] → get_or targets place 0 ≢ root → IsHeld old (get_or targets place 0)
      → get_or targets place 0 < length asks → Asks asks from (get_or targets place 0) → IsPassing asks homes root from targets (place + 1) first new before now
  passes_on lets list not_root was low asking =
      let target = get_or targets place 0 in
      let within_held : get_or targets place 0 < length old.held.items = let each = so_far.standing.each_held in omega (arith, low) in
      let within_witness : get_or targets place 0 < length old.witness.items = let each = so_far.standing.each_witness in omega (arith, low) in
      let gone_now = not_held old new (get_or targets place 0) from lets within_held within_witness in
      let back = held_before old new (get_or targets place 0) from lets within_held within_witness in
      let still = held_still old new (get_or targets place 0) from lets within_held within_witness in
      let outside : IsHeld old from → ¬ AreTogether homes from (get_or targets place 0) = λ is. absurd (so_far.out is) in
      record {
        standing = goes_standing old new (get_or targets place 0) from lets within_held within_witness asks homes so_far.standing so_far.apart was asking outside;
        apart = goes_apart old new (get_or targets place 0) from lets within_held within_witness asks homes so_far.standing so_far.apart was outside;
        itself = λ is. still root (λ e. not_root (sym e)) (so_far.itself is);
        found = λ other.
            let one = found_same old new (get_or targets place 0) from lets within_held within_witness was other in
            let earlier = so_far.found other in (λ f. earlier.0 (one.0 f), λ f. one.1 (earlier.1 f));
        less = λ other is. so_far.less other (back other is);
        out = λ is. so_far.out (back from is);
        none = λ k h. ⊎_elim (λ e ne is. gone_now (subst (λ p. IsHeld new (get_or targets p 0)) e is))
            (λ ne apart_root is. so_far.none k (omega arith) apart_root (back (get_or targets k 0) is)) (cases_eq k place);
        added = so_far.added ++ get_or targets place 0 ∷ [];
        list = list ∙ ap (λ l. l ++ get_or targets place 0 ∷ []) so_far.list ∙ append_assoc before so_far.added (get_or targets place 0 ∷ []);
        within = All-push (λ m. m < length asks) so_far.added (get_or targets place 0) so_far.within low;
        went = λ other c is. ⊎_elim (λ old_one. so_far.went other old_one (back other is)) (λ e. gone_now (subst (IsHeld new) (sym e) is))
            (Contains-push_cases so_far.added (get_or targets place 0) other c);
        kept = λ other is. ⊎_elim
            (λ held. ⊎_elim
            (λ e. inr (Contains-append_right so_far.added (get_or targets place 0 ∷ []) other (subst (Contains (get_or targets place 0 ∷ [])) (sym e) (here (get_or targets place 0) []))))
            (λ ne. inl (still other ne held)) (cases_eq other (get_or targets place 0)))
            (λ went. inr (Contains-append_left so_far.added (get_or targets place 0 ∷ []) other went))
            (so_far.kept other is);
        measure =
            let less_one = held_one_less old.held.items (get_or targets place 0) within_held was in
            let count = ap (λ l. count_by (λ (is : Bool). is) l) lets.held in
            let long = length-append so_far.added (get_or targets place 0 ∷ []) in
            let earlier = so_far.measure in omega arith;
      }

pub passing_ends : (asks homes : List (List ℕ)) (root from : ℕ) (targets : List ℕ) (place : ℕ) (first new : Marks) (before now : List ℕ)
    → IsPassing asks homes root from targets place first new before now → targets ≡ get_or asks from [] → length targets ≤ place
    → PassesOn asks homes root from first new before now
passing_ends asks homes root from targets place first new before now done is end = record {
  standing = done.standing;
  apart = done.apart;
  itself = done.itself;
  found = done.found;
  less = done.less;
  none = λ other asking.
      let at = subst (λ l. Contains l other) (sym is) asking in
      let same = get_or_default targets at.0 0 other at.1 ∙ at.2 in
      subst (λ m. m ≢ root → ¬ IsHeld new m) same (done.none at.0 (omega (arith, at.1, end)));
  added = done.added;
  list = done.list;
  within = done.within;
  went = done.went;
  kept = done.kept;
  measure = done.measure;
}

-- ---- all that went is gone through

pub record IsSettling (asks homes : List (List ℕ)) (root : ℕ) (first marks : Marks) (gone : List ℕ) (place : ℕ) : Type 0 where
  pub standing : AreStanding asks homes marks
  pub apart : AreApart homes marks
  pub itself : IsHeld marks root
  pub found : (member : ℕ) → IsFound marks member ↔ IsFound first member
  pub owed : AreOwed asks homes root marks (drop place gone) []

pub settling_starts : (asks homes : List (List ℕ)) (root : ℕ) (marks : Marks) (gone : List ℕ) → AreStanding asks homes marks → AreApart homes marks → IsHeld marks root
    → AreOwed asks homes root marks gone [] → IsSettling asks homes root marks marks gone 0
settling_starts asks homes root marks gone standing apart itself owed = record {
  standing = standing;
  apart = apart;
  itself = itself;
  found = λ other. (λ f. f, λ f. f);
  owed = owed;
}

module _ (asks homes : List (List ℕ)) (root : ℕ) (first old new : Marks) (gone now : List ℕ) (place : ℕ) (so_far : IsSettling asks homes root first old gone place)
    (inside : place < length gone) where
  pub next_low : get_or gone place 0 < length asks
  next_low = All-contains (λ m. m < length asks) (drop place gone) (get_or gone place 0) so_far.owed.within
      (subst (λ l. Contains l (get_or gone place 0)) (sym (drop_more gone place 0 inside)) (here (get_or gone place 0) (drop (place + 1) gone)))

  pub next_out : ¬ IsHeld old (get_or gone place 0)
  next_out = so_far.owed.not_held (get_or gone place 0)
      (subst (λ l. Contains l (get_or gone place 0)) (sym (drop_more gone place 0 inside)) (here (get_or gone place 0) (drop (place + 1) gone)))

  pub settles_more : PassesOn asks homes root (get_or gone place 0) old new gone now → IsSettling asks homes root first new now (place + 1)
  settles_more passed = record {
    standing = passed.standing;
    apart = passed.apart;
    itself = passed.itself so_far.itself;
    found = λ other. let one = passed.found other in let earlier = so_far.found other in (λ f. earlier.0 (one.0 f), λ f. one.1 (earlier.1 f));
    owed = record {
      within = subst (All (λ m. m < length asks)) (sym left_is) (All-append (λ m. m < length asks) (drop (place + 1) gone) passed.added
          (All-tail (λ m. m < length asks) (get_or gone place 0) (drop (place + 1) gone) (subst (All (λ m. m < length asks)) (drop_more gone place 0 inside) so_far.owed.within)) passed.within);
      not_held = λ other c is. ⊎_elim
          (λ later. so_far.owed.not_held other (behind other later) (passed.less other is))
          (λ added. passed.went other added is)
          (Contains-append_cases (drop (place + 1) gone) passed.added other (subst (λ l. Contains l other) left_is c));
      owed = λ other by is ne asking. ⊎_elim
          (λ none. absurd (none_in other none))
          (λ known. inr (
            known.0,
            ⊎_elim
                (λ held. ⊎_elim (λ kept. inl kept) (λ added. inr (subst (λ l. Contains l by) (sym left_is) (Contains-append_right (drop (place + 1) gone) passed.added by added))) (passed.kept by held))
                (λ waits. ⊎_elim
                (λ e. absurd (passed.none other (subst (λ f. Asks asks f other) (sym e) asking) ne is))
                (λ later. inr (subst (λ l. Contains l by) (sym left_is) (Contains-append_left (drop (place + 1) gone) passed.added by later)))
                (one_of (get_or gone place 0) (drop (place + 1) gone) by (subst (λ l. Contains l by) (drop_more gone place 0 inside) waits)))
                known.1,
          ))
          (so_far.owed.owed other by (passed.less other is) ne asking);
    };
  }
    where
      left_is : drop (place + 1) now ≡ drop (place + 1) gone ++ passed.added
      left_is = ap (drop (place + 1)) passed.list ∙ drop-append-le (place + 1) gone passed.added (omega (arith, inside))

      behind : (other : ℕ) → Contains (drop (place + 1) gone) other → Contains (drop place gone) other
      behind other c = subst (λ l. Contains l other) (sym (drop_more gone place 0 inside)) (there (get_or gone place 0) (drop (place + 1) gone) other c)

pub settled : (asks homes : List (List ℕ)) (root : ℕ) (first marks : Marks) (gone : List ℕ) (place : ℕ) → IsSettling asks homes root first marks gone place → length gone ≤ place
    → IsSettled asks homes root first marks
settled asks homes root first marks gone place done end = record {
  standing = done.standing;
  apart = done.apart;
  itself = done.itself;
  found = done.found;
  closed = λ other by is ne asking. ⊎_elim
      (λ none. absurd (none_in other none))
      (λ known. (⊎_elim (λ held. held) (λ waits. absurd (none_in by (subst (λ l. Contains l by) (drop_all place gone end) waits))) known.1, known.0))
      (done.owed.owed other by is ne asking);
}
