-- A set that is taken.
use Rattle.std.proofs.Common.{◌≡◌, ◌≢◌, ◌⊎◌, inl, inr, ⊎_elim, ℕ, ◌+◌, ◌<◌, ◌≤◌, Bool, false, true≢false, None, List, [], ◌∷◌, ◌++◌, length, take, get_or, refl, sym, ap, subst, ◌∙◌, arith}
use Rattle.std.specs.List.{All, Contains}
use Rattle.std.specs.Prelude.{slice_index}
use Rattle.std.specs.Str.{bytes_eq}
use Rattle.std.specs.Cmp.Lexicographic.{bytes_decides}
use Rattle.std.proofs.lemmas.Bool.{cases_eq, cases_Bool}
use Rattle.std.proofs.lemmas.List.{length-set, get_or-set_same, get_or-set_other, take_more, take_all}
use Rattle.std.proofs.lemmas.List.Elements.{All-push, All-nil, All-get_or, Contains-append_left, Contains-append_right, Contains-push_cases}
use Rattle.pk_types.proofs.ListMembers.{here, none_in, in_or_not}
use Rattle.scope_hoist.specs.declared.marks.Marks.{Marks}
use Rattle.scope_hoist.specs.Standing.{AreTogether, IsHeld, IsLedBy, IsLed, led, IsFound, IsFree, AreStanding, AreKnown, AreApart}
use Rattle.scope_hoist.specs.Steps.{HoldsAll}
use Rattle.scope_hoist.specs.Going.{AreGoing, IsSettled}
use Rattle.scope_hoist.specs.Taking.{Collects, passes, takes, keeps, AreCollected, IsScope, AreRootsBefore, TakesSet}
use Rattle.scope_hoist.proofs.Standing.{led_fewer}

pub together_or_not : (homes : List (List ℕ)) (number other : ℕ) → AreTogether homes number other ⊎ (¬ AreTogether homes number other)
together_or_not homes number other = ⊎_elim (λ yes. inl ((bytes_decides (get_or homes number []) (get_or homes other [])).0 yes))
    (λ no. inr (λ e. true≢false (sym ((bytes_decides (get_or homes number []) (get_or homes other [])).1 e) ∙ no)))
    (cases_Bool (bytes_eq (get_or homes number []) (get_or homes other [])))

pub held_or_not : (marks : Marks) (member : ℕ) → IsHeld marks member ⊎ (¬ IsHeld marks member)
held_or_not marks member = ⊎_elim (λ yes. inl yes) (λ no. inr (λ e. true≢false (sym e ∙ no))) (cases_Bool (get_or marks.held.items member false))

-- ---- the members are collected

pub record IsCollecting (homes : List (List ℕ)) (root : ℕ) (first marks : Marks) (before roots rest : List ℕ) (place : ℕ) : Type 0 where
  pub each : length roots ≡ length before
  pub each_held : length marks.held.items ≡ length first.held.items
  pub witness : marks.witness.items ≡ first.witness.items
  pub list : marks.list.items ≡ first.list.items
  pub taken : (member : ℕ) → IsHeld first member → AreTogether homes member root → Contains (take place first.list.items) member
      → (slice_index roots member ≡ root) × (¬ IsHeld marks member)
  pub others : (member : ℕ) → ¬ (IsHeld first member × AreTogether homes member root × Contains (take place first.list.items) member)
      → (slice_index roots member ≡ slice_index before member) × (get_or marks.held.items member false ≡ get_or first.held.items member false)
  pub waits : (member : ℕ) → IsHeld first member → ¬ AreTogether homes member root → Contains (take place first.list.items) member → Contains rest member
  pub within : (bound : ℕ) → All (λ member. member < bound) first.list.items → All (λ member. member < bound) rest

pub collecting_starts : (homes : List (List ℕ)) (root : ℕ) (marks : Marks) (roots rest : List ℕ) → rest ≡ [] → IsCollecting homes root marks marks roots roots rest 0
collecting_starts homes root marks roots rest none = record {
  each = refl;
  each_held = refl;
  witness = refl;
  list = refl;
  taken = λ member is together c. absurd (none_in member c);
  others = λ member no. (refl, refl);
  waits = λ member is apart c. absurd (none_in member c);
  within = λ bound all. subst (All (λ member. member < bound)) (sym none) (All-nil (λ member. member < bound));
}

module _ (homes : List (List ℕ)) (root : ℕ) (first old new : Marks) (before roots now rest more : List ℕ) (place : ℕ)
    (so_far : IsCollecting homes root first old before roots rest place) (inside : place < length first.list.items) where
  -- what stands up to the next place
  pub split : (other : ℕ) → Contains (take (place + 1) first.list.items) other → Contains (take place first.list.items) other ⊎ (get_or first.list.items place 0 ≡ other)
  split other c = Contains-push_cases (take place first.list.items) (get_or first.list.items place 0) other (subst (λ l. Contains l other) (take_more first.list.items place 0 inside) c)

  pub earlier : (other : ℕ) → Contains (take place first.list.items) other → Contains (take (place + 1) first.list.items) other
  earlier other c = subst (λ l. Contains l other) (sym (take_more first.list.items place 0 inside)) (Contains-append_left (take place first.list.items) (get_or first.list.items place 0 ∷ []) other c)

  pub next_one : Contains (take (place + 1) first.list.items) (get_or first.list.items place 0)
  next_one = subst (λ l. Contains l (get_or first.list.items place 0)) (sym (take_more first.list.items place 0 inside))
      (Contains-append_right (take place first.list.items) (get_or first.list.items place 0 ∷ []) (get_or first.list.items place 0) (here (get_or first.list.items place 0) []))

  -- a module that is still held was held at first
  pub was_held : (other : ℕ) → IsHeld old other → IsHeld first other
  was_held other is = ⊎_elim (λ yes. yes) (λ no. absurd (no (sym (so_far.others other (λ all. no all.0)).1 ∙ is))) (held_or_not first other)

  -- a module that is not held any more was taken, or wasn't held at first
  not_held_why : (other : ℕ) → ¬ IsHeld old other → IsHeld first other → AreTogether homes other root × Contains (take place first.list.items) other
  not_held_why other not is = ⊎_elim
      (λ together. ⊎_elim (λ c. (together, c)) (λ not_in. absurd (not ((so_far.others other (λ all. not_in all.2)).1 ∙ is))) (in_or_not (take place first.list.items) other))
      (λ apart. absurd (not ((so_far.others other (λ all. apart all.1)).1 ∙ is)))
      (together_or_not homes other root)

  pub collects_more : Collects homes root (get_or first.list.items place 0) old new roots now rest more → get_or first.list.items place 0 < length old.held.items
      → get_or first.list.items place 0 < length roots → IsCollecting homes root first new before now more (place + 1)
  collects_more (passes not same list left) low within = subst (λ r. IsCollecting homes root first new before now r (place + 1)) (sym left)
      (subst (λ r. IsCollecting homes root first new before r rest (place + 1)) (sym list) (subst (λ m. IsCollecting homes root first m before roots rest (place + 1)) (sym same) (record {
        each = so_far.each;
        each_held = so_far.each_held;
        witness = so_far.witness;
        list = so_far.list;
        taken = λ other is together c. ⊎_elim (λ old_one. so_far.taken other is together old_one)
            (λ e. let why = not_held_why other (λ held. not (subst (IsHeld old) (sym e) held)) is in so_far.taken other is together why.1)
            (split other c);
        others = λ other no. so_far.others other (λ all. no (all.0, all.1, earlier other all.2));
        waits = λ other is apart c. ⊎_elim (λ old_one. so_far.waits other is apart old_one)
            (λ e. absurd (apart (not_held_why other (λ held. not (subst (IsHeld old) (sym e) held)) is).0))
            (split other c);
        within = so_far.within;
      })))
  collects_more (takes was together held witness list roots_now left) low within = subst (λ r. IsCollecting homes root first new before now r (place + 1)) (sym left) (record {
    each = ap length roots_now ∙ length-set roots (get_or first.list.items place 0) root ∙ so_far.each;
    each_held = ap length held ∙ length-set old.held.items (get_or first.list.items place 0) false ∙ so_far.each_held;
    witness = witness ∙ so_far.witness;
    list = list ∙ so_far.list;
    taken = λ other is tog c. ⊎_elim
        (λ e. subst (λ m. (slice_index now m ≡ root) × (¬ IsHeld new m)) (sym e) (now_root, now_not))
        (λ ne. let then_taken = so_far.taken other is tog (⊎_elim (λ old_one. old_one) (λ e. absurd (ne (sym e))) (split other c)) in (
          roots_other other ne ∙ then_taken.0,
          λ held_now. then_taken.1 (sym (held_other other ne) ∙ held_now),
        ))
        (cases_eq other (get_or first.list.items place 0));
    others = λ other no. ⊎_elim
        (λ e. absurd (no (
          was_held other (subst (IsHeld old) (sym e) was),
          subst (λ m. AreTogether homes m root) (sym e) together,
          subst (Contains (take (place + 1) first.list.items)) (sym e) next_one,
        )))
        (λ ne. let still = so_far.others other (λ all. no (all.0, all.1, earlier other all.2)) in (roots_other other ne ∙ still.0, held_other other ne ∙ still.1))
        (cases_eq other (get_or first.list.items place 0));
    waits = λ other is apart c. ⊎_elim (λ old_one. so_far.waits other is apart old_one)
        (λ e. absurd (apart (subst (λ m. AreTogether homes m root) e together))) (split other c);
    within = so_far.within;
  })
    where
      now_root : slice_index now (get_or first.list.items place 0) ≡ root
      now_root = ap (λ l. get_or l (get_or first.list.items place 0) 0) roots_now ∙ get_or-set_same roots (get_or first.list.items place 0) root 0 within

      now_not : ¬ IsHeld new (get_or first.list.items place 0)
      now_not is = true≢false (sym is ∙ ap (λ l. get_or l (get_or first.list.items place 0) false) held ∙ get_or-set_same old.held.items (get_or first.list.items place 0) false false low)

      roots_other : (other : ℕ) → other ≢ get_or first.list.items place 0 → slice_index now other ≡ slice_index roots other
      roots_other other ne = ap (λ l. get_or l other 0) roots_now ∙ get_or-set_other roots (get_or first.list.items place 0) other root 0 ne

      held_other : (other : ℕ) → other ≢ get_or first.list.items place 0 → get_or new.held.items other false ≡ get_or old.held.items other false
      held_other other ne = ap (λ l. get_or l other false) held ∙ get_or-set_other old.held.items (get_or first.list.items place 0) other false false ne
  collects_more (keeps was apart_it same list left) low within = subst (λ r. IsCollecting homes root first new before now r (place + 1)) (sym left)
      (subst (λ r. IsCollecting homes root first new before r (rest ++ get_or first.list.items place 0 ∷ []) (place + 1)) (sym list)
      (subst (λ m. IsCollecting homes root first m before roots (rest ++ get_or first.list.items place 0 ∷ []) (place + 1)) (sym same) (record {
        each = so_far.each;
        each_held = so_far.each_held;
        witness = so_far.witness;
        list = so_far.list;
        taken = λ other is together c. ⊎_elim (λ old_one. so_far.taken other is together old_one)
            (λ e. absurd (apart_it (subst (λ m. AreTogether homes m root) (sym e) together))) (split other c);
        others = λ other no. so_far.others other (λ all. no (all.0, all.1, earlier other all.2));
        waits = λ other is apart c. ⊎_elim
            (λ old_one. Contains-append_left rest (get_or first.list.items place 0 ∷ []) other (so_far.waits other is apart old_one))
            (λ e. Contains-append_right rest (get_or first.list.items place 0 ∷ []) other (subst (Contains (get_or first.list.items place 0 ∷ [])) e (here (get_or first.list.items place 0) [])))
            (split other c);
        within = λ bound all. All-push (λ member. member < bound) rest (get_or first.list.items place 0) (so_far.within bound all)
            (All-get_or (λ member. member < bound) first.list.items place 0 inside all);
      })))

pub all_collected : (homes : List (List ℕ)) (root : ℕ) (first marks new : Marks) (before roots rest : List ℕ) (place : ℕ)
    → IsCollecting homes root first marks before roots rest place → length first.list.items ≤ place
    → ((member : ℕ) → IsHeld first member → Contains first.list.items member)
    → new.held.items ≡ marks.held.items → new.witness.items ≡ marks.witness.items → new.list.items ≡ rest
    → AreCollected homes root first new before roots
all_collected homes root first marks new before roots rest place done end listed held witness list = record {
  each = done.each;
  each_held = ap length held ∙ done.each_held;
  witness = witness ∙ done.witness;
  taken = λ member is together. let one = done.taken member is together (up_to member is) in (one.0, λ now. one.1 (back member now));
  others = λ member no. let one = done.others member (λ all. no (all.0, all.1)) in (one.0, ap (λ l. get_or l member false) held ∙ one.1);
  listed = λ member is. subst (λ l. Contains l member) (sym list) (⊎_elim
      (λ was. ⊎_elim (λ together. absurd ((done.taken member was together (up_to member was)).1 (back member is))) (λ apart. done.waits member was apart (up_to member was))
      (together_or_not homes member root))
      (λ was_not. absurd (was_not (sym (done.others member (λ all. was_not all.0)).1 ∙ back member is)))
      (held_or_not first member));
  within = λ bound all. subst (All (λ member. member < bound)) (sym list) (done.within bound all);
}
  where
    up_to : (member : ℕ) → IsHeld first member → Contains (take place first.list.items) member
    up_to member is = subst (λ l. Contains l member) (sym (take_all place first.list.items end)) (listed member is)

    back : (member : ℕ) → IsHeld new member → IsHeld marks member
    back member is = sym (ap (λ l. get_or l member false) held) ∙ is

-- ---- the marks afterwards

module _ (asks homes : List (List ℕ)) (root : ℕ) (old new : Marks) (roots now : List ℕ) (standing : AreStanding asks homes old) (collected : AreCollected homes root old new roots now) where
  pub still_held : (member : ℕ) → IsHeld new member → IsHeld old member × (¬ AreTogether homes member root)
  still_held member is = ⊎_elim
      (λ was. ⊎_elim (λ together. absurd ((collected.taken member was together).1 is)) (λ apart. (was, apart)) (together_or_not homes member root))
      (λ was_not. absurd (was_not (sym (collected.others member (λ all. was_not all.0)).1 ∙ is)))
      (held_or_not old member)

  pub still_led : (member from : ℕ) → IsLedBy new member from → IsLedBy old member from
  still_led member from by = sym (ap (λ l. get_or l member None) collected.witness) ∙ by

  pub collected_standing : AreStanding asks homes new
  collected_standing = record {
    each_held = collected.each_held ∙ standing.each_held;
    each_witness = ap length collected.witness ∙ standing.each_witness;
    led = λ member from by. led_fewer asks homes old new still_led member (standing.led member from (still_led member from by)) from by;
    not_both = λ member from by is. standing.not_both member from (still_led member from by) (still_held member is).0;
    listed = collected.listed;
    within = collected.within (length asks) standing.within;
  }

-- ---- the greatest set

-- no module of a set as the root's has to be is led, where no module is led by a held one
none_led : (asks homes : List (List ℕ)) (may_join : List Bool) (roots : List ℕ) (root : ℕ) (members : List ℕ) (marks : Marks) → AreApart homes marks → IsHeld marks root
    → ((member from : ℕ) → IsLedBy marks member from → IsLed asks homes marks member)
    → ((member : ℕ) → IsFree may_join roots root member → IsFound marks member) → IsScope asks homes may_join roots root members
    → (member : ℕ) → IsLed asks homes marks member → Contains members member → member ≢ root → ⊥
none_led asks homes may_join roots root members marks apart itself all known scope member (led _ from by asking rest) c ne =
    let together = scope.together member c ne in
    let among = scope.closed member from c ne asking in
    ⊎_elim
    (λ e. apart member from by (subst (IsHeld marks) (sym e) itself) (ap (λ k. get_or homes k []) e ∙ sym together))
    (λ other.
    let with_root = scope.together from among other in
    ⊎_elim
    (λ is. apart member from by is (with_root ∙ sym together))
    (λ next. none_led asks homes may_join roots root members marks apart itself all known scope from (rest next.0 next.1 (with_root ∙ sym together)) among other)
    (known from (scope.free from among other)))
    (cases_eq from root)

module _ (asks homes : List (List ℕ)) (root : ℕ) (first held looked settled new : Marks) (gone : List ℕ) (roots now : List ℕ)
    (before : AreRootsBefore roots root) (all : HoldsAll first held root) (going : AreGoing asks homes root held looked gone []) (set : IsSettled asks homes root looked settled)
    (collected : AreCollected homes root settled new roots now) where
  -- what is found at last
  pub found_back : (member : ℕ) → IsFound settled member → (member ≡ root) ⊎ IsFound first member
  found_back member found = all.before member ((going.found member).0 ((set.found member).0 found))

  pub found_on : (member : ℕ) → IsFound first member → IsFound settled member
  found_on member found = (set.found member).1 ((going.found member).1 (all.found member found))

  -- the members of the new set
  pub members_are : (member : ℕ) → member < length roots → slice_index now member ≡ root → member ≢ root → IsHeld settled member × AreTogether homes member root
  members_are member inside is ne = ⊎_elim
      (λ held. ⊎_elim (λ together. (held, together)) (λ apart. absurd (outside (λ two. apart two.1))) (together_or_not homes member root))
      (λ not. absurd (outside (λ two. not two.0)))
      (held_or_not settled member)
    where
      outside : ¬ (IsHeld settled member × AreTogether homes member root) → ⊥
      outside not_both =
          let same = sym (collected.others member not_both).0 ∙ is in
          ⊎_elim (λ less. omega (arith, less, same)) (λ itself. ne (sym itself ∙ same)) (before.before member inside)

  module _ (may_join : List Bool) (known : AreKnown may_join roots root [] first) where
    pub free_back : (member : ℕ) → IsFound settled member → member ≢ root → IsFree may_join roots root member
    free_back member found ne = ⊎_elim (λ e. absurd (ne e)) (λ was. ⊎_elim (λ none. absurd (none_in member none)) (λ free. free) (known.found member was)) (found_back member found)

    pub takes_set : TakesSet asks homes may_join roots now root
    takes_set = record {
      each = collected.each;
      itself = (collected.taken root set.itself refl).0;
      same = λ member ne. (collected.others member (λ two. ne (collected.taken member two.0 two.1).0)).0;
      free = λ member inside is ne. free_back member (inl (members_are member inside is ne).0) ne;
      together = λ member inside is ne. (members_are member inside is ne).1;
      closed = λ member from inside is ne asking.
          let here_it = members_are member inside is ne in
          let asks_it = set.closed member from here_it.0 ne asking in
          (collected.taken from asks_it.0 (asks_it.1 ∙ here_it.1)).0;
      greatest = λ members scope member c. ⊎_elim
          (λ e. subst (λ m. slice_index now m ≡ root) (sym e) (collected.taken root set.itself refl).0)
          (λ ne. ⊎_elim
          (λ held. (collected.taken member held (scope.together member c ne)).0)
          (λ by. absurd (none_led asks homes may_join roots root members settled set.apart set.itself set.standing.led (λ m free. found_on m (known.known m free)) scope member
          (set.standing.led member by.0 by.1) c ne))
          (found_on member (known.known member (scope.free member c ne))))
          (cases_eq member root);
    }

    pub known_after : AreKnown may_join now (root + 1) [] new
    known_after = record {
      known = λ member free.
          let apart : slice_index now member ≢ root = λ e. low member root free.later (sym free.itself ∙ e) in
          let no : ¬ (IsHeld settled member × AreTogether homes member root) = λ two. apart (collected.taken member two.0 two.1).0 in
          let other = collected.others member no in
          let was : IsFree may_join roots root member = record { able = free.able; itself = sym other.0 ∙ free.itself; later = less root member free.later } in
          ⊎_elim (λ held. inl (other.1 ∙ held)) (λ by. inr (by.0, ap (λ l. get_or l member None) collected.witness ∙ by.1)) (found_on member (known.known member was));
      found = λ member found. inr (⊎_elim
          (λ held.
          let was = still_held asks homes root settled new roots now set.standing collected member held in
          after member (inl was.0) (λ two. was.1 two.1) (λ e. was.1 (ap (λ k. get_or homes k []) e)))
          (λ by.
          let was = still_led asks homes root settled new roots now set.standing collected member by.0 by.1 in
          after member (inr (by.0, was)) (λ two. set.standing.not_both member by.0 was two.0) (λ e. set.standing.not_both member by.0 was (subst (IsHeld settled) (sym e) set.itself)))
          found);
    }
      where
        low : (m r : ℕ) → r + 1 ≤ m → m ≡ r → ⊥
        low m r h e = omega arith

        less : (r m : ℕ) → r + 1 ≤ m → r ≤ m
        less r m h = omega arith

        more : (r m : ℕ) → r ≤ m → m ≢ r → r + 1 ≤ m
        more r m h ne = omega arith

        after : (member : ℕ) → IsFound settled member → ¬ (IsHeld settled member × AreTogether homes member root) → member ≢ root → IsFree may_join now (root + 1) member
        after member found not_both ne =
            let free = free_back member found ne in
            record { able = free.able; itself = (collected.others member not_both).0 ∙ free.itself; later = more root member free.later ne }
