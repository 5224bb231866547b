-- Rows that shrink to availability.
use Rattle.std.proofs.Common.{◌≡◌, ◌↔◌, ◌⊎◌, inl, inr, ⊎_elim, ℕ, ◌+◌, ◌<◌, ◌≤◌, ◌&&◌, Bool, true, false, nat_le, nat_lt, nat_eq, List, [], ◌∷◌, ◌++◌, Some, slice_get, length, map, get_or, refl, sym, ap, subst, ◌∙◌, arith}
use Rattle.std.specs.List.{Contains}
use Rattle.std.proofs.lemmas.Bool.{cases_lt, cases_eq, ltb-true, lt-ltb, leb-true, le-leb, true≢false}
use Rattle.std.proofs.lemmas.List.{get_or_past, get_or_append_left, length-map}
use Rattle.std.proofs.Math.Seq.{get_or-append_seam}
use Rattle.std.proofs.lemmas.Map.Views.{exact_unsigned_eq}
use Rattle.indexmap.specs.IndexSet.{insert_key}
use Rattle.indexmap.proofs.CallerLemmas.{Contains-insert_key}
use Rattle.std.proofs.lemmas.List.Elements.{Contains-append_left, Contains-append_right, Contains-push_cases}
use Rattle.std.proofs.lemmas.Option.{slice_get_within, get_or_from_slice_get}
use Rattle.pk_types.specs.declared.plan.Groups.{Groups}
use Rattle.pk_types.specs.Availability.{GroupsFit}
use Rattle.pk_types.proofs.Availabilities.{none_at_entry, in_each_parent, greatest}
use Rattle.pk_types.proofs.ListMembers.{in_or_not, first_so, second_so, both}
use Rattle.avail_sets.specs.Words.{flag_in, words_for, flags_of}
use Rattle.avail_sets.specs.Rows.{AreAvailable, row_at, IsThere, IsFirst, ArePassed, IsShrinking}
use Rattle.avail_sets.specs.Kept.{AreKept}
use Rattle.avail_sets.proofs.Passing.{insert_cases, insert_keeps}
use Rattle.avail_sets.proofs.Flags.{no_flag, length_flags, read_below, row_of}

-- a group past the last one has nothing
pub in_some_row : (rows : List (List ℕ)) (group number : ℕ) → IsThere rows group number → group < length rows
in_some_row rows group number there = ⊎_elim (λ h. h)
    (λ past. absurd (true≢false (sym there ∙ ap (λ r. flag_in r number) (get_or_past rows group [] past) ∙ no_flag [] (λ k. refl) number)))
    (cases_lt group (length rows))

-- the groups of the first entries wait, one more
pub one_waits_more : (waiting : List ℕ) (next : ℕ) → ((k : ℕ) → Contains waiting k ↔ (k < next)) → (k : ℕ) → Contains (insert_key nat_eq waiting next) k ↔ (k < next + 1)
one_waits_more waiting next so_far k = (
  λ there. ⊎_elim (λ old. let h = (so_far k).0 old in omega arith) (λ e. omega arith) (insert_cases waiting next k there),
  λ h. ⊎_elim
      (λ e. subst (Contains (insert_key nat_eq waiting next)) (sym e) (Contains-insert_key nat_eq exact_unsigned_eq waiting next))
      (λ ne. insert_keeps waiting next k ((so_far k).1 (omega arith)))
      (cases_eq k next),
)

-- a row more
pub one_row_more : (P : ℕ → List ℕ → Type 0) (rows : List (List ℕ)) (row : List ℕ) (more : List (List ℕ)) (count : ℕ) → length rows ≡ count
    → ((k : ℕ) → k < count → P k (get_or rows k [])) → P count row → more ≡ rows ++ row ∷ [] → (k : ℕ) → k < count + 1 → P k (get_or more k [])
one_row_more P rows row more count each all last is k h = subst (λ l. P k (get_or l k [])) (sym is) (⊎_elim
    (λ e. subst (λ n. P n (get_or (rows ++ row ∷ []) n [])) (sym e) (subst (P count) (sym (ap (λ n. get_or (rows ++ row ∷ []) n []) (sym each) ∙ get_or-append_seam rows row [] [])) last))
    (λ ne. subst (P k) (sym (get_or_append_left rows (row ∷ []) [] k (omega arith))) (all k (omega arith)))
    (cases_eq k count))

pub first_all : (entries modules group : ℕ) (words : List ℕ) → entries ≤ group → length words ≡ words_for modules → ((number : ℕ) → flag_in words number ≡ nat_lt number modules)
    → IsFirst entries modules group words
first_all entries modules group words other long flags = record {
  long = long;
  flags = λ number. flags number ∙ sym (ap (λ b. b && nat_lt number modules) (le-leb entries group other));
}

pub first_none : (entries modules group : ℕ) (words : List ℕ) → group < entries → length words ≡ words_for modules → ((number : ℕ) → flag_in words number ≡ false)
    → IsFirst entries modules group words
first_none entries modules group words entry long flags = record {
  long = long;
  flags = λ number. flags number ∙ sym (ap (λ b. b && nat_lt number modules) (leb-false_of (nat_le entries group) refl));
}
  where
    leb-false_of : (b : Bool) → nat_le entries group ≡ b → nat_le entries group ≡ false
    leb-false_of true e = absurd (omega (arith, entry, leb-true entries group e))
    leb-false_of false e = e

module _ (groups : Groups) (modules : ℕ) (fits : GroupsFit groups) where
  -- the first rows, where the groups of entries wait
  pub begins : (rows : List (List ℕ)) (waiting : List ℕ) → length rows ≡ length groups.targets
      → ((group : ℕ) → group < length groups.targets → IsFirst groups.entries modules group (row_at rows group))
      → ((group : ℕ) → Contains waiting group ↔ (group < groups.entries)) → IsShrinking groups modules rows waiting
  begins rows waiting each first entries = record {
    each = each;
    long = λ group h. (first group h).long;
    others = λ group number there.
        let h = in_some_row rows group number there in
        let so = sym ((first group (omega (arith, h, each))).flags number) ∙ there in
        (leb-true groups.entries group (first_so (nat_le groups.entries group) (nat_lt number modules) so), ltb-true number modules (second_so (nat_le groups.entries group) (nat_lt number modules) so));
    kept = λ group number h below available. ⊎_elim
        (λ entry. absurd (none_at_entry groups group number entry available))
        (λ other. set group number h other below)
        (cases_lt group groups.entries);
    passed = λ group next number out leads there.
        let so = sym ((first next (omega (arith, in_some_row rows next number there, each))).flags number) ∙ there in
        let below = ltb-true number modules (second_so (nat_le groups.entries next) (nat_lt number modules) so) in
        let inside : group < length groups.targets = omega (arith, slice_get_within groups.leads group leads.0 leads.1, fits.each_lead) in
        ⊎_elim
        (λ entry. absurd (out ((entries group).1 entry)))
        (λ other. inr (set group number inside other below))
        (cases_lt group groups.entries);
    within = λ group there. let few = fits.entries in omega (arith, (entries group).0 there, few);
  }
    where
      set : (group number : ℕ) → group < length groups.targets → groups.entries ≤ group → number < modules → IsThere rows group number
      set group number h other below = (first group h).flags number ∙ both (nat_le groups.entries group) (nat_lt number modules) (le-leb groups.entries group other) (lt-ltb number modules below)

  -- a group is worked off
  pub goes_on : (rows now : List (List ℕ)) (group : ℕ) (left later have leads closure : List ℕ) → IsShrinking groups modules rows (left ++ group ∷ [])
      → slice_get groups.leads group ≡ Some leads → slice_get groups.closures group ≡ Some closure
      → ((number : ℕ) → (flag_in have number ≡ true) ↔ ((flag_in (row_at rows group) number ≡ true) ⊎ Contains closure number))
      → ((next : ℕ) → Contains leads next → next < length groups.targets)
      → ArePassed have leads rows now left later → IsShrinking groups modules now later
  goes_on rows now group left later have leads closure so_far lead_at closure_at has inside passed = record {
    each = passed.each ∙ so_far.each;
    long = λ g h. passed.long g ∙ so_far.long g h;
    others = λ g number there. so_far.others g number ((passed.flags g number).0 there).0;
    kept = λ g number h below available. (passed.flags g number).1 (
      so_far.kept g number h below available,
      λ among. (has number).1 (⊎_elim
          (λ holds. inr holds)
          (λ lacks. inl (so_far.kept group number here below (in_each_parent groups group g number (leads, lead_at, among)
          (λ holder. lacks (subst (λ l. Contains l number) (sym (get_or_from_slice_get groups.closures group holder.0 [] holder.1) ∙ get_or_from_slice_get groups.closures group closure [] closure_at) holder.2)) available)))
          (in_or_not closure number)),
    );
    passed = λ g next number out leading there.
        let two = (passed.flags next number).0 there in
        let still = passed.kept g out in
        ⊎_elim
        (λ e.
        let among : Contains leads next = subst (λ l. Contains l next)
        (sym (get_or_from_slice_get groups.leads g leading.0 [] leading.1) ∙ ap (λ k. get_or groups.leads k []) e ∙ get_or_from_slice_get groups.leads group leads [] lead_at) leading.2 in
        ⊎_elim
        (λ old. inr (ap (λ r. flag_in r number) still.1 ∙ ap (λ k. flag_in (row_at rows k) number) e ∙ old))
        (λ holds. inl (closure, ap (slice_get groups.closures) e ∙ closure_at, holds))
        ((has number).0 (two.1 among)))
        (λ ne. ⊎_elim
        (λ holds. inl holds)
        (λ old. inr (ap (λ r. flag_in r number) still.1 ∙ old))
        (so_far.passed g next number (λ waits. ⊎_elim (λ before. still.0 before) (λ e. absurd (ne (sym e))) (Contains-push_cases left group g waits)) leading two.0))
        (cases_eq g group);
    within = λ g there. ⊎_elim
        (λ before. so_far.within g (push_left g before))
        (λ among. inside g among)
        (passed.only g there);
  }
    where
      push_left : (g : ℕ) → Contains left g → Contains (left ++ group ∷ []) g
      push_left g there = Contains-append_left left (group ∷ []) g there

      here : group < length groups.targets
      here = so_far.within group (Contains-append_right left (group ∷ []) group (0, omega arith, refl))

-- where nothing waits the rows are right
pub ends : (groups : Groups) (modules : ℕ) (rows : List (List ℕ)) → IsShrinking groups modules rows [] → AreAvailable groups modules (map (flags_of modules) rows)
ends groups modules rows done = record {
  each = length-map rows (flags_of modules) ∙ done.each;
  long = λ group h. ap length (row_of modules rows group (omega (arith, h, done.each))) ∙ length_flags modules (row_at rows group);
  flags = λ group number h below.
      let read = ap (λ l. get_or l number false) (row_of modules rows group (omega (arith, h, done.each))) ∙ read_below modules (row_at rows group) number below in (
        λ so. greatest groups number (λ g. IsThere rows g number) (λ g there. (done.others g number there).0)
            (λ parent g leads there. done.passed parent g number (λ waits. absurd (omega (arith, waits.1))) leads there) group (sym read ∙ so),
        λ available. read ∙ done.kept group number h below available,
      );
}

pub are_kept : (groups : Groups) (modules : ℕ) (rows : List (List ℕ)) → IsShrinking groups modules rows [] → AreKept modules rows
are_kept groups modules rows done = record {
  long = λ group h. done.long group (omega (arith, h, done.each));
  past = λ group number there. (done.others group number there).1;
}
