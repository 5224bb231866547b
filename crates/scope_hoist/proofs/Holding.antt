-- The modules that are held for a root.
use Rattle.std.proofs.Common.{◌≡◌, inl, inr, ⊎_elim, ℕ, ◌+◌, ◌<◌, ◌≤◌, cond, Option, Some, None, List, [], ◌∷◌, ◌++◌, length, get_or, sym, ap, subst, ◌∙◌, arith}
use Rattle.std.proofs.Math.ListN.{set}
use Rattle.std.specs.List.{Contains, count_by}
use Rattle.std.specs.Option.{is_some}
use Rattle.std.proofs.lemmas.Bool.{cases_eq}
use Rattle.std.proofs.lemmas.List.{append-nil, append_assoc, length-append, get_or_append_left, get_or_default}
use Rattle.std.proofs.lemmas.List.Sums.{sum_by-set}
use Rattle.scope_hoist.specs.declared.marks.Marks.{Marks}
use Rattle.scope_hoist.specs.Standing.{AreTogether, IsHeld, IsLedBy, IsFound, AreStanding, AreApart}
use Rattle.scope_hoist.specs.Steps.{Holds, HoldsMore, LeadsNone, HoldsAll}
use Rattle.scope_hoist.proofs.Standing.{asked_by, holds_it, leads_not, held_still, held_before, led_before, led_still, holds_standing}

pub same_so_far : (marks : Marks) → HoldsMore marks marks
same_so_far marks = record {
  fewer = λ member from by. by;
  found = λ member. (λ f. f, λ f. f);
  more = λ member is. is;
  list = ([], sym (append-nil marks.list.items));
  measure = omega arith;
}

-- one fewer is led
led_one_less : (witness : List (Option ℕ)) (member from : ℕ) → member < length witness → get_or witness member None ≡ Some from
    → count_by is_some (set witness member None) + 1 ≤ count_by is_some witness
led_one_less witness member from inside by =
    let moved = sum_by-set (λ (x : Option ℕ). cond (is_some x) 1 0) witness member None None inside in
    let one : ◌≡◌ {A = ℕ} (cond (is_some (get_or witness member None)) 1 0) 1 = ap (λ o. cond (is_some o) 1 0) by in
    omega (arith, moved, one)

module _ (first old new : Marks) (member from : ℕ) (holds : Holds old new member) (inside : member < length old.held.items) (within : member < length old.witness.items)
    (so_far : HoldsMore first old) (by : IsLedBy old member from) where
  pub one_more : HoldsMore first new
  one_more = record {
    fewer = λ other f now. so_far.fewer other f (led_before old new member holds inside within other f now);
    found = λ other. (
      λ found. ⊎_elim
          (λ e. subst (IsFound first) (sym e) ((so_far.found member).0 (inr (from, by))))
          (λ ne. (so_far.found other).0 (⊎_elim (λ is. inl (held_before old new member holds inside within other ne is)) (λ led. inr (led.0, led_before old new member holds inside within other led.0 led.1)) found))
          (cases_eq other member),
      λ found. ⊎_elim
          (λ e. inl (subst (IsHeld new) (sym e) (holds_it old new member holds inside within)))
          (λ ne. ⊎_elim (λ is. inl (held_still old new member holds inside within other is)) (λ led. inr (led.0, led_still old new member holds inside within other led.0 ne led.1)) ((so_far.found other).1 found))
          (cases_eq other member),
    );
    more = λ other is. held_still old new member holds inside within other (so_far.more other is);
    list = (so_far.list.0 ++ member ∷ [], holds.list ∙ ap (λ l. l ++ member ∷ []) so_far.list.1 ∙ append_assoc first.list.items so_far.list.0 (member ∷ []));
    measure =
        let less = led_one_less old.witness.items member from within by in
        let count = ap (λ l. count_by is_some l) holds.witness in
        let long = ap length holds.list in
        let longer = length-append old.list.items (member ∷ []) in
        let before = so_far.measure in
        omega arith;
  }

-- no target was left
pub none_left : (asks homes : List (List ℕ)) (marks : Marks) (from : ℕ) (targets : List ℕ) → AreStanding asks homes marks → targets ≡ get_or asks from []
    → ((k : ℕ) → k < length targets → IsLedBy marks (get_or targets k 0) from → ¬ AreTogether homes from (get_or targets k 0)) → LeadsNone homes marks from
none_left asks homes marks from targets standing is none member by together =
    let at = subst (λ l. Contains l member) (sym is) (asked_by asks homes marks member from (standing.led member from by) by) in
    let same = get_or_default targets at.0 0 member at.1 ∙ at.2 in
    none at.0 at.1 (subst (λ m. IsLedBy marks m from) (sym same) by) (subst (AreTogether homes from) (sym same) together)

-- ---- all that is held for a root

-- the root is held
pub root_held : (old new : Marks) (root : ℕ) → Holds old new root → root < length old.held.items → root < length old.witness.items → HoldsAll old new root
root_held old new root holds inside within = record {
  itself = holds_it old new root holds inside within;
  found = λ other found. ⊎_elim
      (λ e. inl (subst (IsHeld new) (sym e) (holds_it old new root holds inside within)))
      (λ ne. ⊎_elim (λ is. inl (held_still old new root holds inside within other is)) (λ led. inr (led.0, led_still old new root holds inside within other led.0 ne led.1)) found)
      (cases_eq other root);
  before = λ other found. ⊎_elim (λ e. inl e)
      (λ ne. inr (⊎_elim (λ is. inl (held_before old new root holds inside within other ne is)) (λ led. inr (led.0, led_before old new root holds inside within other led.0 led.1)) found))
      (cases_eq other root);
}

pub record AreGoneThrough (homes : List (List ℕ)) (marks : Marks) (place : ℕ) : Type 0 where
  pub within : place ≤ length marks.list.items
  pub none : (k : ℕ) → k < place → LeadsNone homes marks (get_or marks.list.items k 0)

pub more_held : (first old new : Marks) (root : ℕ) → HoldsAll first old root → HoldsMore old new → HoldsAll first new root
more_held first old new root all more = record {
  itself = more.more root all.itself;
  found = λ other found. (more.found other).1 (all.found other found);
  before = λ other found. all.before other ((more.found other).0 found);
}

pub gone_through_more : (homes : List (List ℕ)) (old new : Marks) (place : ℕ) → AreGoneThrough homes old place → place < length old.list.items → HoldsMore old new
    → LeadsNone homes new (get_or old.list.items place 0) → AreGoneThrough homes new (place + 1)
gone_through_more homes old new place so_far inside more here = record {
  within = let long = ap length more.list.1 in let longer = length-append old.list.items more.list.0 in omega arith;
  none = λ k h member by together. ⊎_elim
      (λ e. here member (subst (IsLedBy new member) (same k (omega arith) ∙ ap (λ p. get_or old.list.items p 0) e) by)
      (subst (λ f. AreTogether homes f member) (same k (omega arith) ∙ ap (λ p. get_or old.list.items p 0) e) together))
      (λ ne. so_far.none k (omega arith) member (more.fewer member (get_or old.list.items k 0) (subst (IsLedBy new member) (same k (omega arith)) by))
      (subst (λ f. AreTogether homes f member) (same k (omega arith)) together))
      (cases_eq k place);
}
  where
    same : (k : ℕ) → k < length old.list.items → get_or new.list.items k 0 ≡ get_or old.list.items k 0
    same k h = ap (λ l. get_or l k 0) more.list.1 ∙ get_or_append_left old.list.items more.list.0 0 k h

pub all_apart : (asks homes : List (List ℕ)) (marks : Marks) (place : ℕ) → AreStanding asks homes marks → AreGoneThrough homes marks place
    → length marks.list.items ≤ place → AreApart homes marks
all_apart asks homes marks place standing through done member from by is together =
    let at = standing.listed from is in
    let same = get_or_default marks.list.items at.0 0 from at.1 ∙ at.2 in
    through.none at.0 (omega (arith, at.1)) member (subst (IsLedBy marks member) (sym same) by) (subst (λ f. AreTogether homes f member) (sym same) together)

-- ---- the targets of one module, so far

pub record IsTakingBack (asks homes : List (List ℕ)) (first : Marks) (from : ℕ) (targets : List ℕ) (place : ℕ) (marks : Marks) : Type 0 where
  pub standing : AreStanding asks homes marks
  pub more : HoldsMore first marks
  pub none : (k : ℕ) → k < place → IsLedBy marks (get_or targets k 0) from → ¬ AreTogether homes from (get_or targets k 0)

module _ (asks homes : List (List ℕ)) (first : Marks) (from : ℕ) (targets : List ℕ) (place : ℕ) (old : Marks) (so_far : IsTakingBack asks homes first from targets place old) where
  pub passes_target : (IsLedBy old (get_or targets place 0) from → ¬ AreTogether homes from (get_or targets place 0)) → (new : Marks) → new ≡ old
      → IsTakingBack asks homes first from targets (place + 1) new
  passes_target apart new same = subst (IsTakingBack asks homes first from targets (place + 1)) (sym same) (record {
    standing = so_far.standing;
    more = so_far.more;
    none = λ k h. ⊎_elim (λ e. subst (λ p. IsLedBy old (get_or targets p 0) from → ¬ AreTogether homes from (get_or targets p 0)) (sym e) apart)
        (λ ne. so_far.none k (omega arith)) (cases_eq k place);
  })

  pub holds_target : IsLedBy old (get_or targets place 0) from → (new : Marks) → Holds old new (get_or targets place 0) → get_or targets place 0 < length asks
      → IsTakingBack asks homes first from targets (place + 1) new
  holds_target by new holds low =
      let target = get_or targets place 0 in
      let inside : get_or targets place 0 < length old.held.items = let each = so_far.standing.each_held in omega (arith, low) in
      let within : get_or targets place 0 < length old.witness.items = let each = so_far.standing.each_witness in omega (arith, low) in
      record {
        standing = holds_standing old new (get_or targets place 0) holds inside within asks homes so_far.standing;
        more = one_more first old new (get_or targets place 0) from holds inside within so_far.more by;
        none = λ k h. ⊎_elim
            (λ e now together. leads_not old new (get_or targets place 0) holds inside within from (subst (λ p. IsLedBy new (get_or targets p 0) from) e now))
            (λ ne now together. so_far.none k (omega arith) (led_before old new (get_or targets place 0) holds inside within (get_or targets k 0) from now) together)
            (cases_eq k place);
      }
