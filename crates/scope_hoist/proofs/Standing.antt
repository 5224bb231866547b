-- The marks when one module is held or let go.
use Rattle.std.proofs.Common.{◌≢◌, ◌⊎◌, ⊎_elim, ℕ, ◌<◌, ◌≤◌, true, false, None, List, [], ◌∷◌, length, get_or, sym, ap, subst, ◌∙◌, arith}
use Rattle.std.specs.List.{All, Contains}
use Rattle.std.proofs.lemmas.Bool.{cases_eq}
use Rattle.std.proofs.lemmas.Option.{none-some, same_Some}
use Rattle.std.proofs.lemmas.List.{length-set, get_or-set_same, get_or-set_other, get_or_past}
use Rattle.std.proofs.lemmas.List.Elements.{All-push, All-contains, Contains-append_left, Contains-append_right}
use Rattle.pk_types.proofs.ListMembers.{here}
use Rattle.scope_hoist.specs.declared.marks.Marks.{Marks}
use Rattle.scope_hoist.specs.Standing.{Asks, IsHeld, IsLedBy, IsLed, led, IsFound, AreStanding}
use Rattle.scope_hoist.specs.Steps.{Holds}

-- fewer modules are led
pub led_fewer : (asks homes : List (List ℕ)) (old new : Marks) → ((member from : ℕ) → IsLedBy new member from → IsLedBy old member from)
    → (member : ℕ) → IsLed asks homes old member → (from : ℕ) → IsLedBy new member from → IsLed asks homes new member
led_fewer asks homes old new fewer member (led _ from by asking rest) other now =
    led member from (subst (λ f. IsLedBy new member f) (same_Some other from (sym (fewer member other now) ∙ by)) now) asking
    (λ next leads together. led_fewer asks homes old new fewer from (rest next (fewer from next leads) together) next leads)

-- the first requester
pub asked_by : (asks homes : List (List ℕ)) (marks : Marks) (member from : ℕ) → IsLed asks homes marks member → IsLedBy marks member from → Asks asks from member
asked_by asks homes marks member from (led _ other by asking rest) now = subst (λ f. Asks asks f member) (same_Some other from (sym by ∙ now)) asking

module _ (old new : Marks) (member : ℕ) (holds : Holds old new member) (inside : member < length old.held.items) (within : member < length old.witness.items) where
  pub holds_it : IsHeld new member
  holds_it = ap (λ l. get_or l member false) holds.held ∙ get_or-set_same old.held.items member true false inside

  pub leads_not : (from : ℕ) → ¬ IsLedBy new member from
  leads_not from by = none-some from (sym (ap (λ l. get_or l member None) holds.witness ∙ get_or-set_same old.witness.items member None None within) ∙ by)

  pub held_still : (other : ℕ) → IsHeld old other → IsHeld new other
  held_still other is = ⊎_elim (λ e. subst (IsHeld new) (sym e) holds_it)
      (λ ne. ap (λ l. get_or l other false) holds.held ∙ get_or-set_other old.held.items member other true false ne ∙ is) (cases_eq other member)

  pub held_before : (other : ℕ) → other ≢ member → IsHeld new other → IsHeld old other
  held_before other ne is = sym (ap (λ l. get_or l other false) holds.held ∙ get_or-set_other old.held.items member other true false ne) ∙ is

  pub led_before : (other from : ℕ) → IsLedBy new other from → IsLedBy old other from
  led_before other from by = ⊎_elim (λ e. absurd (leads_not from (subst (λ m. IsLedBy new m from) e by)))
      (λ ne. sym (ap (λ l. get_or l other None) holds.witness ∙ get_or-set_other old.witness.items member other None None ne) ∙ by) (cases_eq other member)

  pub led_still : (other from : ℕ) → other ≢ member → IsLedBy old other from → IsLedBy new other from
  led_still other from ne by = ap (λ l. get_or l other None) holds.witness ∙ get_or-set_other old.witness.items member other None None ne ∙ by

  pub holds_standing : (asks homes : List (List ℕ)) → AreStanding asks homes old → AreStanding asks homes new
  holds_standing asks homes standing = record {
    each_held = ap length holds.held ∙ length-set old.held.items member true ∙ standing.each_held;
    each_witness = ap length holds.witness ∙ length-set old.witness.items member None ∙ standing.each_witness;
    led = λ other from by. led_fewer asks homes old new led_before other (standing.led other from (led_before other from by)) from by;
    not_both = λ other from by is. ⊎_elim (λ e. leads_not from (subst (λ m. IsLedBy new m from) e by))
        (λ ne. standing.not_both other from (led_before other from by) (held_before other ne is)) (cases_eq other member);
    listed = λ other is. subst (λ l. Contains l other) (sym holds.list) (⊎_elim
        (λ e. Contains-append_right old.list.items (member ∷ []) other (subst (Contains (member ∷ [])) (sym e) (here member [])))
        (λ ne. Contains-append_left old.list.items (member ∷ []) other (standing.listed other (held_before other ne is)))
        (cases_eq other member));
    within = subst (All (λ m. m < length asks)) (sym holds.list) (All-push (λ m. m < length asks) old.list.items member standing.within
        (let each = standing.each_held in omega (arith, inside)));
  }

-- what is known of a module that is found
pub found_within : (asks homes : List (List ℕ)) (marks : Marks) → AreStanding asks homes marks → (member : ℕ) → IsFound marks member → member < length asks
found_within asks homes marks standing member found = ⊎_elim
    (λ is. All-contains (λ m. m < length asks) marks.list.items member standing.within (standing.listed member is))
    (λ by. ⊎_elim (λ h. h) (λ past. absurd (none-some by.0 (sym (get_or_past marks.witness.items member None (let each = standing.each_witness in omega (arith, past))) ∙ by.1))) (low member))
    found
  where
    low : (m : ℕ) → (m < length asks) ⊎ (length asks ≤ m)
    low m = grind arith
