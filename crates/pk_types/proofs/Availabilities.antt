-- What follows from the definition of availability alone.
use Rattle.std.proofs.Common.{◌≡◌, ◌↔◌, ℕ, ◌<◌, ◌≤◌, ◌⊎◌, inl, inr, Bool, true, false, List, [], ◌∷◌, ◌++◌, Any, Contains, ⊎_elim, true≢false, Some, slice_get, refl, sym, subst, arith}
use Rattle.pk_types.specs.declared.plan.Groups.{Groups}
use Rattle.pk_types.specs.Availability.{Holds, Leads, IsWalkFrom, IsWalk, IsAvailable, IsPlaced}
use Rattle.pk_types.proofs.Members.{Any-left, Any-last, Any-push_cases, Any-none}

pub walk_begins : (groups : Groups) (group : ℕ) → group < groups.entries → IsWalk groups [] group
walk_begins groups group h = (group, h, IsWalkFrom.begins)

pub walk_goes_on : (groups : Groups) (before : List ℕ) (group next : ℕ) → IsWalk groups before group → Leads groups group next
    → IsWalk groups (before ++ group ∷ []) next
walk_goes_on groups before group next walk leads = (walk.0, walk.1, IsWalkFrom.goes_on before group next walk.2 leads)

-- the walk of one group shows it
pub none_at_entry : (groups : Groups) (group number : ℕ) → group < groups.entries → ¬ IsAvailable groups group number
none_at_entry groups group number h available = Any-none (Holds groups number) (available [] (walk_begins groups group h))

pub entry_places : (groups : Groups) (group number : ℕ) → group < groups.entries → Holds groups number group → IsPlaced groups group number
entry_places groups group number h holds = (holds, none_at_entry groups group number h)

from_among : (groups more : Groups) → ((group next : ℕ) → Leads groups group next → Leads more group next)
    → (first : ℕ) (before : List ℕ) (group : ℕ) → IsWalkFrom groups first before group → IsWalkFrom more first before group
from_among groups more leads first _ _ IsWalkFrom.begins = IsWalkFrom.begins
from_among groups more leads first _ _ (IsWalkFrom.goes_on before group next walk l) =
    IsWalkFrom.goes_on before group next (from_among groups more leads first before group walk) (leads group next l)

walk_among : (groups more : Groups) → groups.entries ≤ more.entries → ((group next : ℕ) → Leads groups group next → Leads more group next)
    → (before : List ℕ) (group : ℕ) → IsWalk groups before group → IsWalk more before group
walk_among groups more h leads before group walk = (walk.0, omega (arith, h, walk.1), from_among groups more leads walk.0 before group walk.2)

-- where more groups lead to one another, no further module is available
pub fewer_by_more : (groups more : Groups) → groups.entries ≤ more.entries → more.closures ≡ groups.closures
    → ((group next : ℕ) → Leads groups group next → Leads more group next)
    → (group number : ℕ) → IsAvailable more group number → IsAvailable groups group number
fewer_by_more groups more h same leads group number available before walk =
    subst (λ closures. Any (λ g. (modules : List ℕ) × (slice_get closures g ≡ Some modules) × Contains modules number) before) same
    (available before (walk_among groups more h leads before group walk))

-- where it can be told what is available, what a group places and what is available there make up its modules
pub parts_of_closure : (groups : Groups) (group number : ℕ) (told : Bool) → (told ≡ true) ↔ IsAvailable groups group number
    → Holds groups number group ↔ (IsPlaced groups group number ⊎ (Holds groups number group × IsAvailable groups group number))
parts_of_closure groups group number true tells = (λ holds. inr (holds, tells.0 refl), λ either. ⊎_elim (λ placed. placed.0) (λ there. there.0) either)
parts_of_closure groups group number false tells =
    (λ holds. inl (holds, λ available. absurd (true≢false (sym (tells.1 available)))), λ either. ⊎_elim (λ placed. placed.0) (λ there. there.0) either)

by_last : (groups : Groups) (number : ℕ) (before : List ℕ) (group : ℕ) → Holds groups number group ⊎ IsAvailable groups group number → IsWalk groups before group
    → Any (Holds groups number) (before ++ group ∷ [])
by_last groups number before group (inl holds) walk = Any-last (Holds groups number) before group holds
by_last groups number before group (inr available) walk = Any-left (Holds groups number) before (group ∷ []) (available before walk)

-- A module is available in a group that is none of an entry if each group that leads there has it, or has it available.
pub by_all_parents : (groups : Groups) (group number : ℕ) → groups.entries ≤ group
    → ((parent : ℕ) → Leads groups parent group → Holds groups number parent ⊎ IsAvailable groups parent number) → IsAvailable groups group number
by_all_parents groups group number h parents before walk = met walk.0 walk.1 before group walk.2 h parents
  where
    met : (first : ℕ) → first < groups.entries → (before : List ℕ) (group : ℕ) → IsWalkFrom groups first before group → groups.entries ≤ group
        → ((parent : ℕ) → Leads groups parent group → Holds groups number parent ⊎ IsAvailable groups parent number) → Any (Holds groups number) before
    met first l _ _ IsWalkFrom.begins h parents = absurd (omega (arith, h, l))
    met first l _ _ (IsWalkFrom.goes_on before parent group walk leads) h parents = by_last groups number before parent (parents parent leads) (first, l, walk)

not_at_last : (groups : Groups) (number : ℕ) (before : List ℕ) (group : ℕ) → ¬ Holds groups number group
    → Any (Holds groups number) before ⊎ Holds groups number group → Any (Holds groups number) before
not_at_last groups number before group lacks (inl found) = found
not_at_last groups number before group lacks (inr holds) = absurd (lacks holds)

-- And so it is only then: where a group leads there that hasn't the module, it is available in that group.
pub in_each_parent : (groups : Groups) (parent group number : ℕ) → Leads groups parent group → ¬ Holds groups number parent
    → IsAvailable groups group number → IsAvailable groups parent number
in_each_parent groups parent group number leads lacks available before walk =
    not_at_last groups number before parent lacks
    (Any-push_cases (Holds groups number) before parent (available (before ++ parent ∷ []) (walk_goes_on groups before parent group walk leads)))

-- What is said of groups is available where it is said of no group of an entry, and where each group that leads there has the module or it is
-- said of that group too. So availability is the greatest set with this property.
module _ (groups : Groups) (number : ℕ) (Said : ℕ → Type 0) (others : (group : ℕ) → Said group → groups.entries ≤ group)
    (parents : (parent group : ℕ) → Leads groups parent group → Said group → Holds groups number parent ⊎ Said parent) where
  said_met : (first : ℕ) → first < groups.entries → (before : List ℕ) (group : ℕ) → IsWalkFrom groups first before group → Said group
      → Any (Holds groups number) before
  said_met first l _ _ IsWalkFrom.begins said = absurd (omega (arith, others first said, l))
  said_met first l _ _ (IsWalkFrom.goes_on before parent group walk leads) said =
      elim (parents parent group leads said) [
        | inl holds ↦ Any-last (Holds groups number) before parent holds
        | inr there ↦ Any-left (Holds groups number) before (parent ∷ []) (said_met first l before parent walk there)
      ]

  pub greatest : (group : ℕ) → Said group → IsAvailable groups group number
  greatest group said before walk = said_met walk.0 walk.1 before group walk.2 said
