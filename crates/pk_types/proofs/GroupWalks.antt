-- Each chunk group of a graph ends a walk, so that availability by all walks speaks of at least one.
use Rattle.std.proofs.Common.{◌≡◌, ◌↔◌, ℕ, ◌+◌, ◌-◌, ◌<◌, ◌≤◌, ◌⊎◌, inl, inr, true, List, [], ◌∷◌, ◌++◌, length, get_or, Any, Contains, Option, Some, None, slice_get, refl, sym, ap, subst, ◌∙◌, length-append, arith}
use Rattle.std.proofs.lemmas.Option.{none-some, same_Some, slice_get_within, slice_get-get_or}
use Rattle.std.proofs.lemmas.List.Elements.{Contains-get_or}
use Rattle.pk_types.specs.declared.graph.Graph.{Graph}
use Rattle.pk_types.specs.declared.plan.Active.{Active}
use Rattle.pk_types.specs.declared.plan.Groups.{Groups}
use Rattle.pk_types.specs.Requests.{CallsRequire, CallsImport}
use Rattle.pk_types.specs.ActiveEdges.{IsLedTo}
use Rattle.pk_types.specs.ChunkGroups.{IsInClosure, IsGroups}
use Rattle.pk_types.specs.Availability.{Holds, Leads, IsWalkFrom, IsWalk, IsPlaced, GroupsFit, HasModulesBelow}
use Rattle.pk_types.specs.Places.{ArePlacesIn, IsShort}
use Rattle.pk_types.proofs.Availabilities.{walk_begins, walk_goes_on}
use Rattle.pk_types.proofs.ListMembers.{in_or_not}
use Rattle.pk_types.proofs.Members.{Any-none, Any-push_cases, element_at, as_long, Contains-at, at-Contains, at_left, at_right, at_append, at_front}

holds_or_not : (groups : Groups) (number group : ℕ) → Holds groups number group ⊎ (¬ Holds groups number group)
holds_or_not groups number group = at_option (slice_get groups.closures group)
  where
    at_option : (found : Option (List ℕ)) → ((modules : List ℕ) × (found ≡ Some modules) × Contains modules number)
        ⊎ (¬ ((modules : List ℕ) × (found ≡ Some modules) × Contains modules number))
    at_option None = inr (λ h. none-some h.0 h.1)
    at_option (Some modules) = elim (in_or_not modules number) [
      | inl m ↦ inl (modules, refl, m)
      | inr n ↦ inr (λ h. n (subst (λ l. Contains l number) (sym (same_Some modules h.0 h.1)) h.2))
    ]

module _ (groups : Groups) (number first : ℕ) (entry : first < groups.entries) where
  -- on a walk some group before the last one brings the module, or none has it
  before_last : (before : List ℕ) (group : ℕ) → IsWalkFrom groups first before group → ((g : ℕ) × IsPlaced groups g number) ⊎ (¬ Any (Holds groups number) before)
  before_last _ _ IsWalkFrom.begins = inr (λ m. Any-none (Holds groups number) m)
  before_last _ _ (IsWalkFrom.goes_on before group next walk l) = at_last (before_last before group walk) (holds_or_not groups number group)
    where
      at_last : ((g : ℕ) × IsPlaced groups g number) ⊎ (¬ Any (Holds groups number) before) → Holds groups number group ⊎ (¬ Holds groups number group)
          → ((g : ℕ) × IsPlaced groups g number) ⊎ (¬ Any (Holds groups number) (before ++ group ∷ []))
      at_last (inl placed) either = inl placed
      at_last (inr none) (inl holds) = inl (group, (holds, λ available. none (available before (first, entry, walk))))
      at_last (inr none) (inr lacks) = inr (λ m. elim (Any-push_cases (Holds groups number) before group m) [ inl c ↦ none c | inr h ↦ lacks h ])

  placed_from : (before : List ℕ) (group : ℕ) → IsWalkFrom groups first before group → Holds groups number group → (g : ℕ) × IsPlaced groups g number
  placed_from before group walk holds = elim (before_last before group walk) [
    | inl placed ↦ placed
    | inr none ↦ (group, (holds, λ available. none (available before (first, entry, walk))))
  ]

-- where a walk ends at a group that has the module, a group brings it
placed_on_walk : (groups : Groups) (number group : ℕ) (before : List ℕ) → IsWalk groups before group → Holds groups number group
    → (g : ℕ) × IsPlaced groups g number
placed_on_walk groups number group before walk holds = placed_from groups number walk.0 walk.1 before group walk.2 holds

module _ (graph : Graph) (active : Active) (groups : Groups) (right : IsGroups graph active groups) where
  -- each group has its closure
  closure_at : (group target : ℕ) → slice_get groups.targets group ≡ Some target → (modules : List ℕ) × (slice_get groups.closures group ≡ Some modules)
  closure_at group target e = as_long groups.targets groups.closures group target e right.each_closure

  target_at : (group : ℕ) (modules : List ℕ) → slice_get groups.closures group ≡ Some modules → (target : ℕ) × (slice_get groups.targets group ≡ Some target)
  target_at group modules e = as_long groups.closures groups.targets group modules e (sym right.each_closure)

  pub holds_itself : (group target : ℕ) → slice_get groups.targets group ≡ Some target → Holds groups target group
  holds_itself group target e =
      let c = closure_at group target e in
      (c.0, c.1, ((right.closures group target c.0 e c.1).each target).1 IsInClosure.itself)

  pub holds_along : (group number next : ℕ) (targets : List ℕ) → Holds groups number group → slice_get active.edges number ≡ Some targets → Contains targets next
      → Holds groups next group
  holds_along group number next targets h e m =
      let t = target_at group h.0 h.1 in
      let r = right.closures group t.0 h.0 t.1 h.1 in
      (h.0, h.1, (r.each next).1 (IsInClosure.along number next targets ((r.each number).0 h.2) e m))

  pub holds_required : (group number next : ℕ) → Holds groups number group → CallsRequire graph number next → Holds groups next group
  holds_required group number next h calls =
      let t = target_at group h.0 h.1 in
      let r = right.closures group t.0 h.0 t.1 h.1 in
      (h.0, h.1, (r.each next).1 (IsInClosure.required number next ((r.each number).0 h.2) calls))

  -- the group of a module that an `import()` of the group's modules leads to
  pub leads_by_import : (group number target : ℕ) → Holds groups number group → CallsImport graph number target → slice_get active.reached number ≡ Some true
      → (next : ℕ) × (slice_get groups.targets next ≡ Some target) × Leads groups group next
  leads_by_import group number target h calls reached =
      let m : Contains right.targets.imported target = (right.targets.others.each target).1 (number, reached, calls) in
      let next : ℕ = m.0 + length graph.entries in
      let e : slice_get groups.targets next ≡ Some target =
      subst (λ l. slice_get l next ≡ Some target) (sym right.targets.targets)
      (at_right graph.entries right.targets.imported m.0 target (at-Contains right.targets.imported target m)) in
      let l = as_long groups.closures groups.leads group h.0 h.1 (right.each_lead ∙ sym right.each_closure) in
      (next, e, (l.0, l.1, ((right.leads group h.0 l.0 h.1 l.1).each next).1 (target, omega (arith, right.targets.entries), e, (number, h.2, calls))))

  module _ (led : (number : ℕ) → (slice_get active.reached number ≡ Some true) ↔ IsLedTo graph active.edges number) where
    -- a walk ends at a group that has the module
    Met : ℕ → Type 0
    Met number = (group : ℕ) × (before : List ℕ) × IsWalk groups before group × Holds groups number group

    pub reached_is_met : (number : ℕ) → IsLedTo graph active.edges number → (group : ℕ) × (before : List ℕ) × IsWalk groups before group × Holds groups number group
    reached_is_met _ (IsLedTo.entry number m) =
        let e : slice_get groups.targets m.0 ≡ Some number =
        subst (λ l. slice_get l m.0 ≡ Some number) (sym right.targets.targets)
        (at_left graph.entries right.targets.imported m.0 number (at-Contains graph.entries number m)) in
        (m.0, [], walk_begins groups m.0 (omega (arith, m.1, right.targets.entries)), holds_itself m.0 number e)
    reached_is_met _ (IsLedTo.along number next targets l e m) =
        let met = reached_is_met number l in
        (met.0, met.1, met.2, holds_along met.0 number next targets met.3 e m)
    reached_is_met _ (IsLedTo.required number next l calls) =
        let met = reached_is_met number l in
        (met.0, met.1, met.2, holds_required met.0 number next met.3 calls)
    reached_is_met _ (IsLedTo.imported number next l calls) =
        let met = reached_is_met number l in
        let g = leads_by_import met.0 number next met.3 calls ((led number).1 l) in
        (g.0, met.1 ++ met.0 ∷ [], walk_goes_on groups met.1 met.0 g.0 met.2 g.2, holds_itself g.0 next g.1)

    by_import : (group target : ℕ) → slice_get groups.targets group ≡ Some target → groups.entries ≤ group → (before : List ℕ) × IsWalk groups before group
    by_import group target e h =
        let f : slice_get right.targets.imported (group - length graph.entries) ≡ Some target =
        at_append graph.entries right.targets.imported group target (subst (λ l. slice_get l group ≡ Some target) right.targets.targets e)
        (omega (arith, h, right.targets.entries)) in
        let i = (right.targets.others.each target).0 (Contains-at right.targets.imported (group - length graph.entries) target f) in
        let met = reached_is_met i.0 ((led i.0).0 i.1) in
        let c = as_long groups.closures groups.leads met.0 met.3.0 met.3.1 (right.each_lead ∙ sym right.each_closure) in (
          met.1 ++ met.0 ∷ [],
          walk_goes_on groups met.1 met.0 group met.2
              (c.0, c.1, ((right.leads met.0 met.3.0 c.0 met.3.1 c.1).each group).1 (target, h, e, (i.0, met.3.2, i.2))),
        )

    kinds : (n k : ℕ) → (k < n) ⊎ (n ≤ k)
    kinds n k = grind arith

    at_kind : (group target : ℕ) → slice_get groups.targets group ≡ Some target → (group < groups.entries) ⊎ (groups.entries ≤ group) → (before : List ℕ) × IsWalk groups before group
    at_kind group target e (inl h) = ([], walk_begins groups group h)
    at_kind group target e (inr h) = by_import group target e h

    pub each_ends_a_walk : (group : ℕ) → group < length groups.targets → (before : List ℕ) × IsWalk groups before group
    each_ends_a_walk group h =
        let t = element_at groups.targets group h in
        at_kind group t.0 t.1 (kinds groups.entries group)

    target_is_led : (group target : ℕ) → slice_get groups.targets group ≡ Some target → (group < groups.entries) ⊎ (groups.entries ≤ group)
        → IsLedTo graph active.edges target
    target_is_led group target e (inl h) =
        let f = at_front graph.entries right.targets.imported group target (subst (λ l. slice_get l group ≡ Some target) right.targets.targets e)
        (omega (arith, h, right.targets.entries)) in
        IsLedTo.entry target (Contains-at graph.entries group target f)
    target_is_led group target e (inr h) =
        let f = at_append graph.entries right.targets.imported group target (subst (λ l. slice_get l group ≡ Some target) right.targets.targets e)
        (omega (arith, h, right.targets.entries)) in
        let i = (right.targets.others.each target).0 (Contains-at right.targets.imported (group - length graph.entries) target f) in
        IsLedTo.imported i.0 target ((led i.0).0 i.1) i.2

    closure_is_led : (from number : ℕ) → IsInClosure graph active.edges from number → IsLedTo graph active.edges from → IsLedTo graph active.edges number
    closure_is_led from _ IsInClosure.itself l = l
    closure_is_led from _ (IsInClosure.along number target targets i e m) l =
        IsLedTo.along number target targets (closure_is_led from number i l) e m
    closure_is_led from _ (IsInClosure.required number target i calls) l = IsLedTo.required number target (closure_is_led from number i l) calls

    -- the modules of a group are reached
    pub held_is_reached : (group number : ℕ) → Holds groups number group → slice_get active.reached number ≡ Some true
    held_is_reached group number h =
        let t = target_at group h.0 h.1 in
        let i = ((right.closures group t.0 h.0 t.1 h.1).each number).0 h.2 in
        (led number).1 (closure_is_led t.0 number i (target_is_led group t.0 t.1 (kinds groups.entries group)))

    -- so their numbers are those of modules
    pub modules_below : (count : ℕ) → length active.reached ≡ count → HasModulesBelow groups count
    modules_below count q group d l place e h =
        let modules = get_or groups.closures group d in
        let held : Holds groups (get_or modules place e) group = (modules, slice_get-get_or groups.closures group d l, Contains-get_or modules place e h) in
        omega (arith, q, slice_get_within active.reached (get_or modules place e) true (held_is_reached group (get_or modules place e) held))

    -- each reached module is brought by a group: the first one with it on a walk
    pub reached_is_placed : (number : ℕ) → slice_get active.reached number ≡ Some true → (group : ℕ) × IsPlaced groups group number
    reached_is_placed number e = let met = reached_is_met number ((led number).0 e) in placed_on_walk groups number met.0 met.1 met.2 met.3

  -- the groups of a graph that are few stand by themselves
  pub groups_fit : IsShort groups.targets → GroupsFit groups
  groups_fit few = record {
    each_closure = right.each_closure;
    each_lead = right.each_lead;
    few = few;
    entries = omega (arith, right.targets.entries, ap length right.targets.targets, length-append graph.entries right.targets.imported);
    leads = λ group d h. leads_within group (get_or groups.leads group d) (slice_get-get_or groups.leads group d h);
  }
    where
      leads_within : (group : ℕ) (next : List ℕ) → slice_get groups.leads group ≡ Some next → ArePlacesIn groups.targets next
      leads_within group next e place d l =
          let c = as_long groups.leads groups.closures group next e (right.each_closure ∙ sym right.each_lead) in
          let t = ((right.leads group c.0 next c.1 e).each (get_or next place d)).0 (Contains-get_or next place d l) in
          slice_get_within groups.targets (get_or next place d) t.0 t.2
