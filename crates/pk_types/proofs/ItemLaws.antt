-- Laws of the items of a root.
use Rattle.std.proofs.Common.{◌≡◌, ◌⊎◌, ℕ, List, [], ◌∷◌, ◌++◌, map, refl, sym, ap, subst, inl, inr, ⊎_elim, nat_eq}
use Rattle.std.specs.List.{Contains, IsDistinct}
use Rattle.std.proofs.lemmas.List.Elements.{Contains-append_left, Contains-append_right, Contains-append_cases}
use Rattle.pk_types.specs.declared.plan.Active.{Active}
use Rattle.pk_types.specs.declared.plan.Item.{Item}
use Rattle.pk_types.specs.declared.plan.Item.TheVariants.{Segment, Evaluate}
use Rattle.pk_types.specs.HoistSets.{edges_at}
use Rattle.pk_types.specs.HoistItems.{Visits, Follows, visit, ended, passed, entered, noted, AreItems, module_of}
use Rattle.pk_types.specs.HoistPaths.{IsReachedInside, root_itself, along}
use Rattle.pk_types.proofs.ListMembers.{here, there, one_of, none_in, unmapped, same_or_not, distinct_nil, distinct_cons, distinct_append, in_or_not}

-- the root's own segment is the last item
pub root_last : (active : Active) (members before after : List ℕ) (root : ℕ) (items : List Item) → Visits active members before root items after
    → (first : List Item) × (items ≡ first ++ Segment root ∷ [])
root_last active members before after root items (visit _ _ _ first follows) = (first, refl)

mutual
  -- what was come to before was come to after
  visit_keeps : (active : Active) (members before after : List ℕ) (member : ℕ) (items : List Item) → Visits active members before member items after
      → (number : ℕ) → Contains before number → Contains after number
  visit_keeps active members before after member items (visit _ _ _ first follows) number c =
      follow_keeps active members (before ++ member ∷ []) after (edges_at active member) first follows number (Contains-append_left before (member ∷ []) number c)

  follow_keeps : (active : Active) (members before after targets : List ℕ) (items : List Item) → Follows active members before targets items after
      → (number : ℕ) → Contains before number → Contains after number
  follow_keeps active members before after targets items (ended _) number c = c
  follow_keeps active members before after targets items (passed _ _ target rest others known follows) number c =
      follow_keeps active members before after rest others follows number c
  follow_keeps active members before after targets items (entered _ between _ target rest some others new inside visits follows) number c =
      follow_keeps active members between after rest others follows number (visit_keeps active members before between target some visits number c)
  follow_keeps active members before after targets items (noted _ _ target rest others new outside follows) number c =
      follow_keeps active members (before ++ target ∷ []) after rest others follows number (Contains-append_left before (target ∷ []) number c)

abbrev names : Item → List Item → Type 0
names item items = Contains items item

abbrev modules_in : List Item → List ℕ
modules_in items = map module_of items

modules-append : (items others : List Item) → modules_in (items ++ others) ≡ modules_in items ++ modules_in others
modules-append [] others = refl
modules-append (item ∷ items) others = ap (λ rest. module_of item ∷ rest) (modules-append items others)

-- the parts of a list of modules, split where two lists of items meet
split_modules : (items others : List Item) (number : ℕ) → Contains (modules_in (items ++ others)) number → Contains (modules_in items) number ⊎ Contains (modules_in others) number
split_modules items others number c = Contains-append_cases (modules_in items) (modules_in others) number (subst (λ list. Contains list number) (modules-append items others) c)

mutual
  -- what was noted is new
  visit_new : (active : Active) (members before after : List ℕ) (member : ℕ) (items : List Item) → Visits active members before member items after
      → ¬ Contains before member → (number : ℕ) → Contains (modules_in items) number → ¬ Contains before number
  visit_new active members before after member items (visit _ _ _ first follows) new number c known = ⊎_elim
      (λ l. follow_new active members (before ++ member ∷ []) after (edges_at active member) first follows number l (Contains-append_left before (member ∷ []) number known))
      (λ r. ⊎_elim (λ same. new (subst (Contains before) (sym same) known)) (λ none. none_in number none) (one_of member [] number r))
      (split_modules first (Segment member ∷ []) number c)

  follow_new : (active : Active) (members before after targets : List ℕ) (items : List Item) → Follows active members before targets items after
      → (number : ℕ) → Contains (modules_in items) number → ¬ Contains before number
  follow_new active members before after targets items (ended _) number c known = none_in number c
  follow_new active members before after targets items (passed _ _ target rest others old follows) number c known =
      follow_new active members before after rest others follows number c known
  follow_new active members before after targets items (entered _ between _ target rest some others new inside visits follows) number c known = ⊎_elim
      (λ l. visit_new active members before between target some visits new number l known)
      (λ r. follow_new active members between after rest others follows number r (visit_keeps active members before between target some visits number known))
      (split_modules some others number c)
  follow_new active members before after targets items (noted _ _ target rest others new outside follows) number c known = ⊎_elim
      (λ same. new (subst (Contains before) (sym same) known))
      (λ d. follow_new active members (before ++ target ∷ []) after rest others follows number d (Contains-append_left before (target ∷ []) number known))
      (one_of target (modules_in others) number c)

mutual
  -- what was noted was come to
  visit_came : (active : Active) (members before after : List ℕ) (member : ℕ) (items : List Item) → Visits active members before member items after
      → (number : ℕ) → Contains (modules_in items) number → Contains after number
  visit_came active members before after member items (visit _ _ _ first follows) number c = ⊎_elim
      (λ l. follow_came active members (before ++ member ∷ []) after (edges_at active member) first follows number l)
      (λ r. follow_keeps active members (before ++ member ∷ []) after (edges_at active member) first follows number (Contains-append_right before (member ∷ []) number r))
      (split_modules first (Segment member ∷ []) number c)

  follow_came : (active : Active) (members before after targets : List ℕ) (items : List Item) → Follows active members before targets items after
      → (number : ℕ) → Contains (modules_in items) number → Contains after number
  follow_came active members before after targets items (ended _) number c = absurd (none_in number c)
  follow_came active members before after targets items (passed _ _ target rest others old follows) number c =
      follow_came active members before after rest others follows number c
  follow_came active members before after targets items (entered _ between _ target rest some others new inside visits follows) number c = ⊎_elim
      (λ l. follow_keeps active members between after rest others follows number (visit_came active members before between target some visits number l))
      (λ r. follow_came active members between after rest others follows number r)
      (split_modules some others number c)
  follow_came active members before after targets items (noted _ _ target rest others new outside follows) number c = ⊎_elim
      (λ same. follow_keeps active members (before ++ target ∷ []) after rest others follows number (Contains-append_right before (target ∷ []) number (subst (λ z. Contains (z ∷ []) number) (sym same) (here number []))))
      (λ d. follow_came active members (before ++ target ∷ []) after rest others follows number d)
      (one_of target (modules_in others) number c)

mutual
  -- no module is noted twice
  visit_once : (active : Active) (members before after : List ℕ) (member : ℕ) (items : List Item) → Visits active members before member items after
      → IsDistinct nat_eq (modules_in items)
  visit_once active members before after member items (visit _ _ _ first follows) = subst (IsDistinct nat_eq) (sym (modules-append first (Segment member ∷ [])))
      (distinct_append (modules_in first) (member ∷ []) (follow_once active members (before ++ member ∷ []) after (edges_at active member) first follows) (distinct_cons member [] (none_in member) distinct_nil)
      (λ number c d. follow_new active members (before ++ member ∷ []) after (edges_at active member) first follows number c (Contains-append_right before (member ∷ []) number d)))

  follow_once : (active : Active) (members before after targets : List ℕ) (items : List Item) → Follows active members before targets items after
      → IsDistinct nat_eq (modules_in items)
  follow_once active members before after targets items (ended _) = distinct_nil
  follow_once active members before after targets items (passed _ _ target rest others old follows) = follow_once active members before after rest others follows
  follow_once active members before after targets items (entered _ between _ target rest some others new inside visits follows) =
      subst (IsDistinct nat_eq) (sym (modules-append some others)) (distinct_append (modules_in some) (modules_in others) (visit_once active members before between target some visits)
      (follow_once active members between after rest others follows)
      (λ number c d. follow_new active members between after rest others follows number d (visit_came active members before between target some visits number c)))
  follow_once active members before after targets items (noted _ _ target rest others new outside follows) = distinct_cons target (modules_in others)
      (λ c. follow_new active members (before ++ target ∷ []) after rest others follows target c (Contains-append_right before (target ∷ []) target (here target [])))
      (follow_once active members (before ++ target ∷ []) after rest others follows)

abbrev FitsSet : List ℕ → Item → Type 0
FitsSet members (Segment member) = Contains members member
FitsSet members (Evaluate target) = ¬ Contains members target

mutual
  -- a member runs, and any other module is evaluated
  visit_kinds : (active : Active) (members before after : List ℕ) (member : ℕ) (items : List Item) → Visits active members before member items after
      → Contains members member → (item : Item) → Contains items item → FitsSet members item
  visit_kinds active members before after member items (visit _ _ _ first follows) inside item c = ⊎_elim
      (λ l. follow_kinds active members (before ++ member ∷ []) after (edges_at active member) first follows item l)
      (λ r. ⊎_elim (λ same. subst (FitsSet members) same inside) (λ none. absurd (none_in item none)) (one_of (Segment member) [] item r))
      (Contains-append_cases first (Segment member ∷ []) item c)

  follow_kinds : (active : Active) (members before after targets : List ℕ) (items : List Item) → Follows active members before targets items after
      → (item : Item) → Contains items item → FitsSet members item
  follow_kinds active members before after targets items (ended _) item c = absurd (none_in item c)
  follow_kinds active members before after targets items (passed _ _ target rest others old follows) item c =
      follow_kinds active members before after rest others follows item c
  follow_kinds active members before after targets items (entered _ between _ target rest some others new inside visits follows) item c = ⊎_elim
      (λ l. visit_kinds active members before between target some visits inside item l)
      (λ r. follow_kinds active members between after rest others follows item r)
      (Contains-append_cases some others item c)
  follow_kinds active members before after targets items (noted _ _ target rest others new outside follows) item c = ⊎_elim
      (λ same. subst (FitsSet members) same outside)
      (λ d. follow_kinds active members (before ++ target ∷ []) after rest others follows item d)
      (one_of (Evaluate target) others item c)

visit_itself : (active : Active) (members before after : List ℕ) (member : ℕ) (items : List Item) → Visits active members before member items after → Contains after member
visit_itself active members before after member items (visit _ _ _ first follows) =
    follow_keeps active members (before ++ member ∷ []) after (edges_at active member) first follows member (Contains-append_right before (member ∷ []) member (here member []))

-- each edge of a list was come to
follow_all : (active : Active) (members before after targets : List ℕ) (items : List Item) → Follows active members before targets items after
    → (target : ℕ) → Contains targets target → Contains after target
follow_all active members before after targets items (ended _) number c = absurd (none_in number c)
follow_all active members before after targets items (passed _ _ target rest others old follows) number c = ⊎_elim
    (λ same. follow_keeps active members before after rest others follows number (subst (Contains before) same old))
    (λ d. follow_all active members before after rest others follows number d)
    (one_of target rest number c)
follow_all active members before after targets items (entered _ between _ target rest some others new inside visits follows) number c = ⊎_elim
    (λ same. follow_keeps active members between after rest others follows number (subst (Contains between) same (visit_itself active members before between target some visits)))
    (λ d. follow_all active members between after rest others follows number d)
    (one_of target rest number c)
follow_all active members before after targets items (noted _ _ target rest others new outside follows) number c = ⊎_elim
    (λ same. follow_keeps active members (before ++ target ∷ []) after rest others follows number (Contains-append_right before (target ∷ []) number (subst (λ z. Contains (z ∷ []) number) (sym same) (here number []))))
    (λ d. follow_all active members (before ++ target ∷ []) after rest others follows number d)
    (one_of target rest number c)

mutual
  -- for each new member all its edges were come to
  visit_closed : (active : Active) (members before after : List ℕ) (member : ℕ) (items : List Item) → Visits active members before member items after
      → (number : ℕ) → Contains members number → Contains after number → ¬ Contains before number → (target : ℕ) → Contains (edges_at active number) target → Contains after target
  visit_closed active members before after member items (visit _ _ _ first follows) number inside came new target edge = ⊎_elim
      (λ same. follow_all active members (before ++ member ∷ []) after (edges_at active member) first follows target (subst (λ z. Contains (edges_at active z) target) same edge))
      (λ apart. follow_closed active members (before ++ member ∷ []) after (edges_at active member) first follows number inside came
      (λ known. ⊎_elim new (λ r. ⊎_elim (λ same. apart (sym same)) (none_in number) (one_of member [] number r)) (Contains-append_cases before (member ∷ []) number known)) target edge)
      (same_or_not number member)

  follow_closed : (active : Active) (members before after targets : List ℕ) (items : List Item) → Follows active members before targets items after
      → (number : ℕ) → Contains members number → Contains after number → ¬ Contains before number → (target : ℕ) → Contains (edges_at active number) target → Contains after target
  follow_closed active members before after targets items (ended _) number inside came new goal edge = absurd (new came)
  follow_closed active members before after targets items (passed _ _ target rest others old follows) number inside came new goal edge =
      follow_closed active members before after rest others follows number inside came new goal edge
  follow_closed active members before after targets items (entered _ between _ target rest some others fresh within visits follows) number inside came new goal edge = ⊎_elim
      (λ known. follow_keeps active members between after rest others follows goal (visit_closed active members before between target some visits number inside known new goal edge))
      (λ unknown. follow_closed active members between after rest others follows number inside came unknown goal edge)
      (in_or_not between number)
  follow_closed active members before after targets items (noted _ _ target rest others fresh outside follows) number inside came new goal edge =
      follow_closed active members (before ++ target ∷ []) after rest others follows number inside came
      (λ known. ⊎_elim new (λ r. ⊎_elim (λ same. outside (subst (Contains members) (sym same) inside)) (none_in number) (one_of target [] number r)) (Contains-append_cases before (target ∷ []) number known)) goal edge

mutual
  -- what was come to after was come to before, or was noted
  visit_noted : (active : Active) (members before after : List ℕ) (member : ℕ) (items : List Item) → Visits active members before member items after
      → (number : ℕ) → Contains after number → Contains before number ⊎ Contains (modules_in items) number
  visit_noted active members before after member items (visit _ _ _ first follows) number came = ⊎_elim
      (λ known. ⊎_elim inl (λ last. inr (subst (λ list. Contains list number) (sym (modules-append first (Segment member ∷ []))) (Contains-append_right (modules_in first) (member ∷ []) number last)))
      (Contains-append_cases before (member ∷ []) number known))
      (λ noted. inr (subst (λ list. Contains list number) (sym (modules-append first (Segment member ∷ []))) (Contains-append_left (modules_in first) (member ∷ []) number noted)))
      (follow_noted active members (before ++ member ∷ []) after (edges_at active member) first follows number came)

  follow_noted : (active : Active) (members before after targets : List ℕ) (items : List Item) → Follows active members before targets items after
      → (number : ℕ) → Contains after number → Contains before number ⊎ Contains (modules_in items) number
  follow_noted active members before after targets items (ended _) number came = inl came
  follow_noted active members before after targets items (passed _ _ target rest others old follows) number came =
      follow_noted active members before after rest others follows number came
  follow_noted active members before after targets items (entered _ between _ target rest some others fresh within visits follows) number came = ⊎_elim
      (λ known. ⊎_elim inl (λ l. inr (subst (λ list. Contains list number) (sym (modules-append some others)) (Contains-append_left (modules_in some) (modules_in others) number l)))
      (visit_noted active members before between target some visits number known))
      (λ r. inr (subst (λ list. Contains list number) (sym (modules-append some others)) (Contains-append_right (modules_in some) (modules_in others) number r)))
      (follow_noted active members between after rest others follows number came)
  follow_noted active members before after targets items (noted _ _ target rest others fresh outside follows) number came = ⊎_elim
      (λ known. ⊎_elim inl (λ last. inr (⊎_elim (λ same. subst (λ z. Contains (z ∷ modules_in others) number) (sym same) (here number (modules_in others))) (λ none. absurd (none_in number none)) (one_of target [] number last)))
      (Contains-append_cases before (target ∷ []) number known))
      (λ r. inr (there target (modules_in others) number r))
      (follow_noted active members (before ++ target ∷ []) after rest others follows number came)

-- a member whose module was noted runs
runs : (members : List ℕ) (items : List Item) → ((item : Item) → Contains items item → FitsSet members item) → (number : ℕ) → Contains members number
    → Contains (modules_in items) number → Contains items (Segment number)
runs members items fits number inside c = by found.0 found.1 found.2
  where
    found : (item : Item) × Contains items item × (module_of item ≡ number)
    found = unmapped module_of items number c

    by : (item : Item) → Contains items item → module_of item ≡ number → Contains items (Segment number)
    by (Segment member) d same = subst (λ z. Contains items (Segment z)) same d
    by (Evaluate target) d same = absurd (subst (λ z. ¬ Contains members z) same (fits (Evaluate target) d) inside)

-- each member that the root reaches inside the set runs
pub member_runs : (active : Active) (members : List ℕ) (root : ℕ) (items : List Item) → AreItems active members root items → Contains members root
    → (number : ℕ) → IsReachedInside active members root number → Contains items (Segment number)
member_runs active members root items (after, visits) inside number reached = ⊎_elim (λ none. absurd (none_in number none))
    (λ noted. runs members items (visit_kinds active members [] after root items visits inside) number (within number reached) noted)
    (visit_noted active members [] after root items visits number (came number reached))
  where
    within : (number : ℕ) → IsReachedInside active members root number → Contains members number
    within number root_itself = inside
    within number (along from _ before member edge) = member

    came : (number : ℕ) → IsReachedInside active members root number → Contains after number
    came number root_itself = visit_itself active members [] after root items visits
    came number (along from _ before member edge) =
        visit_closed active members [] after root items visits from (within from before) (came from before) (none_in from) number edge

-- each module stands in the items at most once
pub each_once : (active : Active) (members : List ℕ) (root : ℕ) (items : List Item) → AreItems active members root items → IsDistinct nat_eq (map module_of items)
each_once active members root items (after, visits) = visit_once active members [] after root items visits

-- a segment is a member's, and what is evaluated is no member
pub by_kind : (active : Active) (members : List ℕ) (root : ℕ) (items : List Item) → AreItems active members root items → Contains members root
    → ((number : ℕ) → Contains items (Segment number) → Contains members number) × ((number : ℕ) → Contains items (Evaluate number) → ¬ Contains members number)
by_kind active members root items (after, visits) inside = (
  λ number c. visit_kinds active members [] after root items visits inside (Segment number) c,
  λ number c. visit_kinds active members [] after root items visits inside (Evaluate number) c,
)
