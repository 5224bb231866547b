-- A graph has one plan.
use Rattle.std.proofs.Common.{◌≡◌, ℕ, Bool, true, false, List, [], ◌∷◌, Some, slice_get, refl, sym, ap, subst, ◌∙◌, arith}
use Rattle.std.specs.List.{AllZip}
use Rattle.std.proofs.lemmas.Option.{get_or_from_slice_get}
use Rattle.pk_types.specs.declared.graph.Graph.{Graph}
use Rattle.pk_types.specs.declared.plan.Active.{Active}
use Rattle.pk_types.specs.declared.plan.Chunks.{Chunks}
use Rattle.pk_types.specs.declared.plan.Groups.{Groups}
use Rattle.pk_types.specs.declared.plan.Hoists.{Hoists}
use Rattle.pk_types.specs.declared.plan.Ids.{Ids}
use Rattle.pk_types.specs.declared.plan.Plan.{Plan}
use Rattle.pk_types.specs.declared.plan.Used.{Used}
use Rattle.pk_types.proofs.Members.{same_by_place}
use Rattle.pk_types.proofs.OneOrder.{same_rising}
use Rattle.plan_core.specs.Closure.{IsClosure}
use Rattle.plan_core.specs.Edges.{declared_edges, active_edges}
use Rattle.plan_core.specs.Plans.{IsPlan, IsActive, IsUnused, AreEntryGroups, AreEntryChunks, AreNaturalIds}
use Rattle.plan_core.specs.Scopes.{AreOwnScopes}

same_bools : (x y : Bool) → (x ≡ true → y ≡ true) → (y ≡ true → x ≡ true) → x ≡ y
same_bools true y f g = sym (f refl)
same_bools false true f g = g refl
same_bools false false f g = refl

-- ---- records are the same where their fields are

same_active : (one two : Active) → one.edges ≡ two.edges → one.reached ≡ two.reached → one ≡ two
same_active one two e r = grind arith

pub same_used : (one two : Used) → one.names ≡ two.names → one.whole ≡ two.whole → one ≡ two
same_used one two n w = grind arith

same_groups : (one two : Groups) → one.targets ≡ two.targets → one.entries ≡ two.entries → one.closures ≡ two.closures → one.leads ≡ two.leads → one ≡ two
same_groups one two t e c l = grind arith

same_chunks : (one two : Chunks) → one.modules ≡ two.modules → one.entries ≡ two.entries → one.lists ≡ two.lists → one ≡ two
same_chunks one two m e l = grind arith

same_hoists : (one two : Hoists) → one.root ≡ two.root → one.items ≡ two.items → one ≡ two
same_hoists one two r i = grind arith

pub same_ids : (one two : Ids) → one.modules ≡ two.modules → one.chunks ≡ two.chunks → one ≡ two
same_ids one two m c = grind arith

pub same_plans : (one two : Plan) → one.active ≡ two.active → one.used ≡ two.used → one.groups ≡ two.groups → one.chunks ≡ two.chunks → one.hoists ≡ two.hoists
    → one.names ≡ two.names → one.ids ≡ two.ids → one ≡ two
same_plans one two a u g c h n i = grind arith

-- ---- parts of a plan

closures_once : (edges : List (List ℕ)) (targets : List ℕ) (closures others : List (List ℕ)) → AllZip (IsClosure edges) targets closures → AllZip (IsClosure edges) targets others
    → closures ≡ others
closures_once edges [] [] [] one two = refl
closures_once edges [] [] (y ∷ ys) one two = absurd two
closures_once edges [] (x ∷ xs) others one two = absurd one
closures_once edges (t ∷ ts) [] others one two = absurd one
closures_once edges (t ∷ ts) (x ∷ xs) [] one two = absurd two
closures_once edges (t ∷ ts) (x ∷ xs) (y ∷ ys) one two =
    let head : x ≡ y = same_rising x y one.0.ascending two.0.ascending
    (λ z. (λ m. (two.0.reached z).1 ((one.0.reached z).0 m), λ m. (one.0.reached z).1 ((two.0.reached z).0 m))) in
    ap (λ l. l ∷ xs) head ∙ ap (λ l. y ∷ l) (closures_once edges ts xs ys one.1 two.1)

module _ (graph : Graph) where
  active_once : (active other : Active) → IsActive graph active → IsActive graph other → active ≡ other
  active_once active other one two = same_active active other edges reached
    where
      flag : (k : ℕ) (x y : Bool) → slice_get active.reached k ≡ Some x → slice_get other.reached k ≡ Some y → x ≡ y
      flag k x y e f =
          let a = get_or_from_slice_get active.reached k x false e in
          let b = get_or_from_slice_get other.reached k y false f in
          same_bools x y
          (λ t. sym b ∙ (two.reached k).1 ((one.reached k).0 (a ∙ t)))
          (λ t. sym a ∙ (one.reached k).1 ((two.reached k).0 (b ∙ t)))

      reached : active.reached ≡ other.reached
      reached = same_by_place active.reached other.reached (one.each ∙ sym two.each) flag

      edges : active.edges ≡ other.edges
      edges = one.edges ∙ ap (λ l. active_edges l (declared_edges graph)) reached ∙ sym two.edges

  used_once : (used other : Used) → IsUnused graph used → IsUnused graph other → used ≡ other
  used_once used other one two = same_used used other (one.names ∙ sym two.names) (one.whole ∙ sym two.whole)

  groups_once : (edges : List (List ℕ)) (groups other : Groups) → AreEntryGroups graph edges groups → AreEntryGroups graph edges other → groups ≡ other
  groups_once edges groups other one two =
      let targets = one.targets ∙ sym two.targets in
      same_groups groups other targets (one.entries ∙ sym two.entries)
      (closures_once edges other.targets groups.closures other.closures (subst (λ l. AllZip (IsClosure edges) l groups.closures) targets one.closures) two.closures)
      (one.leads ∙ sym two.leads)

chunks_once : (groups : Groups) (chunks other : Chunks) → AreEntryChunks groups chunks → AreEntryChunks groups other → chunks ≡ other
chunks_once groups chunks other one two = same_chunks chunks other (one.modules ∙ sym two.modules) (one.entries ∙ sym two.entries) (one.lists ∙ sym two.lists)

hoists_once : (edges : List (List ℕ)) (hoists other : Hoists) → AreOwnScopes edges hoists → AreOwnScopes edges other → hoists ≡ other
hoists_once edges hoists other one two = same_hoists hoists other (one.root ∙ sym two.root) (one.items ∙ sym two.items)

ids_once : (graph : Graph) (placed : List (List ℕ)) (ids other : Ids) → AreNaturalIds graph placed ids → AreNaturalIds graph placed other → ids ≡ other
ids_once graph placed ids other one two = same_ids ids other (one.modules ∙ sym two.modules) (one.chunks ∙ sym two.chunks)

pub plan_once : (graph : Graph) (plan other : Plan) → IsPlan graph plan → IsPlan graph other → plan ≡ other
plan_once graph plan other one two = same_plans plan other active (used_once graph plan.used other.used one.used two.used) groups chunks hoists
    (one.names ∙ sym two.names) ids
  where
    active : plan.active ≡ other.active
    active = active_once graph plan.active other.active one.active two.active

    groups : plan.groups ≡ other.groups
    groups = groups_once graph other.active.edges plan.groups other.groups (subst (λ (a : Active). AreEntryGroups graph a.edges plan.groups) active one.groups) two.groups

    chunks : plan.chunks ≡ other.chunks
    chunks = chunks_once other.groups plan.chunks other.chunks (subst (λ g. AreEntryChunks g plan.chunks) groups one.chunks) two.chunks

    hoists : plan.hoists ≡ other.hoists
    hoists = hoists_once other.active.edges plan.hoists other.hoists (subst (λ (a : Active). AreOwnScopes a.edges plan.hoists) active one.hoists) two.hoists

    ids : plan.ids ≡ other.ids
    ids = ids_once graph other.chunks.modules plan.ids other.ids (subst (λ (c : Chunks). AreNaturalIds graph c.modules plan.ids) chunks one.ids) two.ids
