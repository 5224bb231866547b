-- A plan as it is computed so far is the only plan by the general definitions.
use Rattle.std.proofs.Common.{◌≡◌, false, None, length, sym, subst, ◌∙◌}
use Rattle.std.specs.List.{All}
use Rattle.pk_types.specs.declared.graph.Graph.{Graph}
use Rattle.pk_types.specs.declared.plan.Active.{Active}
use Rattle.pk_types.specs.declared.plan.Chunks.{Chunks}
use Rattle.pk_types.specs.declared.plan.Groups.{Groups}
use Rattle.pk_types.specs.declared.plan.Hoists.{Hoists}
use Rattle.pk_types.specs.declared.plan.Plan.{Plan}
use Rattle.pk_types.specs.declared.plan.Used.{Used}
use Rattle.pk_types.specs.Fitting.{Fits}
use Rattle.pk_types.specs.ActiveEdges.{IsActive}
use Rattle.pk_types.specs.ChunkGroups.{IsGroups}
use Rattle.pk_types.specs.Availability.{ArePlaced}
use Rattle.pk_types.specs.Splitting.{IsSplit}
use Rattle.pk_types.specs.HoistSets.{Scene}
use Rattle.pk_types.specs.HoistItems.{AreHoists}
use Rattle.pk_types.specs.GivenNames.{AreGivenNames}
use Rattle.pk_types.specs.ModuleIds.{AreNaturalIds}
use Rattle.emit_chunk.specs.Bare.{IsBare}
use Rattle.plan_core.specs.Plans.{IsPlan}
use Rattle.pk_types.proofs.OneActive.{active_once}
use Rattle.pk_types.proofs.OneGroups.{groups_once}
use Rattle.pk_types.proofs.OneHoist.{one_hoisting}
use Rattle.pk_types.proofs.OnePick.{one_split}
use Rattle.plan_laws.specs.GeneralPlans.{IsGeneralPlan}
use Rattle.plan_laws.proofs.SamePlans.{same_used, same_ids, same_plans}
use Rattle.plan_laws.proofs.Unused.{nothing_used, only_unused}
use Rattle.plan_laws.proofs.SameEdges.{is_active, each_edges}
use Rattle.plan_laws.proofs.SameGroups.{are_groups}
use Rattle.plan_laws.proofs.SameChunks.{are_placed, is_split}
use Rattle.plan_laws.proofs.SameScopes.{are_hoists}
use Rattle.plan_laws.proofs.SameNames.{are_given, only_given}
use Rattle.plan_laws.proofs.SameIds.{are_ids}

module _ (graph : Graph) (fits : Fits graph) (bare : IsBare graph) (unflagged : All (λ row. row.flagged ≡ false) graph.rows) (plan : Plan) (planned : IsPlan graph plan) where
  pub is_general : IsGeneralPlan graph plan
  is_general = record {
    used = nothing_used graph bare plan.used planned.used;
    active = is_active graph plan.active planned.active bare plan.used planned.used fits unflagged;
    groups = are_groups graph bare plan.active plan.groups planned.groups;
    brought = plan.groups.closures;
    placed = are_placed graph plan.active.edges plan.groups planned.groups;
    chunks = is_split graph plan.active.edges plan.groups planned.groups plan.chunks planned.chunks plan.groups.closures (are_placed graph plan.active.edges plan.groups planned.groups);
    hoists = are_hoists (record { graph = graph; active = plan.active; used = plan.used; chunks = plan.chunks }) planned.active plan.hoists planned.hoists;
    names = are_given graph bare plan.names planned.names plan.hoists.root (length plan.active.edges) (each_edges graph plan.active planned.active) planned.hoists.root;
    ids = are_ids graph plan planned;
  }

  module _ (other : Plan) (general : IsGeneralPlan graph other) where
    used_is : other.used ≡ plan.used
    used_is =
        let none = only_unused graph bare other.used general.used in
        same_used other.used plan.used (none.names ∙ sym planned.used.names) (none.whole ∙ sym planned.used.whole)

    active_is : other.active ≡ plan.active
    active_is = active_once graph plan.used other.active plan.active (subst (λ used. IsActive graph used other.active) used_is general.active) is_general.active

    groups_are : other.groups ≡ plan.groups
    groups_are = groups_once graph plan.active other.groups plan.groups (subst (λ active. IsGroups graph active other.groups) active_is general.groups) is_general.groups

    chunks_are : other.chunks ≡ plan.chunks
    chunks_are =
        let placed : ArePlaced plan.groups general.brought = subst (λ groups. ArePlaced groups general.brought) groups_are general.placed in
        let cut : IsSplit graph None plan.groups.entries general.brought other.chunks = subst (λ (groups : Groups). IsSplit graph None groups.entries general.brought other.chunks) groups_are general.chunks in
        one_split graph None plan.groups.entries general.brought other.chunks plan.chunks cut
        (is_split graph plan.active.edges plan.groups planned.groups plan.chunks planned.chunks general.brought placed)

    abbrev scene_of : Used → Active → Chunks → Scene
    scene_of used active chunks = record { graph = graph; active = active; used = used; chunks = chunks }

    hoists_are : other.hoists ≡ plan.hoists
    hoists_are = one_hoisting (scene_of plan.used plan.active plan.chunks) false other.hoists plan.hoists
        (subst (λ used. AreHoists (scene_of used plan.active plan.chunks) false other.hoists) used_is
        (subst (λ active. AreHoists (scene_of other.used active plan.chunks) false other.hoists) active_is
        (subst (λ chunks. AreHoists (scene_of other.used other.active chunks) false other.hoists) chunks_are general.hoists)))
        is_general.hoists

    names_are : other.names ≡ plan.names
    names_are = only_given graph bare plan.names planned.names other.names plan.hoists.root (length plan.active.edges) (each_edges graph plan.active planned.active) planned.hoists.root
        (subst (λ (hoists : Hoists). AreGivenNames graph hoists.root other.names) hoists_are general.names)

    ids_are : other.ids ≡ plan.ids
    ids_are =
        let natural : AreNaturalIds graph plan.chunks other.ids = subst (λ chunks. AreNaturalIds graph chunks other.ids) chunks_are general.ids in
        same_ids other.ids plan.ids (natural.module_ids ∙ sym is_general.ids.module_ids) (natural.chunk_ids ∙ sym is_general.ids.chunk_ids)

    pub one_plan : other ≡ plan
    one_plan = same_plans other plan active_is used_is groups_are chunks_are hoists_are names_are ids_are
