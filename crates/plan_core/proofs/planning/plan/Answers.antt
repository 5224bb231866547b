use Rattle.std.proofs.Common.{◌↔◌, ℕ, false, List, [], ◌∷◌, length, replicate, get_or, sym, subst, ap, ◌∙◌, arith}
use Rattle.std.specs.List.{All, Contains}
use Rattle.std.proofs.lemmas.List.FromFn.{length-map-range_with_len}
use Rattle.emit_chunk.specs.Ranges.{AreBelow}
use Rattle.pk_types.specs.declared.plan.Active.{Active}
use Rattle.pk_types.specs.declared.plan.Chunks.{Chunks}
use Rattle.pk_types.specs.declared.plan.Groups.{Groups}
use Rattle.pk_types.specs.declared.plan.Ids.{Ids}
use Rattle.pk_types.specs.declared.plan.Used.{Used}
use Rattle.plan_core.specs.Closure.{IsReached, known_below, known_flags}
use Rattle.plan_core.specs.Edges.{declared_edges, edges_where, active_edges}
use Rattle.plan_core.specs.NaturalIds.{natural_ids}
use Rattle.plan_core.specs.Scopes.{AreOwnScopes}
use Rattle.plan_core.proofs.EntryPlans.{is_plan}
use Rattle.plan_core.proofs.Within.{count_of_edges, edges_within, in_range}
use Rattle.plan_core.proofs.planning.plan.Goals as goal

pub reached-requires-clause-edges : goal.reached-requires-clause-edges
reached-requires-clause-edges c =
    subst (λ edges. All (AreBelow (length edges)) edges) (sym (c.as_slice-2.ensures.value ∙ c.in_ok-edges.ensures)) (edges_within c.args.graph.now c.requires.fits)

pub own_scopes-requires : goal.own_scopes-requires
own_scopes-requires c =
    let edges = c.in_ok-edges.edges.items in
    omega (
      arith,
      ap length (c.as_slice-4.ensures ∙ ap (λ (active : Active). active.edges) c.in_ok-active.ensures),
      length-map-range_with_len (edges_where (known_flags c.in_ok-placed.placed.keys (length edges)) edges) 0 (length edges),
      ap length c.in_ok-edges.ensures,
      count_of_edges c.args.graph.now,
      c.requires.fits.few_rows,
    )

pub returns-clause-plan : goal.returns-clause-plan
returns-clause-plan c =
    let graph = c.args.graph.now in
    let keys = c.in_ok-placed.placed.keys in
    let entry = ap (λ entries. get_or entries 0 0) c.as_slice.ensures in
    let declared = c.as_slice-2.ensures.value ∙ c.in_ok-edges.ensures in
    let count = c.len-count.ensures ∙ sym c.as_slice-2.ensures.len ∙ ap length declared in
    let modules = c.in_ok-modules.ensures ∙ ap (known_below keys) count in
    let reaches = subst (λ edges. (number : ℕ) → Contains keys number ↔ IsReached edges (get_or c.as_slice.result.now 0 0) number) declared c.in_ok-placed.ensures in
    is_plan graph c.requires.fits c.requires.entry keys
    (subst (λ from. (number : ℕ) → Contains keys number ↔ IsReached (declared_edges graph) from number) entry reaches)
    c.in_ok-active.active c.in_ok-unused.field-0 c.in_ok-entry_group.field-0 c.in_ok-chunks.chunks c.in_ok-hoists.hoists c.in_ok-no_names.field-0 c.in_ok-ids.field-0
    (c.in_ok-active.ensures
    ∙ ap (λ edges. let active : Active = record { edges = active_edges (known_flags keys (length edges)) edges; reached = known_flags keys (length edges) } in active) c.in_ok-edges.ensures)
    (c.in_ok-unused.ensures ∙ ap (λ n. let used : Used = record { names = replicate n []; whole = replicate n false } in used) c.len.ensures)
    (c.in_ok-entry_group.ensures
    ∙ ap (λ from. let groups : Groups = record { targets = from ∷ []; entries = 1; closures = c.in_ok-modules.modules.items ∷ []; leads = [] ∷ [] } in groups) entry
    ∙ ap (λ closure. let groups : Groups = record { targets = get_or graph.entries 0 0 ∷ []; entries = 1; closures = closure ∷ []; leads = [] ∷ [] } in groups) modules)
    (c.in_ok-chunks.ensures
    ∙ ap (λ closure. let chunks : Chunks = record { modules = closure ∷ []; entries = 1; lists = [] ∷ [] } in chunks) (c.in_ok-from_slice.ensures.items ∙ c.as_slice-3.ensures.value ∙ modules))
    (subst (λ edges. AreOwnScopes edges c.in_ok-hoists.hoists) c.as_slice-4.ensures c.in_ok-hoists.ensures)
    (c.in_ok-no_names.ensures ∙ ap (λ n. let names : List (List (List ℕ)) = replicate n [] in names) c.len-2.ensures)
    (c.in_ok-ids.ensures ∙ ap (λ n. let ids : Ids = record { modules = natural_ids (keys ∷ []) n; chunks = [] } in ids) count)

pub returns-clause-range : goal.returns-clause-range
returns-clause-range c = in_range c.args.graph.now _ c.requires.fits (returns-clause-plan c)
