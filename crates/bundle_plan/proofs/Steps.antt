-- What each step of a plan may ask of those before it.
use Rattle.std.proofs.Common.{◌≡◌, ◌<◌, ◌≤◌, ◌+◌, inl, ⊎_elim, ℕ, Bool, true, false, List, [], Option, Some, length, get_or, slice_get, refl, sym, ap, subst, ◌∙◌, length-append, arith}
use Rattle.std.specs.List.{All, Contains, range_with_len}
use Rattle.std.proofs.lemmas.Bool.{cases_lt}
use Rattle.std.proofs.lemmas.List.{get_or_default}
use Rattle.std.proofs.lemmas.List.Elements.{All-contains, Contains-get_or}
use Rattle.std.proofs.lemmas.List.FromFn.{length-range_with_len}
use Rattle.std.proofs.lemmas.List.Sums.{count_by-le-length}
use Rattle.std.proofs.lemmas.Option.{same_Some, slice_get_within, slice_get-get_or}
use Rattle.pk_types.specs.declared.graph.Graph.{Graph}
use Rattle.pk_types.specs.declared.limits.TheConstants.{MAX_GROUPS}
use Rattle.pk_types.specs.declared.plan.Active.{Active}
use Rattle.pk_types.specs.declared.plan.Chunks.{Chunks}
use Rattle.pk_types.specs.declared.plan.Groups.{Groups}
use Rattle.pk_types.specs.declared.plan.Used.{Used}
use Rattle.pk_types.specs.declared.settings.Config.{Config}
use Rattle.pk_types.specs.declared.settings.SplitConfig.{SplitConfig}
use Rattle.pk_types.specs.ActiveEdges.{IsActive, along}
use Rattle.pk_types.specs.Availability.{GroupsFit, HasModulesBelow}
use Rattle.pk_types.specs.ChunkClauses.{IsOfGroup, row_at}
use Rattle.pk_types.specs.ChunkGroups.{IsGroups, HasMoreGroups}
use Rattle.pk_types.specs.HoistSets.{Scene, AreHoistSets}
use Rattle.pk_types.specs.ModuleIds.{id_count, is_in_chunks}
use Rattle.pk_types.specs.Places.{ArePlacesIn, IsShort}
use Rattle.pk_types.specs.Use.{HasUse}
use Rattle.pk_types.proofs.GroupWalks.{groups_fit, modules_below}
use Rattle.pk_types.proofs.ListMembers.{in_row}
use Rattle.pk_types.proofs.Members.{as_long}
use Rattle.chunk_groups.specs.ActiveGraphs.{AreOfGraph}
use Rattle.id_assign.specs.Conditions.{MayHaveIds}
use Rattle.split_chunks.specs.GroupChunks.{HasAscendingClosures, AreGroupChunks, AreFew}
use Rattle.bundle_plan.specs.declared.fault.PlanFault.{PlanFault}
use Rattle.bundle_plan.specs.declared.fault.PlanFault.TheVariants.{Export, TooManyGroups, TooManyChunks, NoMemory}
use Rattle.bundle_plan.specs.Faults.{IsSplitFault, IsCountFault}

module _ (graph : Graph) (used : Used) (active : Active) (is : IsActive graph used active) where
  edge_within : (number target : ℕ) (edges : List ℕ) → slice_get active.edges number ≡ Some edges → Contains edges target → (mark : Bool)
      → slice_get active.reached number ≡ Some mark → target < length graph.rows
  edge_within number target edges at c true reached =
      omega (arith, is.each_reached, slice_get_within active.reached target true ((is.reached target).1 (along number target edges ((is.reached number).0 reached) at c)))
  edge_within number target edges at c false reached =
      let none : edges ≡ [] = same_Some _ _ (sym at ∙ is.others number reached) in
      omega (arith, c.1, ap length none)

  -- active edges lead to modules
  pub edges_within : AreOfGraph graph active
  edges_within = record {
    each_edges = is.each_edges;
    each_reached = is.each_reached;
    edges = λ number d h place e inside.
        edge_within number (get_or (get_or active.edges number d) place e) (get_or active.edges number d) (slice_get-get_or active.edges number d h)
        (Contains-get_or (get_or active.edges number d) place e inside) (get_or active.reached number false)
        (slice_get-get_or active.reached number false (omega (arith, h, is.each_edges, is.each_reached)));
  }

module _ (graph : Graph) (active : Active) (groups : Groups) (are : IsGroups graph active groups) where
  -- groups that are no more than a bundle may have
  pub few_groups : ¬ HasMoreGroups graph active MAX_GROUPS → length groups.targets ≤ MAX_GROUPS
  few_groups few = ⊎_elim (λ (more : MAX_GROUPS < length graph.entries + length are.targets.imported). absurd (few (are.targets.imported, are.targets.others, more)))
      (λ (less : length graph.entries + length are.targets.imported ≤ MAX_GROUPS). omega (arith, less, ap length are.targets.targets, length-append graph.entries are.targets.imported))
      (cases_lt MAX_GROUPS (length graph.entries + length are.targets.imported))

  pub groups_stand : ¬ HasMoreGroups graph active MAX_GROUPS → GroupsFit groups
  groups_stand few = groups_fit graph active groups are (omega (arith, few_groups few))

  pub closures_ascend : HasAscendingClosures groups
  closures_ascend = λ group d h.
      let at = slice_get-get_or groups.closures group d h in
      let target = as_long groups.closures groups.targets group (get_or groups.closures group d) at (sym are.each_closure) in
      (are.closures group target.0 (get_or groups.closures group d) target.1 at).ascending

  pub closures_below : (used : Used) → IsActive graph used active → HasModulesBelow groups (length graph.rows)
  closures_below used is = modules_below graph active groups are is.reached (length graph.rows) is.each_reached

module _ (graph : Graph) (groups : Groups) (config : Option SplitConfig) (chunks : Chunks) (split : AreGroupChunks graph groups config chunks)
    (below : HasModulesBelow groups (length graph.rows)) where
  member_within : (chunk member : ℕ) → chunk < length chunks.modules → Contains (row_at chunks.modules chunk) member → member < length graph.rows
  member_within chunk member h c = All-contains (λ number. number < length graph.rows) (row_at groups.closures group.0) member
      (below group.0 [] (in_row groups.closures group.0 member held)) held
    where
      group : (group : ℕ) × IsOfGroup chunks group chunk
      group = ⊎_elim (λ entry. (chunk, inl (entry, refl))) (λ above. split.clauses.listed chunk above h) (cases_lt chunk chunks.entries)

      held : Contains (row_at groups.closures group.0) member
      held = split.clauses.closed group.0 chunk member group.1 c

  -- chunks hold modules
  pub chunks_within : All (ArePlacesIn graph.rows) chunks.modules
  chunks_within = λ chunk d h place e inside.
      let modules = get_or chunks.modules chunk d in
      member_within chunk (get_or modules place e) h
      (subst (λ l. Contains l (get_or modules place e)) (get_or_default chunks.modules chunk d [] h) (Contains-get_or modules place e inside))

  -- and there are no more of them than 32 bits can number
  pub chunks_short : AreFew chunks → length groups.targets ≤ MAX_GROUPS → groups.entries ≤ length groups.targets → IsShort chunks.modules
  chunks_short few short entries = omega (arith, few, short, entries, split.clauses.each_entry, split.clauses.few_entries)

  pub may_have_ids : length graph.rows ≤ id_count → AreFew chunks → MayHaveIds graph chunks
  may_have_ids rows few = record {
    in_range = chunks_within;
    entries = split.clauses.few_entries;
    filled = split.clauses.filled;
    few_modules = omega (arith, rows, count_by-le-length (is_in_chunks chunks) (range_with_len 0 (length graph.rows)), length-range_with_len 0 (length graph.rows));
    few_chunks = omega (arith, few);
  }

-- the root of each module is a module
pub roots_within : (scene : Scene) (concatenate : Bool) (roots : List ℕ) → AreHoistSets scene concatenate roots → All (λ root. root < length roots) roots
roots_within scene concatenate roots sets = λ k d h. omega (arith, h, sets.in_order k h, get_or_default roots k d 0 h)

-- a fault of splitting the groups of the graph is one of its counts
pub count_fault : (graph : Graph) (used : Used) (active : Active) (groups : Groups) (config : Config) → HasUse graph used → IsActive graph used active
    → IsGroups graph active groups → ¬ HasMoreGroups graph active MAX_GROUPS → (fault : PlanFault) → IsSplitFault graph groups config fault → IsCountFault graph config fault
count_fault graph used active groups config uses is are few (Export fault) none = none
count_fault graph used active groups config uses is are few TooManyGroups none = absurd none
count_fault graph used active groups config uses is are few TooManyChunks many =
    record { used = used; is_use = uses; active = active; is_active = is; groups = groups; are_groups = are; few = few; many = many }
count_fault graph used active groups config uses is are few NoMemory none = tt
