-- The chunks of a graph's groups: what is placed fits together, and chunks hold what is loaded with an entry or an import target.
use Rattle.std.proofs.Common.{◌≡◌, ℕ, ◌≤◌, List, [], length, refl, inl, inr, ⊎_elim, sym, subst, arith, Some, slice_get, Bool, Option, ap, length-append, ◌∙◌}
use Rattle.std.specs.List.{Contains}
use Rattle.std.specs.List.Sorted.{IsStrictlyIncreasing}
use Rattle.std.proofs.lemmas.Bool.{cases_lt}
use Rattle.std.proofs.lemmas.List.{get_or_past}
use Rattle.std.proofs.lemmas.List.Elements.{Contains-append_cases}
use Rattle.std.proofs.lemmas.Option.{get_or_from_slice_get, slice_get-get_or}
use Rattle.pk_types.specs.declared.graph.Graph.{Graph}
use Rattle.pk_types.specs.declared.plan.Active.{Active}
use Rattle.pk_types.specs.declared.plan.Chunks.{Chunks}
use Rattle.pk_types.specs.declared.plan.Groups.{Groups}
use Rattle.pk_types.specs.declared.settings.SplitConfig.{SplitConfig}
use Rattle.pk_types.specs.ActiveEdges.{IsActive}
use Rattle.pk_types.specs.ChunkGroups.{AreAll, HasTargets, IsGroups}
use Rattle.pk_types.specs.Availability.{IsPlaced, begins}
use Rattle.pk_types.specs.Splitting.{IsSplit}
use Rattle.pk_types.specs.ChunkClauses.{FitTogether, MeetClauses, IsOfGroup, row_at}
use Rattle.pk_types.specs.HoistSets.{Scene, IsInChunk, AreHoistSets, set_of}
use Rattle.pk_types.specs.HoistPaths.{IsTarget, IsInGroup, IsReachedInside}
use Rattle.pk_types.proofs.Members.{Contains-at, as_long}
use Rattle.pk_types.proofs.PickLaws.{none_ascends}
use Rattle.pk_types.proofs.SplitClauses.{split_meets}
use Rattle.pk_types.proofs.HoistLaws.{each_reached}
use Rattle.pk_types.proofs.ListMembers.{in_row}

-- Lists of exactly the modules that each group brings itself fit together with the closures.
pub placed_fit : (groups : Groups) (placed : List (List ℕ)) → groups.entries ≤ length groups.targets → length placed ≡ length groups.targets
    → ((group : ℕ) (modules : List ℕ) → slice_get placed group ≡ Some modules → AreAll (IsPlaced groups group) modules)
    → FitTogether groups.entries groups.closures placed
placed_fit groups placed few each modules = record {
  within = λ group member c.
      let at = slice_get-get_or placed group [] (in_row placed group member c) in
      let held = (((modules group (row_at placed group) at).each member).0 c).0 in
      subst (λ list. Contains list member) (sym (get_or_from_slice_get groups.closures group held.0 [] held.1)) held.2;
  whole = λ group member entry c.
      let at = slice_get-get_or groups.closures group [] (in_row groups.closures group member c) in
      let there = slice_get-get_or placed group [] (omega (arith, entry)) in
      ((modules group (row_at placed group) there).each member).1 (
        (row_at groups.closures group, at, c),
        λ available. absurd (let inside = (available [] (group, entry, begins)).2 in omega (arith, inside)),
      );
  sorted = λ group. ⊎_elim
      (λ inside. (modules group (row_at placed group) (slice_get-get_or placed group [] inside)).ascending)
      (λ beyond. subst IsStrictlyIncreasing (sym (get_or_past placed group [] beyond)) none_ascends)
      (cases_lt group (length placed));
  few_entries = omega arith;
}

-- the target of a group is an entry or an import target
target_of : (graph : Graph) (active : Active) (groups : Groups) → HasTargets graph active groups → (group target : ℕ) → slice_get groups.targets group ≡ Some target
    → IsTarget graph active target
target_of graph active groups are group target at = ⊎_elim inl (λ imported. inr ((are.others.each target).0 imported))
    (Contains-append_cases graph.entries are.imported target (subst (λ list. Contains list target) are.targets (Contains-at groups.targets group target at)))

-- what the closure of a group has is in the closure of its target
pub closure_target : (graph : Graph) (active : Active) (groups : Groups) → IsGroups graph active groups → (group member : ℕ)
    → Contains (row_at groups.closures group) member → IsInGroup graph active member
closure_target graph active groups are group member c =
    let at = slice_get-get_or groups.closures group [] (in_row groups.closures group member c) in
    let target = as_long groups.closures groups.targets group (row_at groups.closures group) at (sym are.each_closure) in (
      target.0,
      target_of graph active groups are.targets group target.0 target.1,
      ((are.closures group target.0 (row_at groups.closures group) target.1 at).each member).0 c,
    )

-- chunks that meet the clauses hold what is in the closure of an entry or an import target
pub chunks_hold_loaded : (graph : Graph) (active : Active) (groups : Groups) (placed : List (List ℕ)) (chunks : Chunks) → IsGroups graph active groups
    → MeetClauses groups.entries groups.closures placed chunks → (chunk member : ℕ) → IsInChunk chunks chunk member → IsInGroup graph active member
chunks_hold_loaded graph active groups placed chunks are meet chunk member c =
    closure_target graph active groups are group.0 member (meet.closed group.0 chunk member group.1 c)
  where
    group : (group : ℕ) × IsOfGroup chunks group chunk
    group = ⊎_elim (λ entry. (chunk, inl (entry, refl))) (λ above. meet.listed chunk above (in_row chunks.modules chunk member c)) (cases_lt chunk chunks.entries)

-- the groups of entries are groups
entries_fit : (graph : Graph) (active : Active) (groups : Groups) → HasTargets graph active groups → groups.entries ≤ length groups.targets
entries_fit graph active groups are =
    let few = are.entries in
    let long = ap length are.targets ∙ length-append graph.entries are.imported in
    omega arith

module _ (graph : Graph) (active : Active) (groups : Groups) (are : IsGroups graph active groups) (placed : List (List ℕ))
    (each : length placed ≡ length groups.targets)
    (modules : (group : ℕ) (modules : List ℕ) → slice_get placed group ≡ Some modules → AreAll (IsPlaced groups group) modules) where
  -- where exactly the modules that each group brings are split into chunks, these meet the clauses
  pub graph_chunks_meet : (config : Option SplitConfig) (chunks : Chunks) → IsSplit graph config groups.entries placed chunks
      → MeetClauses groups.entries groups.closures placed chunks
  graph_chunks_meet config chunks split = split_meets graph config groups.entries groups.closures placed chunks
      (placed_fit groups placed (entries_fit graph active groups are.targets) each modules) split

-- the same, of what sets are judged by: each set is reached from its root inside the set
pub graph_sets_reached : (scene : Scene) → IsActive scene.graph scene.used scene.active → (groups : Groups) → IsGroups scene.graph scene.active groups
    → (placed : List (List ℕ)) → length placed ≡ length groups.targets
    → ((group : ℕ) (modules : List ℕ) → slice_get placed group ≡ Some modules → AreAll (IsPlaced groups group) modules)
    → (config : Option SplitConfig) → IsSplit scene.graph config groups.entries placed scene.chunks
    → (concatenate : Bool) (roots : List ℕ) → AreHoistSets scene concatenate roots
    → (root member : ℕ) → Contains roots root → Contains (set_of roots root) member → IsReachedInside scene.active (set_of roots root) root member
graph_sets_reached scene is groups are placed each modules config split concatenate roots sets =
    each_reached scene concatenate roots sets is
    (chunks_hold_loaded scene.graph scene.active groups placed scene.chunks are
    (graph_chunks_meet scene.graph scene.active groups are placed each modules config scene.chunks split))
