-- The lists of a graph's modules make its groups.
use Rattle.std.proofs.Common.{◌≡◌, inl, inr, ⊎_elim, ℕ, ◌+◌, ◌-◌, ◌<◌, ◌≤◌, List, [], ◌++◌, Option, Some, None, Bool, true, slice_get, length, get_or, refl, sym, ap, subst, ◌∙◌, arith}
use Rattle.std.specs.List.{All, Contains}
use Rattle.std.proofs.lemmas.List.{get_or_default}
use Rattle.std.proofs.lemmas.List.Elements.{All-contains, All-from_get_or, Contains-get_or, Contains-append_cases}
use Rattle.std.proofs.lemmas.Option.{slice_get-get_or, slice_get_within, get_or_from_slice_get}
use Rattle.pk_types.specs.declared.graph.Graph.{Graph}
use Rattle.pk_types.specs.declared.graph.Row.{Row}
use Rattle.pk_types.specs.declared.plan.Active.{Active}
use Rattle.pk_types.specs.declared.plan.Groups.{Groups}
use Rattle.pk_types.specs.ChunkGroups.{AreAll, IsInClosure, IsImportTarget, LeadsTo, IsGroups, HasMoreGroups}
use Rattle.pk_types.specs.Fitting.{Fits, RowFits}
use Rattle.pk_types.proofs.Members.{Contains-at, at_right, at_append}
use Rattle.pk_types.proofs.ListMembers.{in_row}
use Rattle.pk_types.proofs.OneOrder.{same_all}
use Rattle.edge_search.specs.Reached.{IsReached, LeadWithin}
use Rattle.edge_search.proofs.Growing.{below}
use Rattle.chunk_groups.specs.ActiveGraphs.{AreOfGraph}
use Rattle.chunk_groups.specs.Gathered.{LeadsAt, AreGroupNumbers}
use Rattle.chunk_groups.specs.Lines.{AreLoads, AreImports}
use Rattle.chunk_groups.proofs.Gathering.{all_same}

-- lists of modules hold modules
all_within : (count : ℕ) (lists : List (List ℕ)) → ((number target : ℕ) → Contains (get_or lists number []) target → target < count)
    → All (λ targets. All (λ target. target < count) targets) lists
all_within count lists within = All-from_get_or (λ targets. All (λ target. target < count) targets) lists [] (λ i h. All-from_get_or (λ target. target < count) (get_or lists i []) 0 (λ j g. within i (get_or (get_or lists i []) j 0) (Contains-get_or (get_or lists i []) j 0 g)))

abbrev pub ImportedByReached : List (List ℕ) → Active → ℕ → Type 0
ImportedByReached imports active target = (number : ℕ) × (slice_get active.reached number ≡ Some true) × Contains (get_or imports number []) target

module _ (graph : Graph) (active : Active) (fits : Fits graph) (has : AreOfGraph graph active) where
  target_within : (number request target : ℕ) (row : Row) → slice_get graph.rows number ≡ Some row → slice_get row.targets request ≡ Some target → target < length graph.rows
  target_within number request target row at to =
      let one = All-contains (RowFits graph) graph.rows row fits.rows (Contains-at graph.rows number row at) in
      All-contains (λ t. t < length graph.rows) row.targets target one.targets (Contains-at row.targets request target to)

  pub imports_within : (imports : List (List ℕ)) → AreImports graph imports → All (λ targets. All (λ target. target < length graph.rows) targets) imports
  imports_within imports are = all_within (length graph.rows) imports
      (λ number target c. let calls = (are.lists number target).0 c in target_within number calls.1 target calls.0 calls.2 calls.4)

  pub import_targets : (imports : List (List ℕ)) (targets : List ℕ) → AreImports graph imports → AreAll (ImportedByReached imports active) targets
      → AreAll (IsImportTarget graph active) targets
  import_targets imports targets are all = all_same (ImportedByReached imports active) (IsImportTarget graph active) targets all (λ target. (
    λ some. (some.0, some.1, (are.lists some.0 target).0 some.2),
    λ some. (some.0, some.1, (are.lists some.0 target).1 some.2),
  ))

  -- the same of the slices that the lists are read by
  pub import_targets_read : (marks : List Bool) (list imports : List (List ℕ)) (targets : List ℕ) → AreImports graph imports → marks ≡ active.reached → list ≡ imports
      → AreAll (λ target. (number : ℕ) × (slice_get marks number ≡ Some true) × Contains (get_or list number []) target) targets
      → AreAll (IsImportTarget graph active) targets
  import_targets_read marks list imports targets are m l all = import_targets imports targets are
      (subst (λ lists. AreAll (ImportedByReached lists active) targets) l
      (subst (λ flags. AreAll (λ target. (number : ℕ) × (slice_get flags number ≡ Some true) × Contains (get_or list number []) target) targets) m all))

  pub imported_within : (targets : List ℕ) → AreAll (IsImportTarget graph active) targets → All (λ target. target < length graph.rows) targets
  imported_within targets all = All-from_get_or (λ target. target < length graph.rows) targets 0 (λ i h.
      let some = (all.each (get_or targets i 0)).0 (Contains-get_or targets i 0 h) in
      target_within some.0 some.2.1 (get_or targets i 0) some.2.0 some.2.2 some.2.4)

  pub targets_within : (targets : List ℕ) → AreAll (IsImportTarget graph active) targets → All (λ target. target < length graph.rows) (graph.entries ++ targets)
  targets_within targets all = All-from_get_or (λ target. target < length graph.rows) (graph.entries ++ targets) 0 (λ i h.
      let here = get_or (graph.entries ++ targets) i 0 in
      ⊎_elim (λ entry. All-contains (λ t. t < length graph.rows) graph.entries here fits.entries entry)
      (λ imported. All-contains (λ t. t < length graph.rows) targets here (imported_within targets all) imported)
      (Contains-append_cases graph.entries targets here (Contains-get_or (graph.entries ++ targets) i 0 h)))

  module _ (loads : List (List ℕ)) (are : AreLoads graph active.edges loads) where
    pub loads_within : LeadWithin loads
    loads_within = subst (λ count. All (λ targets. All (λ target. target < count) targets) loads) (sym are.each) (all_within (length graph.rows) loads
        (λ number target c. ⊎_elim
        (λ edge. All-contains (λ t. t < length graph.rows) (get_or active.edges number []) target
        (All-contains (λ targets. All (λ t. t < length graph.rows) targets) active.edges (get_or active.edges number []) has.edges
        (Contains-get_or active.edges number [] (in_row active.edges number target edge))) edge)
        (λ calls. target_within number calls.1 target calls.0 calls.2 calls.4)
        ((are.lists number target).0 c)))

    closed : (from number : ℕ) → IsReached loads from number → IsInClosure graph active.edges from number
    closed from _ IsReached.itself = IsInClosure.itself
    closed from other (IsReached.along number target before edge) = ⊎_elim
        (λ there. IsInClosure.along number target (get_or active.edges number []) (closed from number before)
        (slice_get-get_or active.edges number [] (in_row active.edges number target there)) there)
        (λ calls. IsInClosure.required number target (closed from number before) calls)
        ((are.lists number target).0 edge)

    opened : (from number : ℕ) → IsInClosure graph active.edges from number → IsReached loads from number
    opened from _ IsInClosure.itself = IsReached.itself
    opened from other (IsInClosure.along number target targets before at there) = IsReached.along number target (opened from number before)
        ((are.lists number target).1 (inl (subst (λ l. Contains l target) (sym (get_or_from_slice_get active.edges number targets [] at)) there)))
    opened from other (IsInClosure.required number target before calls) = IsReached.along number target (opened from number before) ((are.lists number target).1 (inr calls))

    pub closure_of : (from : ℕ) (modules : List ℕ) → AreAll (IsReached loads from) modules → AreAll (IsInClosure graph active.edges from) modules
    closure_of from modules all = all_same (IsReached loads from) (IsInClosure graph active.edges from) modules all (λ number. (closed from number, opened from number))

    pub closures_within : (targets : List ℕ) (closures : List (List ℕ)) → length closures ≡ length targets → All (λ target. target < length graph.rows) targets
        → ((group : ℕ) → group < length targets → AreAll (IsReached loads (get_or targets group 0)) (get_or closures group []))
        → All (λ modules. All (λ number. number < length graph.rows) modules) closures
    closures_within targets closures each within all = all_within (length graph.rows) closures (λ group number c.
        let h : group < length targets = omega (arith, each, in_row closures group number c) in
        let first = All-contains (λ t. t < length graph.rows) targets (get_or targets group 0) within (Contains-get_or targets group 0 h) in
        let end = below loads (get_or targets group 0) (omega (arith, first, are.each)) loads_within number (((all group h).each number).0 c) in
        omega (arith, end, are.each))

  module _ (imports : List (List ℕ)) (are : AreImports graph imports) (entries : ℕ) (imported : List ℕ) (numbers : List (Option ℕ))
      (numbered : AreGroupNumbers entries imported (length imported) numbers) (groups : Groups) (first : groups.entries ≡ entries) (count : entries ≡ length graph.entries)
      (targets : groups.targets ≡ graph.entries ++ imported) where
    leads_out : (modules : List ℕ) (next : ℕ) → ((place : ℕ) × (place < length modules) × LeadsAt numbers imports modules place next) → LeadsTo graph groups modules next
    leads_out modules next some =
        let leads = some.2 in
        let found = numbered.sound leads.0 next leads.2 in
        let place : found.0 + length graph.entries ≡ next = omega (arith, found.2, count) in (
          leads.0,
          omega (arith, found.2, first),
          ap (λ l. slice_get l next) targets ∙ subst (λ k. slice_get (graph.entries ++ imported) k ≡ Some leads.0) place
              (at_right graph.entries imported found.0 leads.0 (slice_get-get_or imported found.0 0 found.1 ∙ ap Some found.3)),
          (get_or modules some.0 0, Contains-get_or modules some.0 0 some.1, (are.lists (get_or modules some.0 0) leads.0).0 leads.1),
        )

    leads_back : (modules : List ℕ) (next : ℕ) → LeadsTo graph groups modules next → (place : ℕ) × (place < length modules) × LeadsAt numbers imports modules place next
    leads_back modules next leads =
        let at = at_append graph.entries imported next leads.0 (sym (ap (λ l. slice_get l next) targets) ∙ leads.2) (omega (arith, leads.1, first, count)) in
        let k = next - length graph.entries in
        let inside = slice_get_within imported k leads.0 at in
        let here = get_or_from_slice_get imported k leads.0 0 at in
        let number = leads.3.0 in
        let place = leads.3.1 in
        let read : get_or modules place.0 0 ≡ number = get_or_default modules place.0 0 number place.1 ∙ place.2 in
        let next_is : entries + k ≡ next = omega (arith, leads.1, first, count) in (
          place.0,
          place.1,
          (
            leads.0,
            subst (λ n. Contains (get_or imports n []) leads.0) (sym read) ((are.lists number leads.0).1 leads.3.2),
            ap (λ n. get_or numbers n None) (sym here) ∙ numbered.each k inside ∙ ap Some next_is,
          ),
        )

    pub leads_of_group : (modules next : List ℕ) → AreAll (λ group. (place : ℕ) × (place < length modules) × LeadsAt numbers imports modules place group) next
        → AreAll (LeadsTo graph groups modules) next
    leads_of_group modules next all = all_same (λ group. (place : ℕ) × (place < length modules) × LeadsAt numbers imports modules place group) (LeadsTo graph groups modules) next all
        (λ group. (leads_out modules group, leads_back modules group))

-- the graph has these groups, and no more
pub no_more : (graph : Graph) (active : Active) (imported : List ℕ) (limit : ℕ) → AreAll (IsImportTarget graph active) imported
    → length graph.entries + length imported ≤ limit → ¬ HasMoreGroups graph active limit
no_more graph active imported limit all few more =
    let same = ap length (same_all (IsImportTarget graph active) imported more.0 all more.1) in
    absurd (omega (arith, few, more.2, same))

-- ---- the whole

pub record Parts (graph : Graph) (active : Active) (imports loads : List (List ℕ)) (imported : List ℕ) (numbers : List (Option ℕ)) (groups : Groups) : Type 0 where
  pub the_imports : AreImports graph imports
  pub the_loads : AreLoads graph active.edges loads
  pub the_imported : AreAll (IsImportTarget graph active) imported
  pub the_numbers : AreGroupNumbers (length graph.entries) imported (length imported) numbers
  pub entries : groups.entries ≡ length graph.entries
  pub targets : groups.targets ≡ graph.entries ++ imported
  pub each_closure : length groups.closures ≡ length groups.targets
  pub each_lead : length groups.leads ≡ length groups.closures
  pub closures : (group : ℕ) → group < length groups.targets → AreAll (IsReached loads (get_or groups.targets group 0)) (get_or groups.closures group [])
  pub leads : (group : ℕ) → group < length groups.closures
      → AreAll (λ next. (place : ℕ) × (place < length (get_or groups.closures group [])) × LeadsAt numbers imports (get_or groups.closures group []) place next)
      (get_or groups.leads group [])

pub are_groups : (graph : Graph) (active : Active) (imports loads : List (List ℕ)) (imported : List ℕ) (numbers : List (Option ℕ)) (groups : Groups)
    → Fits graph → AreOfGraph graph active → Parts graph active imports loads imported numbers groups → IsGroups graph active groups
are_groups graph active imports loads imported numbers groups fits has parts = record {
  targets = record { entries = parts.entries; imported = imported; targets = parts.targets; others = parts.the_imported };
  each_closure = parts.each_closure;
  each_lead = parts.each_lead ∙ parts.each_closure;
  closures = λ group target modules at there.
      let h = slice_get_within groups.targets group target at in
      subst (λ list. AreAll (IsInClosure graph active.edges target) list) (get_or_from_slice_get groups.closures group modules [] there)
      (closure_of graph active fits has loads parts.the_loads target (get_or groups.closures group [])
      (subst (λ t. AreAll (IsReached loads t) (get_or groups.closures group [])) (get_or_from_slice_get groups.targets group target 0 at) (parts.closures group h)));
  leads = λ group modules next there at.
      let h = slice_get_within groups.closures group modules there in
      let is = get_or_from_slice_get groups.closures group modules [] there in
      leads_of_group graph active fits has imports parts.the_imports (length graph.entries) imported numbers parts.the_numbers groups parts.entries refl parts.targets modules next
      (subst (λ list. AreAll (λ n. (place : ℕ) × (place < length modules) × LeadsAt numbers imports modules place n) list) (get_or_from_slice_get groups.leads group next [] at)
      (subst (λ m. AreAll (λ n. (place : ℕ) × (place < length m) × LeadsAt numbers imports m place n) (get_or groups.leads group [])) is (parts.leads group h)));
}
