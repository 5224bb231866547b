-- A graph has its groups in one way.
use Rattle.std.proofs.Common.{◌≡◌, ℕ, ◌≤◌, List, ◌++◌, Some, length, slice_get, sym, ap, subst, ◌∙◌, arith}
use Rattle.pk_types.specs.declared.graph.Graph.{Graph}
use Rattle.pk_types.specs.declared.plan.Active.{Active}
use Rattle.pk_types.specs.declared.plan.Groups.{Groups}
use Rattle.pk_types.specs.ChunkGroups.{IsInClosure, IsImportTarget, LeadsTo, IsGroups}
use Rattle.pk_types.proofs.Members.{as_long, same_by_place}
use Rattle.pk_types.proofs.OneOrder.{same_all}

same_groups : (groups others : Groups) → groups.targets ≡ others.targets → groups.entries ≡ others.entries → groups.closures ≡ others.closures
    → groups.leads ≡ others.leads → groups ≡ others
same_groups groups others t e c l = grind arith

module _ (graph : Graph) (active : Active) (groups others : Groups) (right : IsGroups graph active groups) (also : IsGroups graph active others) where
  same_entries : groups.entries ≡ others.entries
  same_entries = right.targets.entries ∙ sym also.targets.entries

  same_targets : groups.targets ≡ others.targets
  same_targets =
      right.targets.targets
      ∙ ap (λ l. graph.entries ++ l) (same_all (IsImportTarget graph active) right.targets.imported also.targets.imported right.targets.others also.targets.others)
      ∙ sym also.targets.targets

  closure_same : (group : ℕ) (modules more : List ℕ) → slice_get groups.closures group ≡ Some modules → slice_get others.closures group ≡ Some more → modules ≡ more
  closure_same group modules more e f =
      let t = as_long groups.closures groups.targets group modules e (sym right.each_closure) in
      same_all (IsInClosure graph active.edges t.0) modules more (right.closures group t.0 modules t.1 e)
      (also.closures group t.0 more (subst (λ l. slice_get l group ≡ Some t.0) same_targets t.1) f)

  same_closures : groups.closures ≡ others.closures
  same_closures = same_by_place groups.closures others.closures (right.each_closure ∙ ap length same_targets ∙ sym also.each_closure) closure_same

  lead_moves : (modules : List ℕ) (next : ℕ) → LeadsTo graph groups modules next → LeadsTo graph others modules next
  lead_moves modules next l = (l.0, subst (λ n. n ≤ next) same_entries l.1, subst (λ t. slice_get t next ≡ Some l.0) same_targets l.2, l.3)

  lead_returns : (modules : List ℕ) (next : ℕ) → LeadsTo graph others modules next → LeadsTo graph groups modules next
  lead_returns modules next l = (l.0, subst (λ n. n ≤ next) (sym same_entries) l.1, subst (λ t. slice_get t next ≡ Some l.0) (sym same_targets) l.2, l.3)

  lead_same : (group : ℕ) (next more : List ℕ) → slice_get groups.leads group ≡ Some next → slice_get others.leads group ≡ Some more → next ≡ more
  lead_same group next more e f =
      let c = as_long groups.leads groups.closures group next e (right.each_closure ∙ sym right.each_lead) in
      let a = right.leads group c.0 next c.1 e in
      let b = also.leads group c.0 more (subst (λ l. slice_get l group ≡ Some c.0) same_closures c.1) f in
      same_all (LeadsTo graph groups c.0) next more a (record {
        ascending = b.ascending;
        each = λ n. (λ m. lead_returns c.0 n ((b.each n).0 m), λ l. (b.each n).1 (lead_moves c.0 n l));
      })

  same_leads : groups.leads ≡ others.leads
  same_leads = same_by_place groups.leads others.leads (right.each_lead ∙ ap length same_targets ∙ sym also.each_lead) lead_same

  pub groups_once : groups ≡ others
  groups_once = same_groups groups others same_targets same_entries same_closures same_leads
