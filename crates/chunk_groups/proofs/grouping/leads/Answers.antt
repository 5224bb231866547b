use Rattle.std.proofs.Common.{◌≡◌, ℕ, ◌<◌, [], ◌∷◌, ◌++◌, List, length, get_or, ap, subst, ◌∙◌}
use Rattle.std.proofs.lemmas.List.{get_or_default}
use Rattle.pk_types.specs.ChunkGroups.{AreAll}
use Rattle.chunk_groups.specs.Gathered.{LeadsAt}
use Rattle.chunk_groups.proofs.Gathering.{one_more}
use Rattle.chunk_groups.proofs.grouping.leads.Goals as goal

pub loop-modules-preserved : goal.loop-modules-preserved
loop-modules-preserved c =
    let closures = c.args.closures.now in
    let place = c.loop-modules.modules-index in
    let Leads : List ℕ → ℕ → Type 0 = λ modules next. (k : ℕ) × (k < length modules) × LeadsAt c.args.numbers.now c.args.imports.now modules k next in
    let read : c.as_slice.result.now ≡ get_or closures place [] =
    c.as_slice.ensures ∙ c.modules-item.is ∙ get_or_default closures place c.modules-item.result [] c.loop-modules-test.true in
    let more = one_more (λ k list. AreAll (Leads (get_or closures k [])) list) c.loop-modules.leads.items c.in_ok-groups.groups.items c.push.new.self.items place
    c.loop-modules.invariant.each c.loop-modules.invariant.lists (subst (λ modules. AreAll (Leads modules) c.in_ok-groups.groups.items) read c.in_ok-groups.ensures)
    (c.in_ok-push.ensures.items ∙ ap (λ l. c.loop-modules.leads.items ++ l ∷ []) c.from_vec.ensures) in
    record { each = more.0; lists = more.1 }
