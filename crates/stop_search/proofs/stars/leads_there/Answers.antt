use Rattle.std.proofs.Common.{◌≡◌, ◌↔◌, true, rules, sym, subst}
use Rattle.pk_types.specs.declared.facts.Kind.TheVariants.{Es}
use Rattle.stop_search.specs.Ways.{LeadsThere}
use Rattle.stop_search.proofs.Leading.{same_leads}
use Rattle.stop_search.proofs.stars.leads_there.Goals as goal

pub returns-clause-leads : goal.returns-clause-leads
returns-clause-leads c =
    let kind : c.row.result.now.facts.kind ≡ Es = search rules in
    subst (λ b. (b ≡ true) ↔ LeadsThere c.args.resolver.now c.args.module c.args.name.now c.args.found.now) (sym c.is_same.ensures)
    (same_leads c.args.resolver.now c.args.module c.args.name.now c.args.found.now c.in_ok-there.there c.row.result.now c.row.ensures.at kind c.in_ok-there.ensures.found)
