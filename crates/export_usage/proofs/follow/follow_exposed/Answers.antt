use Rattle.std.proofs.Common.{sym, subst}
use Rattle.pk_types.specs.declared.graph.Graph.{Graph}
use Rattle.pk_types.specs.ExportedNames.{ExportedNames}
use Rattle.export_usage.specs.Claims.{AreUsed}
use Rattle.export_usage.specs.Rules.{FollowsExposed}
use Rattle.export_usage.proofs.Following.{exposed_claims}
use Rattle.export_usage.proofs.Learning.{learns_same}
use Rattle.export_usage.proofs.follow.follow_exposed.Goals as goal

pub returns : goal.returns
returns c =
    let graph = c.args.resolver.now in
    let names = c.as_slice.result.now in
    let are : ExportedNames graph c.args.module names = subst (ExportedNames graph c.args.module) (sym c.as_slice.ensures.value)
    (subst (λ (g : Graph). ExportedNames g c.args.module c.in_ok-names.names.items) c.graph.ensures.graph c.in_ok-names.ensures) in
    learns_same c.args.facts.now c.put_all_used.new.self (AreUsed c.args.module names) (FollowsExposed graph c.args.module) c.in_ok-put_all_used.ensures
    (exposed_claims graph c.args.module names are)
