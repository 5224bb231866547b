use Rattle.std.proofs.Common.{◌≡◌, [], IfOk, ap, subst}
use Rattle.std.proofs.lemmas.Result.{IfOk-weaker}
use Rattle.pk_types.specs.declared.graph.Graph.{Graph}
use Rattle.module_spelling.specs.Layout.{Layout, FoundFits}
use Rattle.module_spelling.proofs.FoundFits.{resolved_fits}
use Rattle.module_spelling.proofs.speller.Speller.resolve.Goals as goal

pub returns-clause-fits : goal.returns-clause-fits
returns-clause-fits c =
    let graph = c.self.inside.resolver in
    let is : graph ≡ c.args.self.now.graph = ap (λ (l : Layout). l.graph) c.self.view_is in
    subst (λ (g : Graph). IfOk c.resolve.result (FoundFits g)) is
    (IfOk-weaker c.resolve.result _ _ (λ found r. resolved_fits graph c.self.invariant.graph [] c.args.number c.args.name.now found r.0 r.1) c.resolve.ensures.found)
