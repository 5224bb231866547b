use Rattle.std.proofs.Common.{ap, if◌then◌else◌}
use Rattle.node_resolve.specs.Resolution.{packaged_in, packaged_unless}
use Rattle.node_resolve.specs.Walks.{on}
use Rattle.node_resolve.proofs.Walking.{went_from, stays_at}
use Rattle.node_resolve.proofs.package.packaged_unless.Goals as goal

pub returns-then-holds_packages-clause-went : goal.returns-then-holds_packages-clause-went
returns-then-holds_packages-clause-went g c next =
    stays_at _ _ _ _ (ap (λ b. if b then next else packaged_in c.args.form c.args.request.now next c.args.folder.now) c.if-holds_packages.ensures)

pub returns-clause-went : goal.returns-clause-went
returns-clause-went g c next =
    let inside = packaged_in c.args.form c.args.request.now next c.args.folder.now in
    went_from c.packaged_in.result _ _ _ _ inside (packaged_unless c.args.form c.args.request.now next c.args.folder.now) (λ end. on end next)
    (ap (λ b. if b then next else inside) c.if-holds_packages.ensures) (c.packaged_in.ensures.went next)
