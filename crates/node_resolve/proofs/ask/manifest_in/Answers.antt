use Rattle.std.proofs.Common.{ap}
use Rattle.node_resolve.specs.Resolution.{manifest_at, manifest_in}
use Rattle.node_resolve.specs.Walks.{behind}
use Rattle.node_resolve.proofs.Walking.{memory_lost, went_from}
use Rattle.node_resolve.proofs.ask.manifest_in.Goals as goal

pub returns-in_err-path-clause-went : goal.returns-in_err-path-clause-went
returns-in_err-path-clause-went g c bad next =
    memory_lost c.from_residual.result _ _ _ (manifest_in bad next c.args.folder.now) (behind bad next) c.from_residual.ensures.1

pub returns-clause-went : goal.returns-clause-went
returns-clause-went g c bad next =
    let folder = c.args.folder.now in
    went_from c.manifest_at.result _ _ _ _ (manifest_at bad next folder c.in_ok-path.path) (manifest_in bad next folder) (behind bad next) (ap (manifest_at bad next folder) c.in_ok-path.ensures) (c.manifest_at.ensures.went bad next)
