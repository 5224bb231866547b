use Rattle.std.proofs.Common.{◌++◌, ap}
use Rattle.pk_base.specs.Paths.{joined}
use Rattle.node_resolve.specs.Resolution.{as_either, packages_name}
use Rattle.node_resolve.specs.Walks.{on}
use Rattle.node_resolve.proofs.Walking.{memory_lost, went_from}
use Rattle.node_resolve.proofs.package.try_place.Goals as goal

pub returns-in_err-place-clause-went : goal.returns-in_err-place-clause-went
returns-in_err-place-clause-went g c next =
    memory_lost c.from_residual.result _ _ _ (as_either (joined c.args.folder.now (packages_name ++ c.args.request.now)) next) (λ end. on end next) c.from_residual.ensures.1

pub returns-clause-went : goal.returns-clause-went
returns-clause-went g c next =
    went_from c.try_either.result _ _ _ _ (as_either c.in_ok-place.place next) (as_either (joined c.args.folder.now (packages_name ++ c.args.request.now)) next) (λ end. on end next)
    (ap (λ place. as_either place next) c.in_ok-place.ensures) (c.try_either.ensures.went next)
