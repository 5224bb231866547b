use Rattle.std.proofs.Common.{ap, ◌∙◌}
use Rattle.node_resolve.specs.Resolution.{files, as_file}
use Rattle.node_resolve.specs.Walks.{on}
use Rattle.node_resolve.proofs.Walking.{memory_lost, went_from}
use Rattle.node_resolve.proofs.walk.try_file.Goals as goal

pub returns-in_err-paths-clause-went : goal.returns-in_err-paths-clause-went
returns-in_err-paths-clause-went g c next = memory_lost c.from_residual.result _ _ _ (as_file c.args.path.now next) (λ end. on end next) c.from_residual.ensures.1

pub returns-clause-went : goal.returns-clause-went
returns-clause-went g c next =
    went_from c.first_file.result _ _ _ _ _ (as_file c.args.path.now next) (λ end. on end next) (ap (λ l. files l next) (c.as_slice.ensures.value ∙ c.in_ok-paths.ensures)) (c.first_file.ensures.went next)
