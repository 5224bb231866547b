use Rattle.std.proofs.Common.{rules}
use Rattle.node_resolve.specs.Resolution.{as_both, as_folder}
use Rattle.node_resolve.specs.Walks.{on}
use Rattle.node_resolve.proofs.Turns.{then_went}
use Rattle.node_resolve.proofs.Walking.{fails_as, goes_as, no_end, same_end}
use Rattle.node_resolve.proofs.walk.try_both.Goals as goal

pub returns-in_err-end-clause-went : goal.returns-in_err-end-clause-went
returns-in_err-end-clause-went g c next =
    let path = c.args.path.now in
    fails_as c.from_residual.result c.in_err-end.field-0.0 _ _ _ _ (as_both path next) (λ end. on end next) c.from_residual.ensures.1 (c.in_err-end.ensures.went (as_folder path next))

pub returns-then-is_some-clause-went : goal.returns-then-is_some-clause-went
returns-then-is_some-clause-went g c next =
    let path = c.args.path.now in
    let end = c.in_ok-end.end in
    goes_as _ _ _ _ (as_both path next) _ (on end next) (same_end end (as_folder path next) next (search rules)) (c.in_ok-end.ensures.went (as_folder path next))

pub returns-clause-went : goal.returns-clause-went
returns-clause-went g c next =
    let path = c.args.path.now in
    let end = c.in_ok-end.end in
    then_went _ _ _ _ _ _ (as_both path next) _ (as_folder path next) (c.in_ok-end.ensures.went (as_folder path next)) (no_end end (as_folder path next) (search rules)) c.try_folder.result (λ end. on end next) (c.try_folder.ensures.went next)
