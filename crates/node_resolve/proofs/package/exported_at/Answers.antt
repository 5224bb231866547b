use Rattle.std.proofs.Common.{sym, ap}
use Rattle.node_resolve.specs.Resolution.{exported, packaged_at, manifest_in, bad_manifest}
use Rattle.node_resolve.specs.Walks.{on, behind}
use Rattle.node_resolve.proofs.Walking.{goes_as, goes_from, fails_as, went_from, stays_at}
use Rattle.node_resolve.proofs.Turns.{then_went}
use Rattle.node_resolve.proofs.package.exported_at.Goals as goal

pub returns-in_default-clause-went : goal.returns-in_default-clause-went
returns-in_default-clause-went g c next = stays_at _ _ _ _ (ap (packaged_at c.args.form c.args.request.now next) (sym c.in_default.is))

pub returns-in_err-found-clause-went : goal.returns-in_err-found-clause-went
returns-in_err-found-clause-went g c next =
    let more = exported c.args.form c.args.request.now next in
    let at = packaged_at c.args.form c.args.request.now next in
    let home = c.in-Some.home in
    went_from c.from_residual.result _ _ _ _ (manifest_in bad_manifest more home) (at c.args.home) (λ end. on end next) (ap at (sym c.in-Some.is))
    (fails_as c.from_residual.result c.in_err-found.field-0.0 _ _ _ _ (manifest_in bad_manifest more home) (λ end. on end next) c.from_residual.ensures.1 (c.in_err-found.ensures.went bad_manifest more))

pub returns-in-Err-clause-went : goal.returns-in-Err-clause-went
returns-in-Err-clause-went g c next =
    let more = exported c.args.form c.args.request.now next in
    let at = packaged_at c.args.form c.args.request.now next in
    let home = c.in-Some.home in
    goes_from _ _ _ _ (manifest_in bad_manifest more home) (at c.args.home) _ (ap at (sym c.in-Some.is))
    (goes_as _ _ _ _ (manifest_in bad_manifest more home) _ _ (ap (behind bad_manifest more) c.in-Err.is) (c.in_ok-found.ensures.went bad_manifest more))

pub returns-clause-went : goal.returns-clause-went
returns-clause-went g c next =
    let more = exported c.args.form c.args.request.now next in
    let at = packaged_at c.args.form c.args.request.now next in
    let home = c.in-Some.home in
    went_from c.exported.result _ _ _ _ (manifest_in bad_manifest more home) (at c.args.home) (λ end. on end next) (ap at (sym c.in-Some.is))
    (then_went _ _ _ _ _ _ (manifest_in bad_manifest more home) _ _ (c.in_ok-found.ensures.went bad_manifest more) (ap (behind bad_manifest more) c.in-Ok.is)
    c.exported.result (λ end. on end next) (c.exported.ensures.went next))
