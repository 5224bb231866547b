use Rattle.std.proofs.Common.{◌++◌, ap, ◌∙◌, rules}
use Rattle.pk_base.specs.Paths.{joined}
use Rattle.node_resolve.specs.Resolution.{as_either, packages_name, packaged_at, packaged_in}
use Rattle.node_resolve.specs.Walks.{on}
use Rattle.node_resolve.proofs.Walking.{goes_as, goes_from, fails_as, same_end, no_end, memory_lost, went_from}
use Rattle.node_resolve.proofs.Turns.{then_went}
use Rattle.node_resolve.proofs.package.packaged_in.Goals as goal

pub returns-in_err-home-clause-went : goal.returns-in_err-home-clause-went
returns-in_err-home-clause-went g c next =
    memory_lost c.from_residual.result _ _ _ (packaged_in c.args.form c.args.request.now next c.args.folder.now) (λ end. on end next) c.from_residual.ensures.1

pub returns-in_err-end-clause-went : goal.returns-in_err-end-clause-went
returns-in_err-end-clause-went g c next =
    let request = c.args.request.now in
    let folder = c.args.folder.now in
    let rest = as_either (joined folder (packages_name ++ request)) next in
    let at = packaged_at c.args.form request rest in
    let other = c.from_residual-in_err-end in
    went_from other.result _ _ _ _ (at c.in_ok-home.home) (packaged_in c.args.form request next folder) (λ end. on end next)
    (ap at (c.in_ok-home.ensures ∙ ap (λ name. joined folder (packages_name ++ name)) c.name_of.ensures))
    (fails_as other.result c.in_err-end.field-0.0 _ _ _ _ (at c.in_ok-home.home) (λ end. on end next) other.ensures.1 (c.in_err-end.ensures.went rest))

pub returns-then-is_some-clause-went : goal.returns-then-is_some-clause-went
returns-then-is_some-clause-went g c next =
    let request = c.args.request.now in
    let folder = c.args.folder.now in
    let rest = as_either (joined folder (packages_name ++ request)) next in
    let at = packaged_at c.args.form request rest in
    let end = c.in_ok-end.end in
    goes_from _ _ _ _ (at c.in_ok-home.home) (packaged_in c.args.form request next folder) _
    (ap at (c.in_ok-home.ensures ∙ ap (λ name. joined folder (packages_name ++ name)) c.name_of.ensures))
    (goes_as _ _ _ _ (at c.in_ok-home.home) (on end rest) (on end next) (same_end end rest next (search rules)) (c.in_ok-end.ensures.went rest))

pub returns-clause-went : goal.returns-clause-went
returns-clause-went g c next =
    let request = c.args.request.now in
    let folder = c.args.folder.now in
    let rest = as_either (joined folder (packages_name ++ request)) next in
    let at = packaged_at c.args.form request rest in
    let end = c.in_ok-end.end in
    went_from c.try_place.result _ _ _ _ (at c.in_ok-home.home) (packaged_in c.args.form request next folder) (λ end. on end next)
    (ap at (c.in_ok-home.ensures ∙ ap (λ name. joined folder (packages_name ++ name)) c.name_of.ensures))
    (then_went _ _ _ _ _ _ (at c.in_ok-home.home) _ rest (c.in_ok-end.ensures.went rest) (no_end end rest (search rules)) c.try_place.result (λ end. on end next) (c.try_place.ensures.went next))
