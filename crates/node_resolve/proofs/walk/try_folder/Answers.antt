use Rattle.std.proofs.Common.{Option, sym, ap, ◌∙◌}
use Rattle.node_resolve.specs.declared.sight.Package.{Package}
use Rattle.node_resolve.specs.Places.{folder_paths}
use Rattle.node_resolve.specs.Resolution.{files, as_folder, bad_manifest}
use Rattle.node_resolve.specs.Walks.{on, behind}
use Rattle.node_resolve.proofs.Turns.{then_went}
use Rattle.node_resolve.proofs.Walking.{goes_as, fails_as, no_memory}
use Rattle.node_resolve.proofs.walk.try_folder.Goals as goal

pub returns-in_err-found-clause-went : goal.returns-in_err-found-clause-went
returns-in_err-found-clause-went g c next =
    let path = c.args.path.now in
    fails_as c.from_residual.result c.in_err-found.field-0.0 _ _ _ _ (as_folder path next) (λ end. on end next) c.from_residual.ensures.1
    (c.in_err-found.ensures.went bad_manifest (λ (owner : Option Package). files (folder_paths path owner) next))

pub returns-in-Err-clause-went : goal.returns-in-Err-clause-went
returns-in-Err-clause-went g c next =
    let path = c.args.path.now in
    let more = λ (owner : Option Package). files (folder_paths path owner) next in
    goes_as _ _ _ _ (as_folder path next) _ _ (ap (behind bad_manifest more) c.in-Err.is) (c.in_ok-found.ensures.went bad_manifest more)

pub returns-in_err-paths-in-Ok-clause-went : goal.returns-in_err-paths-in-Ok-clause-went
returns-in_err-paths-in-Ok-clause-went g c next =
    let path = c.args.path.now in
    let other = c.from_residual-in_err-paths-in-Ok in
    no_memory other.result _ _ _ _ _ (as_folder path next) _ (λ end. on end next) other.ensures.1 (c.in_ok-found.ensures.went bad_manifest (λ (owner : Option Package). files (folder_paths path owner) next))

pub returns-in_ok-paths-in-Ok-clause-went : goal.returns-in_ok-paths-in-Ok-clause-went
returns-in_ok-paths-in-Ok-clause-went g c next =
    let path = c.args.path.now in
    let more = λ (owner : Option Package). files (folder_paths path owner) next in
    then_went _ _ _ _ _ _ (as_folder path next) _ _ (c.in_ok-found.ensures.went bad_manifest more)
    (ap (behind bad_manifest more) c.in-Ok.is ∙ ap (λ l. files l next) (sym (c.as_slice.ensures.value ∙ c.in_ok-paths-in-Ok.ensures)))
    c.first_file.result (λ end. on end next) (c.first_file.ensures.went next)
