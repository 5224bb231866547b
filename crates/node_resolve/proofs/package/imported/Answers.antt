use Rattle.std.proofs.Common.{ap, ◌∙◌}
use Rattle.node_resolve.specs.Candidates.{decided}
use Rattle.node_resolve.specs.Folders.{outward}
use Rattle.node_resolve.specs.Resolution.{imported, nearest, bad_manifest}
use Rattle.node_resolve.specs.Walks.{behind}
use Rattle.node_resolve.proofs.Walking.{goes_as, goes_from, fails_as, memory_lost, went_from}
use Rattle.node_resolve.proofs.Turns.{then_went}
use Rattle.node_resolve.proofs.package.imported.Goals as goal

pub returns-in_err-above-clause-went : goal.returns-in_err-above-clause-went
returns-in_err-above-clause-went g c =
    memory_lost c.from_residual.result _ _ _ (nearest bad_manifest (imported c.args.form c.args.request.now) (outward c.args.folder.now)) decided c.from_residual.ensures.1

pub returns-in_err-found-clause-went : goal.returns-in_err-found-clause-went
returns-in_err-found-clause-went g c =
    let more = imported c.args.form c.args.request.now in
    let from = nearest bad_manifest more c.as_slice.result.now in
    let whole = nearest bad_manifest more (outward c.args.folder.now) in
    let same = ap (nearest bad_manifest more) (c.as_slice.ensures.value ∙ c.in_ok-above.ensures) in
    let other = c.from_residual-in_err-found in
    went_from other.result _ _ _ _ from whole decided same
    (fails_as other.result c.in_err-found.field-0.0 _ _ _ _ from decided other.ensures.1 (c.in_err-found.ensures.went bad_manifest more))

pub returns-in-Err-clause-went : goal.returns-in-Err-clause-went
returns-in-Err-clause-went g c =
    let more = imported c.args.form c.args.request.now in
    let from = nearest bad_manifest more c.as_slice.result.now in
    let whole = nearest bad_manifest more (outward c.args.folder.now) in
    let same = ap (nearest bad_manifest more) (c.as_slice.ensures.value ∙ c.in_ok-above.ensures) in
    goes_from _ _ _ _ from whole _ same
    (goes_as _ _ _ _ from _ _ (ap (behind bad_manifest more) c.in-Err.is) (c.in_ok-found.ensures.went bad_manifest more))

pub returns-clause-went : goal.returns-clause-went
returns-clause-went g c =
    let more = imported c.args.form c.args.request.now in
    let from = nearest bad_manifest more c.as_slice.result.now in
    let whole = nearest bad_manifest more (outward c.args.folder.now) in
    let same = ap (nearest bad_manifest more) (c.as_slice.ensures.value ∙ c.in_ok-above.ensures) in
    went_from c.imported_from.result _ _ _ _ from whole decided same
    (then_went _ _ _ _ _ _ from _ _ (c.in_ok-found.ensures.went bad_manifest more) (ap (behind bad_manifest more) c.in-Ok.is) c.imported_from.result decided c.imported_from.ensures.went)
