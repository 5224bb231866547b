use Rattle.std.proofs.Common.{List, ℕ, ap, ◌∙◌, if◌then◌else◌}
use Rattle.node_resolve.specs.Candidates.{decided}
use Rattle.node_resolve.specs.Folders.{outward}
use Rattle.node_resolve.specs.Resolution.{no_file, packaged, itself, bare, nearest, bad_manifest}
use Rattle.node_resolve.specs.Walks.{behind}
use Rattle.node_resolve.proofs.Walking.{goes_as, goes_from, fails_as, memory_lost, went_from, stays_at}
use Rattle.node_resolve.proofs.Turns.{then_went}
use Rattle.node_resolve.proofs.package.bare.Goals as goal

pub returns-then-is_scope_alone-clause-went : goal.returns-then-is_scope_alone-clause-went
returns-then-is_scope_alone-clause-went g c =
    let request = c.args.request.now in
    let folders = outward c.args.folder.now in
    stays_at _ _ _ _ (ap (λ b. if b then no_file else nearest bad_manifest (itself c.args.form request (packaged c.args.form request folders)) folders) c.if-is_scope_alone.ensures)

pub returns-in_err-above-clause-went : goal.returns-in_err-above-clause-went
returns-in_err-above-clause-went g c =
    memory_lost c.from_residual.result _ _ _ (bare c.args.form c.args.folder.now c.args.request.now) decided c.from_residual.ensures.1

pub returns-in_err-found-clause-went : goal.returns-in_err-found-clause-went
returns-in_err-found-clause-went g c =
    let form = c.args.form in
    let request = c.args.request.now in
    let folders = c.as_slice-folders.result.now in
    let more = itself form request (packaged form request folders) in
    let from = nearest bad_manifest more folders in
    let whole = bare form c.args.folder.now request in
    let all = λ (l : List (List ℕ)). nearest bad_manifest (itself form request (packaged form request l)) l in
    let same = ap all (c.as_slice-folders.ensures.value ∙ c.in_ok-above.ensures) ∙ ap (λ b. if b then no_file else all (outward c.args.folder.now)) c.if-is_scope_alone.ensures in
    let other = c.from_residual-in_err-found in
    went_from other.result _ _ _ _ from whole decided same
    (fails_as other.result c.in_err-found.field-0.0 _ _ _ _ from decided other.ensures.1 (c.in_err-found.ensures.went bad_manifest more))

pub returns-in-Err-clause-went : goal.returns-in-Err-clause-went
returns-in-Err-clause-went g c =
    let form = c.args.form in
    let request = c.args.request.now in
    let folders = c.as_slice-folders.result.now in
    let more = itself form request (packaged form request folders) in
    let from = nearest bad_manifest more folders in
    let whole = bare form c.args.folder.now request in
    let all = λ (l : List (List ℕ)). nearest bad_manifest (itself form request (packaged form request l)) l in
    let same = ap all (c.as_slice-folders.ensures.value ∙ c.in_ok-above.ensures) ∙ ap (λ b. if b then no_file else all (outward c.args.folder.now)) c.if-is_scope_alone.ensures in
    goes_from _ _ _ _ from whole _ same
    (goes_as _ _ _ _ from _ _ (ap (behind bad_manifest more) c.in-Err.is) (c.in_ok-found.ensures.went bad_manifest more))

pub returns-clause-went : goal.returns-clause-went
returns-clause-went g c =
    let form = c.args.form in
    let request = c.args.request.now in
    let folders = c.as_slice-folders.result.now in
    let more = itself form request (packaged form request folders) in
    let from = nearest bad_manifest more folders in
    let whole = bare form c.args.folder.now request in
    let all = λ (l : List (List ℕ)). nearest bad_manifest (itself form request (packaged form request l)) l in
    let same = ap all (c.as_slice-folders.ensures.value ∙ c.in_ok-above.ensures) ∙ ap (λ b. if b then no_file else all (outward c.args.folder.now)) c.if-is_scope_alone.ensures in
    went_from c.bare_among.result _ _ _ _ from whole decided same
    (then_went _ _ _ _ _ _ from _ _ (c.in_ok-found.ensures.went bad_manifest more) (ap (behind bad_manifest more) c.in-Ok.is) c.bare_among.result decided c.bare_among.ensures.went)
