use Rattle.std.proofs.Common.{ap, refl}
use Rattle.pkg_exports.specs.declared.answer.Table.TheVariants.{Imports}
use Rattle.node_resolve.specs.Aims.{by_map}
use Rattle.node_resolve.specs.Candidates.{decided}
use Rattle.node_resolve.specs.Resolution.{bare}
use Rattle.node_resolve.proofs.Walking.{went_then, memory_lost, went_from}
use Rattle.node_resolve.proofs.Packages.{goes_by_map}
use Rattle.node_resolve.proofs.package.by_imports.Goals as goal

pub returns-in_err-aim-clause-went : goal.returns-in_err-aim-clause-went
returns-in_err-aim-clause-went g c =
    let owner = c.args.owner.now in
    memory_lost c.from_residual.result _ _ _ (by_map c.args.form Imports owner c.args.map.now c.args.request.now (bare c.args.form owner.folder)) decided c.from_residual.ensures.1

pub returns-in-File-clause-went : goal.returns-in-File-clause-went
returns-in-File-clause-went g c =
    let owner = c.args.owner.now in
    let map = c.args.map.now in
    let then_bare = bare c.args.form owner.folder in
    went_then _ _ _ _ _ _ _ _ (goes_by_map _ _ c.args.form Imports map c.args.request.now owner then_bare c.args.request.now c.in_ok-aim.aim _ refl c.in_ok-aim.ensures c.in-File.is) c.exact.result decided (c.exact.ensures.went then_bare)

pub returns-in-Bare-clause-went : goal.returns-in-Bare-clause-went
returns-in-Bare-clause-went g c =
    let owner = c.args.owner.now in
    let map = c.args.map.now in
    let then_bare = bare c.args.form owner.folder in
    went_then _ _ _ _ _ _ _ _ (goes_by_map _ _ c.args.form Imports map c.args.request.now owner then_bare c.args.request.now c.in_ok-aim.aim _ refl c.in_ok-aim.ensures c.in-Bare.is) c.bare.result decided
    (went_from c.bare.result _ _ _ _ (then_bare c.as_slice.result.now) (then_bare c.in-Bare.text) decided (ap then_bare c.as_slice.ensures) c.bare.ensures.went)

pub returns-in-Ended-clause-went : goal.returns-in-Ended-clause-went
returns-in-Ended-clause-went g c =
    let owner = c.args.owner.now in
    let map = c.args.map.now in
    let then_bare = bare c.args.form owner.folder in
    goes_by_map _ _ c.args.form Imports map c.args.request.now owner then_bare c.args.request.now c.in_ok-aim.aim _ refl c.in_ok-aim.ensures c.in-Ended.is
