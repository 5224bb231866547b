use Rattle.std.proofs.Common.{◌∙◌}
use Rattle.pkg_exports.specs.declared.answer.Table.TheVariants.{Exports}
use Rattle.node_resolve.specs.Aims.{by_map}
use Rattle.node_resolve.specs.Candidates.{decided}
use Rattle.node_resolve.specs.Requests.{key_of}
use Rattle.node_resolve.specs.Resolution.{no_bare}
use Rattle.node_resolve.proofs.Walking.{went_then, memory_lost}
use Rattle.node_resolve.proofs.Packages.{goes_by_map}
use Rattle.node_resolve.proofs.package.by_exports.Goals as goal

pub returns-in_err-key-clause-went : goal.returns-in_err-key-clause-went
returns-in_err-key-clause-went g c =
    memory_lost c.from_residual.result _ _ _ (by_map c.args.form Exports c.args.owner.now c.args.map.now (key_of c.args.request.now) no_bare) decided c.from_residual.ensures.1

pub returns-in_err-aim-clause-went : goal.returns-in_err-aim-clause-went
returns-in_err-aim-clause-went g c =
    let other = c.from_residual-in_err-aim in
    memory_lost other.result _ _ _ (by_map c.args.form Exports c.args.owner.now c.args.map.now (key_of c.args.request.now) no_bare) decided other.ensures.1

pub returns-in-File-clause-went : goal.returns-in-File-clause-went
returns-in-File-clause-went g c =
    let owner = c.args.owner.now in
    let map = c.args.map.now in
    let key = key_of c.args.request.now in
    went_then _ _ _ _ _ _ _ _ (goes_by_map _ _ c.args.form Exports map key owner no_bare c.as_slice.result.now c.in_ok-aim.aim _ (c.as_slice.ensures ∙ c.in_ok-key.ensures) c.in_ok-aim.ensures c.in-File.is) c.exact.result decided (c.exact.ensures.went no_bare)

pub returns-in-Bare-clause-went : goal.returns-in-Bare-clause-went
returns-in-Bare-clause-went g c =
    let owner = c.args.owner.now in
    let map = c.args.map.now in
    let key = key_of c.args.request.now in
    goes_by_map _ _ c.args.form Exports map key owner no_bare c.as_slice.result.now c.in_ok-aim.aim _ (c.as_slice.ensures ∙ c.in_ok-key.ensures) c.in_ok-aim.ensures c.in-Bare.is

pub returns-clause-went : goal.returns-clause-went
returns-clause-went g c =
    let owner = c.args.owner.now in
    let map = c.args.map.now in
    let key = key_of c.args.request.now in
    goes_by_map _ _ c.args.form Exports map key owner no_bare c.as_slice.result.now c.in_ok-aim.aim _ (c.as_slice.ensures ∙ c.in_ok-key.ensures) c.in_ok-aim.ensures c.in-Ended.is
