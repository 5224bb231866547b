use Rattle.std.proofs.Common.{sym, ap, ◌∙◌}
use Rattle.std.specs.Prelude.{option_copied}
use Rattle.pkg_exports.specs.declared.answer.Table.TheVariants.{Exports}
use Rattle.node_resolve.specs.Aims.{by_map}
use Rattle.node_resolve.specs.Requests.{key_of}
use Rattle.node_resolve.specs.Resolution.{no_bare, exported}
use Rattle.node_resolve.specs.Walks.{on}
use Rattle.node_resolve.proofs.Walking.{goes_from, fails_as, went_from, stays_at}
use Rattle.node_resolve.proofs.Packages.{no_owner, no_exports, by_exports}
use Rattle.node_resolve.proofs.package.exported.Goals as goal

pub returns-in_default-clause-went : goal.returns-in_default-clause-went
returns-in_default-clause-went g c next = stays_at _ _ _ _ (no_owner c.args.form c.args.request.now next c.args.owner.now c.in_default.is)

pub returns-in_default-exports_of-clause-went : goal.returns-in_default-exports_of-clause-went
returns-in_default-exports_of-clause-went g c next =
    stays_at _ _ _ _ (no_exports c.args.form c.args.request.now next c.args.owner.now c.in-Some.owner c.in-Some.is (sym c.exports_of.ensures ∙ ap option_copied c.in_default-exports_of.is))

pub returns-in_err-verdict-clause-went : goal.returns-in_err-verdict-clause-went
returns-in_err-verdict-clause-went g c next =
    let owner = c.in-Some.owner in
    let map = c.in-Some-exports_of.map.now in
    went_from c.from_residual.result _ _ _ _ (by_map c.args.form Exports owner map (key_of c.args.request.now) no_bare) (exported c.args.form c.args.request.now next c.args.owner.now) (λ end. on end next)
    (by_exports c.args.form c.args.request.now next c.args.owner.now owner map c.in-Some.is (sym c.exports_of.ensures ∙ ap option_copied c.in-Some-exports_of.is))
    (fails_as c.from_residual.result c.in_err-verdict.field-0.0 _ _ _ _ (by_map c.args.form Exports owner map (key_of c.args.request.now) no_bare) (λ end. on end next) c.from_residual.ensures.1 c.in_err-verdict.ensures.went)

pub returns-clause-went : goal.returns-clause-went
returns-clause-went g c next =
    let owner = c.in-Some.owner in
    let map = c.in-Some-exports_of.map.now in
    goes_from _ _ _ _ _ (exported c.args.form c.args.request.now next c.args.owner.now) _
    (by_exports c.args.form c.args.request.now next c.args.owner.now owner map c.in-Some.is (sym c.exports_of.ensures ∙ ap option_copied c.in-Some-exports_of.is)) c.in_ok-verdict.ensures.went
