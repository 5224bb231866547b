use Rattle.pkg_exports.specs.declared.answer.Table.TheVariants.{Imports}
use Rattle.node_resolve.specs.Aims.{by_map}
use Rattle.node_resolve.specs.Candidates.{decided}
use Rattle.node_resolve.specs.Resolution.{bare, imported}
use Rattle.node_resolve.proofs.Walking.{went_from, stays_at}
use Rattle.node_resolve.proofs.Packages.{no_importer, no_imports, by_imports}
use Rattle.node_resolve.proofs.package.imported_from.Goals as goal

pub returns-in_default-clause-went : goal.returns-in_default-clause-went
returns-in_default-clause-went g c = stays_at _ _ _ _ (no_importer c.args.form c.args.request.now c.args.owner.now c.in_default.is)

pub returns-in_default-imports-clause-went : goal.returns-in_default-imports-clause-went
returns-in_default-imports-clause-went g c =
    stays_at _ _ _ _ (no_imports c.args.form c.args.request.now c.args.owner.now c.in-Some.owner c.in-Some.is c.in_default-imports.is)

pub returns-clause-went : goal.returns-clause-went
returns-clause-went g c =
    let owner = c.in-Some.owner in
    let map = c.in-Some-imports.map in
    went_from c.by_imports.result _ _ _ _ (by_map c.args.form Imports owner map c.args.request.now (bare c.args.form owner.folder)) (imported c.args.form c.args.request.now c.args.owner.now) decided
    (by_imports c.args.form c.args.request.now c.args.owner.now owner map c.in-Some.is c.in-Some-imports.is) c.by_imports.ensures.went
