use Rattle.std.proofs.Common.{sym, ap, ◌∙◌}
use Rattle.node_resolve.specs.Candidates.{decided}
use Rattle.node_resolve.specs.Folders.{outward}
use Rattle.node_resolve.specs.Resolution.{bare, imported, nearest, bad_manifest, of_kind, relative, candidates}
use Rattle.node_resolve.proofs.Walking.{went_from, stays_at}
use Rattle.node_resolve.proofs.resolving.verdict.Goals as goal

pub returns-in-Relative-clause-went : goal.returns-in-Relative-clause-went
returns-in-Relative-clause-went g c =
    let form = c.args.form in
    let folder = c.args.folder.now in
    let request = c.args.request.now in
    went_from c.relative.result _ _ _ _ (relative folder request) (candidates form folder request) decided
    (ap (of_kind c.args.form c.args.folder.now c.args.request.now) (sym c.in-Relative.is ∙ c.kind_of.ensures)) c.relative.ensures.went

pub returns-in-Nowhere-clause-went : goal.returns-in-Nowhere-clause-went
returns-in-Nowhere-clause-went g c = stays_at _ _ _ _ (ap (of_kind c.args.form c.args.folder.now c.args.request.now) (sym c.in-Nowhere.is ∙ c.kind_of.ensures))

pub returns-in-BadImport-clause-went : goal.returns-in-BadImport-clause-went
returns-in-BadImport-clause-went g c = stays_at _ _ _ _ (ap (of_kind c.args.form c.args.folder.now c.args.request.now) (sym c.in-BadImport.is ∙ c.kind_of.ensures))

pub returns-in-Import-clause-went : goal.returns-in-Import-clause-went
returns-in-Import-clause-went g c =
    let form = c.args.form in
    let folder = c.args.folder.now in
    let request = c.args.request.now in
    went_from c.imported.result _ _ _ _ (nearest bad_manifest (imported form request) (outward folder)) (candidates form folder request) decided
    (ap (of_kind c.args.form c.args.folder.now c.args.request.now) (sym c.in-Import.is ∙ c.kind_of.ensures)) c.imported.ensures.went

pub returns-in-Bare-clause-went : goal.returns-in-Bare-clause-went
returns-in-Bare-clause-went g c =
    let form = c.args.form in
    let folder = c.args.folder.now in
    let request = c.args.request.now in
    went_from c.bare.result _ _ _ _ (bare form folder request) (candidates form folder request) decided
    (ap (of_kind c.args.form c.args.folder.now c.args.request.now) (sym c.in-Bare.is ∙ c.kind_of.ensures)) c.bare.ensures.went
