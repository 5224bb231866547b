use Rattle.std.proofs.Common.{None, sym, ap}
use Rattle.node_resolve.specs.Candidates.{manifest}
use Rattle.node_resolve.specs.Resolution.{by_sight, manifest_at}
use Rattle.node_resolve.specs.Walks.{behind}
use Rattle.node_resolve.proofs.Walking.{goes_as, goes_from, goes_nowhere, no_memory, went_from}
use Rattle.node_resolve.proofs.ask.manifest_at.Goals as goal

pub returns-in_err-found-in-Some-clause-went : goal.returns-in_err-found-in-Some-clause-went
returns-in_err-found-in-Some-clause-went g c bad next =
    let folder = c.args.folder.now in
    let path = c.in-Some.path in
    let sight = c.in_ok-sight-in-Some.sight in
    let other = c.from_residual-in_err-found-in-Some in
    went_from other.result _ _ _ _ (manifest path (by_sight bad next folder path)) _ (behind bad next) (ap (manifest_at bad next folder) (sym c.in-Some.is))
    (no_memory other.result _ _ _ _ _ (manifest path (by_sight bad next folder path)) (by_sight bad next folder path sight) (behind bad next) other.ensures.1
    (c.in_ok-sight-in-Some.ensures.went (by_sight bad next folder path)))

pub returns-in-None-clause-went : goal.returns-in-None-clause-went
returns-in-None-clause-went g c bad next =
    goes_from _ _ _ _ (next None) _ (next None) (ap (manifest_at bad next c.args.folder.now) (sym c.in-None.is)) (goes_nowhere _ c.args.asked.now.items (next None))

pub returns-in_ok-found-in-Some-clause-went : goal.returns-in_ok-found-in-Some-clause-went
returns-in_ok-found-in-Some-clause-went g c bad next =
    let folder = c.args.folder.now in
    let path = c.in-Some.path in
    let sight = c.in_ok-sight-in-Some.sight in
    goes_from _ _ _ _ (manifest path (by_sight bad next folder path)) _ _ (ap (manifest_at bad next folder) (sym c.in-Some.is))
    (goes_as _ _ _ _ _ (by_sight bad next folder path sight) _ (c.in_ok-found-in-Some.ensures bad next) (c.in_ok-sight-in-Some.ensures.went (by_sight bad next folder path)))
