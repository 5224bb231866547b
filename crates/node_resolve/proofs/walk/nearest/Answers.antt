use Rattle.std.proofs.Common.{◌+◌, ◌≤◌, None, length, drop, sym, ap, arith}
use Rattle.std.proofs.lemmas.List.{drop_all}
use Rattle.node_resolve.specs.Resolution.{manifest_in, nearest, or_else}
use Rattle.node_resolve.specs.Walks.{behind}
use Rattle.node_resolve.proofs.Turns.{at_packages, at_manifest, or_else_found, or_else_none, then_goes, then_fails}
use Rattle.node_resolve.proofs.Walking.{goes_as, goes_nowhere}
use Rattle.node_resolve.proofs.walk.nearest.Goals as goal

pub loop-folder-init : goal.loop-folder-init
loop-folder-init g c = record { fits = c.requires.fits; goes = λ bad next. goes_nowhere _ c.args.asked.now.items (nearest bad next c.args.folders.now) }

pub returns-then-holds_packages-clause-went : goal.returns-then-holds_packages-clause-went
returns-then-holds_packages-clause-went g c bad next =
    let folders = c.args.folders.now in
    goes_as _ _ _ _ (nearest bad next folders) _ (next None)
    (at_packages bad next folders c.loop-folder.folder-index c.folder-item.result c.folder-item.is c.loop-folder-test.true (sym c.if-holds_packages.ensures)) (c.loop-folder.invariant.goes bad next)

pub returns-in_err-found-clause-went : goal.returns-in_err-found-clause-went
returns-in_err-found-clause-went g c bad next =
    let folders = c.args.folders.now in
    let folder = c.folder-item.result in
    let rest = nearest bad next (drop (c.loop-folder.folder-index + 1) folders) in
    then_fails _ _ _ _ _ _ _ _ (manifest_in bad (or_else next rest) folder) (c.loop-folder.invariant.goes bad next)
    (at_manifest bad next folders c.loop-folder.folder-index folder c.folder-item.is c.loop-folder-test.true (sym c.if-holds_packages.ensures))
    c.from_residual.result c.in_err-found.field-0.0 (behind bad next) c.from_residual.ensures.1 (c.in_err-found.ensures.went bad (or_else next rest))

pub returns-then-is_found-clause-went : goal.returns-then-is_found-clause-went
returns-then-is_found-clause-went g c bad next =
    let folders = c.args.folders.now in
    let folder = c.folder-item.result in
    let rest = nearest bad next (drop (c.loop-folder.folder-index + 1) folders) in
    let found = c.in_ok-found.found in
    goes_as _ _ _ _ (nearest bad next folders) (behind bad (or_else next rest) found) (behind bad next found) (or_else_found bad next rest found (sym c.if-is_found.ensures))
    (then_goes _ _ _ _ _ _ _ _ (manifest_in bad (or_else next rest) folder) (c.loop-folder.invariant.goes bad next)
    (at_manifest bad next folders c.loop-folder.folder-index folder c.folder-item.is c.loop-folder-test.true (sym c.if-holds_packages.ensures))
    (behind bad (or_else next rest) found) (c.in_ok-found.ensures.went bad (or_else next rest)))

pub loop-folder-preserved : goal.loop-folder-preserved
loop-folder-preserved g c = record {
  fits = c.in_ok-found.ensures.fits;
  goes = λ bad next.
      let folders = c.args.folders.now in
      let folder = c.folder-item.result in
      let rest = nearest bad next (drop (c.loop-folder.folder-index + 1) folders) in
      let found = c.in_ok-found.found in
      goes_as _ _ _ _ (nearest bad next folders) (behind bad (or_else next rest) found) rest (or_else_none bad next rest found (sym c.if-is_found.ensures))
      (then_goes _ _ _ _ _ _ _ _ (manifest_in bad (or_else next rest) folder) (c.loop-folder.invariant.goes bad next)
      (at_manifest bad next folders c.loop-folder.folder-index folder c.folder-item.is c.loop-folder-test.true (sym c.if-holds_packages.ensures))
      (behind bad (or_else next rest) found) (c.in_ok-found.ensures.went bad (or_else next rest)));
}

pub returns-clause-went : goal.returns-clause-went
returns-clause-went g c bad next =
    let folders = c.args.folders.now in
    let past : length folders ≤ c.loop-folder.folder-index = omega arith in
    goes_as _ _ _ _ (nearest bad next folders) _ (next None) (ap (nearest bad next) (drop_all c.loop-folder.folder-index folders past)) (c.loop-folder.invariant.goes bad next)
