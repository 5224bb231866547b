use Rattle.std.proofs.Common.{◌+◌, ◌≤◌, length, drop, ap, arith, rules}
use Rattle.std.proofs.lemmas.List.{drop_all}
use Rattle.node_resolve.specs.Resolution.{no_file, packaged_unless, packaged}
use Rattle.node_resolve.specs.Walks.{on}
use Rattle.node_resolve.proofs.Walking.{goes_nowhere, goes_as, same_end, no_end}
use Rattle.node_resolve.proofs.Turns.{then_goes, then_fails}
use Rattle.node_resolve.proofs.Packages.{at_folder}
use Rattle.node_resolve.proofs.package.packaged.Goals as goal

pub loop-folder-init : goal.loop-folder-init
loop-folder-init g c = record { fits = c.requires.fits; goes = goes_nowhere _ c.args.asked.now.items (packaged c.args.form c.args.request.now c.args.folders.now) }

pub returns-in_err-end-clause-went : goal.returns-in_err-end-clause-went
returns-in_err-end-clause-went g c =
    let form = c.args.form in
    let request = c.args.request.now in
    let folders = c.args.folders.now in
    let folder = c.folder-item.result in
    let i = c.loop-folder.folder-index in
    let rest = packaged form request (drop (i + 1) folders) in
    then_fails _ _ _ _ _ _ _ _ (packaged_unless form request rest folder) c.loop-folder.invariant.goes (at_folder form request folders i folder c.folder-item.is c.loop-folder-test.true)
    c.from_residual.result c.in_err-end.field-0.0 (λ end. on end no_file) c.from_residual.ensures.1 (c.in_err-end.ensures.went rest)

pub returns-then-is_some-clause-went : goal.returns-then-is_some-clause-went
returns-then-is_some-clause-went g c =
    let form = c.args.form in
    let request = c.args.request.now in
    let folders = c.args.folders.now in
    let folder = c.folder-item.result in
    let i = c.loop-folder.folder-index in
    let rest = packaged form request (drop (i + 1) folders) in
    let end = c.in_ok-end.end in
    goes_as _ _ _ _ (packaged form request folders) (on end rest) (on end no_file) (same_end end rest no_file (search rules))
    (then_goes _ _ _ _ _ _ _ _ (packaged_unless form request rest folder) c.loop-folder.invariant.goes (at_folder form request folders i folder c.folder-item.is c.loop-folder-test.true) (on end rest) (c.in_ok-end.ensures.went rest))

pub loop-folder-preserved : goal.loop-folder-preserved
loop-folder-preserved g c =
    let form = c.args.form in
    let request = c.args.request.now in
    let folders = c.args.folders.now in
    let folder = c.folder-item.result in
    let i = c.loop-folder.folder-index in
    let rest = packaged form request (drop (i + 1) folders) in
    let end = c.in_ok-end.end in
    record {
      fits = c.in_ok-end.ensures.fits;
      goes = goes_as _ _ _ _ (packaged form request folders) (on end rest) rest (no_end end rest (search rules))
          (then_goes _ _ _ _ _ _ _ _ (packaged_unless form request rest folder) c.loop-folder.invariant.goes (at_folder form request folders i folder c.folder-item.is c.loop-folder-test.true) (on end rest) (c.in_ok-end.ensures.went rest));
    }

pub returns-clause-went : goal.returns-clause-went
returns-clause-went g c =
    let folders = c.args.folders.now in
    let past : length folders ≤ c.loop-folder.folder-index = omega arith in
    goes_as _ _ _ _ (packaged c.args.form c.args.request.now folders) _ no_file (ap (packaged c.args.form c.args.request.now) (drop_all c.loop-folder.folder-index folders past)) c.loop-folder.invariant.goes
