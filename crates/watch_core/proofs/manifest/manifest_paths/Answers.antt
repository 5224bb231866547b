use Rattle.watch_core.proofs.Outwards.{goes_on}
use Rattle.std.proofs.Common.{rules}
use Rattle.watch_core.specs.Manifests.{manifest_paths}
use Rattle.watch_core.proofs.manifest.manifest_paths.Goals as goal

pub folders-preserved : goal.folders-preserved
folders-preserved c = goes_on c.folders.folder c.in_ok-folder-2.folder c.folders.paths.items c.put_manifest.new.paths.items (manifest_paths c.args.path.now) (search rules) (search rules) (search rules) (search rules) (search rules) c.folders.invariant
