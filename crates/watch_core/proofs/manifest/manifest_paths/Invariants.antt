use Rattle.std.proofs.Common.{◌≡◌, ◌++◌, length}
use Rattle.pk_base.specs.Paths.{segments}
use Rattle.watch_core.specs.Manifests.{manifests_above, manifest_paths}
use Rattle.watch_core.proofs.manifest.manifest_paths.Given as goal

abbrev pub invariant-folders : goal.invariant-folders
invariant-folders l = l.paths.items ++ manifests_above (length (segments l.folder)) l.folder ≡ manifest_paths l.path

abbrev pub decreases-folders : goal.decreases-folders
decreases-folders l = length (segments l.folder)
