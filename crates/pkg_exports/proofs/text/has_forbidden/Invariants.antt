use Rattle.std.proofs.Common.{◌≡◌, length}
use Rattle.std.specs.List.{list_any}
use Rattle.pkg_manifest.specs.Patterns.{segments}
use Rattle.pkg_exports.specs.Texts.{is_forbidden}
use Rattle.pkg_exports.proofs.text.has_forbidden.Given as goal

abbrev pub invariant-loop-rest : goal.invariant-loop-rest
invariant-loop-rest l = list_any is_forbidden (segments l.text) ≡ list_any is_forbidden (segments l.initial.text)

abbrev pub decreases-loop-rest : goal.decreases-loop-rest
decreases-loop-rest l = length l.text
