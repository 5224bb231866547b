use Rattle.std.proofs.Common.{◌≡◌, length}
use Rattle.std.specs.List.{list_any}
use Rattle.pkg_manifest.specs.Patterns.{is_special}
use Rattle.pkg_manifest.proofs.pattern.has_special.Given as goal

abbrev pub invariant-loop-pattern : goal.invariant-loop-pattern
invariant-loop-pattern l = list_any is_special l.pattern ≡ list_any is_special l.initial.pattern

abbrev pub decreases-loop-pattern : goal.decreases-loop-pattern
decreases-loop-pattern l = length l.pattern
