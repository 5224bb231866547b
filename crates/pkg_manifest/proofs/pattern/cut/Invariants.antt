use Rattle.std.proofs.Common.{◌≡◌, ◌-◌, length, take, drop}
use Rattle.pkg_manifest.specs.Patterns.{segments}
use Rattle.pkg_manifest.proofs.Cutting.{glued}
use Rattle.pkg_manifest.proofs.pattern.cut.Given as goal

abbrev pub invariant-loop-at : goal.invariant-loop-at
invariant-loop-at l = (segments l.fn.text ≡ glued (take l.at l.fn.text) (segments (drop l.at l.fn.text)))

abbrev pub decreases-loop-at : goal.decreases-loop-at
decreases-loop-at l = length l.fn.text - l.at
