use Rattle.std.proofs.Common.{◌≡◌, ◌-◌, false, length, take}
use Rattle.pkg_exports.specs.Texts.{has}
use Rattle.pkg_exports.proofs.text.cut.Given as goal

abbrev pub invariant-loop-at : goal.invariant-loop-at
invariant-loop-at l = has l.byte (take l.at l.text) ≡ false

abbrev pub decreases-loop-at : goal.decreases-loop-at
decreases-loop-at l = length l.text - l.at
