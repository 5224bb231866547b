use Rattle.pkg_exports.specs.Choices.{Chosen}
use Rattle.pkg_exports.proofs.key.deciding.Given as goal

abbrev pub invariant-loop-place : goal.invariant-loop-place
invariant-loop-place l = Chosen l.entries l.key l.place l.best
