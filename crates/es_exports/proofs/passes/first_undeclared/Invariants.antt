use Rattle.std.proofs.Common.{◌≡◌, ◌<◌, ℕ, false}
use Rattle.es_exports.specs.Origins.{exports_undeclared}
use Rattle.es_exports.proofs.passes.first_undeclared.Given as goal

abbrev pub invariant-loop-place : goal.invariant-loop-place
invariant-loop-place l = (other : ℕ) → other < l.place → exports_undeclared l.sight l.inside other ≡ false
