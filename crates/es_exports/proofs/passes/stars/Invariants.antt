use Rattle.std.proofs.Common.{◌≡◌}
use Rattle.es_exports.specs.Origins.{star_at}
use Rattle.es_exports.specs.Passing.{those}
use Rattle.es_exports.proofs.passes.stars.Given as goal

abbrev pub invariant-loop-place : goal.invariant-loop-place
invariant-loop-place l = l.stars.items ≡ those (star_at l.sight l.inside) l.place
