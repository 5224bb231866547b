use Rattle.es_exports.specs.Noting.{AreNoted}
use Rattle.es_exports.specs.Origins.{of_named}
use Rattle.es_exports.proofs.origins.named.Given as goal

abbrev pub invariant-loop-place : goal.invariant-loop-place
invariant-loop-place l = AreNoted (of_named l.sight l.inside) l.place l.named
