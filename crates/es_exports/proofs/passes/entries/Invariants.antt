use Rattle.std.proofs.Common.{◌≡◌}
use Rattle.es_exports.specs.Origins.{entry_at}
use Rattle.es_exports.specs.Passing.{those}
use Rattle.es_exports.proofs.passes.entries.Given as goal

abbrev pub invariant-loop-place : goal.invariant-loop-place
invariant-loop-place l = l.entries.items ≡ those (entry_at l.sight l.inside l.named) l.place
