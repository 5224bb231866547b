-- none so far
use Rattle.std.proofs.Common.{◌≡◌, ℕ, ◌<◌, true, slice_get}
use Rattle.es_refusals.specs.Names.{gives_arguments}
use Rattle.es_refusals.proofs.names.has_arguments.Given as goal

abbrev pub invariant-loop-place : goal.invariant-loop-place
invariant-loop-place l = (k : ℕ) → k < l.place → gives_arguments l.outlined l.scopes k (slice_get l.outlined.marks k) ≡ true → ⊥
