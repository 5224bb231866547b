-- none so far
use Rattle.std.proofs.Common.{ℕ, ◌<◌}
use Rattle.es_scope.specs.Declaring.{default_binding}
use Rattle.es_touches.specs.Touches.{IsNamed}
use Rattle.es_touches.proofs.numbers.default_number.Given as goal

abbrev pub invariant-loop-index : goal.invariant-loop-index
invariant-loop-index l = (number : ℕ) → number < l.index → ¬ IsNamed l.bindings number default_binding
