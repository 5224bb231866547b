use Rattle.es_declares.proofs.BoundLaws.{AreBoundTo}
use Rattle.es_declares.proofs.bindings.all_bindings.Given as goal

abbrev pub invariant-loop-place : goal.invariant-loop-place
invariant-loop-place l = AreBoundTo l.outlined l.scopes.texts l.place l.bindings
