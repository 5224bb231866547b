-- the numbers of the bindings that were gone through
use Rattle.es_touches.proofs.NumberLaws.{AreNumbersTo}
use Rattle.es_touches.proofs.numbers.numbers_of.Given as goal

abbrev pub invariant-loop-index : goal.invariant-loop-index
invariant-loop-index l = AreNumbersTo l.scopes.texts l.bindings l.index l.table.items
