use Rattle.es_scope.specs.Named.{IsArguments}
use Rattle.es_scope.proofs.Numbering.{AreNumberedTo}
use Rattle.es_scope.proofs.names.numbered.Given as goal

abbrev pub invariant-loop-mark : goal.invariant-loop-mark
invariant-loop-mark l = record {
  numbered : AreNumberedTo l.outlined l.texts l.mark-index l.numbers.items;
  arguments : IsArguments l.texts l.arguments;
}
