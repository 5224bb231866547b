-- what is known of the places before
use Rattle.es_scope.proofs.FirstTwice.{IsSearched}
use Rattle.es_scope.proofs.twice.first_twice.Given as goal

abbrev pub invariant-loop-index : goal.invariant-loop-index
invariant-loop-index l = IsSearched l.outlined l.names.numbers.items l.index l.parts l.noted
