use Rattle.std.proofs.Common.{◌≡◌, length}
use Rattle.graph_tests.proofs.facts_with.Given as goal

abbrev pub invariant-loop : goal.invariant-loop
invariant-loop l = length l.list.items ≡ l.counter
