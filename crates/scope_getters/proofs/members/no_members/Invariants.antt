-- so many sets, and none has a module
use Rattle.std.proofs.Common.{◌≡◌, [], length}
use Rattle.std.specs.List.{All}
use Rattle.scope_getters.proofs.members.no_members.Given as goal

abbrev pub invariant-loop : goal.invariant-loop
invariant-loop l = record {
  each : length l.sets.items ≡ l.counter;
  none : All (λ set. set.items ≡ []) l.sets.items;
}
