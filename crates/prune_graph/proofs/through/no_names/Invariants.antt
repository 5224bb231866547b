-- no name so far
use Rattle.std.proofs.Common.{◌≡◌, ℕ, List, [], Contains, length, get_or}
use Rattle.prune_graph.specs.Gathering.{name_lists}
use Rattle.prune_graph.proofs.through.no_names.Given as goal

abbrev pub invariant-loop : goal.invariant-loop
invariant-loop l = record {
  each : length l.names.items ≡ l.counter;
  none : (request : ℕ) (name : List ℕ) → ¬ Contains (get_or (name_lists l.names.items) request []) name;
}
