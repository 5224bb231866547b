-- what is there, and what is left
use Rattle.std.proofs.Common.{◌≡◌, nat_eq, drop}
use Rattle.indexmap.specs.IndexSet.{insert_all}
use Rattle.prune_graph.proofs.edges.add_all.Given as goal

abbrev pub invariant-loop-number : goal.invariant-loop-number
invariant-loop-number l = insert_all nat_eq l.numbers.keys (drop l.number-index l.more) ≡ insert_all nat_eq l.initial.numbers.keys l.more
