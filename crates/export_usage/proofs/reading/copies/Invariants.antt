-- copies of the names that were gone through
use Rattle.std.proofs.Common.{◌≡◌, take}
use Rattle.prune_graph.specs.Gathering.{the_names}
use Rattle.export_usage.proofs.reading.copies.Given as goal

abbrev pub invariant-loop-name : goal.invariant-loop-name
invariant-loop-name l = l.copies.items ≡ the_names (take l.name-index l.names)
