-- the names that were gone through are used
use Rattle.std.proofs.Common.{take}
use Rattle.prune_graph.specs.Gathering.{the_names}
use Rattle.export_usage.specs.Claims.{AreUsed, Learns}
use Rattle.export_usage.proofs.follow.put_names.Given as goal

abbrev pub invariant-loop-name : goal.invariant-loop-name
invariant-loop-name l = Learns l.fn.facts (AreUsed l.module (take l.name-index (the_names l.names))) l.facts
