-- the names that were gone through are used
use Rattle.std.proofs.Common.{take}
use Rattle.export_usage.specs.Claims.{AreUsed, Learns}
use Rattle.export_usage.proofs.facts.Facts.put_all_used.Given as goal

abbrev pub invariant-loop-name : goal.invariant-loop-name
invariant-loop-name l = Learns l.fn.self (AreUsed l.module (take l.name-index l.names)) l.self
