-- the modules that were gone through are reached
use Rattle.std.proofs.Common.{take}
use Rattle.export_usage.specs.Claims.{AreReached, Learns}
use Rattle.export_usage.proofs.facts.Facts.put_all_reached.Given as goal

abbrev pub invariant-loop-module : goal.invariant-loop-module
invariant-loop-module l = Learns l.fn.self (AreReached (take l.module-index l.modules)) l.self
