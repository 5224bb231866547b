-- the modules that were gone through are reached, and all that they export is used
use Rattle.std.proofs.Common.{take}
use Rattle.export_usage.specs.Claims.{AreExposed, Learns}
use Rattle.export_usage.proofs.facts.Facts.put_all_exposed.Given as goal

abbrev pub invariant-loop-module : goal.invariant-loop-module
invariant-loop-module l = Learns l.fn.self (AreExposed (take l.module-index l.modules)) l.self
