-- what the facts say that were gone through
use Rattle.std.proofs.Common.{take}
use Rattle.prune_graph.specs.Gathering.{Gains}
use Rattle.export_usage.proofs.ReadOff.{OneSaysName, OneSaysSpace}
use Rattle.export_usage.proofs.reading.by_module.Given as goal

abbrev pub invariant-loop-fact : goal.invariant-loop-fact
invariant-loop-fact l = Gains l.initial.through (OneSaysName l.texts (take l.fact-index l.facts)) (OneSaysSpace (take l.fact-index l.facts)) l.through
