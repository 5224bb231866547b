-- what the declarations lead to that were gone through
use Rattle.std.proofs.Common.{take}
use Rattle.export_usage.specs.Claims.{Learns}
use Rattle.export_usage.specs.Steps.{Each, SaysDeclared}
use Rattle.export_usage.proofs.follow.follow_declared.Given as goal

abbrev pub invariant-loop-request : goal.invariant-loop-request
invariant-loop-request l = Learns l.fn.facts (Each (SaysDeclared l.resolver l.row) (take l.request-index l.row.facts.order)) l.facts
