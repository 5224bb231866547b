-- what goes through the requests that were gone through is used
use Rattle.export_usage.specs.Claims.{Learns}
use Rattle.export_usage.specs.Steps.{SaysRequests}
use Rattle.export_usage.proofs.follow.follow_sites.Given as goal

abbrev pub invariant-loop-request : goal.invariant-loop-request
invariant-loop-request l = Learns l.fn.facts (SaysRequests l.through l.row.targets l.request) l.facts
