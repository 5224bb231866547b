-- what the sites call for that were gone through
use Rattle.std.proofs.Common.{take}
use Rattle.pk_types.specs.Requests.{site_kinds}
use Rattle.prune_graph.specs.Meeting.{Meets, OneCalls}
use Rattle.prune_graph.proofs.meeting.meet_called.Given as goal

abbrev pub invariant-loop-site : goal.invariant-loop-site
invariant-loop-site l = Meets l.fn.known.keys (OneCalls l.row.targets (take l.site-index (site_kinds l.row))) l.known.keys
