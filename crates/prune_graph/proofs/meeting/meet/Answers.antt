use Rattle.std.proofs.Common.{Contains, sym, subst}
use Rattle.prune_graph.specs.Meeting.{Meets}
use Rattle.prune_graph.proofs.MeetingMore.{meets_all}
use Rattle.prune_graph.proofs.meeting.meet.Goals as goal

pub returns : goal.returns
returns c = subst (Meets c.args.known.now.keys (Contains c.args.modules.now)) (sym c.in_ok-add_all.ensures) (meets_all c.args.modules.now c.args.known.now.keys)
