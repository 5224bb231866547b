use Rattle.std.proofs.Common.{sym, subst}
use Rattle.prune_graph.specs.Meeting.{Meets, IsCalled}
use Rattle.export_usage.specs.Claims.{AreExposed}
use Rattle.export_usage.specs.Rules.{FollowsCalls}
use Rattle.export_usage.proofs.Following.{called_claims}
use Rattle.export_usage.proofs.Learning.{learns_same}
use Rattle.export_usage.proofs.follow.follow_calls.Goals as goal

pub returns : goal.returns
returns c = λ graph number at.
    let list = c.as_slice.result.now in
    learns_same c.args.facts.now c.put_all_exposed.new.self (AreExposed list) (FollowsCalls graph number) c.in_ok-put_all_exposed.ensures
    (called_claims graph number c.args.row.now c.new-called.result.keys list at c.new-called.ensures.empty
    (subst (Meets c.new-called.result.keys (IsCalled c.args.row.now)) (sym c.as_slice.ensures.keys) c.in_ok-meet_called.ensures))
