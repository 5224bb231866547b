use Rattle.std.proofs.Common.{◌≡◌, Some, slice_get, sym, subst}
use Rattle.pk_types.specs.declared.graph.Graph.{Graph}
use Rattle.pk_types.specs.declared.graph.Row.{Row}
use Rattle.pk_types.specs.StopSearch.{HasStops}
use Rattle.export_usage.specs.Claims.{AreReached, Learns}
use Rattle.export_usage.specs.Rules.{FollowsPassing, FollowsStops}
use Rattle.export_usage.proofs.Following.{stop_claims}
use Rattle.export_usage.proofs.Learning.{learns_same, learns_then}
use Rattle.export_usage.proofs.follow.follow_used.Goals as goal

pub returns-clause-learns : goal.returns-clause-learns
returns-clause-learns c = λ row at.
    let graph = c.args.resolver.now in
    let number = c.args.module in
    let name = c.args.name.now in
    let list = c.as_slice.result.now in
    let passing = subst (λ (g : Graph). (w : Row) → slice_get g.rows number ≡ Some w → Learns c.args.facts.now (FollowsPassing g number w name) c.follow_passing.new.facts)
    c.in_ok-passing.ensures.same c.in_ok-follow_passing.ensures row at in
    let has : HasStops graph number name list = subst (HasStops graph number name) (sym c.as_slice.ensures.value)
    (subst (λ (g : Graph). HasStops g number name c.in_ok-stops.stops.items) c.in_ok-passing.ensures.same c.in_ok-stops.ensures.stops) in
    learns_then c.args.facts.now c.follow_passing.new.facts c.put_all_reached.new.self (FollowsPassing graph number row name) (FollowsStops graph number name) passing
    (learns_same c.follow_passing.new.facts c.put_all_reached.new.self (AreReached list) (FollowsStops graph number name) c.in_ok-put_all_reached.ensures
    (stop_claims graph number name list has))
