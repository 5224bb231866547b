use Rattle.std.proofs.Common.{◌≡◌, ◌<◌, Some, slice_get, length, get_or, sym, ap, subst, ◌∙◌, arith}
use Rattle.std.proofs.lemmas.Option.{slice_get-get_or}
use Rattle.prune_graph.specs.Gathering.{HasRequests, IsUnused}
use Rattle.prune_graph.proofs.Gaining.{keeps_requests}
use Rattle.pk_types.specs.Requests.{NamesAtSite, UsesSpaceAtSite}
use Rattle.export_usage.specs.Claims.{Learns}
use Rattle.export_usage.specs.Rules.{FollowsSites}
use Rattle.export_usage.specs.Steps.{SaysRequest, SaysRequests}
use Rattle.export_usage.proofs.Following.{site_claims, requests_none, requests_more}
use Rattle.export_usage.proofs.Learning.{learns_same}
use Rattle.export_usage.proofs.follow.follow_sites.Goals as goal

pub loop-request-init : goal.loop-request-init
loop-request-init c = requests_none c.add_sites.new.through c.args.row.now.targets c.args.facts.now

pub follow_request-requires : goal.follow_request-requires
follow_request-requires c =
    let row = c.args.row.now in
    let count = length row.facts.requests in
    let unused : IsUnused count c.in_ok-through.through = subst (λ n. IsUnused n c.in_ok-through.through) c.len.ensures c.in_ok-through.ensures in
    let has : HasRequests count c.add_sites.new.through =
    keeps_requests c.in_ok-through.through c.add_sites.new.through (NamesAtSite row) (UsesSpaceAtSite row) count c.in_ok-add_sites.ensures unused.requests in
    let h : c.loop-request.request < length row.targets = omega (arith, c.loop-request-test.true, ap length c.as_slice-target-items.ensures) in
    record {
      names = omega (arith, h, has.names, c.requires.each, c.requires.few);
      spaces = omega (arith, h, has.spaces, c.requires.each, c.requires.few);
    }

pub loop-request-preserved : goal.loop-request-preserved
loop-request-preserved c =
    let row = c.args.row.now in
    let place = c.loop-request.request in
    let through = c.add_sites.new.through in
    let target = get_or c.as_slice-target-items.result.now place 0 in
    let h : place < length row.targets = omega (arith, c.loop-request-test.true, ap length c.as_slice-target-items.ensures) in
    let t : slice_get row.targets place ≡ Some target = slice_get-get_or row.targets place 0 h ∙ ap (λ l. Some (get_or l place 0)) (sym c.as_slice-target-items.ensures) in
    requests_more through row.targets c.args.facts.now c.loop-request.facts c.follow_request.new.facts place target t c.loop-request.invariant
    (subst (λ r. Learns c.loop-request.facts (SaysRequest through r target) c.follow_request.new.facts) (omega (arith, h, c.requires.each, c.requires.few)) c.in_ok-follow_request.ensures)

pub returns : goal.returns
returns c =
    let row = c.args.row.now in
    let through = c.add_sites.new.through in
    let end : c.loop-request.request ≡ length row.targets =
    omega (arith, c.loop-request-test.false, c.loop-request.auto.request-end, ap length c.as_slice-target-items.ensures) in
    learns_same c.args.facts.now c.loop-request.facts (SaysRequests through row.targets (length row.targets)) (FollowsSites row)
    (subst (λ n. Learns c.args.facts.now (SaysRequests through row.targets n) c.loop-request.facts) end c.loop-request.invariant)
    (site_claims row c.in_ok-through.through through c.len.result c.in_ok-through.ensures c.in_ok-add_sites.ensures)
