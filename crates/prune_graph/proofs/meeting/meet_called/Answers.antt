use Rattle.std.proofs.Common.{◌≡◌, ◌<◌, ◌+◌, ◌∷◌, [], ◌++◌, length, get_or, take, take_all, Some, slice_get, sym, ap, subst, ◌∙◌, arith}
use Rattle.std.proofs.lemmas.List.{take_more, get_or-map, length-map}
use Rattle.std.proofs.lemmas.Option.{slice_get-get_or}
use Rattle.pk_types.specs.declared.facts.Site.{Site}
use Rattle.pk_types.specs.Requests.{site_kinds}
use Rattle.prune_graph.specs.Meeting.{Meets, OneCalls}
use Rattle.prune_graph.proofs.MeetingMore.{call_within, one_call_more, no_call_more}
use Rattle.prune_graph.proofs.meeting.meet_called.Goals.{in-Some+in_ok-insert-in-Some, in-None}
use Rattle.prune_graph.proofs.meeting.meet_called.Goals as goal

pub bounds-as_slice-request : goal.bounds-as_slice-request
bounds-as_slice-request c =
    let row = c.args.row.now in
    let place = c.loop-site.site-index in
    let site = c.site-item.result in
    let h : place < length row.facts.sites = omega (arith, c.loop-site-test.true, ap length c.as_slice-site-items.ensures) in
    let is : site ≡ get_or row.facts.sites place site = c.site-item.is ∙ ap (λ l. get_or l place site) c.as_slice-site-items.ensures in
    let within = call_within row.targets row.facts.sites place site c.in-Some.request c.requires h is c.in-Some.ensures.some in
    omega (arith, within, ap length c.as_slice.ensures)

pub loop-site-preserved : goal.loop-site-preserved
loop-site-preserved c =
    let row = c.args.row.now in
    let kinds = site_kinds row in
    let place = c.loop-site.site-index in
    let site = c.site-item.result in
    let h : place < length row.facts.sites = omega (arith, c.loop-site-test.true, ap length c.as_slice-site-items.ensures) in
    let is : site ≡ get_or row.facts.sites place site = c.site-item.is ∙ ap (λ l. get_or l place site) c.as_slice-site-items.ensures in
    let within : place < length kinds = omega (arith, h, length-map row.facts.sites (λ (s : Site). s.kind)) in
    let more : take (place + 1) kinds ≡ take place kinds ++ site.kind ∷ [] =
    take_more kinds place site.kind within
    ∙ ap (λ k. take place kinds ++ k ∷ []) (get_or-map (λ (s : Site). s.kind) row.facts.sites place site site.kind h ∙ ap (λ (s : Site). s.kind) (sym is)) in
    elim c.match-called_request.branch [
      | in-Some+in_ok-insert-in-Some w ↦
          let request = w.in-Some.request in
          let target = get_or w.as_slice.result.now request 0 in
          let there = call_within row.targets row.facts.sites place site request c.requires h is w.in-Some.ensures.some in
          let t : slice_get row.targets request ≡ Some target = slice_get-get_or row.targets request 0 there ∙ ap (λ l. Some (get_or l request 0)) (sym w.as_slice.ensures) in
          one_call_more row.targets (take place kinds) (take (place + 1) kinds) site.kind more c.args.known.now.keys c.loop-site.known.keys c.match-called_request.known.keys
          request target w.in-Some.ensures.some t c.loop-site.invariant (ap (λ s. s.keys) w.known-is ∙ w.in_ok-insert-in-Some.ensures.keys)
      | in-None w ↦
          subst (Meets c.args.known.now.keys (OneCalls row.targets (take (place + 1) kinds))) (sym (ap (λ s. s.keys) w.known-is))
          (no_call_more row.targets (take place kinds) (take (place + 1) kinds) site.kind more c.args.known.now.keys c.loop-site.known.keys w.in-None.ensures.none c.loop-site.invariant)
    ]

pub returns : goal.returns
returns c =
    let row = c.args.row.now in
    let kinds = site_kinds row in
    let end : take c.loop-site.site-index kinds ≡ kinds = take_all c.loop-site.site-index kinds
    (omega (arith, c.loop-site-test.false, c.loop-site.auto.site-index-end, ap length c.as_slice-site-items.ensures, length-map row.facts.sites (λ (s : Site). s.kind))) in
    subst (λ l. Meets c.args.known.now.keys (OneCalls row.targets l) c.loop-site.known.keys) end c.loop-site.invariant
