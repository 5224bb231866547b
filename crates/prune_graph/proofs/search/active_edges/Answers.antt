use Rattle.std.proofs.Common.{◌≡◌, ◌<◌, ◌≤◌, ◌+◌, ◌^◌, length, get_or, slice_set, Contains, sym, subst, subst₂, ◌∙◌, arith}
use Rattle.pk_types.specs.declared.graph.Graph.{Graph}
use Rattle.pk_types.specs.ActiveEdges.{IsActive}
use Rattle.prune_graph.specs.Meeting.{Meets, IsGoneThrough}
use Rattle.prune_graph.proofs.Led.{IsLed, begins, number_within, place_within, goes_on, is_active}
use Rattle.prune_graph.proofs.search.active_edges.Goals as goal

pub loop-place-init : goal.loop-place-init
loop-place-init c =
    let graph = c.args.graph.now in
    record {
      same = c.new-stops.ensures;
      led = begins graph c.args.used.now c.requires.fits c.in_ok-edges.edges.items c.new-known.result.keys c.meet.new.known.keys c.new-known.ensures.empty
          (c.in_ok-edges.ensures.each ∙ c.len.ensures) c.in_ok-edges.ensures.none
          (subst (λ l. Meets c.new-known.result.keys (Contains l) c.meet.new.known.keys) c.as_slice.ensures c.in_ok-meet.ensures);
    }

pub go_through-requires-clause-module : goal.go_through-requires-clause-module
go_through-requires-clause-module c =
    let graph = c.args.graph.now in
    let known = c.loop-place.known.keys in
    let place = c.loop-place.place in
    let at : place < length known = omega (arith, c.loop-place-test.true, c.len-in-loop-place.ensures.len) in
    let within = number_within graph c.args.used.now c.requires.fits c.loop-place.edges.items known place c.loop-place.invariant.led at in
    subst (λ (g : Graph). get_or c.as_slice-in-loop-place.result.now place 0 < length g.rows) (sym c.loop-place.invariant.same)
    (subst (λ l. get_or l place 0 < length graph.rows) (sym c.as_slice-in-loop-place.ensures.keys) within)

pub index_mut-requires : goal.index_mut-requires
index_mut-requires c =
    let graph = c.args.graph.now in
    let known = c.loop-place.known.keys in
    let place = c.loop-place.place in
    let at : place < length known = omega (arith, c.loop-place-test.true, c.len-in-loop-place.ensures.len) in
    let within = number_within graph c.args.used.now c.requires.fits c.loop-place.edges.items known place c.loop-place.invariant.led at in
    let here : get_or c.as_slice-in-loop-place.result.now place 0 < length graph.rows =
    subst (λ l. get_or l place 0 < length graph.rows) (sym c.as_slice-in-loop-place.ensures.keys) within in
    omega (arith, here, c.loop-place.invariant.led.each, c.loop-place.edges.ok)

pub loop-place-smaller : goal.loop-place-smaller
loop-place-smaller c =
    let graph = c.args.graph.now in
    let known = c.loop-place.known.keys in
    let place = c.loop-place.place in
    let at : place < length known = omega (arith, c.loop-place-test.true, c.len-in-loop-place.ensures.len) in
    omega (
      arith,
      place_within graph c.args.used.now c.requires.fits c.loop-place.edges.items known place c.loop-place.invariant.led c.len-in-loop-place.ensures.unique at,
    )

pub loop-place-preserved : goal.loop-place-preserved
loop-place-preserved c =
    let graph = c.args.graph.now in
    let used = c.args.used.now in
    let edges = c.loop-place.edges.items in
    let known = c.loop-place.known.keys in
    let place = c.loop-place.place in
    let new = c.in_ok-edges-2.field-0 in
    let after = c.go_through.new.known.keys in
    let at : place < length known = omega (arith, c.loop-place-test.true, c.len-in-loop-place.ensures.len) in
    let gone : IsGoneThrough graph used (get_or known place 0) new known after =
    subst (λ l. IsGoneThrough graph used (get_or l place 0) new known after) c.as_slice-in-loop-place.ensures.keys
    (subst (λ (g : Graph). IsGoneThrough g used (get_or c.as_slice-in-loop-place.result.now place 0) new known after) c.loop-place.invariant.same c.in_ok-edges-2.ensures.gone) in
    record {
      same = c.in_ok-edges-2.ensures.same ∙ c.loop-place.invariant.same;
      led = subst (λ l. IsLed graph used (slice_set edges (get_or l place 0) new) after (place + 1)) (sym c.as_slice-in-loop-place.ensures.keys)
          (goes_on graph used c.requires.fits edges known place c.loop-place.invariant.led c.len-in-loop-place.ensures.unique at new after gone);
    }

pub returns : goal.returns
returns c =
    let graph = c.args.graph.now in
    let used = c.args.used.now in
    let edges = c.loop-place.edges.items in
    let known = c.loop-place.known.keys in
    let marks = c.in_ok-reached.reached.items in
    let few : length graph.rows < 2 ^ 32 = c.requires.fits.few_rows in
    let each : length marks ≡ length graph.rows = omega (arith, c.in_ok-reached.ensures.each, c.len-2.ensures, few) in
    let done : length known ≤ c.loop-place.place = omega (arith, c.loop-place-test.false, c.len-in-loop-place.ensures.len) in
    subst₂ (λ e m. IsActive graph used (record { edges = e; reached = m })) (sym c.from_vec.ensures) (sym c.from_vec-2.ensures)
    (is_active graph used c.requires.fits edges known c.loop-place.place c.loop-place.invariant.led done marks each
    (λ number h. c.in_ok-reached.ensures.known number (omega (arith, h, each, c.in_ok-reached.ensures.each))))
