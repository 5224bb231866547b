use Rattle.std.proofs.Common.{◌≡◌, ◌+◌, ◌<◌, nat_eq, length, get_or, map, sym, ap, subst, ◌∙◌, arith}
use Rattle.std.specs.Prelude.{slice_index}
use Rattle.indexmap.specs.IndexSet.{insert_key, insert_all}
use Rattle.pk_types.specs.Places.{ArePlacesIn}
use Rattle.export_names.specs.Starred.{star_edges}
use Rattle.export_names.proofs.StarSearch.{IsSearch, begins, goes_on, ends, number_within, place_within}
use Rattle.export_names.proofs.StarEdges.{stars_in_targets, count_of_edges, edges_within, row_read, edges_read}
use Rattle.export_names.proofs.starred.starred.Goals as goal

pub loop-place-init : goal.loop-place-init
loop-place-init c =
    let only = c.in_ok-insert.ensures.keys ∙ ap (λ known. insert_key nat_eq known c.args.module) c.new-known.ensures.empty in
    subst (λ known. IsSearch (star_edges c.args.graph.now) c.args.module known 0) (sym only) (begins (star_edges c.args.graph.now) c.args.module)

pub bounds-as_slice-number : goal.bounds-as_slice-number
bounds-as_slice-number c =
    let graph = c.args.graph.now in
    let edges = star_edges graph in
    let known = c.loop-place.known.keys in
    let place = c.loop-place.place in
    let met : place < length known = omega (arith, c.len.ensures.len) in
    let within : get_or known place 0 < length edges =
    number_within edges c.args.module known place (omega (arith, count_of_edges graph, c.requires.module)) (edges_within graph c.requires.fits) c.loop-place.invariant met in
    omega (arith, count_of_edges graph, ap length c.as_slice-in-loop-place.ensures, subst (λ l. get_or l place 0 < length edges) (sym c.as_slice.ensures.keys) within)

pub see-requires : goal.see-requires
see-requires c =
    let graph = c.args.graph.now in
    let edges = star_edges graph in
    let known = c.loop-place.known.keys in
    let place = c.loop-place.place in
    let row = c.index-as_slice-number.result in
    let met : place < length known = omega (arith, c.len.ensures.len) in
    let within : get_or known place 0 < length edges =
    number_within edges c.args.module known place (omega (arith, count_of_edges graph, c.requires.module)) (edges_within graph c.requires.fits) c.loop-place.invariant met in
    let is : row ≡ get_or graph.rows (get_or known place 0) row = c.index-as_slice-number.is
    ∙ ap (λ l. get_or l (get_or c.as_slice.result.now place 0) row) c.as_slice-in-loop-place.ensures ∙ ap (λ l. get_or graph.rows (get_or l place 0) row) c.as_slice.ensures.keys in
    let fits = row_read graph (get_or known place 0) row c.requires.fits (omega (arith, within, count_of_edges graph)) is in
    subst (λ l. ArePlacesIn l c.as_slice-in-loop-place-3.result.now) (sym c.as_slice-in-loop-place-2.ensures)
    (subst (ArePlacesIn row.targets) (sym c.as_slice-in-loop-place-3.ensures) (stars_in_targets graph row fits))

pub loop-place-smaller : goal.loop-place-smaller
loop-place-smaller c =
    let graph = c.args.graph.now in
    omega (
      arith,
      count_of_edges graph,
      place_within (star_edges graph) c.args.module c.loop-place.known.keys c.loop-place.place (omega (arith, count_of_edges graph, c.requires.module)) (edges_within graph c.requires.fits)
          c.loop-place.invariant c.len.ensures.unique (omega (arith, c.len.ensures.len)),
    )

pub loop-place-preserved : goal.loop-place-preserved
loop-place-preserved c =
    let graph = c.args.graph.now in
    let edges = star_edges graph in
    let known = c.loop-place.known.keys in
    let place = c.loop-place.place in
    let row = c.index-as_slice-number.result in
    let met : place < length known = omega (arith, c.len.ensures.len) in
    let within : get_or known place 0 < length edges =
    number_within edges c.args.module known place (omega (arith, count_of_edges graph, c.requires.module)) (edges_within graph c.requires.fits) c.loop-place.invariant met in
    let is : row ≡ get_or graph.rows (get_or known place 0) row = c.index-as_slice-number.is
    ∙ ap (λ l. get_or l (get_or c.as_slice.result.now place 0) row) c.as_slice-in-loop-place.ensures ∙ ap (λ l. get_or graph.rows (get_or l place 0) row) c.as_slice.ensures.keys in
    let targets = ap (λ l. map (slice_index l) c.as_slice-in-loop-place-3.result.now) c.as_slice-in-loop-place-2.ensures ∙ ap (λ l. map (slice_index row.targets) l) c.as_slice-in-loop-place-3.ensures
    ∙ edges_read graph (get_or known place 0) row (omega (arith, within, count_of_edges graph)) is in
    subst (λ l. IsSearch edges c.args.module l (place + 1)) (sym (c.in_ok-see.ensures ∙ ap (λ l. insert_all nat_eq known l) targets))
    (goes_on edges c.args.module known place c.loop-place.invariant met)

pub returns : goal.returns
returns c = ends (star_edges c.args.graph.now) c.args.module c.loop-place.known.keys c.loop-place.place c.loop-place.invariant (omega (arith, c.len.ensures.len))
