use Rattle.std.proofs.Common.{◌≡◌, ⊎_elim, [], ◌∷◌, Some, slice_get, get_or, sym, ap, subst, ◌∙◌}
use Rattle.std.specs.List.{concat}
use Rattle.std.proofs.lemmas.Option.{slice_get-get_or}
use Rattle.pk_types.specs.ActiveEdges.{GivesEdges}
use Rattle.prune_graph.specs.Gathering.{the_names}
use Rattle.prune_graph.specs.RowEdges.{AddsStops}
use Rattle.prune_graph.proofs.edges.add_request.Goals as goal

pub returns-in_ok-insert-clause-adds : goal.returns-in_ok-insert-clause-adds
returns-in_ok-insert-clause-adds c = λ number used is.
    let graph = c.args.stops.now in
    let row = c.args.row.now in
    let request = c.args.request in
    let target = get_or c.as_slice.result.now request 0 in
    let t : slice_get row.targets request ≡ Some target = slice_get-get_or row.targets request 0 c.requires.request ∙ ap (λ l. Some (get_or l request 0)) (sym c.as_slice.ensures) in (
      target ∷ [],
      ⊎_elim (λ flag. GivesEdges.kept request target t flag) (λ both. GivesEdges.whole request target t both.0 ((is.spaces request).0 both.1))
          (c.is_kept.ensures.kept c.if-is_kept.true),
      c.in_ok-insert.ensures.keys,
    )

pub returns-in_ok-add_stops-clause-adds : goal.returns-in_ok-add_stops-clause-adds
returns-in_ok-add_stops-clause-adds c = λ number used is.
    let graph = c.args.stops.now in
    let row = c.args.row.now in
    let request = c.args.request in
    let target = get_or c.as_slice.result.now request 0 in
    let t : slice_get row.targets request ≡ Some target = slice_get-get_or row.targets request 0 c.requires.request ∙ ap (λ l. Some (get_or l request 0)) (sym c.as_slice.ensures) in
    let names = the_names c.in_ok-names.names.items in
    let replaced = c.is_kept.ensures.replaced c.if-is_kept.false in
    let adds : AddsStops graph target names c.args.edges.now.keys c.add_stops.new.edges.keys =
    subst (λ l. AddsStops graph target (the_names l) c.args.edges.now.keys c.add_stops.new.edges.keys) c.as_slice-else-is_kept.ensures.value c.in_ok-add_stops.ensures.adds in (
      concat adds.0,
      GivesEdges.replaced request target names adds.0 t replaced.0 (λ s. replaced.1 ((is.spaces request).1 s))
          (record {
            order = c.in_ok-names.ensures.order;
            each = λ name. (λ m. (is.names request name).0 ((c.in_ok-names.ensures.each name).0 m), λ g. (c.in_ok-names.ensures.each name).1 ((is.names request name).1 g));
          }) adds.1,
      adds.2,
    )
