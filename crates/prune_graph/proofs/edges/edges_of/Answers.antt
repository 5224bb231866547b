use Rattle.std.proofs.Common.{◌≡◌, ◌<◌, ◌+◌, ℕ, List, ◌++◌, ◌∷◌, [], length, get_or, take, take_all, sym, ap, subst, ◌∙◌, arith}
use Rattle.std.proofs.lemmas.List.{take_more}
use Rattle.pk_types.specs.declared.graph.Graph.{Graph}
use Rattle.pk_types.specs.ActiveEdges.{GivesEdges, HasEdges}
use Rattle.prune_graph.specs.Gathering.{IsThrough}
use Rattle.prune_graph.specs.RowEdges.{Adds, AddsEach}
use Rattle.prune_graph.proofs.EdgeParts.{adds_more, has_edges}
use Rattle.prune_graph.proofs.edges.edges_of.Goals as goal

pub loop-request-preserved : goal.loop-request-preserved
loop-request-preserved c =
    let graph = c.args.stops.now in
    let row = c.args.row.now in
    let order = row.facts.order in
    let place = c.loop-request.request-index in
    let request = get_or c.as_slice-request-items.result.now place 0 in
    let h : place < length order = omega (arith, c.loop-request-test.true, ap length c.as_slice-request-items.ensures) in
    let more : take (place + 1) order ≡ take place order ++ request ∷ [] =
    take_more order place 0 h ∙ ap (λ l. take place order ++ get_or l place 0 ∷ []) (sym c.as_slice-request-items.ensures) in
    let before = c.loop-request.edges.keys in
    let after = c.add_request.new.edges.keys in
    let through = c.in_ok-through.through in
    let got = subst (λ (g : Graph). (number : ℕ) (used : List (List ℕ)) → IsThrough g number row used through → Adds (GivesEdges g number row used request) before after) c.loop-request.invariant.same
    c.in_ok-add_request.ensures.adds c.args.module c.args.used.now c.in_ok-through.ensures.through in
    record {
      same = c.in_ok-add_request.ensures.same ∙ c.loop-request.invariant.same;
      adds = adds_more (GivesEdges graph c.args.module row c.args.used.now) (take place order) (take (place + 1) order) request [] before after got.0 more
          c.loop-request.invariant.adds got.1 got.2;
    }

pub returns-clause-edges : goal.returns-clause-edges
returns-clause-edges c =
    let graph = c.args.stops.now in
    let row = c.args.row.now in
    let order = row.facts.order in
    let keys = c.loop-request.edges.keys in
    let end : take c.loop-request.request-index order ≡ order = take_all c.loop-request.request-index order
    (omega (arith, c.loop-request-test.false, c.loop-request.auto.request-index-end, ap length c.as_slice-request-items.ensures)) in
    subst (HasEdges graph c.args.module row c.args.used.now) (sym (c.in_ok-edges.ensures.items ∙ c.as_slice.ensures.keys))
    (has_edges graph c.args.module row c.args.used.now keys
    (subst (λ l. AddsEach (GivesEdges graph c.args.module row c.args.used.now) l [] keys) end c.loop-request.invariant.adds))
