use Rattle.std.proofs.Common.{◌≡◌, ◌<◌, ◌+◌, ℕ, List, ◌++◌, ◌∷◌, [], nat_eq, length, take, sym, ap, subst, ◌∙◌, arith}
use Rattle.std.specs.Borrow.{Bor}
use Rattle.std.proofs.lemmas.List.{take_more, get_or-map, length-map}
use Rattle.indexmap.specs.IndexSet.{insert_all}
use Rattle.pk_types.specs.declared.graph.Graph.{Graph}
use Rattle.pk_types.specs.StopSearch.{HasStops}
use Rattle.prune_graph.specs.Gathering.{the_names}
use Rattle.prune_graph.proofs.EdgeParts.{adds_more}
use Rattle.prune_graph.proofs.edges.add_stops.Goals as goal

pub loop-name-preserved : goal.loop-name-preserved
loop-name-preserved c =
    let graph = c.args.stops.now in
    let target = c.args.target in
    let names = c.args.names.now in
    let place = c.loop-name.name-index in
    let name = c.name-item.result in
    let within : place < length (the_names names) = omega (arith, c.loop-name-test.true, length-map names (λ (n : Bor (List ℕ)). n.now)) in
    let more : take (place + 1) (the_names names) ≡ take place (the_names names) ++ name.now ∷ [] =
    take_more (the_names names) place name.now within
    ∙ ap (λ n. take place (the_names names) ++ n ∷ []) (get_or-map (λ (n : Bor (List ℕ)). n.now) names place name name.now c.loop-name-test.true ∙ ap (λ (n : Bor (List ℕ)). n.now) (sym c.name-item.is)) in
    let found = c.in_ok-found.found.items in
    let has : HasStops graph target name.now found = subst (λ (g : Graph). HasStops g target name.now found) c.loop-name.invariant.same c.in_ok-found.ensures.stops in
    record {
      same = c.in_ok-found.ensures.same ∙ c.loop-name.invariant.same;
      adds = adds_more (HasStops graph target) (take place (the_names names)) (take (place + 1) (the_names names)) name.now c.args.edges.now.keys c.loop-name.edges.keys
          c.add_all.new.numbers.keys found more c.loop-name.invariant.adds has (c.in_ok-add_all.ensures ∙ ap (insert_all nat_eq c.loop-name.edges.keys) c.as_slice.ensures.value);
    }
