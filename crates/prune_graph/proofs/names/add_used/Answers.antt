use Rattle.std.proofs.Common.{◌≡◌, ◌+◌, ◌++◌, ◌∷◌, [], take, Some, slice_get, length, sym, ap, subst, ◌∙◌}
use Rattle.std.proofs.lemmas.List.{take_more}
use Rattle.pk_types.specs.declared.graph.Graph.{Graph}
use Rattle.prune_graph.specs.PassedNames.{OnePassesOn, OneExportsSpace}
use Rattle.prune_graph.specs.PassingOn.{IsPassedBy}
use Rattle.prune_graph.proofs.Gaining.{keeps_requests}
use Rattle.prune_graph.proofs.Passes.{passed_within, passed_by_more}
use Rattle.prune_graph.proofs.names.add_used.Goals as goal

pub add_passing-requires : goal.add_passing-requires
add_passing-requires c =
    let graph = c.args.stops.now in
    let row = c.args.row.now in
    let used = take c.loop-exported.exported-index c.args.used.now in
    let passed = subst (λ (g : Graph). slice_get g.rows c.args.module ≡ Some row → IsPassedBy g c.args.module row c.exported-item.result c.in_ok-passing.passing) c.loop-exported.invariant.same
    (c.in_ok-passing.ensures.passed row) c.requires.at in
    record {
      within = passed_within graph c.args.module row c.exported-item.result c.requires.fits c.in_ok-passing.passing passed c.loop-exported.through
          (keeps_requests c.args.through.now c.loop-exported.through (OnePassesOn graph c.args.module row used) (OneExportsSpace row used) (length row.facts.requests)
          c.loop-exported.invariant.gains c.requires.requests);
    }

pub loop-exported-preserved : goal.loop-exported-preserved
loop-exported-preserved c =
    let graph = c.args.stops.now in
    let row = c.args.row.now in
    let place = c.loop-exported.exported-index in
    let used = c.args.used.now in
    let name = c.exported-item.result in
    let passed = subst (λ (g : Graph). slice_get g.rows c.args.module ≡ Some row → IsPassedBy g c.args.module row name c.in_ok-passing.passing) c.loop-exported.invariant.same
    (c.in_ok-passing.ensures.passed row) c.requires.at in
    let more : take (place + 1) used ≡ take place used ++ name ∷ [] = take_more used place name c.loop-exported-test.true ∙ ap (λ n. take place used ++ n ∷ []) (sym c.exported-item.is) in
    record {
      same = c.in_ok-passing.ensures.same ∙ c.loop-exported.invariant.same;
      gains = passed_by_more graph c.args.module row c.args.through.now c.loop-exported.through c.add_passing.new.through (take place used) (take (place + 1) used) name
          c.in_ok-passing.passing more passed c.loop-exported.invariant.gains c.in_ok-add_passing.ensures;
    }
