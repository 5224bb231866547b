use Rattle.std.proofs.Common.{◌<◌, length, sym, subst, ◌∙◌}
use Rattle.std.proofs.lemmas.List.{take_all}
use Rattle.pk_types.specs.declared.graph.Graph.{Graph}
use Rattle.pk_types.specs.ExportedNames.{ExportedNames}
use Rattle.module_spelling.specs.Layout.{Layout}
use Rattle.scope_getters.specs.Gaining.{AddsGetter}
use Rattle.scope_getters.proofs.Listing.{AreFirstGetters, no_getters, getters_more, all_getters}
use Rattle.scope_getters.proofs.space.getters_of.Goals as goal

pub loop-name-init : goal.loop-name-init
loop-name-init c = record {
  same = λ j. c.args.speller.now;
  getters = no_getters c.args.speller.now c.args.root _ c.new-getters.ensures.items;
}

pub add_getter-requires : goal.add_getter-requires
add_getter-requires c = subst (λ (l : Layout). c.args.root < length l.graph.rows) (sym c.loop-name.invariant.same) c.requires

pub loop-name-preserved : goal.loop-name-preserved
loop-name-preserved c =
    let layout = c.args.speller.now in
    let listed = c.as_slice-name-items.result.now in
    let exported = subst (λ (g : Graph). ExportedNames g c.args.root listed) c.graph.ensures.graph
    (subst (ExportedNames c.graph.result.now c.args.root) (sym c.as_slice-name-items.ensures.value) c.in_ok-names.ensures) in
    record {
      same = c.in_ok-add_getter.ensures.same ∙ c.loop-name.invariant.same;
      getters = getters_more layout c.args.root listed c.loop-name.name-index c.name-item.result c.loop-name-test.true c.name-item.is c.loop-name.getters.items
          c.add_getter.new.getters.items exported.order c.loop-name.invariant.getters
          (subst (λ (l : Layout). AddsGetter l c.args.root c.name-item.result c.loop-name.getters.items c.add_getter.new.getters.items) c.loop-name.invariant.same
          c.in_ok-add_getter.ensures.adds);
    }

pub returns-clause-getters : goal.returns-clause-getters
returns-clause-getters c =
    let layout = c.args.speller.now in
    let listed = c.as_slice-name-items.result.now in
    let exported = subst (λ (g : Graph). ExportedNames g c.args.root listed) c.graph.ensures.graph
    (subst (ExportedNames c.graph.result.now c.args.root) (sym c.as_slice-name-items.ensures.value) c.in_ok-names.ensures) in
    all_getters layout c.args.root listed c.loop-name.getters.items exported
    (subst (λ names. AreFirstGetters layout c.args.root names c.loop-name.getters.items) (take_all c.loop-name.name-index listed c.loop-name-test.false)
    c.loop-name.invariant.getters)
