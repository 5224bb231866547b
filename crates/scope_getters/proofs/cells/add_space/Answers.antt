use Rattle.std.proofs.Common.{◌≡◌, ◌<◌, Some, length, slice_get, sym, subst, ◌∙◌, arith}
use Rattle.pk_types.specs.declared.graph.Graph.{Graph}
use Rattle.pk_types.specs.ExportedNames.{ExportedNames}
use Rattle.module_spelling.specs.Layout.{Layout}
use Rattle.std.proofs.Common.{refl}
use Rattle.std.proofs.lemmas.Option.{slice_get_read}
use Rattle.scope_getters.specs.Gaining.{Gains, IsOfName, IsOfNames}
use Rattle.scope_getters.specs.Scopes.{IsOfOther}
use Rattle.scope_getters.proofs.Gaining.{below_none, below_more}
use Rattle.scope_getters.proofs.CellGains.{name_gains, names_gain, space_gains}
use Rattle.scope_getters.proofs.cells.add_space.Goals as goal

pub loop-name-init : goal.loop-name-init
loop-name-init c = record {
  same = λ j. c.args.speller.now;
  gains = below_none c.args.cells.now.keys (IsOfName c.args.speller.now c.args.root c.args.root _);
}

pub add_name-requires-clause-from : goal.add_name-requires-clause-from
add_name-requires-clause-from c = subst (λ (l : Layout). c.args.root < length l.graph.rows) (sym c.loop-name.invariant.same) c.requires

pub add_name-requires-clause-target : goal.add_name-requires-clause-target
add_name-requires-clause-target c = subst (λ (l : Layout). c.args.root < length l.graph.rows) (sym c.loop-name.invariant.same) c.requires

pub loop-name-preserved : goal.loop-name-preserved
loop-name-preserved c =
    let layout = c.args.speller.now in
    let names = c.as_slice-name-items.result.now in
    let place = c.loop-name.name-index in
    let name = c.name-item.result in
    let at : slice_get names place ≡ Some name = slice_get_read names (length names) place name refl c.loop-name-test.true c.name-item.is in
    let one : Gains c.loop-name.cells.keys (IsOfOther layout c.args.root c.args.root name) c.add_name.new.cells.keys =
    subst (λ (l : Layout). Gains c.loop-name.cells.keys (IsOfOther l c.args.root c.args.root name) c.add_name.new.cells.keys) c.loop-name.invariant.same
    c.in_ok-add_name.ensures.gains in
    record {
      same = c.in_ok-add_name.ensures.same ∙ c.loop-name.invariant.same;
      gains = below_more c.args.cells.now.keys c.loop-name.cells.keys c.add_name.new.cells.keys (IsOfName layout c.args.root c.args.root names) place c.loop-name.invariant.gains
          (name_gains layout c.args.root c.args.root names place name c.loop-name.cells.keys c.add_name.new.cells.keys at one);
    }

pub returns-clause-gains : goal.returns-clause-gains
returns-clause-gains c =
    let layout = c.args.speller.now in
    let root = c.args.root in
    let names = c.in_ok-names.names.items in
    let listed = c.as_slice-name-items.result.now in
    let end : c.loop-name.name-index ≡ length listed = omega (arith, c.loop-name-test.false, c.loop-name.auto.name-index-end) in
    let gains = names_gain layout root root listed c.loop-name.name-index c.args.cells.now.keys c.loop-name.cells.keys end c.loop-name.invariant.gains in
    let exported = subst (λ (g : Graph). ExportedNames g root names) c.graph.ensures.graph c.in_ok-names.ensures in
    space_gains layout root names c.args.cells.now.keys c.loop-name.cells.keys exported.each
    (subst (λ l. Gains c.args.cells.now.keys (IsOfNames layout root root l) c.loop-name.cells.keys) c.as_slice-name-items.ensures.value gains)
