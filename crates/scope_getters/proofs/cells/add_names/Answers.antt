use Rattle.std.proofs.Common.{◌≡◌, ◌<◌, ℕ, List, Some, length, slice_get, sym, ap, subst, ◌∙◌, arith}
use Rattle.module_spelling.specs.Layout.{Layout}
use Rattle.std.specs.Borrow.{Bor}
use Rattle.std.proofs.Common.{option_map, refl}
use Rattle.std.proofs.lemmas.List.{length-map}
use Rattle.std.proofs.lemmas.Option.{slice_get-map, slice_get_read}
use Rattle.prune_graph.specs.Gathering.{the_names}
use Rattle.scope_getters.specs.Gaining.{Gains, IsOfName}
use Rattle.scope_getters.specs.Scopes.{IsOfOther}
use Rattle.scope_getters.proofs.Gaining.{below_none, below_more}
use Rattle.scope_getters.proofs.CellGains.{name_gains, names_gain}
use Rattle.scope_getters.proofs.cells.add_names.Goals as goal

pub loop-name-init : goal.loop-name-init
loop-name-init c = record {
  same = λ j. c.args.speller.now;
  gains = below_none c.args.cells.now.keys (IsOfName c.args.speller.now c.args.from c.args.target (the_names c.args.names.now));
}

pub add_name-requires-clause-from : goal.add_name-requires-clause-from
add_name-requires-clause-from c = subst (λ (l : Layout). c.args.from < length l.graph.rows) (sym c.loop-name.invariant.same) c.requires.from

pub add_name-requires-clause-target : goal.add_name-requires-clause-target
add_name-requires-clause-target c = subst (λ (l : Layout). c.args.target < length l.graph.rows) (sym c.loop-name.invariant.same) c.requires.target

pub loop-name-preserved : goal.loop-name-preserved
loop-name-preserved c =
    let layout = c.args.speller.now in
    let names = the_names c.args.names.now in
    let place = c.loop-name.name-index in
    let name = c.name-item.result in
    let at : slice_get names place ≡ Some name.now = slice_get-map (λ (n : Bor (List ℕ)). n.now) c.args.names.now place
    ∙ ap (λ o. option_map (λ (n : Bor (List ℕ)). n.now) o) (slice_get_read c.args.names.now (length c.args.names.now) place name refl c.loop-name-test.true c.name-item.is) in
    let one : Gains c.loop-name.cells.keys (IsOfOther layout c.args.from c.args.target name.now) c.add_name.new.cells.keys =
    subst (λ (l : Layout). Gains c.loop-name.cells.keys (IsOfOther l c.args.from c.args.target name.now) c.add_name.new.cells.keys) c.loop-name.invariant.same
    c.in_ok-add_name.ensures.gains in
    record {
      same = c.in_ok-add_name.ensures.same ∙ c.loop-name.invariant.same;
      gains = below_more c.args.cells.now.keys c.loop-name.cells.keys c.add_name.new.cells.keys (IsOfName layout c.args.from c.args.target names) place c.loop-name.invariant.gains
          (name_gains layout c.args.from c.args.target names place name.now c.loop-name.cells.keys c.add_name.new.cells.keys at one);
    }

pub returns-clause-gains : goal.returns-clause-gains
returns-clause-gains c =
    names_gain c.args.speller.now c.args.from c.args.target (the_names c.args.names.now) c.loop-name.name-index c.args.cells.now.keys c.loop-name.cells.keys
    (omega (arith, c.loop-name-test.false, c.loop-name.auto.name-index-end, length-map c.args.names.now (λ (n : Bor (List ℕ)). n.now))) c.loop-name.invariant.gains
