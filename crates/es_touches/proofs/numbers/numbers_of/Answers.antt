use Rattle.std.proofs.Common.{◌∙◌, Some, refl, sym, ap, arith}
use Rattle.pk_text.specs.Places.{place_of}
use Rattle.es_scope.proofs.Placing.{item_at}
use Rattle.es_touches.proofs.NumberLaws.{none_numbered, one_numbered, all_numbered}
use Rattle.es_touches.proofs.numbers.numbers_of.Goals as goal

pub loop-index-init : goal.loop-index-init
loop-index-init c = none_numbered c.args.scopes.now.texts c.args.bindings.now c.names_len.result c.in_ok-table.table.items c.in_ok-table.ensures c.names_len.ensures

pub loop-index-preserved : goal.loop-index-preserved
loop-index-preserved c =
    let at = item_at c.args.bindings.now c.args.bindings.now c.loop-index.index _ refl c.loop-index-test.true ∙ ap Some (sym c.index-bindings-index.is) in
    one_numbered c.args.scopes.now.texts c.args.bindings.now c.loop-index.index c.index-bindings-index.result at c.loop-index.table.items c.loop-index.invariant c.number_of-at.result
    c.note.new.table.items (c.number_of-at.ensures ∙ ap (place_of c.args.scopes.now.texts) c.as_slice.ensures) c.note.ensures

pub returns : goal.returns
returns c =
    all_numbered c.args.scopes.now.texts c.args.bindings.now c.loop-index.index c.loop-index.table.items (omega (arith, c.loop-index-test.false)) c.loop-index.invariant
