use Rattle.std.proofs.Common.{◌∙◌, Some, refl, sym, ap, arith}
use Rattle.es_scope.specs.Declaring.{default_binding}
use Rattle.es_scope.proofs.Placing.{item_at}
use Rattle.es_touches.proofs.NumberLaws.{found_here, not_yet, none_named}
use Rattle.es_touches.proofs.numbers.default_number.Goals as goal

pub returns-then-is_default : goal.returns-then-is_default
returns-then-is_default c =
    found_here c.args.bindings.now c.loop-index.index default_binding c.index-bindings-index.result c.index-bindings-index.result.name c.is_default.result
    (item_at c.args.bindings.now c.args.bindings.now c.loop-index.index _ refl c.loop-index-test.true ∙ ap Some (sym c.index-bindings-index.is))
    refl c.is_default.ensures c.if-is_default.true

pub loop-index-preserved : goal.loop-index-preserved
loop-index-preserved c =
    not_yet c.args.bindings.now c.loop-index.index default_binding c.index-bindings-index.result c.index-bindings-index.result.name c.is_default.result
    (item_at c.args.bindings.now c.args.bindings.now c.loop-index.index _ refl c.loop-index-test.true ∙ ap Some (sym c.index-bindings-index.is))
    refl c.is_default.ensures c.if-is_default.false c.loop-index.invariant

pub returns : goal.returns
returns c = none_named c.args.bindings.now c.loop-index.index default_binding (omega (arith, c.loop-index-test.false)) c.loop-index.invariant
