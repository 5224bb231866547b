use Rattle.std.proofs.Common.{◌≡◌, ◌↔◌, ℕ, List, length, ap, arith}
use Rattle.std.specs.List.{Contains}
use Rattle.std.proofs.lemmas.Result.{IfOk-weaker}
use Rattle.export_names.specs.Collected.{key_names}
use Rattle.es_scope.specs.FactsOf.{IsUsedFree}
use Rattle.es_scope.proofs.Placing.{item_at}
use Rattle.es_refusals.proofs.FreeNames.{free_number_below, free_more, all_free}
use Rattle.es_refusals.proofs.names.free.Goals as goal

pub add-requires : goal.add-requires
add-requires c =
    let at = item_at c.args.outlined.now.marks c.marks-mark-items.result.now c.loop-place.place _ c.marks-mark-items.ensures c.loop-place-test.true in
    free_number_below c.args.outlined.now c.args.scopes.now c.requires.scopes c.loop-place.place _ c.free_number-number.result at c.free_number-number.ensures

pub loop-place-preserved : goal.loop-place-preserved
loop-place-preserved c =
    let at = item_at c.args.outlined.now.marks c.marks-mark-items.result.now c.loop-place.place _ c.marks-mark-items.ensures c.loop-place-test.true in
    free_more c.args.outlined.now c.args.scopes.now c.loop-place.place c.free_number-number.result _ (key_names c.loop-place.names.keys) (key_names c.add.new.names.keys)
    at c.free_number-number.ensures c.loop-place.invariant c.in_ok-add.ensures

pub returns-clause-names : goal.returns-clause-names
returns-clause-names c =
    let names = key_names c.loop-place.names.keys in
    let count : c.loop-place.place ≡ length c.args.outlined.now.marks =
    omega (arith, c.loop-place-test.false, c.loop-place.auto.place-end, ap length c.marks-mark-items.ensures) in
    let all = all_free c.args.outlined.now c.args.scopes.now c.requires.scopes c.loop-place.place names count c.loop-place.invariant in
    IfOk-weaker c.in_byte_order.result (λ sorted. (name : List ℕ) → Contains sorted name ↔ Contains names name)
    (λ sorted. (name : List ℕ) → Contains sorted name ↔ IsUsedFree c.args.outlined.now name)
    (λ sorted each name. (λ one. (all name).0 ((each name).0 one), λ used. (each name).1 ((all name).1 used))) c.in_byte_order.ensures.each
