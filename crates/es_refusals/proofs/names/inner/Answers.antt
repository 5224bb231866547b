use Rattle.std.proofs.Common.{◌≡◌, ◌↔◌, ℕ, List, length, arith}
use Rattle.std.specs.List.{Contains}
use Rattle.std.proofs.lemmas.Result.{IfOk-weaker}
use Rattle.export_names.specs.Collected.{key_names}
use Rattle.es_scope.specs.FactsOf.{IsInner}
use Rattle.es_refusals.proofs.InnerNames.{inner_number_below, inner_more, all_inner}
use Rattle.es_refusals.proofs.names.inner.Goals as goal

pub add-requires : goal.add-requires
add-requires c =
    inner_number_below c.args.outlined.now c.args.scopes.now c.requires.scopes c.loop-index.index c.inner_number_at-number.result c.inner_number_at-number.ensures

pub loop-index-preserved : goal.loop-index-preserved
loop-index-preserved c =
    inner_more c.args.outlined.now c.args.scopes.now c.loop-index.index c.inner_number_at-number.result (key_names c.loop-index.names.keys) (key_names c.add.new.names.keys)
    c.inner_number_at-number.ensures c.loop-index.invariant c.in_ok-add.ensures

pub returns-clause-names : goal.returns-clause-names
returns-clause-names c =
    let names = key_names c.add_arguments.new.names.keys in
    let count : c.loop-index.index ≡ length c.args.scopes.now.firsts =
    omega (arith, c.loop-index-test.false, c.loop-index.auto.index-end, c.len-index-end.ensures) in
    let all = all_inner c.args.outlined.now c.args.scopes.now c.requires.scopes c.loop-index.index (key_names c.loop-index.names.keys) names c.has_arguments-is_given.result
    count c.loop-index.invariant c.has_arguments-is_given.ensures c.in_ok-add_arguments.ensures in
    IfOk-weaker c.in_byte_order.result (λ sorted. (name : List ℕ) → Contains sorted name ↔ Contains names name)
    (λ sorted. (name : List ℕ) → Contains sorted name ↔ IsInner c.args.outlined.now name)
    (λ sorted each name. (λ one. (all name).0 ((each name).0 one), λ used. (each name).1 ((all name).1 used))) c.in_byte_order.ensures.each
