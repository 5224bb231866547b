use Rattle.std.proofs.Common.{◌≡◌, ◌↔◌, ℕ, List, nat_eq, true, get_or, take, take_all, sym, subst, ◌∙◌, arith}
use Rattle.std.proofs.lemmas.List.{take_more}
use Rattle.std.specs.List.{Contains}
use Rattle.std.proofs.lemmas.List.Elements.{Contains-get_or}
use Rattle.std.proofs.lemmas.Cmp.{nat_eq_equiv}
use Rattle.std.proofs.lemmas.Map.Views.{exact_unsigned_eq}
use Rattle.export_names.specs.Collected.{key_names, IsCollected}
use Rattle.export_names.proofs.Collecting.{collected_none, collected_more}
use Rattle.export_names.proofs.StarReach.{reached_within, collected_exported}
use Rattle.export_names.proofs.exported.collected.Goals as goal

pub loop-number-init : goal.loop-number-init
loop-number-init c = collected_none c.args.graph.now c.args.module c.new-names.result.keys c.new-names.ensures.empty

pub exports-requires : goal.exports-requires
exports-requires c =
    let number = get_or c.as_slice-number-items.result.now c.loop-number.number-index 0 in
    let there = Contains-get_or c.as_slice-number-items.result.now c.loop-number.number-index 0 c.loop-number-test.true in
    reached_within c.args.graph.now c.args.module c.requires.fits c.requires.module number
    ((c.in_ok-modules.ensures number).0 (subst (λ l. Contains l number) c.as_slice-number-items.ensures.keys there))

pub loop-number-preserved : goal.loop-number-preserved
loop-number-preserved c =
    let graph = c.args.graph.now in
    let asked = c.args.module in
    let modules = c.as_slice-number-items.result.now in
    let index = c.loop-number.number-index in
    let number = get_or modules index 0 in
    let names = key_names c.add.new.names.keys in
    let same : (nat_eq number asked ≡ true) ↔ (number ≡ asked) =
    (exact_unsigned_eq number asked, λ e. subst (λ n. nat_eq number n ≡ true) e (nat_eq_equiv.refl number)) in
    let more = collected_more graph asked (take index modules) number c.exports.result.now (nat_eq number asked) (key_names c.loop-number.names.keys) names same
    c.exports.ensures c.loop-number.invariant c.in_ok-add.ensures in
    subst (λ l. (name : List ℕ) → Contains names name ↔ IsCollected graph asked l name) (sym (take_more modules index 0 c.loop-number-test.true)) more

pub returns : goal.returns
returns c =
    let graph = c.args.graph.now in
    let modules = c.as_slice-number-items.result.now in
    let all = take_all c.loop-number.number-index modules (omega (arith, c.loop-number-test.false)) ∙ c.as_slice-number-items.ensures.keys in
    let known = c.in_ok-modules in
    let exported = collected_exported graph c.args.module c.requires.fits c.requires.module known.modules.keys known.ensures in
    λ name. let so_far = subst (λ l. Contains (key_names c.loop-number.names.keys) name ↔ IsCollected graph c.args.module l name) all (c.loop-number.invariant name) in
    (λ there. (exported name).0 (so_far.0 there), λ one. so_far.1 ((exported name).1 one))
