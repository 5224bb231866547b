use Rattle.std.proofs.Common.{◌≡◌, ◌<◌, ℕ, Some, [], slice_get, length, get_or, sym, ap, subst, ◌∙◌, arith}
use Rattle.std.specs.List.{Contains}
use Rattle.std.specs.Option.{option_map}
use Rattle.std.proofs.lemmas.List.{get_or_default}
use Rattle.std.proofs.lemmas.Option.{slice_get-get_or, same_Some}
use Rattle.pk_types.specs.declared.facts.Kind.TheVariants.{Es}
use Rattle.pk_types.specs.declared.graph.Row.{Row}
use Rattle.scope_hoist.proofs.Barring.{SharingUpTo, sharing_more, all_sharing}
use Rattle.scope_hoist.proofs.flags.sharing.Goals as goal

pub loop-number-preserved : goal.loop-number-preserved
loop-number-preserved c =
    let graph = c.args.graph.now in
    let homes = c.args.homes.now in
    let concatenate = c.args.concatenate in
    let number = c.loop-number.number in
    let row = c.row-item.result in
    let inside : number < length graph.rows = omega (arith, c.loop-number-test.true, ap length c.as_slice-row-items.ensures) in
    let at : slice_get graph.rows number ≡ Some row = slice_get-get_or graph.rows number row inside ∙ ap Some (sym (c.row-item.is ∙ ap (λ l. get_or l number row) c.as_slice-row-items.ensures)) in
    let kind = ap (option_map (λ (r : Row). r.facts.kind)) at in
    let home : c.index-homes-number.result ≡ get_or homes number [] = c.index-homes-number.is ∙ get_or_default homes number c.index-homes-number.result [] (omega (arith, inside, c.requires)) in
    sharing_more graph homes concatenate number c.loop-number.sharing.items c.push.new.self.items c.may_share-shares.result c.loop-number.invariant c.in_ok-push.ensures.items (
      λ t. let three = c.may_share-shares.ensures.0 t in (three.0, kind ∙ ap Some three.1, subst (λ l. (chunk : ℕ) × Contains l chunk) home three.2),
      λ three. c.may_share-shares.ensures.1 (three.0, same_Some row.facts.kind Es (sym kind ∙ three.1), subst (λ l. (chunk : ℕ) × Contains l chunk) (sym home) three.2),
    )

pub returns : goal.returns
returns c =
    let end : c.loop-number.number ≡ length c.args.graph.now.rows = omega (arith, c.loop-number-test.false, c.loop-number.auto.number-end, ap length c.as_slice-row-items.ensures) in
    all_sharing c.args.graph.now c.args.homes.now c.args.concatenate c.loop-number.sharing.items
    (subst (λ n. SharingUpTo c.args.graph.now c.args.homes.now c.args.concatenate n c.loop-number.sharing.items) end c.loop-number.invariant)
