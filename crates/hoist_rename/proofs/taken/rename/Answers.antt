use Rattle.std.proofs.Common.{◌≡◌, ◌<◌, ◌≤◌, [], ◌∷◌, ◌++◌, length, get_or, set, sym, ap, subst, ◌∙◌, arith}
use Rattle.std.specs.List.{Contains}
use Rattle.std.proofs.lemmas.List.{get_or_default}
use Rattle.std.proofs.lemmas.List.Elements.{Contains-get_or}
use Rattle.pk_types.specs.GivenNames.{numbered_name}
use Rattle.hoist_rename.specs.Kept.{IsKept}
use Rattle.hoist_rename.proofs.Kept.{kept_next}
use Rattle.hoist_rename.proofs.Giving.{given_next}
use Rattle.hoist_rename.proofs.taken.rename.Goals as goal

pub next_free-requires : goal.next_free-requires
next_free-requires c =
    let keys = c.args.taken.now.names.keys in
    let last = c.args.taken.now.last.items in
    let inside : c.args.place < length c.args.taken.now.last.items = omega (arith, c.requires.kept.each, c.requires.inside) in
    let tried : c.index.result.now ≡ get_or c.args.taken.now.last.items c.args.place 0 = c.index.ensures ∙ sym (get_or_default last c.args.place 0 c.index.result.now inside) in
    λ number above most. subst (λ first. Contains keys (numbered_name first number)) c.requires.place
    (c.requires.kept.tried c.args.place number c.requires.inside above (subst (λ n. number ≤ n) tried most))

pub returns-clause-given : goal.returns-clause-given
returns-clause-given c =
    let keys = c.args.taken.now.names.keys in
    given_next keys c.args.name.now c.in_ok-number.number c.in_ok-number.given (subst (Contains keys) c.requires.place (Contains-get_or keys c.args.place [] c.requires.inside)) c.in_ok-number.ensures

pub returns-clause-kept : goal.returns-clause-kept
returns-clause-kept c =
    let keys = c.args.taken.now.names.keys in
    let last = c.args.taken.now.last.items in
    let place = c.args.place in
    let number = c.in_ok-number.number in
    let given = c.in_ok-number.given in
    let names = c.in_ok-add.ensures.names ∙ ap (λ text. keys ++ text ∷ []) (c.in_ok-from_slice.ensures ∙ c.as_slice.ensures) in
    subst (λ l. IsKept l (set c.add.new.taken.last.items place number)) (sym names)
    (subst (λ l. IsKept (keys ++ given ∷ []) (set l place number)) (sym c.in_ok-add.ensures.last)
    (kept_next keys last place c.args.name.now number given c.requires.kept c.requires.inside c.requires.place c.in_ok-number.ensures))
