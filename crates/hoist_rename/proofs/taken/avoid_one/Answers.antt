use Rattle.std.proofs.Common.{sym, subst, ◌∙◌}
use Rattle.std.specs.List.{Contains}
use Rattle.hoist_rename.proofs.Kept.{among, not_among, same_still}
use Rattle.hoist_rename.proofs.taken.avoid_one.Goals as goal

pub add-requires-clause-free : goal.add-requires-clause-free
add-requires-clause-free c =
    let keys = c.args.taken.now.names.keys in
    subst (λ name. ¬ Contains keys name) (sym c.in_ok-from_slice.ensures) (not_among keys c.args.name.now (sym c.contains.ensures ∙ c.if-not-contains.true))

pub returns-else-not-contains-clause-names : goal.returns-else-not-contains-clause-names
returns-else-not-contains-clause-names c =
    let keys = c.args.taken.now.names.keys in
    same_still keys c.args.name.now (among keys c.args.name.now (sym c.contains.ensures ∙ c.if-not-contains.false))
