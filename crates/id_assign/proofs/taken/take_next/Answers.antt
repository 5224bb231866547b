use Rattle.std.proofs.Common.{cond, [], ◌∷◌, ◌++◌, ap, ◌∙◌}
use Rattle.pk_types.proofs.ListMembers.{absent}
use Rattle.id_assign.proofs.taken.take_next.Goals as goal

pub returns-clause-taken : goal.returns-clause-taken
returns-clause-taken c =
    let keys = c.args.taken.now.keys in
    let number = c.next_free-number.result in
    c.in_ok-insert.ensures.keys ∙ ap (λ b. cond b keys (keys ++ number ∷ [])) (absent keys number c.next_free-number.ensures.free)
