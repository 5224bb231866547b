use Rattle.std.proofs.Common.{cond, [], ◌∷◌, ◌++◌, sym, ap, subst, ◌∙◌}
use Rattle.hoist_rename.specs.Kept.{IsKept}
use Rattle.hoist_rename.proofs.Kept.{kept_more, absent_name}
use Rattle.hoist_rename.proofs.taken.add.Goals as goal

pub returns-clause-names : goal.returns-clause-names
returns-clause-names c =
    let keys = c.args.taken.now.names.keys in
    c.in_ok-insert.ensures.keys ∙ ap (λ b. cond b keys (keys ++ c.args.name ∷ [])) (absent_name keys c.args.name c.requires.free)

pub returns-clause-kept : goal.returns-clause-kept
returns-clause-kept c =
    let keys = c.args.taken.now.names.keys in
    let added = c.in_ok-insert.ensures.keys ∙ ap (λ b. cond b keys (keys ++ c.args.name ∷ [])) (absent_name keys c.args.name c.requires.free) in
    subst (λ l. IsKept l c.push.new.self.items) (sym added)
    (subst (IsKept (keys ++ c.args.name ∷ [])) (sym c.in_ok-push.ensures.items) (kept_more keys c.args.taken.now.last.items c.args.name c.requires.kept))
