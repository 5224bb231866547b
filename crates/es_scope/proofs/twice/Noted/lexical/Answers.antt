use Rattle.std.proofs.Common.{◌≡◌, ◌∷◌, [], ◌||◌, not, inl, inr, ap, subst, ◌∙◌}
use Rattle.es_scope.specs.Noting.{Notes, Takes}
use Rattle.es_scope.proofs.Noting.{claim, has, told_lexical, takes_lexical}
use Rattle.es_scope.proofs.twice.Noted.lexical.Goals.{then-not-is_new, else-not-is_new}
use Rattle.es_scope.proofs.twice.Noted.lexical.Goals as goal

pub returns : goal.returns
returns c =
    let old : Notes = record { lexical = c.self.inside.lexical.keys; vars = c.self.inside.vars.keys } in
    let new : Notes = record { lexical = c.insert.new.self.keys; vars = c.self.inside.vars.keys } in
    let is : c.if-not-is_new.result ≡ (has old.lexical c.args.scope c.args.number || has old.vars c.args.scope c.args.number) =
    told_lexical c.in_ok-is_new.is_new _ _ c.if-not-is_new.result c.in_ok-is_new.ensures.added
    (elim c.if-not-is_new.branch [
      | then-not-is_new w ↦ inl (w.if-not-is_new.true, w.result-is ∙ ap not w.if-not-is_new.true)
      | else-not-is_new w ↦ inr (w.if-not-is_new.false, w.result-is ∙ w.contains.ensures)
    ]) in
    subst (λ n. Takes n (claim c.args.number (c.args.scope ∷ []) []) new c.if-not-is_new.result) c.self.view_is
    (takes_lexical old c.args.scope c.args.number c.insert.new.self.keys c.if-not-is_new.result c.in_ok-is_new.ensures.keys is)
