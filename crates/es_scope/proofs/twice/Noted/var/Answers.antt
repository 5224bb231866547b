use Rattle.std.proofs.Common.{◌∷◌, [], subst}
use Rattle.es_scope.specs.Noting.{Notes, Takes}
use Rattle.es_scope.proofs.Noting.{claim, takes_var}
use Rattle.es_scope.proofs.twice.Noted.var.Goals as goal

pub returns : goal.returns
returns c =
    let old : Notes = record { lexical = c.self.inside.lexical.keys; vars = c.self.inside.vars.keys } in
    let new : Notes = record { lexical = c.self.inside.lexical.keys; vars = c.insert.new.self.keys } in
    subst (λ n. Takes n (claim c.args.number [] (c.args.scope ∷ [])) new c.contains.result) c.self.view_is
    (takes_var old c.args.scope c.args.number c.insert.new.self.keys c.contains.result c.in_ok-insert.ensures.keys c.contains.ensures)
