use Rattle.std.proofs.Common.{◌∷◌, [], arith, subst}
use Rattle.std.proofs.lemmas.Result.{IfOk-weaker}
use Rattle.es_scope.specs.Noting.{Takes}
use Rattle.es_scope.proofs.Noting.{claim, takes_first, takes_class}
use Rattle.es_scope.proofs.twice.Noted.class.Goals as goal

pub returns-then-branch : goal.returns-then-branch
returns-then-branch c =
    let outer = claim c.args.number (c.args.outer ∷ []) [] in
    takes_first c.args.number (c.args.outer ∷ []) [] (c.args.own ∷ []) [] c.args.self.now c.lexical.new.self
    (subst (Takes c.args.self.now outer c.lexical.new.self) c.if-branch.true c.in_ok-lexical.ensures)

pub returns : goal.returns
returns c =
    let outer = claim c.args.number (c.args.outer ∷ []) [] in
    IfOk-weaker c.lexical-2.result (Takes c.lexical.new.self (claim c.args.number (c.args.own ∷ []) []) c.lexical-2.new.self)
    (Takes c.args.self.now (claim c.args.number (c.args.outer ∷ c.args.own ∷ []) []) c.lexical-2.new.self)
    (λ clashes second. takes_class c.args.self.now c.lexical.new.self c.lexical-2.new.self c.args.outer c.args.own c.args.number clashes
    (λ same. omega (arith, same, c.requires)) (subst (Takes c.args.self.now outer c.lexical.new.self) c.if-branch.false c.in_ok-lexical.ensures) second)
    c.lexical-2.ensures
