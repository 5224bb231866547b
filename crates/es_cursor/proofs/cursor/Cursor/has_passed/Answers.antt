use Rattle.std.proofs.Common.{rules, ◌∙◌, subst, sym}
use Rattle.es_cursor.specs.Giving.{GivesWay}
use Rattle.es_cursor.proofs.cursor.Cursor.has_passed.Goals as goal

pub returns-in-Some : goal.returns-in-Some
returns-in-Some c = λ e.
    let member = c.in-Some.ensures.member in
    let gives : GivesWay c.self.inside.text.now c.args.passed = subst (GivesWay c.self.inside.text.now) (sym member.1.1 ∙ c.is_same.ensures e) (c.self.invariant.2 member.0 c.in-Some.known.now member.1.0) in
    subst (λ text. GivesWay text c.args.passed) (search rules) gives
