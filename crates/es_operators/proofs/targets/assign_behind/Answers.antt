use Rattle.std.proofs.Common.{rules, ◌≡◌, true, false, Some, refl, sym, subst}
use Rattle.es_tree.specs.declared.tokens.Goal.TheVariants.{Operator as AtOperator}
use Rattle.es_reader.specs.Basics.{token}
use Rattle.es_reader.specs.Operators.{is_assignment}
use Rattle.es_trace.specs.Targets.{is_bare}
use Rattle.es_cursor.specs.declared.passed.Attempt.TheVariants as attempt
use Rattle.es_cursor.specs.Giving.{GivesWay}
use Rattle.es_operators.specs.Giving.{GivesWayAtPostfix}
use Rattle.es_operators.proofs.Passing.{no_assign_behind, no_postfix_behind, tried}
use Rattle.es_operators.proofs.targets.assign_behind.Goals as goal

pub operand_behind-requires-clause-gives : goal.operand_behind-requires-clause-gives
operand_behind-requires-clause-gives g c =
    let there : token c.args.cursor.now AtOperator c.args.chain.at ≡ Some c.in-Some.behind = search rules in
    let unlike : is_assignment c.args.cursor.now c.in-Some.behind ≡ false = search rules in
    let gives = no_postfix_behind c.args.cursor.now c.args.knot.now.nest c.args.c c.args.at c.args.token c.requires.first
    c.args.outline.now.kept c.args.outline.now.marks c.args.chain c.in-Some.behind c.requires.comes there unlike in
    subst (λ text. GivesWayAtPostfix text c.args.chain (tried attempt.Postfix c.args.knot.now.nest c.args.c c.args.at)) (sym c.in-Some.ensures.kept) gives

pub pass-requires : goal.pass-requires
pass-requires g c =
    let there : token c.args.cursor.now AtOperator c.args.chain.at ≡ Some c.in-Some.behind = search rules in
    let assigns : is_assignment c.args.cursor.now c.in-Some.behind ≡ true = search rules in
    let unlike : is_bare c.args.chain ≡ false = rw (c.if-chain.false, c.if-chain-2.false) refl in
    let gives = no_assign_behind c.args.cursor.now c.args.knot.now.nest c.args.c c.args.at c.args.token c.requires.first
    c.args.outline.now.kept c.args.outline.now.marks c.args.chain c.in-Some.behind c.requires.comes there assigns unlike in
    subst (λ text. GivesWay text (tried attempt.Assign c.args.knot.now.nest c.args.c c.args.at)) (sym c.in-Some.ensures.kept) gives
