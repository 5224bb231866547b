use Rattle.std.proofs.Common.{sym, subst, ◌∙◌}
use Rattle.es_tree.specs.declared.tokens.ProgramGoal.TheVariants.{Script}
use Rattle.pk_types.specs.declared.facts.NameKind.TheVariants as name
use Rattle.es_facts.specs.Answer.{Answers}
use Rattle.es_facts.proofs.ByName.{either_answer, otherwise_answer, no_tree}
use Rattle.es_facts.proofs.texts.of_either.Goals as goal

pub returns-then-is_treeless-clause-answer : goal.returns-then-is_treeless-clause-answer
returns-then-is_treeless-clause-answer g c =
    let text = c.args.bytes.now in
    let none = no_tree text Script c.at_goal-script.result (sym c.is_treeless.ensures ∙ c.if-is_treeless.true) c.at_goal-script.ensures.answer in
    subst (Answers text name.Either) (sym c.or_syntax.ensures) (otherwise_answer text c.requires.utf8 none c.at_goal.result c.at_goal.ensures.answer)

pub returns-clause-answer : goal.returns-clause-answer
returns-clause-answer g c =
    let text = c.args.bytes.now in
    let some = sym c.is_treeless.ensures ∙ c.if-is_treeless.false in
    subst (Answers text name.Either) (sym c.or_syntax-2.ensures) (either_answer text c.requires.utf8 c.at_goal-script.result some c.at_goal-script.ensures.answer)
