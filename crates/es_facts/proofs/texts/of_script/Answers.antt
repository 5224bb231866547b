use Rattle.std.proofs.Common.{sym, subst}
use Rattle.pk_types.specs.declared.facts.NameKind.TheVariants as name
use Rattle.es_facts.specs.Answer.{Answers}
use Rattle.es_facts.proofs.ByName.{common_answer}
use Rattle.es_facts.proofs.texts.of_script.Goals as goal

pub returns-clause-answer : goal.returns-clause-answer
returns-clause-answer g c =
    let text = c.args.bytes.now in
    subst (Answers text name.Common) (sym c.or_syntax.ensures) (common_answer text c.requires.utf8 c.at_goal.result c.at_goal.ensures.answer)
