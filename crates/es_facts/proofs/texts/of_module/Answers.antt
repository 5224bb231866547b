use Rattle.std.proofs.Common.{sym, subst}
use Rattle.pk_types.specs.declared.facts.NameKind.TheVariants as name
use Rattle.es_facts.specs.Answer.{Answers}
use Rattle.es_facts.proofs.ByName.{module_answer}
use Rattle.es_facts.proofs.texts.of_module.Goals as goal

pub returns-clause-answer : goal.returns-clause-answer
returns-clause-answer g c =
    let text = c.args.bytes.now in
    subst (Answers text name.Module) (sym c.or_syntax.ensures) (module_answer text c.requires.utf8 c.at_goal.result c.at_goal.ensures.answer)
