use Rattle.es_facts.specs.Answer.{HasFault}
use Rattle.es_facts.proofs.texts.program_facts.Goals as goal

pub returns-then-not-is_utf8-clause-answer : goal.returns-then-not-is_utf8-clause-answer
returns-then-not-is_utf8-clause-answer g c = HasFault.not_utf8 c.args.name c.requires.program (c.is_utf8.ensures.no c.if-not-is_utf8.true)
