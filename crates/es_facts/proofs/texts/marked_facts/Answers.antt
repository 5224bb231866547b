use Rattle.es_facts.proofs.Fitting.{fit_answer}
use Rattle.es_facts.proofs.texts.marked_facts.Goals as goal

pub returns-clause-fit : goal.returns-clause-fit
returns-clause-fit c =
    fit_answer c.args.bytes.now c.args.goal c.args.marks.now c.requires.outlined c.requires.short c.new.result c.new.ensures c.facts_of.result c.facts_of.ensures
