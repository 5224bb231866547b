use Rattle.pk_types.proofs.FittingNone.{no_facts_fit}
use Rattle.pk_types.proofs.facts.Facts.none.Goals as goal

pub returns-clause-fitting : goal.returns-clause-fitting
returns-clause-fitting c = rw (c.new.ensures, c.new-2.ensures, c.new-3.ensures, c.new-4.ensures, c.new-5.ensures, c.new-6.ensures, c.new-7.ensures, c.new-8.ensures, c.new-9.ensures) (no_facts_fit c.args.kind)
