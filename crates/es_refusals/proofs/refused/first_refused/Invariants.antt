-- nothing so far
use Rattle.es_refusals.specs.Refusing.{IsClear}
use Rattle.es_refusals.proofs.refused.first_refused.Given as goal

abbrev pub invariant-loop-index : goal.invariant-loop-index
invariant-loop-index l = IsClear l.outlined l.tables.scopes.now l.tables.enclosing.now l.tables.forwarded.now l.index
