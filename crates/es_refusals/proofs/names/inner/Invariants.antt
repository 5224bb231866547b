-- the names that the first declarations before give
use Rattle.export_names.specs.Collected.{key_names}
use Rattle.es_refusals.specs.Names.{AreGiven, GivesInner}
use Rattle.es_refusals.proofs.names.inner.Given as goal

abbrev pub invariant-loop-index : goal.invariant-loop-index
invariant-loop-index l = AreGiven (GivesInner l.outlined l.scopes) l.index (key_names l.names.keys)
