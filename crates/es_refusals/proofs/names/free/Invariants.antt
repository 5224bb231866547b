-- the names that the places before give
use Rattle.export_names.specs.Collected.{key_names}
use Rattle.es_refusals.specs.Names.{AreGiven, GivesFree}
use Rattle.es_refusals.proofs.names.free.Given as goal

abbrev pub invariant-loop-place : goal.invariant-loop-place
invariant-loop-place l = AreGiven (GivesFree l.outlined l.scopes) l.place (key_names l.names.keys)
