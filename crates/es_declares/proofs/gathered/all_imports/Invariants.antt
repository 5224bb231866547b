use Rattle.es_declares.proofs.GatheredLaws.{AreGatheredTo}
use Rattle.es_declares.proofs.gathered.all_imports.Given as goal

abbrev pub invariant-loop-place : goal.invariant-loop-place
invariant-loop-place l = AreGatheredTo l.outlined l.asked.requests l.place l.imports
