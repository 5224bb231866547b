use Rattle.std.proofs.Common.{◌≡◌, ◌-◌, drop, length}
use Rattle.es_sites.specs.Marks.{updated_by}
use Rattle.es_sites.proofs.marks.updated_from.Given as goal

abbrev pub invariant-loop-at : goal.invariant-loop-at
invariant-loop-at l = updated_by (drop l.at l.marks) ≡ updated_by (drop l.place l.marks)

abbrev pub decreases-loop-at : goal.decreases-loop-at
decreases-loop-at l = length l.marks - l.at
