use Rattle.std.proofs.Common.{◌≡◌, ◌<◌, length}
use Rattle.es_sites.specs.Tables.{declaration_around}
use Rattle.es_sites.proofs.binding.declaration_around.Given as goal

abbrev pub invariant-loop-opening : goal.invariant-loop-opening
invariant-loop-opening l = record {
  same : declaration_around l.outlined l.at ≡ declaration_around l.outlined l.place;
  inside : l.at < length l.outlined.marks;
}

abbrev pub decreases-loop-opening : goal.decreases-loop-opening
decreases-loop-opening l = l.at
