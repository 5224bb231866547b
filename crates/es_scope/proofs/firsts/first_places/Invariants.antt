use Rattle.std.proofs.Common.{◌≡◌}
use Rattle.es_scope.specs.Frames.{frames_at}
use Rattle.es_scope.specs.Firsts.{AreFirst, AreNamed, told}
use Rattle.es_scope.proofs.firsts.first_places.Given as goal

abbrev pub invariant-loop-place : goal.invariant-loop-place
invariant-loop-place l = record {
  open_parts : l.open ≡ frames_at l.outlined.marks l.place;
  first : AreFirst l.outlined l.names.texts l.place (told l.firsts);
  named : AreNamed l.names.texts (told l.firsts);
}
