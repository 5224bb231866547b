use Rattle.std.proofs.Common.{◌≡◌}
use Rattle.es_scope.specs.Frames.{frames_at}
use Rattle.es_scope.specs.Firsts.{told}
use Rattle.es_scope.proofs.FoundTable.{AreAnswersTo}
use Rattle.es_scope.proofs.finding.found_names.Given as goal

abbrev pub invariant-loop-place : goal.invariant-loop-place
invariant-loop-place l = record {
  open_parts : l.open ≡ frames_at l.outlined.marks l.place;
  answers : AreAnswersTo l.outlined l.names.texts l.names.numbers.items (told l.firsts) l.place l.table.items;
}
