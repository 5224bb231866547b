use Rattle.std.proofs.Common.{◌≡◌}
use Rattle.es_scope.specs.Occurrences.{is_binder}
use Rattle.es_parts.specs.Around.{IsInnermost}
use Rattle.es_parts.specs.Frames.{frames_at}
use Rattle.es_parts.proofs.Following.{AreTo}
use Rattle.es_parts.proofs.binders.Binders.new.Given as goal

abbrev pub invariant-loop-place : goal.invariant-loop-place
invariant-loop-place l = record {
  open_parts : l.parts ≡ frames_at l.marks l.place;
  table : AreTo (IsInnermost is_binder l.marks) l.place l.table.items;
}
