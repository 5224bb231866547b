use Rattle.std.proofs.Common.{◌≡◌}
use Rattle.es_parts.specs.Around.{IsAround}
use Rattle.es_parts.specs.Frames.{frames_at}
use Rattle.es_parts.proofs.Following.{AreTo}
use Rattle.es_parts.proofs.enclosing.Enclosing.new.Given as goal

abbrev pub invariant-loop-place : goal.invariant-loop-place
invariant-loop-place l = record {
  open_parts : l.parts ≡ frames_at l.marks l.place;
  table : AreTo (IsAround l.marks) l.place l.table.items;
}
