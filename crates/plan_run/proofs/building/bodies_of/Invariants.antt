use Rattle.std.proofs.Common.{◌≡◌, length}
use Rattle.std.specs.List.{All}
use Rattle.emit_body.specs.Pieces.{HoldsPieces}
use Rattle.plan_run.proofs.building.bodies_of.Given as goal

abbrev pub invariant-loop-row : goal.invariant-loop-row
invariant-loop-row l = record {
  each : length l.bodies.items ≡ l.row-index;
  pieces : All HoldsPieces l.bodies.items;
}
