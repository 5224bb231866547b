use Rattle.std.proofs.Common.{◌≡◌, length}
use Rattle.std.specs.List.{All}
use Rattle.emit_chunk.specs.Bare.{IsBareRow}
use Rattle.plan_run.proofs.building.build.Given as goal

abbrev pub invariant-loop : goal.invariant-loop
invariant-loop l = record {
  entry : length l.builder.entries ≡ 1;
  bare : All IsBareRow l.builder.rows;
}
