-- what was written, and what is left
use Rattle.std.proofs.Common.{◌≡◌, drop}
use Rattle.chunk_files.specs.Joined.{each_behind}
use Rattle.chunk_files.specs.Pens.{penned}
use Rattle.chunk_files.proofs.parts.put_from.Given as goal

abbrev pub invariant-loop-place : goal.invariant-loop-place
invariant-loop-place g l = penned l.pen (each_behind l.separator (drop l.place (g.P.Parts.texts l.parts)))
    ≡ penned l.initial.pen (each_behind l.separator (drop l.first (g.P.Parts.texts l.parts)))
