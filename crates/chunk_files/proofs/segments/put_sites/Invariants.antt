-- what was written, and what is left
use Rattle.std.proofs.Common.{◌≡◌, drop}
use Rattle.emit_chunk.specs.Joined.{all_of}
use Rattle.emit_chunk.specs.Marks.{mark_of}
use Rattle.chunk_files.specs.Pens.{penned}
use Rattle.chunk_files.proofs.segments.put_sites.Given as goal

abbrev pub invariant-loop-piece : goal.invariant-loop-piece
invariant-loop-piece l = penned l.pen (all_of mark_of (drop l.piece-index l.pieces)) ≡ penned l.initial.pen (all_of mark_of l.pieces)
