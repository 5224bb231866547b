-- what was written, and what is left
use Rattle.std.proofs.Common.{◌≡◌, ◌++◌, drop}
use Rattle.emit_chunk.specs.Joined.{all_of}
use Rattle.emit_chunk.specs.Marks.{mark_of}
use Rattle.emit_chunk.proofs.factory.put_sites.Given as goal

abbrev pub invariant-loop-piece : goal.invariant-loop-piece
invariant-loop-piece l = l.out.items ++ all_of mark_of (drop l.piece-index l.pieces) ≡ l.initial.out.items ++ all_of mark_of l.pieces
