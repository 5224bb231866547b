-- what was written, and what is left
use Rattle.std.proofs.Common.{◌≡◌, ◌+◌, drop}
use Rattle.emit_body.specs.Pieces.{pieces_size}
use Rattle.chunk_files.proofs.segments.plain_behind.Given as goal

abbrev pub invariant-loop-piece : goal.invariant-loop-piece
invariant-loop-piece l = l.left + pieces_size l.pieces ≡ l.size + pieces_size (drop l.piece-index l.pieces)
