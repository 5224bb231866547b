-- what was written, and what is left
use Rattle.std.proofs.Common.{◌≡◌, ◌++◌, drop, codes}
use Rattle.emit_chunk.specs.Joined.{each_behind}
use Rattle.emit_chunk.specs.Entry.{chunk_text}
use Rattle.emit_chunk.proofs.entry.put_more_chunks.Given as goal

abbrev pub invariant-loop-chunk : goal.invariant-loop-chunk
invariant-loop-chunk l = l.out.items ++ each_behind (codes ", ") (chunk_text l.plan l.hashes) (drop l.chunk-index l.chunks) ≡ l.initial.out.items ++ each_behind (codes ", ") (chunk_text l.plan l.hashes) l.chunks
