-- what was written, and what is left
use Rattle.std.proofs.Common.{◌≡◌, ◌++◌, drop}
use Rattle.emit_chunk.specs.Factories.{evaluated}
use Rattle.chunk_files.proofs.factories.evaluated.Given as goal

abbrev pub invariant-loop-item : goal.invariant-loop-item
invariant-loop-item l = l.modules.items ++ evaluated (drop l.item-index l.items) ≡ evaluated l.items
