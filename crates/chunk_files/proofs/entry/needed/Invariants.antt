-- the chunks of the groups so far
use Rattle.std.proofs.Common.{◌↔◌, ℕ, length, take}
use Rattle.std.specs.List.{Contains}
use Rattle.emit_chunk.specs.Ranges.{AreBelow}
use Rattle.chunk_files.specs.Entries.{IsNeeded}
use Rattle.chunk_files.proofs.entry.needed.Given as goal

abbrev pub invariant-loop-group : goal.invariant-loop-group
invariant-loop-group l = record {
  needed : (chunk : ℕ) → Contains l.chunks.items chunk ↔ IsNeeded l.material.plan (take l.group-index l.groups) chunk;
  within : AreBelow (length l.material.plan.ids.chunks) l.chunks.items;
}
