-- what was kept, and what is left
use Rattle.std.proofs.Common.{◌≡◌, ◌++◌, drop}
use Rattle.std.specs.List.{filter}
use Rattle.emit_chunk.specs.Entry.{is_root}
use Rattle.chunk_files.proofs.chunk.roots_among.Given as goal

abbrev pub invariant-loop-module : goal.invariant-loop-module
invariant-loop-module l = l.roots.items ++ filter (is_root l.material.plan) (drop l.module-index l.modules) ≡ filter (is_root l.material.plan) l.modules
