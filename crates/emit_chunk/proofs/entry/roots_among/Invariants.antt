-- what was kept, and what is left
use Rattle.std.proofs.Common.{◌≡◌, ◌++◌, drop}
use Rattle.std.specs.List.{filter}
use Rattle.emit_chunk.specs.Entry.{is_root}
use Rattle.emit_chunk.proofs.entry.roots_among.Given as goal

abbrev pub invariant-loop-number : goal.invariant-loop-number
invariant-loop-number l = l.roots.items ++ filter (is_root l.plan) (drop l.number-index l.modules) ≡ filter (is_root l.plan) l.modules
