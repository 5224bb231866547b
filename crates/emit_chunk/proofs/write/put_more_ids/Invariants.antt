-- what was written, and what is left
use Rattle.std.proofs.Common.{◌≡◌, ◌++◌, drop, codes}
use Rattle.emit_chunk.specs.Joined.{each_behind}
use Rattle.emit_chunk.specs.Factories.{id_text}
use Rattle.emit_chunk.proofs.write.put_more_ids.Given as goal

abbrev pub invariant-loop-module : goal.invariant-loop-module
invariant-loop-module l = l.out.items ++ each_behind (codes ", ") (id_text l.plan) (drop l.module-index l.modules) ≡ l.initial.out.items ++ each_behind (codes ", ") (id_text l.plan) l.modules
