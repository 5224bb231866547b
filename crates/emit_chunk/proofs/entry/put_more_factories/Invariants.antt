-- what was written, and what is left
use Rattle.std.proofs.Common.{◌≡◌, ◌++◌, drop, codes}
use Rattle.emit_chunk.specs.Joined.{each_behind}
use Rattle.emit_chunk.specs.Factories.{factory_of}
use Rattle.emit_chunk.proofs.entry.put_more_factories.Given as goal

abbrev pub invariant-loop-root : goal.invariant-loop-root
invariant-loop-root l = l.out.items ++ each_behind (codes ",\n") (factory_of l.graph l.plan l.bodies) (drop l.root-index l.roots) ≡ l.initial.out.items ++ each_behind (codes ",\n") (factory_of l.graph l.plan l.bodies) l.roots
