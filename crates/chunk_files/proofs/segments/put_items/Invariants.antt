-- what was written, and what is left
use Rattle.std.proofs.Common.{◌≡◌, drop}
use Rattle.emit_chunk.specs.Joined.{all_of}
use Rattle.emit_chunk.specs.Factories.{item_text}
use Rattle.chunk_files.specs.Pens.{penned}
use Rattle.chunk_files.proofs.segments.put_items.Given as goal

abbrev pub invariant-loop-item : goal.invariant-loop-item
invariant-loop-item l = penned l.pen (all_of (item_text l.material.graph l.material.plan l.material.bodies) (drop l.item-index l.items))
    ≡ penned l.initial.pen (all_of (item_text l.material.graph l.material.plan l.material.bodies) l.items)
