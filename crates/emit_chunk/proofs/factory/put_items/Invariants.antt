-- what was written, and what is left
use Rattle.std.proofs.Common.{◌≡◌, ◌++◌, drop}
use Rattle.emit_chunk.specs.Joined.{all_of}
use Rattle.emit_chunk.specs.Factories.{item_text}
use Rattle.emit_chunk.proofs.factory.put_items.Given as goal

abbrev pub invariant-loop-item : goal.invariant-loop-item
invariant-loop-item l = l.out.items ++ all_of (item_text l.graph l.plan l.bodies) (drop l.item-index l.items) ≡ l.initial.out.items ++ all_of (item_text l.graph l.plan l.bodies) l.items
