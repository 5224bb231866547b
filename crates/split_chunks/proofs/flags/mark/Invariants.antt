use Rattle.std.proofs.Common.{take}
use Rattle.split_chunks.specs.Marked.{Marks}
use Rattle.split_chunks.proofs.flags.mark.Given as goal

abbrev pub invariant-loop-number : goal.invariant-loop-number
invariant-loop-number l = Marks (take l.number-index l.numbers) l.initial.flags.items l.flags.items
