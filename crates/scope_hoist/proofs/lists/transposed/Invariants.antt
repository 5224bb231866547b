-- the lists so far
use Rattle.std.proofs.Common.{take}
use Rattle.scope_hoist.specs.Scopes.{AreTransposed}
use Rattle.scope_hoist.proofs.lists.transposed.Given as goal

abbrev pub invariant-loop-number : goal.invariant-loop-number
invariant-loop-number l = AreTransposed (take l.number l.lists) l.count l.lines.items
