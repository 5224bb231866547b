-- those so far
use Rattle.std.proofs.Common.{take}
use Rattle.scope_hoist.proofs.Barring.{AreCleared}
use Rattle.std.specs.List.{Contains}
use Rattle.scope_hoist.proofs.flags.clear.Given as goal

abbrev pub invariant-loop-member : goal.invariant-loop-member
invariant-loop-member l = AreCleared (Contains (take l.member-index l.members)) l.initial.flags.items l.flags.items
