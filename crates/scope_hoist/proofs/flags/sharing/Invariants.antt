-- the modules so far
use Rattle.scope_hoist.proofs.Barring.{SharingUpTo}
use Rattle.scope_hoist.proofs.flags.sharing.Given as goal

abbrev pub invariant-loop-number : goal.invariant-loop-number
invariant-loop-number l = SharingUpTo l.graph l.homes l.concatenate l.number l.sharing.items
