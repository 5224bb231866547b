-- those so far
use Rattle.std.proofs.Common.{◌≡◌, ◌<◌, true, Some, slice_get}
use Rattle.scope_hoist.proofs.Barring.{AreCleared}
use Rattle.scope_hoist.proofs.flags.clear_whole.Given as goal

abbrev pub invariant-loop-member : goal.invariant-loop-member
invariant-loop-member l = AreCleared (λ k. (k < l.member) × (slice_get l.whole k ≡ Some true)) l.initial.flags.items l.flags.items
