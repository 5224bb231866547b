-- those so far are held, in the same chunks
use Rattle.std.proofs.Common.{ℕ, ◌<◌, get_or}
use Rattle.scope_hoist.specs.Standing.{AreTogether, IsHeld}
use Rattle.scope_hoist.proofs.gone.outsider.Given as goal

abbrev pub invariant-loop-from : goal.invariant-loop-from
invariant-loop-from l = (k : ℕ) → k < l.from-index → IsHeld l.marks (get_or l.requesters k 0) × AreTogether l.homes (get_or l.requesters k 0) l.member
