use Rattle.std.proofs.Common.{◌≡◌, ℕ, ◌<◌, false, get_or}
use Rattle.pk_base.specs.Paths.{is_slash}
use Rattle.node_resolve.proofs.request.part_len.Given as goal

abbrev pub invariant-loop-at : goal.invariant-loop-at
invariant-loop-at l = (k : ℕ) → k < l.at → is_slash (get_or l.text k 0) ≡ false
