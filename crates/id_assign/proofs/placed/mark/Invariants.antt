-- the flags of the modules so far are set
use Rattle.std.proofs.Common.{◌≡◌, ℕ, ◌<◌, ◌||◌, false, length, take, get_or}
use Rattle.pk_types.specs.Numbers.{has}
use Rattle.id_assign.proofs.placed.mark.Given as goal

abbrev pub invariant-loop-member : goal.invariant-loop-member
invariant-loop-member l = (member : ℕ) → member < length l.flags
    → get_or l.flags member false ≡ (get_or l.initial.flags member false || has (take l.member-index l.modules) member)
