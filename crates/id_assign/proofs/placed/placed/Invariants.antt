-- the flags of the modules of the chunks so far are set
use Rattle.std.proofs.Common.{◌≡◌, ℕ, ◌<◌, false, length, take, get_or}
use Rattle.std.specs.List.{list_any}
use Rattle.pk_types.specs.Numbers.{has}
use Rattle.id_assign.proofs.placed.placed.Given as goal

abbrev pub invariant-loop-modules : goal.invariant-loop-modules
invariant-loop-modules l = (length l.flags.items ≡ l.count)
    × ((member : ℕ) → member < l.count → get_or l.flags.items member false ≡ list_any (λ modules. has modules member) (take l.modules-index l.chunks.modules))
