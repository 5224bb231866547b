-- those so far
use Rattle.std.proofs.Common.{◌≡◌, ℕ, ◌<◌, true, false, length, get_or}
use Rattle.std.specs.List.{All, Contains}
use Rattle.scope_hoist.proofs.roots.joining.Given as goal

abbrev pub invariant-loop-member : goal.invariant-loop-member
invariant-loop-member l = record {
  within : All (λ member. member < length l.may_join) l.joining.items;
  joining : (k : ℕ) → k < l.member → get_or l.may_join k false ≡ true → Contains l.joining.items k;
}
