-- the modules so far
use Rattle.std.proofs.Common.{◌≡◌, ◌↔◌, ◌⊎◌, ℕ, true, length, take}
use Rattle.std.specs.List.{Contains}
use Rattle.avail_sets.specs.Words.{flag_in}
use Rattle.avail_sets.proofs.shrinking.load.Given as goal

abbrev pub invariant-loop-number : goal.invariant-loop-number
invariant-loop-number l = record {
  long : length l.have ≡ length l.row;
  flags : (k : ℕ) → (flag_in l.have k ≡ true) ↔ ((flag_in l.row k ≡ true) ⊎ Contains (take l.number-index l.modules) k);
}
