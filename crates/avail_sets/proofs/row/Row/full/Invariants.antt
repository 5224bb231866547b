-- the flags so far
use Rattle.std.proofs.Common.{◌≡◌, ℕ, nat_lt, length}
use Rattle.avail_sets.specs.Words.{flag_in, words_for}
use Rattle.avail_sets.proofs.row.Row.full.Given as goal

abbrev pub invariant-loop-number : goal.invariant-loop-number
invariant-loop-number l = record {
  long : length l.row ≡ words_for l.count;
  flags : (k : ℕ) → flag_in l.row k ≡ nat_lt k l.number;
}
