-- the words so far
use Rattle.std.proofs.Common.{◌≡◌, ℕ, ◌<◌, ◌≤◌, true, false, bit_and, length, get_or, sum_by}
use Rattle.avail_sets.proofs.row.Row.keep_common.Given as goal

abbrev pub invariant-loop-place : goal.invariant-loop-place
invariant-loop-place l = record {
  long : length l.self-inside.words.items ≡ length l.initial.self-inside.words.items;
  done : (k : ℕ) → k < l.place → get_or l.self-inside.words.items k 0 ≡ bit_and (get_or l.initial.self-inside.words.items k 0) (get_or l.other k 0);
  left : (k : ℕ) → l.place ≤ k → get_or l.self-inside.words.items k 0 ≡ get_or l.initial.self-inside.words.items k 0;
  same : l.went ≡ false → l.self-inside.words.items ≡ l.initial.self-inside.words.items;
  fewer : l.went ≡ true → sum_by (λ word. word) l.self-inside.words.items < sum_by (λ word. word) l.initial.self-inside.words.items;
}
