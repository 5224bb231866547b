use Rattle.std.proofs.Common.{◌≡◌, ℕ, None, vec_len, get_or}
use Rattle.pk_base.proofs.mem_files.empty_column.Given as goal

abbrev pub invariant-loop-place : goal.invariant-loop-place
invariant-loop-place l = record {
  len : vec_len l.column ≡ l._place;
  empty : (n : ℕ) → get_or l.column.items n None ≡ None;
}
