use Rattle.std.proofs.Common.{◌≡◌, ℕ, ◌<◌, ◌≤◌, [], None, cond, length, vec_len, get_or}
use Rattle.pk_base.specs.Outside.{covers}
use Rattle.pk_base.proofs.mem_files.take_covered.Given as goal

abbrev pub invariant-loop-n : goal.invariant-loop-n
invariant-loop-n l = record {
  len : vec_len l.present ≡ length l.paths;
  next_len : vec_len l.next ≡ length l.paths;
  done : (k : ℕ) → k < l.n → get_or l.present.items k None ≡ cond (covers l.listed (get_or l.paths k [])) (get_or l.initial.next.items k None) (get_or l.initial.present.items k None);
  rest : (k : ℕ) → l.n ≤ k → get_or l.present.items k None ≡ get_or l.initial.present.items k None;
  more : (k : ℕ) → l.n ≤ k → get_or l.next.items k None ≡ get_or l.initial.next.items k None;
}
