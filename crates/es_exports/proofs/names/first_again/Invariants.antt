use Rattle.std.proofs.Common.{◌≡◌, ◌<◌, ℕ, false}
use Rattle.es_exports.specs.Saying.{seen_at, is_again_at}
use Rattle.es_exports.proofs.names.first_again.Given as goal

abbrev pub invariant-loop-place : goal.invariant-loop-place
invariant-loop-place l = record {
  seen : l.seen ≡ seen_at l.sight l.place;
  earlier : (other : ℕ) → other < l.place → is_again_at l.sight other ≡ false;
}
