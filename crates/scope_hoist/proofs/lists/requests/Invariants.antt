-- the modules so far
use Rattle.std.proofs.Common.{◌≡◌, ◌↔◌, ℕ, ◌<◌, [], length, get_or}
use Rattle.std.specs.List.{Contains}
use Rattle.pk_types.specs.HoistSets.{IsRequester}
use Rattle.scope_hoist.proofs.lists.requests.Given as goal

abbrev pub invariant-loop-from : goal.invariant-loop-from
invariant-loop-from l = record {
  each : length l.asks.items ≡ l.from;
  lists : (k : ℕ) → k < l.from → (target : ℕ) → Contains (get_or l.asks.items k []) target ↔ IsRequester l.active k target;
}
