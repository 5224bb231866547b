-- those so far are in order
use Rattle.std.proofs.Common.{◌≡◌, ◌≤◌, ℕ, ◌<◌, [], length, get_or}
use Rattle.pk_types.specs.ChunkGroups.{AreAll}
use Rattle.pk_types.specs.HoistSets.{IsInChunk}
use Rattle.scope_hoist.proofs.lists.homes.Given as goal

abbrev pub invariant-loop-member : goal.invariant-loop-member
invariant-loop-member l = record {
  each : length l.homes.items ≡ l.count;
  done : (k : ℕ) → k < l.member → AreAll (λ chunk. IsInChunk l.chunks chunk k) (get_or l.homes.items k []);
  waits : (k : ℕ) → l.member ≤ k → get_or l.homes.items k [] ≡ get_or l.initial.homes.items k [];
}
