-- the ids so far
use Rattle.std.proofs.Common.{map, take}
use Rattle.sha2.specs.Sha256.{sha256}
use Rattle.pk_types.specs.HashedIds.{chunk_start}
use Rattle.pk_types.specs.ModuleIds.{AreGivenInOrder}
use Rattle.id_assign.proofs.hashed.chunk_ids.Given as goal

abbrev pub invariant-loop-modules : goal.invariant-loop-modules
invariant-loop-modules l = AreGivenInOrder (map (chunk_start sha256 l.graph) (take l.modules-index l.chunks)) l.taken.keys
