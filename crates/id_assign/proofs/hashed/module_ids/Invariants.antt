-- the ids so far
use Rattle.sha2.specs.Sha256.{sha256}
use Rattle.pk_types.specs.HashedIds.{module_start}
use Rattle.id_assign.specs.Flags.{is_set}
use Rattle.id_assign.proofs.Numbering.{IsSoFar}
use Rattle.id_assign.proofs.hashed.module_ids.Given as goal

abbrev pub invariant-loop-number : goal.invariant-loop-number
invariant-loop-number l = IsSoFar (module_start sha256 l.graph) (is_set l.placed) l.number l.ids.items l.taken.keys
