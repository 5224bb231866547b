-- the names that the members so far use or declare inside are taken
use Rattle.std.proofs.Common.{take, flat_map}
use Rattle.pk_types.specs.GivenNames.{avoided_names}
use Rattle.hoist_rename.specs.Kept.{IsKept, HaveSame}
use Rattle.hoist_rename.proofs.shared.avoided.Given as goal

abbrev pub invariant-loop-member : goal.invariant-loop-member
invariant-loop-member l = HaveSame l.taken.names.keys (flat_map (avoided_names l.graph) (take l.member-index l.members))
    × IsKept l.taken.names.keys l.taken.last.items
