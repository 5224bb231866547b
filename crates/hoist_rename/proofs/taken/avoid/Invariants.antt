-- the names so far are taken
use Rattle.std.proofs.Common.{take, ◌++◌}
use Rattle.hoist_rename.specs.Kept.{IsKept, HaveSame}
use Rattle.hoist_rename.proofs.taken.avoid.Given as goal

abbrev pub invariant-loop-name : goal.invariant-loop-name
invariant-loop-name l = HaveSame l.taken.names.keys (l.fn.taken.names.keys ++ take l.name-index l.names)
    × IsKept l.taken.names.keys l.taken.last.items
