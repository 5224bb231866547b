-- the groups so far
use Rattle.std.proofs.Common.{take}
use Rattle.avail_sets.specs.Rows.{ArePassed}
use Rattle.avail_sets.proofs.shrinking.pass_on.Given as goal

abbrev pub invariant-loop-group : goal.invariant-loop-group
invariant-loop-group l = ArePassed l.have (take l.group-index l.leads) l.initial.rows.items l.rows.items l.initial.waiting.keys l.waiting.keys
