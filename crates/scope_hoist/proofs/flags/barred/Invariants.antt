-- the modules so far
use Rattle.chunk_groups.specs.Gathered.{IsGathered}
use Rattle.scope_hoist.proofs.Barring.{CalledBy}
use Rattle.scope_hoist.proofs.flags.barred.Given as goal

abbrev pub invariant-loop-number : goal.invariant-loop-number
invariant-loop-number l = IsGathered l.graph.entries (CalledBy l.graph l.active) l.number l.barred.items
