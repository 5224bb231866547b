-- the groups so far
use Rattle.std.proofs.Common.{[]}
use Rattle.chunk_groups.specs.Gathered.{IsGathered, LeadsAt}
use Rattle.chunk_groups.proofs.leading.leads_of.Given as goal

abbrev pub invariant-loop-number : goal.invariant-loop-number
invariant-loop-number l = IsGathered [] (LeadsAt l.numbers l.imports l.modules) l.number-index l.groups.items
