-- the targets so far
use Rattle.std.proofs.Common.{[]}
use Rattle.pk_types.specs.declared.facts.SiteKind.TheVariants.{Import}
use Rattle.chunk_groups.specs.Gathered.{IsGathered, CallsAt}
use Rattle.chunk_groups.proofs.lines.imported.Given as goal

abbrev pub invariant-loop-site : goal.invariant-loop-site
invariant-loop-site l = IsGathered [] (CallsAt Import l.row) l.site-index l.targets.items
