-- the targets so far
use Rattle.pk_types.specs.declared.facts.SiteKind.TheVariants.{Require}
use Rattle.chunk_groups.specs.Gathered.{IsGathered, CallsAt}
use Rattle.chunk_groups.proofs.lines.with_required.Given as goal

abbrev pub invariant-loop-site : goal.invariant-loop-site
invariant-loop-site l = IsGathered l.initial.targets.items (CallsAt Require l.row) l.site-index l.targets.items
