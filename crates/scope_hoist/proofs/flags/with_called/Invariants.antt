-- the targets so far
use Rattle.chunk_groups.specs.Gathered.{IsGathered}
use Rattle.scope_hoist.specs.Scopes.{CallsAtSite}
use Rattle.scope_hoist.proofs.flags.with_called.Given as goal

abbrev pub invariant-loop-site : goal.invariant-loop-site
invariant-loop-site l = IsGathered l.initial.targets.items (CallsAtSite l.row) l.site-index l.targets.items
