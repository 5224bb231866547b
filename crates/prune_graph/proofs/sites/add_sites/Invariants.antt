-- what the sites use that were gone through
use Rattle.std.proofs.Common.{take}
use Rattle.pk_types.specs.Requests.{site_kinds}
use Rattle.prune_graph.specs.AtSites.{OneUsesName, OneUsesSpace}
use Rattle.prune_graph.specs.Gathering.{Gains}
use Rattle.prune_graph.proofs.sites.add_sites.Given as goal

abbrev pub invariant-loop-site : goal.invariant-loop-site
invariant-loop-site l =
    Gains l.fn.through (OneUsesName l.row (take l.site-index (site_kinds l.row))) (OneUsesSpace (take l.site-index (site_kinds l.row))) l.through
