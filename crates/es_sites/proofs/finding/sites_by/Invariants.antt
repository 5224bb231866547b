use Rattle.es_scope.specs.SiteRules.{IsSite}
use Rattle.es_sites.specs.Tables.{known}
use Rattle.es_sites.specs.Listing.{AreBefore}
use Rattle.es_sites.proofs.finding.sites_by.Given as goal

abbrev pub invariant-loop-place : goal.invariant-loop-place
invariant-loop-place l = AreBefore (IsSite l.tables.source (known l.tables)) l.place l.sites.items
