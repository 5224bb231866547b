-- What a site names is there. Only private clauses cite this.
use Rattle.pk_types.specs.declared.facts.SiteKind.{SiteKind}
use Rattle.pk_types.specs.declared.graph.Row.{Row}
use Rattle.pk_types.specs.Places.{ArePlacesIn}
use Rattle.pk_types.specs.Sites.{site_bindings, site_imports, space_requests, called_requests}

pub record SiteFits (row : Row) (kind : SiteKind) : Type 0 where
  pub bindings : ArePlacesIn row.facts.bindings (site_bindings kind)
  pub imports : ArePlacesIn row.facts.imports (site_imports kind)
  pub spaces : ArePlacesIn row.facts.requests (space_requests kind)
  pub calls : ArePlacesIn row.facts.requests (called_requests kind)
