-- A graph whose numbers, facts and labels fit one another.
use Rattle.std.specs.Prelude.{◌≡◌, length, map}
use Rattle.std.specs.List.{All, IsDistinct}
use Rattle.std.specs.Str.{bytes_eq}
use Rattle.pk_types.specs.declared.facts.Facts.{Facts}
use Rattle.pk_types.specs.declared.graph.Graph.{Graph}
use Rattle.pk_types.specs.declared.graph.Row.{Row}
use Rattle.pk_types.specs.Places.{ArePlacesIn, HasPlaces, HasShortLists, IsShort}
use Rattle.pk_types.specs.Lawful.{IsLawful}

-- facts that a graph may hold
pub record AreFitting (facts : Facts) : Type 0 where
  pub places : HasPlaces facts
  pub lawful : IsLawful facts
  pub short : HasShortLists facts

-- a row has one target for each request, and each is the number of a row
pub record RowFits (graph : Graph) (row : Row) : Type 0 where
  pub facts : AreFitting row.facts
  pub each : length row.targets ≡ length row.facts.requests
  pub targets : ArePlacesIn graph.rows row.targets

-- That each label is a written path is left out: it is said where paths stand.
pub record Fits (graph : Graph) : Type 0 where
  pub rows : All (RowFits graph) graph.rows
  pub entries : ArePlacesIn graph.rows graph.entries
  pub few_rows : IsShort graph.rows
  pub few_entries : IsShort graph.entries
  pub labels : IsDistinct bytes_eq (map (λ row. row.label) graph.rows)
