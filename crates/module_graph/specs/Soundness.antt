-- What holds of a builder at all times.
use Rattle.std.specs.Prelude.{◌≡◌, ◌≤◌, IsTrue, length, map, take}
use Rattle.std.specs.List.{All, IsDistinct}
use Rattle.std.specs.Str.{bytes_eq}
use Rattle.pk_base.specs.Paths.{is_path}
use Rattle.pk_types.specs.declared.limits.TheConstants.{MAX_MODULES}
use Rattle.pk_types.specs.declared.graph.Row.{Row}
use Rattle.pk_types.specs.Places.{IsShort}
use Rattle.pk_types.specs.Fitting.{AreFitting}
use Rattle.module_graph.specs.Building.{Building}
use Rattle.module_graph.specs.Sightings.{count_after, AreSeenInOrder, RowsAreSeenInOrder}

-- a row that may stand in a graph, but for the numbers of its targets
pub record IsSoundRow (row : Row) : Type 0 where
  pub facts : AreFitting row.facts
  pub each : length row.targets ≡ length row.facts.requests
  pub path : IsTrue (is_path row.label)

pub record IsSound (building : Building) : Type 0 where
  pub few : length building.known ≤ MAX_MODULES
  pub few_entries : IsShort building.entries
  pub distinct : IsDistinct bytes_eq building.known
  pub labels : map (λ row. row.label) building.rows ≡ take (length building.rows) building.known
  pub rows : All IsSoundRow building.rows
  pub first : AreSeenInOrder 0 building.entries
  pub next : RowsAreSeenInOrder 0 (count_after 0 building.entries) (map (λ row. row.targets) building.rows) (length building.known)
