-- Edges and marks that are those of a graph's modules.
use Rattle.std.specs.Prelude.{◌≡◌, length}
use Rattle.std.specs.List.{All}
use Rattle.pk_types.specs.declared.graph.Graph.{Graph}
use Rattle.pk_types.specs.declared.plan.Active.{Active}
use Rattle.pk_types.specs.Places.{ArePlacesIn}

-- Each module has edges, which lead to modules, and a mark. Active edges of a graph are so.
pub record AreOfGraph (graph : Graph) (active : Active) : Type 0 where
  pub each_edges : length active.edges ≡ length graph.rows
  pub each_reached : length active.reached ≡ length graph.rows
  pub edges : All (ArePlacesIn graph.rows) active.edges
