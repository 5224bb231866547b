-- The plan of a bundle of a bare graph, without concatenation and without split chunks.
use Rattle.std.specs.Prelude.{◌≡◌, ◌↔◌, ℕ, false, List, [], length, map, replicate, slice_index_or, IsTrue}
use Rattle.std.specs.List.{AllZip, Any}
use Rattle.pk_types.specs.declared.graph.Graph.{Graph}
use Rattle.pk_types.specs.declared.plan.Active.{Active}
use Rattle.pk_types.specs.declared.plan.Chunks.{Chunks}
use Rattle.pk_types.specs.declared.plan.Groups.{Groups}
use Rattle.pk_types.specs.declared.plan.Ids.{Ids}
use Rattle.pk_types.specs.declared.plan.Plan.{Plan}
use Rattle.pk_types.specs.declared.plan.Used.{Used}
use Rattle.plan_core.specs.Edges.{declared_edges, active_edges}
use Rattle.plan_core.specs.Closure.{IsReached, IsClosure}
use Rattle.plan_core.specs.Scopes.{AreOwnScopes}
use Rattle.plan_core.specs.NaturalIds.{natural_ids}

-- A module is reached where some entry leads to it along what is declared. It then has its edges, and else none.
pub record IsActive (graph : Graph) (active : Active) : Type 0 where
  pub each : length active.reached ≡ length graph.rows
  pub reached : (number : ℕ) → IsTrue (slice_index_or active.reached number false) ↔ Any (λ entry. IsReached (declared_edges graph) entry number) graph.entries
  pub edges : active.edges ≡ active_edges active.reached (declared_edges graph)

-- a bare module names no binding: of no module a name is used, and none is used whole
pub record IsUnused (graph : Graph) (used : Used) : Type 0 where
  pub names : used.names ≡ replicate (length graph.rows) []
  pub whole : used.whole ≡ replicate (length graph.rows) false

-- a group for each entry, and no others: it holds all that active edges lead to from there, and leads to no group
pub record AreEntryGroups (graph : Graph) (edges : List (List ℕ)) (groups : Groups) : Type 0 where
  pub targets : groups.targets ≡ graph.entries
  pub entries : groups.entries ≡ length graph.entries
  pub closures : AllZip (IsClosure edges) groups.targets groups.closures
  pub leads : groups.leads ≡ map (λ _. []) graph.entries

-- an entry chunk for each group, which holds all that the group does; so no group needs another chunk
pub record AreEntryChunks (groups : Groups) (chunks : Chunks) : Type 0 where
  pub modules : chunks.modules ≡ groups.closures
  pub entries : chunks.entries ≡ groups.entries
  pub lists : chunks.lists ≡ map (λ _. []) groups.targets

-- no module has a binding to name
abbrev pub AreNoNames : Graph → List (List (List ℕ)) → Type 0
AreNoNames graph names = names ≡ replicate (length graph.rows) []

-- natural ids, and none for entry chunks
pub record AreNaturalIds (graph : Graph) (placed : List (List ℕ)) (ids : Ids) : Type 0 where
  pub modules : ids.modules ≡ natural_ids placed (length graph.rows)
  pub chunks : ids.chunks ≡ []

pub record IsPlan (graph : Graph) (plan : Plan) : Type 0 where
  pub active : IsActive graph plan.active
  pub used : IsUnused graph plan.used
  pub groups : AreEntryGroups graph plan.active.edges plan.groups
  pub chunks : AreEntryChunks plan.groups plan.chunks
  pub hoists : AreOwnScopes plan.active.edges plan.hoists
  pub names : AreNoNames graph plan.names
  pub ids : AreNaturalIds graph plan.chunks.modules plan.ids
