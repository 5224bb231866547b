-- When the parts of a bundle hold together: there is one of each for each module, and numbers are those of modules, groups and chunks.
use Rattle.std.specs.Prelude.{◌≡◌, ◌+◌, ◌<◌, ◌≤◌, length}
use Rattle.std.specs.List.{All}
use Rattle.pk_types.specs.Fitting.{Fits}
use Rattle.emit_body.specs.Pieces.{HoldsPieces}
use Rattle.edge_search.specs.Reached.{LeadWithin}
use Rattle.emit_chunk.specs.Ranges.{AreBelow, module_of}
use Rattle.chunk_files.specs.Materials.{MaterialOf}

pub record HasModules (material : MaterialOf) : Type 0 where
  pub roots : length material.plan.hoists.root ≡ length material.graph.rows
  pub scopes : length material.plan.hoists.items ≡ length material.graph.rows
  pub items : All (All (λ item. module_of item < length material.graph.rows)) material.plan.hoists.items
  pub ids : length material.plan.ids.modules ≡ length material.graph.rows
  pub bodies : length material.bodies ≡ length material.graph.rows
  pub pieces : All HoldsPieces material.bodies
  pub sources : length material.sources ≡ length material.graph.rows
  pub getters : length material.getters.scopes ≡ length material.graph.rows

-- the entry chunks stand first, and each other chunk has an id
pub record HasChunks (material : MaterialOf) : Type 0 where
  pub modules : All (AreBelow (length material.graph.rows)) material.plan.chunks.modules
  pub ids : material.plan.chunks.entries + length material.plan.ids.chunks ≡ length material.plan.chunks.modules

pub record HasGroups (material : MaterialOf) : Type 0 where
  pub targets : AreBelow (length material.graph.rows) material.plan.groups.targets
  pub entries : material.plan.chunks.entries ≤ length material.plan.groups.targets
  pub each_lead : length material.plan.groups.leads ≡ length material.plan.groups.targets
  pub leads : LeadWithin material.plan.groups.leads
  pub each_list : length material.plan.chunks.lists ≡ length material.plan.groups.targets
  pub lists : All (AreBelow (length material.plan.ids.chunks)) material.plan.chunks.lists

pub record HoldsTogether (material : MaterialOf) : Type 0 where
  pub graph : Fits material.graph
  pub modules : HasModules material
  pub chunks : HasChunks material
  pub groups : HasGroups material
