-- The plan of a bundle, by the definitions of its parts.
use Rattle.sha2.specs.Sha256.{sha256}
use Rattle.pk_types.specs.declared.graph.Graph.{Graph}
use Rattle.pk_types.specs.declared.limits.TheConstants.{MAX_GROUPS}
use Rattle.pk_types.specs.declared.plan.Plan.{Plan}
use Rattle.pk_types.specs.declared.settings.Config.{Config}
use Rattle.pk_types.specs.ActiveEdges.{IsActive}
use Rattle.pk_types.specs.ChunkGroups.{IsGroups, HasMoreGroups}
use Rattle.pk_types.specs.GivenNames.{AreGivenNames}
use Rattle.pk_types.specs.HashedIds.{HasIds}
use Rattle.pk_types.specs.HoistItems.{AreHoists}
use Rattle.pk_types.specs.Use.{HasUse}
use Rattle.split_chunks.specs.GroupChunks.{AreGroupChunks, AreFew}

pub record IsPlanOf (graph : Graph) (config : Config) (plan : Plan) : Type 0 where
  pub used : HasUse graph plan.used
  pub active : IsActive graph plan.used plan.active
  pub groups : IsGroups graph plan.active plan.groups
  -- what is placed in the groups, split by the settings
  pub chunks : AreGroupChunks graph plan.groups config.split plan.chunks
  pub hoists : AreHoists (record { graph = graph; active = plan.active; used = plan.used; chunks = plan.chunks }) config.concatenate plan.hoists
  pub names : AreGivenNames graph plan.hoists.root plan.names
  pub ids : HasIds sha256 graph plan.chunks config.hashed plan.ids

-- the plan has no more groups and chunks than a bundle may have
pub record IsWithinLimits (graph : Graph) (plan : Plan) : Type 0 where
  pub groups : ¬ HasMoreGroups graph plan.active MAX_GROUPS
  pub chunks : AreFew plan.chunks
