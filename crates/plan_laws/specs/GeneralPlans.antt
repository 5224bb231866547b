-- A plan by the general definitions, where no chunk is split, no scope is shared and ids are natural.
use Rattle.std.specs.Prelude.{ℕ, false, List, None}
use Rattle.pk_types.specs.declared.graph.Graph.{Graph}
use Rattle.pk_types.specs.declared.plan.Plan.{Plan}
use Rattle.pk_types.specs.Use.{HasUse}
use Rattle.pk_types.specs.ActiveEdges.{IsActive}
use Rattle.pk_types.specs.ChunkGroups.{IsGroups}
use Rattle.pk_types.specs.Availability.{ArePlaced}
use Rattle.pk_types.specs.Splitting.{IsSplit}
use Rattle.pk_types.specs.HoistItems.{AreHoists}
use Rattle.pk_types.specs.GivenNames.{AreGivenNames}
use Rattle.pk_types.specs.ModuleIds.{AreNaturalIds}

pub record IsGeneralPlan (graph : Graph) (plan : Plan) : Type 0 where
  pub used : HasUse graph plan.used
  pub active : IsActive graph plan.used plan.active
  pub groups : IsGroups graph plan.active plan.groups
  -- for each group what it brings
  pub brought : List (List ℕ)
  pub placed : ArePlaced plan.groups brought
  pub chunks : IsSplit graph None plan.groups.entries brought plan.chunks
  pub hoists : AreHoists (record { graph = graph; active = plan.active; used = plan.used; chunks = plan.chunks }) false plan.hoists
  pub names : AreGivenNames graph plan.hoists.root plan.names
  pub ids : AreNaturalIds graph plan.chunks plan.ids
