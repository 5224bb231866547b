-- What keeps a graph from being planned: the first cause in the order of the steps.
use Rattle.std.specs.Prelude.{Some, None}
use Rattle.chunk_groups.specs.declared.fault.GroupFault.{GroupFault}
use Rattle.chunk_groups.specs.declared.fault.GroupFault.TheVariants as groups
use Rattle.export_faults.specs.Faults.{IsFirst}
use Rattle.split_chunks.specs.declared.fault.SplitFault.{SplitFault}
use Rattle.split_chunks.specs.declared.fault.SplitFault.TheVariants as split
use Rattle.split_chunks.specs.GroupChunks.{HasTooManyChunks}
use Rattle.pk_types.specs.declared.graph.Graph.{Graph}
use Rattle.pk_types.specs.declared.limits.TheConstants.{MAX_GROUPS}
use Rattle.pk_types.specs.declared.plan.Active.{Active}
use Rattle.pk_types.specs.declared.plan.Groups.{Groups}
use Rattle.pk_types.specs.declared.plan.Used.{Used}
use Rattle.pk_types.specs.declared.settings.Config.{Config}
use Rattle.pk_types.specs.ActiveEdges.{IsActive}
use Rattle.pk_types.specs.ChunkGroups.{IsGroups, HasMoreGroups}
use Rattle.pk_types.specs.Use.{HasUse}
use Rattle.bundle_plan.specs.declared.fault.PlanFault.{PlanFault}
use Rattle.bundle_plan.specs.declared.fault.PlanFault.TheVariants.{Export, TooManyGroups, TooManyChunks, NoMemory}

-- the graph has more groups than a bundle may have
pub record HasTooManyGroups (graph : Graph) : Type 0 where
  pub used : Used
  pub is_use : HasUse graph used
  pub active : Active
  pub is_active : IsActive graph used active
  pub many : HasMoreGroups graph active MAX_GROUPS

-- the groups are few, and are split into more chunks than a bundle may have
pub record HasTooManySplit (graph : Graph) (config : Config) : Type 0 where
  pub used : Used
  pub is_use : HasUse graph used
  pub active : Active
  pub is_active : IsActive graph used active
  pub groups : Groups
  pub are_groups : IsGroups graph active groups
  pub few : ¬ HasMoreGroups graph active MAX_GROUPS
  pub many : HasTooManyChunks graph groups config.split

-- The fault is the graph's. A name that is asked for in vain comes first.
abbrev pub IsFaultOf : Graph → Config → PlanFault → Type 0
IsFaultOf graph config (Export fault) = IsFirst graph (Some fault)
IsFaultOf graph config TooManyGroups = IsFirst graph None × HasTooManyGroups graph
IsFaultOf graph config TooManyChunks = IsFirst graph None × HasTooManySplit graph config
IsFaultOf graph config NoMemory = Unit {0}

-- ---- only private clauses cite the rest

-- the fault is one of counts
abbrev pub IsCountFault : Graph → Config → PlanFault → Type 0
IsCountFault graph config (Export fault) = ⊥
IsCountFault graph config TooManyGroups = HasTooManyGroups graph
IsCountFault graph config TooManyChunks = HasTooManySplit graph config
IsCountFault graph config NoMemory = Unit {0}

-- the fault is one of splitting these groups
abbrev pub IsSplitFault : Graph → Groups → Config → PlanFault → Type 0
IsSplitFault graph groups config (Export fault) = ⊥
IsSplitFault graph groups config TooManyGroups = ⊥
IsSplitFault graph groups config TooManyChunks = HasTooManyChunks graph groups config.split
IsSplitFault graph groups config NoMemory = Unit {0}

abbrev pub of_groups : GroupFault → PlanFault
of_groups groups.TooMany = TooManyGroups
of_groups groups.NoMemory = NoMemory

abbrev pub of_split : SplitFault → PlanFault
of_split split.TooMany = TooManyChunks
of_split split.NoMemory = NoMemory
