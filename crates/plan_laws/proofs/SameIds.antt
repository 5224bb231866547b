-- The ids of a plan without split chunks are natural.
use Rattle.std.proofs.Common.{◌≡◌, ◌-◌, length, sym, ap, ◌∙◌, arith}
use Rattle.std.specs.List.{range_with_len}
use Rattle.std.proofs.lemmas.Slice.Zip.{AllZip-long}
use Rattle.pk_types.specs.declared.graph.Graph.{Graph}
use Rattle.pk_types.specs.declared.plan.Plan.{Plan}
use Rattle.pk_types.specs.ModuleIds as general
use Rattle.plan_core.specs.Closure.{IsClosure}
use Rattle.plan_core.specs.Plans.{IsPlan}

pub are_ids : (graph : Graph) (plan : Plan) → IsPlan graph plan → general.AreNaturalIds graph plan.chunks plan.ids
are_ids graph plan planned = record {
  module_ids = planned.ids.modules;
  chunk_ids = planned.ids.chunks ∙ ap (range_with_len 0) (sym none);
}
  where
    none : length plan.chunks.modules - plan.chunks.entries ≡ 0
    none = omega (
      arith,
      ap length planned.chunks.modules,
      AllZip-long (IsClosure plan.active.edges) plan.groups.targets plan.groups.closures planned.groups.closures,
      ap length planned.groups.targets,
      planned.chunks.entries,
      planned.groups.entries,
    )
