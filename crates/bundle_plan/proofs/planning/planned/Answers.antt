use Rattle.std.proofs.Common.{◌<◌, List, ℕ, length, sym, subst}
use Rattle.std.specs.List.{All}
use Rattle.std.proofs.lemmas.Result.{err_from_is_err_and}
use Rattle.bundle_plan.proofs.Steps.{edges_within, few_groups, groups_stand, closures_ascend, closures_below, chunks_within, may_have_ids, roots_within, count_fault}
use Rattle.bundle_plan.proofs.Entries.{few_modules}
use Rattle.bundle_plan.proofs.planning.planned.Goals as goal

pub groups-requires-clause-active : goal.groups-requires-clause-active
groups-requires-clause-active c = edges_within c.args.graph.now c.in_ok-used.used c.in_ok-used.active c.in_ok-used.ensures.active

pub chunks-requires-clause-groups : goal.chunks-requires-clause-groups
chunks-requires-clause-groups c = groups_stand c.args.graph.now c.in_ok-used.active c.in_ok-groups.groups c.in_ok-groups.ensures.groups c.in_ok-groups.ensures.few

pub chunks-requires-clause-closures : goal.chunks-requires-clause-closures
chunks-requires-clause-closures c = closures_ascend c.args.graph.now c.in_ok-used.active c.in_ok-groups.groups c.in_ok-groups.ensures.groups

pub chunks-requires-clause-modules : goal.chunks-requires-clause-modules
chunks-requires-clause-modules c =
    closures_below c.args.graph.now c.in_ok-used.active c.in_ok-groups.groups c.in_ok-groups.ensures.groups c.in_ok-used.used c.in_ok-used.ensures.active

pub returns-in_err-chunks-clause-fault : goal.returns-in_err-chunks-clause-fault
returns-in_err-chunks-clause-fault c =
    let graph = c.args.graph.now in
    let fault = err_from_is_err_and c.from_residual-in_err-chunks.result c.from_residual-in_err-chunks.ensures.1 in
    rw (fault.1, fault.2)
    (count_fault graph c.in_ok-used.used c.in_ok-used.active c.in_ok-groups.groups c.args.config.now c.in_ok-used.ensures.used c.in_ok-used.ensures.active
    c.in_ok-groups.ensures.groups c.in_ok-groups.ensures.few _ c.in_err-chunks.ensures.fault)

pub hoists-requires-clause-active : goal.hoists-requires-clause-active
hoists-requires-clause-active c = edges_within c.args.graph.now c.in_ok-used.used c.in_ok-used.active c.in_ok-used.ensures.active

pub hoists-requires-clause-chunks : goal.hoists-requires-clause-chunks
hoists-requires-clause-chunks c =
    let graph = c.args.graph.now in
    let below = closures_below graph c.in_ok-used.active c.in_ok-groups.groups c.in_ok-groups.ensures.groups c.in_ok-used.used c.in_ok-used.ensures.active in
    chunks_within graph c.in_ok-groups.groups c.args.config.now.split c.in_ok-chunks.chunks c.in_ok-chunks.ensures.chunks below

pub given_names-requires-clause-within : goal.given_names-requires-clause-within
given_names-requires-clause-within c =
    subst (λ (l : List ℕ). All (λ root. root < length l) l) (sym c.as_slice.ensures) (roots_within _ c.args.config.now.concatenate c.in_ok-hoists.hoists.root c.in_ok-hoists.ensures.sets)

pub ids-requires : goal.ids-requires
ids-requires c =
    let graph = c.args.graph.now in
    let below = closures_below graph c.in_ok-used.active c.in_ok-groups.groups c.in_ok-groups.ensures.groups c.in_ok-used.used c.in_ok-used.ensures.active in
    may_have_ids graph c.in_ok-groups.groups c.args.config.now.split c.in_ok-chunks.chunks c.in_ok-chunks.ensures.chunks below
    (few_modules graph c.in_ok-used.active c.in_ok-groups.groups c.in_ok-groups.ensures.groups (few_groups graph c.in_ok-used.active c.in_ok-groups.groups c.in_ok-groups.ensures.groups c.in_ok-groups.ensures.few) c.requires.few)
    c.in_ok-chunks.ensures.few
