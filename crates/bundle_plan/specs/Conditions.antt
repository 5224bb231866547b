-- What is asked of a graph that is planned.
use Rattle.std.specs.Prelude.{◌-◌, ◌≤◌, length, not, count_by}
use Rattle.std.specs.List.{range_with_len}
use Rattle.pk_types.specs.declared.graph.Graph.{Graph}
use Rattle.pk_types.specs.declared.limits.TheConstants.{MAX_GROUPS}
use Rattle.pk_types.specs.ModuleIds.{id_count}
use Rattle.pk_types.specs.Numbers.{has}

-- So few modules are no entry that with as many entries as there may be groups each has an id.
abbrev pub HasFewModules : Graph → Type 0
HasFewModules graph = count_by (λ number. not (has graph.entries number)) (range_with_len 0 (length graph.rows)) ≤ id_count - MAX_GROUPS
