-- what was noted, and what is left
use Rattle.std.proofs.Common.{◌≡◌, not, ◌==◌, ◌++◌, map, drop}
use Rattle.std.specs.List.{filter}
use Rattle.pk_types.specs.declared.plan.Item.TheVariants.{Evaluate}
use Rattle.plan_core.proofs.scopes.scope_items.Given as goal

abbrev pub invariant-loop-target : goal.invariant-loop-target
invariant-loop-target l = l.items.items ++ map Evaluate (filter (λ target. not (target == l.number)) (drop l.target-index l.targets)) ≡ map Evaluate (filter (λ target. not (target == l.number)) l.targets)
