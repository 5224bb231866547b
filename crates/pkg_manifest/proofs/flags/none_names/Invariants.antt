use Rattle.std.proofs.Common.{◌≡◌, ◌||◌, length}
use Rattle.std.specs.List.{list_any}
use Rattle.pkg_manifest.specs.Patterns.{names, is_special}
use Rattle.pkg_manifest.proofs.flags.none_names.Given as goal

abbrev pub invariant-loop-patterns : goal.invariant-loop-patterns
invariant-loop-patterns l = list_any (λ p. list_any is_special p || names p l.path) l.patterns ≡ list_any (λ p. list_any is_special p || names p l.path) l.initial.patterns

abbrev pub decreases-loop-patterns : goal.decreases-loop-patterns
decreases-loop-patterns l = length l.patterns
