-- Which files of a package are without side effects.
use Rattle.std.specs.Prelude.{ℕ, List, Bool, true, false, not, ◌||◌}
use Rattle.std.specs.List.{list_any}
use Rattle.pkg_manifest.specs.declared.package.SideEffects.{SideEffects}
use Rattle.pkg_manifest.specs.declared.package.SideEffects.TheVariants.{Unstated, Free, Listed}
use Rattle.pkg_manifest.specs.Patterns.{names, is_special}

-- a list flags a file where no pattern of it has a special byte and none names the file
abbrev pub is_flagged : SideEffects → List ℕ → Bool
is_flagged Unstated path = false
is_flagged Free path = true
is_flagged (Listed patterns) path = not (list_any (λ p. list_any is_special p || names p path) patterns)
