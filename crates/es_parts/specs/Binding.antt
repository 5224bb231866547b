-- Which part binds at each place of an outline, and what is so declared there.
use Rattle.std.specs.Prelude.{◌≡◌, ℕ, ◌+◌, List, Option, Some, None, length, slice_get}
use Rattle.es_outline.specs.declared.mark.Mark.{Mark}
use Rattle.es_outline.specs.declared.mark.Mark.TheVariants as mark
use Rattle.es_outline.specs.declared.mark.Role.{Role}
use Rattle.es_outline.specs.declared.mark.Role.TheVariants as is
use Rattle.es_outline.specs.declared.mark.Part.TheVariants as part
use Rattle.es_outline.specs.Outline.{Marks}
use Rattle.es_scope.specs.declared.kinds.DeclarationKind.{DeclarationKind}
use Rattle.es_scope.specs.declared.kinds.DeclarationKind.TheVariants as kind
use Rattle.es_scope.specs.Source.{Source, spelled_at}
use Rattle.es_scope.specs.Occurrences.{is_binder}
use Rattle.es_scope.specs.Frames.{kind_of_word}
use Rattle.es_parts.specs.Around.{IsInnermost}

-- of each place, where the innermost part begins that binds, if there is one
pub record AreBinders (marks : Marks) (table : List (Option ℕ)) : Type 0 where
  pub whole : length table ≡ length marks
  pub each : (place : ℕ) (binder : Option ℕ) → slice_get table place ≡ Some binder → IsInnermost is_binder marks place binder

-- how a name is declared that the part binds
abbrev pub bound_in : Source → ℕ → Option Mark → Option DeclarationKind
bound_in source opening (Some (mark.Begin part.Declaration)) = kind_of_word (spelled_at source (opening + 1))
bound_in source opening (Some (mark.Begin part.Function)) = Some kind.Parameter
bound_in source opening (Some (mark.Begin part.Arrow)) = Some kind.Parameter
bound_in source opening (Some (mark.Begin part.Catch)) = Some kind.Catch
bound_in source opening _ = None

abbrev pub bound_by : Source → Option ℕ → Option DeclarationKind
bound_by source (Some opening) = bound_in source opening (slice_get source.marks opening)
bound_by source None = None

-- how the role says that a name is declared, where this binds
abbrev pub role_declares : Source → Role → Option ℕ → Option DeclarationKind
role_declares source is.Bound binder = bound_by source binder
role_declares source is.FunctionName binder = Some kind.Function
role_declares source is.ClassName binder = Some kind.Class
role_declares source is.Imported binder = Some kind.Import
role_declares source is.ImportedDefault binder = Some kind.Import
role_declares source is.ImportedSpace binder = Some kind.Import
role_declares source _ binder = None

abbrev pub mark_declares : Source → Option Mark → Option ℕ → Option DeclarationKind
mark_declares source (Some (mark.Token role token)) binder = role_declares source role binder
mark_declares source _ binder = None
