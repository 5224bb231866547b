-- What an `export default` binds without a name, as it is looked up.
use Rattle.std.specs.Prelude.{ℕ, ◌+◌, ◌-◌, nat_le, Bool, true, false, if◌then◌else◌, List, Option, Some, None, slice_get}
use Rattle.es_outline.specs.declared.mark.Mark.{Mark}
use Rattle.es_outline.specs.declared.mark.Mark.TheVariants as mark
use Rattle.es_outline.specs.declared.mark.Part.TheVariants as part
use Rattle.pk_types.specs.declared.facts.BindKind.{BindKind}
use Rattle.pk_types.specs.declared.facts.BindKind.TheVariants as bind
use Rattle.es_scope.specs.Source.{Source}
use Rattle.es_declares.specs.Inside.{kind_begun, told_in}

abbrev pub begins_default : Option Mark → Bool
begins_default (Some (mark.Begin part.ExportDefault)) = true
begins_default _ = false

abbrev pub begins_value : Option Mark → Bool
begins_value (Some (mark.Begin part.ExportedValue)) = true
begins_value _ = false

-- what begins behind the mark that it has no name
abbrev pub kind_behind : Source → Option ℕ → Option BindKind
kind_behind source (Some at) = kind_begun (slice_get source.marks (at + 1))
kind_behind source None = None

-- what the `export default` that begins at the opening binds without a name
abbrev pub default_binds : Source → List (Option ℕ) → ℕ → Option BindKind
default_binds source nameless opening = if begins_default (slice_get source.marks opening)
    then (if begins_value (slice_get source.marks (opening + 3)) then Some bind.Const else kind_behind source (told_in nameless opening)) else None

-- the same where its second word stands
abbrev pub unnamed_at : Source → List (Option ℕ) → ℕ → Option BindKind
unnamed_at source nameless place = if nat_le 2 place then default_binds source nameless (place - 2) else None
