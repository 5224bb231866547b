-- What stands around an occurrence of a name, as it is looked up by places.
use Rattle.std.specs.Prelude.{ℕ, zero, suc, ◌+◌, ◌-◌, Bool, true, false, ◌&&◌, not, if◌then◌else◌, nat_eq, Option, Some, slice_get, codes}
use Rattle.es_outline.specs.declared.mark.Mark.{Mark}
use Rattle.es_outline.specs.declared.mark.Mark.TheVariants as mark
use Rattle.es_outline.specs.declared.mark.Role.TheVariants as is
use Rattle.es_outline.specs.Outline.{Marks}
use Rattle.es_scope.specs.Source.{Source}
use Rattle.es_asks.specs.Free.{is_call}
use Rattle.es_asks.specs.Texts.{spells}

abbrev pub is_opens : Option Mark → Bool
is_opens (Some (mark.Token is.Opens token)) = true
is_opens _ = false

abbrev pub is_closes : Option Mark → Bool
is_closes (Some (mark.Token is.Closes token)) = true
is_closes _ = false

abbrev pub is_prefix : Option Mark → Bool
is_prefix (Some (mark.Token is.Prefix token)) = true
is_prefix _ = false

abbrev pub is_dot : Option Mark → Bool
is_dot (Some (mark.Token is.Dot token)) = true
is_dot _ = false

-- a member, a call or a tagged template goes on at the mark, or it says that the name before is assigned to
abbrev pub goes_on : Option Mark → Bool
goes_on (Some (mark.Token is.Dot token)) = true
goes_on (Some (mark.Token is.Suffixes token)) = true
goes_on (Some mark.Call) = true
goes_on (Some mark.Tag) = true
goes_on (Some mark.Assigned) = true
goes_on _ = false

abbrev pub is_behind_typeof : Source → ℕ → Bool
is_behind_typeof source place =
    if nat_eq place 0 then false
    else (if is_prefix (slice_get source.marks (place - 1)) then spells source (place - 1) (codes "typeof") else false)

abbrev pub is_typeof : Source → ℕ → Bool
is_typeof source place = if is_behind_typeof source place then not (goes_on (slice_get source.marks (place + 1))) else false

abbrev pub calls_if_there : Source → ℕ → Bool
calls_if_there source place = if spells source place (codes "?.") then spells source (place + 1) (codes "(") else false

abbrev pub member_by : Source → ℕ → Option Mark → Bool
member_by source place (Some (mark.Token is.Dot token)) = true
member_by source place (Some (mark.Token is.Suffixes token)) = not (calls_if_there source place)
member_by source place _ = false

abbrev pub goes_on_as_member : Source → ℕ → Bool
goes_on_as_member source place = member_by source place (slice_get source.marks place)

-- parentheses stand around what goes from `outer` to `last`
abbrev pub is_enclosed : Marks → ℕ → ℕ → Bool
is_enclosed marks outer last =
    if nat_eq outer 0 then false else (if is_opens (slice_get marks (outer - 1)) then is_closes (slice_get marks (last + 1)) else false)

-- what goes from here to `last` is called, maybe in more parentheses
unfoldable pub called_from : Marks → (outer last : ℕ) → Bool
called_from marks zero last = is_call (slice_get marks (last + 1))
called_from marks (suc before) last =
    if is_opens (slice_get marks before) && is_closes (slice_get marks (last + 1)) then called_from marks before (last + 1)
    else is_call (slice_get marks (last + 1))
