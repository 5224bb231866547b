-- What is known of a text where its exports are told, and what its marks say at places, as the code asks them.
use Rattle.std.specs.Prelude.{ℕ, ◌+◌, ◌-◌, ◌&&◌, ◌||◌, not, Bool, true, false, if◌then◌else◌, List, Option, Some, None, is_some, length, slice_get, nat_lt, unwrap_or, option_and_then}
use Rattle.es_outline.specs.declared.mark.Mark.{Mark}
use Rattle.es_outline.specs.declared.mark.Mark.TheVariants as mark
use Rattle.es_outline.specs.declared.mark.Role.{Role}
use Rattle.es_outline.specs.declared.mark.Role.TheVariants as is
use Rattle.es_outline.specs.declared.mark.Part.{Part}
use Rattle.es_outline.specs.declared.mark.Part.TheVariants as part
use Rattle.es_scope.specs.Source.{Source}
use Rattle.es_scope.specs.Telling.{Told}
use Rattle.es_parts.specs.declared.enclosing.Surroundings.{Surroundings}
use Rattle.es_parts.specs.Binding.{mark_declares}

pub record Seen : Type 0 where
  pub source : Source
  pub told : Told
  pub around : List Surroundings
  pub binders : List (Option ℕ)
  pub numbers : List (Option ℕ)
  pub binding_of : List (Option ℕ)
  pub default_binding : Option ℕ

-- the role of a token, and the part that begins
abbrev pub role_of : Option Mark → Option Role
role_of (Some (mark.Token role token)) = Some role
role_of _ = None

abbrev pub part_of : Option Mark → Option Part
part_of (Some (mark.Begin which)) = Some which
part_of _ = None

abbrev pub start_of : Option Mark → Option ℕ
start_of (Some (mark.Token role token)) = Some token.start
start_of _ = None

abbrev pub is_unnamed : Option Mark → Bool
is_unnamed (Some mark.Unnamed) = true
is_unnamed _ = false

abbrev pub is_shorthand : Option Mark → Bool
is_shorthand (Some mark.Shorthand) = true
is_shorthand _ = false

abbrev pub role_at : Source → ℕ → Option Role
role_at source place = role_of (slice_get source.marks place)

abbrev pub begun_at : Source → ℕ → Option Part
begun_at source place = part_of (slice_get source.marks place)

abbrev pub start_at : Source → ℕ → Option ℕ
start_at source place = start_of (slice_get source.marks place)

-- the place that stands so many before this one
abbrev pub back : ℕ → ℕ → Option ℕ
back count place = if nat_lt place count then None else Some (place - count)

abbrev pub begun_of : Source → Option ℕ → Option Part
begun_of source (Some opening) = begun_at source opening
begun_of source None = None

-- the part that begins two places before
abbrev pub begun_before : Source → ℕ → Option Part
begun_before source place = begun_of source (back 2 place)

abbrev pub is_outer : Option Role → Bool
is_outer (Some is.Outer) = true
is_outer _ = false

abbrev pub is_exported : Option Role → Bool
is_exported (Some is.Exported) = true
is_exported _ = false

abbrev pub is_request : Option Role → Bool
is_request (Some is.Request) = true
is_request _ = false

abbrev pub is_bound : Option Role → Bool
is_bound (Some is.Bound) = true
is_bound _ = false

abbrev pub is_star : Option Part → Bool
is_star (Some part.ExportStar) = true
is_star _ = false

abbrev pub is_list : Option Part → Bool
is_list (Some part.ExportList) = true
is_list _ = false

abbrev pub is_default : Option Part → Bool
is_default (Some part.ExportDefault) = true
is_default _ = false

abbrev pub is_value : Option Part → Bool
is_value (Some part.ExportedValue) = true
is_value _ = false

abbrev pub is_exported_declaration : Option Part → Bool
is_exported_declaration (Some part.ExportedDeclaration) = true
is_exported_declaration _ = false

abbrev pub is_declaration : Option Part → Bool
is_declaration (Some part.Declaration) = true
is_declaration _ = false

-- a class or a function
abbrev pub is_unit : Option Part → Bool
is_unit (Some part.Class) = true
is_unit (Some part.Function) = true
is_unit _ = false

-- where the innermost part around the place begins
abbrev pub part_in : Option Surroundings → Option ℕ
part_in (Some around) = around.part
part_in None = None

abbrev pub part_at : Seen → ℕ → Option ℕ
part_at seen place = part_in (slice_get seen.around place)

-- where the innermost part begins that binds the place
abbrev pub binder_at : Seen → ℕ → Option ℕ
binder_at seen place = unwrap_or (slice_get seen.binders place) None

-- the number of the request that the place asks for
abbrev pub number_at : Seen → ℕ → Option ℕ
number_at seen place = unwrap_or (slice_get seen.numbers place) None

-- the place declares a name
abbrev pub is_declared : Seen → ℕ → Bool
is_declared seen place = is_some (mark_declares seen.source (slice_get seen.source.marks place) (binder_at seen place))

-- the part is the declaration of an exported one
abbrev pub is_exported_word : Source → Option ℕ → Bool
is_exported_word source (Some opening) = is_declaration (begun_at source opening) && is_exported_declaration (begun_before source opening)
is_exported_word source None = false

-- the place declares a name in an exported declaration
abbrev pub exports_declared : Seen → ℕ → Bool
exports_declared seen place =
    (is_bound (role_at seen.source place) && is_exported_word seen.source (binder_at seen place))
    || (is_declared seen place && is_exported_declaration (begun_of seen.source (part_at seen place)))

-- which names the place exports by: the one two places behind, its own, `default`
abbrev pub says_outer : Source → ℕ → Bool
says_outer source place = (is_exported (role_at source place) || is_star (begun_before source place)) && is_outer (role_at source (place + 2))

abbrev pub says_own : Seen → ℕ → Bool
says_own seen place = (is_exported (role_at seen.source place) && not (is_outer (role_at seen.source (place + 2)))) || exports_declared seen place

abbrev pub says_default : Source → ℕ → Bool
says_default source place = is_default (begun_before source place)

-- an `export * from` stands at the place
abbrev pub is_all : Source → ℕ → Bool
is_all source place = is_star (begun_before source place) && not (is_outer (role_at source (place + 2)))

abbrev pub is_space : Source → ℕ → Bool
is_space source place = is_star (begun_before source place) && is_outer (role_at source (place + 2))

-- the part, if it is an `export default`
abbrev pub default_of : Source → Option ℕ → Option ℕ
default_of source (Some opening) = if is_default (begun_at source opening) then Some opening else None
default_of source None = None

-- where the `export default` begins whose second word stands at the place
abbrev pub default_at : Source → ℕ → Option ℕ
default_at source place = default_of source (back 2 place)

-- where the innermost part begins that is open behind the last mark
abbrev pub open_by : Seen → ℕ → Option Mark → Option ℕ
open_by seen last (Some (mark.Begin which)) = Some last
open_by seen last (Some (mark.End which)) = option_and_then (part_at seen) (part_at seen last)
open_by seen last _ = part_at seen last

abbrev pub end_of : Seen → Option ℕ → Option ℕ
end_of seen (Some last) = open_by seen last (slice_get seen.source.marks last)
end_of seen None = None

abbrev pub end_part : Seen → Option ℕ
end_part seen = end_of seen (back 1 (length seen.source.marks))

-- where the innermost part around the place begins, which may lie behind the last mark
abbrev pub part_around : Seen → ℕ → Option ℕ
part_around seen place = if nat_lt place (length seen.source.marks) then part_at seen place else end_part seen
