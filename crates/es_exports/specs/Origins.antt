-- Where what a place exports comes from, as the code finds it.
use Rattle.std.specs.Prelude.{ℕ, ◌+◌, ◌&&◌, ◌||◌, not, nat_eq, Bool, false, if◌then◌else◌, Option, Some, None, is_some, slice_get, unwrap_or, option_and_then, option_map}
use Rattle.es_outline.specs.declared.mark.Role.{Role}
use Rattle.es_outline.specs.declared.mark.Role.TheVariants as is
use Rattle.pk_types.specs.declared.facts.ExportEntry.{ExportEntry}
use Rattle.es_scope.specs.declared.found.Declared.{Declared}
use Rattle.es_scope.specs.Source.{Source}
use Rattle.es_scope.specs.Telling.{declared_by}
use Rattle.es_scope.specs.Firsts.{told}
use Rattle.es_exports.specs.declared.inside.Inside.{Inside}
use Rattle.es_exports.specs.declared.said.Said.{Said}
use Rattle.es_exports.specs.declared.said.Said.TheVariants as said
use Rattle.es_exports.specs.declared.said.Whence.{Whence}
use Rattle.es_exports.specs.declared.said.Whence.TheVariants as whence
use Rattle.es_exports.specs.Seeing.{Seen, role_at, begun_at, start_at, back, part_at, number_at, is_shorthand, is_outer, is_exported, is_list, is_value, is_declared, exports_declared, is_space, is_all, default_of, default_at, part_around}
use Rattle.es_exports.specs.Saying.{name_of, origin_of, said_at}
use Rattle.es_exports.specs.Entries.{Entries, at}

-- the number of the request of the declaration that the place stands directly in
abbrev pub request_in : Seen → Inside → Option ℕ → Option ℕ
request_in seen inside (Some part) = option_and_then (number_at seen) (at inside.numbered part)
request_in seen inside None = None

abbrev pub request_of : Seen → Inside → ℕ → Option ℕ
request_of seen inside place = request_in seen inside (part_at seen place)

-- the names of the list are those of another module
abbrev pub is_from : Seen → Inside → Option ℕ → Bool
is_from seen inside (Some part) = is_list (begun_at seen.source part) && is_some (at inside.requests part)
is_from seen inside None = false

abbrev pub exports_from : Seen → Inside → ℕ → Bool
exports_from seen inside place = is_from seen inside (part_at seen place)

-- what the top declares that the name at the place refers to
abbrev pub of_top : Option Declared → Option ℕ
of_top (Some declared) = if nat_eq declared.scope 0 then Some declared.place else None
of_top None = None

abbrev pub top_at : Seen → ℕ → Option ℕ
top_at seen place = of_top (declared_by seen.told place)

-- where it is said what a name is imported as; none is said of a namespace
abbrev pub is_outer_of : Source → Option ℕ → Option (Option Said)
is_outer_of source (Some outer) = if is_outer (role_at source outer) then Some (Some (said.At outer)) else None
is_outer_of source None = None

abbrev pub is_short_of : Source → Option ℕ → Bool
is_short_of source (Some before) = is_shorthand (slice_get source.marks before)
is_short_of source None = false

abbrev pub space_of : Option ℕ → Option (Option Said)
space_of (Some star) = Some None
space_of None = None

abbrev pub imports_by : Source → ℕ → Option Role → Option (Option Said)
imports_by source place (Some is.Imported) = if is_short_of source (back 1 place) then Some (Some (said.At place)) else is_outer_of source (back 2 place)
imports_by source place (Some is.ImportedDefault) = Some (Some said.Default)
imports_by source place (Some is.ImportedSpace) = space_of (back 2 place)
imports_by source place _ = None

abbrev pub imports_at : Source → ℕ → Option (Option Said)
imports_at source place = imports_by source place (role_at source place)

-- the binding that has the name at the place
abbrev pub binding_at : Seen → ℕ → Option ℕ
binding_at seen place = option_and_then (λ number. unwrap_or (slice_get seen.binding_of number) None) (slice_get seen.told.numbers place)

-- where a declaration of the top comes from, which may be an import
abbrev pub comes_by : Seen → Inside → ℕ → Option (Option Said) → Option Whence
comes_by seen inside declaration (Some (Some name)) = option_map (λ request. whence.Other request name) (request_of seen inside declaration)
comes_by seen inside declaration (Some None) = option_map (λ request. whence.Space request) (request_of seen inside declaration)
comes_by seen inside declaration None = option_map (λ binding. whence.Own binding) (binding_at seen declaration)

abbrev pub comes_from : Seen → Inside → ℕ → Option Whence
comes_from seen inside declaration = comes_by seen inside declaration (imports_at seen.source declaration)

-- where what the name at the place refers to comes from
abbrev pub referred : Seen → Inside → ℕ → Option Whence
referred seen inside place = option_and_then (comes_from seen inside) (top_at seen place)

-- the `export default` that a declared name stands directly in, whose origin is known
abbrev pub of_named : Seen → Inside → ℕ → Option ℕ
of_named seen inside place =
    if is_some (default_of seen.source (part_at seen place)) && (is_declared seen place && is_some (referred seen inside place))
    then default_of seen.source (part_at seen place) else None

abbrev pub listed_from : Seen → Inside → ℕ → Option Whence
listed_from seen inside place =
    if is_exported (role_at seen.source place)
    then (if exports_from seen inside place then option_map (λ request. whence.Other request (said.At place)) (request_of seen inside place) else referred seen inside place)
    else None

abbrev pub space_from : Seen → Inside → ℕ → Option Whence
space_from seen inside place = if is_space seen.source place then option_map (λ request. whence.Space request) (request_of seen inside place) else None

abbrev pub declared_from : Seen → Inside → ℕ → Option Whence
declared_from seen inside place = if exports_declared seen place && is_declared seen place then referred seen inside place else None

abbrev pub named_from : Seen → Inside → Entries → ℕ → Option Whence
named_from seen inside named place = option_and_then (referred seen inside) (option_and_then (at named) (default_at seen.source place))

abbrev pub binds_unnamed : Seen → Inside → ℕ → Option ℕ → Bool
binds_unnamed seen inside place (Some opening) = is_value (begun_at seen.source (place + 1)) || is_some (at inside.unnamed opening)
binds_unnamed seen inside place None = false

abbrev pub unnamed_from : Seen → Inside → ℕ → Option Whence
unnamed_from seen inside place =
    if binds_unnamed seen inside place (default_at seen.source place) then option_map (λ binding. whence.Own binding) seen.default_binding else None

abbrev pub else_from : Option Whence → Option Whence → Option Whence
else_from (Some from) further = Some from
else_from None further = further

abbrev pub whence_at : Seen → Inside → Entries → ℕ → Option Whence
whence_at seen inside named place =
    else_from (listed_from seen inside place)
    (else_from (space_from seen inside place)
    (else_from (declared_from seen inside place) (else_from (named_from seen inside named place) (unnamed_from seen inside place))))

-- the entry of the place
abbrev pub entry_of : Source → Option Said → Option Whence → Option ℕ → Option ExportEntry
entry_of source (Some name) (Some from) (Some start) = Some (record { name = name_of source name; origin = origin_of source from; place = start })
entry_of source _ _ _ = None

abbrev pub entry_at : Seen → Inside → Entries → ℕ → Option ExportEntry
entry_at seen inside named place = entry_of seen.source (said_at seen place) (whence_at seen inside named place) (start_at seen.source place)

-- the request of the `export * from` at the place, where a last one may end early
abbrev pub star_at : Seen → Inside → ℕ → Option ℕ
star_at seen inside place = if is_all seen.source place then request_in seen inside (part_around seen place) else None

-- the place lists a name of this module that the top doesn't declare
abbrev pub is_undeclared : Seen → Option ℕ → Bool
is_undeclared seen (Some number) = not (is_some (told seen.told.firsts 0 number))
is_undeclared seen None = false

abbrev pub exports_undeclared : Seen → Inside → ℕ → Bool
exports_undeclared seen inside place =
    is_exported (role_at seen.source place) && (not (exports_from seen inside place) && is_undeclared seen (slice_get seen.told.numbers place))
