-- What names stand for, by what is told of them.
use Rattle.std.specs.Prelude.{ℕ, cond, nat_eq, Option, Some, None, slice_get, option_and_then}
use Rattle.es_outline.specs.declared.mark.Role.{Role}
use Rattle.es_outline.specs.declared.mark.Role.TheVariants as is
use Rattle.pk_types.specs.declared.facts.Ref.TheVariants as ref
use Rattle.es_scope.specs.declared.found.Declared.{Declared}
use Rattle.es_scope.specs.Telling.{declared_by}
use Rattle.es_sites.specs.declared.meaning.Meaning.{Meaning}
use Rattle.es_sites.specs.declared.meaning.Meaning.TheVariants as meaning
use Rattle.es_sites.specs.Marks.{role_at}
use Rattle.es_sites.specs.Tables.{Tables, entry, part_around}

-- the request of the declaration that the place stands directly in
abbrev pub request_of : Tables → ℕ → Option ℕ
request_of tables place = option_and_then (entry tables.inside.requests.items) (part_around tables.around place)

-- the binding that has the name at the place
abbrev pub binding_of : Tables → ℕ → Option ℕ
binding_of tables place = option_and_then (entry tables.declarations.binding_of.items) (slice_get tables.told.numbers place)

abbrev pub own : Option ℕ → Option Meaning
own (Some number) = Some (meaning.Name (ref.Own number))
own None = None

abbrev pub imported : Option ℕ → Option Meaning
imported (Some number) = Some (meaning.Name (ref.Imported number))
imported None = None

abbrev pub space : Option ℕ → Option Meaning
space (Some number) = Some (meaning.Space number)
space None = None

-- the name at a place that refers to what the top declares at another place, where a token is this
abbrev pub meant_as : Tables → ℕ → ℕ → Option Role → Option Meaning
meant_as tables place declaration (Some is.ImportedSpace) = space (request_of tables declaration)
meant_as tables place declaration (Some is.Imported) = imported (entry tables.declarations.import_at.items declaration)
meant_as tables place declaration (Some is.ImportedDefault) = imported (entry tables.declarations.import_at.items declaration)
meant_as tables place declaration (Some role) = own (binding_of tables place)
meant_as tables place declaration None = None

abbrev pub meant_by : Tables → ℕ → Option Declared → Option Meaning
meant_by tables place (Some declared) = cond (nat_eq declared.scope 0) (meant_as tables place declared.place (role_at tables.source declared.place)) None
meant_by tables place None = None

-- what the name at the place stands for, if it is a binding of the top, an import or a namespace
unfoldable pub meant : Tables → ℕ → Option Meaning
meant tables place = meant_by tables place (declared_by tables.told place)
