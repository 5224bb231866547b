-- Whether the name at a place is free, as the tables tell it.
use Rattle.std.specs.Prelude.{ℕ, ◌+◌, Bool, true, false, ◌&&◌, not, if◌then◌else◌, List, Option, Some, None, is_none, slice_get}
use Rattle.std.specs.Str.{bytes_eq}
use Rattle.pk_types.specs.Numbers.{has}
use Rattle.es_outline.specs.declared.mark.Mark.{Mark}
use Rattle.es_outline.specs.declared.mark.Mark.TheVariants as mark
use Rattle.es_outline.specs.declared.mark.Role.TheVariants as is
use Rattle.es_scope.specs.Source.{Source, name_at}
use Rattle.es_scope.specs.Telling.{Told, declared_by}
use Rattle.es_scope.specs.Asking.{require}
use Rattle.es_asks.specs.Texts.{argument_end}

-- the mark refers to a name of this module
abbrev pub refers : Option Mark → Bool → Bool
refers (Some (mark.Token is.Reference token)) is_forwarded = true
refers (Some (mark.Token is.Exported token)) is_forwarded = not is_forwarded
refers _ is_forwarded = false

abbrev pub is_free : Source → Told → List ℕ → ℕ → Bool
is_free source told forwarded place =
    refers (slice_get source.marks place) (has forwarded place) && is_none (declared_by told place)

abbrev pub is_free_named : Source → Told → List ℕ → ℕ → List ℕ → Bool
is_free_named source told forwarded place name = is_free source told forwarded place && bytes_eq (name_at source place) name

abbrev pub is_call : Option Mark → Bool
is_call (Some mark.Call) = true
is_call _ = false

-- where a call of a free `require` with a text ends that begins at the place
abbrev pub require_end : Source → Told → List ℕ → ℕ → Option ℕ
require_end source told forwarded place =
    if is_call (slice_get source.marks (place + 1)) && is_free_named source told forwarded place require then argument_end source (place + 2) else None
