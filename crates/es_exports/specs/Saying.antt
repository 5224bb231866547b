-- Names and origins of exports, told by places of the names.
use Rattle.std.specs.Prelude.{ℕ, zero, suc, ◌+◌, ◌||◌, Bool, false, if◌then◌else◌, List, [], Option, Some, None, is_some}
use Rattle.pk_text.specs.Places.{place_of, with_text}
use Rattle.pk_types.specs.declared.facts.Origin.{Origin}
use Rattle.pk_types.specs.declared.facts.Origin.TheVariants as origin
use Rattle.es_scope.specs.Source.{Source, name_at}
use Rattle.es_scope.specs.Declaring.{default}
use Rattle.es_exports.specs.declared.names.Names.{Names}
use Rattle.es_exports.specs.declared.said.Said.{Said}
use Rattle.es_exports.specs.declared.said.Said.TheVariants as said
use Rattle.es_exports.specs.declared.said.Whence.{Whence}
use Rattle.es_exports.specs.declared.said.Whence.TheVariants as whence
use Rattle.es_exports.specs.Seeing.{Seen, says_outer, says_own, says_default}

abbrev pub name_of : Source → Said → List ℕ
name_of source (said.At place) = name_at source place
name_of source said.Default = default

abbrev pub origin_of : Source → Whence → Origin
origin_of source (whence.Own binding) = origin.Own binding
origin_of source (whence.Other request name) = origin.Other request (name_of source name)
origin_of source (whence.Space request) = origin.Space request

-- one of the names by which the place exports, if there is one
abbrev pub said_at : Seen → ℕ → Option Said
said_at seen place =
    if says_outer seen.source place then Some (said.At (place + 2))
    else (if says_own seen place then Some (said.At place) else (if says_default seen.source place then Some said.Default else None))

abbrev pub name_if : Source → Bool → Said → Option (List ℕ)
name_if source says name = if says then Some (name_of source name) else None

-- all of them
abbrev pub names_at : Seen → ℕ → Names
names_at seen place = record {
  outer = name_if seen.source (says_outer seen.source place) (said.At (place + 2));
  own = name_if seen.source (says_own seen place) (said.At place);
  default = name_if seen.source (says_default seen.source place) said.Default;
}

-- names that were seen
abbrev pub is_seen : List (List ℕ) → Option (List ℕ) → Bool
is_seen texts (Some name) = is_some (place_of texts name)
is_seen texts None = false

abbrev pub is_again : List (List ℕ) → Names → Bool
is_again texts names = is_seen texts names.outer || (is_seen texts names.own || is_seen texts names.default)

abbrev pub with_name : List (List ℕ) → Option (List ℕ) → List (List ℕ)
with_name texts (Some name) = with_text texts name
with_name texts None = texts

abbrev pub with_names : List (List ℕ) → Names → List (List ℕ)
with_names texts names = with_name (with_name (with_name texts names.outer) names.own) names.default

-- the names by which the places before this one export
unfoldable pub seen_at : Seen → ℕ → List (List ℕ)
seen_at seen zero = []
seen_at seen (suc place) = with_names (seen_at seen place) (names_at seen place)

abbrev pub is_again_at : Seen → ℕ → Bool
is_again_at seen place = is_again (seen_at seen place) (names_at seen place)
