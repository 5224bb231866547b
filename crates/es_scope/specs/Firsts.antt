-- The first declaration of a name in a scope, among those before a place.
use Rattle.std.specs.Prelude.{◌≡◌, ◌<◌, ◌≤◌, ℕ, ◌+◌, Bool, ◌&&◌, if◌then◌else◌, nat_eq, List, [], ◌∷◌, Option, Some, None, IsSome, length, map, unwrap_or, slice_get, slice_index}
use Rattle.std.specs.List.{list_any}
use Rattle.std.specs.Map.{lookup}
use Rattle.pk_text.specs.Places.{place_of}
use Rattle.es_outline.specs.declared.mark.Mark.{Mark}
use Rattle.es_outline.specs.declared.mark.Mark.TheVariants as mark
use Rattle.es_outline.specs.declared.mark.Part.TheVariants as part
use Rattle.es_scope.specs.declared.found.First.{First}
use Rattle.es_scope.specs.Source.{Source}
use Rattle.es_scope.specs.Scopes.{Declares}
use Rattle.es_scope.specs.Frames.{owners_at}

pub data IsFirst (source : Source) (limit scope : ℕ) (name : List ℕ) : Option ℕ → Type 0 where
  none : ((place : ℕ) → place < limit → ¬ Declares source scope name place) → IsFirst source limit scope name None
  some : (place : ℕ) → place < limit → Declares source scope name place → ((other : ℕ) → Declares source scope name other → place ≤ other)
      → IsFirst source limit scope name (Some place)

-- what is told of a scope and a number is the first declaration of the name that has the number
abbrev pub AreFirst : Source → List (List ℕ) → ℕ → (ℕ → ℕ → Option ℕ) → Type 0
AreFirst source texts limit told = (scope number : ℕ) (name : List ℕ) → place_of texts name ≡ Some number → IsFirst source limit scope name (told scope number)

-- what is told is of numbers that names have
abbrev pub AreNamed : List (List ℕ) → (ℕ → ℕ → Option ℕ) → Type 0
AreNamed texts told = (scope number : ℕ) → IsSome (told scope number) → number < length texts

-- a scope, and the number of a name
abbrev pub Key : Type 0
Key = ℕ × ℕ

abbrev pub is_key : Key → Key → Bool
is_key key other = nat_eq key.0 other.0 && nat_eq key.1 other.1

-- the places that are told
abbrev pub Entries : Type 0
Entries = List (Key × ℕ)

abbrev pub entry_of : First → Key × ℕ
entry_of first = ((first.scope, first.number), first.place)

abbrev pub told : Entries → ℕ → ℕ → Option ℕ
told entries scope number = lookup (is_key (scope, number)) entries

abbrev pub told_at : Bool → ℕ → Option ℕ → Option ℕ
told_at is_given place was = if is_given then Some (unwrap_or was place) else was

-- the place is told of each of these that nothing was told of
abbrev pub Tells : List Key → ℕ → Entries → Entries → Type 0
Tells given place old new = (scope number : ℕ) → told new scope number ≡ told_at (list_any (λ key. is_key key (scope, number)) given) place (told old scope number)

-- the name of this number in each of these scopes
abbrev pub keys_of : ℕ → List ℕ → List Key
keys_of number owners = map (λ scope. (scope, number)) owners

-- which scopes get which numbers of names by the mark at the place
abbrev pub gives_numbers : Source → (number arguments place : ℕ) → Option Mark → List Key
gives_numbers source number arguments place (Some (mark.Begin part.Function)) = (place + 1, arguments) ∷ []
gives_numbers source number arguments place _ = keys_of number (owners_at source place)

abbrev pub given_numbers : Source → List ℕ → ℕ → ℕ → List Key
given_numbers source numbers arguments place = gives_numbers source (slice_index numbers place) arguments place (slice_get source.marks place)
