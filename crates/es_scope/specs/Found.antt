-- What occurrences refer to, as a table by places.
use Rattle.std.specs.Prelude.{◌≡◌, ℕ, List, [], ◌∷◌, Option, Some, None, length, slice_get, IfSome}
use Rattle.es_scope.specs.declared.found.Declared.{Declared}
use Rattle.es_scope.specs.Source.{Source}
use Rattle.es_scope.specs.Occurrences.{IsOccurrence}
use Rattle.es_scope.specs.Refers.{Refers, IsFree}

-- the occurrence refers to this, or is free
pub data IsFound (source : Source) (place : ℕ) : Option Declared → Type 0 where
  refers : (declared : Declared) → Refers source place declared.scope declared.place → IsFound source place (Some declared)
  free : IsFree source place → IsFound source place None

pub record AreFound (source : Source) (table : List (Option Declared)) : Type 0 where
  pub whole : length table ≡ length source.marks
  pub each : (place : ℕ) → IsOccurrence source place → IfSome (slice_get table place) (IsFound source place)

abbrev pub found_or : Option Declared → ℕ → Option ℕ → Option Declared
found_or further scope (Some place) = Some (record { scope = scope; place = place })
found_or further scope None = further

-- the first of the scopes that is told to declare it
abbrev pub found : (ℕ → Option ℕ) → List ℕ → Option Declared
found told [] = None
found told (scope ∷ scopes) = found_or (found told scopes) scope (told scope)
