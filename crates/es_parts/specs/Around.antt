-- Which parts enclose the places of an outline, as a table by places.
use Rattle.std.specs.Prelude.{◌≡◌, ℕ, Bool, true, false, List, Option, Some, None, ◌↔◌, IsTrue, length, slice_get}
use Rattle.es_outline.specs.declared.mark.Part.{Part}
use Rattle.es_outline.specs.declared.mark.Part.TheVariants as part
use Rattle.es_outline.specs.Outline.{Marks}
use Rattle.es_scope.specs.Parts.{Encloses, NearestPart}
use Rattle.es_scope.specs.Refused.{is_function}
use Rattle.es_parts.specs.declared.enclosing.Surroundings.{Surroundings}

-- of the parts of these kinds that enclose the place, the innermost begins here; or none encloses it
pub data IsInnermost (kinds : Part → Bool) (marks : Marks) (place : ℕ) : Option ℕ → Type 0 where
  none : ((which : Part) (opening : ℕ) → kinds which ≡ true → ¬ Encloses marks which opening place) → IsInnermost kinds marks place None
  some : (which : Part) (opening : ℕ) → NearestPart kinds marks place which opening → IsInnermost kinds marks place (Some opening)

abbrev pub is_any : Part → Bool
is_any which = true

abbrev pub is_pattern : Part → Bool
is_pattern part.Pattern = true
is_pattern _ = false

-- a function encloses the place
abbrev pub IsInFunction : Marks → ℕ → Type 0
IsInFunction marks place = (which : Part) × (opening : ℕ) × (is_function which ≡ true) × Encloses marks which opening place

pub record IsAround (marks : Marks) (place : ℕ) (around : Surroundings) : Type 0 where
  pub part : IsInnermost is_any marks place around.part
  pub pattern : IsInnermost is_pattern marks place around.pattern
  pub function : IsTrue around.in_function ↔ IsInFunction marks place

pub record AreAround (marks : Marks) (table : List Surroundings) : Type 0 where
  pub whole : length table ≡ length marks
  pub each : (place : ℕ) (around : Surroundings) → slice_get table place ≡ Some around → IsAround marks place around
