-- The numbers of names: which marks have a name that scopes ask for, and when numbers are those of the names.
use Rattle.std.specs.Prelude.{◌≡◌, ℕ, Bool, true, false, List, Option, Some, length, slice_get}
use Rattle.pk_text.specs.Places.{place_of}
use Rattle.es_outline.specs.declared.mark.Mark.{Mark}
use Rattle.es_outline.specs.declared.mark.Mark.TheVariants as mark
use Rattle.es_outline.specs.declared.mark.Role.{Role}
use Rattle.es_outline.specs.declared.mark.Role.TheVariants as is
use Rattle.es_tree.specs.Names.{name_of}
use Rattle.es_scope.specs.Source.{Source, name_at, spelled_token, token_of}
use Rattle.es_scope.specs.Scopes.{arguments}

-- names that declare or refer
abbrev pub is_naming : Role → Bool
is_naming is.Reference = true
is_naming is.Bound = true
is_naming is.FunctionName = true
is_naming is.ClassName = true
is_naming is.Imported = true
is_naming is.ImportedDefault = true
is_naming is.ImportedSpace = true
is_naming is.Exported = true
is_naming _ = false

abbrev pub names_it : Option Mark → Bool
names_it (Some (mark.Token role token)) = is_naming role
names_it _ = false

-- the number of the mark's name, if it has one
abbrev pub IsNumberOf : Source → List (List ℕ) → Option Mark → ℕ → Type 0
IsNumberOf source texts found number = names_it found ≡ true → place_of texts (name_of (spelled_token source.text (token_of found))) ≡ Some number

-- numbers stay when texts come to them
abbrev pub Keeps : List (List ℕ) → List (List ℕ) → Type 0
Keeps texts more = (name : List ℕ) (number : ℕ) → place_of texts name ≡ Some number → place_of more name ≡ Some number

-- each such name has its number at its place
pub record AreNumbered (source : Source) (texts : List (List ℕ)) (numbers : List ℕ) : Type 0 where
  pub whole : length numbers ≡ length source.marks
  pub each : (place : ℕ) → names_it (slice_get source.marks place) ≡ true → slice_get numbers place ≡ place_of texts (name_at source place)

-- and so has the name that functions declare
abbrev pub IsArguments : List (List ℕ) → ℕ → Type 0
IsArguments texts number = place_of texts arguments ≡ Some number
