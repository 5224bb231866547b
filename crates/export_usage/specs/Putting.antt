-- One fact, or one name, more. Only private clauses cite this.
use Rattle.std.specs.Prelude.{◌≡◌, ◌⊎◌, ℕ, List, ◌++◌, Some}
use Rattle.pk_text.specs.Places.{place_of}
use Rattle.export_usage.specs.declared.facts.Fact.{Fact}
use Rattle.export_usage.specs.declared.facts.Facts.{Facts}
use Rattle.export_usage.specs.Claims.{KnowsOf}

-- the fact is known, and nothing else that was not
pub record IsPut (old : Facts) (fact : Fact) (new : Facts) : Type 0 where
  pub names : new.names ≡ old.names
  pub more : List Fact
  pub behind : new.known.keys ≡ old.known.keys ++ more
  pub known : KnowsOf new fact
  pub only : (other : Fact) → KnowsOf new other → KnowsOf old other ⊎ (fact ≡ other)

-- the name has the number, and others keep theirs
pub record Names (old : Facts) (name : List ℕ) (new : Facts) (number : ℕ) : Type 0 where
  pub known : new.known ≡ old.known
  pub named : place_of new.names name ≡ Some number
  pub kept : (other : List ℕ) (place : ℕ) → place_of old.names other ≡ Some place → place_of new.names other ≡ Some place
