-- What an occurrence refers to: the first declaration of its name in the innermost scope around it that declares the name.
use Rattle.std.specs.Prelude.{◌≡◌, ℕ, ◌≤◌, List}
use Rattle.es_scope.specs.Source.{Source, name_at}
use Rattle.es_scope.specs.Occurrences.{IsOccurrence}
use Rattle.es_scope.specs.Scopes.{StandsIn, Declares, is_scope}

-- the place stands in the scope
abbrev pub IsWithin : Source → ℕ → ℕ → Type 0
IsWithin source place scope = StandsIn is_scope source.marks place scope

-- the occurrence refers to what is declared at this place in this scope
pub record Refers (source : Source) (occurrence scope declaration : ℕ) : Type 0 where
  pub occurs : IsOccurrence source occurrence
  pub within : IsWithin source occurrence scope
  pub declares : Declares source scope (name_at source occurrence) declaration
  pub innermost : (other place : ℕ) → IsWithin source occurrence other → Declares source other (name_at source occurrence) place → other ≤ scope
  pub first : (place : ℕ) → Declares source scope (name_at source occurrence) place → declaration ≤ place

-- no scope around the occurrence declares its name
pub record IsFree (source : Source) (occurrence : ℕ) : Type 0 where
  pub occurs : IsOccurrence source occurrence
  pub undeclared : (scope place : ℕ) → IsWithin source occurrence scope → ¬ Declares source scope (name_at source occurrence) place

-- a free occurrence of this name
abbrev pub IsFreeNamed : Source → ℕ → List ℕ → Type 0
IsFreeNamed source occurrence name = IsFree source occurrence × (name_at source occurrence ≡ name)
