-- The first fault of a text that parses: an early error, or where there is none a construct that is not bundled.
use Rattle.std.specs.Prelude.{◌≡◌, ◌⊎◌, ℕ, ◌<◌, ◌≤◌}
use Rattle.es_scope.specs.declared.kinds.EarlyError.{EarlyError}
use Rattle.es_scope.specs.declared.kinds.EarlyError.TheVariants.{DeclaredTwice, ExportedTwice, ExportsUndeclared}
use Rattle.es_scope.specs.declared.kinds.Refusal.{Refusal}
use Rattle.es_scope.specs.Source.{Source}
use Rattle.es_scope.specs.Twice.{IsTwice}
use Rattle.es_scope.specs.Exporting.{IsExportedTwice, ExportsUndeclared as ExportsNone}
use Rattle.es_scope.specs.Refused.{IsRefused}

pub data IsEarly (source : Source) (place : ℕ) : EarlyError → Type 0 where
  twice : IsTwice source place → IsEarly source place DeclaredTwice
  exported_twice : IsExportedTwice source place → IsEarly source place ExportedTwice
  undeclared : ExportsNone source place → IsEarly source place ExportsUndeclared

-- which error of a place comes first
abbrev pub rank : EarlyError → ℕ
rank DeclaredTwice = 0
rank ExportedTwice = 1
rank ExportsUndeclared = 2

pub record IsFirstEarly (source : Source) (place : ℕ) (error : EarlyError) : Type 0 where
  pub is_there : IsEarly source place error
  pub first : (other : ℕ) (further : EarlyError) → IsEarly source other further → place < other ⊎ ((place ≡ other) × (rank error ≤ rank further))

pub record IsFirstRefused (source : Source) (place : ℕ) (refusal : Refusal) : Type 0 where
  pub no_error : (other : ℕ) (error : EarlyError) → ¬ IsEarly source other error
  pub is_there : IsRefused source place refusal
  pub first : (other : ℕ) (further : Refusal) → IsRefused source other further → place ≤ other

pub record HasNoFault (source : Source) : Type 0 where
  pub no_error : (place : ℕ) (error : EarlyError) → ¬ IsEarly source place error
  pub no_refusal : (place : ℕ) (refusal : Refusal) → ¬ IsRefused source place refusal
