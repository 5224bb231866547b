-- Constructs that are not bundled, each with the place where it stands.
use Rattle.std.specs.Prelude.{◌≡◌, ℕ, ◌+◌, Bool, true, false, List, length, take, codes}
use Rattle.es_tree.specs.declared.tokens.ProgramGoal.TheVariants.{Script, Module}
use Rattle.es_outline.specs.declared.mark.Role.TheVariants as is
use Rattle.es_outline.specs.declared.mark.Part.{Part}
use Rattle.es_outline.specs.declared.mark.Part.TheVariants as part
use Rattle.es_scope.specs.declared.kinds.Refusal.{Refusal}
use Rattle.es_scope.specs.declared.kinds.Refusal.TheVariants as refusal
use Rattle.es_scope.specs.Parts.{Encloses}
use Rattle.es_scope.specs.Source.{Source, HasRole, spelled_at, name_at}
use Rattle.es_scope.specs.Occurrences.{IsOccurrence}
use Rattle.es_scope.specs.Refers.{IsFreeNamed}
use Rattle.es_scope.specs.Asking.{ImportsText, CallsRequire, HasAttributes, HasNoPair, AsksForJson, require}
use Rattle.es_scope.specs.Around.{IsCalled, IsTypeof}

abbrev pub is_function : Part → Bool
is_function part.Function = true
is_function part.Arrow = true
is_function _ = false

-- no function encloses the place
abbrev pub IsOutsideFunctions : Source → ℕ → Type 0
IsOutsideFunctions source place = (which : Part) (opening : ℕ) → is_function which ≡ true → ¬ Encloses source.marks which opening place

-- `?.` and arguments stand at the place
abbrev pub CallsIfThere : Source → ℕ → Type 0
CallsIfThere source place = (spelled_at source place ≡ codes "?.") × (spelled_at source (place + 1) ≡ codes "(")

-- a member goes on at the place
pub data GoesOnAsMember (source : Source) (place : ℕ) : Type 0 where
  dot : HasRole source place is.Dot → GoesOnAsMember source place
  other : HasRole source place is.Suffixes → ¬ CallsIfThere source place → GoesOnAsMember source place

-- what may stand in CommonJS: a call with a text, or `typeof`
pub data IsPlainRequire (source : Source) (place : ℕ) : Type 0 where
  call : (value : List ℕ) (right : ℕ) → CallsRequire source place value right → IsPlainRequire source place
  kind : IsTypeof source place → IsPlainRequire source place

abbrev pub reserved_start : List ℕ
reserved_start = codes "__webpack_"

-- the name begins like those that bundles use
abbrev pub IsReservedName : List ℕ → Type 0
IsReservedName name = take (length reserved_start) name ≡ reserved_start

pub data IsRefused (source : Source) (place : ℕ) : Refusal → Type 0 where
  top_level_await : HasRole source place is.Await → IsOutsideFunctions source place → IsRefused source place refusal.TopLevelAwait
  computed_import : HasRole source place is.ImportCall → ((value : List ℕ) (right : ℕ) → ¬ ImportsText source place value right)
      → IsRefused source place refusal.ComputedImport
  computed_require : source.goal ≡ Script → IsFreeNamed source place require → ¬ IsPlainRequire source place → ¬ GoesOnAsMember source (place + 1)
      → IsRefused source place refusal.ComputedRequire
  eval : IsFreeNamed source place (codes "eval") → IsCalled source place place → IsRefused source place refusal.Eval
  import_meta : HasRole source place is.ImportMeta → IsRefused source place refusal.ImportMeta
  «with» : HasRole source place is.With → IsRefused source place refusal.With
  require_in_module : source.goal ≡ Module → IsFreeNamed source place require → ¬ IsTypeof source place → IsRefused source place refusal.RequireInModule
  require_member : source.goal ≡ Script → IsFreeNamed source place require → GoesOnAsMember source (place + 1)
      → IsRefused source place refusal.RequireMember
  module_hot : IsFreeNamed source place (codes "module") → HasRole source (place + 1) is.Dot → name_at source (place + 2) ≡ codes "hot"
      → IsRefused source place refusal.ModuleHot
  reserved_name : IsOccurrence source place → IsReservedName (name_at source place) → IsRefused source place refusal.ReservedName
  reserved_label : HasRole source place is.Label → IsReservedName (name_at source place) → IsRefused source place refusal.ReservedName
  import_attribute : (request : ℕ) → request + 1 ≡ place → HasAttributes source request → ¬ HasNoPair source request → ¬ AsksForJson source request
      → IsRefused source place refusal.ImportAttribute
