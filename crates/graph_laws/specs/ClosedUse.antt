-- Sets of modules, of names and of requests of which the rules of use are true.
use Rattle.std.specs.Prelude.{◌≡◌, ℕ, Bool, List, true, false, Some, slice_get}
use Rattle.std.specs.List.{Contains}
use Rattle.pk_types.specs.declared.graph.Graph.{Graph}
use Rattle.pk_types.specs.declared.graph.Row.{Row}
use Rattle.pk_types.specs.ExportedNames.{IsExported}
use Rattle.pk_types.specs.Requests.{flag_of, Declares, CallsRequire, CallsImport, NamesAtSite, UsesSpaceAtSite}
use Rattle.pk_types.specs.Reexports.{PassesOn, ExportsSpace}
use Rattle.pk_types.specs.Stops.{IsStopOf}

-- a request of the module leads to the target
abbrev pub LeadsBy : Graph → ℕ → ℕ → ℕ → Type 0
LeadsBy graph number request target = (row : Row) × (slice_get graph.rows number ≡ Some row) × (slice_get row.targets request ≡ Some target)

pub record AreClosed (graph : Graph) (reached : ℕ → Bool) (used : ℕ → List ℕ → Bool) (through : ℕ → ℕ → List ℕ → Bool) (whole : ℕ → ℕ → Bool) : Type 0 where
  pub entry : (number : ℕ) → Contains graph.entries number → reached number ≡ true
  pub required : (number target : ℕ) → reached number ≡ true → CallsRequire graph number target → reached target ≡ true
  pub imported : (number target : ℕ) → reached number ≡ true → CallsImport graph number target → reached target ≡ true
  pub declared : (number request target : ℕ) → reached number ≡ true → Declares graph number request target → flag_of graph target ≡ Some false
      → reached target ≡ true
  pub stopped : (number request target stop : ℕ) (name : List ℕ) → reached number ≡ true → Declares graph number request target
      → through number request name ≡ true → IsStopOf graph target name stop → reached stop ≡ true
  pub declared_whole : (number request target : ℕ) → reached number ≡ true → Declares graph number request target → whole number request ≡ true
      → reached target ≡ true
  pub by_request : (number request target : ℕ) (name : List ℕ) → through number request name ≡ true → LeadsBy graph number request target
      → used target name ≡ true
  pub by_require : (number target : ℕ) (name : List ℕ) → reached number ≡ true → CallsRequire graph number target → IsExported graph target name
      → used target name ≡ true
  pub by_import : (number target : ℕ) (name : List ℕ) → reached number ≡ true → CallsImport graph number target → IsExported graph target name
      → used target name ≡ true
  pub by_space : (number request target : ℕ) (name : List ℕ) → whole number request ≡ true → LeadsBy graph number request target → IsExported graph target name
      → used target name ≡ true
  pub at_site : (number request : ℕ) (name : List ℕ) (row : Row) → reached number ≡ true → slice_get graph.rows number ≡ Some row → NamesAtSite row request name
      → through number request name ≡ true
  pub passed_on : (number request : ℕ) (exported name : List ℕ) (row : Row) → used number exported ≡ true → slice_get graph.rows number ≡ Some row
      → PassesOn graph number row exported request name → through number request name ≡ true
  pub space_at_site : (number request : ℕ) (row : Row) → reached number ≡ true → slice_get graph.rows number ≡ Some row → UsesSpaceAtSite row request
      → whole number request ≡ true
  pub space_exported : (number request : ℕ) (name : List ℕ) (row : Row) → used number name ≡ true → slice_get graph.rows number ≡ Some row
      → ExportsSpace row name request → whole number request ≡ true
