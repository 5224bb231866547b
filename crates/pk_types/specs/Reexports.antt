-- How a name that is asked of a module is passed on to what its requests lead to.
use Rattle.std.specs.Prelude.{◌≡◌, ◌≢◌, ◌↔◌, ℕ, List, Some, None, slice_get}
use Rattle.std.specs.List.{Contains}
use Rattle.pk_types.specs.declared.facts.Kind.TheVariants.{Es}
use Rattle.pk_types.specs.declared.facts.Origin.TheVariants.{Other, Space}
use Rattle.pk_types.specs.declared.graph.Graph.{Graph}
use Rattle.pk_types.specs.declared.graph.Row.{Row}
use Rattle.pk_types.specs.declared.found.Found.{Found}
use Rattle.pk_types.specs.declared.found.Found.TheVariants.{Nothing, Ambiguous}
use Rattle.pk_types.specs.ExportedNames.{AreInByteOrder, IsExported}
use Rattle.pk_types.specs.Resolving.{origin_of, kind_at, Resolves}

-- the name leads to this, which is something and is the only thing
pub record FindsOne (graph : Graph) (number : ℕ) (name : List ℕ) (found : Found) : Type 0 where
  pub resolves : Resolves graph number name found
  pub something : found ≢ Nothing
  pub one : found ≢ Ambiguous

-- The name is found through this star: no export of the module has it, and it leads to one thing, the same by the star's target. By a star
-- only a module of ECMAScript has names.
pub record IsFoundThrough (graph : Graph) (number : ℕ) (row : Row) (name : List ℕ) (star : ℕ) : Type 0 where
  pub none : origin_of row.facts name ≡ None
  pub among : Contains row.facts.stars star
  pub target : ℕ
  pub leads : slice_get row.targets star ≡ Some target
  pub kind : kind_at graph target ≡ Some Es
  pub found : Found
  pub here : FindsOne graph number name found
  pub there : Resolves graph target name found

-- an exported name is a name of what a request of the module leads to
pub data PassesOn (graph : Graph) (number : ℕ) (row : Row) (exported : List ℕ) : ℕ → List ℕ → Type 0 where
  by_name : (request : ℕ) (name : List ℕ) → origin_of row.facts exported ≡ Some (Other request name) → PassesOn graph number row exported request name
  by_star : (star : ℕ) → IsFoundThrough graph number row exported star → PassesOn graph number row exported star exported

-- an exported name is the namespace of what a request of the module leads to
abbrev pub ExportsSpace : Row → List ℕ → ℕ → Type 0
ExportsSpace row exported request = origin_of row.facts exported ≡ Some (Space request)

-- each indirect export of a module leads to one thing
abbrev pub IndirectExportsResolve : Graph → Type 0
IndirectExportsResolve graph = (number : ℕ) (row : Row) (exported : List ℕ) (request : ℕ) (name : List ℕ) → slice_get graph.rows number ≡ Some row
    → origin_of row.facts exported ≡ Some (Other request name) → (found : Found) × FindsOne graph number exported found

-- the names of a module's namespace object, in byte order: those exported names that lead to one thing
pub record NamespaceNames (graph : Graph) (number : ℕ) (names : List (List ℕ)) : Type 0 where
  pub each : (name : List ℕ) → Contains names name ↔ (IsExported graph number name × ((found : Found) × FindsOne graph number name found))
  pub order : AreInByteOrder names
