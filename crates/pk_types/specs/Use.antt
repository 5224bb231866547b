-- What of a graph is used: which modules are reached from the entries, which names of which modules are used, and which requests are used
-- as a namespace. These are the least sets that the rules below are true of.
use Rattle.std.specs.Prelude.{◌≡◌, ◌↔◌, ℕ, List, true, false, length, Some, slice_get}
use Rattle.std.specs.List.{Contains}
use Rattle.pk_types.specs.declared.graph.Graph.{Graph}
use Rattle.pk_types.specs.declared.graph.Row.{Row}
use Rattle.pk_types.specs.declared.plan.Used.{Used}
use Rattle.pk_types.specs.ExportedNames.{AreInByteOrder, IsExported}
use Rattle.pk_types.specs.Requests.{flag_of, Declares, CallsRequire, CallsImport, NamesAtSite, UsesSpaceAtSite}
use Rattle.pk_types.specs.Reexports.{PassesOn, ExportsSpace}
use Rattle.pk_types.specs.Stops.{IsStopOf}

mutual
  -- The module is reached: it is an entry, or a reached module calls for it, or declares it and it may have side effects, or it is a stop of a
  -- name that a declaration uses, or the declaration uses its namespace.
  pub data IsReached (graph : Graph) : ℕ → Type 0 where
    entry : (number : ℕ) → Contains graph.entries number → IsReached graph number
    required : (number target : ℕ) → IsReached graph number → CallsRequire graph number target → IsReached graph target
    imported : (number target : ℕ) → IsReached graph number → CallsImport graph number target → IsReached graph target
    declared : (number request target : ℕ) → IsReached graph number → Declares graph number request target → flag_of graph target ≡ Some false
        → IsReached graph target
    stopped : (number request target stop : ℕ) (name : List ℕ) → IsReached graph number → Declares graph number request target
        → IsUsedThrough graph number request name → IsStopOf graph target name stop → IsReached graph stop
    declared_whole : (number request target : ℕ) → IsReached graph number → Declares graph number request target → IsWholeThrough graph number request
        → IsReached graph target

  -- the name of the module is used: through a request that leads to it, or as all names of what is called for or used as a namespace are
  pub data IsUsed (graph : Graph) : ℕ → List ℕ → Type 0 where
    by_request : (number request target : ℕ) (name : List ℕ) (row : Row) → IsUsedThrough graph number request name
        → slice_get graph.rows number ≡ Some row → slice_get row.targets request ≡ Some target → IsUsed graph target name
    by_require : (number target : ℕ) (name : List ℕ) → IsReached graph number → CallsRequire graph number target → IsExported graph target name
        → IsUsed graph target name
    by_import : (number target : ℕ) (name : List ℕ) → IsReached graph number → CallsImport graph number target → IsExported graph target name
        → IsUsed graph target name
    by_space : (number request target : ℕ) (name : List ℕ) (row : Row) → IsWholeThrough graph number request
        → slice_get graph.rows number ≡ Some row → slice_get row.targets request ≡ Some target → IsExported graph target name
        → IsUsed graph target name

  -- the name is used through a request of the module: at a site of a reached module, or by passing on a name that is used
  pub data IsUsedThrough (graph : Graph) : ℕ → ℕ → List ℕ → Type 0 where
    at_site : (number request : ℕ) (name : List ℕ) (row : Row) → IsReached graph number → slice_get graph.rows number ≡ Some row
        → NamesAtSite row request name → IsUsedThrough graph number request name
    passed_on : (number request : ℕ) (exported name : List ℕ) (row : Row) → IsUsed graph number exported → slice_get graph.rows number ≡ Some row
        → PassesOn graph number row exported request name → IsUsedThrough graph number request name

  -- the namespace is used through a request of the module: at a site of a reached module, or by a used name that stands for it
  pub data IsWholeThrough (graph : Graph) : ℕ → ℕ → Type 0 where
    space_at_site : (number request : ℕ) (row : Row) → IsReached graph number → slice_get graph.rows number ≡ Some row → UsesSpaceAtSite row request
        → IsWholeThrough graph number request
    space_exported : (number request : ℕ) (name : List ℕ) (row : Row) → IsUsed graph number name → slice_get graph.rows number ≡ Some row
        → ExportsSpace row name request → IsWholeThrough graph number request

-- the namespace of the module is used
abbrev pub IsWhole : Graph → ℕ → Type 0
IsWhole graph target = (number : ℕ) × (request : ℕ) × (row : Row) × IsWholeThrough graph number request
    × (slice_get graph.rows number ≡ Some row) × (slice_get row.targets request ≡ Some target)

-- the record has, for each module, its used names in byte order, and whether its namespace is used
pub record HasUse (graph : Graph) (used : Used) : Type 0 where
  pub each_names : length used.names ≡ length graph.rows
  pub each_whole : length used.whole ≡ length graph.rows
  pub order : (number : ℕ) (names : List (List ℕ)) → slice_get used.names number ≡ Some names → AreInByteOrder names
  pub names : (number : ℕ) (names : List (List ℕ)) → slice_get used.names number ≡ Some names
      → (name : List ℕ) → Contains names name ↔ IsUsed graph number name
  pub whole : (number : ℕ) → (slice_get used.whole number ≡ Some true) ↔ IsWhole graph number
