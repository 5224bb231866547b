-- The active edges of modules: which modules each evaluates before itself. A request whose target has no side effects is replaced by edges to
-- the stops of the names that are used through it.
use Rattle.std.specs.Prelude.{◌≡◌, ◌↔◌, ℕ, List, [], ◌∷◌, true, false, length, Some, slice_get}
use Rattle.std.specs.List.{AllZip, Contains, concat}
use Rattle.pk_text.specs.FirstPlaces.{first_places}
use Rattle.pk_types.specs.declared.graph.Graph.{Graph}
use Rattle.pk_types.specs.declared.graph.Row.{Row}
use Rattle.pk_types.specs.declared.plan.Active.{Active}
use Rattle.pk_types.specs.declared.plan.Used.{Used}
use Rattle.pk_types.specs.Requests.{flag_of, CallsRequire, CallsImport, NamesAtSite, UsesSpaceAtSite}
use Rattle.pk_types.specs.Reexports.{PassesOn, ExportsSpace}
use Rattle.pk_types.specs.StopSearch.{HasStops}
use Rattle.pk_types.specs.ExportedNames.{AreInByteOrder}

-- Where these names of a reached module are used, the name is used through its request: the same as being used through a request, of names that
-- are given.
pub data GoesThrough (graph : Graph) (number : ℕ) (row : Row) (used : List (List ℕ)) : ℕ → List ℕ → Type 0 where
  at_site : (request : ℕ) (name : List ℕ) → NamesAtSite row request name → GoesThrough graph number row used request name
  passed_on : (request : ℕ) (exported name : List ℕ) → Contains used exported → PassesOn graph number row exported request name
      → GoesThrough graph number row used request name

-- Where these names of a reached module are used, the namespace is used through its request. That too is said of names that are given.
pub data SpaceGoesThrough (row : Row) (used : List (List ℕ)) : ℕ → Type 0 where
  at_site : (request : ℕ) → UsesSpaceAtSite row request → SpaceGoesThrough row used request
  exported : (request : ℕ) (name : List ℕ) → Contains used name → ExportsSpace row name request → SpaceGoesThrough row used request

-- the names that are used through the request, in byte order
pub record AreNamesThrough (graph : Graph) (number : ℕ) (row : Row) (used : List (List ℕ)) (request : ℕ) (names : List (List ℕ)) : Type 0 where
  pub order : AreInByteOrder names
  pub each : (name : List ℕ) → Contains names name ↔ GoesThrough graph number row used request name

-- the edges that a request of a reached module gives
pub data GivesEdges (graph : Graph) (number : ℕ) (row : Row) (used : List (List ℕ)) : ℕ → List ℕ → Type 0 where
  kept : (request target : ℕ) → slice_get row.targets request ≡ Some target → flag_of graph target ≡ Some false
      → GivesEdges graph number row used request (target ∷ [])
  whole : (request target : ℕ) → slice_get row.targets request ≡ Some target → flag_of graph target ≡ Some true → SpaceGoesThrough row used request
      → GivesEdges graph number row used request (target ∷ [])
  replaced : (request target : ℕ) (names : List (List ℕ)) (stops : List (List ℕ)) → slice_get row.targets request ≡ Some target
      → flag_of graph target ≡ Some true → ¬ SpaceGoesThrough row used request → AreNamesThrough graph number row used request names
      → AllZip (HasStops graph target) names stops → GivesEdges graph number row used request (concat stops)

-- the edges of a reached module: those of its declarations, in their order, each where it stands first
abbrev pub HasEdges : Graph → ℕ → Row → List (List ℕ) → List ℕ → Type 0
HasEdges graph number row used edges = (parts : List (List ℕ)) × AllZip (GivesEdges graph number row used) row.facts.order parts
    × (edges ≡ first_places (concat parts))

-- The entries lead to the module, by edges, `require` and `import()`. For the names that are used in the graph these are the reached modules.
pub data IsLedTo (graph : Graph) (edges : List (List ℕ)) : ℕ → Type 0 where
  entry : (number : ℕ) → Contains graph.entries number → IsLedTo graph edges number
  along : (number target : ℕ) (targets : List ℕ) → IsLedTo graph edges number → slice_get edges number ≡ Some targets → Contains targets target
      → IsLedTo graph edges target
  required : (number target : ℕ) → IsLedTo graph edges number → CallsRequire graph number target → IsLedTo graph edges target
  imported : (number target : ℕ) → IsLedTo graph edges number → CallsImport graph number target → IsLedTo graph edges target

-- each module that the entries lead to has its edges, and every other one has none
pub record IsActive (graph : Graph) (used : Used) (active : Active) : Type 0 where
  pub each_edges : length active.edges ≡ length graph.rows
  pub each_reached : length active.reached ≡ length graph.rows
  pub reached : (number : ℕ) → (slice_get active.reached number ≡ Some true) ↔ IsLedTo graph active.edges number
  pub edges : (number : ℕ) (row : Row) (edges : List ℕ) → slice_get active.reached number ≡ Some true
      → slice_get graph.rows number ≡ Some row → slice_get active.edges number ≡ Some edges
      → (names : List (List ℕ)) × (slice_get used.names number ≡ Some names) × HasEdges graph number row names edges
  pub others : (number : ℕ) → slice_get active.reached number ≡ Some false → slice_get active.edges number ≡ Some []
