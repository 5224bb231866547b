-- How a name goes on from a module. Private clauses cite this, but for `IsBare`.
use Rattle.std.specs.Prelude.{◌≡◌, ◌<◌, ◌⊎◌, ℕ, true, List, length, Some, None, slice_get}
use Rattle.pk_types.specs.declared.facts.Kind.TheVariants.{Es}
use Rattle.pk_types.specs.declared.facts.Origin.TheVariants.{Other, Space}
use Rattle.pk_types.specs.declared.found.Found.{Found}
use Rattle.pk_types.specs.declared.graph.Graph.{Graph}
use Rattle.pk_types.specs.declared.graph.Row.{Row}
use Rattle.pk_types.specs.Resolving.{kind_at, origin_of, Resolves}
use Rattle.pk_types.specs.Stops.{EndsAt}
use Rattle.stop_search.specs.declared.way.Way.{Way}
use Rattle.stop_search.specs.declared.way.Way.TheVariants.{Ends, Passes, Stars}

-- a module of ECMAScript stands here whose name leads to what is found
abbrev pub LeadsThere : Graph → ℕ → List ℕ → Found → Type 0
LeadsThere graph number name found = (kind_at graph number ≡ Some Es) × Resolves graph number name found

-- the star leads to such a module
abbrev pub StarLeads : Graph → List ℕ → List ℕ → Found → ℕ → Type 0
StarLeads graph targets name found star = (target : ℕ) × (slice_get targets star ≡ Some target) × LeadsThere graph target name found

-- the module has no side effects, and is one of ECMAScript
pub record IsSkipped (graph : Graph) (number : ℕ) (row : Row) : Type 0 where
  pub at : slice_get graph.rows number ≡ Some row
  pub flagged : row.flagged ≡ true
  pub kind : row.facts.kind ≡ Es

-- such a module has no export of the name
abbrev pub IsOpen : Graph → ℕ → List ℕ → Type 0
IsOpen graph number name = (row : Row) × IsSkipped graph number row × (origin_of row.facts name ≡ None)

-- a module of ECMAScript has no export of the name
abbrev pub IsBare : Graph → ℕ → List ℕ → Type 0
IsBare graph number name = (row : Row) × (slice_get graph.rows number ≡ Some row) × (row.facts.kind ≡ Es) × (origin_of row.facts name ≡ None)

-- the name ends at this module, whatever it leads to
abbrev pub GoesTo : Graph → ℕ → List ℕ → ℕ → Type 0
GoesTo graph number name stop = (row : Row) × (slice_get graph.rows number ≡ Some row)
    × ((EndsAt row name × (number ≡ stop))
    ⊎ (IsSkipped graph number row × ((request : ℕ) × (origin_of row.facts name ≡ Some (Space request)) × (slice_get row.targets request ≡ Some stop))))

-- the name is passed on to this name of this module
abbrev pub GoesOn : Graph → ℕ → List ℕ → ℕ → List ℕ → Type 0
GoesOn graph number name target other = (row : Row) × IsSkipped graph number row
    × ((request : ℕ) × (origin_of row.facts name ≡ Some (Other request other)) × (slice_get row.targets request ≡ Some target))

abbrev pub Goes : Graph → ℕ → List ℕ → Way → Type 0
Goes graph number name (Ends stop) = GoesTo graph number name stop
Goes graph number name (Passes behind) = (behind.number < length graph.rows) × GoesOn graph number name behind.number (behind.name.now)
Goes graph number name Stars = IsOpen graph number name
