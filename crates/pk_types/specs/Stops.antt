-- The stops of a used name: the modules at which it ends when it is followed through modules without side effects. Such a module is skipped
-- where it only exports the name of another one: the name is followed to the modules through which it is found. A name that leads to nothing,
-- or to several things, has no stop. A target that is used as a namespace through the request is a stop as well: that is said where requests
-- are.
use Rattle.std.specs.Prelude.{◌≡◌, ◌≢◌, ◌⊎◌, ℕ, List, true, false, Some, slice_get}
use Rattle.pk_types.specs.declared.facts.Kind.TheVariants.{Es}
use Rattle.pk_types.specs.declared.facts.Origin.TheVariants.{Own, Other, Space}
use Rattle.pk_types.specs.declared.graph.Graph.{Graph}
use Rattle.pk_types.specs.declared.graph.Row.{Row}
use Rattle.pk_types.specs.declared.found.Found.{Found}
use Rattle.pk_types.specs.Resolving.{origin_of}
use Rattle.pk_types.specs.Reexports.{FindsOne, IsFoundThrough}

-- the name is the module's own
abbrev pub Owns : Row → List ℕ → Type 0
Owns row name = (binding : ℕ) × (origin_of row.facts name ≡ Some (Own binding))

-- the name is followed no further than the module: it may have side effects, is none of ECMAScript, or owns the name
abbrev pub EndsAt : Row → List ℕ → Type 0
EndsAt row name = (row.flagged ≡ false) ⊎ (row.facts.kind ≢ Es) ⊎ Owns row name

-- the name leads to one thing, and the module is one of ECMAScript without side effects
pub record IsPassed (graph : Graph) (number : ℕ) (name : List ℕ) (row : Row) : Type 0 where
  pub at : slice_get graph.rows number ≡ Some row
  pub found : Found
  pub finds : FindsOne graph number name found
  pub flagged : row.flagged ≡ true
  pub kind : row.facts.kind ≡ Es

-- The last module is a stop of the name, asked of the first one. A namespace stops at the module whose namespace it is.
pub data IsStopOf (graph : Graph) : ℕ → List ℕ → ℕ → Type 0 where
  here : (number : ℕ) (name : List ℕ) (row : Row) (found : Found) → slice_get graph.rows number ≡ Some row → FindsOne graph number name found
      → EndsAt row name → IsStopOf graph number name number
  namespace : (number : ℕ) (name : List ℕ) (row : Row) (request target : ℕ) → IsPassed graph number name row
      → origin_of row.facts name ≡ Some (Space request) → slice_get row.targets request ≡ Some target → IsStopOf graph number name target
  by_name : (number : ℕ) (name : List ℕ) (row : Row) (request target : ℕ) (other : List ℕ) (stop : ℕ) → IsPassed graph number name row
      → origin_of row.facts name ≡ Some (Other request other) → slice_get row.targets request ≡ Some target → IsStopOf graph target other stop
      → IsStopOf graph number name stop
  by_star : (number : ℕ) (name : List ℕ) (row : Row) (star target stop : ℕ) → IsPassed graph number name row
      → IsFoundThrough graph number row name star → slice_get row.targets star ≡ Some target → IsStopOf graph target name stop
      → IsStopOf graph number name stop
