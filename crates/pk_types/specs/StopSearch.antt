-- The stops of a name in order: a search, with one list of the pairs of a module and a name that were gone through. Such a pair gives no
-- further stop.
use Rattle.std.specs.Prelude.{◌≡◌, ◌⊎◌, ◌↔◌, ℕ, List, [], ◌∷◌, ◌++◌, Some, None, slice_get}
use Rattle.std.specs.List.{Contains}
use Rattle.std.specs.List.Sorted.{IsStrictlyIncreasing}
use Rattle.pk_types.specs.declared.facts.Origin.TheVariants.{Other, Space}
use Rattle.pk_types.specs.declared.graph.Graph.{Graph}
use Rattle.pk_types.specs.declared.graph.Row.{Row}
use Rattle.pk_types.specs.declared.found.Found.{Found}
use Rattle.pk_types.specs.declared.found.Found.TheVariants.{Nothing, Ambiguous}
use Rattle.pk_types.specs.Resolving.{Pair, origin_of, Resolves}
use Rattle.pk_types.specs.Reexports.{FindsOne, IsFoundThrough}
use Rattle.pk_types.specs.Stops.{EndsAt, IsPassed}

-- these stars are the ones through which the name is found, in the order of requests
pub record AreFoundThrough (graph : Graph) (number : ℕ) (row : Row) (name : List ℕ) (stars : List ℕ) : Type 0 where
  pub ascending : IsStrictlyIncreasing stars
  pub each : (star : ℕ) → Contains stars star ↔ IsFoundThrough graph number row name star

mutual
  -- where these pairs were gone through before, the name of the module has these stops, and these pairs were gone through after
  pub data StopsAt (graph : Graph) : List Pair → ℕ → List ℕ → List ℕ → List Pair → Type 0 where
    gone : (before : List Pair) (number : ℕ) (name : List ℕ) → Contains before (number, name) → StopsAt graph before number name [] before
    lost : (before : List Pair) (number : ℕ) (name : List ℕ) (found : Found) → ¬ Contains before (number, name)
        → Resolves graph number name found → (found ≡ Nothing) ⊎ (found ≡ Ambiguous)
        → StopsAt graph before number name [] (before ++ (number, name) ∷ [])
    here : (before : List Pair) (number : ℕ) (name : List ℕ) (row : Row) (found : Found) → ¬ Contains before (number, name)
        → slice_get graph.rows number ≡ Some row → FindsOne graph number name found → EndsAt row name
        → StopsAt graph before number name (number ∷ []) (before ++ (number, name) ∷ [])
    namespace : (before : List Pair) (number : ℕ) (name : List ℕ) (row : Row) (request target : ℕ) → ¬ Contains before (number, name)
        → IsPassed graph number name row → origin_of row.facts name ≡ Some (Space request) → slice_get row.targets request ≡ Some target
        → StopsAt graph before number name (target ∷ []) (before ++ (number, name) ∷ [])
    by_name : (before : List Pair) (number : ℕ) (name : List ℕ) (row : Row) (request target : ℕ) (other stops : List ℕ) (after : List Pair)
        → ¬ Contains before (number, name) → IsPassed graph number name row
        → origin_of row.facts name ≡ Some (Other request other) → slice_get row.targets request ≡ Some target
        → StopsAt graph (before ++ (number, name) ∷ []) target other stops after
        → StopsAt graph before number name stops after
    by_stars : (before : List Pair) (number : ℕ) (name : List ℕ) (row : Row) (stars stops : List ℕ) (after : List Pair)
        → ¬ Contains before (number, name) → IsPassed graph number name row
        → origin_of row.facts name ≡ None → AreFoundThrough graph number row name stars
        → StarsStopAt graph (before ++ (number, name) ∷ []) row.targets name stars stops after
        → StopsAt graph before number name stops after

  -- the same for the name at each of these stars of a module that has these targets, one after the other
  pub data StarsStopAt (graph : Graph) : List Pair → List ℕ → List ℕ → List ℕ → List ℕ → List Pair → Type 0 where
    ended : (before : List Pair) (targets name : List ℕ) → StarsStopAt graph before targets name [] [] before
    next : (before between after : List Pair) (targets name : List ℕ) (star target : ℕ) (stars stops more : List ℕ)
        → slice_get targets star ≡ Some target → StopsAt graph before target name stops between
        → StarsStopAt graph between targets name stars more after
        → StarsStopAt graph before targets name (star ∷ stars) (stops ++ more) after

-- the stops of a name of the module, in order
abbrev pub HasStops : Graph → ℕ → List ℕ → List ℕ → Type 0
HasStops graph number name stops = (after : List Pair) × StopsAt graph [] number name stops after
