-- What waits while the stops of a name are sought. Only private clauses cite this.
use Rattle.std.specs.Prelude.{◌≡◌, ◌<◌, ◌^◌, ℕ, List, [], ◌∷◌, ◌++◌, length, map, slice_index}
use Rattle.std.specs.List.{All, Contains}
use Rattle.pk_types.specs.declared.found.Found.{Found}
use Rattle.pk_types.specs.declared.graph.Graph.{Graph}
use Rattle.pk_types.specs.Resolving.{Pair}
use Rattle.pk_types.specs.Reexports.{FindsOne}
use Rattle.pk_types.specs.StopSearch.{StopsAt}
use Rattle.export_names.specs.Searching.{IsWithin}
use Rattle.stop_search.specs.declared.asked.Asked.{Asked}

-- what those that wait are asked for
abbrev pub asks : List Asked → List Pair
asks waiting = map (λ asked. (asked.number, asked.name.now)) waiting

-- the targets of these stars, asked for the name, the first on top, which stands last
abbrev pub stack_of : List ℕ → List ℕ → List ℕ → List Pair
stack_of targets name [] = []
stack_of targets name (star ∷ stars) = stack_of targets name stars ++ (slice_index targets star, name) ∷ []

-- where these pairs were gone through before, those that wait have these stops, from the top on, and these pairs were gone through after
abbrev pub Pending : Graph → List Pair → List Pair → List ℕ → List Pair → Type 0
Pending graph before [] stops after = (stops ≡ []) × (before ≡ after)
Pending graph before (asked ∷ upper) stops after = (first : List ℕ) × (between : List Pair) × (last : List ℕ) × Pending graph before upper first between
    × StopsAt graph between asked.0 asked.1 last after × (stops ≡ first ++ last)

-- the module is asked for a name that leads to what is found, and to which a search can come that begins with the first name
pub record IsAsked (graph : Graph) (found : Found) (first : List ℕ) (asked : Pair) : Type 0 where
  pub number_within : asked.0 < length graph.rows
  pub finds : FindsOne graph asked.0 asked.1 found
  pub within : IsWithin graph first asked.1

-- what a module that is asked for the first time comes to: these waited and were found before, and these after
pub record Follows (graph : Graph) (found : Found) (asked : Pair) (old new : List Pair) (stops more : List ℕ) : Type 0 where
  pub pushed : List Pair
  pub waiting : new ≡ old ++ pushed
  pub done : List ℕ
  pub stops_are : more ≡ stops ++ done
  pub leads : (before : List Pair) → ¬ Contains before asked → (rest : List ℕ) (after : List Pair)
      → Pending graph (before ++ asked ∷ []) pushed rest after
      → StopsAt graph before asked.0 asked.1 (done ++ rest) after
  pub ready : (first : List ℕ) → IsWithin graph first asked.1 → All (IsAsked graph found first) pushed
  pub few : length pushed < 2 ^ 32
