-- What used names pass on. Only private clauses cite this.
use Rattle.std.specs.Prelude.{◌≡◌, ℕ, List}
use Rattle.std.specs.List.{Contains}
use Rattle.pk_types.specs.declared.graph.Graph.{Graph}
use Rattle.pk_types.specs.declared.graph.Row.{Row}
use Rattle.pk_types.specs.Reexports.{PassesOn, ExportsSpace}
use Rattle.prune_graph.specs.declared.passing.Passing.{Passing}
use Rattle.prune_graph.specs.declared.passing.Passing.TheVariants as passing
use Rattle.prune_graph.specs.Gathering.{IsTheName, IsTheSpace}

-- an exported name that is passed on so goes on to the name of what the request leads to
abbrev pub PassesTo : Passing → List ℕ → ℕ → List ℕ → Type 0
PassesTo passing.Nowhere exported request name = ⊥
PassesTo (passing.Name place named) exported request name = IsTheName place named.now request name
PassesTo (passing.Space place) exported request name = ⊥
PassesTo (passing.Stars stars) exported request name = Contains stars.items request × (exported ≡ name)

-- it goes on to the namespace
abbrev pub PassesToSpace : Passing → ℕ → Type 0
PassesToSpace passing.Nowhere request = ⊥
PassesToSpace (passing.Name place named) request = ⊥
PassesToSpace (passing.Space place) request = IsTheSpace place request
PassesToSpace (passing.Stars stars) request = ⊥

-- one of the used names goes on to the name
abbrev pub OnePassesOn : Graph → ℕ → Row → List (List ℕ) → ℕ → List ℕ → Type 0
OnePassesOn graph number row used request name = (exported : List ℕ) × Contains used exported × PassesOn graph number row exported request name

abbrev pub OneExportsSpace : Row → List (List ℕ) → ℕ → Type 0
OneExportsSpace row used request = (exported : List ℕ) × Contains used exported × ExportsSpace row exported request
