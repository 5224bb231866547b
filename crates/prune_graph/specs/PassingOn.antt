-- How an exported name is passed on.
use Rattle.std.specs.Prelude.{◌≡◌, ◌↔◌, ℕ, List, Some, None}
use Rattle.std.specs.List.{Contains}
use Rattle.pk_types.specs.declared.facts.Origin.TheVariants.{Own, Other, Space}
use Rattle.pk_types.specs.declared.graph.Graph.{Graph}
use Rattle.pk_types.specs.declared.graph.Row.{Row}
use Rattle.pk_types.specs.Resolving.{origin_of}
use Rattle.pk_types.specs.Reexports.{IsFoundThrough}
use Rattle.prune_graph.specs.declared.passing.Passing.{Passing}
use Rattle.prune_graph.specs.declared.passing.Passing.TheVariants as passing

-- where the exported name of the module comes from: a binding, a name or the namespace of what a request leads to, or, without an export of it,
-- the stars through which it is found
abbrev pub IsPassedBy : Graph → ℕ → Row → List ℕ → Passing → Type 0
IsPassedBy graph number row exported passing.Nowhere = (binding : ℕ) × (origin_of row.facts exported ≡ Some (Own binding))
IsPassedBy graph number row exported (passing.Name request name) = origin_of row.facts exported ≡ Some (Other request name.now)
IsPassedBy graph number row exported (passing.Space request) = origin_of row.facts exported ≡ Some (Space request)
IsPassedBy graph number row exported (passing.Stars stars) = (origin_of row.facts exported ≡ None)
    × ((star : ℕ) → Contains stars.items star ↔ IsFoundThrough graph number row exported star)
