-- The names that a module exports: ECMA-262's GetExportedNames. There each module is gone through once, so a circle of stars adds nothing,
-- and the names are those of the module itself and, but for `default`, those of each module that stars lead to from it.
use Rattle.std.specs.Prelude.{◌≡◌, ◌≢◌, ◌↔◌, ◌⊎◌, AllPairs, ℕ, List, Some, map, slice_get}
use Rattle.std.specs.List.{Contains}
use Rattle.std.specs.Ordering.{nat_cmp}
use Rattle.std.specs.declared.cmp.Ordering.TheVariants.{Less}
use Rattle.std.specs.Cmp.Lexicographic.{slice_cmp}
use Rattle.pk_types.specs.declared.graph.Graph.{Graph}
use Rattle.pk_types.specs.declared.graph.Row.{Row}
use Rattle.pk_types.specs.Resolving.{default_name}

-- the names are in byte order, each once
abbrev pub AreInByteOrder : List (List ℕ) → Type 0
AreInByteOrder names = AllPairs (λ name other. slice_cmp nat_cmp name other ≡ Less) names

-- one of the module's own exports has the name
abbrev pub ExportsItself : Graph → ℕ → List ℕ → Type 0
ExportsItself graph number name = (row : Row) × (slice_get graph.rows number ≡ Some row)
    × Contains (map (λ entry. entry.name) row.facts.exports) name

-- a star of the one module leads to the other
abbrev pub StarLeadsTo : Graph → ℕ → ℕ → Type 0
StarLeadsTo graph number target = (row : Row) × (star : ℕ) × (slice_get graph.rows number ≡ Some row) × Contains row.facts.stars star
    × (slice_get row.targets star ≡ Some target)

-- stars lead from the module to one that exports the name itself
pub data IsStarred (graph : Graph) : ℕ → List ℕ → Type 0 where
  here : (number target : ℕ) (name : List ℕ) → StarLeadsTo graph number target → ExportsItself graph target name → IsStarred graph number name
  further : (number target : ℕ) (name : List ℕ) → StarLeadsTo graph number target → IsStarred graph target name → IsStarred graph number name

abbrev pub IsExported : Graph → ℕ → List ℕ → Type 0
IsExported graph number name = ExportsItself graph number name ⊎ ((name ≢ default_name) × IsStarred graph number name)

-- the names are those, in byte order, each once
pub record ExportedNames (graph : Graph) (number : ℕ) (names : List (List ℕ)) : Type 0 where
  pub each : (name : List ℕ) → Contains names name ↔ IsExported graph number name
  pub order : AreInByteOrder names
