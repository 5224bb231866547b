-- How a module comes into a scope: what groups are loaded for, and what a root leads to inside its set.
use Rattle.std.specs.Prelude.{◌⊎◌, ℕ, List}
use Rattle.std.specs.List.{Contains}
use Rattle.pk_types.specs.declared.graph.Graph.{Graph}
use Rattle.pk_types.specs.declared.plan.Active.{Active}
use Rattle.pk_types.specs.ChunkGroups.{IsImportTarget, IsInClosure}
use Rattle.pk_types.specs.HoistSets.{edges_at}

-- what a group is loaded for: an entry or an import target
abbrev pub IsTarget : Graph → Active → ℕ → Type 0
IsTarget graph active target = Contains graph.entries target ⊎ IsImportTarget graph active target

-- the closure of some target has the module
abbrev pub IsInGroup : Graph → Active → ℕ → Type 0
IsInGroup graph active member = (target : ℕ) × IsTarget graph active target × IsInClosure graph active.edges target member

-- active edges lead from the root to the member, by members alone
pub data IsReachedInside (active : Active) (members : List ℕ) (root : ℕ) : ℕ → Type 0 where
  root_itself : IsReachedInside active members root root
  along : (from to : ℕ) → IsReachedInside active members root from → Contains members to → Contains (edges_at active from) to
      → IsReachedInside active members root to
