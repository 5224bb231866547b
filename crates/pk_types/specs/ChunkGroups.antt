-- The chunk groups of a graph: what is loaded together for an entry, or for a module that an `import()` leads to.
use Rattle.std.specs.Prelude.{◌≡◌, ◌↔◌, ℕ, ◌+◌, ◌<◌, ◌≤◌, List, ◌++◌, true, length, Some, slice_get}
use Rattle.std.specs.List.{Contains}
use Rattle.std.specs.List.Sorted.{IsStrictlyIncreasing}
use Rattle.pk_types.specs.declared.graph.Graph.{Graph}
use Rattle.pk_types.specs.declared.plan.Active.{Active}
use Rattle.pk_types.specs.declared.plan.Groups.{Groups}
use Rattle.pk_types.specs.Requests.{CallsRequire, CallsImport}

-- active edges and `require` lead from the one module to the other, in any number of steps
pub data IsInClosure (graph : Graph) (edges : List (List ℕ)) (from : ℕ) : ℕ → Type 0 where
  itself : IsInClosure graph edges from from
  along : (number target : ℕ) (targets : List ℕ) → IsInClosure graph edges from number → slice_get edges number ≡ Some targets → Contains targets target
      → IsInClosure graph edges from target
  required : (number target : ℕ) → IsInClosure graph edges from number → CallsRequire graph number target → IsInClosure graph edges from target

-- an `import()` of a reached module leads to the module
abbrev pub IsImportTarget : Graph → Active → ℕ → Type 0
IsImportTarget graph active target = (number : ℕ) × (slice_get active.reached number ≡ Some true) × CallsImport graph number target

-- an `import()` of one of the modules leads to the target
abbrev pub LeadsFrom : Graph → List ℕ → ℕ → Type 0
LeadsFrom graph modules target = (number : ℕ) × Contains modules number × CallsImport graph number target

-- the numbers are exactly those that the condition is true of, in their order
pub record AreAll (P : ℕ → Type 0) (numbers : List ℕ) : Type 0 where
  pub ascending : IsStrictlyIncreasing numbers
  pub each : (number : ℕ) → Contains numbers number ↔ P number

-- the first groups are those of the entries, and the others are those of the modules that `import()` leads to, by number
pub record HasTargets (graph : Graph) (active : Active) (groups : Groups) : Type 0 where
  pub entries : groups.entries ≡ length graph.entries
  pub imported : List ℕ
  pub targets : groups.targets ≡ graph.entries ++ imported
  pub others : AreAll (IsImportTarget graph active) imported

-- an `import()` of one of these modules leads to the target of the next group, which is none of an entry
abbrev pub LeadsTo : Graph → Groups → List ℕ → ℕ → Type 0
LeadsTo graph groups modules next = (target : ℕ) × (groups.entries ≤ next) × (slice_get groups.targets next ≡ Some target) × LeadsFrom graph modules target

-- the groups of the graph, each with its modules and the groups that it leads to
pub record IsGroups (graph : Graph) (active : Active) (groups : Groups) : Type 0 where
  pub targets : HasTargets graph active groups
  pub each_closure : length groups.closures ≡ length groups.targets
  pub each_lead : length groups.leads ≡ length groups.targets
  pub closures : (group target : ℕ) (modules : List ℕ) → slice_get groups.targets group ≡ Some target → slice_get groups.closures group ≡ Some modules
      → AreAll (IsInClosure graph active.edges target) modules
  pub leads : (group : ℕ) (modules next : List ℕ) → slice_get groups.closures group ≡ Some modules → slice_get groups.leads group ≡ Some next
      → AreAll (LeadsTo graph groups modules) next

-- the graph has more groups than this number
abbrev pub HasMoreGroups : Graph → Active → ℕ → Type 0
HasMoreGroups graph active limit = (imported : List ℕ) × AreAll (IsImportTarget graph active) imported × (limit < length graph.entries + length imported)
