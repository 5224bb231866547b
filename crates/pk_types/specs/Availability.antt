-- Which modules are there already when a chunk group is loaded, whatever way led to it, and which it must bring itself.
use Rattle.std.specs.Prelude.{◌≡◌, ◌<◌, ◌≤◌, ℕ, Any, List, [], ◌∷◌, ◌++◌, length, Some, slice_get}
use Rattle.std.specs.List.{All, Contains}
use Rattle.pk_types.specs.declared.plan.Groups.{Groups}
use Rattle.pk_types.specs.ChunkGroups.{AreAll}
use Rattle.pk_types.specs.Places.{ArePlacesIn, IsShort}

-- the closure of the group has the module
abbrev pub Holds : Groups → ℕ → ℕ → Type 0
Holds groups number group = (modules : List ℕ) × (slice_get groups.closures group ≡ Some modules) × Contains modules number

-- the one group leads to the other
abbrev pub Leads : Groups → ℕ → ℕ → Type 0
Leads groups group next = (others : List ℕ) × (slice_get groups.leads group ≡ Some others) × Contains others next

-- A walk goes through these groups and then ends at this one: it begins at the first group, and each group leads to the next.
pub data IsWalkFrom (groups : Groups) (first : ℕ) : List ℕ → ℕ → Type 0 where
  begins : IsWalkFrom groups first [] first
  goes_on : (before : List ℕ) (group next : ℕ) → IsWalkFrom groups first before group → Leads groups group next
      → IsWalkFrom groups first (before ++ group ∷ []) next

-- a walk that begins at the group of an entry
abbrev pub IsWalk : Groups → List ℕ → ℕ → Type 0
IsWalk groups before group = (first : ℕ) × (first < groups.entries) × IsWalkFrom groups first before group

-- Every walk that ends at the group meets, before its end, a group that has the module. Where no walk ends there, that is every module.
abbrev pub IsAvailable : Groups → ℕ → ℕ → Type 0
IsAvailable groups group number = (before : List ℕ) → IsWalk groups before group → Any (Holds groups number) before

-- the group brings the module itself
abbrev pub IsPlaced : Groups → ℕ → ℕ → Type 0
IsPlaced groups group number = Holds groups number group × ¬ IsAvailable groups group number

-- for each group the modules that it brings, by number
pub record ArePlaced (groups : Groups) (placed : List (List ℕ)) : Type 0 where
  pub each : length placed ≡ length groups.targets
  pub modules : (group : ℕ) (modules : List ℕ) → slice_get placed group ≡ Some modules → AreAll (IsPlaced groups group) modules

-- Groups that stand by themselves: each has a target, a closure and a list of those that it leads to, and these are groups.
pub record GroupsFit (groups : Groups) : Type 0 where
  pub each_closure : length groups.closures ≡ length groups.targets
  pub each_lead : length groups.leads ≡ length groups.targets
  pub few : IsShort groups.targets
  pub entries : groups.entries ≤ length groups.targets
  pub leads : All (ArePlacesIn groups.targets) groups.leads

-- the modules of the groups have smaller numbers
abbrev pub HasModulesBelow : Groups → ℕ → Type 0
HasModulesBelow groups count = All (All (λ number. number < count)) groups.closures
