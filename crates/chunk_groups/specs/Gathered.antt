-- What is gathered from places in turn. Only private clauses cite this.
use Rattle.std.specs.Prelude.{◌≡◌, ◌↔◌, ◌⊎◌, ◌+◌, ◌<◌, ℕ, List, Option, Some, None, [], slice_get, slice_index, slice_index_or}
use Rattle.std.specs.List.{Contains}
use Rattle.pk_types.specs.declared.facts.Site.{Site}
use Rattle.pk_types.specs.declared.facts.SiteKind.{SiteKind}
use Rattle.pk_types.specs.declared.graph.Row.{Row}

-- exactly what was there before and what the first places give
abbrev pub IsGathered : List ℕ → (ℕ → ℕ → Type 0) → ℕ → List ℕ → Type 0
IsGathered before Gives count numbers = (number : ℕ) → Contains numbers number ↔ (Contains before number ⊎ ((place : ℕ) × (place < count) × Gives place number))

-- the site at this place is a call of this kind, which leads to the target
abbrev pub CallsAt : (ℕ → SiteKind) → Row → ℕ → ℕ → Type 0
CallsAt kind row place target = (site : Site) × (request : ℕ) × (slice_get row.facts.sites place ≡ Some site) × (site.kind ≡ kind request)
    × (slice_get row.targets request ≡ Some target)

-- the module of this number is marked, and the target is among its own
abbrev pub ImportsAt : List (List ℕ) → (ℕ → Type 0) → ℕ → ℕ → Type 0
ImportsAt imports IsMarked number target = IsMarked number × Contains (slice_index_or imports number []) target

-- the target at this place has the group
abbrev pub HasGroupAt : List (Option ℕ) → List ℕ → ℕ → ℕ → Type 0
HasGroupAt numbers targets place group = slice_index_or numbers (slice_index targets place) None ≡ Some group

-- a target of the module at this place has the group
abbrev pub LeadsAt : List (Option ℕ) → List (List ℕ) → List ℕ → ℕ → ℕ → Type 0
LeadsAt numbers imports modules place group = (target : ℕ) × Contains (slice_index_or imports (slice_index modules place) []) target
    × (slice_index_or numbers target None ≡ Some group)

-- Each module that `import()` leads to has its own group, those of entries left out: it is found by the module's number.
pub record AreGroupNumbers (entries : ℕ) (imported : List ℕ) (count : ℕ) (numbers : List (Option ℕ)) : Type 0 where
  pub sound : (target group : ℕ) → slice_index_or numbers target None ≡ Some group
      → (place : ℕ) × (place < count) × (group ≡ entries + place) × (slice_index imported place ≡ target)
  pub each : (place : ℕ) → place < count → slice_index_or numbers (slice_index imported place) None ≡ Some (entries + place)
