-- The use of modules, as it is read off from facts. Only private clauses cite this.
use Rattle.std.specs.Prelude.{◌≡◌, ◌↔◌, ◌<◌, ℕ, List, [], true, Some, length, slice_get, slice_index_or}
use Rattle.std.specs.List.{Contains}
use Rattle.pk_types.specs.declared.plan.Used.{Used as Use}
use Rattle.pk_types.specs.ExportedNames.{AreInByteOrder}
use Rattle.prune_graph.specs.declared.through.Through.{Through}
use Rattle.prune_graph.specs.Gathering.{HasRequests, IsNamed, IsSpaced}
use Rattle.export_usage.specs.declared.facts.Fact.{Fact}
use Rattle.export_usage.specs.declared.facts.Fact.TheVariants.{Reached, Exposed, Space, Used}

-- the fact is of one of so many modules, and of one of the names
abbrev pub IsInRange : List (List ℕ) → ℕ → Fact → Type 0
IsInRange texts count (Reached number) = number < count
IsInRange texts count (Exposed number) = number < count
IsInRange texts count (Space number) = number < count
IsInRange texts count (Used number place) = (number < count) × (place < length texts)

-- the fact says that the name of the module is used
abbrev pub SaysName : List (List ℕ) → Fact → ℕ → List ℕ → Type 0
SaysName texts (Reached number) other name = ⊥
SaysName texts (Exposed number) other name = ⊥
SaysName texts (Space number) other name = ⊥
SaysName texts (Used number place) other name = (number ≡ other) × (slice_index_or texts place [] ≡ name)

-- it says that the namespace of the module is used
abbrev pub SaysSpace : Fact → ℕ → Type 0
SaysSpace (Reached number) other = ⊥
SaysSpace (Exposed number) other = ⊥
SaysSpace (Space number) other = number ≡ other
SaysSpace (Used number place) other = ⊥

-- exactly what the facts say is used of so many modules
pub record AreByModule (texts : List (List ℕ)) (facts : List Fact) (count : ℕ) (through : Through) : Type 0 where
  pub requests : HasRequests count through
  pub names : (number : ℕ) (name : List ℕ) → IsNamed through number name ↔ ((fact : Fact) × Contains facts fact × SaysName texts fact number name)
  pub spaces : (number : ℕ) → IsSpaced through number ↔ ((fact : Fact) × Contains facts fact × SaysSpace fact number)

-- for each of so many modules the record has its names in byte order, and whether its namespace is used
pub record IsRead (count : ℕ) (through : Through) (used : Use) : Type 0 where
  pub each_names : length used.names ≡ count
  pub each_whole : length used.whole ≡ count
  pub names : (number : ℕ) (names : List (List ℕ)) → slice_get used.names number ≡ Some names
      → AreInByteOrder names × ((name : List ℕ) → Contains names name ↔ IsNamed through number name)
  pub whole : (number : ℕ) → (slice_get used.whole number ≡ Some true) ↔ IsSpaced through number
