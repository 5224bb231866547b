-- The stops that were found. Only the invariant of `Stops` cites this.
use Rattle.std.specs.Prelude.{◌≡◌, ℕ, List, Bool, ◌&&◌, nat_eq, Some}
use Rattle.std.specs.Str.{bytes_eq}
use Rattle.indexmap.specs.IndexMap.{IndexMap, get}
use Rattle.pk_text.specs.declared.text.Key.{Key}
use Rattle.pk_types.specs.declared.graph.Graph.{Graph}
use Rattle.pk_types.specs.StopSearch.{HasStops}

-- one module, and one name
abbrev pub is_same_key : ℕ × Key → ℕ × Key → Bool
is_same_key key other = nat_eq key.0 other.0 && bytes_eq key.1.0.now other.1.0.now

-- what stands beside a module and a name are the stops of the name
abbrev pub AreKnown : {S : Type 0} → Graph → IndexMap (ℕ × Key) (List ℕ) S → Type 0
AreKnown graph known = (key : ℕ × Key) (stops : List ℕ) → get is_same_key known key ≡ Some stops → HasStops graph key.0 key.1.0.now stops
