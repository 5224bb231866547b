-- What is known of modules before any set is taken. Only private clauses cite this.
use Rattle.std.specs.Prelude.{◌≡◌, ◌↔◌, ◌⊎◌, ◌<◌, ℕ, Bool, true, false, List, [], Some, length, slice_index_or}
use Rattle.std.specs.List.{Contains}
use Rattle.pk_types.specs.declared.graph.Graph.{Graph}
use Rattle.pk_types.specs.declared.plan.Active.{Active}
use Rattle.pk_types.specs.declared.plan.Chunks.{Chunks}
use Rattle.pk_types.specs.ChunkGroups.{AreAll, IsImportTarget}
use Rattle.pk_types.specs.declared.facts.Kind.TheVariants.{Es}
use Rattle.pk_types.specs.declared.facts.SiteKind.TheVariants.{Require, Import}
use Rattle.pk_types.specs.declared.graph.Row.{Row}
use Rattle.pk_types.specs.Resolving.{kind_at}
use Rattle.pk_types.specs.HoistSets.{IsInChunk, IsRequester, IsRequired}
use Rattle.chunk_groups.specs.Gathered.{CallsAt}

-- the other way round: each list has the numbers of the lists that have its own number
pub record AreTransposed (given : List (List ℕ)) (count : ℕ) (others : List (List ℕ)) : Type 0 where
  pub each : length others ≡ count
  pub lists : (number other : ℕ) → number < count
      → Contains (slice_index_or others number []) other ↔ Contains (slice_index_or given other []) number

-- for each module the modules that it is a requester of
pub record AreRequests (active : Active) (asks : List (List ℕ)) : Type 0 where
  pub each : length asks ≡ length active.edges
  pub lists : (from target : ℕ) → Contains (slice_index_or asks from []) target ↔ IsRequester active from target

-- for each module the chunks that hold it
pub record AreHomes (chunks : Chunks) (count : ℕ) (homes : List (List ℕ)) : Type 0 where
  pub each : length homes ≡ count
  pub lists : (member : ℕ) → member < count → AreAll (λ chunk. IsInChunk chunks chunk member) (slice_index_or homes member [])

-- the module is an entry, an import target or required
abbrev pub IsBarred : Graph → Active → ℕ → Type 0
IsBarred graph active member = Contains graph.entries member ⊎ IsImportTarget graph active member ⊎ IsRequired graph active member

-- the site at this place is a `require` or an `import()` that leads to the target
abbrev pub CallsAtSite : Row → ℕ → ℕ → Type 0
CallsAtSite row place target = CallsAt Require row place target ⊎ CallsAt Import row place target

-- the flags say of each module whether it is one of ECMAScript that stands in a chunk, where scopes are shared at all
pub record AreSharing (graph : Graph) (homes : List (List ℕ)) (concatenate : Bool) (sharing : List Bool) : Type 0 where
  pub each : length sharing ≡ length graph.rows
  pub flags : (member : ℕ) → (slice_index_or sharing member false ≡ true)
      ↔ ((concatenate ≡ true) × (kind_at graph member ≡ Some Es) × ((chunk : ℕ) × Contains (slice_index_or homes member []) chunk))

-- the lists of these places have the number too
pub record GainsNumber (places : List ℕ) (number : ℕ) (old new : List (List ℕ)) : Type 0 where
  pub each : length new ≡ length old
  pub lists : (place other : ℕ) → Contains (slice_index_or new place []) other
      ↔ (Contains (slice_index_or old place []) other ⊎ ((other ≡ number) × Contains places place))
