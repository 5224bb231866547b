-- Scope hoisting: which modules share one scope. It is named by its root, the first of them by number.
use Rattle.std.specs.Prelude.{◌≡◌, ◌≢◌, ◌↔◌, ℕ, ◌<◌, ◌≤◌, ◌==◌, Bool, true, List, [], ◌∷◌, Some, length, filter, nat_lt, slice_get, slice_index, slice_index_or}
use Rattle.std.specs.List.{Contains, range_with_len}
use Rattle.pk_types.specs.declared.facts.Kind.TheVariants.{Es}
use Rattle.pk_types.specs.declared.graph.Graph.{Graph}
use Rattle.pk_types.specs.declared.plan.Active.{Active}
use Rattle.pk_types.specs.declared.plan.Used.{Used}
use Rattle.pk_types.specs.declared.plan.Chunks.{Chunks}
use Rattle.pk_types.specs.Resolving.{kind_at}
use Rattle.pk_types.specs.Requests.{CallsRequire}
use Rattle.pk_types.specs.ChunkGroups.{IsImportTarget}

-- what sets are judged by
pub record Scene : Type 0 where
  pub graph : Graph
  pub active : Active
  pub used : Used
  pub chunks : Chunks

-- the modules that it has active edges to, in order
abbrev pub edges_at : Active → ℕ → List ℕ
edges_at active member = slice_index_or active.edges member []

-- the module is reached
abbrev pub IsReachedModule : Active → ℕ → Type 0
IsReachedModule active member = slice_get active.reached member ≡ Some true

-- a reached module with an active edge to it
abbrev pub IsRequester : Active → ℕ → ℕ → Type 0
IsRequester active from target = IsReachedModule active from × Contains (edges_at active from) target

-- a `require` of a reached module leads to it
abbrev pub IsRequired : Graph → Active → ℕ → Type 0
IsRequired graph active target = (from : ℕ) × IsReachedModule active from × CallsRequire graph from target

-- the chunk with this number holds the module
abbrev pub IsInChunk : Chunks → ℕ → ℕ → Type 0
IsInChunk chunks chunk member = Contains (slice_index_or chunks.modules chunk []) member

-- some chunk holds it
abbrev pub IsInSomeChunk : Chunks → ℕ → Type 0
IsInSomeChunk chunks member = (chunk : ℕ) × IsInChunk chunks chunk member

-- a module that the scope of the root may take in; those that are taken stand in a scope already
pub record MayJoin (scene : Scene) (taken : List ℕ) (root member : ℕ) : Type 0 where
  pub kind : kind_at scene.graph member ≡ Some Es
  pub free : ¬ Contains taken member
  pub chunks : (chunk : ℕ) → IsInChunk scene.chunks chunk member ↔ IsInChunk scene.chunks chunk root
  pub no_entry : ¬ Contains scene.graph.entries member
  pub no_import_target : ¬ IsImportTarget scene.graph scene.active member
  pub not_required : ¬ IsRequired scene.graph scene.active member
  -- its namespace is not used as a value
  pub not_whole : slice_get scene.used.whole member ≢ Some true

-- a set that the root may have: its other members may join, and all their active requesters stand in the set
pub record IsHoistSet (scene : Scene) (taken : List ℕ) (root : ℕ) (members : List ℕ) : Type 0 where
  pub holds_root : Contains members root
  pub joins : (member : ℕ) → Contains members member → member ≢ root → MayJoin scene taken root member
  pub requesters : (member from : ℕ) → Contains members member → member ≢ root → IsRequester scene.active from member → Contains members from

-- a set that the root may have, in which every such set lies
pub record IsGreatestSet (scene : Scene) (taken : List ℕ) (root : ℕ) (members : List ℕ) : Type 0 where
  pub is_set : IsHoistSet scene taken root members
  pub greatest : (others : List ℕ) → IsHoistSet scene taken root others → (member : ℕ) → Contains others member → Contains members member

-- the root of a greatest set: a module of ECMAScript that stands in a chunk, where scopes are shared at all
pub record MayShare (scene : Scene) (concatenate : Bool) (root : ℕ) : Type 0 where
  pub concatenates : concatenate ≡ true
  pub kind : kind_at scene.graph root ≡ Some Es
  pub placed : IsInSomeChunk scene.chunks root

-- the members of the set of a root, where the list has for each module its root
abbrev pub set_of : List ℕ → ℕ → List ℕ
set_of roots root = filter (λ member. slice_index roots member == root) (range_with_len 0 (length roots))

-- the modules that stand in the sets of roots before this one
abbrev pub taken_before : List ℕ → ℕ → List ℕ
taken_before roots root = filter (λ member. nat_lt (slice_index roots member) root) (range_with_len 0 (length roots))

-- the module is a root: its set is the greatest one, given the sets of the roots before it, or it stands alone
pub record IsRoot (scene : Scene) (concatenate : Bool) (roots : List ℕ) (root : ℕ) : Type 0 where
  pub itself : slice_index roots root ≡ root
  pub shared : MayShare scene concatenate root → IsGreatestSet scene (taken_before roots root) root (set_of roots root)
  pub alone : ¬ MayShare scene concatenate root → set_of roots root ≡ root ∷ []

-- In the order of their numbers, each module stands in the set of a root before it, or is a root.
pub record AreHoistSets (scene : Scene) (concatenate : Bool) (roots : List ℕ) : Type 0 where
  pub each : length roots ≡ length scene.graph.rows
  pub rooted : (member : ℕ) → member < length roots → IsRoot scene concatenate roots (slice_index roots member)
  pub in_order : (member : ℕ) → member < length roots → slice_index roots member ≤ member
