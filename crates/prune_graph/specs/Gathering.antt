-- What is used through the requests of a module, as it is gathered. Only private clauses cite this.
use Rattle.std.specs.Prelude.{◌≡◌, ◌↔◌, ◌⊎◌, ◌<◌, ℕ, true, false, List, [], length, map, slice_index_or}
use Rattle.std.specs.Borrow.{Bor}
use Rattle.std.specs.List.{Contains}
use Rattle.indexmap.specs.IndexSet.{IndexSet}
use Rattle.pk_types.specs.declared.graph.Graph.{Graph}
use Rattle.pk_types.specs.declared.graph.Row.{Row}
use Rattle.pk_types.specs.ActiveEdges.{GoesThrough, SpaceGoesThrough}
use Rattle.prune_graph.specs.declared.through.Through.{Through}

-- names that are borrowed
abbrev pub the_names : List (Bor (List ℕ)) → List (List ℕ)
the_names names = map (λ name. name.now) names

-- the names of each request
abbrev pub name_lists : {S : Type 0} → List (IndexSet (Bor (List ℕ)) S) → List (List (List ℕ))
name_lists sets = map (λ set. the_names set.keys) sets

-- the name is used through the request
abbrev pub IsNamed : Through → ℕ → List ℕ → Type 0
IsNamed through request name = Contains (slice_index_or (name_lists through.names.items) request []) name

-- the namespace is used through the request
abbrev pub IsSpaced : Through → ℕ → Type 0
IsSpaced through request = slice_index_or through.spaces.items request false ≡ true

-- there are so many requests
pub record HasRequests (count : ℕ) (through : Through) : Type 0 where
  pub names : length through.names.items ≡ count
  pub spaces : length through.spaces.items ≡ count

-- nothing is used through so many requests
pub record IsUnused (count : ℕ) (through : Through) : Type 0 where
  pub requests : HasRequests count through
  pub names : (request : ℕ) (name : List ℕ) → ¬ IsNamed through request name
  pub spaces : (request : ℕ) → ¬ IsSpaced through request

-- exactly these names and these namespaces are used beside what was
pub record Gains (old : Through) (IsName : ℕ → List ℕ → Type 0) (IsSpace : ℕ → Type 0) (new : Through) : Type 0 where
  pub names : (request : ℕ) (name : List ℕ) → IsNamed new request name ↔ (IsNamed old request name ⊎ IsName request name)
  pub spaces : (request : ℕ) → IsSpaced new request ↔ (IsSpaced old request ⊎ IsSpace request)
  pub each_names : length new.names.items ≡ length old.names.items
  pub each_spaces : length new.spaces.items ≡ length old.spaces.items

-- they are of requests that there are
pub record AreWithin (through : Through) (IsName : ℕ → List ℕ → Type 0) (IsSpace : ℕ → Type 0) : Type 0 where
  pub names : (request : ℕ) (name : List ℕ) → IsName request name → request < length through.names.items
  pub spaces : (request : ℕ) → IsSpace request → request < length through.spaces.items

abbrev pub IsNoName : ℕ → List ℕ → Type 0
IsNoName request name = ⊥

abbrev pub IsNoSpace : ℕ → Type 0
IsNoSpace request = ⊥

abbrev pub IsTheName : ℕ → List ℕ → ℕ → List ℕ → Type 0
IsTheName place named request name = (place ≡ request) × (named ≡ name)

abbrev pub IsTheStar : List ℕ → List ℕ → ℕ → List ℕ → Type 0
IsTheStar stars named request name = Contains stars request × (named ≡ name)

abbrev pub IsTheSpace : ℕ → ℕ → Type 0
IsTheSpace place request = place ≡ request

-- what is used through the requests of a module of which these names are used
pub record IsThrough (graph : Graph) (number : ℕ) (row : Row) (used : List (List ℕ)) (through : Through) : Type 0 where
  pub requests : HasRequests (length row.facts.requests) through
  pub names : (request : ℕ) (name : List ℕ) → IsNamed through request name ↔ GoesThrough graph number row used request name
  pub spaces : (request : ℕ) → IsSpaced through request ↔ SpaceGoesThrough row used request
