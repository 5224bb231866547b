-- The module graph of entries and of what each module's requests lead to, by paths. The modules are the paths that have an address, and
-- their order is that of their least addresses.
use Rattle.std.specs.Prelude.{◌≡◌, ◌↔◌, ℕ, ◌<◌, List, [], ◌∷◌, map, Option, Some, None, slice_get}
use Rattle.std.specs.List.{All, Contains}
use Rattle.std.specs.Option.{option_and_then}
use Rattle.pk_types.specs.declared.graph.Graph.{Graph}
use Rattle.module_graph.specs.Shortlex.{ComesBefore, IsAtMost}

-- the path that requests lead to from a path
abbrev pub path_after : (List ℕ → List (List ℕ)) → List ℕ → List ℕ → Option (List ℕ)
path_after leads path [] = Some path
path_after leads path (request ∷ requests) = option_and_then (λ next. path_after leads next requests) (slice_get (leads path) request)

-- the path that an address leads to
abbrev pub path_at : List (List ℕ) → (List ℕ → List (List ℕ)) → List ℕ → Option (List ℕ)
path_at entries leads [] = None
path_at entries leads (entry ∷ requests) = option_and_then (λ first. path_after leads first requests) (slice_get entries entry)

-- an address of the path, and no other one of it comes before
pub record IsLeastOf (entries : List (List ℕ)) (leads : List ℕ → List (List ℕ)) (path address : List ℕ) : Type 0 where
  pub has : path_at entries leads address ≡ Some path
  pub least : (other : List ℕ) → path_at entries leads other ≡ Some path → IsAtMost address other

abbrev pub labels_of : Graph → List (List ℕ)
labels_of graph = map (λ row. row.label) graph.rows

-- the entries of the graph are these, and its targets are what the requests of each module lead to
pub record LeadsTo (entries : List (List ℕ)) (leads : List ℕ → List (List ℕ)) (graph : Graph) : Type 0 where
  pub first : map (slice_get (labels_of graph)) graph.entries ≡ map Some entries
  pub next : All (λ row. map (slice_get (labels_of graph)) row.targets ≡ map Some (leads row.label)) graph.rows

-- the modules are the paths that have an address, each has a least one, and a module of a smaller number has one that comes before
pub record IsModuleGraph (entries : List (List ℕ)) (leads : List ℕ → List (List ℕ)) (graph : Graph) : Type 0 where
  pub modules : (path : List ℕ) → Contains (labels_of graph) path ↔ ((address : List ℕ) × (path_at entries leads address ≡ Some path))
  pub addressed : All (λ path. (address : List ℕ) × IsLeastOf entries leads path address) (labels_of graph)
  pub ascending : (m n : ℕ) (p q before after : List ℕ) → m < n → slice_get (labels_of graph) m ≡ Some p → slice_get (labels_of graph) n ≡ Some q
      → IsLeastOf entries leads p before → IsLeastOf entries leads q after → ComesBefore before after
