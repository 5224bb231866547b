-- What the modules of a graph lead to, gathered once for each. Only private clauses cite this.
use Rattle.std.specs.Prelude.{◌≡◌, ◌↔◌, ◌⊎◌, ℕ, List, [], length, slice_index_or}
use Rattle.std.specs.List.{Contains}
use Rattle.pk_types.specs.declared.graph.Graph.{Graph}
use Rattle.pk_types.specs.Requests.{CallsRequire, CallsImport}

-- what is loaded with the module: the targets of its edges and of its `require`
abbrev pub LoadsWith : Graph → List (List ℕ) → ℕ → List ℕ → Type 0
LoadsWith graph edges number targets = (target : ℕ) → Contains targets target ↔ (Contains (slice_index_or edges number []) target ⊎ CallsRequire graph number target)

-- the targets of its `import()`
abbrev pub ImportsBy : Graph → ℕ → List ℕ → Type 0
ImportsBy graph number targets = (target : ℕ) → Contains targets target ↔ CallsImport graph number target

pub record AreLoads (graph : Graph) (edges loads : List (List ℕ)) : Type 0 where
  pub each : length loads ≡ length graph.rows
  pub lists : (number : ℕ) → LoadsWith graph edges number (slice_index_or loads number [])

pub record AreImports (graph : Graph) (imports : List (List ℕ)) : Type 0 where
  pub each : length imports ≡ length graph.rows
  pub lists : (number : ℕ) → ImportsBy graph number (slice_index_or imports number [])
