-- What following the modules of a tree answers, and what it adds to what was seen.
use Rattle.std.specs.Prelude.{◌≡◌, ℕ, ◌≤◌, List, ◌∷◌, ◌++◌, Result, Ok, Err, Some, length, slice_get}
use Rattle.pk_types.specs.declared.limits.TheConstants.{MAX_MODULES}
use Rattle.pk_base.specs.FileTree.{FileTree}
use Rattle.emit_body.specs.declared.body.Body.{Body}
use Rattle.emit_chunk.specs.Bare.{IsBare}
use Rattle.emit_chunk.specs.Ranges.{HaveBodies}
use Rattle.module_graph.specs.Building.{Building}
use Rattle.module_graph.specs.Known.{with_paths}
use Rattle.module_graph.specs.ModuleGraph.{labels_of}
use Rattle.module_graph.specs.ModuleOrder.{IsModuleOrder}
use Rattle.pk_types.specs.Fitting.{Fits}
use Rattle.pk_types.specs.declared.graph.Graph.{Graph}
use Rattle.watch_core.specs.Modules.{HasFault}
use Rattle.watch_core.specs.Followed.{AreFollowed, source_bytes, rows_asks}
use Rattle.watch_core.specs.declared.faults.BuildFault.{BuildFault}
use Rattle.watch_core.specs.declared.walk.FoundModules.{FoundModules}

-- a graph as a builder knows it once each module was added
abbrev pub building_of : Graph → Building
building_of graph = record { known = labels_of graph; rows = graph.rows; entries = graph.entries }

-- the first module with a fault, before which each was followed; and the paths that are looked at up to it
pub record IsStopped (t : FileTree) (entry : List ℕ) (fault : BuildFault) (looked : List (List ℕ)) : Type 0 where
  pub building : Building
  pub bodies : List Body
  pub path : List ℕ
  pub asked : List (List ℕ)
  pub followed : AreFollowed t entry building bodies
  pub wanted : slice_get building.known (length building.rows) ≡ Some path
  pub fault_is : HasFault t (source_bytes building.rows) building.known path fault asked
  pub looked_is : looked ≡ rows_asks t building.rows ++ path ∷ asked

-- each module was followed
pub record AreModules (t : FileTree) (entry : List ℕ) (graph : Graph) (bodies : List Body) (looked : List (List ℕ)) : Type 0 where
  pub followed : AreFollowed t entry (building_of graph) bodies
  pub looked_is : looked ≡ rows_asks t graph.rows

-- the answer, and the seen paths, which are the old ones and those that are looked at
abbrev pub Walks : FileTree → List ℕ → List (List ℕ) → List (List ℕ) → Result FoundModules BuildFault → Type 0
Walks t entry old new (Ok found) = (looked : List (List ℕ)) × AreModules t entry found.graph found.bodies looked × (new ≡ with_paths old looked)
Walks t entry old new (Err fault) = (looked : List (List ℕ)) × IsStopped t entry fault looked × (new ≡ with_paths old looked)

-- the modules can be planned and written, whatever the files are
pub record IsWritable (found : FoundModules) : Type 0 where
  pub fits : Fits found.graph
  pub order : IsModuleOrder found.graph
  pub entry : length found.graph.entries ≡ 1
  pub few : length found.graph.rows ≤ MAX_MODULES
  pub bare : IsBare found.graph
  pub bodies : HaveBodies found.graph found.bodies
