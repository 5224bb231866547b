-- The modules of a tree, or its first fault, with the paths that are asked for.
use Rattle.std.specs.Prelude.{◌≡◌, ℕ, List, [], ◌∷◌, ◌++◌, Option, None, Some, Result, Ok, Err, IsTrue, codes}
use Rattle.pk_base.specs.FileTree.{FileTree}
use Rattle.pk_base.specs.declared.outside.Read.TheVariants.{Absent}
use Rattle.emit_body.specs.declared.body.Body.{Body}
use Rattle.module_graph.specs.Known.{with_paths}
use Rattle.pk_types.specs.declared.graph.Graph.{Graph}
use Rattle.watch_core.specs.Trees.{seen, is_there, first_there, looked_at}
use Rattle.watch_core.specs.Walks.{AreModules, IsStopped}
use Rattle.watch_core.specs.declared.faults.BuildFault.{BuildFault}
use Rattle.watch_core.specs.declared.faults.BuildFault.TheVariants.{EntryUnresolved, NotBuilt}
use Rattle.watch_core.specs.declared.walk.FoundModules.{FoundModules}

unfoldable pub pack_json : List ℕ
pack_json = codes "pack.json"

unfoldable pub index_js : List ℕ
index_js = codes "src/index.js"

-- the other candidates for the entry's request, in the order of resolution
unfoldable pub other_candidates : List (List ℕ)
other_candidates = codes "src/index.js.js" ∷ codes "src/index.js.json" ∷ codes "src/index.js/package.json" ∷ codes "src/index.js/index.js" ∷ codes "src/index.js/index.json" ∷ []

-- the tree has no settings, which are not built yet, and its entry is there
pub record HasEntry (t : FileTree) : Type 0 where
  pub settings : seen t pack_json ≡ Absent
  pub entry : IsTrue (is_there (seen t index_js))

-- each path is asked for once, where it is first looked at
abbrev pub asks_of : List (List ℕ) → List (List ℕ)
asks_of looked = with_paths [] looked

-- These are the modules of the tree, found with these asks.
pub record HasModules (t : FileTree) (graph : Graph) (bodies : List Body) (asks : List (List ℕ)) : Type 0 where
  pub entry : HasEntry t
  pub looked : List (List ℕ)
  pub modules : AreModules t index_js graph bodies looked
  pub asked : asks ≡ asks_of (pack_json ∷ index_js ∷ looked)

-- the entry is another candidate, which is not built yet, or there is none
abbrev pub candidate_fault : Option (List ℕ) → BuildFault
candidate_fault None = EntryUnresolved (codes "main") (codes "./src/index.js") (codes "no file")
candidate_fault (Some path) = NotBuilt path

-- The first fault of a tree: that of its settings, that of its entry, or that of the first module with one.
pub data HasFirstFault (t : FileTree) : BuildFault → List (List ℕ) → Type 0 where
  settings : IsTrue (is_there (seen t pack_json)) → HasFirstFault t (NotBuilt pack_json) (pack_json ∷ [])
  entry : seen t pack_json ≡ Absent → seen t index_js ≡ Absent → HasFirstFault t (candidate_fault (first_there t other_candidates)) (pack_json ∷ index_js ∷ looked_at t other_candidates)
  of_module : (fault : BuildFault) (looked : List (List ℕ)) → HasEntry t → IsStopped t index_js fault looked → HasFirstFault t fault (pack_json ∷ index_js ∷ looked)

-- This is the first fault of the tree, found with these asks.
pub record IsFirstFault (t : FileTree) (fault : BuildFault) (asks : List (List ℕ)) : Type 0 where
  pub looked : List (List ℕ)
  pub is : HasFirstFault t fault looked
  pub asked : asks ≡ asks_of looked

-- what is answered of a tree, with these asks
abbrev pub Finds : FileTree → List (List ℕ) → Result FoundModules BuildFault → Type 0
Finds t asks (Ok found) = HasModules t found.graph found.bodies asks
Finds t asks (Err fault) = IsFirstFault t fault asks

-- the same, with the asks behind those before
pub record FindsBehind (t : FileTree) (old new : List (List ℕ)) (answer : Result FoundModules BuildFault) : Type 0 where
  pub asks : List (List ℕ)
  pub is : Finds t asks answer
  pub asked : new ≡ old ++ asks
