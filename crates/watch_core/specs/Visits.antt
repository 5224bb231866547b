-- What a look at one module answers, and what it adds to what was seen.
use Rattle.std.specs.Prelude.{◌≡◌, ℕ, ◌+◌, ◌≤◌, List, Result, Ok, Err, length}
use Rattle.pk_types.specs.declared.limits.TheConstants.{MAX_FILE_LEN, MAX_SOURCE_BYTES}
use Rattle.pk_base.specs.FileTree.{FileTree}
use Rattle.bare_modules.specs.Meaning.{IsModuleText}
use Rattle.bare_modules.specs.declared.read.ModuleText.{ModuleText}
use Rattle.module_graph.specs.Known.{with_paths}
use Rattle.watch_core.specs.Modules.{IsModule, HasFault, module_asks}
use Rattle.watch_core.specs.declared.faults.BuildFault.{BuildFault}
use Rattle.watch_core.specs.declared.module.Visited.{Visited}

-- the module is the tree's; the paths that were seen are the old ones and those that a module is looked at for
pub record IsVisited (t : FileTree) (before : ℕ) (path : List ℕ) (old new : List (List ℕ)) (visited : Visited) : Type 0 where
  pub bytes : List ℕ
  pub size : visited.size ≡ length bytes
  pub few : before + length bytes ≤ MAX_SOURCE_BYTES
  pub is : IsModule t path bytes visited.said visited.targets.items
  pub looked : new ≡ with_paths old (module_asks t path visited.said.requests)

-- the fault is the module's first one, whatever paths are known
pub record RefusesModule (t : FileTree) (before : ℕ) (path : List ℕ) (old new : List (List ℕ)) (fault : BuildFault) : Type 0 where
  pub asked : List (List ℕ)
  pub is : (known : List (List ℕ)) → HasFault t before known path fault asked
  pub looked : new ≡ with_paths old asked

abbrev pub Visits : FileTree → ℕ → List ℕ → List (List ℕ) → List (List ℕ) → Result Visited BuildFault → Type 0
Visits t before path old new (Ok visited) = IsVisited t before path old new visited
Visits t before path old new (Err fault) = RefusesModule t before path old new fault

-- this is what the text of some file says
pub record IsModuleTextOf (said : ModuleText) : Type 0 where
  pub bytes : List ℕ
  pub few : length bytes ≤ MAX_FILE_LEN
  pub text : IsModuleText bytes said

abbrev pub IsText : Visited → Type 0
IsText visited = IsModuleTextOf visited.said
