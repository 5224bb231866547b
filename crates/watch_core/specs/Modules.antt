-- A module of a tree, and the first fault of one.
use Rattle.std.specs.Prelude.{◌≡◌, ℕ, ◌+◌, ◌<◌, ◌≤◌, ◌++◌, List, [], false, None, Some, length, map}
use Rattle.std.specs.List.{range_with_len}
use Rattle.pk_types.specs.declared.limits.TheConstants.{MAX_FILE_LEN, MAX_MODULES, MAX_SOURCE_BYTES}
use Rattle.pk_base.specs.FileTree.{FileTree}
use Rattle.pk_base.specs.Paths.{folder_of}
use Rattle.pk_base.specs.declared.outside.Read.{Read}
use Rattle.pk_base.specs.declared.outside.Read.TheVariants.{Absent, Bytes, Longer}
use Rattle.pk_types.specs.declared.facts.Facts.{Facts}
use Rattle.pk_types.specs.declared.facts.Request.{Request}
use Rattle.pk_types.specs.declared.form.Form.TheVariants.{Import}
use Rattle.bare_modules.specs.declared.read.ModuleText.{ModuleText}
use Rattle.bare_modules.specs.Meaning.{IsModuleText}
use Rattle.module_graph.specs.Known.{with_paths}
use Rattle.watch_core.specs.Trees.{seen, first_there, looked_at}
use Rattle.watch_core.specs.Manifests.{manifest_paths}
use Rattle.watch_core.specs.Targets.{files_from, looked_at_from}
use Rattle.watch_core.specs.declared.faults.BuildFault.{BuildFault}
use Rattle.watch_core.specs.declared.faults.BuildFault.TheVariants.{TooLarge, NotBuilt, TooMany}
use Rattle.watch_core.specs.declared.faults.What.TheVariants.{Modules, SourceBytes}

-- a file stands at the path, and no manifest above it
pub record IsSource (t : FileTree) (path bytes : List ℕ) : Type 0 where
  pub read : seen t path ≡ Bytes bytes
  pub scope : first_there t (manifest_paths path) ≡ None

-- it holds the text of a module
pub record IsRead (t : FileTree) (path bytes : List ℕ) (said : ModuleText) : Type 0 where
  pub source : IsSource t path bytes
  pub text : IsModuleText bytes said

-- and each of its requests leads to a file
pub record IsModule (t : FileTree) (path bytes : List ℕ) (said : ModuleText) (targets : List (List ℕ)) : Type 0 where
  pub read : IsRead t path bytes said
  pub leads : files_from t (folder_of path) said.requests ≡ Some targets

-- the paths that are looked at for a module's requests, behind its own
abbrev pub module_asks : FileTree → List ℕ → List (List ℕ) → List (List ℕ)
module_asks t path requests = looked_at t (manifest_paths path) ++ looked_at_from t (folder_of path) requests

-- how many source bytes a file counts as: one that is too large, as the most that a file may have
abbrev pub size_of : Read → ℕ
size_of Absent = 0
size_of (Bytes bytes) = length bytes
size_of Longer = MAX_FILE_LEN

-- The first fault of the module at a path, and the paths that are looked at up to it. The modules before it have so many
-- source bytes, and these paths are known by them.
pub data HasFault (t : FileTree) (before : ℕ) (known : List (List ℕ)) (path : List ℕ) : BuildFault → List (List ℕ) → Type 0 where
  source_bytes : MAX_SOURCE_BYTES < before + size_of (seen t path) → HasFault t before known path (TooMany SourceBytes) []
  too_large : before + MAX_FILE_LEN ≤ MAX_SOURCE_BYTES → seen t path ≡ Longer → HasFault t before known path (TooLarge path) []
  manifest : (bytes found : List ℕ) → before + length bytes ≤ MAX_SOURCE_BYTES → seen t path ≡ Bytes bytes → first_there t (manifest_paths path) ≡ Some found → HasFault t before known path (NotBuilt found) (looked_at t (manifest_paths path))
  text : (bytes : List ℕ) → before + length bytes ≤ MAX_SOURCE_BYTES → IsSource t path bytes → ((said : ModuleText) → IsModuleText bytes said → ⊥) → HasFault t before known path (NotBuilt path) (looked_at t (manifest_paths path))
  request : (bytes : List ℕ) (said : ModuleText) → before + length bytes ≤ MAX_SOURCE_BYTES → IsRead t path bytes said → files_from t (folder_of path) said.requests ≡ None → HasFault t before known path (NotBuilt path) (module_asks t path said.requests)
  modules : (bytes : List ℕ) (said : ModuleText) (targets : List (List ℕ)) → before + length bytes ≤ MAX_SOURCE_BYTES → IsModule t path bytes said targets → MAX_MODULES < length (with_paths known targets) → HasFault t before known path (TooMany Modules) (module_asks t path said.requests)

-- the requests of import declarations
abbrev pub imported : List (List ℕ) → List Request
imported texts = map (λ text. record { text = text; form = Import; json = false }) texts

-- the facts of a module that imports each of these and binds nothing
abbrev pub facts_of : ModuleText → Facts
facts_of said = record {
  kind = said.kind;
  requests = imported said.requests;
  order = range_with_len 0 (length said.requests);
  imports = [];
  exports = [];
  stars = [];
  bindings = [];
  sites = [];
  free = [];
  inner = [];
}
