-- The bundle of a tree, and the lines that a round prints of it.
use Rattle.std.specs.Prelude.{◌≡◌, ℕ, List, [], ◌∷◌, ◌++◌, length, Some, codes, slice_index_or}
use Rattle.std.specs.Fmt.{decimal}
use Rattle.pk_base.specs.FileTree.{FileTree}
use Rattle.pk_base.specs.Outside.{set_at}
use Rattle.pk_base.specs.declared.outside.Call.{Call}
use Rattle.pk_base.specs.declared.outside.Call.TheVariants.{Put}
use Rattle.pk_types.specs.declared.graph.Graph.{Graph}
use Rattle.pk_types.specs.declared.plan.Plan.{Plan}
use Rattle.emit_body.specs.declared.body.Body.{Body}
use Rattle.plan_core.specs.Outputs.{output_of}
use Rattle.plan_core.specs.Plans.{IsPlan}
use Rattle.plan_core.specs.declared.files.OutFile.{OutFile}
use Rattle.watch_core.specs.Builds.{HasModules}
use Rattle.watch_core.specs.Walks.{IsWritable}
use Rattle.watch_core.specs.declared.walk.FoundModules.{FoundModules}

-- files in the order in which they are put
abbrev pub Files : Type 0
Files = List OutFile

-- the files of a bundle, and how many modules and groups it has
pub record Bundle : Type 0 where
  pub files : Files
  pub modules : ℕ
  pub groups : ℕ

-- with one entry its chunk is the only one, and holds the bundle's modules
abbrev pub bundle_of : Graph → Plan → List Body → Bundle
bundle_of graph plan bodies = record {
  files = output_of graph plan bodies;
  modules = length (slice_index_or plan.chunks.modules 0 []);
  groups = length plan.groups.targets;
}

-- This is a bundle of modules that can be planned and written.
pub record IsBundle (found : FoundModules) (bundle : Bundle) : Type 0 where
  pub writable : IsWritable found
  pub plan : Plan
  pub planned : IsPlan found.graph plan
  pub is : bundle ≡ bundle_of found.graph plan found.bodies

-- This is the bundle of the tree, whose modules are found with these asks.
pub record HasBundle (t : FileTree) (bundle : Bundle) (asks : List (List ℕ)) : Type 0 where
  pub found : FoundModules
  pub modules : HasModules t found.graph found.bodies asks
  pub made : IsBundle found bundle

abbrev pub put_calls : Files → List Call
put_calls [] = []
put_calls (file ∷ files) = Put file.name ∷ put_calls files

abbrev pub put_all : Files → FileTree → FileTree
put_all [] held = held
put_all (file ∷ files) held = put_all files (set_at file.name (Some file.bytes) held)

abbrev pub file_line : OutFile → List ℕ
file_line file = codes "file " ++ decimal (length file.bytes) ++ codes " " ++ file.name ++ codes "\n"

abbrev pub file_lines : Files → List ℕ
file_lines [] = []
file_lines (file ∷ files) = file_line file ++ file_lines files

-- how many modules, groups and files were built
abbrev pub count_line : ℕ → ℕ → ℕ → List ℕ
count_line modules groups files = codes "built " ++ decimal modules ++ codes " modules " ++ decimal groups ++ codes " groups " ++ decimal files ++ codes " files\n"

-- the lines of a round that was built
unfoldable pub built_lines : Bundle → List ℕ
built_lines bundle = file_lines bundle.files ++ count_line bundle.modules bundle.groups (length bundle.files)
