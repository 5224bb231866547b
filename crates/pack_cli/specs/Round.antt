-- What a round answers, asks and leaves.
use Rattle.std.specs.Prelude.{◌≡◌, ℕ, List, ◌∷◌, ◌++◌, Result, Ok, Err, IsTrue}
use Rattle.pk_base.specs.Meanings.{FilesMeaning, StoreMeaning}
use Rattle.pk_base.specs.Outside.{Tried, ChangesOnly}
use Rattle.pk_base.specs.declared.outside.Call.TheVariants.{Put}
use Rattle.plan_core.specs.declared.files.OutFile.{OutFile}
use Rattle.watch_core.specs.Builds.{FindsBehind}
use Rattle.watch_core.specs.declared.walk.FoundModules.{FoundModules}
use Rattle.pack_cli.specs.declared.faults.RoundFault.{RoundFault}
use Rattle.pack_cli.specs.declared.faults.RoundFault.TheVariants.{Refused, ReadFault, WriteFault, NoMemory}
use Rattle.pack_cli.specs.Output.{Bundle, Files, IsBundle, put_calls, put_all, built_lines}

-- the store as before
pub record IsUntouched (old new : StoreMeaning) : Type 0 where
  pub calls : new.calls ≡ old.calls
  pub files : IsTrue old.told → new.files ≡ old.files

-- the store after these files were put
pub record HoldsOutput (files : Files) (old new : StoreMeaning) : Type 0 where
  pub calls : new.calls ≡ old.calls ++ put_calls files
  pub files_are : IsTrue old.told → new.files ≡ put_all files old.files

-- the store after a put failed, and those before it didn't
pub record HasLostPut (files : Files) (old new : StoreMeaning) : Type 0 where
  pub done : Files
  pub file : OutFile
  pub rest : Files
  pub split : files ≡ done ++ file ∷ rest
  pub calls : Tried (old.calls ++ put_calls done) new.calls (Put file.name)
  pub files_are : IsTrue old.told → ChangesOnly (put_all done old.files) new.files file.name

-- a round that was built: a bundle of some modules, which are those of the tree where it is told
pub record IsBuilt (lines : List ℕ) (files files_after : FilesMeaning) (store store_after : StoreMeaning) : Type 0 where
  pub found : FoundModules
  pub bundle : Bundle
  pub made : IsBundle found bundle
  pub of_tree : IsTrue files.told → FindsBehind files.tree files.asks files_after.asks (Ok found)
  pub lines_are : lines ≡ built_lines bundle
  pub store_holds : HoldsOutput bundle.files store store_after

-- a round of which a put failed, the same otherwise
pub record IsUnwritten (files files_after : FilesMeaning) (store store_after : StoreMeaning) : Type 0 where
  pub found : FoundModules
  pub bundle : Bundle
  pub made : IsBundle found bundle
  pub of_tree : IsTrue files.told → FindsBehind files.tree files.asks files_after.asks (Ok found)
  pub store_lost : HasLostPut bundle.files store store_after

-- what a round answers and leaves, by its answer
abbrev pub Rounds : Result (List ℕ) RoundFault → FilesMeaning → FilesMeaning → StoreMeaning → StoreMeaning → Type 0
Rounds (Ok lines) files files_after store store_after = IsBuilt lines files files_after store store_after
Rounds (Err (Refused fault)) files files_after store store_after =
    (IsTrue files.told → FindsBehind files.tree files.asks files_after.asks (Err fault)) × IsUntouched store store_after
Rounds (Err ReadFault) files files_after store store_after = IsUntouched store store_after
Rounds (Err WriteFault) files files_after store store_after = IsUnwritten files files_after store store_after
Rounds (Err NoMemory) files files_after store store_after = IsUntouched store store_after
