-- The headline: what `build` does to a tree.
use Rattle.std.specs.Prelude.{◌≡◌, ◌≢◌, ℕ, List, [], ◌++◌, IsTrue}
use Rattle.pk_base.specs.Causes.{Rose}
use Rattle.pk_base.specs.FileTree.{FileTree}
use Rattle.pk_base.specs.Meanings.{FilesMeaning, StoreMeaning, SourceMeaning, SinkMeaning}
use Rattle.watch_core.specs.Builds.{IsFirstFault}
use Rattle.watch_core.specs.declared.faults.BuildFault.{BuildFault}
use Rattle.pack_cli.specs.Answers.{fault_line}
use Rattle.pack_cli.specs.Output.{Bundle, Files, HasBundle, put_calls, put_all, built_lines}
use Rattle.pack_cli.specs.declared.faults.RoundFault.TheVariants as round
use Rattle.pack_cli.specs.declared.status.Status.{Status}
use Rattle.pack_cli.specs.declared.status.Status.TheVariants.{Done, Refused, NoMemory}

-- what the objects that a run is handed mean at one moment
pub record Moment : Type 0 where
  pub files : FilesMeaning
  pub store : StoreMeaning
  pub source : SourceMeaning
  pub sink : SinkMeaning
  pub steps : ℕ

-- what a command does to a tree
pub record Outcome : Type 0 where
  pub status : Status
  pub printed : List ℕ
  pub output : Files
  pub asks : List (List ℕ)

-- the outcome of `build`: the tree is refused with its first fault, or its bundle is left
pub data Builds (t : FileTree) : Outcome → Type 0 where
  refuses : (fault : BuildFault) (asks : List (List ℕ)) → IsFirstFault t fault asks
      → Builds t (record { status = Refused; printed = fault_line (round.Refused fault); output = []; asks = asks })
  leaves : (bundle : Bundle) (asks : List (List ℕ)) → HasBundle t bundle asks
      → Builds t (record { status = Done; printed = built_lines bundle; output = bundle.files; asks = asks })

-- the outcome is what was answered, and what the objects mean afterwards
pub record Does (outcome : Outcome) (status : Status) (old new : Moment) : Type 0 where
  pub answer : status ≡ outcome.status
  pub printed : IsTrue old.sink.told → new.sink.held ≡ old.sink.held ++ outcome.printed
  pub called : new.store.calls ≡ old.store.calls ++ put_calls outcome.output
  pub holds : IsTrue old.store.told → new.store.files ≡ put_all outcome.output old.store.files
  pub asked : new.files.asks ≡ old.files.asks ++ outcome.asks

-- an outcome of the tree is what came
pub record DoesBuild (t : FileTree) (status : Status) (old new : Moment) : Type 0 where
  pub outcome : Outcome
  pub of_tree : Builds t outcome
  pub does : Does outcome status old new

-- no count of faults rose
pub record IsCalm (old new : Moment) : Type 0 where
  pub reads : Rose old.files.faults new.files.faults → ⊥
  pub writes : Rose old.store.faults new.store.faults → ⊥
  pub takes : Rose old.source.faults new.source.faults → ⊥
  pub puts : Rose old.sink.faults new.sink.faults → ⊥

-- Where the tree is told, no count of faults rose and memory sufficed, `build` did what the tree calls for.
abbrev pub Headline : Status → Moment → Moment → Type 0
Headline status old new = IsTrue old.files.told → IsCalm old new → status ≢ NoMemory → DoesBuild old.files.tree status old new
