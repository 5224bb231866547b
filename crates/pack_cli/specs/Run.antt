-- What the program's one call promises.
use Rattle.std.specs.Prelude.{◌≡◌, ℕ, List, [], ◌∷◌, ◌++◌, Option, None, Some, Result, Ok, Err, codes, IsTrue, if◌then◌else◌}
use Rattle.std.specs.Str.{bytes_eq}
use Rattle.pk_base.specs.Causes.{Rose, Counts}
use Rattle.pk_base.specs.Meanings.{SinkMeaning}
use Rattle.pk_base.specs.Outside.{AddsPrefix}
use Rattle.pack_cli.specs.Answers.{fault_line, is_read_fault, is_write_fault, lines_of}
use Rattle.pack_cli.specs.Headline.{Headline, Moment}
use Rattle.pk_base.specs.Keeping.{AsksOnce, KeepsFiles}
use Rattle.watch_core.specs.Builds.{FindsBehind}
use Rattle.watch_core.specs.declared.faults.BuildFault.{BuildFault}
use Rattle.watch_core.specs.declared.walk.FoundModules.{FoundModules}
use Rattle.pack_cli.specs.Output.{Bundle, IsBundle, built_lines}
use Rattle.pack_cli.specs.Round.{IsUntouched, HoldsOutput, IsUnwritten, Rounds}
use Rattle.pack_cli.specs.declared.faults.RoundFault.{RoundFault}
use Rattle.pack_cli.specs.declared.faults.RoundFault.TheVariants as round
use Rattle.pack_cli.specs.declared.top.Command.{Command}
use Rattle.pack_cli.specs.declared.top.Command.TheVariants.{Build}
use Rattle.pack_cli.specs.declared.status.Status.{Status}
use Rattle.pack_cli.specs.declared.status.Status.TheVariants.{Done, Refused, Usage, ReadFault, WriteFault, SinkFault, NoMemory}

-- lines are put to a sink: they stand there and this status is answered, or a first part of them does and it is
-- SinkFault
pub data PutsLines (lines : List ℕ) (wanted : Status) : Status → SinkMeaning → SinkMeaning → Type 0 where
  whole : (old new : SinkMeaning) → new.told ≡ old.told → new.faults ≡ old.faults
      → (IsTrue old.told → new.held ≡ old.held ++ lines) → PutsLines lines wanted wanted old new
  part : (old new : SinkMeaning) → new.told ≡ old.told → Rose old.faults new.faults
      → (IsTrue old.told → AddsPrefix old.held new.held lines) → PutsLines lines wanted SinkFault old new

-- each count of faults stayed
pub record IsQuiet (old new : Moment) : Type 0 where
  pub reads : new.files.faults ≡ old.files.faults
  pub writes : new.store.faults ≡ old.store.faults
  pub takes : new.source.faults ≡ old.source.faults
  pub puts : new.sink.faults ≡ old.sink.faults

-- each object tells what it told
pub record TellSame (old new : Moment) : Type 0 where
  pub files : new.files.told ≡ old.files.told
  pub store : new.store.told ≡ old.store.told
  pub source : new.source.told ≡ old.source.told
  pub sink : new.sink.told ≡ old.sink.told

-- the sink's new bytes are these
abbrev pub Prints : List ℕ → Moment → Moment → Type 0
Prints lines old new = IsTrue old.sink.told → new.sink.held ≡ old.sink.held ++ lines

-- Done comes only with a bundle, which is in the store and whose lines are printed. Where the tree is told, it is the
-- bundle of its modules.
pub record IsDone (old new : Moment) : Type 0 where
  pub quiet : IsQuiet old new
  pub found : FoundModules
  pub bundle : Bundle
  pub made : IsBundle found bundle
  pub of_tree : IsTrue old.files.told → FindsBehind old.files.tree old.files.asks new.files.asks (Ok found)
  pub store : HoldsOutput bundle.files old.store new.store
  pub printed : Prints (built_lines bundle) old new

-- Refused comes only with a fault, whose line is printed. Where the tree is told, it is its first fault.
pub record LeavesRefused (old new : Moment) : Type 0 where
  pub quiet : IsQuiet old new
  pub fault : BuildFault
  pub of_tree : IsTrue old.files.told → FindsBehind old.files.tree old.files.asks new.files.asks (Err fault)
  pub store : IsUntouched old.store new.store
  pub printed : Prints (fault_line (round.Refused fault)) old new

-- ReadFault comes only where the count of the files' faults rose.
pub record HasReadFault (old new : Moment) : Type 0 where
  pub rose : Rose old.files.faults new.files.faults
  pub writes : new.store.faults ≡ old.store.faults
  pub puts : new.sink.faults ≡ old.sink.faults
  pub store : IsUntouched old.store new.store
  pub printed : Prints (codes "fault read\n") old new

-- WriteFault comes only where the count of the store's faults rose. Only the files of a bundle that were put, and the one
-- that could not be, may differ. Where the tree is told, it is the bundle of its modules.
pub record HasWriteFault (old new : Moment) : Type 0 where
  pub rose : Rose old.store.faults new.store.faults
  pub reads : new.files.faults ≡ old.files.faults
  pub puts : new.sink.faults ≡ old.sink.faults
  pub round : IsUnwritten old.files new.files old.store new.store
  pub printed : Prints (codes "fault write\n") old new

-- SinkFault comes only where the count of the sink's faults rose. A first part of the lines of the round that was made is printed.
pub record HasSinkFault (old new : Moment) : Type 0 where
  pub rose : Rose old.sink.faults new.sink.faults
  pub answer : Result (List ℕ) RoundFault
  pub files : KeepsFiles (is_read_fault answer) [] old.files new.files
  pub round : Rounds answer old.files new.files old.store new.store
  pub writes : Counts (is_write_fault answer) old.store.faults new.store.faults
  pub part : IsTrue old.sink.told → AddsPrefix old.sink.held new.sink.held (lines_of answer)

-- NoMemory leaves the store and the sink as they were.
pub record HasNoMemory (old new : Moment) : Type 0 where
  pub quiet : IsQuiet old new
  pub store : IsUntouched old.store new.store
  pub printed : Prints [] old new

-- why each status comes, what is printed, and what stands afterwards
abbrev pub HasCause : Status → Moment → Moment → Type 0
HasCause Done old new = IsDone old new
HasCause Refused old new = LeavesRefused old new
HasCause Usage old new = ⊥
HasCause ReadFault old new = HasReadFault old new
HasCause WriteFault old new = HasWriteFault old new
HasCause SinkFault old new = HasSinkFault old new
HasCause NoMemory old new = HasNoMemory old new

-- What `build` promises.
pub record BuildMeets (status : Status) (old new : Moment) : Type 0 where
  -- the headline: the tree's bundle is left, or its first fault is told
  pub outcome : Headline status old new
  -- whether or not anything is told: the cause of the status, and that no path is asked twice
  pub cause : HasCause status old new
  pub asks : AsksOnce old.files.asks new.files.asks
  -- what stays in any case
  pub told : TellSame old new
  pub tree : new.files.tree ≡ old.files.tree
  pub coming : new.files.coming ≡ old.files.coming
  pub source : new.source ≡ old.source
  pub steps : new.steps ≡ old.steps

abbrev pub usage_line : List ℕ
usage_line = codes "usage: pack build or watch or replay ENTRY or trace ENTRY or gen N\n"

-- What a run promises whose words are no command: it calls nothing but the sink.
pub record UsageMeets (status : Status) (old new : Moment) : Type 0 where
  pub printed : PutsLines usage_line Usage status old.sink new.sink
  pub files : new.files ≡ old.files
  pub store : new.store ≡ old.store
  pub source : new.source ≡ old.source
  pub steps : new.steps ≡ old.steps

-- the command that the words are, if any; the others are not built yet
abbrev pub command_of : List (List ℕ) → Option Command
command_of [] = None
command_of (word ∷ []) = if bytes_eq word (codes "build") then Some Build else None
command_of (word ∷ next ∷ words) = None

-- What a run promises, by its command. A later command adds a case.
abbrev pub RunMeets : Option Command → Status → Moment → Moment → Type 0
RunMeets None status old new = UsageMeets status old new
RunMeets (Some Build) status old new = BuildMeets status old new
