-- What a look means, and what one of its calls does.
use Rattle.std.specs.Prelude.{◌≡◌, ℕ, Bool, ◌||◌, List, [], ◌∷◌, ◌++◌, Result, Ok, Err, ◌⊎◌, if◌then◌else◌}
use Rattle.std.specs.List.{list_any}
use Rattle.std.specs.Str.{bytes_eq}
use Rattle.pk_base.specs.Causes.{Counts, is_failed}
use Rattle.pk_base.specs.Meanings.{FilesMeaning}
use Rattle.pk_base.specs.Outside.{Asked}
use Rattle.pk_base.specs.declared.outside.ReadFail.{ReadFail}
use Rattle.pk_base.specs.declared.outside.ReadFail.TheVariants.{Failed, NoMemory}
use Rattle.node_resolve.specs.Present.{is_output}

-- a look: the paths that it was asked for, and those that it keeps
pub record LookMeaning : Type 0 where
  pub asks : List (List ℕ)
  pub kept : List (List ℕ)

-- the path, where the files have to be asked for it: it is neither kept nor beneath `dist`
abbrev pub wanted : List (List ℕ) → List ℕ → List (List ℕ)
wanted kept path = if list_any (bytes_eq path) kept || is_output path then [] else path ∷ []

-- of some paths those that the files have to be asked for, in order and each once
abbrev pub all_wanted : List (List ℕ) → List (List ℕ) → List (List ℕ)
all_wanted kept [] = []
all_wanted kept (path ∷ paths) = wanted kept path ++ all_wanted (kept ++ wanted kept path) paths

-- the files and the look at one moment
pub record Moment : Type 0 where
  pub files : FilesMeaning
  pub look : LookMeaning

abbrev pub moment : FilesMeaning → LookMeaning → Moment
moment files look = record { files = files; look = look }

-- What was asked of the files and is kept where they were looked at with an answer: what was wanted is both.
pub record AskedAll (before after : Moment) (paths : List (List ℕ)) : Type 0 where
  pub files : after.files.asks ≡ before.files.asks ++ all_wanted before.look.kept paths
  pub kept : after.look.kept ≡ before.look.kept ++ all_wanted before.look.kept paths

-- The same where the last look failed: what was wanted is asked for and kept, and of the last path, which is wanted too, only
-- that it was asked for is known after a fault. For want of memory that may be left out, and it may be kept.
pub data AskedPart (before after : Moment) (paths : List (List ℕ)) : ReadFail → Type 0 where
  failed : (last : List ℕ) → wanted (before.look.kept ++ all_wanted before.look.kept paths) last ≡ last ∷ []
      → after.files.asks ≡ (before.files.asks ++ all_wanted before.look.kept paths) ++ last ∷ []
      → after.look.kept ≡ before.look.kept ++ all_wanted before.look.kept paths → AskedPart before after paths Failed
  lost : (last : List ℕ) → wanted (before.look.kept ++ all_wanted before.look.kept paths) last ≡ last ∷ []
      → after.files.asks ≡ (before.files.asks ++ all_wanted before.look.kept paths) ++ last ∷ []
      → after.look.kept ≡ before.look.kept ++ all_wanted before.look.kept paths → AskedPart before after paths NoMemory
  whole : after.files.asks ≡ before.files.asks ++ all_wanted before.look.kept paths
      → after.look.kept ≡ before.look.kept ++ all_wanted before.look.kept paths → AskedPart before after paths NoMemory

-- the files are the same but for their asks and their faults
pub record Stays (failed : Bool) (before after : FilesMeaning) : Type 0 where
  pub told : after.told ≡ before.told
  pub tree : after.tree ≡ before.tree
  pub coming : after.coming ≡ before.coming
  pub faults : Counts failed before.faults after.faults

-- by its answer, what a look at a path asked for
abbrev pub AskedBy : {T : Type 0} → Result T ReadFail → Moment → Moment → List ℕ → Type 0
AskedBy (Ok x) before after path = AskedAll before after (path ∷ [])
AskedBy (Err Failed) before after path = (wanted before.look.kept path ≡ path ∷ []) × (after.files.asks ≡ before.files.asks ++ path ∷ []) × (after.look.kept ≡ before.look.kept)
AskedBy (Err NoMemory) before after path = AskedAll before after (path ∷ []) ⊎ AskedPart before after [] NoMemory

-- one look at a path
pub record LooksAt {T : Type 0} (path : List ℕ) (answer : Result T ReadFail) (before after : Moment) : Type 0 where
  pub files : Stays (is_failed answer) before.files after.files
  pub by : AskedBy answer before after path
  pub asked : Asked before.look.asks after.look.asks path answer
