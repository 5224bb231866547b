-- What a round has seen of its tree, and what it has asked for.
use Rattle.std.specs.Prelude.{◌≡◌, ◌≤◌, ℕ, true, false, length, List, Some, Result, Ok, Err, IsTrue, slice_get}
use Rattle.std.specs.List.{All}
use Rattle.std.specs.Map.{keys_of}
use Rattle.pk_types.specs.declared.limits.TheConstants.{MAX_FILE_LEN}
use Rattle.pk_base.specs.FileTree.{FileTree}
use Rattle.pk_base.specs.Keeping.{KeepsFiles, KeepsSeen}
use Rattle.pk_base.specs.Meanings.{FilesMeaning}
use Rattle.pk_base.specs.declared.outside.Read.{Read}
use Rattle.pk_base.specs.declared.outside.ReadFail.{ReadFail}
use Rattle.pk_base.specs.declared.outside.ReadFail.TheVariants.{Failed, NoMemory}
use Rattle.watch_core.specs.Trees.{seen, bytes_of}

-- paths with what was seen there, in the order in which they were asked for
abbrev pub Entries : Type 0
Entries = List (List ℕ × Read)

-- no file has more than 4 MiB
abbrev pub AreShort : Entries → Type 0
AreShort entries = All (λ entry. length (bytes_of entry.1) ≤ MAX_FILE_LEN) entries

-- all of it is as a tree has it
abbrev pub AreOf : FileTree → Entries → Type 0
AreOf t entries = All (λ entry. entry.1 ≡ seen t entry.0) entries

-- the files tell this tree, and all that was seen is as it has it
pub record Sees (files : FilesMeaning) (entries : Entries) (t : FileTree) : Type 0 where
  pub told : IsTrue files.told
  pub tree : files.tree ≡ t
  pub all : AreOf t entries

-- this path with what was seen there stands at a number
pub record StandsAt (entries : Entries) (number : ℕ) (path : List ℕ) : Type 0 where
  pub read : Read
  pub is : slice_get entries number ≡ Some (path, read)

-- What a call keeps of the files and of what was seen, where it ended with an answer: what a tree says is seen of it still.
pub record KeepsSights (before after : FilesMeaning) (sights sights_after : Entries) : Type 0 where
  pub files : KeepsSeen before after (keys_of sights) (keys_of sights_after)
  pub sees : (t : FileTree) → Sees before sights t → Sees after sights_after t

-- the same by its answer: a failure keeps the files
abbrev pub Looks : {T : Type 0} → Result T ReadFail → FilesMeaning → FilesMeaning → Entries → Entries → Type 0
Looks (Ok x) before after sights sights_after = KeepsSights before after sights sights_after
Looks (Err Failed) before after sights sights_after = KeepsFiles true (keys_of sights) before after
Looks (Err NoMemory) before after sights sights_after = KeepsFiles false (keys_of sights) before after
