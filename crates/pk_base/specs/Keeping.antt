-- What every call over files keeps. A call's frame is one record: `KeepsFiles` by the fault that it may have answered, and
-- `KeepsSeen` where it ended with an answer and noted the paths that it has seen.
use Rattle.std.specs.Prelude.{◌≡◌, ℕ, Bool, true, false, List, ◌++◌, Result, Ok, Err}
use Rattle.std.specs.List.{IsDistinct}
use Rattle.std.specs.Str.{bytes_eq}
use Rattle.pk_base.specs.Causes.{Counts, is_failed}
use Rattle.pk_base.specs.Meanings.{FilesMeaning}
use Rattle.pk_base.specs.Outside.{Asked}
use Rattle.pk_base.specs.declared.outside.ReadFail.{ReadFail}
use Rattle.pk_base.specs.declared.outside.ReadFail.TheVariants.{Failed, NoMemory}

-- some paths were asked for behind the asks before, none of them twice
pub record AsksOnce (old new : List (List ℕ)) : Type 0 where
  pub made : List (List ℕ)
  pub is : new ≡ old ++ made
  pub once : IsDistinct bytes_eq made

-- the same, and none that was seen before: where no path was seen twice, none is with those that were asked for
pub record AsksUnseen (seen old new : List (List ℕ)) : Type 0 where
  pub made : List (List ℕ)
  pub is : new ≡ old ++ made
  pub once : IsDistinct bytes_eq seen → IsDistinct bytes_eq (seen ++ made)

-- The files tell what they told, of the same tree and of the same trees to come. Their count of faults rose where a fault is
-- answered, and stayed else. Behind the asks before, paths were asked for that were not seen yet, each once.
pub record KeepsFiles (failed : Bool) (seen : List (List ℕ)) (before after : FilesMeaning) : Type 0 where
  pub told : after.told ≡ before.told
  pub tree : after.tree ≡ before.tree
  pub coming : after.coming ≡ before.coming
  pub faults : Counts failed before.faults after.faults
  pub asks : AsksUnseen seen before.asks after.asks

-- What one read keeps: it asks for its path, or ends for want of memory before.
pub record AsksFor {T : Type 0} (path : List ℕ) (answer : Result T ReadFail) (before after : FilesMeaning) : Type 0 where
  pub told : after.told ≡ before.told
  pub tree : after.tree ≡ before.tree
  pub coming : after.coming ≡ before.coming
  pub faults : Counts (is_failed answer) before.faults after.faults
  pub asked : Asked before.asks after.asks path answer

-- A call that ended with an answer has seen what it asked for, behind what was seen before. This is a loop's invariant too.
pub record KeepsSeen (before after : FilesMeaning) (seen seen_after : List (List ℕ)) : Type 0 where
  pub files : KeepsFiles false seen before after
  pub noted : seen_after ≡ seen ++ files.asks.made

-- What a call keeps that notes what it sees, by its answer. Where that is a failure, what was asked for last may not be noted.
abbrev pub Keeps : {T : Type 0} → Result T ReadFail → FilesMeaning → FilesMeaning → List (List ℕ) → List (List ℕ) → Type 0
Keeps (Ok x) before after seen seen_after = KeepsSeen before after seen seen_after
Keeps (Err Failed) before after seen seen_after = KeepsFiles true seen before after
Keeps (Err NoMemory) before after seen seen_after = KeepsFiles false seen before after
