-- What files, a store, a source and a sink mean.
use Rattle.std.specs.Prelude.{Bool, false, ◌≡◌, ◌⊎◌, ℕ, List, [], ◌∷◌, ◌++◌, length, take, Option, None, Some, Result, Ok, Err, nat_lt, nat_eq, ◌||◌, if◌then◌else◌}
use Rattle.std.specs.Str.{bytes_eq}
use Rattle.std.specs.List.{starts_with}
use Rattle.pk_base.specs.declared.outside.Read.{Read}
use Rattle.pk_base.specs.declared.outside.Read.TheVariants.{Absent, Bytes, Longer}
use Rattle.pk_base.specs.declared.outside.Call.{Call}
use Rattle.pk_base.specs.declared.outside.ReadFail.{ReadFail}
use Rattle.pk_base.specs.declared.outside.ReadFail.TheVariants.{Failed, NoMemory}
use Rattle.pk_base.specs.FileTree.{FileTree}

-- what a read with a limit answers
abbrev pub read_of : Option (List ℕ) → ℕ → Read
read_of None limit = Absent
read_of (Some bytes) limit = if nat_lt limit (length bytes) then Longer else Bytes bytes

-- a call appended a path to the asks, or was short of memory
abbrev pub Asked : {T : Type 0} → List (List ℕ) → List (List ℕ) → List ℕ → Result T ReadFail → Type 0
Asked old new path (Ok x) = new ≡ old ++ path ∷ []
Asked old new path (Err Failed) = new ≡ old ++ path ∷ []
Asked old new path (Err NoMemory) = (new ≡ old) ⊎ (new ≡ old ++ path ∷ [])

-- the same names with one of them holding this, or absent
abbrev pub set_at : List ℕ → Option (List ℕ) → FileTree → FileTree
set_at name value files other = if bytes_eq name other then value else files other

-- a call that failed appended itself to the calls, or was short of memory
abbrev pub Tried : List Call → List Call → Call → Type 0
Tried old new call = (new ≡ old) ⊎ (new ≡ old ++ call ∷ [])

-- some value under this name, and each other name as it was
pub record ChangesOnly (old new : FileTree) (name : List ℕ) : Type 0 where
  pub value : Option (List ℕ)
  pub is : new ≡ set_at name value old

-- some first part of these bytes was added
pub record AddsPrefix (old new bytes : List ℕ) : Type 0 where
  pub count : ℕ
  pub is : new ≡ old ++ take count bytes

-- a folder, given by its written path, is the path or stands above it; the root is written as the empty text
abbrev pub is_under : List ℕ → List ℕ → Bool
is_under folder path = bytes_eq folder [] || bytes_eq folder path || starts_with nat_eq path (folder ++ 47 ∷ [])

-- a list of paths covers a path
abbrev pub covers : List (List ℕ) → List ℕ → Bool
covers [] path = false
covers (folder ∷ folders) path = is_under folder path || covers folders path

-- the tree after a turn: the next tree where the list covers, the old one elsewhere
abbrev pub turned : List (List ℕ) → List FileTree → FileTree → FileTree
turned listed [] old = old
turned listed (next ∷ rest) old = λ path. if covers listed path then next path else old path
