-- The rows of groups.
use Rattle.std.specs.Prelude.{◌≡◌, ◌↔◌, ◌⊎◌, ◌+◌, ◌<◌, ◌≤◌, ◌&&◌, nat_le, nat_lt, ℕ, Bool, true, false, List, [], length, sum_by, slice_index_or}
use Rattle.std.specs.List.{Contains}
use Rattle.pk_types.specs.declared.plan.Groups.{Groups}
use Rattle.pk_types.specs.Availability.{Holds, Leads, IsAvailable}
use Rattle.avail_sets.specs.Words.{flag_in, words_for}

-- for each group a flag for each module: whether it is available there
pub record AreAvailable (groups : Groups) (modules : ℕ) (rows : List (List Bool)) : Type 0 where
  pub each : length rows ≡ length groups.targets
  pub long : (group : ℕ) → group < length groups.targets → length (slice_index_or rows group []) ≡ modules
  pub flags : (group number : ℕ) → group < length groups.targets → number < modules
      → (slice_index_or (slice_index_or rows group []) number false ≡ true) ↔ IsAvailable groups group number

-- The words hold these flags, and no other one is set.
pub record AreWordsOf (flags : List Bool) (words : List ℕ) : Type 0 where
  pub long : length words ≡ words_for (length flags)
  pub each : (number : ℕ) → flag_in words number ≡ slice_index_or flags number false

-- ---- the rows on the way; only private clauses cite the rest

abbrev pub row_at : List (List ℕ) → ℕ → List ℕ
row_at rows group = slice_index_or rows group []

-- the flag of the module in the group's row is set
abbrev pub IsThere : List (List ℕ) → ℕ → ℕ → Type 0
IsThere rows group number = flag_in (row_at rows group) number ≡ true

-- the row that a group has at first: none at the group of an entry, and all at every other one
pub record IsFirst (entries modules group : ℕ) (words : List ℕ) : Type 0 where
  pub long : length words ≡ words_for modules
  pub flags : (number : ℕ) → flag_in words number ≡ (nat_le entries group && nat_lt number modules)

-- the sum of the words of all rows, which falls with each flag that goes
abbrev pub weight : List (List ℕ) → ℕ
weight rows = sum_by (sum_by (λ word. word)) rows

-- Of the rows of the groups that are led to only those flags were kept that the group has. Those that lost one wait.
pub record ArePassed (have leads : List ℕ) (rows now : List (List ℕ)) (waiting left : List ℕ) : Type 0 where
  pub each : length now ≡ length rows
  pub long : (group : ℕ) → length (row_at now group) ≡ length (row_at rows group)
  pub flags : (group number : ℕ) → IsThere now group number ↔ (IsThere rows group number × (Contains leads group → flag_in have number ≡ true))
  pub kept : (group : ℕ) → ¬ Contains left group → (¬ Contains waiting group) × (row_at now group ≡ row_at rows group)
  pub only : (group : ℕ) → Contains left group → Contains waiting group ⊎ Contains leads group
  pub fewer : weight now + length left ≤ weight rows + length waiting

-- Every module that is available is there, and what waits are the groups from which a row may still lose one.
pub record IsShrinking (groups : Groups) (modules : ℕ) (rows : List (List ℕ)) (waiting : List ℕ) : Type 0 where
  pub each : length rows ≡ length groups.targets
  pub long : (group : ℕ) → group < length groups.targets → length (row_at rows group) ≡ words_for modules
  pub others : (group number : ℕ) → IsThere rows group number → (groups.entries ≤ group) × (number < modules)
  pub kept : (group number : ℕ) → group < length groups.targets → number < modules → IsAvailable groups group number → IsThere rows group number
  pub passed : (group next number : ℕ) → ¬ Contains waiting group → Leads groups group next → IsThere rows next number
      → Holds groups number group ⊎ IsThere rows group number
  pub within : (group : ℕ) → Contains waiting group → group < length groups.targets
