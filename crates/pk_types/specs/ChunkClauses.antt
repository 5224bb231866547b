-- What later layers ask of chunks: each group finds what is placed in it, and nothing beyond its closure, and no chunk is
-- there for nothing.
use Rattle.std.specs.Prelude.{◌≡◌, ◌⊎◌, ℕ, ◌+◌, ◌<◌, ◌≤◌, List, [], length, slice_index_or}
use Rattle.std.specs.List.{Contains}
use Rattle.std.specs.List.Sorted.{IsStrictlyIncreasing}
use Rattle.pk_types.specs.declared.plan.Chunks.{Chunks}

-- the list at a place, empty past the end
abbrev pub row_at : List (List ℕ) → ℕ → List ℕ
row_at rows place = slice_index_or rows place []

-- the chunks of a group: its entry chunk, if it is a group of an entry, and those of its list, which are numbered without
-- the entry chunks
abbrev pub IsOfGroup : Chunks → ℕ → ℕ → Type 0
IsOfGroup chunks group chunk = ((group < chunks.entries) × (chunk ≡ group))
    ⊎ ((number : ℕ) × Contains (row_at chunks.lists group) number × (chunk ≡ chunks.entries + number))

-- chunks that serve groups with these closures, in which this is placed; so many of the groups are groups of entries
pub record MeetClauses (entries : ℕ) (closures placed : List (List ℕ)) (chunks : Chunks) : Type 0 where
  -- there is one list for each group, and an entry chunk for each group of an entry
  pub each : length chunks.lists ≡ length placed
  pub each_entry : chunks.entries ≡ entries
  pub few_entries : chunks.entries ≤ length chunks.modules
  -- the modules of a chunk stand by number, each once
  pub ascending : (chunk : ℕ) → IsStrictlyIncreasing (row_at chunks.modules chunk)
  -- a number in a list is that of a chunk
  pub in_range : (group number : ℕ) → Contains (row_at chunks.lists group) number → chunks.entries + number < length chunks.modules
  -- the chunks of a group hold all that is placed in it
  pub held : (group member : ℕ) → Contains (row_at placed group) member
      → (chunk : ℕ) × IsOfGroup chunks group chunk × Contains (row_at chunks.modules chunk) member
  -- and nothing outside its closure
  pub closed : (group chunk member : ℕ) → IsOfGroup chunks group chunk → Contains (row_at chunks.modules chunk) member
      → Contains (row_at closures group) member
  -- a module in the entry chunk of one entry stands in that of every entry whose closure holds it
  pub together : (entry other member : ℕ) → entry < entries → other < entries
      → Contains (row_at chunks.modules entry) member → Contains (row_at closures other) member
      → Contains (row_at chunks.modules other) member
  -- each chunk that is no entry chunk stands in the list of a group
  pub listed : (chunk : ℕ) → chunks.entries ≤ chunk → chunk < length chunks.modules → (group : ℕ) × IsOfGroup chunks group chunk
  -- and holds a module
  pub filled : (chunk : ℕ) → chunks.entries ≤ chunk → chunk < length chunks.modules → 0 < length (row_at chunks.modules chunk)

-- What is placed in a group, by number and each module once, stands in its closure. Each entry has a group, in which its
-- whole closure is placed.
pub record FitTogether (entries : ℕ) (closures placed : List (List ℕ)) : Type 0 where
  pub within : (group member : ℕ) → Contains (row_at placed group) member → Contains (row_at closures group) member
  pub whole : (group member : ℕ) → group < entries → Contains (row_at closures group) member
      → Contains (row_at placed group) member
  pub sorted : (group : ℕ) → IsStrictlyIncreasing (row_at placed group)
  pub few_entries : entries ≤ length placed
