-- How modules stand in chunks between two picks of splitting.
use Rattle.std.specs.Prelude.{ℕ, Bool, ◌||◌, List, [], ◌∷◌, length, map, nat_lt, if◌then◌else◌, slice_index_or}
use Rattle.std.specs.List.{range_with_len}

-- The chunk of each group comes first, by group, and then those that picks made. A chunk that is no entry chunk and holds nothing isn't there.
pub record SplitState : Type 0 where
  -- how many groups are groups of entries; their chunks are the entry chunks
  pub entries : ℕ
  -- for each chunk its modules, by number
  pub modules : List (List ℕ)
  -- for each group the chunks that it loads, by number
  pub loads : List (List ℕ)
  -- the chunks that picks moved modules into, made or reused
  pub split : List ℕ

-- the modules of a chunk
abbrev pub chunk_at : SplitState → ℕ → List ℕ
chunk_at state chunk = slice_index_or state.modules chunk []

-- the chunks that a group loads
abbrev pub loads_at : SplitState → ℕ → List ℕ
loads_at state group = slice_index_or state.loads group []

-- whether it is an entry chunk
abbrev pub is_entry : SplitState → ℕ → Bool
is_entry state chunk = nat_lt chunk state.entries

-- whether the chunk is there: an entry chunk, or one that holds a module
abbrev pub is_there : SplitState → ℕ → Bool
is_there state chunk = is_entry state chunk || nat_lt 0 (length (chunk_at state chunk))

-- before the first pick each group loads its own chunk, which holds what is placed in it, if that is there
abbrev pub own_chunks : ℕ → List (List ℕ) → ℕ → List ℕ
own_chunks entries placed group = if nat_lt group entries || nat_lt 0 (length (slice_index_or placed group [])) then group ∷ [] else []

-- the chunks before the first pick
abbrev pub first_state : ℕ → List (List ℕ) → SplitState
first_state entries placed =
    record { entries = entries; modules = placed; loads = map (own_chunks entries placed) (range_with_len 0 (length placed)); split = [] }
