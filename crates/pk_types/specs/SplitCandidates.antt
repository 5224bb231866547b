-- Candidates of splitting: modules that stand in the same ones of the chunks that a cache group allows.
use Rattle.std.specs.Prelude.{◌≡◌, ℕ, ◌<◌, Bool, true, false, not, ◌&&◌, List, [], Option, Some, None, length, filter, nat_eq, sum_by}
use Rattle.std.specs.Prelude.{slice_get, bytes_eq}
use Rattle.std.specs.List.{Contains, list_any, range_with_len, slice_split}
use Rattle.std.specs.Option.{option_map, unwrap_or}
use Rattle.pk_types.specs.declared.graph.Graph.{Graph}
use Rattle.pk_types.specs.declared.settings.CacheGroup.{CacheGroup}
use Rattle.pk_types.specs.declared.settings.SplitConfig.{SplitConfig}
use Rattle.pk_types.specs.declared.settings.Which.{Which}
use Rattle.pk_types.specs.declared.settings.Which.TheVariants.{Async, Initial, All}
use Rattle.pk_types.specs.Numbers.{has, are_same}
use Rattle.pk_types.specs.SplitStates.{SplitState, chunk_at, is_entry}

-- the path of a module
abbrev pub label_of : Graph → ℕ → Option (List ℕ)
label_of graph member = option_map (λ row. row.label) (slice_get graph.rows member)

-- the same, empty where there is no such module
abbrev pub path_of : Graph → ℕ → List ℕ
path_of graph member = unwrap_or (label_of graph member) []

-- a `test` takes a module where one of the segments of its path is the text of the test; without a test every module is taken
abbrev pub takes : Option (List ℕ) → List ℕ → Bool
takes None path = true
takes (Some segment) path = list_any (bytes_eq segment) (slice_split (nat_eq 47) path)

-- the cache group takes the module, which is there
abbrev pub takes_module : Graph → CacheGroup → ℕ → Bool
takes_module graph cache member = unwrap_or (option_map (takes cache.test) (label_of graph member)) false

-- entry chunks are initial, all others are async
abbrev pub allows : Which → Bool → Bool
allows Async entry = not entry
allows Initial entry = entry
allows All entry = true

-- the module stands in a split chunk
abbrev pub is_split : SplitState → ℕ → Bool
is_split state member = list_any (λ chunk. has (chunk_at state chunk) member) state.split

-- the cache group may move the module
abbrev pub is_movable : Graph → SplitState → CacheGroup → ℕ → Bool
is_movable graph state cache member = takes_module graph cache member && not (is_split state member)

-- the chunks that hold the module and that the cache group allows
abbrev pub chunks_with : SplitState → CacheGroup → ℕ → List ℕ
chunks_with state cache member =
    filter (λ chunk. allows cache.chunks (is_entry state chunk) && has (chunk_at state chunk) member) (range_with_len 0 (length state.modules))

-- the modules that it may move and for which these are the chunks
abbrev pub modules_with : Graph → SplitState → CacheGroup → List ℕ → List ℕ
modules_with graph state cache chunks =
    filter (λ member. is_movable graph state cache member && are_same (chunks_with state cache member) chunks) (range_with_len 0 (length graph.rows))

-- a cache group, chunks that it allows, and the modules that stand in these and no others of them
pub record Candidate : Type 0 where
  pub cache_group : CacheGroup
  pub chunks : List ℕ
  pub modules : List ℕ

-- For a cache group and a module that it may move: the chunks are those of the module, at least one, and the modules all those with the same
-- chunks.
pub record IsCandidate (graph : Graph) (config : SplitConfig) (state : SplitState) (candidate : Candidate) : Type 0 where
  pub cache_group : Contains config.groups candidate.cache_group
  pub member : ℕ
  pub movable : is_movable graph state candidate.cache_group member ≡ true
  pub chunks : candidate.chunks ≡ chunks_with state candidate.cache_group member
  pub some_chunk : 0 < length candidate.chunks
  pub modules : candidate.modules ≡ modules_with graph state candidate.cache_group candidate.chunks

-- the sizes of the modules together
abbrev pub bytes_of : Graph → List ℕ → ℕ
bytes_of graph modules = sum_by (λ member. unwrap_or (option_map (λ row. row.size) (slice_get graph.rows member)) 0) modules
