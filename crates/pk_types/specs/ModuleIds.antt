-- The ids of modules and chunks. Natural ids count them; hashed ids are the first five hexadecimal digits of a hash, or the next free number.
use Rattle.std.specs.Prelude.{◌≡◌, ℕ, ◌+◌, ◌*◌, ◌/◌, ◌%◌, ◌<◌, Bool, List, length, map, if◌then◌else◌, count_by, slice_index, take}
use Rattle.std.specs.List.{Contains, list_any, range_with_len}
use Rattle.pk_types.specs.declared.graph.Graph.{Graph}
use Rattle.pk_types.specs.declared.plan.Chunks.{Chunks}
use Rattle.pk_types.specs.declared.plan.Ids.{Ids}
use Rattle.pk_types.specs.Numbers.{has}
use Rattle.pk_types.specs.Splitting.{chunk_count}

-- whether a module stands in some chunk
abbrev pub is_in_chunks : Chunks → ℕ → Bool
is_in_chunks chunks member = list_any (λ modules. has modules member) chunks.modules

-- how many modules in chunks come before; a module in no chunk has 0
abbrev pub rank_of : Chunks → ℕ → ℕ
rank_of chunks member = if is_in_chunks chunks member then count_by (is_in_chunks chunks) (range_with_len 0 member) else 0

-- ids that count: modules by their ranks, and chunks without the entry chunks
pub record AreNaturalIds (graph : Graph) (chunks : Chunks) (ids : Ids) : Type 0 where
  pub module_ids : ids.modules ≡ map (rank_of chunks) (range_with_len 0 (length graph.rows))
  pub chunk_ids : ids.chunks ≡ range_with_len 0 (chunk_count chunks)

-- five hexadecimal digits have so many numbers
abbrev pub id_count : ℕ
id_count = 1048576

-- the number of the first five hexadecimal digits of some bytes
abbrev pub five_digits : List ℕ → ℕ
five_digits bytes = slice_index bytes 0 * 4096 + slice_index bytes 1 * 16 + slice_index bytes 2 / 16

-- the number is the first that isn't taken, from the start upwards and after the greatest on from 0
pub record IsNextFree (taken : List ℕ) (start number : ℕ) : Type 0 where
  pub steps : ℕ
  pub at : number ≡ (start + steps) % id_count
  pub free : ¬ Contains taken number
  pub first : (fewer : ℕ) → fewer < steps → Contains taken ((start + fewer) % id_count)

-- the numbers are given in order, from these starts
abbrev pub AreGivenInOrder : List ℕ → List ℕ → Type 0
AreGivenInOrder starts numbers = (length numbers ≡ length starts)
    × ((place : ℕ) → place < length starts → IsNextFree (take place numbers) (slice_index starts place) (slice_index numbers place))
