-- What is asked of a graph and its chunks, so that there are numbers enough.
use Rattle.std.specs.Prelude.{ℕ, ◌<◌, ◌≤◌, length, count_by}
use Rattle.std.specs.List.{All, range_with_len}
use Rattle.pk_types.specs.declared.graph.Graph.{Graph}
use Rattle.pk_types.specs.declared.plan.Chunks.{Chunks}
use Rattle.pk_types.specs.ChunkClauses.{row_at}
use Rattle.pk_types.specs.ModuleIds.{is_in_chunks, id_count}
use Rattle.pk_types.specs.Places.{ArePlacesIn}
use Rattle.pk_types.specs.Splitting.{chunk_count}

pub record MayHaveIds (graph : Graph) (chunks : Chunks) : Type 0 where
  -- the numbers in chunks are those of modules
  pub in_range : All (ArePlacesIn graph.rows) chunks.modules
  pub entries : chunks.entries ≤ length chunks.modules
  -- no chunk but an entry chunk is empty
  pub filled : (chunk : ℕ) → chunks.entries ≤ chunk → chunk < length chunks.modules → 0 < length (row_at chunks.modules chunk)
  pub few_modules : count_by (is_in_chunks chunks) (range_with_len 0 (length graph.rows)) ≤ id_count
  pub few_chunks : chunk_count chunks ≤ id_count
