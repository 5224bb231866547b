-- The chunks of groups: what each group brings is split.
use Rattle.std.specs.Prelude.{ℕ, ◌<◌, ◌≤◌, List, Option}
use Rattle.std.specs.List.{All}
use Rattle.std.specs.List.Sorted.{IsStrictlyIncreasing}
use Rattle.pk_types.specs.declared.graph.Graph.{Graph}
use Rattle.pk_types.specs.declared.plan.Groups.{Groups}
use Rattle.pk_types.specs.declared.plan.Chunks.{Chunks}
use Rattle.pk_types.specs.declared.settings.SplitConfig.{SplitConfig}
use Rattle.pk_types.specs.Availability.{ArePlaced}
use Rattle.pk_types.specs.ChunkClauses.{MeetClauses}
use Rattle.pk_types.specs.Splitting.{IsSplit, chunk_count, most_chunks}

-- the modules of each closure stand by number, each once
abbrev pub HasAscendingClosures : Groups → Type 0
HasAscendingClosures groups = All IsStrictlyIncreasing groups.closures

-- The chunks into which what the groups bring is split, with the clauses that later layers use.
pub record AreGroupChunks (graph : Graph) (groups : Groups) (config : Option SplitConfig) (chunks : Chunks) : Type 0 where
  pub brought : List (List ℕ)
  pub placed : ArePlaced groups brought
  pub split : IsSplit graph config groups.entries brought chunks
  pub clauses : MeetClauses groups.entries groups.closures brought chunks

-- there are no more chunks than a bundle may have, counted without the entry chunks
abbrev pub AreFew : Chunks → Type 0
AreFew chunks = chunk_count chunks ≤ most_chunks

-- what the groups bring is split into more chunks than a bundle may have
abbrev pub HasTooManyChunks : Graph → Groups → Option SplitConfig → Type 0
HasTooManyChunks graph groups config = (chunks : Chunks) × AreGroupChunks graph groups config chunks × (most_chunks < chunk_count chunks)
