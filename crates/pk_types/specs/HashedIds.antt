-- Hashed ids, where `hash` gives the digest of a text.
use Rattle.std.specs.Prelude.{◌≡◌, ℕ, Bool, true, false, List, ◌++◌, length, map, codes, filter, drop, slice_index}
use Rattle.std.specs.List.{range_with_len}
use Rattle.pk_types.specs.declared.graph.Graph.{Graph}
use Rattle.pk_types.specs.declared.plan.Chunks.{Chunks}
use Rattle.pk_types.specs.declared.plan.Ids.{Ids}
use Rattle.pk_types.specs.SplitCandidates.{path_of}
use Rattle.pk_types.specs.ModuleIds.{is_in_chunks, five_digits, AreNaturalIds, AreGivenInOrder}

module _ (hash : List ℕ → List ℕ) where
  -- where the look for an id begins, by a module's label
  abbrev pub module_start : Graph → ℕ → ℕ
  module_start graph member = five_digits (hash (path_of graph member))

  -- the same for a chunk, by the label of its least module, which stands first
  abbrev pub chunk_start : Graph → List ℕ → ℕ
  chunk_start graph modules = five_digits (hash (codes "chunk " ++ path_of graph (slice_index modules 0)))

  -- the modules in chunks, by number
  abbrev pub placed_modules : Graph → Chunks → List ℕ
  placed_modules graph chunks = filter (is_in_chunks chunks) (range_with_len 0 (length graph.rows))

  -- the modules in chunks have ids in their order, and so have the chunks that are no entry chunks; a module in no chunk has 0
  pub record AreHashedIds (graph : Graph) (chunks : Chunks) (ids : Ids) : Type 0 where
    pub each : length ids.modules ≡ length graph.rows
    pub module_ids : AreGivenInOrder (map (module_start graph) (placed_modules graph chunks))
        (map (slice_index ids.modules) (placed_modules graph chunks))
    pub no_chunk : (member : ℕ) → is_in_chunks chunks member ≡ false → slice_index ids.modules member ≡ 0
    pub chunk_ids : AreGivenInOrder (map (chunk_start graph) (drop chunks.entries chunks.modules)) ids.chunks

  -- the ids that the settings ask for
  abbrev pub HasIds : Graph → Chunks → Bool → Ids → Type 0
  HasIds graph chunks true ids = AreHashedIds graph chunks ids
  HasIds graph chunks false ids = AreNaturalIds graph chunks ids
