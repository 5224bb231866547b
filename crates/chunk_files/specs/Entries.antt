-- The file that starts a page at an entry.
use Rattle.std.specs.Prelude.{◌≡◌, ◌≢◌, ℕ, List, ◌∷◌, ◌++◌, map, codes, slice_index, slice_index_or}
use Rattle.std.specs.List.{Contains}
use Rattle.pk_types.specs.declared.plan.Plan.{Plan}
use Rattle.pk_types.specs.ChunkGroups.{AreAll}
use Rattle.edge_search.specs.Reached.{IsReached}
use Rattle.emit_chunk.specs.Entry.{chunk_id_text, list_of}
use Rattle.emit_chunk.specs.Factories.{id_text}
use Rattle.emit_chunk.specs.Runtime.{runtime}
use Rattle.chunk_files.specs.Chunks.{factories_text}
use Rattle.chunk_files.specs.Joined.{each_behind, joined}
use Rattle.chunk_files.specs.Materials.{MaterialOf}

-- a walk from the entry's group ends in this one
abbrev pub IsWalkedTo : Plan → ℕ → ℕ → Type 0
IsWalkedTo plan entry group = IsReached plan.groups.leads entry group × (group ≢ entry)

-- one of these groups needs the chunk
abbrev pub IsNeeded : Plan → List ℕ → ℕ → Type 0
IsNeeded plan groups chunk = (group : ℕ) × Contains groups group × Contains (list_of plan group) chunk

-- the groups and the chunks that an entry file names: the entry's own group first and then the others, by number
pub record AreNamed (plan : Plan) (entry : ℕ) (groups chunks : List ℕ) : Type 0 where
  pub others : List ℕ
  pub groups_are : groups ≡ entry ∷ others
  pub walked : AreAll (IsWalkedTo plan entry) others
  pub needed : AreAll (IsNeeded plan groups) chunks

-- the row of a group: the id of its module, and those of its chunks
unfoldable pub row_text : Plan → ℕ → List ℕ
row_text plan group =
    codes "[" ++ id_text plan (slice_index plan.groups.targets group) ++ each_behind (codes ", ") (map (chunk_id_text plan) (list_of plan group)) ++ codes "]"

-- the hash of a chunk; as long a text where none is given
abbrev pub hash_at : List (List ℕ) → ℕ → List ℕ
hash_at hashes chunk = slice_index_or hashes chunk (codes "00000000")

-- a chunk in the table of a file: its id and its hash
unfoldable pub named_text : Plan → List (List ℕ) → ℕ → List ℕ
named_text plan hashes chunk = codes "[" ++ chunk_id_text plan chunk ++ codes ", \"" ++ hash_at hashes chunk ++ codes "\"]"

-- the text with the rows of these groups and the table of these chunks
unfoldable pub entry_text : MaterialOf → List (List ℕ) → ℕ → List ℕ → List ℕ → List ℕ
entry_text material hashes entry groups chunks =
    runtime ++ codes "__webpack_start__({ g: [" ++ joined (codes ", ") (map (row_text material.plan) groups) ++ codes "], c: ["
    ++ joined (codes ", ") (map (named_text material.plan hashes) chunks) ++ codes "] }, [\n" ++ factories_text material entry ++ codes "\n]);\n"

-- the text of an entry file
abbrev pub IsEntryText : MaterialOf → List (List ℕ) → ℕ → List ℕ → Type 0
IsEntryText material hashes entry text = (groups : List ℕ) × (chunks : List ℕ) × AreNamed material.plan entry groups chunks
    × (text ≡ entry_text material hashes entry groups chunks)
