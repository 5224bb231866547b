-- The text of an entry file.
use Rattle.std.specs.Prelude.{ℕ, Bool, List, [], ◌++◌, ◌==◌, codes, slice_index, slice_index_or}
use Rattle.std.specs.List.{filter}
use Rattle.std.specs.Fmt.{decimal}
use Rattle.pk_types.specs.declared.graph.Graph.{Graph}
use Rattle.pk_types.specs.declared.plan.Plan.{Plan}
use Rattle.emit_body.specs.declared.body.Body.{Body}
use Rattle.emit_chunk.specs.Joined.{each_behind, joined}
use Rattle.emit_chunk.specs.Factories.{id_text, factory_of}
use Rattle.emit_chunk.specs.Runtime.{runtime}

abbrev pub chunk_id_text : Plan → ℕ → List ℕ
chunk_id_text plan chunk = decimal (slice_index plan.ids.chunks chunk)

-- the chunks that the group of an entry needs beside its entry chunk
abbrev pub list_of : Plan → ℕ → List ℕ
list_of plan group = slice_index_or plan.chunks.lists group []

-- the row of a group: the id of its module, and those of its chunks
unfoldable pub row_text : Plan → ℕ → List ℕ
row_text plan group = codes "[" ++ id_text plan (slice_index plan.groups.targets group) ++ each_behind (codes ", ") (chunk_id_text plan) (list_of plan group) ++ codes "]"

-- a chunk in the table of a file: its id and its hash
abbrev pub chunk_text : Plan → List (List ℕ) → ℕ → List ℕ
chunk_text plan hashes chunk = codes "[" ++ chunk_id_text plan chunk ++ codes ", \"" ++ slice_index_or hashes chunk [] ++ codes "\"]"

-- whether a module's scope is named by it
abbrev pub is_root : Plan → ℕ → Bool
is_root plan number = slice_index plan.hoists.root number == number

abbrev pub modules_of : Plan → ℕ → List ℕ
modules_of plan chunk = slice_index_or plan.chunks.modules chunk []

-- the scopes of a chunk, in the plan's order
abbrev pub roots_of : Plan → ℕ → List ℕ
roots_of plan chunk = filter (is_root plan) (modules_of plan chunk)

-- Without an `import()` the entry's group leads to no other, so its row is the only one.
unfoldable pub entry_text : Graph → Plan → List Body → List (List ℕ) → ℕ → List ℕ
entry_text graph plan bodies hashes entry =
    runtime ++ codes "__webpack_start__({ g: [" ++ row_text plan entry ++ codes "], c: [" ++ joined (codes ", ") (chunk_text plan hashes) (list_of plan entry)
    ++ codes "] }, [\n" ++ joined (codes ",\n") (factory_of graph plan bodies) (roots_of plan entry) ++ codes "\n]);\n"
