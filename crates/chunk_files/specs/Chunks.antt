-- The file of a chunk that is no entry chunk.
use Rattle.std.specs.Prelude.{ℕ, ◌+◌, List, ◌++◌, map, codes, take}
use Rattle.sha2.specs.Sha256.{sha256}
use Rattle.hex.specs.Hex.{encode_lower}
use Rattle.emit_chunk.specs.Entry.{chunk_id_text, roots_of}
use Rattle.chunk_files.specs.Factories.{factory_of}
use Rattle.chunk_files.specs.Joined.{joined}
use Rattle.chunk_files.specs.Materials.{MaterialOf}

-- the factories of the scopes whose roots stand in a chunk, by the number of the root; entry chunks count too
abbrev pub factories_text : MaterialOf → ℕ → List ℕ
factories_text material chunk = joined (codes ",\n") (map (factory_of material) (roots_of material.plan chunk))

-- the chunk is numbered without the entry chunks
unfoldable pub chunk_text : MaterialOf → ℕ → List ℕ
chunk_text material chunk =
    codes "__webpack_chunk__(" ++ chunk_id_text material.plan chunk ++ codes ", [\n" ++ factories_text material (material.plan.chunks.entries + chunk)
    ++ codes "\n]);\n"

-- the hash by which an entry file names a chunk file: the first eight hexadecimal digits of its SHA-256
abbrev pub hash_of : List ℕ → List ℕ
hash_of bytes = take 8 (encode_lower (sha256 bytes))
