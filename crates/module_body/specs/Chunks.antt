-- A body in chunks: bytes that are plain, and sites with their letters.
use Rattle.std.specs.Prelude.{ℕ, ◌+◌, List, [], ◌∷◌, ◌++◌, length}
use Rattle.emit_body.specs.declared.body.Piece.{Piece}
use Rattle.emit_body.specs.declared.body.Body.{Body}

pub data Chunk : Type 0 where
  plain : List ℕ → Chunk
  site : ℕ → List ℕ → Chunk

abbrev pub bytes_of : Chunk → List ℕ
bytes_of (Chunk.plain bytes) = bytes
bytes_of (Chunk.site letter bytes) = bytes

unfoldable pub text_of : List Chunk → List ℕ
text_of [] = []
text_of (chunk ∷ chunks) = bytes_of chunk ++ text_of chunks

-- a piece for each site: it counts the plain bytes before it, of which so many stand already
unfoldable pub pieces_of : ℕ → List Chunk → List Piece
pieces_of so_far [] = []
pieces_of so_far (Chunk.plain bytes ∷ chunks) = pieces_of (so_far + length bytes) chunks
pieces_of so_far (Chunk.site letter bytes ∷ chunks) = record { plain = so_far; kind = letter; site = length bytes } ∷ pieces_of 0 chunks

abbrev pub joined : List Chunk → Body
joined chunks = record { text = text_of chunks; pieces = pieces_of 0 chunks }

-- a body that is being written, and how many plain bytes stand behind its last site
pub record Drafted : Type 0 where
  pub text : List ℕ
  pub pieces : List Piece
  pub plain : ℕ

abbrev pub no_draft : Drafted
no_draft = record { text = []; pieces = []; plain = 0 }

abbrev pub one_drafted : Drafted → Chunk → Drafted
one_drafted draft (Chunk.plain bytes) = record { text = draft.text ++ bytes; pieces = draft.pieces; plain = draft.plain + length bytes }
one_drafted draft (Chunk.site letter bytes) =
    record { text = draft.text ++ bytes; pieces = draft.pieces ++ record { plain = draft.plain; kind = letter; site = length bytes } ∷ []; plain = 0 }

-- the same with these chunks behind it
unfoldable pub drafted : Drafted → List Chunk → Drafted
drafted draft [] = draft
drafted draft (chunk ∷ chunks) = drafted (one_drafted draft chunk) chunks
