-- The marks of a body, which tell where its sites are.
use Rattle.std.specs.Prelude.{ℕ, ◌-◌, List, [], ◌∷◌, ◌++◌, length, codes}
use Rattle.std.specs.Fmt.{decimal}
use Rattle.emit_body.specs.declared.body.Piece.{Piece}
use Rattle.emit_body.specs.declared.body.Body.{Body}
use Rattle.emit_body.specs.Pieces.{pieces_size}
use Rattle.emit_chunk.specs.Joined.{all_of}

-- the plain bytes before a site, its letter, and its bytes
abbrev pub mark_of : Piece → List ℕ
mark_of piece = decimal piece.plain ++ (piece.kind ∷ []) ++ decimal piece.site ++ codes " "

-- a mark for each site, and last the plain bytes that are left
abbrev pub marks_of : Body → List ℕ
marks_of body = all_of mark_of body.pieces ++ decimal (length body.text - pieces_size body.pieces)
