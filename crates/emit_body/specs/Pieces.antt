-- How the pieces of a body lie in its text.
use Rattle.std.specs.Prelude.{ℕ, ◌+◌, ◌≤◌, List, [], ◌∷◌, length}
use Rattle.emit_body.specs.declared.body.Piece.{Piece}
use Rattle.emit_body.specs.declared.body.Body.{Body}

-- how many bytes the pieces have
abbrev pub pieces_size : List Piece → ℕ
pieces_size [] = 0
pieces_size (piece ∷ pieces) = piece.plain + piece.site + pieces_size pieces

-- the pieces have no more bytes than the text
abbrev pub HoldsPieces : Body → Type 0
HoldsPieces body = pieces_size body.pieces ≤ length body.text
