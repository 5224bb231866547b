-- Drafts, chunk by chunk, and the bodies that they become.
use Rattle.std.proofs.Common.{◌≡◌, ℕ, ◌+◌, ◌-◌, ◌≤◌, List, [], ◌∷◌, ◌++◌, length, refl, sym, ap, ◌∙◌, arith, length-append}
use Rattle.std.proofs.lemmas.List.{append_assoc, append-nil}
use Rattle.emit_body.specs.declared.body.Piece.{Piece}
use Rattle.emit_body.specs.declared.body.Body.{Body}
use Rattle.module_body.specs.Chunks.{Chunk, Drafted, text_of, pieces_of, joined, no_draft, one_drafted, drafted}

pub plain_grows : (text bytes : List ℕ) (end : ℕ) → end ≤ length text → length (text ++ bytes) - end ≡ length text - end + length bytes
plain_grows text bytes end within = omega (arith, length-append text bytes)

pub none_left : (n : ℕ) → n - n ≡ 0
none_left n = omega arith

pub drafted_append : (draft : Drafted) (chunks more : List Chunk) → drafted draft (chunks ++ more) ≡ drafted (drafted draft chunks) more
unfolding drafted
drafted_append draft [] more = refl
drafted_append draft (chunk ∷ chunks) more = drafted_append (one_drafted draft chunk) chunks more

abbrev body : List ℕ → List Piece → Body
body text pieces = record { text = text; pieces = pieces }

-- the body that a draft becomes with these chunks behind it
abbrev finished : Drafted → List Chunk → Body
finished draft chunks = body (draft.text ++ text_of chunks) (draft.pieces ++ pieces_of draft.plain chunks)

same_body : (text more : List ℕ) (pieces others : List Piece) → text ≡ more → pieces ≡ others → body text pieces ≡ body more others
same_body text more pieces others e f = ap (λ (t : List ℕ). body t pieces) e ∙ ap (body more) f

one_finished : (draft : Drafted) (chunk : Chunk) (chunks : List Chunk) → finished draft (chunk ∷ chunks) ≡ finished (one_drafted draft chunk) chunks
unfolding text_of pieces_of
one_finished draft (Chunk.plain bytes) chunks =
    same_body _ _ _ (draft.pieces ++ pieces_of (draft.plain + length bytes) chunks) (sym (append_assoc draft.text bytes (text_of chunks))) refl
one_finished draft (Chunk.site letter bytes) chunks =
    same_body _ _ _ _ (sym (append_assoc draft.text bytes (text_of chunks)))
    (sym (append_assoc draft.pieces (record { plain = draft.plain; kind = letter; site = length bytes } ∷ []) (pieces_of 0 chunks)))

all_finished : (draft : Drafted) (chunks : List Chunk) → finished draft chunks ≡ finished (drafted draft chunks) []
unfolding drafted
all_finished draft [] = refl
all_finished draft (chunk ∷ chunks) = one_finished draft chunk chunks ∙ all_finished (one_drafted draft chunk) chunks

nothing_behind : (draft : Drafted) → finished draft [] ≡ body draft.text draft.pieces
unfolding text_of pieces_of
nothing_behind draft = same_body _ _ _ _ (append-nil draft.text) (append-nil draft.pieces)

-- a draft of chunks becomes the body of these
pub body_joined : (chunks : List Chunk) → body (drafted no_draft chunks).text (drafted no_draft chunks).pieces ≡ joined chunks
body_joined chunks = sym (all_finished no_draft chunks ∙ nothing_behind (drafted no_draft chunks))
