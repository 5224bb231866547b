-- The body of a module: what is written for each mark of its outline, from what stands before and behind it.
use Rattle.std.specs.Prelude.{ℕ, nat_lt, ◌==◌, ◌&&◌, ◌||◌, not, Bool, true, false, if◌then◌else◌, List, [], ◌∷◌, ◌++◌, Option, Some, None, codes}
use Rattle.std.specs.Str.{bytes_eq}
use Rattle.es_tree.specs.declared.tokens.Token.{Token}
use Rattle.es_tree.specs.Names.{name_of}
use Rattle.es_outline.specs.declared.mark.Mark.{Mark}
use Rattle.es_outline.specs.declared.mark.Mark.TheVariants as mark
use Rattle.es_outline.specs.Outline.{Marks}
use Rattle.es_grammar.specs.Reading.{Bytes, spelled}
use Rattle.es_scope.specs.Source.{Source}
use Rattle.emit_body.specs.declared.body.Body.{Body}
use Rattle.module_body.specs.declared.before.Before.{Before}
use Rattle.module_body.specs.declared.changes.Change.{Change}
use Rattle.module_body.specs.declared.changes.Written.{Written}
use Rattle.module_body.specs.declared.changes.Written.TheVariants as written
use Rattle.module_body.specs.declared.standing.Standing.{Standing}
use Rattle.module_body.specs.declared.standing.Standing.TheVariants as standing
use Rattle.module_body.specs.Standing.{is_kept}
use Rattle.module_body.specs.Changes.{ChangesOf, change_at, text_of}
use Rattle.module_body.specs.Before.{is_new, is_shorthand, before_of}
use Rattle.module_body.specs.declared.calls.Hold.{Hold}
use Rattle.module_body.specs.Calls.{marks_behind, is_called, hold_of, opening_of, closing_of}
use Rattle.module_body.specs.Chunks.{Chunk, joined}

-- two tokens that would begin or end a comment of HTML
abbrev pub would_join : List ℕ → List ℕ → Bool
would_join first second = (bytes_eq first (codes "<") && bytes_eq second (codes "!")) || (bytes_eq first (codes "--") && bytes_eq second (codes ">"))

-- What is put between the last kept token and the next: a line's end where a line terminator stands between them, a space where anything
-- else does or they would join, or nothing. Nothing is put before the first.
abbrev pub gap : Bytes → Option Token → Bool → Token → List ℕ
gap text None broken token = []
gap text (Some last) broken token =
    if broken || token.newline then codes "\n"
    else (if not (last.end == token.start) || would_join (spelled text last) (spelled text token) then codes " " else [])

-- the token is one of those in whose place the last change is written
abbrev pub is_covered : Option Change → Token → Bool
is_covered (Some change) token = nat_lt token.start change.end
is_covered None token = false

abbrev pub chunk_of : ChangesOf → Written → Chunk
chunk_of changes (written.Site letter number) = Chunk.site letter (text_of changes (written.Site letter number))
chunk_of changes (written.Touch text) = Chunk.plain (text_of changes (written.Touch text))

-- `const N =` before an expression that is exported as the default
abbrev pub head : ChangesOf → Bool → Option Change → List Chunk
head changes true (Some change) = Chunk.plain (codes "const ") ∷ chunk_of changes change.written ∷ Chunk.plain (codes " = ") ∷ []
head changes _ _ = []

-- the name of a shorthand, whose value is written anew
abbrev pub label : Bytes → Option Mark → Token → List Chunk
label text nearest token = if is_shorthand nearest then Chunk.plain (name_of (spelled text token)) ∷ Chunk.plain (codes ": ") ∷ [] else []

-- how the text that is written at the token is held together; `marks` begin with the token
abbrev pub hold_at : Source → List ℕ → Before → Change → Marks → Hold
hold_at source text before change marks =
    hold_of text (is_called source.text before.opens (marks_behind change.end marks)) (is_new before.nearest)

-- what is written in the place of the token
abbrev pub anew : Source → ChangesOf → Before → Token → Change → Marks → List Chunk
anew source changes before token change marks =
    let hold = hold_at source (text_of changes change.written) before change marks in
    label source.text before.nearest token
    ++ Chunk.plain (opening_of hold) ∷ chunk_of changes change.written ∷ Chunk.plain (closing_of hold) ∷ []

-- the token as it is, or what is written in its place
abbrev pub word : Source → ChangesOf → Before → Token → Marks → Option Change → List Chunk
word source changes before token marks (Some change) = anew source changes before token change marks
word source changes before token marks None = Chunk.plain (spelled source.text token) ∷ []

abbrev pub token_chunks : Source → ChangesOf → Before → Token → Marks → List Chunk
token_chunks source changes before token marks =
    Chunk.plain (gap source.text before.last before.broken token) ∷ head changes before.value before.change
    ++ word source changes before token marks (change_at changes token before.sites before.touches)

-- N of a function or a class that is exported as the default and has no name
abbrev pub unnamed : ChangesOf → Standing → Option Change → List Chunk
unnamed changes standing.Defaulted (Some change) = Chunk.plain (codes " ") ∷ chunk_of changes change.written ∷ []
unnamed changes _ _ = []

-- what is written for the first of these marks, where this is known of those before it
abbrev pub chunks_for : Source → ChangesOf → Before → Mark → Marks → List Chunk
chunks_for source changes before (mark.Token role token) marks =
    if is_kept before.standing && not (is_covered before.change token) then token_chunks source changes before token marks else []
chunks_for source changes before mark.NoSemicolon marks = if is_kept before.standing then Chunk.plain (codes ";") ∷ [] else []
chunks_for source changes before mark.Unnamed marks = unnamed changes before.standing before.change
chunks_for source changes before _ marks = []

-- what is written for each of the marks; `before` are those before them, the nearest first
unfoldable pub chunks_from : Source → ChangesOf → Marks → Marks → List Chunk
chunks_from source changes before [] = []
chunks_from source changes before (one_mark ∷ after) =
    chunks_for source changes (before_of changes before) one_mark (one_mark ∷ after) ++ chunks_from source changes (one_mark ∷ before) after

abbrev pub body_of : Source → ChangesOf → Body
body_of source changes = joined (chunks_from source changes [] source.marks)
