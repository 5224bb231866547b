-- A module's text asks for no more modules than it has bytes.
use Rattle.std.proofs.Common.{◌≡◌, ℕ, ◌+◌, ◌-◌, ◌≤◌, ◌<◌, Bool, true, false, ◌==◌, List, [], ◌∷◌, ◌++◌, Ok, Err, length, drop, refl, arith, length-append, length-take, length-drop, if◌then◌else◌}
use Rattle.std.proofs.lemmas.Bool.{eqb-true}
use Rattle.std.specs.List.{list_any}
use Rattle.std.specs.Str.{bytes_eq}
use Rattle.indexmap.specs.IndexSet.{insert_key, insert_all}
use Rattle.es_tree.specs.declared.tokens.Goal.{Goal}
use Rattle.es_tree.specs.declared.tokens.Goal.TheVariants.{Operand}
use Rattle.es_tree.specs.declared.tokens.Token.{Token}
use Rattle.es_tree.specs.declared.tokens.TokenKind.{TokenKind}
use Rattle.es_tree.specs.declared.tokens.TokenKind.TheVariants as kind
use Rattle.es_tree.specs.declared.tokens.ProgramGoal.TheVariants.{Script, Module}
use Rattle.es_tree.specs.Lexical.{Lexeme, gap_start, gap_end, hashbang_length, lexeme, token_from, token_at}
use Rattle.es_tree.specs.ReservedWords.{is_reserved}
use Rattle.bare_modules.specs.Tokens.{HasTokens, text_of}
use Rattle.bare_modules.specs.Parts.{part_of, part_in}
use Rattle.bare_modules.specs.Statements.{AreStatements}
use Rattle.bare_modules.specs.Statements.AreStatements.{end, call, declaration}
use Rattle.bare_modules.specs.Meaning.{each_once}
use Rattle.bare_modules.specs.declared.parts.Part.TheVariants as part

-- ---- a token lies behind the place that it is read from

from_gap : (text : List ℕ) (at : ℕ) → at ≤ gap_start text at
from_gap text at = by (at == 0) refl
  where
    by : (first : Bool) → (at == 0) ≡ first → at ≤ (if first then hashbang_length text else at)
    by true e = omega (arith, eqb-true at 0 e)
    by false e = omega arith

behind_gap : (text : List ℕ) (at : ℕ) → at ≤ gap_end text at
unfolding gap_end
behind_gap text at = omega (arith, from_gap text at)

record Lies (at : ℕ) (token : Token) : Type 0 where
  begins : at ≤ token.start
  ends : token.start ≤ token.end

lies_from : (start : ℕ) (newline : Bool) (text : List ℕ) (found : Lexeme) (token : Token) → token_from start newline text found ≡ Ok token → Lies start token
lies_from start newline text (Err reach) token e = absurd cc
lies_from start newline text (Ok found) token e =
    let begins : start ≡ token.start = cc in
    let ends : start + found.1 ≡ token.end = cc in
    record { begins = omega arith; ends = omega arith }

lies : (text : List ℕ) (at : ℕ) (goal : Goal) (token : Token) → token_at text at goal ≡ Ok token → Lies at token
unfolding token_at
lies text at goal token e =
    let found = lies_from (gap_end text at) _ _ (lexeme goal (drop (gap_end text at) text)) token e in
    record { begins = omega (arith, behind_gap text at, found.begins); ends = found.ends }

-- ---- the word of a declaration has bytes

no_word : (reserved plain : Bool) → (if reserved then (if plain then part.Foreign else part.ScriptName) else part.Name) ≡ part.Import → ⊥
no_word true true e = cc
no_word true false e = cc
no_word false plain e = cc

-- nothing is no part `import`
no_bytes : (kind : TokenKind) → part_of kind [] ≡ part.Import → ⊥
no_bytes kind.IdName e = no_word (is_reserved [] Module) (is_reserved [] Script) e
no_bytes kind.Private e = cc
no_bytes kind.Number e = cc
no_bytes kind.String e = cc
no_bytes kind.Template e = cc
no_bytes kind.Regex e = cc
no_bytes kind.Punctuator e = cc
no_bytes kind.End e = cc

word_length : (kind : TokenKind) (word : List ℕ) → part_of kind word ≡ part.Import → 0 < length word
word_length kind [] e = absurd (no_bytes kind e)
word_length kind (c ∷ word) e = omega arith

record HoldsBytes (text : List ℕ) (token : Token) : Type 0 where
  some : token.start < token.end
  inside : token.start < length text

holds_bytes : (text : List ℕ) (token : Token) → part_in text token ≡ part.Import → HoldsBytes text token
holds_bytes text token e =
    let some = word_length token.kind (text_of text token) e in
    let long = length-take (token.end - token.start) (drop token.start text) in
    let left = length-drop token.start text in
    record { some = omega (arith, some, long, left); inside = omega (arith, some, long, left) }

-- ---- so each declaration takes at least one byte

-- the tokens behind the first of some
record Left (text : List ℕ) (at : ℕ) (tokens : List Token) : Type 0 where
  from : ℕ
  behind : at ≤ from
  are : HasTokens text from tokens

left_one : (text : List ℕ) (at : ℕ) (token : Token) (tokens : List Token) → HasTokens text at (token ∷ tokens) → Left text at tokens
left_one text at token tokens h =
    let place = lies text at Operand token (h.0).read in
    record { from = token.end; behind = omega (arith, place.begins, place.ends); are = h.2 }

left_all : (text : List ℕ) (at : ℕ) (first tokens : List Token) → HasTokens text at (first ++ tokens) → Left text at tokens
left_all text at [] tokens h = record { from = at; behind = omega arith; are = h }
left_all text at (token ∷ first) tokens h =
    let one = left_one text at token (first ++ tokens) h in
    let rest = left_all text one.from first tokens one.are in
    record { from = rest.from; behind = omega (arith, one.behind, rest.behind); are = rest.are }

few_declared : (text : List ℕ) (at : ℕ) (tokens kept : List Token) (requests : List (List ℕ)) → AreStatements text tokens kept requests → HasTokens text at tokens → length requests ≤ length text - at
few_declared text at _ _ _ end h = omega arith
few_declared text at _ _ _ (call tokens rest kept requests is are) h =
    let left = left_all text at tokens rest h in
    omega (arith, left.behind, few_declared text left.from rest kept requests are left.are)
few_declared text at _ _ _ (declaration word string semicolon rest kept requests is_word is_string is_semicolon are) h =
    let place = lies text at Operand word (h.0).read in
    let held = holds_bytes text word is_word in
    let left = left_all text word.end (string ∷ semicolon ∷ []) rest h.2 in
    omega (arith, place.begins, held.some, held.inside, left.behind, few_declared text left.from rest kept requests are left.are)

-- ---- each is asked for once

one_inserted : (known : List (List ℕ)) (request : List ℕ) → length (insert_key bytes_eq known request) ≤ length known + 1
one_inserted known request = by (list_any (bytes_eq request) known)
  where
    by : (b : Bool) → length (if b then known else known ++ request ∷ []) ≤ length known + 1
    by true = omega arith
    by false = omega (arith, length-append known (request ∷ []))

all_inserted : (known requests : List (List ℕ)) → length (insert_all bytes_eq known requests) ≤ length known + length requests
all_inserted known [] = omega arith
all_inserted known (request ∷ requests) = omega (arith, one_inserted known request, all_inserted (insert_key bytes_eq known request) requests)

pub few_requests : (text : List ℕ) (tokens kept : List Token) (requests : List (List ℕ)) → HasTokens text 0 tokens → AreStatements text tokens kept requests → length (each_once requests) ≤ length text
few_requests text tokens kept requests read are = omega (arith, all_inserted [] requests, few_declared text 0 tokens kept requests are read)
