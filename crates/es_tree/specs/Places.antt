-- Where a token lies that is read from a place of a text.
use Rattle.std.specs.Prelude.{◌≡◌, ◌≢◌, ◌↔◌, ℕ, ◌<◌, ◌≤◌, List, length, drop, slice_range}
use Rattle.es_tree.specs.declared.tokens.TokenKind.TheVariants.{End}
use Rattle.es_tree.specs.declared.tokens.Token.{Token}
use Rattle.es_tree.specs.declared.tokens.LexFault.{LexFault}
use Rattle.es_tree.specs.declared.tokens.LexFault.TheVariants.{NotUtf8, NoToken}
use Rattle.es_tree.specs.Utf8.{character}
use Rattle.es_tree.specs.Lexical.{gap_end, has_line_terminator}

-- the token lies in the text, behind the gap at the place
pub record LiesBehind (bytes : List ℕ) (at : ℕ) (token : Token) : Type 0 where
  pub begins : at ≤ token.start
  pub ends : token.start ≤ token.end
  pub inside : token.end ≤ length bytes
  pub holds_bytes : token.kind ≢ End → token.start < token.end
  pub at_the_end : (token.kind ≡ End) ↔ (token.start ≡ length bytes)
  pub gap : token.start ≡ gap_end bytes at
  pub newline : token.newline ≡ has_line_terminator (slice_range bytes at token.start)

-- `NoToken` lies in the text, behind the gap at the place
pub record BeginsNoToken (bytes : List ℕ) (at place : ℕ) : Type 0 where
  pub begins : at ≤ place
  pub inside : place < length bytes
  pub gap : place ≡ gap_end bytes at

-- `NotUtf8` lies in the text, at bytes that are no character, in or behind the gap at the place
pub record IsNotUtf8 (bytes : List ℕ) (at place : ℕ) : Type 0 where
  pub begins : gap_end bytes at ≤ place
  pub inside : place < length bytes
  pub no_character : (character (drop place bytes)).1 ≡ 0

abbrev pub IsFaultBehind : List ℕ → ℕ → LexFault → Type 0
IsFaultBehind bytes at (NotUtf8 place) = IsNotUtf8 bytes at place
IsFaultBehind bytes at (NoToken place) = BeginsNoToken bytes at place
