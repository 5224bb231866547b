-- The tokens of a text, with blanks alone between them.
use Rattle.std.specs.Prelude.{◌≡◌, ◌≢◌, ℕ, Bool, true, ◌||◌, ◌==◌, List, [], ◌∷◌, slice_range, Ok}
use Rattle.std.specs.List.{list_all}
use Rattle.es_tree.specs.declared.tokens.Token.{Token}
use Rattle.es_tree.specs.declared.tokens.TokenKind.TheVariants.{End}
use Rattle.es_tree.specs.declared.tokens.Goal.TheVariants.{Operand}
use Rattle.es_tree.specs.Lexical.{token_at}

-- TAB, LF, CR and space
abbrev pub is_blank : ℕ → Bool
is_blank c = c == 9 || c == 10 || c == 13 || c == 32

-- this token stands behind a place, with blanks alone between: no comment, no `#!`, no other white space
pub record StandsBehind (text : List ℕ) (at : ℕ) (token : Token) : Type 0 where
  pub read : token_at text at Operand ≡ Ok token
  pub blank : list_all is_blank (slice_range text at token.start) ≡ true

-- the tokens from a place to the end of the text, each read where the one before it ended
abbrev pub HasTokens : List ℕ → ℕ → List Token → Type 0
HasTokens text at [] = (end : Token) × StandsBehind text at end × (end.kind ≡ End)
HasTokens text at (token ∷ tokens) = StandsBehind text at token × (token.kind ≢ End) × HasTokens text token.end tokens

abbrev pub text_of : List ℕ → Token → List ℕ
text_of text token = slice_range text token.start token.end
