-- Which marks stand before the head of a `for`.
use Rattle.std.specs.Prelude.{◌≡◌, ℕ}
use Rattle.es_tree.specs.declared.tokens.Token.{Token}
use Rattle.es_outline.specs.declared.mark.Part.TheVariants as part
use Rattle.es_outline.specs.Outline.{Marks, begin, one}

-- the marks end with where a `for` begins, and its word
pub record BehindFor (marks : Marks) : Type 0 where
  pub before : Marks
  pub for_word : Token
  pub is : marks ≡ one for_word (begin part.For before)

-- the same with its parenthesis, which ends at this place
pub record BehindParen (marks : Marks) (place : ℕ) : Type 0 where
  pub before : Marks
  pub for_word : Token
  pub left : Token
  pub is : marks ≡ one left (one for_word (begin part.For before))
  pub ends : left.end ≡ place
