-- Places and tokens of a text.
use Rattle.std.specs.Prelude.{ℕ, ◌<◌, ◌≤◌, ◌^◌, List, length}
use Rattle.es_tree.specs.declared.tokens.Token.{Token}

-- the place is one of a text whose places 32 bits can number
pub record Stands (text : List ℕ) (place : ℕ) : Type 0 where
  pub short : length text < 2 ^ 32
  pub inside : place ≤ length text

-- the token lies in the text, whose places 32 bits can number
pub record Lies (text : List ℕ) (token : Token) : Type 0 where
  pub short : length text < 2 ^ 32
  pub ends : token.start ≤ token.end
  pub inside : token.end ≤ length text

-- what was read ends in the text
abbrev pub EndsIn : {X : Type 0} → List ℕ → X × ℕ → Type 0
EndsIn text y = y.1 ≤ length text
