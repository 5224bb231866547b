-- What is found of a token fits into the text that it was looked for in.
use Rattle.std.specs.Prelude.{◌≡◌, ◌≢◌, ◌↔◌, ℕ, ◌<◌, ◌≤◌, List, length}
use Rattle.es_tree.specs.declared.tokens.TokenKind.{TokenKind}
use Rattle.es_tree.specs.declared.tokens.TokenKind.TheVariants.{End}

pub record Fits (text : List ℕ) (found : TokenKind × ℕ) : Type 0 where
  pub some : 0 < found.1
  pub within : found.1 ≤ length text
  pub kind : found.0 ≢ End

-- the end is found exactly where nothing is left
pub record FitsOrEnds (text : List ℕ) (found : TokenKind × ℕ) : Type 0 where
  pub some : found.0 ≢ End → 0 < found.1
  pub within : found.1 ≤ length text
  pub ends : (found.0 ≡ End) ↔ (length text ≡ 0)
