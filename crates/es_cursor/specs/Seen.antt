-- What is remembered of a token: only the invariant of a cursor cites it.
use Rattle.std.specs.Prelude.{◌≡◌, ℕ, true, List, Ok}
use Rattle.es_tree.specs.declared.tokens.Goal.{Goal}
use Rattle.es_tree.specs.Lexical.{token_at}
use Rattle.es_tree.specs.Places.{LiesBehind}
use Rattle.es_cursor.specs.declared.cursor.Seen.{Seen}

-- the token stands there at its goal, and at each other one where it is said to
pub record IsSeen (text : List ℕ) (seen : Seen) : Type 0 where
  pub stands : token_at text seen.at seen.goal ≡ Ok seen.token
  pub anywhere : seen.at_each_goal ≡ true → (goal : Goal) → token_at text seen.at goal ≡ Ok seen.token
  pub lies : LiesBehind text seen.at seen.token
