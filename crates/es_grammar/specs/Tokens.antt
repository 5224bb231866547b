-- The tokens of a text, and the law that they are those of its tree.
use Rattle.std.specs.Prelude.{ℕ, List, [], ◌∷◌}
use Rattle.es_tree.specs.declared.tokens.Token.{Token}
use Rattle.es_tree.specs.declared.tokens.Goal.{Goal}
use Rattle.es_tree.specs.declared.program.Program.{Program}
use Rattle.es_tree.specs.Yield.{program_tokens}
use Rattle.es_grammar.specs.Reading.{Bytes, IsAt}
use Rattle.es_grammar.specs.Parses.{Parses}

-- These tokens stand from one place to another: each is read, at some goal, where the one before it ended.
pub data TokensAt (text : Bytes) : ℕ → List Token → ℕ → Type 0 where
  none : {p : ℕ} → TokensAt text p [] p
  more : {p q : ℕ} (goal : Goal) (token : Token) (tokens : List Token) → IsAt text goal p token → TokensAt text token.end tokens q
      → TokensAt text p (token ∷ tokens) q

-- The tokens of a text's tree stand from the text's start to the place where End stands.
abbrev pub YieldLaw : Type 0
YieldLaw = (text : Bytes) (program : Program) (parse : Parses text program) → TokensAt text 0 (program_tokens program) parse.last
