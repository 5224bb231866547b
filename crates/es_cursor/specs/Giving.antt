-- Where what is tried first gives way to what is tried behind it.
use Rattle.std.specs.Prelude.{◌≡◌, ℕ, Some, None}
use Rattle.es_tree.specs.declared.tokens.Token.{Token}
use Rattle.es_tree.specs.declared.tokens.Goal.TheVariants.{Operand as AtOperand}
use Rattle.es_grammar.specs.declared.places.Context.{Context}
use Rattle.es_grammar.specs.Reading.{Bytes}
use Rattle.es_reader.specs.Basics.{◌>>=◌, token}
use Rattle.es_reader.specs.Readers.{Readers}
use Rattle.es_reader.specs.Tying.{readers_to}
use Rattle.es_reader.specs.Operators.{async_head, cond_assign, list_head, other_assign, other_postfix, plain_assign, plain_operand}
use Rattle.es_reader.specs.Targets.{pattern_alone, read_bare}
use Rattle.es_reader.specs.Statements.{for_expr, for_target}
use Rattle.es_cursor.specs.declared.passed.Attempt.{Attempt}
use Rattle.es_cursor.specs.declared.passed.Attempt.TheVariants as attempt
use Rattle.es_cursor.specs.declared.passed.Passed.{Passed}

-- an attempt gives way over these readers, in a context at a place
abbrev pub GivesWayIn : Bytes → Readers → Attempt → Context → ℕ → Type 0
GivesWayIn text r attempt.ListHead c p = (t : Token) → token text AtOperand p ≡ Some t → list_head text r c t ≡ None
GivesWayIn text r attempt.AsyncHead c p = (t : Token) → token text AtOperand p ≡ Some t → async_head text r c t ≡ None
GivesWayIn text r attempt.Bare c p = read_bare text r c p ≡ None
GivesWayIn text r attempt.Pattern c p = pattern_alone text r c p ≡ None
GivesWayIn text r attempt.Operand c p = (t : Token) → token text AtOperand p ≡ Some t → plain_operand text r c p t ≡ other_postfix text r c t
GivesWayIn text r attempt.Assign c p = (t : Token) → token text AtOperand p ≡ Some t → plain_assign text r c p t ≡ other_assign text r c p t
GivesWayIn text r attempt.Postfix c p = (t : Token) → token text AtOperand p ≡ Some t
    → plain_assign text r c p t ≡ (other_postfix text r c t >>= λ y. cond_assign text r c y.0 y.1)
GivesWayIn text r attempt.Init c p = (for_word left : Token) → left.end ≡ p → for_expr text r c for_word left ≡ for_target text r c for_word left

-- the same over the readers to its nest
abbrev pub GivesWay : Bytes → Passed → Type 0
GivesWay text x = GivesWayIn text (readers_to text x.nest) x.attempt x.context x.at
