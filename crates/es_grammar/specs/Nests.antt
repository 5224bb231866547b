-- That the nest is counted as it should be.
use Rattle.std.specs.Prelude.{ℕ, suc, ◌<◌, ◌≤◌, List, codes}
use Rattle.es_tree.specs.declared.tokens.Token.{Token}
use Rattle.es_tree.specs.declared.tokens.TokenKind.TheVariants.{End}
use Rattle.es_tree.specs.declared.tokens.Goal.{Goal}
use Rattle.es_tree.specs.declared.tokens.ProgramGoal.{ProgramGoal}
use Rattle.es_tree.specs.declared.program.Program.{Program}
use Rattle.es_tree.specs.declared.program.ProgramItem.{ProgramItem}
use Rattle.es_grammar.specs.declared.TheConstants.{MAX_NEST}
use Rattle.es_grammar.specs.Reading.{Bytes, KindAt, MarkAt}
use Rattle.es_grammar.specs.Lists.{Chain}
use Rattle.es_grammar.specs.Parses.{Parses, ProgramItemAt, rules_to}

-- Items that stand by the rules to a nest stand by those to each greater one.
abbrev pub GrowingLaw : Type 0
GrowingLaw = (text : Bytes) (goal : ProgramGoal) (m n : ℕ) (items : List ProgramItem) (last : ℕ) → m ≤ n
    → Chain (ProgramItemAt text (rules_to text m) goal) 0 items last → Chain (ProgramItemAt text (rules_to text n) goal) 0 items last

-- a punctuator that stands at a place, whatever the goal
abbrev pub StandsAt : Bytes → List ℕ → ℕ → Token → Type 0
StandsAt text mark at token = (goal : Goal) → MarkAt text goal mark at token

-- so many opening square brackets stand one behind the other
pub data Opens (text : Bytes) : ℕ → ℕ → Type 0 where
  none : {p : ℕ} → Opens text p 0
  more : {p count : ℕ} (left : Token) → StandsAt text (codes "[") p left → Opens text left.end count → Opens text p (suc count)

-- so many pairs of square brackets stand in one another from one place to another, with nothing in the innermost one
pub data Pairs (text : Bytes) : ℕ → ℕ → ℕ → Type 0 where
  innermost : {p : ℕ} (left right : Token) → StandsAt text (codes "[") p left → StandsAt text (codes "]") left.end right → Pairs text p 1 right.end
  around : {p count q : ℕ} (left right : Token) → StandsAt text (codes "[") p left → Pairs text left.end count q → StandsAt text (codes "]") q right
      → Pairs text p (suc count) right.end

-- A text that begins with as many opening square brackets as may nest has no tree.
abbrev pub TooDeepLaw : Type 0
TooDeepLaw = (text : Bytes) (program : Program) → Opens text 0 MAX_NEST → Parses text program → ⊥

-- A text of fewer pairs of square brackets has one, as a script and as a module.
abbrev pub DeepLaw : Type 0
DeepLaw = (text : Bytes) (goal : ProgramGoal) (count last : ℕ) (end : Token)
    → Pairs text 0 count last → count < MAX_NEST → ((goal : Goal) → KindAt text goal End last end)
    → (items : List ProgramItem) × Parses text (record { goal = goal; items = items })
