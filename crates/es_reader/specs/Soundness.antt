-- That whatever is read stands in the text by the grammar.
use Rattle.std.specs.Prelude.{◌≡◌, ℕ, Some}
use Rattle.es_tree.specs.declared.tokens.Token.{Token}
use Rattle.es_tree.specs.declared.tokens.Goal.TheVariants.{Operand}
use Rattle.es_tree.specs.declared.cycle.Operand.{Operand as OperandTree}
use Rattle.es_grammar.specs.declared.places.Context.{Context}
use Rattle.es_grammar.specs.declared.places.Stop.{Stop}
use Rattle.es_grammar.specs.Reading.{Bytes}
use Rattle.es_grammar.specs.Rules.{Rules}
use Rattle.es_grammar.specs.Operators.{HasPrefix, IsPrivate}
use Rattle.es_reader.specs.Basics.{Reader, Ended, token}
use Rattle.es_reader.specs.Readers.{Readers}
use Rattle.es_reader.specs.declared.pieces.Shape.{Shape}
use Rattle.es_reader.specs.declared.pieces.Shape.TheVariants.{Signed as signed}
use Rattle.es_reader.specs.declared.pieces.Shape.TheVariants.{Private as private}
use Rattle.es_reader.specs.Shapes.{shape_of}

-- each success of a reader is of the rule
abbrev pub Sound : {X : Type 0} → (ℕ → X → ℕ → Type 0) → Reader X → Type 0
Sound {X} rule read = (p : ℕ) (y : X × ℕ) → read p ≡ Some y → rule p y.0 y.1

-- the same where it matters in what it ends
abbrev pub SoundEnded : {X : Type 0} → (ℕ → X → Stop → Type 0) → Ended X → Type 0
SoundEnded {X} rule read = (p : ℕ) (y : X × Stop) → read p ≡ Some y → rule p y.0 y.1

-- an operand with a prefix, or a private name, has the shape that its first token tells
pub record HasShape (shape : Shape) (x : OperandTree) : Type 0 where
  pub prefix : HasPrefix x → shape ≡ signed
  pub private : IsPrivate x → shape ≡ private

-- each reader of what nests is sound for its rule
pub record AreSound (text : Bytes) (r : Rules) (rs : Readers) : Type 0 where
  pub item : (c : Context) → Sound (r.item c) (rs.item c)
  pub stmt : (c : Context) → Sound (r.stmt c) (rs.stmt c)
  pub assign : (c : Context) → SoundEnded (r.assign c) (rs.assign c)
  pub prefixed : (c : Context) → SoundEnded (r.prefixed c) (rs.prefixed c)
  pub shaped : (c : Context) (p : ℕ) (t : Token) (y : OperandTree × Stop) → token text Operand p ≡ Some t → rs.prefixed c p ≡ Some y
      → HasShape (shape_of text c t) y.0
  pub bind_pattern : (c : Context) → Sound (r.bind_pattern c) (rs.bind_pattern c)
  pub target_pattern : (c : Context) → Sound (r.target_pattern c) (rs.target_pattern c)
  pub new : (c : Context) → Sound (r.new c) (rs.new c)
  pub extended : (c : Context) → Sound (r.extended c) (rs.extended c)
