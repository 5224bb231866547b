-- Operators, conditions and assignments (ECMA-262, clauses 13.4 to 13.15 and 15.5).
use Rattle.std.specs.Prelude.{◌≡◌, ◌≢◌, ℕ, Bool, true, false, ◌&&◌, List, [], ◌∷◌, Option, Some, None, codes, ⊤}
use Rattle.std.specs.List.{list_any}
use Rattle.std.specs.Str.{bytes_eq}
use Rattle.es_tree.specs.declared.tokens.Token.{Token}
use Rattle.es_tree.specs.declared.tokens.TokenKind.TheVariants as kind
use Rattle.es_tree.specs.declared.tokens.Goal.TheVariants.{Operand as AtOperand, Operator as AtOperator}
use Rattle.es_tree.specs.declared.parts.Joined.{Joined}
use Rattle.es_tree.specs.declared.parts.Yielded.{Yielded}
use Rattle.es_tree.specs.declared.parts.BinaryOf.{BinaryOf}
use Rattle.es_tree.specs.declared.cycle.Arrow.{Arrow}
use Rattle.es_tree.specs.declared.cycle.Assign.{Assign}
use Rattle.es_tree.specs.declared.cycle.Assign.TheVariants as assign_v
use Rattle.es_tree.specs.declared.cycle.Cond.{Cond, roll-Cond}
use Rattle.es_tree.specs.declared.cycle.LHS.{LHS}
use Rattle.es_tree.specs.declared.cycle.Operand.{Operand}
use Rattle.es_tree.specs.declared.cycle.Operand.TheVariants as operand_v
use Rattle.es_tree.specs.declared.cycle.Target.{Target}
use Rattle.es_grammar.specs.declared.places.Context.{Context}
use Rattle.es_grammar.specs.Contexts.{bracketed}
use Rattle.es_grammar.specs.Reading.{Bytes, IsAt, KindAt, MarkAt, OneOfMarksAt, OneOfWordsAt, WordAt, IsOnLine, spelled}
use Rattle.es_grammar.specs.declared.places.Stop.{Stop}
use Rattle.es_grammar.specs.Semicolons.{stop, block_arrow, postfix, expression, binary_marks, assignment_marks}
use Rattle.es_grammar.specs.Rules.{Rules}
use Rattle.es_grammar.specs.Functions.{ArrowAt}
use Rattle.es_grammar.specs.Expressions.{LHSAt}
use Rattle.es_grammar.specs.Targets.{SimpleTargetAt, TargetAt}

unfoldable pub prefix_words : List (List ℕ)
prefix_words = codes "delete" ∷ codes "void" ∷ codes "typeof" ∷ []

unfoldable pub prefix_marks : List (List ℕ)
prefix_marks = codes "+" ∷ codes "-" ∷ codes "~" ∷ codes "!" ∷ []

unfoldable pub update_marks : List (List ℕ)
update_marks = codes "++" ∷ codes "--" ∷ []

-- Operand
pub data OperandAt (text : Bytes) (r : Rules) (c : Context) : ℕ → Operand → Stop → Type 0 where
  prefixed : {p : ℕ} {s : Stop} (x : Operand) → r.prefixed c p x s → OperandAt text r c p x s
  lhs : {p q : ℕ} (x : LHS) → LHSAt text r c p x q → OperandAt text r c p (operand_v.LHS x) (stop q expression)
  postfix_of : {p q : ℕ} (x : Target) (token : Token) → SimpleTargetAt text r c p x q → OneOfMarksAt text AtOperator update_marks q token
      → IsOnLine token → OperandAt text r c p (operand_v.Postfix x token) (stop token.end postfix)

-- an Operand with a prefix
pub data PrefixedAt (text : Bytes) (r : Rules) (c : Context) : ℕ → Operand → Stop → Type 0 where
  word : {p : ℕ} {s : Stop} (token : Token) (x : Operand) → OneOfWordsAt text AtOperand prefix_words p token → OperandAt text r c token.end x s
      → PrefixedAt text r c p (operand_v.Prefix token x) s
  mark : {p : ℕ} {s : Stop} (token : Token) (x : Operand) → OneOfMarksAt text AtOperand prefix_marks p token → OperandAt text r c token.end x s
      → PrefixedAt text r c p (operand_v.Prefix token x) s
  await : {p : ℕ} {s : Stop} (token : Token) (x : Operand) → c.has_await ≡ true → WordAt text AtOperand (codes "await") p token
      → OperandAt text r c token.end x s → PrefixedAt text r c p (operand_v.Await token x) s
  update : {p q : ℕ} (token : Token) (x : Target) → OneOfMarksAt text AtOperand update_marks p token → SimpleTargetAt text r c token.end x q
      → PrefixedAt text r c p (operand_v.Update token x) (stop q expression)

-- BinOp: `in` where it is an operator
pub data OperatorAt (text : Bytes) (c : Context) : ℕ → Token → Type 0 where
  mark : {p : ℕ} (token : Token) → OneOfMarksAt text AtOperator binary_marks p token → OperatorAt text c p token
  instance : {p : ℕ} (token : Token) → WordAt text AtOperator (codes "instanceof") p token → OperatorAt text c p token
  member : {p : ℕ} (token : Token) → c.has_in ≡ true → WordAt text AtOperator (codes "in") p token → OperatorAt text c p token

-- an operand of a list, which may be a private name; where that may stand is asked of the whole list
pub data ListedAt (text : Bytes) (r : Rules) (c : Context) : ℕ → Operand → Stop → Type 0 where
  operand : {p : ℕ} {s : Stop} (x : Operand) → OperandAt text r c p x s → ListedAt text r c p x s
  private : {p : ℕ} (token : Token) → KindAt text AtOperand kind.Private p token
      → ListedAt text r c p (operand_v.Private token) (stop token.end expression)

-- operators with operands, behind a first one
pub data JoinedAt (text : Bytes) (r : Rules) (c : Context) : Stop → List (Joined Operand) → Stop → Type 0 where
  none : {s : Stop} → JoinedAt text r c s [] s
  more : {s a z : Stop} (op : Token) (x : Operand) (xs : List (Joined Operand)) → OperatorAt text c s.at op → ListedAt text r c op.end x a
      → JoinedAt text r c a xs z → JoinedAt text r c s (record { op = op; operand = x } ∷ xs) z

-- some operator is spelled so
abbrev pub has_operator : Bytes → List (List ℕ) → List (Joined Operand) → Bool
has_operator text marks xs = list_any (λ x. list_any (bytes_eq (spelled text x.op)) marks) xs

pub data IsPrivate : Operand → Type 0 where
  private : (token : Token) → IsPrivate (operand_v.Private token)

-- a prefix word or sign, which may not stand before `**`
pub data HasPrefix : Operand → Type 0 where
  prefix : (token : Token) (x : Operand) → HasPrefix (operand_v.Prefix token x)
  await : (token : Token) (x : Operand) → HasPrefix (operand_v.Await token x)

-- the operators behind which a private name may begin `#x in y`: they bind less than `in`
unfoldable pub loose_marks : List (List ℕ)
loose_marks = codes "==" ∷ codes "!=" ∷ codes "===" ∷ codes "!==" ∷ codes "&" ∷ codes "^" ∷ codes "|" ∷ codes "&&" ∷ codes "||" ∷ codes "??" ∷ []

-- an operand, the operator before it, if any, and that behind it
pub record FitsBetween (text : Bytes) (before : Option Token) (x : Operand) (behind : Option Token) : Type 0 where
  pub power : HasPrefix x → (token : Token) → behind ≡ Some token → bytes_eq (spelled text token) (codes "**") ≡ false
  pub private_before : IsPrivate x → (token : Token) → behind ≡ Some token → bytes_eq (spelled text token) (codes "in") ≡ true
  pub private_followed : IsPrivate x → behind ≢ None
  pub private_behind : IsPrivate x → (token : Token) → before ≡ Some token → list_any (bytes_eq (spelled text token)) loose_marks ≡ true

abbrev pub next_operator : List (Joined Operand) → Option Token
next_operator [] = None
next_operator (x ∷ xs) = Some x.op

abbrev pub AllFit : Bytes → List (Joined Operand) → Type 0
AllFit text [] = ⊤
AllFit text (x ∷ xs) = FitsBetween text (Some x.op) x.operand (next_operator xs) × AllFit text xs

-- Binary: Operand (BinOp Operand)*; `??` doesn't stand with `||` or `&&`
pub data BinaryAt (text : Bytes) (r : Rules) (c : Context) : ℕ → BinaryOf Operand → Stop → Type 0 where
  binary : {p : ℕ} {s z : Stop} (x : Operand) (xs : List (Joined Operand)) → ListedAt text r c p x s → JoinedAt text r c s xs z
      → FitsBetween text None x (next_operator xs) → AllFit text xs
      → has_operator text (codes "??" ∷ []) xs && has_operator text (codes "||" ∷ codes "&&" ∷ []) xs ≡ false
      → BinaryAt text r c p (record { first = x; more = xs }) z

-- Cond: Binary (`?` Assign `:` Assign)?
pub data CondAt (text : Bytes) (r : Rules) (c : Context) : ℕ → Cond → Stop → Type 0 where
  test : {p : ℕ} {s : Stop} (x : BinaryOf Operand) → BinaryAt text r c p x s → CondAt text r c p (roll-Cond (record { test = x; arms = None })) s
  choice : {p : ℕ} {s a z : Stop} (x : BinaryOf Operand) (question : Token) (when_true : Assign) (colon : Token) (when_false : Assign)
      → BinaryAt text r c p x s → MarkAt text AtOperator (codes "?") s.at question → r.assign (bracketed c) question.end when_true a
      → MarkAt text AtOperator (codes ":") a.at colon → r.assign c colon.end when_false z
      → CondAt text r c p (roll-Cond (record {
        test = x;
        arms = Some (record { question = question; when_true = when_true; colon = colon; when_false = when_false });
      })) z

-- `*`? Assign behind `yield`, on its line
pub data YieldedAt (text : Bytes) (r : Rules) (c : Context) : ℕ → Yielded Assign → Stop → Type 0 where
  plain : {p : ℕ} {s : Stop} (x : Assign) (next : Token) → IsAt text AtOperand p next → IsOnLine next → r.assign c p x s
      → YieldedAt text r c p (record { star = None; value = x }) s
  delegated : {p : ℕ} {s : Stop} (star : Token) (x : Assign) → MarkAt text AtOperand (codes "*") p star → IsOnLine star → r.assign c star.end x s
      → YieldedAt text r c p (record { star = Some star; value = x }) s

-- Assign
pub data AssignAt (text : Bytes) (r : Rules) (c : Context) : ℕ → Assign → Stop → Type 0 where
  cond : {p : ℕ} {s : Stop} (x : Cond) → CondAt text r c p x s → AssignAt text r c p (assign_v.Cond x) s
  arrow : {p : ℕ} {s : Stop} (x : Arrow) → ArrowAt text r c p x s → AssignAt text r c p (assign_v.Arrow x) s
  set : {p q : ℕ} {s : Stop} (x : Target) (op : Token) (value : Assign) → TargetAt text r c p x q → MarkAt text AtOperator (codes "=") q op
      → r.assign c op.end value s → AssignAt text r c p (assign_v.Set x op value) s
  compound : {p q : ℕ} {s : Stop} (x : Target) (op : Token) (value : Assign) → SimpleTargetAt text r c p x q
      → OneOfMarksAt text AtOperator assignment_marks q op → r.assign c op.end value s → AssignAt text r c p (assign_v.Compound x op value) s
  yield_alone : {p : ℕ} (word : Token) → c.has_yield ≡ true → WordAt text AtOperand (codes "yield") p word
      → AssignAt text r c p (assign_v.Yield word None) (stop word.end block_arrow)
  yield : {p : ℕ} {s : Stop} (word : Token) (x : Yielded Assign) → c.has_yield ≡ true → WordAt text AtOperand (codes "yield") p word
      → YieldedAt text r c word.end x s → AssignAt text r c p (assign_v.Yield word (Some x)) s
