-- Statements, declarations and items (ECMA-262, clause 14).
use Rattle.std.specs.Prelude.{◌≡◌, ℕ, Bool, true, false, List, [], ◌∷◌, Option, Some, None, codes}
use Rattle.es_tree.specs.declared.tokens.Token.{Token}
use Rattle.es_tree.specs.declared.tokens.Goal.TheVariants.{Operand, Operator}
use Rattle.es_tree.specs.declared.parts.Separated.{Separated}
use Rattle.es_tree.specs.declared.parts.Body.{Body}
use Rattle.es_tree.specs.declared.parts.CatchParameter.{CatchParameter}
use Rattle.es_tree.specs.declared.parts.Else.{Else}
use Rattle.es_tree.specs.declared.parts.Finally.{Finally}
use Rattle.es_tree.specs.declared.parts.Initializer.{Initializer}
use Rattle.es_tree.specs.declared.parts.LexOf.{LexOf}
use Rattle.es_tree.specs.declared.parts.VarOf.{VarOf}
use Rattle.es_tree.specs.declared.cycle.Assign.{Assign}
use Rattle.es_tree.specs.declared.cycle.Bind.{Bind}
use Rattle.es_tree.specs.declared.cycle.Bind.TheVariants as bind_v
use Rattle.es_tree.specs.declared.cycle.Case.{Case}
use Rattle.es_tree.specs.declared.cycle.Case.TheVariants as case_v
use Rattle.es_tree.specs.declared.cycle.Class.{Class}
use Rattle.es_tree.specs.declared.cycle.Decl.{Decl, roll-Decl}
use Rattle.es_tree.specs.declared.cycle.For.{For}
use Rattle.es_tree.specs.declared.cycle.For.TheVariants as for_v
use Rattle.es_tree.specs.declared.cycle.Func.{Func}
use Rattle.es_tree.specs.declared.cycle.Head.{Head}
use Rattle.es_tree.specs.declared.cycle.Head.TheVariants as head_v
use Rattle.es_tree.specs.declared.cycle.Init.{Init}
use Rattle.es_tree.specs.declared.cycle.Init.TheVariants as init_v
use Rattle.es_tree.specs.declared.cycle.Item.{Item}
use Rattle.es_tree.specs.declared.cycle.Item.TheVariants as item_v
use Rattle.es_tree.specs.declared.cycle.Stmt.{Stmt}
use Rattle.es_tree.specs.declared.cycle.Stmt.TheVariants as stmt_v
use Rattle.es_tree.specs.declared.cycle.Target.{Target}
use Rattle.es_grammar.specs.declared.places.Context.{Context}
use Rattle.es_grammar.specs.Contexts.{bracketed, without_in}
use Rattle.es_grammar.specs.Reading.{Bytes, IsAt, MarkAt, NameAt, OneOfWordsAt, WordAt, IsOnLine}
use Rattle.es_grammar.specs.declared.places.Stop.{Stop}
use Rattle.es_grammar.specs.Semicolons.{stop, other, SemiAt, FreeSemiAt, IsClosed}
use Rattle.es_grammar.specs.Lists.{Chain, EndedListAt}
use Rattle.es_grammar.specs.Rules.{Rules}
use Rattle.es_grammar.specs.Functions.{BindAt, BodyAt, ClassAt, ClosedItemAt, DeclAt, FuncAt}
use Rattle.es_grammar.specs.Expressions.{Expr, ExprAt, ClosedExprAt}
use Rattle.es_grammar.specs.Targets.{TargetAt}

-- a declared binding: a pattern needs an initialiser, and so does a `const`
pub data DeclaredAt (text : Bytes) (r : Rules) (c : Context) (is_const : Bool) : ℕ → Decl → Stop → Type 0 where
  name : {p : ℕ} {s : Stop} (token : Token) → is_const ≡ false → DeclAt text r c p (roll-Decl (record { bind = bind_v.Name token; initial = None })) s
      → DeclaredAt text r c is_const p (roll-Decl (record { bind = bind_v.Name token; initial = None })) s
  initialised : {p : ℕ} {s : Stop} (x : Bind) (i : Initializer Assign) → DeclAt text r c p (roll-Decl (record { bind = x; initial = Some i })) s
      → DeclaredAt text r c is_const p (roll-Decl (record { bind = x; initial = Some i })) s

-- `let` or `const`, and whether it is `const`
pub data LexicalAt (text : Bytes) : ℕ → Token → Bool → Type 0 where
  let_word : {p : ℕ} (token : Token) → WordAt text Operand (codes "let") p token → LexicalAt text p token false
  const_word : {p : ℕ} (token : Token) → WordAt text Operand (codes "const") p token → LexicalAt text p token true

abbrev pub Lex : Type 0
Lex = LexOf Decl

abbrev pub Var : Type 0
Var = VarOf Decl

-- Lex: (`let` | `const`) Decl/, semi
pub data LexAt (text : Bytes) (r : Rules) (c : Context) : ℕ → Lex → ℕ → Type 0 where
  lex : {p q : ℕ} {s : Stop} (word : Token) {is_const : Bool} (xs : List (Separated Decl)) (semi : Option Token) → LexicalAt text p word is_const
      → EndedListAt text (DeclaredAt text r c is_const) word.end xs s → SemiAt text s semi q
      → LexAt text r c p (record { word = word; decls = xs; semi = semi }) q

-- Var: `var` Decl/, semi
pub data VarAt (text : Bytes) (r : Rules) (c : Context) : ℕ → Var → ℕ → Type 0 where
  var : {p q : ℕ} {s : Stop} (word : Token) (xs : List (Separated Decl)) (semi : Option Token) → WordAt text Operand (codes "var") p word
      → EndedListAt text (DeclaredAt text r c false) word.end xs s → SemiAt text s semi q
      → VarAt text r c p (record { word = word; decls = xs; semi = semi }) q

-- what `for` begins with, where `in` is no operator
pub data InitAt (text : Bytes) (r : Rules) (c : Context) : ℕ → Init → ℕ → Type 0 where
  var : {p : ℕ} {s : Stop} (word : Token) (xs : List (Separated Decl)) → WordAt text Operand (codes "var") p word
      → EndedListAt text (DeclaredAt text r (without_in c) false) word.end xs s → InitAt text r c p (init_v.Var word xs) s.at
  lex : {p : ℕ} {s : Stop} (word : Token) {is_const : Bool} (xs : List (Separated Decl)) → LexicalAt text p word is_const
      → EndedListAt text (DeclaredAt text r (without_in c) is_const) word.end xs s
      → InitAt text r c p (init_v.Lex (record { word = word; decls = xs; semi = None })) s.at
  expr : {p q : ℕ} (x : Expr) → ClosedExprAt text r (without_in c) p x q → InitAt text r c p (init_v.Expr x) q

pub data OptionalInitAt (text : Bytes) (r : Rules) (c : Context) : ℕ → Option Init → ℕ → Type 0 where
  none : {p : ℕ} → OptionalInitAt text r c p None p
  some : {p q : ℕ} (x : Init) → InitAt text r c p x q → OptionalInitAt text r c p (Some x) q

pub data OptionalExprAt (text : Bytes) (r : Rules) (c : Context) : ℕ → Option Expr → ℕ → Type 0 where
  none : {p : ℕ} → OptionalExprAt text r c p None p
  some : {p q : ℕ} (x : Expr) → ClosedExprAt text r (bracketed c) p x q → OptionalExprAt text r c p (Some x) q

unfoldable pub declaration_words : List (List ℕ)
declaration_words = codes "var" ∷ codes "let" ∷ codes "const" ∷ []

-- Head: (`var` | `let` | `const`) Bind | Target
pub data HeadAt (text : Bytes) (r : Rules) (c : Context) : ℕ → Head → ℕ → Type 0 where
  bind : {p q : ℕ} (word : Token) (x : Bind) → OneOfWordsAt text Operand declaration_words p word → BindAt text r c word.end x q
      → HeadAt text r c p (head_v.Bind word x) q
  target : {p q : ℕ} (x : Target) → TargetAt text r c p x q → HeadAt text r c p (head_v.Target x) q

-- `await` behind `for`
pub data ForAwaitAt (text : Bytes) (c : Context) : ℕ → Option Token → ℕ → Type 0 where
  none : {p : ℕ} → ForAwaitAt text c p None p
  word : {p : ℕ} (token : Token) → c.has_await ≡ true → WordAt text Operand (codes "await") p token → ForAwaitAt text c p (Some token) token.end

-- For
pub data ForAt (text : Bytes) (r : Rules) (c : Context) : ℕ → For → ℕ → Type 0 where
  loop : {p a b d q : ℕ} (word left : Token) (init : Option Init) (first : Token) (test : Option Expr) (second : Token) (update : Option Expr)
      (right : Token) (body : Stmt)
      → WordAt text Operand (codes "for") p word
      → MarkAt text Operand (codes "(") word.end left → OptionalInitAt text r c left.end init a → MarkAt text Operator (codes ";") a first
      → OptionalExprAt text r c first.end test b → MarkAt text Operator (codes ";") b second → OptionalExprAt text r c second.end update d
      → MarkAt text Operator (codes ")") d right
      → r.stmt c right.end body q → ForAt text r c p (for_v.Loop word left init first test second update right body) q
  in_object : {p a b q : ℕ} (word left : Token) (head : Head) (middle : Token) (x : Expr) (right : Token) (body : Stmt)
      → WordAt text Operand (codes "for") p word
      → MarkAt text Operand (codes "(") word.end left → HeadAt text r (without_in c) left.end head a → WordAt text Operator (codes "in") a middle
      → ClosedExprAt text r (bracketed c) middle.end x b → MarkAt text Operator (codes ")") b right
      → r.stmt c right.end body q → ForAt text r c p (for_v.In word left head middle x right body) q
  of_iterable : {p a b q : ℕ} {s : Stop} (word : Token) (await : Option Token) (left : Token) (head : Head) (middle : Token) (x : Assign)
      (right : Token) (body : Stmt)
      → WordAt text Operand (codes "for") p word → ForAwaitAt text c word.end await a
      → MarkAt text Operand (codes "(") a left → HeadAt text r (without_in c) left.end head b → WordAt text Operator (codes "of") b middle
      → r.assign (bracketed c) middle.end x s → MarkAt text Operator (codes ")") s.at right
      → r.stmt c right.end body q → ForAt text r c p (for_v.Of word await left head middle x right body) q

-- a clause of `switch`
pub data CaseAt (text : Bytes) (r : Rules) (c : Context) : ℕ → Case → ℕ → Type 0 where
  case : {p a q : ℕ} (word : Token) (x : Expr) (colon : Token) (xs : List Item) → WordAt text Operand (codes "case") p word
      → ClosedExprAt text r (bracketed c) word.end x a → MarkAt text Operator (codes ":") a colon → Chain (ClosedItemAt text r c) colon.end xs q
      → CaseAt text r c p (case_v.Case word x colon xs) q
  default : {p q : ℕ} (word colon : Token) (xs : List Item) → WordAt text Operand (codes "default") p word
      → MarkAt text Operator (codes ":") word.end colon → Chain (ClosedItemAt text r c) colon.end xs q
      → CaseAt text r c p (case_v.Default word colon xs) q

-- clauses of which one at most is `default`
pub data CasesAt (text : Bytes) (r : Rules) (c : Context) : Bool → ℕ → List Case → ℕ → Type 0 where
  none : {seen : Bool} {p : ℕ} → CasesAt text r c seen p [] p
  case : {seen : Bool} {p a q : ℕ} (word : Token) (x : Expr) (colon : Token) (xs : List Item) (rest : List Case)
      → CaseAt text r c p (case_v.Case word x colon xs) a → CasesAt text r c seen a rest q
      → CasesAt text r c seen p (case_v.Case word x colon xs ∷ rest) q
  default : {p a q : ℕ} (word colon : Token) (xs : List Item) (rest : List Case) → CaseAt text r c p (case_v.Default word colon xs) a
      → CasesAt text r c true a rest q → CasesAt text r c false p (case_v.Default word colon xs ∷ rest) q

-- `else` Stmt, wherever `else` stands
pub data ElseAt (text : Bytes) (r : Rules) (c : Context) : ℕ → Option (Else Stmt) → ℕ → Type 0 where
  none : {p : ℕ} → ((token : Token) → WordAt text Operand (codes "else") p token → ⊥) → ElseAt text r c p None p
  word : {p q : ℕ} (token : Token) (x : Stmt) → WordAt text Operand (codes "else") p token → r.stmt c token.end x q
      → ElseAt text r c p (Some (record { word = token; stmt = x })) q

-- a label behind `continue` and `break`, on their line
pub data LabelAt (text : Bytes) (c : Context) : ℕ → Option Token → ℕ → Type 0 where
  none : {p : ℕ} → LabelAt text c p None p
  name : {p : ℕ} (token : Token) → NameAt text Operand c p token → IsOnLine token → LabelAt text c p (Some token) token.end

-- an Expr that begins on the line of the word before it
pub data ExprOnLineAt (text : Bytes) (r : Rules) (c : Context) : ℕ → Expr → Stop → Type 0 where
  expr : {p : ℕ} {s : Stop} (x : Expr) (next : Token) → IsAt text Operand p next → IsOnLine next → ExprAt text r (bracketed c) p x s → IsClosed text s
      → ExprOnLineAt text r c p x s

pub data CatchParameterAt (text : Bytes) (r : Rules) (c : Context) : ℕ → Option (CatchParameter Bind) → ℕ → Type 0 where
  none : {p : ℕ} → CatchParameterAt text r c p None p
  bind : {p q : ℕ} (left : Token) (x : Bind) (right : Token)
      → MarkAt text Operand (codes "(") p left → BindAt text r (bracketed c) left.end x q → MarkAt text Operator (codes ")") q right
      → CatchParameterAt text r c p (Some (record { left = left; bind = x; right = right })) right.end

pub data FinallyAt (text : Bytes) (r : Rules) (c : Context) : ℕ → Finally Item → ℕ → Type 0 where
  finally : {p q : ℕ} (word : Token) (x : Body Item) → WordAt text Operand (codes "finally") p word → BodyAt text r c word.end x q
      → FinallyAt text r c p (record { word = word; block = x }) q

pub data OptionalFinallyAt (text : Bytes) (r : Rules) (c : Context) : ℕ → Option (Finally Item) → ℕ → Type 0 where
  none : {p : ℕ} → OptionalFinallyAt text r c p None p
  some : {p q : ℕ} (x : Finally Item) → FinallyAt text r c p x q → OptionalFinallyAt text r c p (Some x) q

-- `async ~ function` stands here
pub record BeginsAsyncFunction (text : Bytes) (at : ℕ) : Type 0 where
  pub word : Token
  pub function : Token
  pub is_word : WordAt text Operand (codes "async") at word
  pub is_function : WordAt text Operand (codes "function") word.end function
  pub on_line : IsOnLine function

-- what a statement or an export that is an expression doesn't begin with: a declaration
pub record BeginsNoDeclaration (text : Bytes) (at : ℕ) : Type 0 where
  pub no_function : (token : Token) → WordAt text Operand (codes "function") at token → ⊥
  pub no_class : (token : Token) → WordAt text Operand (codes "class") at token → ⊥
  pub no_async : BeginsAsyncFunction text at → ⊥

-- Stmt
pub data StmtAt (text : Bytes) (r : Rules) (c : Context) : ℕ → Stmt → ℕ → Type 0 where
  block : {p q : ℕ} (x : Body Item) → BodyAt text r c p x q → StmtAt text r c p (stmt_v.Block x) q
  empty : {p : ℕ} (token : Token) → MarkAt text Operand (codes ";") p token → StmtAt text r c p (stmt_v.Empty token) token.end
  var : {p q : ℕ} (x : Var) → VarAt text r (bracketed c) p x q → StmtAt text r c p (stmt_v.Var x) q
  if : {p a b q : ℕ} (word left : Token) (x : Expr) (right : Token) (body : Stmt) (otherwise : Option (Else Stmt))
      → WordAt text Operand (codes "if") p word
      → MarkAt text Operand (codes "(") word.end left → ClosedExprAt text r (bracketed c) left.end x a → MarkAt text Operator (codes ")") a right
      → r.stmt c right.end body b → ElseAt text r c b otherwise q → StmtAt text r c p (stmt_v.If word left x right body otherwise) q
  for : {p q : ℕ} (x : For) → ForAt text r c p x q → StmtAt text r c p (stmt_v.For x) q
  while : {p a q : ℕ} (word left : Token) (x : Expr) (right : Token) (body : Stmt) → WordAt text Operand (codes "while") p word
      → MarkAt text Operand (codes "(") word.end left → ClosedExprAt text r (bracketed c) left.end x a → MarkAt text Operator (codes ")") a right
      → r.stmt c right.end body q → StmtAt text r c p (stmt_v.While word left x right body) q
  do_while : {p a b q : ℕ} (word : Token) (body : Stmt) (while_word left : Token) (x : Expr) (right : Token) (semi : Option Token)
      → WordAt text Operand (codes "do") p word → r.stmt c word.end body a → WordAt text Operand (codes "while") a while_word
      → MarkAt text Operand (codes "(") while_word.end left → ClosedExprAt text r (bracketed c) left.end x b
      → MarkAt text Operator (codes ")") b right
      → FreeSemiAt text right.end semi q → StmtAt text r c p (stmt_v.Do word body while_word left x right semi) q
  continue : {p a q : ℕ} (word : Token) (label semi : Option Token) → WordAt text Operand (codes "continue") p word → LabelAt text c word.end label a
      → SemiAt text (stop a other) semi q → StmtAt text r c p (stmt_v.Continue word label semi) q
  break : {p a q : ℕ} (word : Token) (label semi : Option Token) → WordAt text Operand (codes "break") p word → LabelAt text c word.end label a
      → SemiAt text (stop a other) semi q → StmtAt text r c p (stmt_v.Break word label semi) q
  return : {p q : ℕ} (word : Token) (semi : Option Token) → c.has_return ≡ true → WordAt text Operand (codes "return") p word
      → SemiAt text (stop word.end other) semi q → StmtAt text r c p (stmt_v.Return word None semi) q
  return_value : {p q : ℕ} {s : Stop} (word : Token) (x : Expr) (semi : Option Token) → c.has_return ≡ true
      → WordAt text Operand (codes "return") p word → ExprOnLineAt text r c word.end x s → SemiAt text s semi q
      → StmtAt text r c p (stmt_v.Return word (Some x) semi) q
  with : {p a q : ℕ} (word left : Token) (x : Expr) (right : Token) (body : Stmt) → WordAt text Operand (codes "with") p word
      → MarkAt text Operand (codes "(") word.end left → ClosedExprAt text r (bracketed c) left.end x a → MarkAt text Operator (codes ")") a right
      → r.stmt c right.end body q → StmtAt text r c p (stmt_v.With word left x right body) q
  switch : {p a b : ℕ} (word left : Token) (x : Expr) (right brace : Token) (cases : List Case) (last : Token)
      → WordAt text Operand (codes "switch") p word
      → MarkAt text Operand (codes "(") word.end left → ClosedExprAt text r (bracketed c) left.end x a → MarkAt text Operator (codes ")") a right
      → MarkAt text Operand (codes "{") right.end brace → CasesAt text r c false brace.end cases b → MarkAt text Operand (codes "}") b last
      → StmtAt text r c p (stmt_v.Switch word left x right brace cases last) last.end
  labelled : {p q : ℕ} (name colon : Token) (body : Stmt) → NameAt text Operand c p name → MarkAt text Operator (codes ":") name.end colon
      → r.stmt c colon.end body q → StmtAt text r c p (stmt_v.Labelled name colon body) q
  throw : {p q : ℕ} {s : Stop} (word : Token) (x : Expr) (semi : Option Token) → WordAt text Operand (codes "throw") p word
      → ExprOnLineAt text r c word.end x s → SemiAt text s semi q → StmtAt text r c p (stmt_v.Throw word x semi) q
  try_catch : {p a b d q : ℕ} (word : Token) (body : Body Item) (catch_word : Token) (parameter : Option (CatchParameter Bind)) (handler : Body Item)
      (last : Option (Finally Item))
      → WordAt text Operand (codes "try") p word → BodyAt text r c word.end body a → WordAt text Operand (codes "catch") a catch_word
      → CatchParameterAt text r c catch_word.end parameter b → BodyAt text r c b handler d → OptionalFinallyAt text r c d last q
      → StmtAt text r c p (stmt_v.TryCatch word body catch_word parameter handler last) q
  try_finally : {p a q : ℕ} (word : Token) (body : Body Item) (last : Finally Item) → WordAt text Operand (codes "try") p word
      → BodyAt text r c word.end body a → FinallyAt text r c a last q → StmtAt text r c p (stmt_v.TryFinally word body last) q
  debugger : {p q : ℕ} (word : Token) (semi : Option Token) → WordAt text Operand (codes "debugger") p word → SemiAt text (stop word.end other) semi q
      → StmtAt text r c p (stmt_v.Debugger word semi) q
  expr : {p q : ℕ} {s : Stop} (x : Expr) (semi : Option Token)
      → ((token : Token) → MarkAt text Operand (codes "{") p token → ⊥) → BeginsNoDeclaration text p → ExprAt text r (bracketed c) p x s
      → IsClosed text s → SemiAt text s semi q → StmtAt text r c p (stmt_v.Expr x semi) q

-- Item: Stmt | Lex | Func | Class. An Item that is a Stmt counts once for the nest.
pub data ItemAt (text : Bytes) (r : Rules) (c : Context) : ℕ → Item → ℕ → Type 0 where
  stmt : {p q : ℕ} (x : Stmt) → StmtAt text r c p x q → ItemAt text r c p (item_v.Stmt x) q
  lex : {p q : ℕ} (x : Lex) → LexAt text r (bracketed c) p x q → ItemAt text r c p (item_v.Lex x) q
  func : {p q : ℕ} (x : Func) → FuncAt text r c true p x q → ItemAt text r c p (item_v.Func x) q
  class : {p q : ℕ} (x : Class) → ClassAt text r c true p x q → ItemAt text r c p (item_v.Class x) q
