-- Expressions (ECMA-262, clause 13).
use Rattle.std.specs.Prelude.{◌≡◌, ℕ, Bool, true, false, not, List, [], ◌∷◌, Option, Some, None, codes, if◌then◌else◌}
use Rattle.std.specs.List.{ends_with, starts_with, list_any, list_all}
use Rattle.std.specs.Prelude.{nat_eq}
use Rattle.es_tree.specs.declared.tokens.Token.{Token}
use Rattle.es_tree.specs.declared.tokens.TokenKind.TheVariants as kind
use Rattle.es_tree.specs.declared.tokens.Goal.{Goal}
use Rattle.es_tree.specs.declared.tokens.Goal.TheVariants.{Operand as AtOperand, Operator as AtOperator, Template as AtTemplate}
use Rattle.es_tree.specs.declared.parts.Separated.{Separated}
use Rattle.es_tree.specs.declared.parts.Argument.{Argument}
use Rattle.es_tree.specs.declared.parts.SecondArgument.{SecondArgument}
use Rattle.es_tree.specs.declared.parts.Piece.{Piece}
use Rattle.es_tree.specs.declared.parts.Template.{Template}
use Rattle.es_tree.specs.declared.parts.ExprOf.{ExprOf}
use Rattle.es_tree.specs.declared.parts.ArgsOf.{ArgsOf}
use Rattle.es_tree.specs.declared.parts.SuffixOf.{SuffixOf}
use Rattle.es_tree.specs.declared.parts.SuffixOf.TheVariants as suffix_v
use Rattle.es_tree.specs.declared.parts.KeyOf.{KeyOf}
use Rattle.es_tree.specs.declared.cycle.Assign.{Assign}
use Rattle.es_tree.specs.declared.cycle.Func.{Func}
use Rattle.es_tree.specs.declared.cycle.Class.{Class}
use Rattle.es_tree.specs.declared.cycle.Method.{Method}
use Rattle.es_tree.specs.declared.cycle.Member.{Member}
use Rattle.es_tree.specs.declared.cycle.Member.TheVariants as member_v
use Rattle.es_tree.specs.declared.cycle.Primary.{Primary}
use Rattle.es_tree.specs.declared.cycle.Primary.TheVariants as primary_v
use Rattle.es_tree.specs.declared.cycle.Base.{Base}
use Rattle.es_tree.specs.declared.cycle.Base.TheVariants as base_v
use Rattle.es_tree.specs.declared.cycle.LHS.{LHS, roll-LHS}
use Rattle.es_grammar.specs.declared.places.Context.{Context}
use Rattle.es_grammar.specs.Contexts.{bracketed}
use Rattle.es_grammar.specs.Reading.{Bytes, KindAt, MarkAt, NameAt, OneOfWordsAt, WordAt, spelled}
use Rattle.es_grammar.specs.declared.places.Stop.{Stop}
use Rattle.es_grammar.specs.Semicolons.{IsClosed}
use Rattle.es_grammar.specs.Lists.{Chain, ElementsAt, EndedListAt, ListAt}
use Rattle.es_grammar.specs.Rules.{Rules}
use Rattle.es_grammar.specs.Functions.{ClassAt, FuncAt, KeyAt, MethodAt}

abbrev pub Expr : Type 0
Expr = ExprOf Assign

-- Expr: Assign/,
pub data ExprAt (text : Bytes) (r : Rules) (c : Context) : ℕ → Expr → Stop → Type 0 where
  expr : {p : ℕ} {s : Stop} (xs : List (Separated Assign)) → EndedListAt text (r.assign c) p xs s → ExprAt text r c p (record { list = xs }) s

-- an Expr is closed: within a whole text this follows from what stands behind it
pub data ClosedExprAt (text : Bytes) (r : Rules) (c : Context) : ℕ → Expr → ℕ → Type 0 where
  closed : {p : ℕ} {s : Stop} (x : Expr) → ExprAt text r c p x s → IsClosed text s → ClosedExprAt text r c p x s.at

-- a template token that ends with `${`, so that an expression follows
abbrev pub opens : Bytes → Token → Bool
opens text token = ends_with nat_eq (spelled text token) (codes "${")

-- a template token that goes on behind an expression
pub record PieceAt (text : Bytes) (at : ℕ) (token : Token) : Type 0 where
  pub is : KindAt text AtTemplate kind.Template at token
  pub goes_on : starts_with nat_eq (spelled text token) (codes "}") ≡ true

-- the expressions of a template, each with the template token behind it
pub data PiecesAt (text : Bytes) (r : Rules) (c : Context) : ℕ → List (Piece Expr) → ℕ → Type 0 where
  last : {p a : ℕ} (x : Expr) (token : Token) → ClosedExprAt text r (bracketed c) p x a → PieceAt text a token → opens text token ≡ false
      → PiecesAt text r c p (record { expr = x; next = token } ∷ []) token.end
  more : {p a q : ℕ} (x : Expr) (token : Token) (xs : List (Piece Expr)) → ClosedExprAt text r (bracketed c) p x a → PieceAt text a token
      → opens text token ≡ true → PiecesAt text r c token.end xs q → PiecesAt text r c p (record { expr = x; next = token } ∷ xs) q

-- Template, whose first token is read at a goal
pub data TemplateAt (text : Bytes) (r : Rules) (c : Context) (goal : Goal) : ℕ → Template Expr → ℕ → Type 0 where
  whole : {p : ℕ} (token : Token) → KindAt text goal kind.Template p token → opens text token ≡ false
      → TemplateAt text r c goal p (record { head = token; more = [] }) token.end
  pieces : {p q : ℕ} (token : Token) (xs : List (Piece Expr)) → KindAt text goal kind.Template p token → opens text token ≡ true
      → PiecesAt text r c token.end xs q → TemplateAt text r c goal p (record { head = token; more = xs }) q

-- `...`? Assign
pub data ArgumentAt (text : Bytes) (r : Rules) (c : Context) : ℕ → Argument Assign → ℕ → Type 0 where
  plain : {p : ℕ} {s : Stop} (x : Assign) → r.assign (bracketed c) p x s → ArgumentAt text r c p (record { spread = None; value = x }) s.at
  spread : {p : ℕ} {s : Stop} (dots : Token) (x : Assign) → MarkAt text AtOperand (codes "...") p dots → r.assign (bracketed c) dots.end x s
      → ArgumentAt text r c p (record { spread = Some dots; value = x }) s.at

-- Args
pub data ArgsAt (text : Bytes) (r : Rules) (c : Context) : ℕ → ArgsOf Assign → ℕ → Type 0 where
  args : {p q : ℕ} (left : Token) (xs : List (Separated (Argument Assign))) (right : Token)
      → MarkAt text AtOperator (codes "(") p left → ListAt text (ArgumentAt text r c) left.end xs q → MarkAt text AtOperator (codes ")") q right
      → ArgsAt text r c p (record { left = left; list = xs; right = right }) right.end

-- suffixes of LHS
pub data SuffixAt (text : Bytes) (r : Rules) (c : Context) : ℕ → SuffixOf Assign → ℕ → Type 0 where
  dot : {p : ℕ} (mark name : Token) → MarkAt text AtOperator (codes ".") p mark → KindAt text AtOperand kind.IdName mark.end name
      → SuffixAt text r c p (suffix_v.Dot mark name) name.end
  private : {p : ℕ} (mark name : Token) → MarkAt text AtOperator (codes ".") p mark → KindAt text AtOperand kind.Private mark.end name
      → SuffixAt text r c p (suffix_v.Private mark name) name.end
  index : {p q : ℕ} (left : Token) (x : Expr) (right : Token)
      → MarkAt text AtOperator (codes "[") p left → ClosedExprAt text r (bracketed c) left.end x q → MarkAt text AtOperator (codes "]") q right
      → SuffixAt text r c p (suffix_v.Index left x right) right.end
  args : {p q : ℕ} (x : ArgsOf Assign) → ArgsAt text r c p x q → SuffixAt text r c p (suffix_v.Args x) q
  template : {p q : ℕ} (x : Template Expr) → TemplateAt text r c AtOperator p x q → SuffixAt text r c p (suffix_v.Template x) q
  optional_dot : {p : ℕ} (mark name : Token) → MarkAt text AtOperator (codes "?.") p mark → KindAt text AtOperand kind.IdName mark.end name
      → SuffixAt text r c p (suffix_v.OptionalDot mark name) name.end
  optional_private : {p : ℕ} (mark name : Token) → MarkAt text AtOperator (codes "?.") p mark → KindAt text AtOperand kind.Private mark.end name
      → SuffixAt text r c p (suffix_v.OptionalPrivate mark name) name.end
  optional_index : {p q : ℕ} (mark left : Token) (x : Expr) (right : Token) → MarkAt text AtOperator (codes "?.") p mark
      → MarkAt text AtOperand (codes "[") mark.end left → ClosedExprAt text r (bracketed c) left.end x q → MarkAt text AtOperator (codes "]") q right
      → SuffixAt text r c p (suffix_v.OptionalIndex mark left x right) right.end
  optional_args : {p q : ℕ} (mark : Token) (x : ArgsOf Assign) → MarkAt text AtOperator (codes "?.") p mark → ArgsAt text r c mark.end x q
      → SuffixAt text r c p (suffix_v.OptionalArgs mark x) q

-- a suffix of a member expression: no call, and nothing behind `?.`
abbrev pub is_member : SuffixOf Assign → Bool
is_member (suffix_v.Dot mark name) = true
is_member (suffix_v.Private mark name) = true
is_member (suffix_v.Index left x right) = true
is_member (suffix_v.Template x) = true
is_member _ = false

-- it stands behind `?.`
abbrev pub is_optional : SuffixOf Assign → Bool
is_optional (suffix_v.OptionalDot mark name) = true
is_optional (suffix_v.OptionalPrivate mark name) = true
is_optional (suffix_v.OptionalIndex mark left x right) = true
is_optional (suffix_v.OptionalArgs mark x) = true
is_optional _ = false

-- what may stand first behind `super`
abbrev pub follows_super : SuffixOf Assign → Bool
follows_super (suffix_v.Dot mark name) = true
follows_super (suffix_v.Index left x right) = true
follows_super (suffix_v.Args x) = true
follows_super _ = false

abbrev pub is_template : SuffixOf Assign → Bool
is_template (suffix_v.Template x) = true
is_template _ = false

-- no template stands behind `?.` in one chain of suffixes
abbrev pub has_plain_templates : List (SuffixOf Assign) → Bool
has_plain_templates [] = true
has_plain_templates (x ∷ xs) = if is_optional x then not (list_any is_template xs) else has_plain_templates xs

-- a member of an object
pub data MemberAt (text : Bytes) (r : Rules) (c : Context) : ℕ → Member → ℕ → Type 0 where
  shorthand : {p : ℕ} (token : Token) → NameAt text AtOperand c p token → MemberAt text r c p (member_v.Shorthand token) token.end
  pair : {p q : ℕ} {s : Stop} (x : KeyOf Assign) (colon : Token) (value : Assign) → KeyAt text r c p x q → MarkAt text AtOperator (codes ":") q colon
      → r.assign (bracketed c) colon.end value s → MemberAt text r c p (member_v.Pair x colon value) s.at
  method : {p q : ℕ} (x : Method) → MethodAt text r c (KeyAt text r c) p x q → MemberAt text r c p (member_v.Method x) q
  spread : {p : ℕ} {s : Stop} (dots : Token) (x : Assign) → MarkAt text AtOperand (codes "...") p dots → r.assign (bracketed c) dots.end x s
      → MemberAt text r c p (member_v.Spread dots x) s.at

unfoldable pub literal_words : List (List ℕ)
literal_words = codes "null" ∷ codes "true" ∷ codes "false" ∷ []

-- Primary
pub data PrimaryAt (text : Bytes) (r : Rules) (c : Context) : ℕ → Primary → ℕ → Type 0 where
  this : {p : ℕ} (token : Token) → WordAt text AtOperand (codes "this") p token → PrimaryAt text r c p (primary_v.This token) token.end
  name : {p : ℕ} (token : Token) → NameAt text AtOperand c p token → PrimaryAt text r c p (primary_v.Name token) token.end
  word : {p : ℕ} (token : Token) → OneOfWordsAt text AtOperand literal_words p token → PrimaryAt text r c p (primary_v.Literal token) token.end
  number : {p : ℕ} (token : Token) → KindAt text AtOperand kind.Number p token → PrimaryAt text r c p (primary_v.Literal token) token.end
  string : {p : ℕ} (token : Token) → KindAt text AtOperand kind.String p token → PrimaryAt text r c p (primary_v.Literal token) token.end
  template : {p q : ℕ} (x : Template Expr) → TemplateAt text r c AtOperand p x q → PrimaryAt text r c p (primary_v.Template x) q
  regex : {p : ℕ} (token : Token) → KindAt text AtOperand kind.Regex p token → PrimaryAt text r c p (primary_v.Regex token) token.end
  array : {p q : ℕ} (left : Token) (xs : List (Separated (Option (Argument Assign)))) (right : Token)
      → MarkAt text AtOperand (codes "[") p left → ElementsAt text (ArgumentAt text r c) left.end xs q → MarkAt text AtOperator (codes "]") q right
      → PrimaryAt text r c p (primary_v.Array left xs right) right.end
  object : {p q : ℕ} (left : Token) (xs : List (Separated Member)) (right : Token)
      → MarkAt text AtOperand (codes "{") p left → ListAt text (MemberAt text r c) left.end xs q → MarkAt text AtOperator (codes "}") q right
      → PrimaryAt text r c p (primary_v.Object left xs right) right.end
  func : {p q : ℕ} (x : Func) → FuncAt text r c false p x q → PrimaryAt text r c p (primary_v.Func x) q
  class : {p q : ℕ} (x : Class) → ClassAt text r c false p x q → PrimaryAt text r c p (primary_v.Class x) q
  paren : {p q : ℕ} (left : Token) (x : Expr) (right : Token)
      → MarkAt text AtOperand (codes "(") p left → ClosedExprAt text r (bracketed c) left.end x q → MarkAt text AtOperator (codes ")") q right
      → PrimaryAt text r c p (primary_v.Paren left x right) right.end

pub data SecondArgumentAt (text : Bytes) (r : Rules) (c : Context) : ℕ → Option (SecondArgument Assign) → ℕ → Type 0 where
  none : {p : ℕ} → SecondArgumentAt text r c p None p
  some : {p : ℕ} {s : Stop} (comma : Token) (x : Assign) → MarkAt text AtOperator (codes ",") p comma → r.assign (bracketed c) comma.end x s
      → SecondArgumentAt text r c p (Some (record { comma = comma; value = x })) s.at

pub data CommaAt (text : Bytes) : ℕ → Option Token → ℕ → Type 0 where
  none : {p : ℕ} → CommaAt text p None p
  some : {p : ℕ} (comma : Token) → MarkAt text AtOperator (codes ",") p comma → CommaAt text p (Some comma) comma.end

-- what an LHS begins with, but `super`
pub data BaseAt (text : Bytes) (r : Rules) (c : Context) : ℕ → Base → ℕ → Type 0 where
  primary : {p q : ℕ} (x : Primary) → PrimaryAt text r c p x q → BaseAt text r c p (base_v.Primary x) q
  new : {p q : ℕ} (x : Base) → r.new c p x q → BaseAt text r c p x q
  new_target : {p : ℕ} (word mark name : Token) → WordAt text AtOperand (codes "new") p word → MarkAt text AtOperand (codes ".") word.end mark
      → WordAt text AtOperand (codes "target") mark.end name → BaseAt text r c p (base_v.NewTarget word mark name) name.end
  import_meta : {p : ℕ} (word mark name : Token) → WordAt text AtOperand (codes "import") p word → MarkAt text AtOperand (codes ".") word.end mark
      → WordAt text AtOperand (codes "meta") mark.end name → BaseAt text r c p (base_v.ImportMeta word mark name) name.end

pub data ImportCallAt (text : Bytes) (r : Rules) (c : Context) : ℕ → Base → ℕ → Type 0 where
  call : {p a b : ℕ} {s : Stop} (word left : Token) (x : Assign) (second : Option (SecondArgument Assign)) (comma : Option Token) (right : Token)
      → WordAt text AtOperand (codes "import") p word
      → MarkAt text AtOperand (codes "(") word.end left → r.assign (bracketed c) left.end x s → SecondArgumentAt text r c s.at second a
      → CommaAt text a comma b → MarkAt text AtOperator (codes ")") b right
      → ImportCallAt text r c p (base_v.Import word left x second comma right) right.end

-- LHS: a base and suffixes
pub data LHSAt (text : Bytes) (r : Rules) (c : Context) : ℕ → LHS → ℕ → Type 0 where
  base : {p a q : ℕ} (x : Base) (xs : List (SuffixOf Assign)) → BaseAt text r c p x a → Chain (SuffixAt text r c) a xs q
      → has_plain_templates xs ≡ true → LHSAt text r c p (roll-LHS (record { base = x; suffixes = xs })) q
  import_call : {p a q : ℕ} (x : Base) (xs : List (SuffixOf Assign)) → ImportCallAt text r c p x a → Chain (SuffixAt text r c) a xs q
      → has_plain_templates xs ≡ true → LHSAt text r c p (roll-LHS (record { base = x; suffixes = xs })) q
  super : {p q : ℕ} (word : Token) (x : SuffixOf Assign) (xs : List (SuffixOf Assign)) → WordAt text AtOperand (codes "super") p word
      → follows_super x ≡ true → Chain (SuffixAt text r c) word.end (x ∷ xs) q → has_plain_templates xs ≡ true
      → LHSAt text r c p (roll-LHS (record { base = base_v.Super word; suffixes = x ∷ xs })) q

-- no suffix that a callee of `new` may have stands here
pub record HasNoMember (text : Bytes) (at : ℕ) : Type 0 where
  pub no_dot : (token : Token) → MarkAt text AtOperator (codes ".") at token → ⊥
  pub no_index : (token : Token) → MarkAt text AtOperator (codes "[") at token → ⊥
  pub no_template : (token : Token) → KindAt text AtOperator kind.Template at token → ⊥

-- the callee of `new`: it takes each suffix that it may have
pub data CalleeAt (text : Bytes) (r : Rules) (c : Context) : ℕ → LHS → ℕ → Type 0 where
  base : {p a q : ℕ} (x : Base) (xs : List (SuffixOf Assign)) → BaseAt text r c p x a → Chain (SuffixAt text r c) a xs q
      → list_all is_member xs ≡ true → HasNoMember text q → CalleeAt text r c p (roll-LHS (record { base = x; suffixes = xs })) q
  super : {p q : ℕ} (word : Token) (x : SuffixOf Assign) (xs : List (SuffixOf Assign)) → WordAt text AtOperand (codes "super") p word
      → follows_super x ≡ true → Chain (SuffixAt text r c) word.end (x ∷ xs) q → list_all is_member (x ∷ xs) ≡ true → HasNoMember text q
      → CalleeAt text r c p (roll-LHS (record { base = base_v.Super word; suffixes = x ∷ xs })) q

-- `new` Callee Args?, which takes the arguments that follow
pub data NewAt (text : Bytes) (r : Rules) (c : Context) : ℕ → Base → ℕ → Type 0 where
  with_args : {p a q : ℕ} (word : Token) (x : LHS) (args : ArgsOf Assign) → WordAt text AtOperand (codes "new") p word
      → CalleeAt text r c word.end x a → ArgsAt text r c a args q → NewAt text r c p (base_v.New word x (Some args)) q
  without : {p q : ℕ} (word : Token) (x : LHS) → WordAt text AtOperand (codes "new") p word → CalleeAt text r c word.end x q
      → ((token : Token) → MarkAt text AtOperator (codes "(") q token → ⊥) → NewAt text r c p (base_v.New word x None) q
