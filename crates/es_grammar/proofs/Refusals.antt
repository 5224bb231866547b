-- A private name behind a prefix has no tree.
use Rattle.std.proofs.Common.{◌≡◌, ℕ, zero, suc, Bool, true, false, List, [], ◌∷◌, refl, sym, ap, subst}
use Rattle.std.specs.Prelude.{codes}
use Rattle.std.specs.List.{list_any}
use Rattle.std.specs.Str.{bytes_eq}
use Rattle.es_tree.specs.declared.tokens.Token.{Token}
use Rattle.es_tree.specs.declared.tokens.TokenKind.{TokenKind}
use Rattle.es_tree.specs.declared.tokens.TokenKind.TheVariants as kind
use Rattle.es_tree.specs.declared.tokens.Goal.{Goal}
use Rattle.es_tree.specs.declared.tokens.Goal.TheVariants.{Operand as AtOperand, Operator as AtOperator, Template as AtTemplate}
use Rattle.es_tree.specs.declared.tokens.ProgramGoal.TheVariants.{Script, Module}
use Rattle.es_tree.specs.declared.tokens.ProgramGoal.{ProgramGoal}
use Rattle.es_tree.specs.declared.parts.Body.{Body}
use Rattle.es_tree.specs.declared.parts.Template.{Template}
use Rattle.es_tree.specs.declared.parts.ArrowParams.{ArrowParams}
use Rattle.es_tree.specs.declared.parts.BinaryOf.{BinaryOf}
use Rattle.es_tree.specs.declared.cycle.Item.{Item}
use Rattle.es_tree.specs.declared.cycle.Stmt.{Stmt}
use Rattle.es_tree.specs.declared.cycle.For.{For}
use Rattle.es_tree.specs.declared.cycle.Func.{Func}
use Rattle.es_tree.specs.declared.cycle.Params.{Params}
use Rattle.es_tree.specs.declared.cycle.Class.{Class}
use Rattle.es_tree.specs.declared.cycle.Target.{Target}
use Rattle.es_tree.specs.declared.cycle.Assign.{Assign}
use Rattle.es_tree.specs.declared.cycle.Arrow.{Arrow}
use Rattle.es_tree.specs.declared.cycle.Cond.{Cond}
use Rattle.es_tree.specs.declared.cycle.Operand.{Operand}
use Rattle.es_tree.specs.declared.cycle.LHS.{LHS}
use Rattle.es_tree.specs.declared.cycle.Primary.{Primary}
use Rattle.es_tree.specs.declared.cycle.Base.{Base}
use Rattle.es_tree.specs.declared.program.Program.{Program}
use Rattle.es_tree.specs.declared.program.ProgramItem.{ProgramItem}
use Rattle.es_grammar.specs.declared.places.Context.{Context}
use Rattle.es_grammar.specs.Reading.{Bytes, spelled, IsAt, KindAt, MarkAt}
use Rattle.es_grammar.specs.declared.places.Stop.{Stop}
use Rattle.es_grammar.specs.Rules.{Rules}
use Rattle.es_grammar.specs.Lists.{Chain, EndedListAt}
use Rattle.es_grammar.specs.Functions.{ClosedItemAt, BodyAt, AsyncAt, FuncAt, ArrowParamsAt, ArrowAt, ClassAt}
use Rattle.es_grammar.specs.Expressions.{Expr, ExprAt, TemplateAt, PrimaryAt, BaseAt, ImportCallAt, LHSAt, NewAt}
use Rattle.es_grammar.specs.Targets.{ParenthesisedAt, SimpleTargetAt, TargetAt, TargetPatternAt}
use Rattle.es_grammar.specs.Operators.{update_marks, OperandAt, PrefixedAt, ListedAt, BinaryAt, CondAt, AssignAt}
use Rattle.es_grammar.specs.Statements.{LexicalAt, Lex, Var, LexAt, VarAt, ForAt, StmtAt, ItemAt}
use Rattle.es_grammar.specs.declared.TheConstants.{MAX_NEST}
use Rattle.es_tree.specs.declared.program.Import.{Import}
use Rattle.es_tree.specs.declared.program.Export.{Export}
use Rattle.es_grammar.specs.Modules.{ImportAt, ExportAt, ScriptItemAt, ModuleItemAt}
use Rattle.es_grammar.specs.Parses.{Parses, ProgramItemAt, rules_to}
use Rattle.es_grammar.proofs.Computing.{reading}
use Rattle.es_grammar.proofs.Witnesses.{same, mark}

-- the marks with which a production may begin, but prefixes
abbrev opening : List (List ℕ)
opening = codes "(" ∷ codes "[" ∷ codes "{" ∷ codes ";" ∷ []

-- the kinds of token with which one may begin, but for punctuators and private names
abbrev is_plain : TokenKind → Bool
is_plain kind.IdName = true
is_plain kind.Number = true
is_plain kind.String = true
is_plain kind.Template = true
is_plain kind.Regex = true
is_plain _ = false

-- at a place none of these stands, whatever the goal
record Foreign (text : Bytes) (p : ℕ) : Type 0 where
  pub no_mark : (goal : Goal) (m : List ℕ) (token : Token) → list_any (bytes_eq m) opening ≡ true → MarkAt text goal m p token → ⊥
  pub no_kind : (goal : Goal) (k : TokenKind) (token : Token) → is_plain k ≡ true → KindAt text goal k p token → ⊥

no_mark_at : {text : Bytes} {p : ℕ} {goal : Goal} {m : List ℕ} {token : Token} → Foreign text p → list_any (bytes_eq m) opening ≡ true
    → MarkAt text goal m p token → ⊥
no_mark_at {text} {p} {goal} {m} {token} b is h = b.no_mark goal m token is h

no_kind_at : {text : Bytes} {p : ℕ} {goal : Goal} {k : TokenKind} {token : Token} → Foreign text p → is_plain k ≡ true → KindAt text goal k p token
    → ⊥
no_kind_at {text} {p} {goal} {k} {token} b is h = b.no_kind goal k token is h

-- and the rules refuse it as an operand
record Bare (text : Bytes) (r : Rules) (p : ℕ) : Type 0 where
  pub foreign : Foreign text p
  pub no_prefixed : (c : Context) (x : Operand) (s : Stop) → r.prefixed c p x s → ⊥
  pub no_new : (c : Context) (x : Base) (q : ℕ) → r.new c p x q → ⊥

-- and as what may be assigned to, and no private name stands there
record Hard (text : Bytes) (r : Rules) (p : ℕ) : Type 0 where
  pub bare : Bare text r p
  pub no_target_pattern : (c : Context) (x : Target) (q : ℕ) → r.target_pattern c p x q → ⊥
  pub no_private : (token : Token) → KindAt text AtOperand kind.Private p token → ⊥

func_no : {text : Bytes} {r : Rules} {c : Context} {named : Bool} {p : ℕ} {x : Func} {q : ℕ} → Foreign text p → FuncAt text r c named p x q → ⊥
func_no b (FuncAt.func _ _ _ _ _ _ _ _ AsyncAt.none h _ _ _ _ _ _ _) = no_kind_at b refl h.is
func_no b (FuncAt.func _ _ _ _ _ _ _ _ (AsyncAt.word _ _ h _ _) _ _ _ _ _ _ _ _) = no_kind_at b refl h.is

class_no : {text : Bytes} {r : Rules} {c : Context} {named : Bool} {p : ℕ} {x : Class} {q : ℕ} → Foreign text p → ClassAt text r c named p x q → ⊥
class_no b (ClassAt.class _ _ _ _ _ _ h _ _ _ _ _ _) = no_kind_at b refl h.is

arrow_params_no : {text : Bytes} {r : Rules} {c : Context} {p : ℕ} {x : ArrowParams Params} {q : ℕ} → Foreign text p → ArrowParamsAt text r c p x q
    → ⊥
arrow_params_no b (ArrowParamsAt.name _ h) = no_kind_at b refl h.is
arrow_params_no b (ArrowParamsAt.list _ _ _ h _ _) = no_mark_at b refl h

arrow_no : {text : Bytes} {r : Rules} {c : Context} {p : ℕ} {x : Arrow} {s : Stop} → Foreign text p → ArrowAt text r c p x s → ⊥
arrow_no b (ArrowAt.block _ _ _ _ AsyncAt.none h _ _ _) = arrow_params_no b h
arrow_no b (ArrowAt.block _ _ _ _ (AsyncAt.word _ _ h _ _) _ _ _ _) = no_kind_at b refl h.is
arrow_no b (ArrowAt.concise _ _ _ _ AsyncAt.none h _ _ _ _) = arrow_params_no b h
arrow_no b (ArrowAt.concise _ _ _ _ (AsyncAt.word _ _ h _ _) _ _ _ _ _) = no_kind_at b refl h.is

template_no : {text : Bytes} {r : Rules} {c : Context} {goal : Goal} {p : ℕ} {x : Template Expr} {q : ℕ} → Foreign text p
    → TemplateAt text r c goal p x q → ⊥
template_no b (TemplateAt.whole _ h _) = no_kind_at b refl h
template_no b (TemplateAt.pieces _ _ h _ _) = no_kind_at b refl h

import_call_no : {text : Bytes} {r : Rules} {c : Context} {p : ℕ} {x : Base} {q : ℕ} → Foreign text p → ImportCallAt text r c p x q → ⊥
import_call_no b (ImportCallAt.call _ _ _ _ _ _ h _ _ _ _ _) = no_kind_at b refl h.is

primary_no : {text : Bytes} {r : Rules} {c : Context} {p : ℕ} {x : Primary} {q : ℕ} → Foreign text p → PrimaryAt text r c p x q → ⊥
primary_no b (PrimaryAt.this _ h) = no_kind_at b refl h.is
primary_no b (PrimaryAt.name _ h) = no_kind_at b refl h.is
primary_no b (PrimaryAt.word _ h) = no_kind_at b refl h.is
primary_no b (PrimaryAt.number _ h) = no_kind_at b refl h
primary_no b (PrimaryAt.string _ h) = no_kind_at b refl h
primary_no b (PrimaryAt.template _ h) = template_no b h
primary_no b (PrimaryAt.regex _ h) = no_kind_at b refl h
primary_no b (PrimaryAt.array _ _ _ h _ _) = no_mark_at b refl h
primary_no b (PrimaryAt.object _ _ _ h _ _) = no_mark_at b refl h
primary_no b (PrimaryAt.func _ h) = func_no b h
primary_no b (PrimaryAt.class _ h) = class_no b h
primary_no b (PrimaryAt.paren _ _ _ h _ _) = no_mark_at b refl h

new_no : {text : Bytes} {r : Rules} {c : Context} {p : ℕ} {x : Base} {q : ℕ} → Foreign text p → NewAt text r c p x q → ⊥
new_no b (NewAt.with_args _ _ _ h _ _) = no_kind_at b refl h.is
new_no b (NewAt.without _ _ h _ _) = no_kind_at b refl h.is

target_pattern_no : {text : Bytes} {r : Rules} {c : Context} {p : ℕ} {x : Target} {q : ℕ} → Foreign text p → TargetPatternAt text r c p x q → ⊥
target_pattern_no b (TargetPatternAt.array _ _ _ h _ _) = no_mark_at b refl h
target_pattern_no b (TargetPatternAt.array_rest _ _ _ _ h _ _ _) = no_mark_at b refl h
target_pattern_no b (TargetPatternAt.object _ _ _ h _ _) = no_mark_at b refl h
target_pattern_no b (TargetPatternAt.object_rest _ _ _ _ h _ _ _) = no_mark_at b refl h

base_no : {text : Bytes} {r : Rules} {c : Context} {p : ℕ} {x : Base} {q : ℕ} → Bare text r p → BaseAt text r c p x q → ⊥
base_no b (BaseAt.primary _ h) = primary_no b.foreign h
base_no b (BaseAt.new _ h) = b.no_new _ _ _ h
base_no b (BaseAt.new_target _ _ _ h _ _) = no_kind_at b.foreign refl h.is
base_no b (BaseAt.import_meta _ _ _ h _ _) = no_kind_at b.foreign refl h.is

lhs_no : {text : Bytes} {r : Rules} {c : Context} {p : ℕ} {x : LHS} {q : ℕ} → Bare text r p → LHSAt text r c p x q → ⊥
lhs_no b (LHSAt.base _ _ h _ _) = base_no b h
lhs_no b (LHSAt.import_call _ _ h _ _) = import_call_no b.foreign h
lhs_no b (LHSAt.super _ _ _ h _ _ _) = no_kind_at b.foreign refl h.is

simple_target_no : {text : Bytes} {r : Rules} {c : Context} {p : ℕ} {x : Target} {q : ℕ} → Bare text r p → SimpleTargetAt text r c p x q → ⊥
simple_target_no b (SimpleTargetAt.name _ h) = no_kind_at b.foreign refl h.is
simple_target_no b (SimpleTargetAt.member _ h _) = lhs_no b h
simple_target_no b (SimpleTargetAt.paren_name _ (ParenthesisedAt.parenthesised _ _ _ _ h _ _ _ _)) = no_mark_at b.foreign refl h
simple_target_no b (SimpleTargetAt.paren_member _ (ParenthesisedAt.parenthesised _ _ _ _ h _ _ _ _)) = no_mark_at b.foreign refl h

operand_no : {text : Bytes} {r : Rules} {c : Context} {p : ℕ} {x : Operand} {s : Stop} → Bare text r p → OperandAt text r c p x s → ⊥
operand_no b (OperandAt.prefixed _ h) = b.no_prefixed _ _ _ h
operand_no b (OperandAt.lhs _ h) = lhs_no b h
operand_no b (OperandAt.postfix_of _ _ h _ _) = simple_target_no b h

target_no : {text : Bytes} {r : Rules} {c : Context} {p : ℕ} {x : Target} {q : ℕ} → Hard text r p → TargetAt text r c p x q → ⊥
target_no b (TargetAt.simple _ h) = simple_target_no b.bare h
target_no b (TargetAt.pattern _ h) = b.no_target_pattern _ _ _ h

listed_no : {text : Bytes} {r : Rules} {c : Context} {p : ℕ} {x : Operand} {s : Stop} → Hard text r p → ListedAt text r c p x s → ⊥
listed_no b (ListedAt.operand _ h) = operand_no b.bare h
listed_no b (ListedAt.private _ h) = b.no_private _ h

binary_no : {text : Bytes} {r : Rules} {c : Context} {p : ℕ} {x : BinaryOf Operand} {s : Stop} → Hard text r p → BinaryAt text r c p x s → ⊥
binary_no b (BinaryAt.binary _ _ h _ _ _ _) = listed_no b h

cond_no : {text : Bytes} {r : Rules} {c : Context} {p : ℕ} {x : Cond} {s : Stop} → Hard text r p → CondAt text r c p x s → ⊥
cond_no b (CondAt.test _ h) = binary_no b h
cond_no b (CondAt.choice _ _ _ _ _ h _ _ _ _) = binary_no b h

assign_no : {text : Bytes} {r : Rules} {c : Context} {p : ℕ} {x : Assign} {s : Stop} → Hard text r p → AssignAt text r c p x s → ⊥
assign_no b (AssignAt.cond _ h) = cond_no b h
assign_no b (AssignAt.arrow _ h) = arrow_no b.bare.foreign h
assign_no b (AssignAt.set _ _ _ h _ _) = target_no b h
assign_no b (AssignAt.compound _ _ _ h _ _) = simple_target_no b.bare h
assign_no b (AssignAt.yield_alone _ _ h) = no_kind_at b.bare.foreign refl h.is
assign_no b (AssignAt.yield _ _ _ h _) = no_kind_at b.bare.foreign refl h.is

lexical_no : {text : Bytes} {p : ℕ} {x : Token} {is_const : Bool} → Foreign text p → LexicalAt text p x is_const → ⊥
lexical_no b (LexicalAt.let_word _ h) = no_kind_at b refl h.is
lexical_no b (LexicalAt.const_word _ h) = no_kind_at b refl h.is

lex_no : {text : Bytes} {r : Rules} {c : Context} {p : ℕ} {x : Lex} {q : ℕ} → Foreign text p → LexAt text r c p x q → ⊥
lex_no b (LexAt.lex _ _ _ h _ _) = lexical_no b h

var_no : {text : Bytes} {r : Rules} {c : Context} {p : ℕ} {x : Var} {q : ℕ} → Foreign text p → VarAt text r c p x q → ⊥
var_no b (VarAt.var _ _ _ h _ _) = no_kind_at b refl h.is

for_no : {text : Bytes} {r : Rules} {c : Context} {p : ℕ} {x : For} {q : ℕ} → Foreign text p → ForAt text r c p x q → ⊥
for_no b (ForAt.loop _ _ _ _ _ _ _ _ _ h _ _ _ _ _ _ _ _) = no_kind_at b refl h.is
for_no b (ForAt.in_object _ _ _ _ _ _ _ h _ _ _ _ _ _) = no_kind_at b refl h.is
for_no b (ForAt.of_iterable _ _ _ _ _ _ _ _ h _ _ _ _ _ _ _) = no_kind_at b refl h.is

body_no : {text : Bytes} {r : Rules} {c : Context} {p : ℕ} {x : Body Item} {q : ℕ} → Foreign text p → BodyAt text r c p x q → ⊥
body_no b (BodyAt.body _ _ _ h _ _) = no_mark_at b refl h

expr_no : {text : Bytes} {r : Rules} {c : Context} {p : ℕ} {x : Expr} {s : Stop} → ((c : Context) (x : Assign) (s : Stop) → r.assign c p x s → ⊥)
    → ExprAt text r c p x s → ⊥
expr_no no_assign (ExprAt.expr _ (EndedListAt.last _ h)) = no_assign _ _ _ h
expr_no no_assign (ExprAt.expr _ (EndedListAt.more _ _ _ h _ _)) = no_assign _ _ _ h

stmt_no : {text : Bytes} {r : Rules} {c : Context} {p : ℕ} {x : Stmt} {q : ℕ} → Foreign text p → ((c : Context) (x : Assign) (s : Stop)
    → r.assign c p x s → ⊥) → StmtAt text r c p x q → ⊥
stmt_no b no_assign (StmtAt.block _ h) = body_no b h
stmt_no b no_assign (StmtAt.empty _ h) = no_mark_at b refl h
stmt_no b no_assign (StmtAt.var _ h) = var_no b h
stmt_no b no_assign (StmtAt.if _ _ _ _ _ _ h _ _ _ _ _) = no_kind_at b refl h.is
stmt_no b no_assign (StmtAt.for _ h) = for_no b h
stmt_no b no_assign (StmtAt.while _ _ _ _ _ h _ _ _ _) = no_kind_at b refl h.is
stmt_no b no_assign (StmtAt.do_while _ _ _ _ _ _ _ h _ _ _ _ _ _) = no_kind_at b refl h.is
stmt_no b no_assign (StmtAt.continue _ _ _ h _ _) = no_kind_at b refl h.is
stmt_no b no_assign (StmtAt.break _ _ _ h _ _) = no_kind_at b refl h.is
stmt_no b no_assign (StmtAt.return _ _ _ h _) = no_kind_at b refl h.is
stmt_no b no_assign (StmtAt.return_value _ _ _ _ h _ _) = no_kind_at b refl h.is
stmt_no b no_assign (StmtAt.with _ _ _ _ _ h _ _ _ _) = no_kind_at b refl h.is
stmt_no b no_assign (StmtAt.switch _ _ _ _ _ _ _ h _ _ _ _ _ _) = no_kind_at b refl h.is
stmt_no b no_assign (StmtAt.labelled _ _ _ h _ _) = no_kind_at b refl h.is
stmt_no b no_assign (StmtAt.throw _ _ _ h _ _) = no_kind_at b refl h.is
stmt_no b no_assign (StmtAt.try_catch _ _ _ _ _ _ h _ _ _ _ _) = no_kind_at b refl h.is
stmt_no b no_assign (StmtAt.try_finally _ _ _ h _ _) = no_kind_at b refl h.is
stmt_no b no_assign (StmtAt.debugger _ _ h _) = no_kind_at b refl h.is
stmt_no b no_assign (StmtAt.expr _ _ _ _ h _ _) = expr_no no_assign h

item_no : {text : Bytes} {r : Rules} {c : Context} {p : ℕ} {x : Item} {q : ℕ} → Foreign text p → ((c : Context) (x : Assign) (s : Stop)
    → r.assign c p x s → ⊥) → ItemAt text r c p x q → ⊥
item_no b no_assign (ItemAt.stmt _ h) = stmt_no b no_assign h
item_no b no_assign (ItemAt.lex _ h) = lex_no b h
item_no b no_assign (ItemAt.func _ h) = func_no b h
item_no b no_assign (ItemAt.class _ h) = class_no b h

import_no : {text : Bytes} {c : Context} {p : ℕ} {x : Import} {q : ℕ} → Foreign text p → ImportAt text c p x q → ⊥
import_no b (ImportAt.bare _ _ _ _ h _ _ _) = no_kind_at b refl h.is
import_no b (ImportAt.from _ _ _ _ _ _ h _ _ _ _ _) = no_kind_at b refl h.is

export_no : {text : Bytes} {r : Rules} {c : Context} {p : ℕ} {x : Export} {q : ℕ} → Foreign text p → ExportAt text r c p x q → ⊥
export_no b (ExportAt.all _ _ _ _ _ _ h _ _ _ _ _) = no_kind_at b refl h.is
export_no b (ExportAt.space _ _ _ _ _ _ _ _ h _ _ _ _ _ _ _) = no_kind_at b refl h.is
export_no b (ExportAt.from _ _ _ _ _ _ h _ _ _ _ _) = no_kind_at b refl h.is
export_no b (ExportAt.names _ _ _ h _ _) = no_kind_at b refl h.is
export_no b (ExportAt.var _ _ h _) = no_kind_at b refl h.is
export_no b (ExportAt.lex _ _ h _) = no_kind_at b refl h.is
export_no b (ExportAt.func _ _ h _) = no_kind_at b refl h.is
export_no b (ExportAt.class _ _ h _) = no_kind_at b refl h.is
export_no b (ExportAt.default_func _ _ _ h _ _) = no_kind_at b refl h.is
export_no b (ExportAt.default_class _ _ _ h _ _) = no_kind_at b refl h.is
export_no b (ExportAt.default _ _ _ _ h _ _ _ _) = no_kind_at b refl h.is

-- `!#x`

abbrev private_text : Bytes
private_text = codes "!#x"

abbrev private_name : Token
private_name = record { kind = kind.Private; start = 1; end = 3; newline = false }

sign_is : (goal : Goal) → IsAt private_text goal 0 (mark 0 1)
unfolding reading
sign_is AtOperand = refl
sign_is AtOperator = refl
sign_is AtTemplate = refl

name_is : (goal : Goal) → IsAt private_text goal 1 private_name
unfolding reading
name_is AtOperand = refl
name_is AtOperator = refl
name_is AtTemplate = refl

abbrev is_private : TokenKind → Bool
is_private kind.Private = true
is_private _ = false

abbrev is_punctuator : TokenKind → Bool
is_punctuator kind.Punctuator = true
is_punctuator _ = false

-- the sign is a punctuator that is `!`
sign_kind : (goal : Goal) (k : TokenKind) (token : Token) → KindAt private_text goal k 0 token → kind.Punctuator ≡ k
sign_kind goal k token h = subst (λ (t : Token). t.kind ≡ k) (sym (same _ (mark 0 1) token (sign_is goal) h.read)) h.kind_is

sign_foreign : Foreign private_text 0
unfolding reading
sign_foreign = record {
  no_mark = λ goal m token is h.
      let here : spelled private_text (mark 0 1) ≡ m = subst (λ t. spelled private_text t ≡ m) (sym (same _ (mark 0 1) token (sign_is goal) h.is.read)) h.spelled_as in
      let no : list_any (bytes_eq m) opening ≡ false = subst (λ t. list_any (bytes_eq t) opening ≡ false) here refl in
      absurd cc;
  no_kind = λ goal k token is h. let e : true ≡ is_punctuator k = ap is_punctuator (sign_kind goal k token h) in
      let f : is_plain k ≡ false = subst (λ j. is_plain j ≡ false) (sign_kind goal k token h) refl in absurd cc;
}

name_kind : (goal : Goal) (k : TokenKind) (token : Token) → KindAt private_text goal k 1 token → kind.Private ≡ k
name_kind goal k token h = subst (λ (t : Token). t.kind ≡ k) (sym (same _ private_name token (name_is goal) h.read)) h.kind_is

no_punctuator : (goal : Goal) (token : Token) → KindAt private_text goal kind.Punctuator 1 token → ⊥
no_punctuator goal token h = let e : true ≡ is_private kind.Punctuator = ap is_private (name_kind goal _ token h) in absurd cc

name_foreign : Foreign private_text 1
name_foreign = record {
  no_mark = λ goal m token is h. no_punctuator goal token h.is;
  no_kind = λ goal k token is h. let f : is_plain k ≡ false = subst (λ j. is_plain j ≡ false) (name_kind goal k token h) refl in absurd cc;
}

-- no prefix stands at the name
name_no_prefixed : {r : Rules} {c : Context} {x : Operand} {s : Stop} → PrefixedAt private_text r c 1 x s → ⊥
name_no_prefixed (PrefixedAt.word _ _ h _) = no_kind_at name_foreign refl h.is
name_no_prefixed (PrefixedAt.mark _ _ h _) = no_punctuator _ _ h.is
name_no_prefixed (PrefixedAt.await _ _ _ h _) = no_kind_at name_foreign refl h.is
name_no_prefixed (PrefixedAt.update _ _ h _) = no_punctuator _ _ h.is

name_bare : (nest : ℕ) → Bare private_text (rules_to private_text nest) 1
unfolding rules_to
name_bare zero = record { foreign = name_foreign; no_prefixed = λ c x s h. absurd h; no_new = λ c x q h. absurd h }
name_bare (suc nest) = record { foreign = name_foreign; no_prefixed = λ c x s h. name_no_prefixed h; no_new = λ c x q h. new_no name_foreign h }

-- behind the sign no operand stands
operand_behind : {r : Rules} {c : Context} {token : Token} {x : Operand} {s : Stop} → Bare private_text r 1 → IsAt private_text AtOperand 0 token
    → OperandAt private_text r c token.end x s → ⊥
operand_behind {r} {c} {token} {x} {s} b is h = operand_no b (subst (λ (t : Token). OperandAt private_text r c t.end x s) (sym (same _ (mark 0 1) token (sign_is AtOperand) is)) h)

sign_no_prefixed : {r : Rules} {c : Context} {x : Operand} {s : Stop} → Bare private_text r 1 → PrefixedAt private_text r c 0 x s → ⊥
unfolding reading
sign_no_prefixed b (PrefixedAt.word _ _ h _) = no_kind_at sign_foreign refl h.is
sign_no_prefixed b (PrefixedAt.mark _ _ h behind) = operand_behind b h.is.read behind
sign_no_prefixed b (PrefixedAt.await _ _ _ h _) = no_kind_at sign_foreign refl h.is
sign_no_prefixed b (PrefixedAt.update token _ h _) =
    let no : list_any (bytes_eq (spelled private_text token)) update_marks ≡ false =
    subst (λ t. list_any (bytes_eq (spelled private_text t)) update_marks ≡ false) (same _ (mark 0 1) token (sign_is AtOperand) h.is.read) refl in
    let yes = h.among in
    absurd cc

no_private_sign : (token : Token) → KindAt private_text AtOperand kind.Private 0 token → ⊥
no_private_sign token h = let e : true ≡ is_punctuator kind.Private = ap is_punctuator (sign_kind _ _ token h) in absurd cc

sign_hard : (nest : ℕ) → Hard private_text (rules_to private_text nest) 0
unfolding rules_to
sign_hard zero = record {
  bare = record { foreign = sign_foreign; no_prefixed = λ c x s h. absurd h; no_new = λ c x q h. absurd h };
  no_target_pattern = λ c x q h. absurd h;
  no_private = no_private_sign;
}
sign_hard (suc nest) = record {
  bare = record { foreign = sign_foreign; no_prefixed = λ c x s h. sign_no_prefixed (name_bare nest) h; no_new = λ c x q h. new_no sign_foreign h };
  no_target_pattern = λ c x q h. target_pattern_no sign_foreign h;
  no_private = no_private_sign;
}

sign_no_assign : (nest : ℕ) (c : Context) (x : Assign) (s : Stop) → (rules_to private_text nest).assign c 0 x s → ⊥
unfolding rules_to
sign_no_assign zero c x s h = h
sign_no_assign (suc nest) c x s h = assign_no (sign_hard nest) h

sign_no_item : (nest : ℕ) (c : Context) (x : Item) (q : ℕ) → (rules_to private_text nest).item c 0 x q → ⊥
unfolding rules_to
sign_no_item zero c x q h = h
sign_no_item (suc nest) c x q h = item_no sign_foreign (sign_no_assign nest) h

program_item_no : (nest : ℕ) (goal : ProgramGoal) (x : ProgramItem) (q : ℕ) → ProgramItemAt private_text (rules_to private_text nest) goal 0 x q → ⊥
program_item_no nest Script x q (ScriptItemAt.item _ (ClosedItemAt.closed _ h _)) = sign_no_item nest _ _ _ h
program_item_no nest Module x q (ModuleItemAt.item _ (ClosedItemAt.closed _ h _)) = sign_no_item nest _ _ _ h
program_item_no nest Module x q (ModuleItemAt.import_from _ h) = import_no sign_foreign h
program_item_no nest Module x q (ModuleItemAt.export _ h) = export_no sign_foreign h

items_no : (nest : ℕ) (goal : ProgramGoal) (xs : List ProgramItem) (last : ℕ) (end : Token)
    → Chain (ProgramItemAt private_text (rules_to private_text nest) goal) 0 xs last
    → KindAt private_text AtOperand kind.End last end → ⊥
items_no nest goal xs last end Chain.none h = let e : true ≡ is_punctuator kind.End = ap is_punctuator (sign_kind _ _ end h) in absurd cc
items_no nest goal xs last end (Chain.more x _ h rest) is_end = program_item_no nest goal x _ h

-- `!#x` has no tree
private_behind_prefix : (program : Program) → Parses private_text program → ⊥
private_behind_prefix program parse = items_no MAX_NEST program.goal program.items parse.last parse.end parse.items parse.is_end
