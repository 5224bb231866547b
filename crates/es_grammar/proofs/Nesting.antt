-- A text that begins with opening square brackets: what may not stand there.
use Rattle.std.proofs.Common.{◌≡◌, ◌<◌, ◌≤◌, ℕ, zero, suc, Bool, true, false, List, Option, refl, sym, ap, subst, ◌∙◌, arith}
use Rattle.std.specs.Prelude.{codes}
use Rattle.std.specs.List.{list_any}
use Rattle.std.specs.Str.{bytes_eq}
use Rattle.std.proofs.lemmas.Slice.Eq.{bytes_eq-Decides}
use Rattle.es_tree.specs.declared.tokens.Token.{Token}
use Rattle.es_tree.specs.declared.tokens.TokenKind.{TokenKind}
use Rattle.es_tree.specs.declared.tokens.TokenKind.TheVariants as kind
use Rattle.es_tree.specs.declared.tokens.Goal.{Goal}
use Rattle.es_tree.specs.declared.tokens.Goal.TheVariants.{Operand as AtOperand, Operator as AtOperator}
use Rattle.es_tree.specs.declared.parts.Separated.{Separated}
use Rattle.es_tree.specs.declared.parts.Rest.{Rest}
use Rattle.es_tree.specs.declared.parts.Body.{Body}
use Rattle.es_tree.specs.declared.parts.Argument.{Argument}
use Rattle.es_tree.specs.declared.parts.Template.{Template}
use Rattle.es_tree.specs.declared.parts.ArrowParams.{ArrowParams}
use Rattle.es_tree.specs.declared.parts.BinaryOf.{BinaryOf}
use Rattle.es_tree.specs.declared.cycle.Item.{Item}
use Rattle.es_tree.specs.declared.cycle.Stmt.{Stmt}
use Rattle.es_tree.specs.declared.cycle.For.{For}
use Rattle.es_tree.specs.declared.cycle.Func.{Func}
use Rattle.es_tree.specs.declared.cycle.Params.{Params}
use Rattle.es_tree.specs.declared.cycle.Class.{Class}
use Rattle.es_tree.specs.declared.cycle.Target.{Target}
use Rattle.es_tree.specs.declared.cycle.TargetPart.{TargetPart}
use Rattle.es_tree.specs.declared.cycle.Assign.{Assign}
use Rattle.es_tree.specs.declared.cycle.Arrow.{Arrow}
use Rattle.es_tree.specs.declared.cycle.Cond.{Cond}
use Rattle.es_tree.specs.declared.cycle.Operand.{Operand}
use Rattle.es_tree.specs.declared.cycle.LHS.{LHS}
use Rattle.es_tree.specs.declared.cycle.Primary.{Primary}
use Rattle.es_tree.specs.declared.cycle.Base.{Base}
use Rattle.es_tree.specs.declared.program.Import.{Import}
use Rattle.es_tree.specs.declared.program.Export.{Export}
use Rattle.es_tree.specs.declared.program.ProgramItem.{ProgramItem}
use Rattle.es_tree.specs.declared.tokens.ProgramGoal.{ProgramGoal}
use Rattle.es_tree.specs.declared.tokens.ProgramGoal.TheVariants.{Script, Module}
use Rattle.es_tree.specs.declared.tokens.TokenKind.TheVariants.{End}
use Rattle.es_grammar.specs.declared.places.Context.{Context}
use Rattle.es_grammar.specs.Contexts.{bracketed}
use Rattle.es_grammar.specs.Reading.{Bytes, spelled, IsAt, KindAt, MarkAt, OneOfMarksAt, WordAt, OneOfWordsAt, NameAt}
use Rattle.es_grammar.specs.declared.places.Stop.{Stop}
use Rattle.es_grammar.specs.Rules.{Rules}
use Rattle.es_grammar.specs.Lists.{Chain, ElementsAt, EachElementAt, EndedListAt}
use Rattle.es_grammar.specs.Functions.{RestAt, ClosedItemAt, BodyAt, AsyncAt, FuncAt, ArrowParamsAt, ArrowAt, ClassAt}
use Rattle.es_grammar.specs.Expressions.{Expr, ExprAt, TemplateAt, ArgumentAt, PrimaryAt, BaseAt, ImportCallAt, LHSAt, NewAt}
use Rattle.es_grammar.specs.Targets.{ParenthesisedAt, SimpleTargetAt, TargetAt, TargetElementAt, TargetPatternAt}
use Rattle.es_grammar.specs.Operators.{prefix_marks, update_marks, OperandAt, PrefixedAt, ListedAt, BinaryAt, CondAt, AssignAt}
use Rattle.es_grammar.specs.Statements.{LexicalAt, Lex, Var, LexAt, VarAt, ForAt, StmtAt, ItemAt}
use Rattle.es_grammar.specs.Modules.{ImportAt, ExportAt, ModuleItemAt, ScriptItemAt}
use Rattle.es_grammar.specs.declared.TheConstants.{MAX_NEST}
use Rattle.es_grammar.specs.Parses.{rules_to, ProgramItemAt}
use Rattle.es_grammar.specs.Nests.{Opens, TooDeepLaw}
use Rattle.es_grammar.proofs.Witnesses.{same}

-- an opening square bracket stands at a place, at each goal
pub record Bracket (text : Bytes) (p : ℕ) : Type 0 where
  pub token : Token
  pub is : (goal : Goal) → MarkAt text goal (codes "[") p token

-- another behind it, and what the rules refuse here and there
pub record Hard (text : Bytes) (r : Rules) (p : ℕ) : Type 0 where
  pub here : Bracket text p
  pub next : Bracket text here.token.end
  pub no_assign : (c : Context) (x : Assign) (s : Stop) → r.assign c here.token.end x s → ⊥
  pub no_prefixed : (c : Context) (x : Operand) (s : Stop) → r.prefixed c p x s → ⊥
  pub no_new : (c : Context) (x : Base) (q : ℕ) → r.new c p x q → ⊥
  pub no_target_pattern : (c : Context) (x : Target) (q : ℕ) → r.target_pattern c p x q → ⊥

is_the : {text : Bytes} {p : ℕ} {token : Token} (goal : Goal) (b : Bracket text p) → IsAt text goal p token → b.token ≡ token
is_the {text} {p} {token} goal b h = same _ b.token token (b.is goal).is.read h

same_bracket : {text : Bytes} {p : ℕ} {goal : Goal} {mark : List ℕ} {token : Token} (b : Bracket text p) → MarkAt text goal mark p token → b.token ≡ token
same_bracket b h = is_the _ b h.is.read

is_spelled : {text : Bytes} {p : ℕ} {token : Token} (goal : Goal) (b : Bracket text p) → IsAt text goal p token → spelled text token ≡ codes "["
is_spelled {text} {p} {token} goal b h = subst (λ t. spelled text t ≡ codes "[") (is_the goal b h) (b.is goal).spelled_as

is_mark : {text : Bytes} {p : ℕ} {token : Token} (goal : Goal) (b : Bracket text p) → IsAt text goal p token → token.kind ≡ kind.Punctuator
is_mark {text} {p} {token} goal b h = subst (λ t. t.kind ≡ kind.Punctuator) (is_the goal b h) (b.is goal).is.kind_is

abbrev is_punctuator : TokenKind → Bool
is_punctuator kind.Punctuator = true
is_punctuator _ = false

not_mark : {text : Bytes} {p : ℕ} {goal : Goal} {mark : List ℕ} {token : Token} → Bracket text p → bytes_eq (codes "[") mark ≡ false
    → MarkAt text goal mark p token → ⊥
not_mark {text} {p} {goal} {mark} {token} b other h =
    let e : codes "[" ≡ mark = sym (is_spelled _ b h.is.read) ∙ h.spelled_as in
    let yes : bytes_eq (codes "[") mark ≡ true = (bytes_eq-Decides (codes "[") mark).1 e in
    absurd cc

not_kind : {text : Bytes} {p : ℕ} {goal : Goal} {k : TokenKind} {token : Token} → Bracket text p → is_punctuator k ≡ false → KindAt text goal k p token → ⊥
not_kind {text} {p} {goal} {k} {token} b other h =
    let e : kind.Punctuator ≡ k = sym (is_mark _ b h.read) ∙ h.kind_is in
    let yes : true ≡ is_punctuator k = ap is_punctuator e in
    absurd cc

not_word : {text : Bytes} {p : ℕ} {goal : Goal} {word : List ℕ} {token : Token} → Bracket text p → WordAt text goal word p token → ⊥
not_word b h = not_kind b refl h.is

not_one_word : {text : Bytes} {p : ℕ} {goal : Goal} {words : List (List ℕ)} {token : Token} → Bracket text p → OneOfWordsAt text goal words p token → ⊥
not_one_word b h = not_kind b refl h.is

not_name : {text : Bytes} {p : ℕ} {goal : Goal} {c : Context} {token : Token} → Bracket text p → NameAt text goal c p token → ⊥
not_name b h = not_kind b refl h.is

not_one_mark : {text : Bytes} {p : ℕ} {goal : Goal} {marks : List (List ℕ)} {token : Token} → Bracket text p → list_any (bytes_eq (codes "[")) marks ≡ false
    → OneOfMarksAt text goal marks p token → ⊥
not_one_mark {text} {p} {goal} {marks} {token} b other h =
    let e : list_any (bytes_eq (spelled text token)) marks ≡ list_any (bytes_eq (codes "[")) marks = ap (λ t. list_any (bytes_eq t) marks) (is_spelled
    _ b h.is.read) in
    let yes = h.among in
    absurd cc

behind : {text : Bytes} {r : Rules} {p : ℕ} {left : Token} → Hard text r p → MarkAt text AtOperand (codes "[") p left → Bracket text left.end
behind {text} {r} {p} {left} b h = subst (λ t. Bracket text t.end) (same_bracket b.here h) b.next

no_assign_behind : {text : Bytes} {r : Rules} {c : Context} {p : ℕ} {left : Token} {x : Assign} {s : Stop} → Hard text r p
    → MarkAt text AtOperand (codes "[") p left
    → r.assign c left.end x s → ⊥
no_assign_behind {text} {r} {c} {p} {left} {x} {s} b h a = b.no_assign c x s (subst (λ t. r.assign c t.end x s) (sym (same_bracket b.here h)) a)

func_no : {text : Bytes} {r : Rules} {c : Context} {named : Bool} {p : ℕ} {x : Func} {q : ℕ} → Bracket text p → FuncAt text r c named p x q → ⊥
func_no b (FuncAt.func _ _ _ _ _ _ _ _ AsyncAt.none h _ _ _ _ _ _ _) = not_word b h
func_no b (FuncAt.func _ _ _ _ _ _ _ _ (AsyncAt.word _ _ h _ _) _ _ _ _ _ _ _ _) = not_word b h

class_no : {text : Bytes} {r : Rules} {c : Context} {named : Bool} {p : ℕ} {x : Class} {q : ℕ} → Bracket text p → ClassAt text r c named p x q → ⊥
class_no b (ClassAt.class _ _ _ _ _ _ h _ _ _ _ _ _) = not_word b h

arrow_params_no : {text : Bytes} {r : Rules} {c : Context} {p : ℕ} {x : ArrowParams Params} {q : ℕ} → Bracket text p → ArrowParamsAt text r c p x q
    → ⊥
arrow_params_no b (ArrowParamsAt.name _ h) = not_name b h
arrow_params_no b (ArrowParamsAt.list _ _ _ h _ _) = not_mark b refl h

arrow_no : {text : Bytes} {r : Rules} {c : Context} {p : ℕ} {x : Arrow} {s : Stop} → Bracket text p → ArrowAt text r c p x s → ⊥
arrow_no b (ArrowAt.block _ _ _ _ AsyncAt.none h _ _ _) = arrow_params_no b h
arrow_no b (ArrowAt.block _ _ _ _ (AsyncAt.word _ _ h _ _) _ _ _ _) = not_word b h
arrow_no b (ArrowAt.concise _ _ _ _ AsyncAt.none h _ _ _ _) = arrow_params_no b h
arrow_no b (ArrowAt.concise _ _ _ _ (AsyncAt.word _ _ h _ _) _ _ _ _ _) = not_word b h

template_no : {text : Bytes} {r : Rules} {c : Context} {goal : Goal} {p : ℕ} {x : Template Expr} {q : ℕ} → Bracket text p
    → TemplateAt text r c goal p x q → ⊥
template_no b (TemplateAt.whole _ h _) = not_kind b refl h
template_no b (TemplateAt.pieces _ _ h _ _) = not_kind b refl h

import_call_no : {text : Bytes} {r : Rules} {c : Context} {p : ℕ} {x : Base} {q : ℕ} → Bracket text p → ImportCallAt text r c p x q → ⊥
import_call_no b (ImportCallAt.call _ _ _ _ _ _ h _ _ _ _ _) = not_word b h

elements_no : {text : Bytes} {r : Rules} {c : Context} {p : ℕ} {xs : List (Separated (Option (Argument Assign)))} {q : ℕ} {left right : Token}
    → Hard text r p → MarkAt text AtOperand (codes "[") p left → ElementsAt text (ArgumentAt text r c) left.end xs q
    → MarkAt text AtOperator (codes "]") q right → ⊥
elements_no b left ElementsAt.none h = not_mark (behind b left) refl h
elements_no b left (ElementsAt.hole _ _ h _) last = not_mark (behind b left) refl h
elements_no b left (ElementsAt.last _ (ArgumentAt.plain _ h)) last = no_assign_behind b left h
elements_no b left (ElementsAt.last _ (ArgumentAt.spread _ _ h _)) last = not_mark (behind b left) refl h
elements_no b left (ElementsAt.more _ _ _ (ArgumentAt.plain _ h) _ _) last = no_assign_behind b left h
elements_no b left (ElementsAt.more _ _ _ (ArgumentAt.spread _ _ h _) _ _) last = not_mark (behind b left) refl h

primary_no : {text : Bytes} {r : Rules} {c : Context} {p : ℕ} {x : Primary} {q : ℕ} → Hard text r p → PrimaryAt text r c p x q → ⊥
primary_no b (PrimaryAt.this _ h) = not_word b.here h
primary_no b (PrimaryAt.name _ h) = not_name b.here h
primary_no b (PrimaryAt.word _ h) = not_one_word b.here h
primary_no b (PrimaryAt.number _ h) = not_kind b.here refl h
primary_no b (PrimaryAt.string _ h) = not_kind b.here refl h
primary_no b (PrimaryAt.template _ h) = template_no b.here h
primary_no b (PrimaryAt.regex _ h) = not_kind b.here refl h
primary_no b (PrimaryAt.array _ _ _ left elements last) = elements_no b left elements last
primary_no b (PrimaryAt.object _ _ _ h _ _) = not_mark b.here refl h
primary_no b (PrimaryAt.func _ h) = func_no b.here h
primary_no b (PrimaryAt.class _ h) = class_no b.here h
primary_no b (PrimaryAt.paren _ _ _ h _ _) = not_mark b.here refl h

base_no : {text : Bytes} {r : Rules} {c : Context} {p : ℕ} {x : Base} {q : ℕ} → Hard text r p → BaseAt text r c p x q → ⊥
base_no b (BaseAt.primary _ h) = primary_no b h
base_no b (BaseAt.new _ h) = b.no_new _ _ _ h
base_no b (BaseAt.new_target _ _ _ h _ _) = not_word b.here h
base_no b (BaseAt.import_meta _ _ _ h _ _) = not_word b.here h

lhs_no : {text : Bytes} {r : Rules} {c : Context} {p : ℕ} {x : LHS} {q : ℕ} → Hard text r p → LHSAt text r c p x q → ⊥
lhs_no b (LHSAt.base _ _ h _ _) = base_no b h
lhs_no b (LHSAt.import_call _ _ h _ _) = import_call_no b.here h
lhs_no b (LHSAt.super _ _ _ h _ _ _) = not_word b.here h

simple_target_no : {text : Bytes} {r : Rules} {c : Context} {p : ℕ} {x : Target} {q : ℕ} → Hard text r p → SimpleTargetAt text r c p x q → ⊥
simple_target_no b (SimpleTargetAt.name _ h) = not_name b.here h
simple_target_no b (SimpleTargetAt.member _ h _) = lhs_no b h
simple_target_no b (SimpleTargetAt.paren_name _ (ParenthesisedAt.parenthesised _ _ _ _ h _ _ _ _)) = not_mark b.here refl h
simple_target_no b (SimpleTargetAt.paren_member _ (ParenthesisedAt.parenthesised _ _ _ _ h _ _ _ _)) = not_mark b.here refl h

target_no : {text : Bytes} {r : Rules} {c : Context} {p : ℕ} {x : Target} {q : ℕ} → Hard text r p → TargetAt text r c p x q → ⊥
target_no b (TargetAt.simple _ h) = simple_target_no b h
target_no b (TargetAt.pattern _ h) = b.no_target_pattern _ _ _ h

operand_no : {text : Bytes} {r : Rules} {c : Context} {p : ℕ} {x : Operand} {s : Stop} → Hard text r p → OperandAt text r c p x s → ⊥
operand_no b (OperandAt.prefixed _ h) = b.no_prefixed _ _ _ h
operand_no b (OperandAt.lhs _ h) = lhs_no b h
operand_no b (OperandAt.postfix_of _ _ h _ _) = simple_target_no b h

listed_no : {text : Bytes} {r : Rules} {c : Context} {p : ℕ} {x : Operand} {s : Stop} → Hard text r p → ListedAt text r c p x s → ⊥
listed_no b (ListedAt.operand _ h) = operand_no b h
listed_no b (ListedAt.private _ h) = not_kind b.here refl h

binary_no : {text : Bytes} {r : Rules} {c : Context} {p : ℕ} {x : BinaryOf Operand} {s : Stop} → Hard text r p → BinaryAt text r c p x s → ⊥
binary_no b (BinaryAt.binary _ _ h _ _ _ _) = listed_no b h

cond_no : {text : Bytes} {r : Rules} {c : Context} {p : ℕ} {x : Cond} {s : Stop} → Hard text r p → CondAt text r c p x s → ⊥
cond_no b (CondAt.test _ h) = binary_no b h
cond_no b (CondAt.choice _ _ _ _ _ h _ _ _ _) = binary_no b h

assign_no : {text : Bytes} {r : Rules} {c : Context} {p : ℕ} {x : Assign} {s : Stop} → Hard text r p → AssignAt text r c p x s → ⊥
assign_no b (AssignAt.cond _ h) = cond_no b h
assign_no b (AssignAt.arrow _ h) = arrow_no b.here h
assign_no b (AssignAt.set _ _ _ h _ _) = target_no b h
assign_no b (AssignAt.compound _ _ _ h _ _) = simple_target_no b h
assign_no b (AssignAt.yield_alone _ _ h) = not_word b.here h
assign_no b (AssignAt.yield _ _ _ h _) = not_word b.here h

prefixed_no : {text : Bytes} {r : Rules} {c : Context} {p : ℕ} {x : Operand} {s : Stop} → Bracket text p → PrefixedAt text r c p x s → ⊥
unfolding prefix_marks update_marks
prefixed_no b (PrefixedAt.word _ _ h _) = not_one_word b h
prefixed_no b (PrefixedAt.mark _ _ h _) = not_one_mark b refl h
prefixed_no b (PrefixedAt.await _ _ _ h _) = not_word b h
prefixed_no b (PrefixedAt.update _ _ h _) = not_one_mark b refl h

new_no : {text : Bytes} {r : Rules} {c : Context} {p : ℕ} {x : Base} {q : ℕ} → Bracket text p → NewAt text r c p x q → ⊥
new_no b (NewAt.with_args _ _ _ h _ _) = not_word b h
new_no b (NewAt.without _ _ h _ _) = not_word b h

target_element_no : {text : Bytes} {r : Rules} {c : Context} {p : ℕ} {x : TargetPart} {q : ℕ} → Hard text r p → TargetElementAt text r c p x q → ⊥
target_element_no b (TargetElementAt.plain _ h) = target_no b h
target_element_no b (TargetElementAt.initialised _ _ h _) = target_no b h

-- the elements of a pattern, where its bracket is passed
target_elements_no : {text : Bytes} {r : Rules} {c : Context} {p : ℕ} {xs : List (Separated (Option TargetPart))} {q : ℕ} {right : Token}
    → Hard text r p → ElementsAt text (TargetElementAt text r c) p xs q → MarkAt text AtOperator (codes "]") q right → ⊥
target_elements_no b ElementsAt.none h = not_mark b.here refl h
target_elements_no b (ElementsAt.hole _ _ h _) last = not_mark b.here refl h
target_elements_no b (ElementsAt.last _ h) last = target_element_no b h
target_elements_no b (ElementsAt.more _ _ _ h _ _) last = target_element_no b h

target_each_no : {text : Bytes} {r : Rules} {c : Context} {p : ℕ} {xs : List (Separated (Option TargetPart))} {q z : ℕ} {x : Rest Target}
    → Hard text r p → EachElementAt text (TargetElementAt text r c) p xs q → RestAt text (TargetAt text r (bracketed c)) q x z → ⊥
target_each_no b EachElementAt.none (RestAt.rest _ _ h _) = not_mark b.here refl h
target_each_no b (EachElementAt.hole _ _ h _) last = not_mark b.here refl h
target_each_no b (EachElementAt.more _ _ _ h _ _) last = target_element_no b h

pub target_pattern_no : {text : Bytes} {r : Rules} {c : Context} {p : ℕ} {x : Target} {q : ℕ} (b : Bracket text p) → Hard text r b.token.end
    → TargetPatternAt text r c p x q → ⊥
target_pattern_no {text} {r} b next (TargetPatternAt.array left _ _ h elements last) =
    target_elements_no (subst (λ t. Hard text r t.end) (same_bracket b h) next) elements last
target_pattern_no {text} {r} b next (TargetPatternAt.array_rest left _ _ _ h elements behind_them _) =
    target_each_no (subst (λ t. Hard text r t.end) (same_bracket b h) next) elements behind_them
target_pattern_no b next (TargetPatternAt.object _ _ _ h _ _) = not_mark b refl h
target_pattern_no b next (TargetPatternAt.object_rest _ _ _ _ h _ _ _) = not_mark b refl h

lexical_no : {text : Bytes} {p : ℕ} {x : Token} {is_const : Bool} → Bracket text p → LexicalAt text p x is_const → ⊥
lexical_no b (LexicalAt.let_word _ h) = not_word b h
lexical_no b (LexicalAt.const_word _ h) = not_word b h

lex_no : {text : Bytes} {r : Rules} {c : Context} {p : ℕ} {x : Lex} {q : ℕ} → Bracket text p → LexAt text r c p x q → ⊥
lex_no b (LexAt.lex _ _ _ h _ _) = lexical_no b h

var_no : {text : Bytes} {r : Rules} {c : Context} {p : ℕ} {x : Var} {q : ℕ} → Bracket text p → VarAt text r c p x q → ⊥
var_no b (VarAt.var _ _ _ h _ _) = not_word b h

for_no : {text : Bytes} {r : Rules} {c : Context} {p : ℕ} {x : For} {q : ℕ} → Bracket text p → ForAt text r c p x q → ⊥
for_no b (ForAt.loop _ _ _ _ _ _ _ _ _ h _ _ _ _ _ _ _ _) = not_word b h
for_no b (ForAt.in_object _ _ _ _ _ _ _ h _ _ _ _ _ _) = not_word b h
for_no b (ForAt.of_iterable _ _ _ _ _ _ _ _ h _ _ _ _ _ _ _) = not_word b h

body_no : {text : Bytes} {r : Rules} {c : Context} {p : ℕ} {x : Body Item} {q : ℕ} → Bracket text p → BodyAt text r c p x q → ⊥
body_no b (BodyAt.body _ _ _ h _ _) = not_mark b refl h

expr_no : {text : Bytes} {r : Rules} {c : Context} {p : ℕ} {x : Expr} {s : Stop} → ((c : Context) (x : Assign) (s : Stop) → r.assign c p x s → ⊥)
    → ExprAt text r c p x s → ⊥
expr_no no_assign (ExprAt.expr _ (EndedListAt.last _ h)) = no_assign _ _ _ h
expr_no no_assign (ExprAt.expr _ (EndedListAt.more _ _ _ h _ _)) = no_assign _ _ _ h

stmt_no : {text : Bytes} {r : Rules} {c : Context} {p : ℕ} {x : Stmt} {q : ℕ} → Bracket text p → ((c : Context) (x : Assign) (s : Stop)
    → r.assign c p x s → ⊥) → StmtAt text r c p x q → ⊥
stmt_no b no_assign (StmtAt.block _ h) = body_no b h
stmt_no b no_assign (StmtAt.empty _ h) = not_mark b refl h
stmt_no b no_assign (StmtAt.var _ h) = var_no b h
stmt_no b no_assign (StmtAt.if _ _ _ _ _ _ h _ _ _ _ _) = not_word b h
stmt_no b no_assign (StmtAt.for _ h) = for_no b h
stmt_no b no_assign (StmtAt.while _ _ _ _ _ h _ _ _ _) = not_word b h
stmt_no b no_assign (StmtAt.do_while _ _ _ _ _ _ _ h _ _ _ _ _ _) = not_word b h
stmt_no b no_assign (StmtAt.continue _ _ _ h _ _) = not_word b h
stmt_no b no_assign (StmtAt.break _ _ _ h _ _) = not_word b h
stmt_no b no_assign (StmtAt.return _ _ _ h _) = not_word b h
stmt_no b no_assign (StmtAt.return_value _ _ _ _ h _ _) = not_word b h
stmt_no b no_assign (StmtAt.with _ _ _ _ _ h _ _ _ _) = not_word b h
stmt_no b no_assign (StmtAt.switch _ _ _ _ _ _ _ h _ _ _ _ _ _) = not_word b h
stmt_no b no_assign (StmtAt.labelled _ _ _ h _ _) = not_name b h
stmt_no b no_assign (StmtAt.throw _ _ _ h _ _) = not_word b h
stmt_no b no_assign (StmtAt.try_catch _ _ _ _ _ _ h _ _ _ _ _) = not_word b h
stmt_no b no_assign (StmtAt.try_finally _ _ _ h _ _) = not_word b h
stmt_no b no_assign (StmtAt.debugger _ _ h _) = not_word b h
stmt_no b no_assign (StmtAt.expr _ _ _ _ h _ _) = expr_no no_assign h

item_no : {text : Bytes} {r : Rules} {c : Context} {p : ℕ} {x : Item} {q : ℕ} → Bracket text p → ((c : Context) (x : Assign) (s : Stop)
    → r.assign c p x s → ⊥) → ItemAt text r c p x q → ⊥
item_no b no_assign (ItemAt.stmt _ h) = stmt_no b no_assign h
item_no b no_assign (ItemAt.lex _ h) = lex_no b h
item_no b no_assign (ItemAt.func _ h) = func_no b h
item_no b no_assign (ItemAt.class _ h) = class_no b h

import_no : {text : Bytes} {c : Context} {p : ℕ} {x : Import} {q : ℕ} → Bracket text p → ImportAt text c p x q → ⊥
import_no b (ImportAt.bare _ _ _ _ h _ _ _) = not_word b h
import_no b (ImportAt.from _ _ _ _ _ _ h _ _ _ _ _) = not_word b h

export_no : {text : Bytes} {r : Rules} {c : Context} {p : ℕ} {x : Export} {q : ℕ} → Bracket text p → ExportAt text r c p x q → ⊥
export_no b (ExportAt.all _ _ _ _ _ _ h _ _ _ _ _) = not_word b h
export_no b (ExportAt.space _ _ _ _ _ _ _ _ h _ _ _ _ _ _ _) = not_word b h
export_no b (ExportAt.from _ _ _ _ _ _ h _ _ _ _ _) = not_word b h
export_no b (ExportAt.names _ _ _ h _ _) = not_word b h
export_no b (ExportAt.var _ _ h _) = not_word b h
export_no b (ExportAt.lex _ _ h _) = not_word b h
export_no b (ExportAt.func _ _ h _) = not_word b h
export_no b (ExportAt.class _ _ h _) = not_word b h
export_no b (ExportAt.default_func _ _ _ h _ _) = not_word b h
export_no b (ExportAt.default_class _ _ _ h _ _) = not_word b h
export_no b (ExportAt.default _ _ _ _ h _ _ _ _) = not_word b h

-- what the rules to a nest refuse where so many brackets are opened
pub record Refused (r : Rules) (nest p n : ℕ) : Type 0 where
  pub assign : nest < n → (c : Context) (x : Assign) (s : Stop) → r.assign c p x s → ⊥
  pub target_pattern : suc nest < n → (c : Context) (x : Target) (q : ℕ) → r.target_pattern c p x q → ⊥
  pub prefixed : 0 < n → (c : Context) (x : Operand) (s : Stop) → r.prefixed c p x s → ⊥
  pub new : 0 < n → (c : Context) (x : Base) (q : ℕ) → r.new c p x q → ⊥

hard : (text : Bytes) (nest p n : ℕ) → ((q m : ℕ) → Opens text q m → Refused (rules_to text nest) nest q m) → Opens text p n → suc nest < n
    → Hard text (rules_to text nest) p
hard text nest p zero below Opens.none h = absurd (omega arith)
hard text nest p (suc n) below (Opens.more token is Opens.none) h = absurd (omega arith)
hard text nest p (suc (suc n)) below (Opens.more token is (Opens.more token_2 is_2 rest)) h =
    let here = below p (suc (suc n)) (Opens.more token is (Opens.more token_2 is_2 rest)) in
    let next = below token.end (suc n) (Opens.more token_2 is_2 rest) in
    record {
      here = record { token = token; is = is };
      next = record { token = token_2; is = is_2 };
      no_assign = next.assign (omega (arith, h));
      no_prefixed = here.prefixed (omega arith);
      no_new = here.new (omega arith);
      no_target_pattern = here.target_pattern h;
    }

first : (text : Bytes) (p n : ℕ) → Opens text p n → 0 < n → Bracket text p
first text p zero Opens.none h = absurd (omega arith)
first text p (suc n) (Opens.more token is rest) h = record { token = token; is = is }

hard_behind : (text : Bytes) (nest p n : ℕ) → ((q m : ℕ) → Opens text q m → Refused (rules_to text nest) nest q m) → Opens text p n → suc (suc nest) < n
    → (b : Bracket text p) × Hard text (rules_to text nest) b.token.end
hard_behind text nest p zero below Opens.none h = absurd (omega arith)
hard_behind text nest p (suc n) below (Opens.more token is rest) h =
    (record { token = token; is = is }, hard text nest token.end n below rest (omega (arith, h)))

pub refused : (text : Bytes) (nest p n : ℕ) → Opens text p n → Refused (rules_to text nest) nest p n
unfolding rules_to
refused text zero p n opens = record {
  assign = λ l c x s h. absurd h;
  target_pattern = λ l c x q h. absurd h;
  prefixed = λ l c x s h. absurd h;
  new = λ l c x q h. absurd h;
}
refused text (suc nest) p n opens = record {
  assign = λ l c x s h. assign_no (hard text nest p n (λ q m o. refused text nest q m o) opens l) h;
  target_pattern = λ l c x q h. (let b = hard_behind text nest p n (λ q m o. refused text nest q m o) opens l in target_pattern_no b.0 b.1 h);
  prefixed = λ l c x s h. prefixed_no (first text p n opens l) h;
  new = λ l c x q h. new_no (first text p n opens l) h;
}

item_refused : (text : Bytes) (nest p n : ℕ) (c : Context) (x : Item) (q : ℕ) → Opens text p n → nest ≤ n → 0 < n → (rules_to text nest).item c p x q → ⊥
unfolding rules_to
item_refused text zero p n c x q opens l some h = h
item_refused text (suc nest) p n c x q opens l some h =
    item_no (first text p n opens some) ((refused text nest p n opens).assign (omega (arith, l))) h

program_item_refused : (text : Bytes) (nest n : ℕ) (goal : ProgramGoal) (x : ProgramItem) (q : ℕ) → Opens text 0 n → nest ≤ n → 0 < n
    → ProgramItemAt text (rules_to text nest) goal 0 x q → ⊥
program_item_refused text nest n Script x q opens l some (ScriptItemAt.item _ (ClosedItemAt.closed _ h _)) = item_refused text nest 0 n _ _ _ opens l some h
program_item_refused text nest n Module x q opens l some (ModuleItemAt.item _ (ClosedItemAt.closed _ h _)) = item_refused text nest 0 n _ _ _ opens l some h
program_item_refused text nest n Module x q opens l some (ModuleItemAt.import_from _ h) = import_no (first text 0 n opens some) h
program_item_refused text nest n Module x q opens l some (ModuleItemAt.export _ h) = export_no (first text 0 n opens some) h

-- no items stand from the start to the end of the text, where as many brackets are opened as may nest
pub items_refused : (text : Bytes) (nest n : ℕ) (goal : ProgramGoal) (xs : List ProgramItem) (last : ℕ) (end : Token) → Opens text 0 n → nest ≤ n → 0 < n
    → Chain (ProgramItemAt text (rules_to text nest) goal) 0 xs last → KindAt text AtOperand End last end → ⊥
items_refused text nest n goal xs last end opens l some Chain.none h = not_kind (first text 0 n opens some) refl h
items_refused text nest n goal xs last end opens l some (Chain.more x _ h rest) is_end = program_item_refused text nest n goal x _ opens l some h

pub too_deep : TooDeepLaw
too_deep text program opens parse =
    items_refused text MAX_NEST MAX_NEST program.goal program.items parse.last parse.end opens (omega arith) (omega arith) parse.items parse.is_end
