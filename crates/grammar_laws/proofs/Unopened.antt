-- A script that begins with a reserved word with which no production of a script begins has no tree.
use Rattle.std.proofs.Common.{◌≡◌, ℕ, zero, suc, Bool, true, false, List, [], ◌∷◌, refl, sym, subst, ◌∙◌}
use Rattle.std.specs.Prelude.{codes}
use Rattle.std.specs.List.{list_any}
use Rattle.std.specs.Str.{bytes_eq}
use Rattle.es_tree.specs.declared.tokens.Token.{Token}
use Rattle.es_tree.specs.declared.tokens.TokenKind.{TokenKind}
use Rattle.es_tree.specs.declared.tokens.TokenKind.TheVariants as kind
use Rattle.es_tree.specs.declared.tokens.Goal.{Goal}
use Rattle.es_tree.specs.Names.{name_of}
use Rattle.es_tree.specs.ReservedWords.{is_reserved}
use Rattle.es_tree.specs.declared.tokens.Goal.TheVariants.{Operand as AtOperand, Operator as AtOperator, Template as AtTemplate}
use Rattle.es_tree.specs.declared.tokens.ProgramGoal.TheVariants.{Script, Module}
use Rattle.es_tree.specs.declared.tokens.ProgramGoal.{ProgramGoal}
use Rattle.es_tree.specs.declared.parts.Body.{Body}
use Rattle.es_tree.specs.declared.parts.Template.{Template}
use Rattle.es_tree.specs.declared.parts.ArrowParams.{ArrowParams}
use Rattle.es_tree.specs.declared.parts.BinaryOf.{BinaryOf}
use Rattle.es_tree.specs.declared.cycle.Item.{Item}
use Rattle.es_tree.specs.declared.cycle.Stmt.{Stmt}
use Rattle.es_tree.specs.declared.cycle.For.{For}
use Rattle.es_tree.specs.declared.cycle.Func.{Func}
use Rattle.es_tree.specs.declared.cycle.Params.{Params}
use Rattle.es_tree.specs.declared.cycle.Class.{Class}
use Rattle.es_tree.specs.declared.cycle.Target.{Target}
use Rattle.es_tree.specs.declared.cycle.Assign.{Assign}
use Rattle.es_tree.specs.declared.cycle.Arrow.{Arrow}
use Rattle.es_tree.specs.declared.cycle.Cond.{Cond}
use Rattle.es_tree.specs.declared.cycle.Operand.{Operand}
use Rattle.es_tree.specs.declared.cycle.LHS.{LHS}
use Rattle.es_tree.specs.declared.cycle.Primary.{Primary}
use Rattle.es_tree.specs.declared.cycle.Base.{Base}
use Rattle.es_tree.specs.declared.program.Program.{Program}
use Rattle.es_tree.specs.declared.program.ProgramItem.{ProgramItem}
use Rattle.es_grammar.specs.declared.places.Context.{Context}
use Rattle.es_grammar.specs.Reading.{Bytes, spelled, IsAt, KindAt, OneOfWordsAt, NameAt, WordAt}
use Rattle.es_grammar.specs.declared.places.Stop.{Stop}
use Rattle.es_grammar.specs.Rules.{Rules}
use Rattle.es_grammar.specs.Lists.{Chain, EndedListAt}
use Rattle.es_grammar.specs.Functions.{ClosedItemAt, BodyAt, AsyncAt, FuncAt, ArrowParamsAt, ArrowAt, ClassAt}
use Rattle.es_grammar.specs.Expressions.{Expr, literal_words, ExprAt, TemplateAt, PrimaryAt, BaseAt, ImportCallAt, LHSAt, NewAt}
use Rattle.es_grammar.specs.Targets.{ParenthesisedAt, SimpleTargetAt, TargetAt, TargetPatternAt}
use Rattle.es_grammar.specs.Operators.{prefix_words, OperandAt, PrefixedAt, ListedAt, BinaryAt, CondAt, AssignAt}
use Rattle.es_grammar.specs.Statements.{LexicalAt, Lex, Var, LexAt, VarAt, ForAt, StmtAt, ItemAt}
use Rattle.es_grammar.specs.declared.TheConstants.{MAX_NEST}
use Rattle.es_grammar.specs.Modules.{ScriptItemAt}
use Rattle.es_grammar.specs.Parses.{Parses, ProgramItemAt, at_top, rules_to}
use Rattle.es_grammar.proofs.Computing.{reading}
use Rattle.es_grammar.proofs.Witnesses.{same, word}
use Rattle.grammar_laws.specs.Refusals.{AwaitInScript, ExportInScript, await_text, export_text}

-- the words with which a production of a script may begin, but literals, prefixes and `await`
abbrev opening_words : List (List ℕ)
opening_words =
    codes "function" ∷ codes "async" ∷ codes "class" ∷ codes "import" ∷ codes "new" ∷ codes "super" ∷ codes "this" ∷ codes "yield" ∷ codes "let"
    ∷ codes "const" ∷ codes "var" ∷ codes "if" ∷ codes "for" ∷ codes "while" ∷ codes "do" ∷ codes "continue" ∷ codes "break" ∷ codes "return"
    ∷ codes "with" ∷ codes "switch" ∷ codes "throw" ∷ codes "try" ∷ codes "debugger" ∷ []

-- any kind of token but a word
abbrev is_other : TokenKind → Bool
is_other kind.IdName = false
is_other _ = true

-- at a place stands a word that is none of these, whatever the goal
record Foreign (text : Bytes) (p : ℕ) : Type 0 where
  pub no_word : (goal : Goal) (w : List ℕ) (token : Token) → list_any (bytes_eq w) opening_words ≡ true → WordAt text goal w p token → ⊥
  pub no_name : (goal : Goal) (c : Context) (token : Token) → NameAt text goal c p token → ⊥
  pub no_kind : (goal : Goal) (k : TokenKind) (token : Token) → is_other k ≡ true → KindAt text goal k p token → ⊥
  pub no_literal : (token : Token) → OneOfWordsAt text AtOperand literal_words p token → ⊥
  pub no_prefix : (token : Token) → OneOfWordsAt text AtOperand prefix_words p token → ⊥

no_word_at : {text : Bytes} {p : ℕ} {goal : Goal} {w : List ℕ} {token : Token} → Foreign text p → list_any (bytes_eq w) opening_words ≡ true
    → WordAt text goal w p token → ⊥
no_word_at {text} {p} {goal} {w} {token} b is h = b.no_word goal w token is h

no_name_at : {text : Bytes} {p : ℕ} {goal : Goal} {c : Context} {token : Token} → Foreign text p → NameAt text goal c p token → ⊥
no_name_at {text} {p} {goal} {c} {token} b h = b.no_name goal c token h

no_kind_at : {text : Bytes} {p : ℕ} {goal : Goal} {k : TokenKind} {token : Token} → Foreign text p → is_other k ≡ true → KindAt text goal k p token
    → ⊥
no_kind_at {text} {p} {goal} {k} {token} b is h = b.no_kind goal k token is h

-- and the rules refuse it as an operand where `await` is no operator
record Bare (text : Bytes) (r : Rules) (p : ℕ) : Type 0 where
  pub foreign : Foreign text p
  pub no_prefixed : (c : Context) (x : Operand) (s : Stop) → c.has_await ≡ false → r.prefixed c p x s → ⊥
  pub no_new : (c : Context) (x : Base) (q : ℕ) → r.new c p x q → ⊥

-- and as what may be assigned to
record Hard (text : Bytes) (r : Rules) (p : ℕ) : Type 0 where
  pub bare : Bare text r p
  pub no_target_pattern : (c : Context) (x : Target) (q : ℕ) → r.target_pattern c p x q → ⊥

abbrev NoAssign : Rules → ℕ → Type 0
NoAssign r p = (c : Context) (x : Assign) (s : Stop) → c.has_await ≡ false → r.assign c p x s → ⊥

func_no : {text : Bytes} {r : Rules} {c : Context} {named : Bool} {p : ℕ} {x : Func} {q : ℕ} → Foreign text p → FuncAt text r c named p x q → ⊥
func_no b (FuncAt.func _ _ _ _ _ _ _ _ AsyncAt.none h _ _ _ _ _ _ _) = no_word_at b refl h
func_no b (FuncAt.func _ _ _ _ _ _ _ _ (AsyncAt.word _ _ h _ _) _ _ _ _ _ _ _ _) = no_word_at b refl h

class_no : {text : Bytes} {r : Rules} {c : Context} {named : Bool} {p : ℕ} {x : Class} {q : ℕ} → Foreign text p → ClassAt text r c named p x q → ⊥
class_no b (ClassAt.class _ _ _ _ _ _ h _ _ _ _ _ _) = no_word_at b refl h

arrow_params_no : {text : Bytes} {r : Rules} {c : Context} {p : ℕ} {x : ArrowParams Params} {q : ℕ} → Foreign text p → ArrowParamsAt text r c p x q
    → ⊥
arrow_params_no b (ArrowParamsAt.name _ h) = no_name_at b h
arrow_params_no b (ArrowParamsAt.list _ _ _ h _ _) = no_kind_at b refl h.is

arrow_no : {text : Bytes} {r : Rules} {c : Context} {p : ℕ} {x : Arrow} {s : Stop} → Foreign text p → ArrowAt text r c p x s → ⊥
arrow_no b (ArrowAt.block _ _ _ _ AsyncAt.none h _ _ _) = arrow_params_no b h
arrow_no b (ArrowAt.block _ _ _ _ (AsyncAt.word _ _ h _ _) _ _ _ _) = no_word_at b refl h
arrow_no b (ArrowAt.concise _ _ _ _ AsyncAt.none h _ _ _ _) = arrow_params_no b h
arrow_no b (ArrowAt.concise _ _ _ _ (AsyncAt.word _ _ h _ _) _ _ _ _ _) = no_word_at b refl h

template_no : {text : Bytes} {r : Rules} {c : Context} {goal : Goal} {p : ℕ} {x : Template Expr} {q : ℕ} → Foreign text p
    → TemplateAt text r c goal p x q → ⊥
template_no b (TemplateAt.whole _ h _) = no_kind_at b refl h
template_no b (TemplateAt.pieces _ _ h _ _) = no_kind_at b refl h

import_call_no : {text : Bytes} {r : Rules} {c : Context} {p : ℕ} {x : Base} {q : ℕ} → Foreign text p → ImportCallAt text r c p x q → ⊥
import_call_no b (ImportCallAt.call _ _ _ _ _ _ h _ _ _ _ _) = no_word_at b refl h

primary_no : {text : Bytes} {r : Rules} {c : Context} {p : ℕ} {x : Primary} {q : ℕ} → Foreign text p → PrimaryAt text r c p x q → ⊥
primary_no b (PrimaryAt.this _ h) = no_word_at b refl h
primary_no b (PrimaryAt.name _ h) = no_name_at b h
primary_no b (PrimaryAt.word _ h) = b.no_literal _ h
primary_no b (PrimaryAt.number _ h) = no_kind_at b refl h
primary_no b (PrimaryAt.string _ h) = no_kind_at b refl h
primary_no b (PrimaryAt.template _ h) = template_no b h
primary_no b (PrimaryAt.regex _ h) = no_kind_at b refl h
primary_no b (PrimaryAt.array _ _ _ h _ _) = no_kind_at b refl h.is
primary_no b (PrimaryAt.object _ _ _ h _ _) = no_kind_at b refl h.is
primary_no b (PrimaryAt.func _ h) = func_no b h
primary_no b (PrimaryAt.class _ h) = class_no b h
primary_no b (PrimaryAt.paren _ _ _ h _ _) = no_kind_at b refl h.is

new_no : {text : Bytes} {r : Rules} {c : Context} {p : ℕ} {x : Base} {q : ℕ} → Foreign text p → NewAt text r c p x q → ⊥
new_no b (NewAt.with_args _ _ _ h _ _) = no_word_at b refl h
new_no b (NewAt.without _ _ h _ _) = no_word_at b refl h

target_pattern_no : {text : Bytes} {r : Rules} {c : Context} {p : ℕ} {x : Target} {q : ℕ} → Foreign text p → TargetPatternAt text r c p x q → ⊥
target_pattern_no b (TargetPatternAt.array _ _ _ h _ _) = no_kind_at b refl h.is
target_pattern_no b (TargetPatternAt.array_rest _ _ _ _ h _ _ _) = no_kind_at b refl h.is
target_pattern_no b (TargetPatternAt.object _ _ _ h _ _) = no_kind_at b refl h.is
target_pattern_no b (TargetPatternAt.object_rest _ _ _ _ h _ _ _) = no_kind_at b refl h.is

base_no : {text : Bytes} {r : Rules} {c : Context} {p : ℕ} {x : Base} {q : ℕ} → Bare text r p → BaseAt text r c p x q → ⊥
base_no b (BaseAt.primary _ h) = primary_no b.foreign h
base_no b (BaseAt.new _ h) = b.no_new _ _ _ h
base_no b (BaseAt.new_target _ _ _ h _ _) = no_word_at b.foreign refl h
base_no b (BaseAt.import_meta _ _ _ h _ _) = no_word_at b.foreign refl h

lhs_no : {text : Bytes} {r : Rules} {c : Context} {p : ℕ} {x : LHS} {q : ℕ} → Bare text r p → LHSAt text r c p x q → ⊥
lhs_no b (LHSAt.base _ _ h _ _) = base_no b h
lhs_no b (LHSAt.import_call _ _ h _ _) = import_call_no b.foreign h
lhs_no b (LHSAt.super _ _ _ h _ _ _) = no_word_at b.foreign refl h

simple_target_no : {text : Bytes} {r : Rules} {c : Context} {p : ℕ} {x : Target} {q : ℕ} → Bare text r p → SimpleTargetAt text r c p x q → ⊥
simple_target_no b (SimpleTargetAt.name _ h) = no_name_at b.foreign h
simple_target_no b (SimpleTargetAt.member _ h _) = lhs_no b h
simple_target_no b (SimpleTargetAt.paren_name _ (ParenthesisedAt.parenthesised _ _ _ _ h _ _ _ _)) = no_kind_at b.foreign refl h.is
simple_target_no b (SimpleTargetAt.paren_member _ (ParenthesisedAt.parenthesised _ _ _ _ h _ _ _ _)) = no_kind_at b.foreign refl h.is

operand_no : {text : Bytes} {r : Rules} {c : Context} {p : ℕ} {x : Operand} {s : Stop} → Bare text r p → c.has_await ≡ false → OperandAt text r c p x s → ⊥
operand_no b low (OperandAt.prefixed _ h) = b.no_prefixed _ _ _ low h
operand_no b low (OperandAt.lhs _ h) = lhs_no b h
operand_no b low (OperandAt.postfix_of _ _ h _ _) = simple_target_no b h

target_no : {text : Bytes} {r : Rules} {c : Context} {p : ℕ} {x : Target} {q : ℕ} → Hard text r p → TargetAt text r c p x q → ⊥
target_no b (TargetAt.simple _ h) = simple_target_no b.bare h
target_no b (TargetAt.pattern _ h) = b.no_target_pattern _ _ _ h

listed_no : {text : Bytes} {r : Rules} {c : Context} {p : ℕ} {x : Operand} {s : Stop} → Hard text r p → c.has_await ≡ false → ListedAt text r c p x s → ⊥
listed_no b low (ListedAt.operand _ h) = operand_no b.bare low h
listed_no b low (ListedAt.private _ h) = no_kind_at b.bare.foreign refl h

binary_no : {text : Bytes} {r : Rules} {c : Context} {p : ℕ} {x : BinaryOf Operand} {s : Stop} → Hard text r p → c.has_await ≡ false → BinaryAt text r c p x s → ⊥
binary_no b low (BinaryAt.binary _ _ h _ _ _ _) = listed_no b low h

cond_no : {text : Bytes} {r : Rules} {c : Context} {p : ℕ} {x : Cond} {s : Stop} → Hard text r p → c.has_await ≡ false → CondAt text r c p x s → ⊥
cond_no b low (CondAt.test _ h) = binary_no b low h
cond_no b low (CondAt.choice _ _ _ _ _ h _ _ _ _) = binary_no b low h

assign_no : {text : Bytes} {r : Rules} {c : Context} {p : ℕ} {x : Assign} {s : Stop} → Hard text r p → c.has_await ≡ false → AssignAt text r c p x s → ⊥
assign_no b low (AssignAt.cond _ h) = cond_no b low h
assign_no b low (AssignAt.arrow _ h) = arrow_no b.bare.foreign h
assign_no b low (AssignAt.set _ _ _ h _ _) = target_no b h
assign_no b low (AssignAt.compound _ _ _ h _ _) = simple_target_no b.bare h
assign_no b low (AssignAt.yield_alone _ _ h) = no_word_at b.bare.foreign refl h
assign_no b low (AssignAt.yield _ _ _ h _) = no_word_at b.bare.foreign refl h

lexical_no : {text : Bytes} {p : ℕ} {x : Token} {is_const : Bool} → Foreign text p → LexicalAt text p x is_const → ⊥
lexical_no b (LexicalAt.let_word _ h) = no_word_at b refl h
lexical_no b (LexicalAt.const_word _ h) = no_word_at b refl h

lex_no : {text : Bytes} {r : Rules} {c : Context} {p : ℕ} {x : Lex} {q : ℕ} → Foreign text p → LexAt text r c p x q → ⊥
lex_no b (LexAt.lex _ _ _ h _ _) = lexical_no b h

var_no : {text : Bytes} {r : Rules} {c : Context} {p : ℕ} {x : Var} {q : ℕ} → Foreign text p → VarAt text r c p x q → ⊥
var_no b (VarAt.var _ _ _ h _ _) = no_word_at b refl h

for_no : {text : Bytes} {r : Rules} {c : Context} {p : ℕ} {x : For} {q : ℕ} → Foreign text p → ForAt text r c p x q → ⊥
for_no b (ForAt.loop _ _ _ _ _ _ _ _ _ h _ _ _ _ _ _ _ _) = no_word_at b refl h
for_no b (ForAt.in_object _ _ _ _ _ _ _ h _ _ _ _ _ _) = no_word_at b refl h
for_no b (ForAt.of_iterable _ _ _ _ _ _ _ _ h _ _ _ _ _ _ _) = no_word_at b refl h

body_no : {text : Bytes} {r : Rules} {c : Context} {p : ℕ} {x : Body Item} {q : ℕ} → Foreign text p → BodyAt text r c p x q → ⊥
body_no b (BodyAt.body _ _ _ h _ _) = no_kind_at b refl h.is

expr_no : {text : Bytes} {r : Rules} {c : Context} {p : ℕ} {x : Expr} {s : Stop} → NoAssign r p
    → c.has_await ≡ false → ExprAt text r c p x s → ⊥
expr_no no_assign low (ExprAt.expr _ (EndedListAt.last _ h)) = no_assign _ _ _ low h
expr_no no_assign low (ExprAt.expr _ (EndedListAt.more _ _ _ h _ _)) = no_assign _ _ _ low h

stmt_no : {text : Bytes} {r : Rules} {c : Context} {p : ℕ} {x : Stmt} {q : ℕ} → Foreign text p → NoAssign r p → c.has_await ≡ false → StmtAt text r c p x q → ⊥
stmt_no b no_assign low (StmtAt.block _ h) = body_no b h
stmt_no b no_assign low (StmtAt.empty _ h) = no_kind_at b refl h.is
stmt_no b no_assign low (StmtAt.var _ h) = var_no b h
stmt_no b no_assign low (StmtAt.if _ _ _ _ _ _ h _ _ _ _ _) = no_word_at b refl h
stmt_no b no_assign low (StmtAt.for _ h) = for_no b h
stmt_no b no_assign low (StmtAt.while _ _ _ _ _ h _ _ _ _) = no_word_at b refl h
stmt_no b no_assign low (StmtAt.do_while _ _ _ _ _ _ _ h _ _ _ _ _ _) = no_word_at b refl h
stmt_no b no_assign low (StmtAt.continue _ _ _ h _ _) = no_word_at b refl h
stmt_no b no_assign low (StmtAt.break _ _ _ h _ _) = no_word_at b refl h
stmt_no b no_assign low (StmtAt.return _ _ _ h _) = no_word_at b refl h
stmt_no b no_assign low (StmtAt.return_value _ _ _ _ h _ _) = no_word_at b refl h
stmt_no b no_assign low (StmtAt.with _ _ _ _ _ h _ _ _ _) = no_word_at b refl h
stmt_no b no_assign low (StmtAt.switch _ _ _ _ _ _ _ h _ _ _ _ _ _) = no_word_at b refl h
stmt_no b no_assign low (StmtAt.labelled _ _ _ h _ _) = no_name_at b h
stmt_no b no_assign low (StmtAt.throw _ _ _ h _ _) = no_word_at b refl h
stmt_no b no_assign low (StmtAt.try_catch _ _ _ _ _ _ h _ _ _ _ _) = no_word_at b refl h
stmt_no b no_assign low (StmtAt.try_finally _ _ _ h _ _) = no_word_at b refl h
stmt_no b no_assign low (StmtAt.debugger _ _ h _) = no_word_at b refl h
stmt_no b no_assign low (StmtAt.expr _ _ _ _ h _ _) = expr_no no_assign low h

item_no : {text : Bytes} {r : Rules} {c : Context} {p : ℕ} {x : Item} {q : ℕ} → Foreign text p → NoAssign r p → c.has_await ≡ false → ItemAt text r c p x q → ⊥
item_no b no_assign low (ItemAt.stmt _ h) = stmt_no b no_assign low h
item_no b no_assign low (ItemAt.lex _ h) = lex_no b h
item_no b no_assign low (ItemAt.func _ h) = func_no b h
item_no b no_assign low (ItemAt.class _ h) = class_no b h

prefixed_no : {text : Bytes} {r : Rules} {c : Context} {p : ℕ} {x : Operand} {s : Stop} → Foreign text p → c.has_await ≡ false
    → PrefixedAt text r c p x s → ⊥
prefixed_no b low (PrefixedAt.word _ _ h _) = b.no_prefix _ h
prefixed_no b low (PrefixedAt.mark _ _ h _) = no_kind_at b refl h.is
prefixed_no b low (PrefixedAt.await _ _ has _ _) = absurd cc
prefixed_no b low (PrefixedAt.update _ _ h _) = no_kind_at b refl h.is

hard_to : {text : Bytes} {p : ℕ} (nest : ℕ) → Foreign text p → Hard text (rules_to text nest) p
unfolding rules_to
hard_to zero b = record {
  bare = record { foreign = b; no_prefixed = λ c x s low h. absurd h; no_new = λ c x q h. absurd h };
  no_target_pattern = λ c x q h. absurd h;
}
hard_to (suc nest) b = record {
  bare = record { foreign = b; no_prefixed = λ c x s low h. prefixed_no b low h; no_new = λ c x q h. new_no b h };
  no_target_pattern = λ c x q h. target_pattern_no b h;
}

no_assign_to : {text : Bytes} {p : ℕ} (nest : ℕ) → Foreign text p → NoAssign (rules_to text nest) p
unfolding rules_to
no_assign_to zero b c x s low h = h
no_assign_to (suc nest) b c x s low h = assign_no (hard_to nest b) low h

no_item_to : {text : Bytes} {p : ℕ} (nest : ℕ) → Foreign text p → (c : Context) (x : Item) (q : ℕ) → c.has_await ≡ false
    → (rules_to text nest).item c p x q → ⊥
unfolding rules_to
no_item_to zero b c x q low h = h
no_item_to (suc nest) b c x q low h = item_no b (no_assign_to nest b) low h

script_item_no : {text : Bytes} {p : ℕ} (nest : ℕ) → Foreign text p → (x : ProgramItem) (q : ℕ)
    → ScriptItemAt text (rules_to text nest) (at_top Script) p x q → ⊥
script_item_no nest b x q (ScriptItemAt.item _ (ClosedItemAt.closed _ h _)) = no_item_to nest b _ _ _ refl h

items_no : {text : Bytes} (nest : ℕ) → Foreign text 0 → (goal : ProgramGoal) (xs : List ProgramItem) (last : ℕ) (end : Token) → goal ≡ Script
    → Chain (ProgramItemAt text (rules_to text nest) goal) 0 xs last → KindAt text AtOperand kind.End last end → ⊥
items_no nest b goal xs last end script Chain.none h = no_kind_at b refl h
items_no nest b Script xs last end script (Chain.more x _ h rest) is_end = script_item_no nest b x _ h
items_no nest b Module xs last end script (Chain.more x _ h rest) is_end = absurd cc

script_no : {text : Bytes} → Foreign text 0 → (program : Program) → program.goal ≡ Script → Parses text program → ⊥
script_no b program script parse = items_no MAX_NEST b program.goal program.items parse.last parse.end script parse.items parse.is_end

-- what a reserved word that is none of these refuses
foreign : {text : Bytes} (t : Token) → ((goal : Goal) → IsAt text goal 0 t) → t.kind ≡ kind.IdName
    → list_any (bytes_eq (spelled text t)) opening_words ≡ false → ((goal : ProgramGoal) → is_reserved (name_of (spelled text t)) goal ≡ true)
    → list_any (bytes_eq (spelled text t)) literal_words ≡ false → list_any (bytes_eq (spelled text t)) prefix_words ≡ false → Foreign text 0
foreign {text} t stands is_word not_opening reserved not_literal not_prefix = record {
  no_word = λ goal w token is h.
      let here : spelled text t ≡ w = subst (λ u. spelled text u ≡ w) (sym (same _ t token (stands goal) h.is.read)) h.spelled_as in
      let no : list_any (bytes_eq w) opening_words ≡ false = subst (λ v. list_any (bytes_eq v) opening_words ≡ false) here not_opening in
      absurd cc;
  no_name = λ goal c token h.
      let yes : is_reserved (name_of (spelled text token)) c.goal ≡ true =
      subst (λ u. is_reserved (name_of (spelled text u)) c.goal ≡ true) (same _ t token (stands goal) h.is.read) (reserved c.goal) in
      let no = h.free in
      absurd cc;
  no_kind = λ goal k token is h.
      let here : t.kind ≡ k = subst (λ (u : Token). u.kind ≡ k) (sym (same _ t token (stands goal) h.read)) h.kind_is in
      let no : is_other k ≡ false = subst (λ j. is_other j ≡ false) (sym is_word ∙ here) refl in
      absurd cc;
  no_literal = λ token h.
      let no : list_any (bytes_eq (spelled text token)) literal_words ≡ false =
      subst (λ u. list_any (bytes_eq (spelled text u)) literal_words ≡ false) (same _ t token (stands AtOperand) h.is.read) not_literal in
      let yes = h.among in
      absurd cc;
  no_prefix = λ token h.
      let no : list_any (bytes_eq (spelled text token)) prefix_words ≡ false =
      subst (λ u. list_any (bytes_eq (spelled text u)) prefix_words ≡ false) (same _ t token (stands AtOperand) h.is.read) not_prefix in
      let yes = h.among in
      absurd cc;
}

await_stands : (goal : Goal) → IsAt await_text goal 0 (word 0 5)
unfolding reading
await_stands AtOperand = refl
await_stands AtOperator = refl
await_stands AtTemplate = refl

await_reserved : (goal : ProgramGoal) → is_reserved (name_of (spelled await_text (word 0 5))) goal ≡ true
unfolding reading
await_reserved Script = refl
await_reserved Module = refl

await_foreign : Foreign await_text 0
unfolding reading
await_foreign = foreign (word 0 5) await_stands refl refl await_reserved refl refl

pub await_in_script : AwaitInScript
await_in_script program script parse = script_no await_foreign program script parse

export_stands : (goal : Goal) → IsAt export_text goal 0 (word 0 6)
unfolding reading
export_stands AtOperand = refl
export_stands AtOperator = refl
export_stands AtTemplate = refl

export_reserved : (goal : ProgramGoal) → is_reserved (name_of (spelled export_text (word 0 6))) goal ≡ true
unfolding reading
export_reserved Script = refl
export_reserved Module = refl

export_foreign : Foreign export_text 0
unfolding reading
export_foreign = foreign (word 0 6) export_stands refl refl export_reserved refl refl

pub export_in_script : ExportInScript
export_in_script program script parse = script_no export_foreign program script parse
