-- What stands to one nest stands to each greater one.
use Rattle.std.proofs.Common.{◌≤◌, ℕ, zero, suc, Bool, List, Option, arith}
use Rattle.es_tree.specs.declared.tokens.Goal.{Goal}
use Rattle.es_tree.specs.declared.tokens.ProgramGoal.{ProgramGoal}
use Rattle.es_tree.specs.declared.tokens.ProgramGoal.TheVariants.{Script, Module}
use Rattle.es_tree.specs.declared.parts.Separated.{Separated}
use Rattle.es_tree.specs.declared.parts.Initializer.{Initializer}
use Rattle.es_tree.specs.declared.parts.Rest.{Rest}
use Rattle.es_tree.specs.declared.parts.Parenthesised.{Parenthesised}
use Rattle.es_tree.specs.declared.parts.Body.{Body}
use Rattle.es_tree.specs.declared.parts.Else.{Else}
use Rattle.es_tree.specs.declared.parts.CatchParameter.{CatchParameter}
use Rattle.es_tree.specs.declared.parts.Finally.{Finally}
use Rattle.es_tree.specs.declared.parts.Extends.{Extends}
use Rattle.es_tree.specs.declared.parts.Argument.{Argument}
use Rattle.es_tree.specs.declared.parts.Joined.{Joined}
use Rattle.es_tree.specs.declared.parts.Yielded.{Yielded}
use Rattle.es_tree.specs.declared.parts.SecondArgument.{SecondArgument}
use Rattle.es_tree.specs.declared.parts.Piece.{Piece}
use Rattle.es_tree.specs.declared.parts.Template.{Template}
use Rattle.es_tree.specs.declared.parts.ArrowParams.{ArrowParams}
use Rattle.es_tree.specs.declared.parts.KeyOf.{KeyOf}
use Rattle.es_tree.specs.declared.parts.PropertyKey.{PropertyKey}
use Rattle.es_tree.specs.declared.parts.ArgsOf.{ArgsOf}
use Rattle.es_tree.specs.declared.parts.SuffixOf.{SuffixOf}
use Rattle.es_tree.specs.declared.parts.BinaryOf.{BinaryOf}
use Rattle.es_tree.specs.declared.cycle.Item.{Item}
use Rattle.es_tree.specs.declared.cycle.Decl.{Decl}
use Rattle.es_tree.specs.declared.cycle.Case.{Case}
use Rattle.es_tree.specs.declared.cycle.Stmt.{Stmt}
use Rattle.es_tree.specs.declared.cycle.Init.{Init}
use Rattle.es_tree.specs.declared.cycle.For.{For}
use Rattle.es_tree.specs.declared.cycle.Head.{Head}
use Rattle.es_tree.specs.declared.cycle.Func.{Func}
use Rattle.es_tree.specs.declared.cycle.Params.{Params}
use Rattle.es_tree.specs.declared.cycle.Class.{Class}
use Rattle.es_tree.specs.declared.cycle.Element.{Element}
use Rattle.es_tree.specs.declared.cycle.Method.{Method}
use Rattle.es_tree.specs.declared.cycle.BindProperty.{BindProperty}
use Rattle.es_tree.specs.declared.cycle.Bind.{Bind}
use Rattle.es_tree.specs.declared.cycle.Target.{Target}
use Rattle.es_tree.specs.declared.cycle.TargetPart.{TargetPart}
use Rattle.es_tree.specs.declared.cycle.Assign.{Assign}
use Rattle.es_tree.specs.declared.cycle.Arrow.{Arrow}
use Rattle.es_tree.specs.declared.cycle.Cond.{Cond}
use Rattle.es_tree.specs.declared.cycle.Operand.{Operand}
use Rattle.es_tree.specs.declared.cycle.LHS.{LHS}
use Rattle.es_tree.specs.declared.cycle.Member.{Member}
use Rattle.es_tree.specs.declared.cycle.Primary.{Primary}
use Rattle.es_tree.specs.declared.cycle.Base.{Base}
use Rattle.es_tree.specs.declared.program.Export.{Export}
use Rattle.es_tree.specs.declared.program.ProgramItem.{ProgramItem}
use Rattle.es_grammar.specs.declared.places.Context.{Context}
use Rattle.es_grammar.specs.Reading.{Bytes}
use Rattle.es_grammar.specs.declared.places.Stop.{Stop}
use Rattle.es_grammar.specs.Rules.{Rules}
use Rattle.es_grammar.specs.Lists.{Chain, SomeAt, ListAt, EachAt, EndedListAt, ElementsAt, EachElementAt}
use Rattle.es_grammar.specs.Functions.{InitializerAt, BindAt, DeclAt, PartAt, RestAt, KeyAt, ElementKeyAt, PropertyKeyAt, BindPropertyAt, BindPatternAt, ParamsAt, ClosedItemAt, BodyAt, FuncAt, MethodAt, ArrowParamsAt, ArrowAt, ElementAt, HeritageAt, ClassAt}
use Rattle.es_grammar.specs.Expressions.{Expr, ExprAt, ClosedExprAt, PiecesAt, TemplateAt, ArgumentAt, ArgsAt, SuffixAt, MemberAt, PrimaryAt, SecondArgumentAt, BaseAt, ImportCallAt, LHSAt, CalleeAt, NewAt}
use Rattle.es_grammar.specs.Targets.{ParenthesisedAt, TargetMemberAt, SimpleTargetAt, TargetAt, TargetElementAt, TargetPropertyAt, TargetPatternAt}
use Rattle.es_grammar.specs.Operators.{OperandAt, PrefixedAt, ListedAt, JoinedAt, BinaryAt, CondAt, YieldedAt, AssignAt}
use Rattle.es_grammar.specs.Statements.{DeclaredAt, Lex, Var, LexAt, VarAt, InitAt, OptionalInitAt, OptionalExprAt, HeadAt, ForAt, CaseAt, CasesAt, ElseAt, ExprOnLineAt, CatchParameterAt, FinallyAt, OptionalFinallyAt, StmtAt, ItemAt}
use Rattle.es_grammar.specs.Modules.{ExportAt, ModuleItemAt, ScriptItemAt}
use Rattle.es_grammar.specs.Parses.{ProgramItemAt, no_rules, one_more, rules_to}
use Rattle.es_grammar.specs.Nests.{GrowingLaw}

-- what some rules hold of, others hold of too
pub record Grows (r s : Rules) : Type 0 where
  pub item : (c : Context) (p : ℕ) (x : Item) (q : ℕ) → r.item c p x q → s.item c p x q
  pub stmt : (c : Context) (p : ℕ) (x : Stmt) (q : ℕ) → r.stmt c p x q → s.stmt c p x q
  pub assign : (c : Context) (p : ℕ) (x : Assign) (z : Stop) → r.assign c p x z → s.assign c p x z
  pub prefixed : (c : Context) (p : ℕ) (x : Operand) (z : Stop) → r.prefixed c p x z → s.prefixed c p x z
  pub bind_pattern : (c : Context) (p : ℕ) (x : Bind) (q : ℕ) → r.bind_pattern c p x q → s.bind_pattern c p x q
  pub target_pattern : (c : Context) (p : ℕ) (x : Target) (q : ℕ) → r.target_pattern c p x q → s.target_pattern c p x q
  pub new : (c : Context) (p : ℕ) (x : Base) (q : ℕ) → r.new c p x q → s.new c p x q
  pub extended : (c : Context) (p : ℕ) (x : LHS) (q : ℕ) → r.extended c p x q → s.extended c p x q

-- lists, each part of which stands by one rule and so by another

abbrev Maps : {X Q : Type 0} → (ℕ → X → Q → Type 0) → (ℕ → X → Q → Type 0) → Type 0
Maps {X} {Q} a_part b_part = (p : ℕ) (x : X) (q : Q) → a_part p x q → b_part p x q

chain_maps : {X : Type 0} {a_part b_part : ℕ → X → ℕ → Type 0} {p : ℕ} {xs : List X} {q : ℕ} → Chain a_part p xs q → Maps a_part b_part
    → Chain b_part p xs q
chain_maps Chain.none part = Chain.none
chain_maps (Chain.more x xs h rest) part = Chain.more x xs (part _ _ _ h) (chain_maps rest part)

some_maps : {X : Type 0} {text : Bytes} {a_part b_part : ℕ → X → ℕ → Type 0} {p : ℕ} {xs : List (Separated X)} {q : ℕ} → SomeAt text a_part p xs q
    → Maps a_part b_part → SomeAt text b_part p xs q
some_maps (SomeAt.last x h) part = SomeAt.last x (part _ _ _ h)
some_maps (SomeAt.ended x comma h mark) part = SomeAt.ended x comma (part _ _ _ h) mark
some_maps (SomeAt.more x comma xs h mark rest) part = SomeAt.more x comma xs (part _ _ _ h) mark (some_maps rest part)

list_maps : {X : Type 0} {text : Bytes} {a_part b_part : ℕ → X → ℕ → Type 0} {p : ℕ} {xs : List (Separated X)} {q : ℕ} → ListAt text a_part p xs q
    → Maps a_part b_part → ListAt text b_part p xs q
list_maps ListAt.none part = ListAt.none
list_maps (ListAt.some xs h) part = ListAt.some xs (some_maps h part)

each_maps : {X : Type 0} {text : Bytes} {a_part b_part : ℕ → X → ℕ → Type 0} {p : ℕ} {xs : List (Separated X)} {q : ℕ} → EachAt text a_part p xs q
    → Maps a_part b_part → EachAt text b_part p xs q
each_maps EachAt.none part = EachAt.none
each_maps (EachAt.more x comma xs h mark rest) part = EachAt.more x comma xs (part _ _ _ h) mark (each_maps rest part)

ended_list_maps : {X : Type 0} {text : Bytes} {a_part b_part : ℕ → X → Stop → Type 0} {p : ℕ} {xs : List (Separated X)} {q : Stop}
    → EndedListAt text a_part p xs q → Maps a_part b_part → EndedListAt text b_part p xs q
ended_list_maps (EndedListAt.last x h) part = EndedListAt.last x (part _ _ _ h)
ended_list_maps (EndedListAt.more x comma xs h mark rest) part = EndedListAt.more x comma xs (part _ _ _ h) mark (ended_list_maps rest part)

elements_map : {X : Type 0} {text : Bytes} {a_part b_part : ℕ → X → ℕ → Type 0} {p : ℕ} {xs : List (Separated (Option X))} {q : ℕ}
    → ElementsAt text a_part p xs q → Maps a_part b_part → ElementsAt text b_part p xs q
elements_map ElementsAt.none part = ElementsAt.none
elements_map (ElementsAt.hole comma xs mark rest) part = ElementsAt.hole comma xs mark (elements_map rest part)
elements_map (ElementsAt.last x h) part = ElementsAt.last x (part _ _ _ h)
elements_map (ElementsAt.more x comma xs h mark rest) part = ElementsAt.more x comma xs (part _ _ _ h) mark (elements_map rest part)

each_element_maps : {X : Type 0} {text : Bytes} {a_part b_part : ℕ → X → ℕ → Type 0} {p : ℕ} {xs : List (Separated (Option X))} {q : ℕ}
    → EachElementAt text a_part p xs q → Maps a_part b_part → EachElementAt text b_part p xs q
each_element_maps EachElementAt.none part = EachElementAt.none
each_element_maps (EachElementAt.hole comma xs mark rest) part = EachElementAt.hole comma xs mark (each_element_maps rest part)
each_element_maps (EachElementAt.more x comma xs h mark rest) part = EachElementAt.more x comma xs (part _ _ _ h) mark (each_element_maps rest part)

rest_maps : {X : Type 0} {text : Bytes} {a_part b_part : ℕ → X → ℕ → Type 0} {p : ℕ} {x : Rest X} {q : ℕ} → RestAt text a_part p x q
    → Maps a_part b_part → RestAt text b_part p x q
rest_maps (RestAt.rest dots x mark h) part = RestAt.rest dots x mark (part _ _ _ h)

pub initializer_grows : {text : Bytes} {r s : Rules} {c : Context} {i : ℕ} {j : Initializer Assign} {k : Stop} → Grows r s
    → InitializerAt text r c i j k → InitializerAt text s c i j k
initializer_grows g (InitializerAt.initializer equals value h1 h2) = InitializerAt.initializer equals value h1 (g.assign _ _ _ _ h2)

pub bind_grows : {text : Bytes} {r s : Rules} {c : Context} {i : ℕ} {j : Bind} {k : ℕ} → Grows r s → BindAt text r c i j k → BindAt text s c i j k
bind_grows g (BindAt.name token h1) = BindAt.name token h1
bind_grows g (BindAt.pattern x h1) = BindAt.pattern x (g.bind_pattern _ _ _ _ h1)

pub decl_grows : {text : Bytes} {r s : Rules} {c : Context} {i : ℕ} {j : Decl} {k : Stop} → Grows r s → DeclAt text r c i j k → DeclAt text s c i j k
decl_grows g (DeclAt.plain x h1) = DeclAt.plain x (bind_grows g h1)
decl_grows g (DeclAt.initialised x i h1 h2) = DeclAt.initialised x i (bind_grows g h1) (initializer_grows g h2)

pub part_grows : {text : Bytes} {r s : Rules} {c : Context} {i : ℕ} {j : Decl} {k : ℕ} → Grows r s → PartAt text r c i j k → PartAt text s c i j k
part_grows g (PartAt.part x h1) = PartAt.part x (decl_grows g h1)

pub key_grows : {text : Bytes} {r s : Rules} {c : Context} {i : ℕ} {j : KeyOf Assign} {k : ℕ} → Grows r s → KeyAt text r c i j k
    → KeyAt text s c i j k
key_grows g (KeyAt.id_name token h1) = KeyAt.id_name token h1
key_grows g (KeyAt.string token h1) = KeyAt.string token h1
key_grows g (KeyAt.number token h1) = KeyAt.number token h1
key_grows g (KeyAt.computed left x right h1 h2 h3) = KeyAt.computed left x right h1 (g.assign _ _ _ _ h2) h3

pub element_key_grows : {text : Bytes} {r s : Rules} {c : Context} {i : ℕ} {j : KeyOf Assign} {k : ℕ} → Grows r s → ElementKeyAt text r c i j k
    → ElementKeyAt text s c i j k
element_key_grows g (ElementKeyAt.public x h1) = ElementKeyAt.public x (key_grows g h1)
element_key_grows g (ElementKeyAt.private token h1) = ElementKeyAt.private token h1

pub property_key_grows : {text : Bytes} {r s : Rules} {c : Context} {i : ℕ} {j : PropertyKey Assign} {k : ℕ} → Grows r s
    → PropertyKeyAt text r c i j k → PropertyKeyAt text s c i j k
property_key_grows g (PropertyKeyAt.property x colon h1 h2) = PropertyKeyAt.property x colon (key_grows g h1) h2

pub bind_property_grows : {text : Bytes} {r s : Rules} {c : Context} {i : ℕ} {j : BindProperty} {k : ℕ} → Grows r s → BindPropertyAt text r c i j k
    → BindPropertyAt text s c i j k
bind_property_grows g (BindPropertyAt.keyed k x h1 h2) = BindPropertyAt.keyed k x (property_key_grows g h1) (part_grows g h2)
bind_property_grows g (BindPropertyAt.name token h1) = BindPropertyAt.name token h1
bind_property_grows g (BindPropertyAt.initialised token i h1 h2) = BindPropertyAt.initialised token i h1 (initializer_grows g h2)

pub bind_pattern_grows : {text : Bytes} {r s : Rules} {c : Context} {i : ℕ} {j : Bind} {k : ℕ} → Grows r s → BindPatternAt text r c i j k
    → BindPatternAt text s c i j k
bind_pattern_grows g (BindPatternAt.array left xs right h1 h2 h3) =
    BindPatternAt.array left xs right h1 (elements_map h2 (λ p x q h. part_grows g h)) h3
bind_pattern_grows g (BindPatternAt.array_rest left xs x right h1 h2 h3 h4) =
    BindPatternAt.array_rest left xs x right h1 (each_element_maps h2 (λ p x q h. part_grows g h)) (rest_maps h3 (λ p x q h. bind_grows g h)) h4
bind_pattern_grows g (BindPatternAt.object left xs right h1 h2 h3) =
    BindPatternAt.object left xs right h1 (list_maps h2 (λ p x q h. bind_property_grows g h)) h3
bind_pattern_grows g (BindPatternAt.object_rest left xs x right h1 h2 h3 h4) =
    BindPatternAt.object_rest left xs x right h1 (each_maps h2 (λ p x q h. bind_property_grows g h)) h3 h4

pub params_grows : {text : Bytes} {r s : Rules} {c : Context} {i : ℕ} {j : Params} {k : ℕ} → Grows r s → ParamsAt text r c i j k
    → ParamsAt text s c i j k
params_grows g (ParamsAt.list xs h1) = ParamsAt.list xs (list_maps h1 (λ p x q h. part_grows g h))
params_grows g (ParamsAt.with_rest xs x h1 h2) =
    ParamsAt.with_rest xs x (each_maps h1 (λ p x q h. part_grows g h)) (rest_maps h2 (λ p x q h. bind_grows g h))

pub closed_item_grows : {text : Bytes} {r s : Rules} {c : Context} {i : ℕ} {j : Item} {k : ℕ} → Grows r s → ClosedItemAt text r c i j k
    → ClosedItemAt text s c i j k
closed_item_grows g (ClosedItemAt.closed x h1 h2) = ClosedItemAt.closed x (g.item _ _ _ _ h1) h2

pub body_grows : {text : Bytes} {r s : Rules} {c : Context} {i : ℕ} {j : Body Item} {k : ℕ} → Grows r s → BodyAt text r c i j k
    → BodyAt text s c i j k
body_grows g (BodyAt.body left xs right h1 h2 h3) = BodyAt.body left xs right h1 (chain_maps h2 (λ p x q h. closed_item_grows g h)) h3

pub func_grows : {text : Bytes} {r s : Rules} {c : Context} {named : Bool} {i : ℕ} {j : Func} {k : ℕ} → Grows r s → FuncAt text r c named i j k
    → FuncAt text s c named i j k
func_grows g (FuncAt.func async word star name left params right body h1 h2 h3 h4 h5 h6 h7 h8 h9) =
    FuncAt.func async word star name left params right body h1 h2 h3 h4 h5 h6 (params_grows g h7) h8 (body_grows g h9)

pub method_grows : {text : Bytes} {r s : Rules} {c : Context} {a_key b_key : ℕ → KeyOf Assign → ℕ → Type 0} {i : ℕ} {j : Method} {k : ℕ} → Grows r s
    → MethodAt text r c a_key i j k → ((p : ℕ) (x : KeyOf Assign) (q : ℕ) → a_key p x q → b_key p x q) → MethodAt text s c b_key i j k
method_grows g (MethodAt.method async star x left params right body h1 h2 h3 h4 h5 h6 h7) part =
    MethodAt.method async star x left params right body h1 h2 (part _ _ _ h3) h4 (params_grows g h5) h6 (body_grows g h7)
method_grows g (MethodAt.get word x left right body h1 h2 h3 h4 h5) part =
    MethodAt.get word x left right body h1 (part _ _ _ h2) h3 h4 (body_grows g h5)
method_grows g (MethodAt.set word x left parameter right body h1 h2 h3 h4 h5 h6) part =
    MethodAt.set word x left parameter right body h1 (part _ _ _ h2) h3 (part_grows g h4) h5 (body_grows g h6)

pub arrow_params_grows : {text : Bytes} {r s : Rules} {c : Context} {i : ℕ} {j : ArrowParams Params} {k : ℕ} → Grows r s
    → ArrowParamsAt text r c i j k → ArrowParamsAt text s c i j k
arrow_params_grows g (ArrowParamsAt.name token h1) = ArrowParamsAt.name token h1
arrow_params_grows g (ArrowParamsAt.list left params right h1 h2 h3) = ArrowParamsAt.list left params right h1 (params_grows g h2) h3

pub arrow_grows : {text : Bytes} {r s : Rules} {c : Context} {i : ℕ} {j : Arrow} {k : Stop} → Grows r s → ArrowAt text r c i j k
    → ArrowAt text s c i j k
arrow_grows g (ArrowAt.block async params mark body h1 h2 h3 h4 h5) =
    ArrowAt.block async params mark body h1 (arrow_params_grows g h2) h3 h4 (body_grows g h5)
arrow_grows g (ArrowAt.concise async params mark x h1 h2 h3 h4 h5 h6) =
    ArrowAt.concise async params mark x h1 (arrow_params_grows g h2) h3 h4 h5 (g.assign _ _ _ _ h6)

pub element_grows : {text : Bytes} {r s : Rules} {c : Context} {i : ℕ} {j : Element} {k : ℕ} → Grows r s → ElementAt text r c i j k
    → ElementAt text s c i j k
element_grows g (ElementAt.empty token h1) = ElementAt.empty token h1
element_grows g (ElementAt.method word x h1 h2) = ElementAt.method word x h1 (method_grows g h2 (λ p x q h. element_key_grows g h))
element_grows g (ElementAt.field word x semi h1 h2 h3) = ElementAt.field word x semi h1 (element_key_grows g h2) h3
element_grows g (ElementAt.initialised word x i semi h1 h2 h3 h4) =
    ElementAt.initialised word x i semi h1 (element_key_grows g h2) (initializer_grows g h3) h4
element_grows g (ElementAt.block word body h1 h2) = ElementAt.block word body h1 (body_grows g h2)

pub heritage_grows : {text : Bytes} {r s : Rules} {c : Context} {i : ℕ} {j : Option (Extends LHS)} {k : ℕ} → Grows r s → HeritageAt text r c i j k
    → HeritageAt text s c i j k
heritage_grows g HeritageAt.none = HeritageAt.none
heritage_grows g (HeritageAt.extended word x h1 h2) = HeritageAt.extended word x h1 (g.extended _ _ _ _ h2)

pub class_grows : {text : Bytes} {r s : Rules} {c : Context} {named : Bool} {i : ℕ} {j : Class} {k : ℕ} → Grows r s → ClassAt text r c named i j k
    → ClassAt text s c named i j k
class_grows g (ClassAt.class word name heritage left xs right h1 h2 h3 h4 h5 h6 h7) =
    ClassAt.class word name heritage left xs right h1 h2 h3 (heritage_grows g h4) h5 (chain_maps h6 (λ p x q h. element_grows g h)) h7

pub expr_grows : {text : Bytes} {r s : Rules} {c : Context} {i : ℕ} {j : Expr} {k : Stop} → Grows r s → ExprAt text r c i j k → ExprAt text s c i j k
expr_grows g (ExprAt.expr xs h1) = ExprAt.expr xs (ended_list_maps h1 (g.assign _))

pub closed_expr_grows : {text : Bytes} {r s : Rules} {c : Context} {i : ℕ} {j : Expr} {k : ℕ} → Grows r s → ClosedExprAt text r c i j k
    → ClosedExprAt text s c i j k
closed_expr_grows g (ClosedExprAt.closed x h1 h2) = ClosedExprAt.closed x (expr_grows g h1) h2

pub pieces_grows : {text : Bytes} {r s : Rules} {c : Context} {i : ℕ} {j : List (Piece Expr)} {k : ℕ} → Grows r s → PiecesAt text r c i j k
    → PiecesAt text s c i j k
pieces_grows g (PiecesAt.last x token h1 h2 h3) = PiecesAt.last x token (closed_expr_grows g h1) h2 h3
pieces_grows g (PiecesAt.more x token xs h1 h2 h3 h4) = PiecesAt.more x token xs (closed_expr_grows g h1) h2 h3 (pieces_grows g h4)

pub template_grows : {text : Bytes} {r s : Rules} {c : Context} {goal : Goal} {i : ℕ} {j : Template Expr} {k : ℕ} → Grows r s
    → TemplateAt text r c goal i j k → TemplateAt text s c goal i j k
template_grows g (TemplateAt.whole token h1 h2) = TemplateAt.whole token h1 h2
template_grows g (TemplateAt.pieces token xs h1 h2 h3) = TemplateAt.pieces token xs h1 h2 (pieces_grows g h3)

pub argument_grows : {text : Bytes} {r s : Rules} {c : Context} {i : ℕ} {j : Argument Assign} {k : ℕ} → Grows r s → ArgumentAt text r c i j k
    → ArgumentAt text s c i j k
argument_grows g (ArgumentAt.plain x h1) = ArgumentAt.plain x (g.assign _ _ _ _ h1)
argument_grows g (ArgumentAt.spread dots x h1 h2) = ArgumentAt.spread dots x h1 (g.assign _ _ _ _ h2)

pub args_grows : {text : Bytes} {r s : Rules} {c : Context} {i : ℕ} {j : ArgsOf Assign} {k : ℕ} → Grows r s → ArgsAt text r c i j k
    → ArgsAt text s c i j k
args_grows g (ArgsAt.args left xs right h1 h2 h3) = ArgsAt.args left xs right h1 (list_maps h2 (λ p x q h. argument_grows g h)) h3

pub suffix_grows : {text : Bytes} {r s : Rules} {c : Context} {i : ℕ} {j : SuffixOf Assign} {k : ℕ} → Grows r s → SuffixAt text r c i j k
    → SuffixAt text s c i j k
suffix_grows g (SuffixAt.dot mark name h1 h2) = SuffixAt.dot mark name h1 h2
suffix_grows g (SuffixAt.private mark name h1 h2) = SuffixAt.private mark name h1 h2
suffix_grows g (SuffixAt.index left x right h1 h2 h3) = SuffixAt.index left x right h1 (closed_expr_grows g h2) h3
suffix_grows g (SuffixAt.args x h1) = SuffixAt.args x (args_grows g h1)
suffix_grows g (SuffixAt.template x h1) = SuffixAt.template x (template_grows g h1)
suffix_grows g (SuffixAt.optional_dot mark name h1 h2) = SuffixAt.optional_dot mark name h1 h2
suffix_grows g (SuffixAt.optional_private mark name h1 h2) = SuffixAt.optional_private mark name h1 h2
suffix_grows g (SuffixAt.optional_index mark left x right h1 h2 h3 h4) = SuffixAt.optional_index mark left x right h1 h2 (closed_expr_grows g h3) h4
suffix_grows g (SuffixAt.optional_args mark x h1 h2) = SuffixAt.optional_args mark x h1 (args_grows g h2)

pub member_grows : {text : Bytes} {r s : Rules} {c : Context} {i : ℕ} {j : Member} {k : ℕ} → Grows r s → MemberAt text r c i j k
    → MemberAt text s c i j k
member_grows g (MemberAt.shorthand token h1) = MemberAt.shorthand token h1
member_grows g (MemberAt.pair x colon value h1 h2 h3) = MemberAt.pair x colon value (key_grows g h1) h2 (g.assign _ _ _ _ h3)
member_grows g (MemberAt.method x h1) = MemberAt.method x (method_grows g h1 (λ p x q h. key_grows g h))
member_grows g (MemberAt.spread dots x h1 h2) = MemberAt.spread dots x h1 (g.assign _ _ _ _ h2)

pub primary_grows : {text : Bytes} {r s : Rules} {c : Context} {i : ℕ} {j : Primary} {k : ℕ} → Grows r s → PrimaryAt text r c i j k
    → PrimaryAt text s c i j k
primary_grows g (PrimaryAt.this token h1) = PrimaryAt.this token h1
primary_grows g (PrimaryAt.name token h1) = PrimaryAt.name token h1
primary_grows g (PrimaryAt.word token h1) = PrimaryAt.word token h1
primary_grows g (PrimaryAt.number token h1) = PrimaryAt.number token h1
primary_grows g (PrimaryAt.string token h1) = PrimaryAt.string token h1
primary_grows g (PrimaryAt.template x h1) = PrimaryAt.template x (template_grows g h1)
primary_grows g (PrimaryAt.regex token h1) = PrimaryAt.regex token h1
primary_grows g (PrimaryAt.array left xs right h1 h2 h3) = PrimaryAt.array left xs right h1 (elements_map h2 (λ p x q h. argument_grows g h)) h3
primary_grows g (PrimaryAt.object left xs right h1 h2 h3) = PrimaryAt.object left xs right h1 (list_maps h2 (λ p x q h. member_grows g h)) h3
primary_grows g (PrimaryAt.func x h1) = PrimaryAt.func x (func_grows g h1)
primary_grows g (PrimaryAt.class x h1) = PrimaryAt.class x (class_grows g h1)
primary_grows g (PrimaryAt.paren left x right h1 h2 h3) = PrimaryAt.paren left x right h1 (closed_expr_grows g h2) h3

pub second_argument_grows : {text : Bytes} {r s : Rules} {c : Context} {i : ℕ} {j : Option (SecondArgument Assign)} {k : ℕ} → Grows r s
    → SecondArgumentAt text r c i j k → SecondArgumentAt text s c i j k
second_argument_grows g SecondArgumentAt.none = SecondArgumentAt.none
second_argument_grows g (SecondArgumentAt.some comma x h1 h2) = SecondArgumentAt.some comma x h1 (g.assign _ _ _ _ h2)

pub base_grows : {text : Bytes} {r s : Rules} {c : Context} {i : ℕ} {j : Base} {k : ℕ} → Grows r s → BaseAt text r c i j k → BaseAt text s c i j k
base_grows g (BaseAt.primary x h1) = BaseAt.primary x (primary_grows g h1)
base_grows g (BaseAt.new x h1) = BaseAt.new x (g.new _ _ _ _ h1)
base_grows g (BaseAt.new_target word mark name h1 h2 h3) = BaseAt.new_target word mark name h1 h2 h3
base_grows g (BaseAt.import_meta word mark name h1 h2 h3) = BaseAt.import_meta word mark name h1 h2 h3

pub import_call_grows : {text : Bytes} {r s : Rules} {c : Context} {i : ℕ} {j : Base} {k : ℕ} → Grows r s → ImportCallAt text r c i j k
    → ImportCallAt text s c i j k
import_call_grows g (ImportCallAt.call word left x second comma right h1 h2 h3 h4 h5 h6) =
    ImportCallAt.call word left x second comma right h1 h2 (g.assign _ _ _ _ h3) (second_argument_grows g h4) h5 h6

pub lhs_grows : {text : Bytes} {r s : Rules} {c : Context} {i : ℕ} {j : LHS} {k : ℕ} → Grows r s → LHSAt text r c i j k → LHSAt text s c i j k
lhs_grows g (LHSAt.base x xs h1 h2 h3) = LHSAt.base x xs (base_grows g h1) (chain_maps h2 (λ p x q h. suffix_grows g h)) h3
lhs_grows g (LHSAt.import_call x xs h1 h2 h3) = LHSAt.import_call x xs (import_call_grows g h1) (chain_maps h2 (λ p x q h. suffix_grows g h)) h3
lhs_grows g (LHSAt.super word x xs h1 h2 h3 h4) = LHSAt.super word x xs h1 h2 (chain_maps h3 (λ p x q h. suffix_grows g h)) h4

pub callee_grows : {text : Bytes} {r s : Rules} {c : Context} {i : ℕ} {j : LHS} {k : ℕ} → Grows r s → CalleeAt text r c i j k
    → CalleeAt text s c i j k
callee_grows g (CalleeAt.base x xs h1 h2 h3 h4) = CalleeAt.base x xs (base_grows g h1) (chain_maps h2 (λ p x q h. suffix_grows g h)) h3 h4
callee_grows g (CalleeAt.super word x xs h1 h2 h3 h4 h5) = CalleeAt.super word x xs h1 h2 (chain_maps h3 (λ p x q h. suffix_grows g h)) h4 h5

pub new_grows : {text : Bytes} {r s : Rules} {c : Context} {i : ℕ} {j : Base} {k : ℕ} → Grows r s → NewAt text r c i j k → NewAt text s c i j k
new_grows g (NewAt.with_args word x args h1 h2 h3) = NewAt.with_args word x args h1 (callee_grows g h2) (args_grows g h3)
new_grows g (NewAt.without word x h1 h2 h3) = NewAt.without word x h1 (callee_grows g h2) h3

pub parenthesised_maps : {X : Type 0} {text : Bytes} {A B : ℕ → X → ℕ → Type 0} {p : ℕ} {x : Parenthesised X} {q : ℕ} → ParenthesisedAt text A p x q
    → ((p : ℕ) (x : X) (q : ℕ) → A p x q → B p x q) → ParenthesisedAt text B p x q
parenthesised_maps (ParenthesisedAt.parenthesised left more x closed h1 h2 h3 h4 same) part =
    ParenthesisedAt.parenthesised left more x closed h1 h2 (part _ x _ h3) h4 same

pub target_member_grows : {text : Bytes} {r s : Rules} {c : Context} {i : ℕ} {j : LHS} {k : ℕ} → Grows r s → TargetMemberAt text r c i j k
    → TargetMemberAt text s c i j k
target_member_grows g (TargetMemberAt.member x h1 h2) = TargetMemberAt.member x (lhs_grows g h1) h2

pub simple_target_grows : {text : Bytes} {r s : Rules} {c : Context} {i : ℕ} {j : Target} {k : ℕ} → Grows r s → SimpleTargetAt text r c i j k
    → SimpleTargetAt text s c i j k
simple_target_grows g (SimpleTargetAt.name token h1) = SimpleTargetAt.name token h1
simple_target_grows g (SimpleTargetAt.member x h1 h2) = SimpleTargetAt.member x (lhs_grows g h1) h2
simple_target_grows g (SimpleTargetAt.paren_name x h1) = SimpleTargetAt.paren_name x h1
simple_target_grows g (SimpleTargetAt.paren_member x h1) =
    SimpleTargetAt.paren_member x (parenthesised_maps h1 (λ p x q h. target_member_grows g h))

pub target_grows : {text : Bytes} {r s : Rules} {c : Context} {i : ℕ} {j : Target} {k : ℕ} → Grows r s → TargetAt text r c i j k
    → TargetAt text s c i j k
target_grows g (TargetAt.simple x h1) = TargetAt.simple x (simple_target_grows g h1)
target_grows g (TargetAt.pattern x h1) = TargetAt.pattern x (g.target_pattern _ _ _ _ h1)

pub target_element_grows : {text : Bytes} {r s : Rules} {c : Context} {i : ℕ} {j : TargetPart} {k : ℕ} → Grows r s → TargetElementAt text r c i j k
    → TargetElementAt text s c i j k
target_element_grows g (TargetElementAt.plain x h1) = TargetElementAt.plain x (target_grows g h1)
target_element_grows g (TargetElementAt.initialised x i h1 h2) = TargetElementAt.initialised x i (target_grows g h1) (initializer_grows g h2)

pub target_property_grows : {text : Bytes} {r s : Rules} {c : Context} {i : ℕ} {j : TargetPart} {k : ℕ} → Grows r s → TargetPropertyAt text r c i j k
    → TargetPropertyAt text s c i j k
target_property_grows g (TargetPropertyAt.keyed k x h1 h2) = TargetPropertyAt.keyed k x (property_key_grows g h1) (target_grows g h2)
target_property_grows g (TargetPropertyAt.keyed_initialised k x i h1 h2 h3) =
    TargetPropertyAt.keyed_initialised k x i (property_key_grows g h1) (target_grows g h2) (initializer_grows g h3)
target_property_grows g (TargetPropertyAt.name token h1) = TargetPropertyAt.name token h1
target_property_grows g (TargetPropertyAt.name_initialised token i h1 h2) = TargetPropertyAt.name_initialised token i h1 (initializer_grows g h2)

pub target_pattern_grows : {text : Bytes} {r s : Rules} {c : Context} {i : ℕ} {j : Target} {k : ℕ} → Grows r s → TargetPatternAt text r c i j k
    → TargetPatternAt text s c i j k
target_pattern_grows g (TargetPatternAt.array left xs right h1 h2 h3) =
    TargetPatternAt.array left xs right h1 (elements_map h2 (λ p x q h. target_element_grows g h)) h3
target_pattern_grows g (TargetPatternAt.array_rest left xs x right h1 h2 h3 h4) =
    TargetPatternAt.array_rest left xs x right h1 (each_element_maps h2 (λ p x q h. target_element_grows g h))
    (rest_maps h3 (λ p x q h. target_grows g h)) h4
target_pattern_grows g (TargetPatternAt.object left xs right h1 h2 h3) =
    TargetPatternAt.object left xs right h1 (list_maps h2 (λ p x q h. target_property_grows g h)) h3
target_pattern_grows g (TargetPatternAt.object_rest left xs x right h1 h2 h3 h4) =
    TargetPatternAt.object_rest left xs x right h1 (each_maps h2 (λ p x q h. target_property_grows g h))
    (rest_maps h3 (λ p x q h. simple_target_grows g h)) h4

pub operand_grows : {text : Bytes} {r s : Rules} {c : Context} {i : ℕ} {j : Operand} {k : Stop} → Grows r s → OperandAt text r c i j k
    → OperandAt text s c i j k
operand_grows g (OperandAt.prefixed x h1) = OperandAt.prefixed x (g.prefixed _ _ _ _ h1)
operand_grows g (OperandAt.lhs x h1) = OperandAt.lhs x (lhs_grows g h1)
operand_grows g (OperandAt.postfix_of x token h1 h2 h3) = OperandAt.postfix_of x token (simple_target_grows g h1) h2 h3

pub prefixed_grows : {text : Bytes} {r s : Rules} {c : Context} {i : ℕ} {j : Operand} {k : Stop} → Grows r s → PrefixedAt text r c i j k
    → PrefixedAt text s c i j k
prefixed_grows g (PrefixedAt.word token x h1 h2) = PrefixedAt.word token x h1 (operand_grows g h2)
prefixed_grows g (PrefixedAt.mark token x h1 h2) = PrefixedAt.mark token x h1 (operand_grows g h2)
prefixed_grows g (PrefixedAt.await token x h1 h2 h3) = PrefixedAt.await token x h1 h2 (operand_grows g h3)
prefixed_grows g (PrefixedAt.update token x h1 h2) = PrefixedAt.update token x h1 (simple_target_grows g h2)

pub listed_grows : {text : Bytes} {r s : Rules} {c : Context} {i : ℕ} {j : Operand} {k : Stop} → Grows r s → ListedAt text r c i j k
    → ListedAt text s c i j k
listed_grows g (ListedAt.operand x h1) = ListedAt.operand x (operand_grows g h1)
listed_grows g (ListedAt.private token h1) = ListedAt.private token h1

pub joined_grows : {text : Bytes} {r s : Rules} {c : Context} {i : Stop} {j : List (Joined Operand)} {k : Stop} → Grows r s → JoinedAt text r c i j k
    → JoinedAt text s c i j k
joined_grows g JoinedAt.none = JoinedAt.none
joined_grows g (JoinedAt.more op x xs h1 h2 h3) = JoinedAt.more op x xs h1 (listed_grows g h2) (joined_grows g h3)

pub binary_grows : {text : Bytes} {r s : Rules} {c : Context} {i : ℕ} {j : BinaryOf Operand} {k : Stop} → Grows r s → BinaryAt text r c i j k
    → BinaryAt text s c i j k
binary_grows g (BinaryAt.binary x xs h1 h2 h3 h4 h5) = BinaryAt.binary x xs (listed_grows g h1) (joined_grows g h2) h3 h4 h5

pub cond_grows : {text : Bytes} {r s : Rules} {c : Context} {i : ℕ} {j : Cond} {k : Stop} → Grows r s → CondAt text r c i j k → CondAt text s c i j k
cond_grows g (CondAt.test x h1) = CondAt.test x (binary_grows g h1)
cond_grows g (CondAt.choice x question when_true colon when_false h1 h2 h3 h4 h5) =
    CondAt.choice x question when_true colon when_false (binary_grows g h1) h2 (g.assign _ _ _ _ h3) h4 (g.assign _ _ _ _ h5)

pub yielded_grows : {text : Bytes} {r s : Rules} {c : Context} {i : ℕ} {j : Yielded Assign} {k : Stop} → Grows r s → YieldedAt text r c i j k
    → YieldedAt text s c i j k
yielded_grows g (YieldedAt.plain x next h1 h2 h3) = YieldedAt.plain x next h1 h2 (g.assign _ _ _ _ h3)
yielded_grows g (YieldedAt.delegated star x h1 h2 h3) = YieldedAt.delegated star x h1 h2 (g.assign _ _ _ _ h3)

pub assign_grows : {text : Bytes} {r s : Rules} {c : Context} {i : ℕ} {j : Assign} {k : Stop} → Grows r s → AssignAt text r c i j k
    → AssignAt text s c i j k
assign_grows g (AssignAt.cond x h1) = AssignAt.cond x (cond_grows g h1)
assign_grows g (AssignAt.arrow x h1) = AssignAt.arrow x (arrow_grows g h1)
assign_grows g (AssignAt.set x op value h1 h2 h3) = AssignAt.set x op value (target_grows g h1) h2 (g.assign _ _ _ _ h3)
assign_grows g (AssignAt.compound x op value h1 h2 h3) = AssignAt.compound x op value (simple_target_grows g h1) h2 (g.assign _ _ _ _ h3)
assign_grows g (AssignAt.yield_alone word h1 h2) = AssignAt.yield_alone word h1 h2
assign_grows g (AssignAt.yield word x h1 h2 h3) = AssignAt.yield word x h1 h2 (yielded_grows g h3)

pub declared_grows : {text : Bytes} {r s : Rules} {c : Context} {is_const : Bool} {i : ℕ} {j : Decl} {k : Stop} → Grows r s
    → DeclaredAt text r c is_const i j k → DeclaredAt text s c is_const i j k
declared_grows g (DeclaredAt.name token h1 h2) = DeclaredAt.name token h1 (decl_grows g h2)
declared_grows g (DeclaredAt.initialised x i h1) = DeclaredAt.initialised x i (decl_grows g h1)

pub lex_grows : {text : Bytes} {r s : Rules} {c : Context} {i : ℕ} {j : Lex} {k : ℕ} → Grows r s → LexAt text r c i j k → LexAt text s c i j k
lex_grows g (LexAt.lex word xs semi h1 h2 h3) = LexAt.lex word xs semi h1 (ended_list_maps h2 (λ p x q h. declared_grows g h)) h3

pub var_grows : {text : Bytes} {r s : Rules} {c : Context} {i : ℕ} {j : Var} {k : ℕ} → Grows r s → VarAt text r c i j k → VarAt text s c i j k
var_grows g (VarAt.var word xs semi h1 h2 h3) = VarAt.var word xs semi h1 (ended_list_maps h2 (λ p x q h. declared_grows g h)) h3

pub init_grows : {text : Bytes} {r s : Rules} {c : Context} {i : ℕ} {j : Init} {k : ℕ} → Grows r s → InitAt text r c i j k → InitAt text s c i j k
init_grows g (InitAt.var word xs h1 h2) = InitAt.var word xs h1 (ended_list_maps h2 (λ p x q h. declared_grows g h))
init_grows g (InitAt.lex word xs h1 h2) = InitAt.lex word xs h1 (ended_list_maps h2 (λ p x q h. declared_grows g h))
init_grows g (InitAt.expr x h1) = InitAt.expr x (closed_expr_grows g h1)

pub optional_init_grows : {text : Bytes} {r s : Rules} {c : Context} {i : ℕ} {j : Option Init} {k : ℕ} → Grows r s → OptionalInitAt text r c i j k
    → OptionalInitAt text s c i j k
optional_init_grows g OptionalInitAt.none = OptionalInitAt.none
optional_init_grows g (OptionalInitAt.some x h1) = OptionalInitAt.some x (init_grows g h1)

pub optional_expr_grows : {text : Bytes} {r s : Rules} {c : Context} {i : ℕ} {j : Option Expr} {k : ℕ} → Grows r s → OptionalExprAt text r c i j k
    → OptionalExprAt text s c i j k
optional_expr_grows g OptionalExprAt.none = OptionalExprAt.none
optional_expr_grows g (OptionalExprAt.some x h1) = OptionalExprAt.some x (closed_expr_grows g h1)

pub head_grows : {text : Bytes} {r s : Rules} {c : Context} {i : ℕ} {j : Head} {k : ℕ} → Grows r s → HeadAt text r c i j k → HeadAt text s c i j k
head_grows g (HeadAt.bind word x h1 h2) = HeadAt.bind word x h1 (bind_grows g h2)
head_grows g (HeadAt.target x h1) = HeadAt.target x (target_grows g h1)

pub for_grows : {text : Bytes} {r s : Rules} {c : Context} {i : ℕ} {j : For} {k : ℕ} → Grows r s → ForAt text r c i j k → ForAt text s c i j k
for_grows g (ForAt.loop word left init first test second update right body h1 h2 h3 h4 h5 h6 h7 h8 h9) =
    ForAt.loop word left init first test second update right body h1 h2 (optional_init_grows g h3) h4 (optional_expr_grows g h5) h6
    (optional_expr_grows g h7) h8 (g.stmt _ _ _ _ h9)
for_grows g (ForAt.in_object word left head middle x right body h1 h2 h3 h4 h5 h6 h7) =
    ForAt.in_object word left head middle x right body h1 h2 (head_grows g h3) h4 (closed_expr_grows g h5) h6 (g.stmt _ _ _ _ h7)
for_grows g (ForAt.of_iterable word await left head middle x right body h1 h2 h3 h4 h5 h6 h7 h8) =
    ForAt.of_iterable word await left head middle x right body h1 h2 h3 (head_grows g h4) h5 (g.assign _ _ _ _ h6) h7 (g.stmt _ _ _ _ h8)

pub case_grows : {text : Bytes} {r s : Rules} {c : Context} {i : ℕ} {j : Case} {k : ℕ} → Grows r s → CaseAt text r c i j k → CaseAt text s c i j k
case_grows g (CaseAt.case word x colon xs h1 h2 h3 h4) =
    CaseAt.case word x colon xs h1 (closed_expr_grows g h2) h3 (chain_maps h4 (λ p x q h. closed_item_grows g h))
case_grows g (CaseAt.default word colon xs h1 h2 h3) = CaseAt.default word colon xs h1 h2 (chain_maps h3 (λ p x q h. closed_item_grows g h))

pub cases_grows : {text : Bytes} {r s : Rules} {c : Context} {i : Bool} {j : ℕ} {k : List Case} {l : ℕ} → Grows r s → CasesAt text r c i j k l
    → CasesAt text s c i j k l
cases_grows g CasesAt.none = CasesAt.none
cases_grows g (CasesAt.case word x colon xs rest h1 h2) = CasesAt.case word x colon xs rest (case_grows g h1) (cases_grows g h2)
cases_grows g (CasesAt.default word colon xs rest h1 h2) = CasesAt.default word colon xs rest (case_grows g h1) (cases_grows g h2)

pub else_grows : {text : Bytes} {r s : Rules} {c : Context} {i : ℕ} {j : Option (Else Stmt)} {k : ℕ} → Grows r s → ElseAt text r c i j k
    → ElseAt text s c i j k
else_grows g (ElseAt.none h1) = ElseAt.none h1
else_grows g (ElseAt.word token x h1 h2) = ElseAt.word token x h1 (g.stmt _ _ _ _ h2)

pub expr_on_line_grows : {text : Bytes} {r s : Rules} {c : Context} {i : ℕ} {j : Expr} {k : Stop} → Grows r s → ExprOnLineAt text r c i j k
    → ExprOnLineAt text s c i j k
expr_on_line_grows g (ExprOnLineAt.expr x next h1 h2 h3 h4) = ExprOnLineAt.expr x next h1 h2 (expr_grows g h3) h4

pub catch_parameter_grows : {text : Bytes} {r s : Rules} {c : Context} {i : ℕ} {j : Option (CatchParameter Bind)} {k : ℕ} → Grows r s
    → CatchParameterAt text r c i j k → CatchParameterAt text s c i j k
catch_parameter_grows g CatchParameterAt.none = CatchParameterAt.none
catch_parameter_grows g (CatchParameterAt.bind left x right h1 h2 h3) = CatchParameterAt.bind left x right h1 (bind_grows g h2) h3

pub finally_grows : {text : Bytes} {r s : Rules} {c : Context} {i : ℕ} {j : Finally Item} {k : ℕ} → Grows r s → FinallyAt text r c i j k
    → FinallyAt text s c i j k
finally_grows g (FinallyAt.finally word x h1 h2) = FinallyAt.finally word x h1 (body_grows g h2)

pub optional_finally_grows : {text : Bytes} {r s : Rules} {c : Context} {i : ℕ} {j : Option (Finally Item)} {k : ℕ} → Grows r s
    → OptionalFinallyAt text r c i j k → OptionalFinallyAt text s c i j k
optional_finally_grows g OptionalFinallyAt.none = OptionalFinallyAt.none
optional_finally_grows g (OptionalFinallyAt.some x h1) = OptionalFinallyAt.some x (finally_grows g h1)

pub stmt_grows : {text : Bytes} {r s : Rules} {c : Context} {i : ℕ} {j : Stmt} {k : ℕ} → Grows r s → StmtAt text r c i j k → StmtAt text s c i j k
stmt_grows g (StmtAt.block x h1) = StmtAt.block x (body_grows g h1)
stmt_grows g (StmtAt.empty token h1) = StmtAt.empty token h1
stmt_grows g (StmtAt.var x h1) = StmtAt.var x (var_grows g h1)
stmt_grows g (StmtAt.if word left x right body otherwise h1 h2 h3 h4 h5 h6) =
    StmtAt.if word left x right body otherwise h1 h2 (closed_expr_grows g h3) h4 (g.stmt _ _ _ _ h5) (else_grows g h6)
stmt_grows g (StmtAt.for x h1) = StmtAt.for x (for_grows g h1)
stmt_grows g (StmtAt.while word left x right body h1 h2 h3 h4 h5) =
    StmtAt.while word left x right body h1 h2 (closed_expr_grows g h3) h4 (g.stmt _ _ _ _ h5)
stmt_grows g (StmtAt.do_while word body while_word left x right semi h1 h2 h3 h4 h5 h6 h7) =
    StmtAt.do_while word body while_word left x right semi h1 (g.stmt _ _ _ _ h2) h3 h4 (closed_expr_grows g h5) h6 h7
stmt_grows g (StmtAt.continue word label semi h1 h2 h3) = StmtAt.continue word label semi h1 h2 h3
stmt_grows g (StmtAt.break word label semi h1 h2 h3) = StmtAt.break word label semi h1 h2 h3
stmt_grows g (StmtAt.return word semi h1 h2 h3) = StmtAt.return word semi h1 h2 h3
stmt_grows g (StmtAt.return_value word x semi h1 h2 h3 h4) = StmtAt.return_value word x semi h1 h2 (expr_on_line_grows g h3) h4
stmt_grows g (StmtAt.with word left x right body h1 h2 h3 h4 h5) =
    StmtAt.with word left x right body h1 h2 (closed_expr_grows g h3) h4 (g.stmt _ _ _ _ h5)
stmt_grows g (StmtAt.switch word left x right brace cases last h1 h2 h3 h4 h5 h6 h7) =
    StmtAt.switch word left x right brace cases last h1 h2 (closed_expr_grows g h3) h4 h5 (cases_grows g h6) h7
stmt_grows g (StmtAt.labelled name colon body h1 h2 h3) = StmtAt.labelled name colon body h1 h2 (g.stmt _ _ _ _ h3)
stmt_grows g (StmtAt.throw word x semi h1 h2 h3) = StmtAt.throw word x semi h1 (expr_on_line_grows g h2) h3
stmt_grows g (StmtAt.try_catch word body catch_word parameter handler last h1 h2 h3 h4 h5 h6) =
    StmtAt.try_catch word body catch_word parameter handler last h1 (body_grows g h2) h3 (catch_parameter_grows g h4) (body_grows g h5)
    (optional_finally_grows g h6)
stmt_grows g (StmtAt.try_finally word body last h1 h2 h3) = StmtAt.try_finally word body last h1 (body_grows g h2) (finally_grows g h3)
stmt_grows g (StmtAt.debugger word semi h1 h2) = StmtAt.debugger word semi h1 h2
stmt_grows g (StmtAt.expr x semi h1 h2 h3 h4 h5) = StmtAt.expr x semi h1 h2 (expr_grows g h3) h4 h5

pub item_grows : {text : Bytes} {r s : Rules} {c : Context} {i : ℕ} {j : Item} {k : ℕ} → Grows r s → ItemAt text r c i j k → ItemAt text s c i j k
item_grows g (ItemAt.stmt x h1) = ItemAt.stmt x (stmt_grows g h1)
item_grows g (ItemAt.lex x h1) = ItemAt.lex x (lex_grows g h1)
item_grows g (ItemAt.func x h1) = ItemAt.func x (func_grows g h1)
item_grows g (ItemAt.class x h1) = ItemAt.class x (class_grows g h1)

pub export_grows : {text : Bytes} {r s : Rules} {c : Context} {i : ℕ} {j : Export} {k : ℕ} → Grows r s → ExportAt text r c i j k
    → ExportAt text s c i j k
export_grows g (ExportAt.all word star from_word request attributes semi h1 h2 h3 h4 h5 h6) =
    ExportAt.all word star from_word request attributes semi h1 h2 h3 h4 h5 h6
export_grows g (ExportAt.space word star as_word name from_word request attributes semi h1 h2 h3 h4 h5 h6 h7 h8) =
    ExportAt.space word star as_word name from_word request attributes semi h1 h2 h3 h4 h5 h6 h7 h8
export_grows g (ExportAt.from word x from_word request attributes semi h1 h2 h3 h4 h5 h6) =
    ExportAt.from word x from_word request attributes semi h1 h2 h3 h4 h5 h6
export_grows g (ExportAt.names word x semi h1 h2 h3) = ExportAt.names word x semi h1 h2 h3
export_grows g (ExportAt.var word x h1 h2) = ExportAt.var word x h1 (var_grows g h2)
export_grows g (ExportAt.lex word x h1 h2) = ExportAt.lex word x h1 (lex_grows g h2)
export_grows g (ExportAt.func word x h1 h2) = ExportAt.func word x h1 (func_grows g h2)
export_grows g (ExportAt.class word x h1 h2) = ExportAt.class word x h1 (class_grows g h2)
export_grows g (ExportAt.default_func word default_word x h1 h2 h3) = ExportAt.default_func word default_word x h1 h2 (func_grows g h3)
export_grows g (ExportAt.default_class word default_word x h1 h2 h3) = ExportAt.default_class word default_word x h1 h2 (class_grows g h3)
export_grows g (ExportAt.default word default_word x semi h1 h2 h3 h4 h5) =
    ExportAt.default word default_word x semi h1 h2 h3 (g.assign _ _ _ _ h4) h5

pub module_item_grows : {text : Bytes} {r s : Rules} {c : Context} {i : ℕ} {j : ProgramItem} {k : ℕ} → Grows r s → ModuleItemAt text r c i j k
    → ModuleItemAt text s c i j k
module_item_grows g (ModuleItemAt.item x h1) = ModuleItemAt.item x (closed_item_grows g h1)
module_item_grows g (ModuleItemAt.import_from x h1) = ModuleItemAt.import_from x h1
module_item_grows g (ModuleItemAt.export x h1) = ModuleItemAt.export x (export_grows g h1)

pub script_item_grows : {text : Bytes} {r s : Rules} {c : Context} {i : ℕ} {j : ProgramItem} {k : ℕ} → Grows r s → ScriptItemAt text r c i j k
    → ScriptItemAt text s c i j k
script_item_grows g (ScriptItemAt.item x h1) = ScriptItemAt.item x (closed_item_grows g h1)

one_more_grows : (text : Bytes) (r s : Rules) → Grows r s → Grows (one_more text r) (one_more text s)
one_more_grows text r s g = record {
  item = λ c p x q h. item_grows g h;
  stmt = λ c p x q h. stmt_grows g h;
  assign = λ c p x z h. assign_grows g h;
  prefixed = λ c p x z h. prefixed_grows g h;
  bind_pattern = λ c p x q h. bind_pattern_grows g h;
  target_pattern = λ c p x q h. target_pattern_grows g h;
  new = λ c p x q h. new_grows g h;
  extended = λ c p x q h. lhs_grows g h;
}

none_grows : (s : Rules) → Grows no_rules s
none_grows s = record {
  item = λ c p x q h. absurd h;
  stmt = λ c p x q h. absurd h;
  assign = λ c p x z h. absurd h;
  prefixed = λ c p x z h. absurd h;
  bind_pattern = λ c p x q h. absurd h;
  target_pattern = λ c p x q h. absurd h;
  new = λ c p x q h. absurd h;
  extended = λ c p x q h. absurd h;
}

pub rules_grow : (text : Bytes) (m n : ℕ) → m ≤ n → Grows (rules_to text m) (rules_to text n)
unfolding rules_to
rules_grow text zero n h = none_grows (rules_to text n)
rules_grow text (suc m) zero h = absurd (omega (arith, h))
rules_grow text (suc m) (suc n) h = one_more_grows text (rules_to text m) (rules_to text n) (rules_grow text m n (omega (arith, h)))

program_item_grows : (text : Bytes) (r s : Rules) (goal : ProgramGoal) → Grows r s → Maps (ProgramItemAt text r goal) (ProgramItemAt text s goal)
program_item_grows text r s Script g = λ p x q h. script_item_grows g h
program_item_grows text r s Module g = λ p x q h. module_item_grows g h

pub growing : GrowingLaw
growing text goal m n xs last less items = chain_maps items (program_item_grows text (rules_to text m) (rules_to text n) goal (rules_grow text m n less))
