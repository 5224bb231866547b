-- The tokens of a tree, in order.
use Rattle.std.specs.Prelude.{List, [], ◌∷◌, ◌++◌, Option, Some, None}
use Rattle.es_tree.specs.declared.tokens.Token.{Token}
use Rattle.es_tree.specs.declared.parts.Separated.{Separated}
use Rattle.es_tree.specs.declared.parts.Initializer.{Initializer}
use Rattle.es_tree.specs.declared.parts.Rest.{Rest}
use Rattle.es_tree.specs.declared.parts.Parenthesised.{Parenthesised}
use Rattle.es_tree.specs.declared.parts.Body.{Body}
use Rattle.es_tree.specs.declared.parts.Else.{Else}
use Rattle.es_tree.specs.declared.parts.CatchParameter.{CatchParameter}
use Rattle.es_tree.specs.declared.parts.Finally.{Finally}
use Rattle.es_tree.specs.declared.parts.Extends.{Extends}
use Rattle.es_tree.specs.declared.parts.Argument.{Argument}
use Rattle.es_tree.specs.declared.parts.Arms.{Arms}
use Rattle.es_tree.specs.declared.parts.Joined.{Joined}
use Rattle.es_tree.specs.declared.parts.Yielded.{Yielded}
use Rattle.es_tree.specs.declared.parts.SecondArgument.{SecondArgument}
use Rattle.es_tree.specs.declared.parts.Piece.{Piece}
use Rattle.es_tree.specs.declared.parts.Template.{Template}
use Rattle.es_tree.specs.declared.parts.ArrowParams.{ArrowParams}
use Rattle.es_tree.specs.declared.parts.ArrowParams.TheVariants as arrow_params_v
use Rattle.es_tree.specs.declared.parts.LexOf.{LexOf}
use Rattle.es_tree.specs.declared.parts.VarOf.{VarOf}
use Rattle.es_tree.specs.declared.parts.KeyOf.{KeyOf}
use Rattle.es_tree.specs.declared.parts.KeyOf.TheVariants as key_of_v
use Rattle.es_tree.specs.declared.parts.PropertyKey.{PropertyKey}
use Rattle.es_tree.specs.declared.parts.ExprOf.{ExprOf}
use Rattle.es_tree.specs.declared.parts.ArgsOf.{ArgsOf}
use Rattle.es_tree.specs.declared.parts.SuffixOf.{SuffixOf}
use Rattle.es_tree.specs.declared.parts.SuffixOf.TheVariants as suffix_of_v
use Rattle.es_tree.specs.declared.parts.BinaryOf.{BinaryOf}
use Rattle.es_tree.specs.declared.program.Space.{Space}
use Rattle.es_tree.specs.declared.program.ImportName.{ImportName}
use Rattle.es_tree.specs.declared.program.ImportName.TheVariants as import_name_v
use Rattle.es_tree.specs.declared.program.Named.{Named}
use Rattle.es_tree.specs.declared.program.Clause.{Clause}
use Rattle.es_tree.specs.declared.program.Clause.TheVariants as clause_v
use Rattle.es_tree.specs.declared.program.Attribute.{Attribute}
use Rattle.es_tree.specs.declared.program.With.{With}
use Rattle.es_tree.specs.declared.program.Import.{Import}
use Rattle.es_tree.specs.declared.program.Import.TheVariants as import_v
use Rattle.es_tree.specs.declared.program.Renamed.{Renamed}
use Rattle.es_tree.specs.declared.program.ExportName.{ExportName}
use Rattle.es_tree.specs.declared.program.Names.{Names}
use Rattle.es_tree.specs.declared.program.Export.{Export}
use Rattle.es_tree.specs.declared.program.Export.TheVariants as export_v
use Rattle.es_tree.specs.declared.program.ProgramItem.{ProgramItem}
use Rattle.es_tree.specs.declared.program.ProgramItem.TheVariants as program_item_v
use Rattle.es_tree.specs.declared.program.Program.{Program}
use Rattle.es_tree.specs.declared.cycle.Arrow.TheOpen.{Arrow-F, Assign-F, Base-F, Bind-F, Case-F, Element-F, For-F, Head-F, Init-F, Item-F, Member-F, Method-F, Operand-F, Primary-F, Stmt-F, Target-F, BindProperty-F, Class-F, Cond-F, Decl-F, Func-F, LHS-F, Params-F, TargetPart-F}
use Rattle.es_tree.specs.declared.cycle.Item.{Item, fold-Item}
use Rattle.es_tree.specs.declared.cycle.Decl.{Decl, fold-Decl}
use Rattle.es_tree.specs.declared.cycle.Case.{Case, fold-Case}
use Rattle.es_tree.specs.declared.cycle.Stmt.{Stmt, fold-Stmt}
use Rattle.es_tree.specs.declared.cycle.Init.{Init, fold-Init}
use Rattle.es_tree.specs.declared.cycle.For.{For, fold-For}
use Rattle.es_tree.specs.declared.cycle.Head.{Head, fold-Head}
use Rattle.es_tree.specs.declared.cycle.Func.{Func, fold-Func}
use Rattle.es_tree.specs.declared.cycle.Params.{Params, fold-Params}
use Rattle.es_tree.specs.declared.cycle.Class.{Class, fold-Class}
use Rattle.es_tree.specs.declared.cycle.Element.{Element, fold-Element}
use Rattle.es_tree.specs.declared.cycle.Method.{Method, fold-Method}
use Rattle.es_tree.specs.declared.cycle.BindProperty.{BindProperty, fold-BindProperty}
use Rattle.es_tree.specs.declared.cycle.Bind.{Bind, fold-Bind}
use Rattle.es_tree.specs.declared.cycle.Target.{Target, fold-Target}
use Rattle.es_tree.specs.declared.cycle.TargetPart.{TargetPart, fold-TargetPart}
use Rattle.es_tree.specs.declared.cycle.Assign.{Assign, fold-Assign}
use Rattle.es_tree.specs.declared.cycle.Arrow.{Arrow, fold-Arrow}
use Rattle.es_tree.specs.declared.cycle.Cond.{Cond, fold-Cond}
use Rattle.es_tree.specs.declared.cycle.Operand.{Operand, fold-Operand}
use Rattle.es_tree.specs.declared.cycle.LHS.{LHS, fold-LHS}
use Rattle.es_tree.specs.declared.cycle.Member.{Member, fold-Member}
use Rattle.es_tree.specs.declared.cycle.Primary.{Primary, fold-Primary}
use Rattle.es_tree.specs.declared.cycle.Base.{Base, fold-Base}

abbrev pub Tokens : Type 0
Tokens = List Token

abbrev pub one : Token → Tokens
one token = token ∷ []

-- what is a list of tokens already
abbrev pub inner : Tokens → Tokens
inner tokens = tokens

abbrev pub opt : {X : Type 0} → (X → Tokens) → Option X → Tokens
opt f None = []
opt f (Some x) = f x

abbrev pub listed : {X : Type 0} → (X → Tokens) → List X → Tokens
listed f [] = []
listed f (x ∷ xs) = f x ++ listed f xs

-- parts that several productions have: `f` gives the tokens of what they hold

abbrev pub separated_tokens : {X : Type 0} → (X → Tokens) → Separated X → Tokens
separated_tokens f separated = f separated.item ++ opt one separated.comma

abbrev pub initializer_tokens : {X : Type 0} → (X → Tokens) → Initializer X → Tokens
initializer_tokens f initializer = one initializer.equals ++ f initializer.value

abbrev pub rest_tokens : {X : Type 0} → (X → Tokens) → Rest X → Tokens
rest_tokens f rest = one rest.dots ++ f rest.item

abbrev pub parenthesised_tokens : {X : Type 0} → (X → Tokens) → Parenthesised X → Tokens
parenthesised_tokens f parenthesised = listed one parenthesised.opened ++ f parenthesised.item ++ listed one parenthesised.closed

abbrev pub body_tokens : {X : Type 0} → (X → Tokens) → Body X → Tokens
body_tokens f body = one body.left ++ listed f body.items ++ one body.right

abbrev pub else_tokens : {X : Type 0} → (X → Tokens) → Else X → Tokens
else_tokens f else = one else.word ++ f else.stmt

abbrev pub catch_parameter_tokens : {X : Type 0} → (X → Tokens) → CatchParameter X → Tokens
catch_parameter_tokens f catch_parameter = one catch_parameter.left ++ f catch_parameter.bind ++ one catch_parameter.right

abbrev pub finally_tokens : {X : Type 0} → (X → Tokens) → Finally X → Tokens
finally_tokens f finally = one finally.word ++ body_tokens f finally.block

abbrev pub extends_tokens : {X : Type 0} → (X → Tokens) → Extends X → Tokens
extends_tokens f extends = one extends.word ++ f extends.lhs

abbrev pub argument_tokens : {X : Type 0} → (X → Tokens) → Argument X → Tokens
argument_tokens f argument = opt one argument.spread ++ f argument.value

abbrev pub arms_tokens : {X : Type 0} → (X → Tokens) → Arms X → Tokens
arms_tokens f arms = one arms.question ++ f arms.when_true ++ one arms.colon ++ f arms.when_false

abbrev pub joined_tokens : {X : Type 0} → (X → Tokens) → Joined X → Tokens
joined_tokens f joined = one joined.op ++ f joined.operand

abbrev pub yielded_tokens : {X : Type 0} → (X → Tokens) → Yielded X → Tokens
yielded_tokens f yielded = opt one yielded.star ++ f yielded.value

abbrev pub second_argument_tokens : {X : Type 0} → (X → Tokens) → SecondArgument X → Tokens
second_argument_tokens f second_argument = one second_argument.comma ++ f second_argument.value

abbrev pub piece_tokens : {X : Type 0} → (X → Tokens) → Piece X → Tokens
piece_tokens f piece = f piece.expr ++ one piece.next

abbrev pub template_tokens : {X : Type 0} → (X → Tokens) → Template X → Tokens
template_tokens f template = one template.head ++ listed (piece_tokens f) template.more

abbrev pub arrow_params_tokens : {X : Type 0} → (X → Tokens) → ArrowParams X → Tokens
arrow_params_tokens f (arrow_params_v.Name name) = one name
arrow_params_tokens f (arrow_params_v.List left params right) = one left ++ f params ++ one right

abbrev pub lex_of_tokens : {X : Type 0} → (X → Tokens) → LexOf X → Tokens
lex_of_tokens f lex_of = one lex_of.word ++ listed (separated_tokens f) lex_of.decls ++ opt one lex_of.semi

abbrev pub var_of_tokens : {X : Type 0} → (X → Tokens) → VarOf X → Tokens
var_of_tokens f var_of = one var_of.word ++ listed (separated_tokens f) var_of.decls ++ opt one var_of.semi

abbrev pub key_of_tokens : {X : Type 0} → (X → Tokens) → KeyOf X → Tokens
key_of_tokens f (key_of_v.IdName name) = one name
key_of_tokens f (key_of_v.String text) = one text
key_of_tokens f (key_of_v.Number number) = one number
key_of_tokens f (key_of_v.Computed left value right) = one left ++ f value ++ one right
key_of_tokens f (key_of_v.Private name) = one name

abbrev pub property_key_tokens : {X : Type 0} → (X → Tokens) → PropertyKey X → Tokens
property_key_tokens f property_key = key_of_tokens f property_key.key ++ one property_key.colon

abbrev pub expr_of_tokens : {X : Type 0} → (X → Tokens) → ExprOf X → Tokens
expr_of_tokens f expr_of = listed (separated_tokens f) expr_of.list

abbrev pub args_of_tokens : {X : Type 0} → (X → Tokens) → ArgsOf X → Tokens
args_of_tokens f args_of = one args_of.left ++ listed (separated_tokens (argument_tokens f)) args_of.list ++ one args_of.right

abbrev pub suffix_of_tokens : {X : Type 0} → (X → Tokens) → SuffixOf X → Tokens
suffix_of_tokens f (suffix_of_v.Dot mark name) = one mark ++ one name
suffix_of_tokens f (suffix_of_v.Private mark name) = one mark ++ one name
suffix_of_tokens f (suffix_of_v.Index left index right) = one left ++ expr_of_tokens f index ++ one right
suffix_of_tokens f (suffix_of_v.Args args) = args_of_tokens f args
suffix_of_tokens f (suffix_of_v.Template template) = template_tokens (expr_of_tokens f) template
suffix_of_tokens f (suffix_of_v.OptionalDot mark name) = one mark ++ one name
suffix_of_tokens f (suffix_of_v.OptionalPrivate mark name) = one mark ++ one name
suffix_of_tokens f (suffix_of_v.OptionalIndex mark left index right) = one mark ++ one left ++ expr_of_tokens f index ++ one right
suffix_of_tokens f (suffix_of_v.OptionalArgs mark args) = one mark ++ args_of_tokens f args

abbrev pub binary_of_tokens : {X : Type 0} → (X → Tokens) → BinaryOf X → Tokens
binary_of_tokens f binary_of = f binary_of.first ++ listed (joined_tokens f) binary_of.more

-- the productions that lead back to one another: one level of each, whose parts are lists of tokens already

abbrev pub item_level : Item-F Tokens Tokens Tokens Tokens Tokens Tokens Tokens Tokens Tokens Tokens Tokens Tokens Tokens Tokens Tokens Tokens Tokens Tokens Tokens Tokens Tokens Tokens Tokens Tokens → Tokens
item_level (Item-F.Stmt stmt) = inner stmt
item_level (Item-F.Item::Lex lex) = lex_of_tokens inner lex
item_level (Item-F.Item::Func func) = inner func
item_level (Item-F.Item::Class class) = inner class

abbrev pub decl_level : Decl-F Tokens Tokens Tokens Tokens Tokens Tokens Tokens Tokens Tokens Tokens Tokens Tokens Tokens Tokens Tokens Tokens Tokens Tokens Tokens Tokens Tokens Tokens Tokens Tokens → Tokens
decl_level decl = inner decl.bind ++ opt (initializer_tokens inner) decl.initial

abbrev pub case_level : Case-F Tokens Tokens Tokens Tokens Tokens Tokens Tokens Tokens Tokens Tokens Tokens Tokens Tokens Tokens Tokens Tokens Tokens Tokens Tokens Tokens Tokens Tokens Tokens Tokens → Tokens
case_level (Case-F.Case word test colon items) = one word ++ expr_of_tokens inner test ++ one colon ++ listed inner items
case_level (Case-F.Default word colon items) = one word ++ one colon ++ listed inner items

abbrev pub stmt_level : Stmt-F Tokens Tokens Tokens Tokens Tokens Tokens Tokens Tokens Tokens Tokens Tokens Tokens Tokens Tokens Tokens Tokens Tokens Tokens Tokens Tokens Tokens Tokens Tokens Tokens → Tokens
stmt_level (Stmt-F.Stmt::Block body) = body_tokens inner body
stmt_level (Stmt-F.Stmt::Empty mark) = one mark
stmt_level (Stmt-F.Stmt::Var var) = var_of_tokens inner var
stmt_level (Stmt-F.If word left test right stmt other) = one word ++ one left ++ expr_of_tokens inner test ++ one right ++ inner stmt ++ opt (else_tokens inner) other
stmt_level (Stmt-F.For each) = inner each
stmt_level (Stmt-F.While word left test right stmt) = one word ++ one left ++ expr_of_tokens inner test ++ one right ++ inner stmt
stmt_level (Stmt-F.Do word stmt while_word left test right semi) = one word ++ inner stmt ++ one while_word ++ one left ++ expr_of_tokens inner test ++ one right ++ opt one semi
stmt_level (Stmt-F.Continue word label semi) = one word ++ opt one label ++ opt one semi
stmt_level (Stmt-F.Break word label semi) = one word ++ opt one label ++ opt one semi
stmt_level (Stmt-F.Return word value semi) = one word ++ opt (expr_of_tokens inner) value ++ opt one semi
stmt_level (Stmt-F.With word left object right stmt) = one word ++ one left ++ expr_of_tokens inner object ++ one right ++ inner stmt
stmt_level (Stmt-F.Switch word left value right left_brace cases right_brace) = one word ++ one left ++ expr_of_tokens inner value ++ one right ++ one left_brace ++ listed inner cases ++ one right_brace
stmt_level (Stmt-F.Labelled label colon stmt) = one label ++ one colon ++ inner stmt
stmt_level (Stmt-F.Throw word value semi) = one word ++ expr_of_tokens inner value ++ opt one semi
stmt_level (Stmt-F.TryCatch word body catch parameter handler finally) = one word ++ body_tokens inner body ++ one catch ++ opt (catch_parameter_tokens inner) parameter ++ body_tokens inner handler ++ opt (finally_tokens inner) finally
stmt_level (Stmt-F.TryFinally word body finally) = one word ++ body_tokens inner body ++ finally_tokens inner finally
stmt_level (Stmt-F.Debugger word semi) = one word ++ opt one semi
stmt_level (Stmt-F.Stmt::Expr expr semi) = expr_of_tokens inner expr ++ opt one semi

abbrev pub init_level : Init-F Tokens Tokens Tokens Tokens Tokens Tokens Tokens Tokens Tokens Tokens Tokens Tokens Tokens Tokens Tokens Tokens Tokens Tokens Tokens Tokens Tokens Tokens Tokens Tokens → Tokens
init_level (Init-F.Init::Var word decls) = one word ++ listed (separated_tokens inner) decls
init_level (Init-F.Init::Lex lex) = lex_of_tokens inner lex
init_level (Init-F.Init::Expr expr) = expr_of_tokens inner expr

abbrev pub for_level : For-F Tokens Tokens Tokens Tokens Tokens Tokens Tokens Tokens Tokens Tokens Tokens Tokens Tokens Tokens Tokens Tokens Tokens Tokens Tokens Tokens Tokens Tokens Tokens Tokens → Tokens
for_level (For-F.Loop word left init first test second update right stmt) = one word ++ one left ++ opt inner init ++ one first ++ opt (expr_of_tokens inner) test ++ one second ++ opt (expr_of_tokens inner) update ++ one right ++ inner stmt
for_level (For-F.In word left head in_word object right stmt) = one word ++ one left ++ inner head ++ one in_word ++ expr_of_tokens inner object ++ one right ++ inner stmt
for_level (For-F.Of word await_word left head of_word values right stmt) = one word ++ opt one await_word ++ one left ++ inner head ++ one of_word ++ inner values ++ one right ++ inner stmt

abbrev pub head_level : Head-F Tokens Tokens Tokens Tokens Tokens Tokens Tokens Tokens Tokens Tokens Tokens Tokens Tokens Tokens Tokens Tokens Tokens Tokens Tokens Tokens Tokens Tokens Tokens Tokens → Tokens
head_level (Head-F.Bind word bind) = one word ++ inner bind
head_level (Head-F.Target target) = inner target

abbrev pub func_level : Func-F Tokens Tokens Tokens Tokens Tokens Tokens Tokens Tokens Tokens Tokens Tokens Tokens Tokens Tokens Tokens Tokens Tokens Tokens Tokens Tokens Tokens Tokens Tokens Tokens → Tokens
func_level func = opt one func.is_async ++ one func.word ++ opt one func.star ++ opt one func.name ++ one func.left ++ inner func.params ++ one func.right ++ body_tokens inner func.body

abbrev pub params_level : Params-F Tokens Tokens Tokens Tokens Tokens Tokens Tokens Tokens Tokens Tokens Tokens Tokens Tokens Tokens Tokens Tokens Tokens Tokens Tokens Tokens Tokens Tokens Tokens Tokens → Tokens
params_level params = listed (separated_tokens inner) params.list ++ opt (rest_tokens inner) params.rest

abbrev pub class_level : Class-F Tokens Tokens Tokens Tokens Tokens Tokens Tokens Tokens Tokens Tokens Tokens Tokens Tokens Tokens Tokens Tokens Tokens Tokens Tokens Tokens Tokens Tokens Tokens Tokens → Tokens
class_level class = one class.word ++ opt one class.name ++ opt (extends_tokens inner) class.extends ++ one class.left ++ listed inner class.elements ++ one class.right

abbrev pub element_level : Element-F Tokens Tokens Tokens Tokens Tokens Tokens Tokens Tokens Tokens Tokens Tokens Tokens Tokens Tokens Tokens Tokens Tokens Tokens Tokens Tokens Tokens Tokens Tokens Tokens → Tokens
element_level (Element-F.Element::Empty mark) = one mark
element_level (Element-F.Element::Method is_static method) = opt one is_static ++ inner method
element_level (Element-F.Field is_static key initial semi) = opt one is_static ++ key_of_tokens inner key ++ opt (initializer_tokens inner) initial ++ opt one semi
element_level (Element-F.Static word body) = one word ++ body_tokens inner body

abbrev pub method_level : Method-F Tokens Tokens Tokens Tokens Tokens Tokens Tokens Tokens Tokens Tokens Tokens Tokens Tokens Tokens Tokens Tokens Tokens Tokens Tokens Tokens Tokens Tokens Tokens Tokens → Tokens
method_level (Method-F.Method::Method is_async star key left params right body) = opt one is_async ++ opt one star ++ key_of_tokens inner key ++ one left ++ inner params ++ one right ++ body_tokens inner body
method_level (Method-F.Get word key left right body) = one word ++ key_of_tokens inner key ++ one left ++ one right ++ body_tokens inner body
method_level (Method-F.Method::Set word key left parameter right body) = one word ++ key_of_tokens inner key ++ one left ++ inner parameter ++ one right ++ body_tokens inner body

abbrev pub bind_property_level : BindProperty-F Tokens Tokens Tokens Tokens Tokens Tokens Tokens Tokens Tokens Tokens Tokens Tokens Tokens Tokens Tokens Tokens Tokens Tokens Tokens Tokens Tokens Tokens Tokens Tokens → Tokens
bind_property_level bind_property = opt (property_key_tokens inner) bind_property.key ++ inner bind_property.decl

abbrev pub bind_level : Bind-F Tokens Tokens Tokens Tokens Tokens Tokens Tokens Tokens Tokens Tokens Tokens Tokens Tokens Tokens Tokens Tokens Tokens Tokens Tokens Tokens Tokens Tokens Tokens Tokens → Tokens
bind_level (Bind-F.Bind::Name name) = one name
bind_level (Bind-F.Bind::Array left elements rest right) = one left ++ listed (separated_tokens (opt inner)) elements ++ opt (rest_tokens inner) rest ++ one right
bind_level (Bind-F.Bind::Object left properties rest right) = one left ++ listed (separated_tokens inner) properties ++ opt (rest_tokens inner) rest ++ one right

abbrev pub target_level : Target-F Tokens Tokens Tokens Tokens Tokens Tokens Tokens Tokens Tokens Tokens Tokens Tokens Tokens Tokens Tokens Tokens Tokens Tokens Tokens Tokens Tokens Tokens Tokens Tokens → Tokens
target_level (Target-F.Target::Name name) = one name
target_level (Target-F.Member member) = inner member
target_level (Target-F.ParenName name) = parenthesised_tokens one name
target_level (Target-F.ParenMember member) = parenthesised_tokens inner member
target_level (Target-F.Target::Array left elements rest right) = one left ++ listed (separated_tokens (opt inner)) elements ++ opt (rest_tokens inner) rest ++ one right
target_level (Target-F.Target::Object left properties rest right) = one left ++ listed (separated_tokens inner) properties ++ opt (rest_tokens inner) rest ++ one right

abbrev pub target_part_level : TargetPart-F Tokens Tokens Tokens Tokens Tokens Tokens Tokens Tokens Tokens Tokens Tokens Tokens Tokens Tokens Tokens Tokens Tokens Tokens Tokens Tokens Tokens Tokens Tokens Tokens → Tokens
target_part_level target_part = opt (property_key_tokens inner) target_part.key ++ inner target_part.target ++ opt (initializer_tokens inner) target_part.initial

abbrev pub assign_level : Assign-F Tokens Tokens Tokens Tokens Tokens Tokens Tokens Tokens Tokens Tokens Tokens Tokens Tokens Tokens Tokens Tokens Tokens Tokens Tokens Tokens Tokens Tokens Tokens Tokens → Tokens
assign_level (Assign-F.Cond cond) = inner cond
assign_level (Assign-F.Arrow arrow) = inner arrow
assign_level (Assign-F.Assign::Set target equals value) = inner target ++ one equals ++ inner value
assign_level (Assign-F.Compound target operator value) = inner target ++ one operator ++ inner value
assign_level (Assign-F.Yield word yielded) = one word ++ opt (yielded_tokens inner) yielded

abbrev pub arrow_level : Arrow-F Tokens Tokens Tokens Tokens Tokens Tokens Tokens Tokens Tokens Tokens Tokens Tokens Tokens Tokens Tokens Tokens Tokens Tokens Tokens Tokens Tokens Tokens Tokens Tokens → Tokens
arrow_level (Arrow-F.Arrow::Block is_async params mark body) = opt one is_async ++ arrow_params_tokens inner params ++ one mark ++ body_tokens inner body
arrow_level (Arrow-F.Concise is_async params mark value) = opt one is_async ++ arrow_params_tokens inner params ++ one mark ++ inner value

abbrev pub cond_level : Cond-F Tokens Tokens Tokens Tokens Tokens Tokens Tokens Tokens Tokens Tokens Tokens Tokens Tokens Tokens Tokens Tokens Tokens Tokens Tokens Tokens Tokens Tokens Tokens Tokens → Tokens
cond_level cond = binary_of_tokens inner cond.test ++ opt (arms_tokens inner) cond.arms

abbrev pub operand_level : Operand-F Tokens Tokens Tokens Tokens Tokens Tokens Tokens Tokens Tokens Tokens Tokens Tokens Tokens Tokens Tokens Tokens Tokens Tokens Tokens Tokens Tokens Tokens Tokens Tokens → Tokens
operand_level (Operand-F.Private name) = one name
operand_level (Operand-F.Prefix operator operand) = one operator ++ inner operand
operand_level (Operand-F.Await word operand) = one word ++ inner operand
operand_level (Operand-F.Update operator target) = one operator ++ inner target
operand_level (Operand-F.LHS lhs) = inner lhs
operand_level (Operand-F.Postfix target operator) = inner target ++ one operator

abbrev pub lhs_level : LHS-F Tokens Tokens Tokens Tokens Tokens Tokens Tokens Tokens Tokens Tokens Tokens Tokens Tokens Tokens Tokens Tokens Tokens Tokens Tokens Tokens Tokens Tokens Tokens Tokens → Tokens
lhs_level lhs = inner lhs.base ++ listed (suffix_of_tokens inner) lhs.suffixes

abbrev pub member_level : Member-F Tokens Tokens Tokens Tokens Tokens Tokens Tokens Tokens Tokens Tokens Tokens Tokens Tokens Tokens Tokens Tokens Tokens Tokens Tokens Tokens Tokens Tokens Tokens Tokens → Tokens
member_level (Member-F.Shorthand name) = one name
member_level (Member-F.Pair key colon value) = key_of_tokens inner key ++ one colon ++ inner value
member_level (Member-F.Member::Method method) = inner method
member_level (Member-F.Spread dots value) = one dots ++ inner value

abbrev pub primary_level : Primary-F Tokens Tokens Tokens Tokens Tokens Tokens Tokens Tokens Tokens Tokens Tokens Tokens Tokens Tokens Tokens Tokens Tokens Tokens Tokens Tokens Tokens Tokens Tokens Tokens → Tokens
primary_level (Primary-F.This word) = one word
primary_level (Primary-F.Primary::Name name) = one name
primary_level (Primary-F.Literal literal) = one literal
primary_level (Primary-F.Template template) = template_tokens (expr_of_tokens inner) template
primary_level (Primary-F.Regex regex) = one regex
primary_level (Primary-F.Primary::Array left elements right) = one left ++ listed (separated_tokens (opt (argument_tokens inner))) elements ++ one right
primary_level (Primary-F.Primary::Object left members right) = one left ++ listed (separated_tokens inner) members ++ one right
primary_level (Primary-F.Primary::Func func) = inner func
primary_level (Primary-F.Primary::Class class) = inner class
primary_level (Primary-F.Paren left expr right) = one left ++ expr_of_tokens inner expr ++ one right

abbrev pub base_level : Base-F Tokens Tokens Tokens Tokens Tokens Tokens Tokens Tokens Tokens Tokens Tokens Tokens Tokens Tokens Tokens Tokens Tokens Tokens Tokens Tokens Tokens Tokens Tokens Tokens → Tokens
base_level (Base-F.Primary primary) = inner primary
base_level (Base-F.Super word) = one word
base_level (Base-F.New word callee args) = one word ++ inner callee ++ opt (args_of_tokens inner) args
base_level (Base-F.NewTarget word dot target) = one word ++ one dot ++ one target
base_level (Base-F.ImportMeta word dot meta) = one word ++ one dot ++ one meta
base_level (Base-F.Import word left request second comma right) = one word ++ one left ++ inner request ++ opt (second_argument_tokens inner) second ++ opt one comma ++ one right

-- the whole of each

unfoldable pub item_tokens : Item → Tokens
item_tokens = fold-Item Tokens Tokens Tokens Tokens Tokens Tokens Tokens Tokens Tokens Tokens Tokens Tokens Tokens Tokens Tokens Tokens Tokens Tokens Tokens Tokens Tokens Tokens Tokens Tokens arrow_level assign_level base_level bind_level case_level element_level for_level head_level init_level item_level member_level method_level operand_level primary_level stmt_level target_level bind_property_level class_level cond_level decl_level func_level lhs_level params_level target_part_level

unfoldable pub decl_tokens : Decl → Tokens
decl_tokens = fold-Decl Tokens Tokens Tokens Tokens Tokens Tokens Tokens Tokens Tokens Tokens Tokens Tokens Tokens Tokens Tokens Tokens Tokens Tokens Tokens Tokens Tokens Tokens Tokens Tokens arrow_level assign_level base_level bind_level case_level element_level for_level head_level init_level item_level member_level method_level operand_level primary_level stmt_level target_level bind_property_level class_level cond_level decl_level func_level lhs_level params_level target_part_level

unfoldable pub case_tokens : Case → Tokens
case_tokens = fold-Case Tokens Tokens Tokens Tokens Tokens Tokens Tokens Tokens Tokens Tokens Tokens Tokens Tokens Tokens Tokens Tokens Tokens Tokens Tokens Tokens Tokens Tokens Tokens Tokens arrow_level assign_level base_level bind_level case_level element_level for_level head_level init_level item_level member_level method_level operand_level primary_level stmt_level target_level bind_property_level class_level cond_level decl_level func_level lhs_level params_level target_part_level

unfoldable pub stmt_tokens : Stmt → Tokens
stmt_tokens = fold-Stmt Tokens Tokens Tokens Tokens Tokens Tokens Tokens Tokens Tokens Tokens Tokens Tokens Tokens Tokens Tokens Tokens Tokens Tokens Tokens Tokens Tokens Tokens Tokens Tokens arrow_level assign_level base_level bind_level case_level element_level for_level head_level init_level item_level member_level method_level operand_level primary_level stmt_level target_level bind_property_level class_level cond_level decl_level func_level lhs_level params_level target_part_level

unfoldable pub init_tokens : Init → Tokens
init_tokens = fold-Init Tokens Tokens Tokens Tokens Tokens Tokens Tokens Tokens Tokens Tokens Tokens Tokens Tokens Tokens Tokens Tokens Tokens Tokens Tokens Tokens Tokens Tokens Tokens Tokens arrow_level assign_level base_level bind_level case_level element_level for_level head_level init_level item_level member_level method_level operand_level primary_level stmt_level target_level bind_property_level class_level cond_level decl_level func_level lhs_level params_level target_part_level

unfoldable pub for_tokens : For → Tokens
for_tokens = fold-For Tokens Tokens Tokens Tokens Tokens Tokens Tokens Tokens Tokens Tokens Tokens Tokens Tokens Tokens Tokens Tokens Tokens Tokens Tokens Tokens Tokens Tokens Tokens Tokens arrow_level assign_level base_level bind_level case_level element_level for_level head_level init_level item_level member_level method_level operand_level primary_level stmt_level target_level bind_property_level class_level cond_level decl_level func_level lhs_level params_level target_part_level

unfoldable pub head_tokens : Head → Tokens
head_tokens = fold-Head Tokens Tokens Tokens Tokens Tokens Tokens Tokens Tokens Tokens Tokens Tokens Tokens Tokens Tokens Tokens Tokens Tokens Tokens Tokens Tokens Tokens Tokens Tokens Tokens arrow_level assign_level base_level bind_level case_level element_level for_level head_level init_level item_level member_level method_level operand_level primary_level stmt_level target_level bind_property_level class_level cond_level decl_level func_level lhs_level params_level target_part_level

unfoldable pub func_tokens : Func → Tokens
func_tokens = fold-Func Tokens Tokens Tokens Tokens Tokens Tokens Tokens Tokens Tokens Tokens Tokens Tokens Tokens Tokens Tokens Tokens Tokens Tokens Tokens Tokens Tokens Tokens Tokens Tokens arrow_level assign_level base_level bind_level case_level element_level for_level head_level init_level item_level member_level method_level operand_level primary_level stmt_level target_level bind_property_level class_level cond_level decl_level func_level lhs_level params_level target_part_level

unfoldable pub params_tokens : Params → Tokens
params_tokens = fold-Params Tokens Tokens Tokens Tokens Tokens Tokens Tokens Tokens Tokens Tokens Tokens Tokens Tokens Tokens Tokens Tokens Tokens Tokens Tokens Tokens Tokens Tokens Tokens Tokens arrow_level assign_level base_level bind_level case_level element_level for_level head_level init_level item_level member_level method_level operand_level primary_level stmt_level target_level bind_property_level class_level cond_level decl_level func_level lhs_level params_level target_part_level

unfoldable pub class_tokens : Class → Tokens
class_tokens = fold-Class Tokens Tokens Tokens Tokens Tokens Tokens Tokens Tokens Tokens Tokens Tokens Tokens Tokens Tokens Tokens Tokens Tokens Tokens Tokens Tokens Tokens Tokens Tokens Tokens arrow_level assign_level base_level bind_level case_level element_level for_level head_level init_level item_level member_level method_level operand_level primary_level stmt_level target_level bind_property_level class_level cond_level decl_level func_level lhs_level params_level target_part_level

unfoldable pub element_tokens : Element → Tokens
element_tokens = fold-Element Tokens Tokens Tokens Tokens Tokens Tokens Tokens Tokens Tokens Tokens Tokens Tokens Tokens Tokens Tokens Tokens Tokens Tokens Tokens Tokens Tokens Tokens Tokens Tokens arrow_level assign_level base_level bind_level case_level element_level for_level head_level init_level item_level member_level method_level operand_level primary_level stmt_level target_level bind_property_level class_level cond_level decl_level func_level lhs_level params_level target_part_level

unfoldable pub method_tokens : Method → Tokens
method_tokens = fold-Method Tokens Tokens Tokens Tokens Tokens Tokens Tokens Tokens Tokens Tokens Tokens Tokens Tokens Tokens Tokens Tokens Tokens Tokens Tokens Tokens Tokens Tokens Tokens Tokens arrow_level assign_level base_level bind_level case_level element_level for_level head_level init_level item_level member_level method_level operand_level primary_level stmt_level target_level bind_property_level class_level cond_level decl_level func_level lhs_level params_level target_part_level

unfoldable pub bind_property_tokens : BindProperty → Tokens
bind_property_tokens = fold-BindProperty Tokens Tokens Tokens Tokens Tokens Tokens Tokens Tokens Tokens Tokens Tokens Tokens Tokens Tokens Tokens Tokens Tokens Tokens Tokens Tokens Tokens Tokens Tokens Tokens arrow_level assign_level base_level bind_level case_level element_level for_level head_level init_level item_level member_level method_level operand_level primary_level stmt_level target_level bind_property_level class_level cond_level decl_level func_level lhs_level params_level target_part_level

unfoldable pub bind_tokens : Bind → Tokens
bind_tokens = fold-Bind Tokens Tokens Tokens Tokens Tokens Tokens Tokens Tokens Tokens Tokens Tokens Tokens Tokens Tokens Tokens Tokens Tokens Tokens Tokens Tokens Tokens Tokens Tokens Tokens arrow_level assign_level base_level bind_level case_level element_level for_level head_level init_level item_level member_level method_level operand_level primary_level stmt_level target_level bind_property_level class_level cond_level decl_level func_level lhs_level params_level target_part_level

unfoldable pub target_tokens : Target → Tokens
target_tokens = fold-Target Tokens Tokens Tokens Tokens Tokens Tokens Tokens Tokens Tokens Tokens Tokens Tokens Tokens Tokens Tokens Tokens Tokens Tokens Tokens Tokens Tokens Tokens Tokens Tokens arrow_level assign_level base_level bind_level case_level element_level for_level head_level init_level item_level member_level method_level operand_level primary_level stmt_level target_level bind_property_level class_level cond_level decl_level func_level lhs_level params_level target_part_level

unfoldable pub target_part_tokens : TargetPart → Tokens
target_part_tokens = fold-TargetPart Tokens Tokens Tokens Tokens Tokens Tokens Tokens Tokens Tokens Tokens Tokens Tokens Tokens Tokens Tokens Tokens Tokens Tokens Tokens Tokens Tokens Tokens Tokens Tokens arrow_level assign_level base_level bind_level case_level element_level for_level head_level init_level item_level member_level method_level operand_level primary_level stmt_level target_level bind_property_level class_level cond_level decl_level func_level lhs_level params_level target_part_level

unfoldable pub assign_tokens : Assign → Tokens
assign_tokens = fold-Assign Tokens Tokens Tokens Tokens Tokens Tokens Tokens Tokens Tokens Tokens Tokens Tokens Tokens Tokens Tokens Tokens Tokens Tokens Tokens Tokens Tokens Tokens Tokens Tokens arrow_level assign_level base_level bind_level case_level element_level for_level head_level init_level item_level member_level method_level operand_level primary_level stmt_level target_level bind_property_level class_level cond_level decl_level func_level lhs_level params_level target_part_level

unfoldable pub arrow_tokens : Arrow → Tokens
arrow_tokens = fold-Arrow Tokens Tokens Tokens Tokens Tokens Tokens Tokens Tokens Tokens Tokens Tokens Tokens Tokens Tokens Tokens Tokens Tokens Tokens Tokens Tokens Tokens Tokens Tokens Tokens arrow_level assign_level base_level bind_level case_level element_level for_level head_level init_level item_level member_level method_level operand_level primary_level stmt_level target_level bind_property_level class_level cond_level decl_level func_level lhs_level params_level target_part_level

unfoldable pub cond_tokens : Cond → Tokens
cond_tokens = fold-Cond Tokens Tokens Tokens Tokens Tokens Tokens Tokens Tokens Tokens Tokens Tokens Tokens Tokens Tokens Tokens Tokens Tokens Tokens Tokens Tokens Tokens Tokens Tokens Tokens arrow_level assign_level base_level bind_level case_level element_level for_level head_level init_level item_level member_level method_level operand_level primary_level stmt_level target_level bind_property_level class_level cond_level decl_level func_level lhs_level params_level target_part_level

unfoldable pub operand_tokens : Operand → Tokens
operand_tokens = fold-Operand Tokens Tokens Tokens Tokens Tokens Tokens Tokens Tokens Tokens Tokens Tokens Tokens Tokens Tokens Tokens Tokens Tokens Tokens Tokens Tokens Tokens Tokens Tokens Tokens arrow_level assign_level base_level bind_level case_level element_level for_level head_level init_level item_level member_level method_level operand_level primary_level stmt_level target_level bind_property_level class_level cond_level decl_level func_level lhs_level params_level target_part_level

unfoldable pub lhs_tokens : LHS → Tokens
lhs_tokens = fold-LHS Tokens Tokens Tokens Tokens Tokens Tokens Tokens Tokens Tokens Tokens Tokens Tokens Tokens Tokens Tokens Tokens Tokens Tokens Tokens Tokens Tokens Tokens Tokens Tokens arrow_level assign_level base_level bind_level case_level element_level for_level head_level init_level item_level member_level method_level operand_level primary_level stmt_level target_level bind_property_level class_level cond_level decl_level func_level lhs_level params_level target_part_level

unfoldable pub member_tokens : Member → Tokens
member_tokens = fold-Member Tokens Tokens Tokens Tokens Tokens Tokens Tokens Tokens Tokens Tokens Tokens Tokens Tokens Tokens Tokens Tokens Tokens Tokens Tokens Tokens Tokens Tokens Tokens Tokens arrow_level assign_level base_level bind_level case_level element_level for_level head_level init_level item_level member_level method_level operand_level primary_level stmt_level target_level bind_property_level class_level cond_level decl_level func_level lhs_level params_level target_part_level

unfoldable pub primary_tokens : Primary → Tokens
primary_tokens = fold-Primary Tokens Tokens Tokens Tokens Tokens Tokens Tokens Tokens Tokens Tokens Tokens Tokens Tokens Tokens Tokens Tokens Tokens Tokens Tokens Tokens Tokens Tokens Tokens Tokens arrow_level assign_level base_level bind_level case_level element_level for_level head_level init_level item_level member_level method_level operand_level primary_level stmt_level target_level bind_property_level class_level cond_level decl_level func_level lhs_level params_level target_part_level

unfoldable pub base_tokens : Base → Tokens
base_tokens = fold-Base Tokens Tokens Tokens Tokens Tokens Tokens Tokens Tokens Tokens Tokens Tokens Tokens Tokens Tokens Tokens Tokens Tokens Tokens Tokens Tokens Tokens Tokens Tokens Tokens arrow_level assign_level base_level bind_level case_level element_level for_level head_level init_level item_level member_level method_level operand_level primary_level stmt_level target_level bind_property_level class_level cond_level decl_level func_level lhs_level params_level target_part_level

-- productions that are such a part

abbrev pub lex_tokens : LexOf Decl → Tokens
lex_tokens = lex_of_tokens decl_tokens

abbrev pub var_tokens : VarOf Decl → Tokens
var_tokens = var_of_tokens decl_tokens

abbrev pub key_tokens : KeyOf Assign → Tokens
key_tokens = key_of_tokens assign_tokens

abbrev pub expr_tokens : ExprOf Assign → Tokens
expr_tokens = expr_of_tokens assign_tokens

abbrev pub args_tokens : ArgsOf Assign → Tokens
args_tokens = args_of_tokens assign_tokens

abbrev pub suffix_tokens : SuffixOf Assign → Tokens
suffix_tokens = suffix_of_tokens assign_tokens

abbrev pub binary_tokens : BinaryOf Operand → Tokens
binary_tokens = binary_of_tokens operand_tokens

-- programs, imports and exports

abbrev pub space_tokens : Space → Tokens
space_tokens space = one space.star ++ one space.word ++ one space.name

abbrev pub import_name_tokens : ImportName → Tokens
import_name_tokens (import_name_v.Name name) = one name
import_name_tokens (import_name_v.Renamed export word name) = one export ++ one word ++ one name

abbrev pub named_tokens : Named → Tokens
named_tokens named = one named.left ++ listed (separated_tokens import_name_tokens) named.list ++ one named.right

abbrev pub clause_tokens : Clause → Tokens
clause_tokens (clause_v.Name name) = one name
clause_tokens (clause_v.Space space) = space_tokens space
clause_tokens (clause_v.Named named) = named_tokens named
clause_tokens (clause_v.NameSpace name comma space) = one name ++ one comma ++ space_tokens space
clause_tokens (clause_v.NameNamed name comma named) = one name ++ one comma ++ named_tokens named

abbrev pub attribute_tokens : Attribute → Tokens
attribute_tokens attribute = one attribute.key ++ one attribute.colon ++ one attribute.value

abbrev pub with_tokens : With → Tokens
with_tokens with = one with.word ++ one with.left ++ listed (separated_tokens attribute_tokens) with.list ++ one with.right

abbrev pub import_tokens : Import → Tokens
import_tokens (import_v.Bare word request attributes semi) = one word ++ one request ++ opt with_tokens attributes ++ opt one semi
import_tokens (import_v.From word clause from_word request attributes semi) = one word ++ clause_tokens clause ++ one from_word ++ one request ++ opt with_tokens attributes ++ opt one semi

abbrev pub renamed_tokens : Renamed → Tokens
renamed_tokens renamed = one renamed.word ++ one renamed.name

abbrev pub export_name_tokens : ExportName → Tokens
export_name_tokens export_name = one export_name.name ++ opt renamed_tokens export_name.renamed

abbrev pub names_tokens : Names → Tokens
names_tokens names = one names.left ++ listed (separated_tokens export_name_tokens) names.list ++ one names.right

abbrev pub export_tokens : Export → Tokens
export_tokens (export_v.All word star from_word request attributes semi) = one word ++ one star ++ one from_word ++ one request ++ opt with_tokens attributes ++ opt one semi
export_tokens (export_v.Space word star as_word name from_word request attributes semi) = one word ++ one star ++ one as_word ++ one name ++ one from_word ++ one request ++ opt with_tokens attributes ++ opt one semi
export_tokens (export_v.From word names from_word request attributes semi) = one word ++ names_tokens names ++ one from_word ++ one request ++ opt with_tokens attributes ++ opt one semi
export_tokens (export_v.Names word names semi) = one word ++ names_tokens names ++ opt one semi
export_tokens (export_v.Var word var) = one word ++ var_of_tokens decl_tokens var
export_tokens (export_v.Lex word lex) = one word ++ lex_of_tokens decl_tokens lex
export_tokens (export_v.Func word func) = one word ++ func_tokens func
export_tokens (export_v.Class word class) = one word ++ class_tokens class
export_tokens (export_v.DefaultFunc word default func) = one word ++ one default ++ func_tokens func
export_tokens (export_v.DefaultClass word default class) = one word ++ one default ++ class_tokens class
export_tokens (export_v.Default word default value semi) = one word ++ one default ++ assign_tokens value ++ opt one semi

abbrev pub program_item_tokens : ProgramItem → Tokens
program_item_tokens (program_item_v.Item item) = item_tokens item
program_item_tokens (program_item_v.Import import) = import_tokens import
program_item_tokens (program_item_v.Export export) = export_tokens export

abbrev pub program_tokens : Program → Tokens
program_tokens program = listed program_item_tokens program.items
