-- The outline of a tree: its tokens in order, each with what it is there, and marks where parts begin and end.
use Rattle.std.specs.Prelude.{List, [], ◌∷◌, ◌++◌, Bool, true, false, Option, Some, None}
use Rattle.es_tree.specs.declared.tokens.Token.{Token}
use Rattle.es_tree.specs.declared.parts.Separated.{Separated}
use Rattle.es_tree.specs.declared.parts.Initializer.{Initializer}
use Rattle.es_tree.specs.declared.parts.Rest.{Rest}
use Rattle.es_tree.specs.declared.parts.Parenthesised.{Parenthesised}
use Rattle.es_tree.specs.declared.parts.Body.{Body}
use Rattle.es_tree.specs.declared.parts.Else.{Else}
use Rattle.es_tree.specs.declared.parts.CatchParameter.{CatchParameter}
use Rattle.es_tree.specs.declared.parts.Finally.{Finally}
use Rattle.es_tree.specs.declared.parts.Extends.{Extends}
use Rattle.es_tree.specs.declared.parts.Argument.{Argument}
use Rattle.es_tree.specs.declared.parts.Arms.{Arms}
use Rattle.es_tree.specs.declared.parts.Joined.{Joined}
use Rattle.es_tree.specs.declared.parts.Yielded.{Yielded}
use Rattle.es_tree.specs.declared.parts.SecondArgument.{SecondArgument}
use Rattle.es_tree.specs.declared.parts.Piece.{Piece}
use Rattle.es_tree.specs.declared.parts.Template.{Template}
use Rattle.es_tree.specs.declared.parts.ArrowParams.{ArrowParams}
use Rattle.es_tree.specs.declared.parts.ArrowParams.TheVariants as arrow_params_v
use Rattle.es_tree.specs.declared.parts.LexOf.{LexOf}
use Rattle.es_tree.specs.declared.parts.VarOf.{VarOf}
use Rattle.es_tree.specs.declared.parts.KeyOf.{KeyOf}
use Rattle.es_tree.specs.declared.parts.KeyOf.TheVariants as key_of_v
use Rattle.es_tree.specs.declared.parts.PropertyKey.{PropertyKey}
use Rattle.es_tree.specs.declared.parts.ExprOf.{ExprOf}
use Rattle.es_tree.specs.declared.parts.ArgsOf.{ArgsOf}
use Rattle.es_tree.specs.declared.parts.SuffixOf.{SuffixOf}
use Rattle.es_tree.specs.declared.parts.SuffixOf.TheVariants as suffix_of_v
use Rattle.es_tree.specs.declared.parts.BinaryOf.{BinaryOf}
use Rattle.es_tree.specs.declared.program.Space.{Space}
use Rattle.es_tree.specs.declared.program.ImportName.{ImportName}
use Rattle.es_tree.specs.declared.program.ImportName.TheVariants as import_name_v
use Rattle.es_tree.specs.declared.program.Named.{Named}
use Rattle.es_tree.specs.declared.program.Clause.{Clause}
use Rattle.es_tree.specs.declared.program.Clause.TheVariants as clause_v
use Rattle.es_tree.specs.declared.program.Attribute.{Attribute}
use Rattle.es_tree.specs.declared.program.With.{With}
use Rattle.es_tree.specs.declared.program.Import.{Import}
use Rattle.es_tree.specs.declared.program.Import.TheVariants as import_v
use Rattle.es_tree.specs.declared.program.Renamed.{Renamed}
use Rattle.es_tree.specs.declared.program.ExportName.{ExportName}
use Rattle.es_tree.specs.declared.program.Names.{Names}
use Rattle.es_tree.specs.declared.program.Export.{Export}
use Rattle.es_tree.specs.declared.program.Export.TheVariants as export_v
use Rattle.es_tree.specs.declared.program.ProgramItem.{ProgramItem}
use Rattle.es_tree.specs.declared.program.ProgramItem.TheVariants as program_item_v
use Rattle.es_tree.specs.declared.program.Program.{Program}
use Rattle.es_tree.specs.declared.cycle.Arrow.TheOpen.{Arrow-F, Assign-F, Base-F, Bind-F, Case-F, Element-F, For-F, Head-F, Init-F, Item-F, Member-F, Method-F, Operand-F, Primary-F, Stmt-F, Target-F, BindProperty-F, Class-F, Cond-F, Decl-F, Func-F, LHS-F, Params-F, TargetPart-F}
use Rattle.es_tree.specs.declared.cycle.Item.{Item, fold-Item}
use Rattle.es_tree.specs.declared.cycle.Decl.{Decl, fold-Decl}
use Rattle.es_tree.specs.declared.cycle.Case.{Case, fold-Case}
use Rattle.es_tree.specs.declared.cycle.Stmt.{Stmt, fold-Stmt}
use Rattle.es_tree.specs.declared.cycle.Init.{Init, fold-Init}
use Rattle.es_tree.specs.declared.cycle.For.{For, fold-For}
use Rattle.es_tree.specs.declared.cycle.Head.{Head, fold-Head}
use Rattle.es_tree.specs.declared.cycle.Func.{Func, fold-Func}
use Rattle.es_tree.specs.declared.cycle.Params.{Params, fold-Params}
use Rattle.es_tree.specs.declared.cycle.Class.{Class, fold-Class}
use Rattle.es_tree.specs.declared.cycle.Element.{Element, fold-Element}
use Rattle.es_tree.specs.declared.cycle.Method.{Method, fold-Method}
use Rattle.es_tree.specs.declared.cycle.BindProperty.{BindProperty, fold-BindProperty}
use Rattle.es_tree.specs.declared.cycle.Bind.{Bind, fold-Bind}
use Rattle.es_tree.specs.declared.cycle.Target.{Target, fold-Target}
use Rattle.es_tree.specs.declared.cycle.TargetPart.{TargetPart, fold-TargetPart}
use Rattle.es_tree.specs.declared.cycle.Assign.{Assign, fold-Assign}
use Rattle.es_tree.specs.declared.cycle.Arrow.{Arrow, fold-Arrow}
use Rattle.es_tree.specs.declared.cycle.Cond.{Cond, fold-Cond}
use Rattle.es_tree.specs.declared.cycle.Operand.{Operand, fold-Operand}
use Rattle.es_tree.specs.declared.cycle.LHS.{LHS, fold-LHS}
use Rattle.es_tree.specs.declared.cycle.Member.{Member, fold-Member}
use Rattle.es_tree.specs.declared.cycle.Primary.{Primary, fold-Primary}
use Rattle.es_tree.specs.declared.cycle.Base.{Base, fold-Base}
use Rattle.es_outline.specs.declared.mark.Mark.{Mark}
use Rattle.es_outline.specs.declared.mark.Mark.TheVariants as mark
use Rattle.es_outline.specs.declared.mark.Role.{Role}
use Rattle.es_outline.specs.declared.mark.Role.TheVariants as is
use Rattle.es_outline.specs.declared.mark.Part.{Part}
use Rattle.es_outline.specs.declared.mark.Part.TheVariants as part

abbrev pub Marks : Type 0
Marks = List Mark

-- what a part adds to the marks before it
abbrev pub Lays : Type 0
Lays = Marks → Marks

-- one part, and the next
infixr 6 ◌⨾◌
abbrev pub ◌⨾◌ : Lays → Lays → Lays
(f ⨾ g) marks = g (f marks)

abbrev pub nothing : Lays
nothing marks = marks

abbrev pub put : Mark → Lays
put one_mark marks = marks ++ one_mark ∷ []

-- a token that is this
abbrev pub told : Role → Token → Lays
told role token = put (mark.Token role token)

-- a token of which nothing is told
abbrev pub one : Token → Lays
one token = told is.Plain token

-- what stands between where a part begins and ends
abbrev pub begin : Part → Lays
begin which = put (mark.Begin which)

abbrev pub end : Part → Lays
end which = put (mark.End which)

abbrev pub within : Part → Lays → Lays
within which lays = begin which ⨾ lays ⨾ end which

-- a name that may be left out
abbrev pub named : Role → Option Token → Lays
named role (Some name) = told role name
named role None = put mark.Unnamed

-- a semicolon that may be left out
abbrev pub semicolon : Option Token → Lays
semicolon (Some token) = one token
semicolon None = put mark.NoSemicolon

-- what is marks already
abbrev pub inner : Lays → Lays
inner lays = lays

-- marks of a part of an assignment pattern: in an object a part without a key is a shorthand
abbrev pub PartLays : Type 0
PartLays = Bool → Lays

abbrev pub in_object : PartLays → Lays
in_object lays = lays true

abbrev pub in_array : PartLays → Lays
in_array lays = lays false

abbrev pub opt : {X : Type 0} → (X → Lays) → Option X → Lays
opt f None = nothing
opt f (Some x) = f x

abbrev pub listed : {X : Type 0} → (X → Lays) → List X → Lays
listed f [] = nothing
listed f (x ∷ xs) = f x ⨾ listed f xs

-- parts that several productions have: `f` gives the marks of what they hold

abbrev pub separated_marks : {X : Type 0} → (X → Lays) → Separated X → Lays
separated_marks f separated = f separated.item ⨾ opt one separated.comma

abbrev pub initializer_marks : {X : Type 0} → (X → Lays) → Initializer X → Lays
initializer_marks f initializer = told is.Initializes initializer.equals ⨾ f initializer.value

abbrev pub rest_marks : {X : Type 0} → (X → Lays) → Rest X → Lays
rest_marks f rest = one rest.dots ⨾ f rest.item

abbrev pub parenthesised_marks : {X : Type 0} → (X → Lays) → Parenthesised X → Lays
parenthesised_marks f parenthesised = listed (told is.Opens) parenthesised.opened ⨾ f parenthesised.item ⨾ listed (told is.Closes) parenthesised.closed

abbrev pub body_marks : {X : Type 0} → (X → Lays) → Body X → Lays
body_marks f body = one body.left ⨾ listed f body.items ⨾ one body.right

-- a block is a scope
abbrev pub block_marks : {X : Type 0} → (X → Lays) → Body X → Lays
block_marks f body = within part.Block (body_marks f body)

abbrev pub else_marks : {X : Type 0} → (X → Lays) → Else X → Lays
else_marks f else = one else.word ⨾ f else.stmt

abbrev pub catch_parameter_marks : {X : Type 0} → (X → Lays) → CatchParameter X → Lays
catch_parameter_marks f catch_parameter = one catch_parameter.left ⨾ f catch_parameter.bind ⨾ one catch_parameter.right

abbrev pub finally_marks : {X : Type 0} → (X → Lays) → Finally X → Lays
finally_marks f finally = one finally.word ⨾ block_marks f finally.block

abbrev pub extends_marks : {X : Type 0} → (X → Lays) → Extends X → Lays
extends_marks f extends = one extends.word ⨾ f extends.lhs

abbrev pub argument_marks : {X : Type 0} → (X → Lays) → Argument X → Lays
argument_marks f argument = opt one argument.spread ⨾ f argument.value

abbrev pub arms_marks : {X : Type 0} → (X → Lays) → Arms X → Lays
arms_marks f arms = one arms.question ⨾ f arms.when_true ⨾ one arms.colon ⨾ f arms.when_false

abbrev pub joined_marks : {X : Type 0} → (X → Lays) → Joined X → Lays
joined_marks f joined = one joined.op ⨾ f joined.operand

abbrev pub yielded_marks : {X : Type 0} → (X → Lays) → Yielded X → Lays
yielded_marks f yielded = opt one yielded.star ⨾ f yielded.value

abbrev pub second_argument_marks : {X : Type 0} → (X → Lays) → SecondArgument X → Lays
second_argument_marks f second_argument = one second_argument.comma ⨾ f second_argument.value

abbrev pub piece_marks : {X : Type 0} → (X → Lays) → Piece X → Lays
piece_marks f piece = f piece.expr ⨾ one piece.next

abbrev pub template_marks : {X : Type 0} → (X → Lays) → Template X → Lays
template_marks f template = one template.head ⨾ listed (piece_marks f) template.more

abbrev pub arrow_params_marks : {X : Type 0} → (X → Lays) → ArrowParams X → Lays
arrow_params_marks f (arrow_params_v.Name name) = told is.Bound name
arrow_params_marks f (arrow_params_v.List left params right) = one left ⨾ f params ⨾ one right

abbrev pub lex_of_marks : {X : Type 0} → (X → Lays) → LexOf X → Lays
lex_of_marks f lex_of = within part.Declaration (one lex_of.word ⨾ listed (separated_marks f) lex_of.decls) ⨾ semicolon lex_of.semi

-- the same in the head of `for`, where no semicolon belongs to it
abbrev pub head_lex_marks : {X : Type 0} → (X → Lays) → LexOf X → Lays
head_lex_marks f lex_of = within part.Declaration (one lex_of.word ⨾ listed (separated_marks f) lex_of.decls)

abbrev pub var_of_marks : {X : Type 0} → (X → Lays) → VarOf X → Lays
var_of_marks f var_of = within part.Declaration (one var_of.word ⨾ listed (separated_marks f) var_of.decls) ⨾ semicolon var_of.semi

abbrev pub key_of_marks : {X : Type 0} → (X → Lays) → KeyOf X → Lays
key_of_marks f (key_of_v.IdName name) = one name
key_of_marks f (key_of_v.String text) = one text
key_of_marks f (key_of_v.Number number) = one number
key_of_marks f (key_of_v.Computed left value right) = one left ⨾ f value ⨾ one right
key_of_marks f (key_of_v.Private name) = one name

abbrev pub property_key_marks : {X : Type 0} → (X → Lays) → PropertyKey X → Lays
property_key_marks f property_key = key_of_marks f property_key.key ⨾ one property_key.colon

-- the key of a property of a pattern; without one the name behind it is the key too
abbrev pub keyed : {X : Type 0} → (X → Lays) → Option (PropertyKey X) → Lays
keyed f None = put mark.Shorthand
keyed f (Some key) = property_key_marks f key

-- the same, where elements of arrays are read too, which have no key
abbrev pub part_key : {X : Type 0} → Bool → (X → Lays) → Option (PropertyKey X) → Lays
part_key true f key = keyed f key
part_key false f key = opt (property_key_marks f) key

-- a name, or a member, that is assigned to
abbrev pub target_name : Token → Lays
target_name name = told is.Reference name ⨾ put mark.Assigned

abbrev pub target_member : {X : Type 0} → (X → Lays) → X → Lays
target_member f member = f member ⨾ put mark.Assigned

abbrev pub expr_of_marks : {X : Type 0} → (X → Lays) → ExprOf X → Lays
expr_of_marks f expr_of = listed (separated_marks f) expr_of.list

abbrev pub args_of_marks : {X : Type 0} → (X → Lays) → ArgsOf X → Lays
args_of_marks f args_of = one args_of.left ⨾ listed (separated_marks (argument_marks f)) args_of.list ⨾ one args_of.right

abbrev pub suffix_of_marks : {X : Type 0} → (X → Lays) → SuffixOf X → Lays
suffix_of_marks f (suffix_of_v.Dot mark name) = told is.Dot mark ⨾ one name
suffix_of_marks f (suffix_of_v.Private mark name) = told is.Suffixes mark ⨾ one name
suffix_of_marks f (suffix_of_v.Index left index right) = told is.Suffixes left ⨾ expr_of_marks f index ⨾ one right
suffix_of_marks f (suffix_of_v.Args args) = put mark.Call ⨾ args_of_marks f args
suffix_of_marks f (suffix_of_v.Template template) = put mark.Tag ⨾ template_marks (expr_of_marks f) template
suffix_of_marks f (suffix_of_v.OptionalDot mark name) = told is.Suffixes mark ⨾ one name
suffix_of_marks f (suffix_of_v.OptionalPrivate mark name) = told is.Suffixes mark ⨾ one name
suffix_of_marks f (suffix_of_v.OptionalIndex mark left index right) = told is.Suffixes mark ⨾ one left ⨾ expr_of_marks f index ⨾ one right
suffix_of_marks f (suffix_of_v.OptionalArgs mark args) = told is.Suffixes mark ⨾ args_of_marks f args

abbrev pub binary_of_marks : {X : Type 0} → (X → Lays) → BinaryOf X → Lays
binary_of_marks f binary_of = f binary_of.first ⨾ listed (joined_marks f) binary_of.more

-- the productions that lead back to one another: one level of each, whose parts are marks already

abbrev pub item_level : Item-F Lays Lays Lays Lays Lays Lays Lays Lays Lays Lays Lays Lays Lays Lays Lays Lays Lays Lays Lays Lays Lays Lays Lays PartLays → Lays
item_level (Item-F.Stmt stmt) = inner stmt
item_level (Item-F.Item::Lex lex) = lex_of_marks inner lex
item_level (Item-F.Item::Func func) = inner func
item_level (Item-F.Item::Class class) = inner class

abbrev pub decl_level : Decl-F Lays Lays Lays Lays Lays Lays Lays Lays Lays Lays Lays Lays Lays Lays Lays Lays Lays Lays Lays Lays Lays Lays Lays PartLays → Lays
decl_level decl = inner decl.bind ⨾ opt (initializer_marks inner) decl.initial

abbrev pub case_level : Case-F Lays Lays Lays Lays Lays Lays Lays Lays Lays Lays Lays Lays Lays Lays Lays Lays Lays Lays Lays Lays Lays Lays Lays PartLays → Lays
case_level (Case-F.Case word test colon items) = one word ⨾ expr_of_marks inner test ⨾ one colon ⨾ listed inner items
case_level (Case-F.Default word colon items) = one word ⨾ one colon ⨾ listed inner items

abbrev pub stmt_level : Stmt-F Lays Lays Lays Lays Lays Lays Lays Lays Lays Lays Lays Lays Lays Lays Lays Lays Lays Lays Lays Lays Lays Lays Lays PartLays → Lays
stmt_level (Stmt-F.Stmt::Block body) = block_marks inner body
stmt_level (Stmt-F.Stmt::Empty mark) = one mark
stmt_level (Stmt-F.Stmt::Var var) = var_of_marks inner var
stmt_level (Stmt-F.If word left test right stmt other) = one word ⨾ one left ⨾ expr_of_marks inner test ⨾ one right ⨾ inner stmt ⨾ opt (else_marks inner) other
stmt_level (Stmt-F.For each) = inner each
stmt_level (Stmt-F.While word left test right stmt) = one word ⨾ one left ⨾ expr_of_marks inner test ⨾ one right ⨾ inner stmt
stmt_level (Stmt-F.Do word stmt while_word left test right semi) = one word ⨾ inner stmt ⨾ one while_word ⨾ one left ⨾ expr_of_marks inner test ⨾ one right ⨾ semicolon semi
stmt_level (Stmt-F.Continue word label semi) = one word ⨾ opt (told is.Label) label ⨾ semicolon semi
stmt_level (Stmt-F.Break word label semi) = one word ⨾ opt (told is.Label) label ⨾ semicolon semi
stmt_level (Stmt-F.Return word value semi) = one word ⨾ opt (expr_of_marks inner) value ⨾ semicolon semi
stmt_level (Stmt-F.With word left object right stmt) = told is.With word ⨾ one left ⨾ expr_of_marks inner object ⨾ one right ⨾ inner stmt
stmt_level (Stmt-F.Switch word left value right left_brace cases right_brace) = one word ⨾ one left ⨾ expr_of_marks inner value ⨾ one right ⨾ within part.Switch (one left_brace ⨾ listed inner cases ⨾ one right_brace)
stmt_level (Stmt-F.Labelled label colon stmt) = told is.Label label ⨾ one colon ⨾ inner stmt
stmt_level (Stmt-F.Throw word value semi) = one word ⨾ expr_of_marks inner value ⨾ semicolon semi
stmt_level (Stmt-F.TryCatch word body catch parameter handler finally) = one word ⨾ block_marks inner body ⨾ one catch ⨾ within part.Catch (opt (catch_parameter_marks inner) parameter ⨾ block_marks inner handler) ⨾ opt (finally_marks inner) finally
stmt_level (Stmt-F.TryFinally word body finally) = one word ⨾ block_marks inner body ⨾ finally_marks inner finally
stmt_level (Stmt-F.Debugger word semi) = one word ⨾ semicolon semi
stmt_level (Stmt-F.Stmt::Expr expr semi) = expr_of_marks inner expr ⨾ semicolon semi

abbrev pub init_level : Init-F Lays Lays Lays Lays Lays Lays Lays Lays Lays Lays Lays Lays Lays Lays Lays Lays Lays Lays Lays Lays Lays Lays Lays PartLays → Lays
init_level (Init-F.Init::Var word decls) = within part.Declaration (one word ⨾ listed (separated_marks inner) decls)
init_level (Init-F.Init::Lex lex) = head_lex_marks inner lex
init_level (Init-F.Init::Expr expr) = expr_of_marks inner expr

abbrev pub for_level : For-F Lays Lays Lays Lays Lays Lays Lays Lays Lays Lays Lays Lays Lays Lays Lays Lays Lays Lays Lays Lays Lays Lays Lays PartLays → Lays
for_level (For-F.Loop word left init first test second update right stmt) = within part.For (one word ⨾ one left ⨾ opt inner init ⨾ one first ⨾ opt (expr_of_marks inner) test ⨾ one second ⨾ opt (expr_of_marks inner) update ⨾ one right ⨾ inner stmt)
for_level (For-F.In word left head in_word object right stmt) = within part.For (one word ⨾ one left ⨾ inner head ⨾ one in_word ⨾ expr_of_marks inner object ⨾ one right ⨾ inner stmt)
for_level (For-F.Of word await_word left head of_word values right stmt) = within part.For (one word ⨾ opt (told is.Await) await_word ⨾ one left ⨾ inner head ⨾ one of_word ⨾ inner values ⨾ one right ⨾ inner stmt)

abbrev pub head_level : Head-F Lays Lays Lays Lays Lays Lays Lays Lays Lays Lays Lays Lays Lays Lays Lays Lays Lays Lays Lays Lays Lays Lays Lays PartLays → Lays
head_level (Head-F.Bind word bind) = within part.Declaration (one word ⨾ inner bind ⨾ put mark.Iterated)
head_level (Head-F.Target target) = inner target

abbrev pub func_level : Func-F Lays Lays Lays Lays Lays Lays Lays Lays Lays Lays Lays Lays Lays Lays Lays Lays Lays Lays Lays Lays Lays Lays Lays PartLays → Lays
func_level func = opt one func.is_async ⨾ one func.word ⨾ opt one func.star ⨾ named is.FunctionName func.name ⨾ within part.Function (one func.left ⨾ inner func.params ⨾ one func.right ⨾ within part.FunctionBody (body_marks inner func.body))

abbrev pub params_level : Params-F Lays Lays Lays Lays Lays Lays Lays Lays Lays Lays Lays Lays Lays Lays Lays Lays Lays Lays Lays Lays Lays Lays Lays PartLays → Lays
params_level params = listed (separated_marks inner) params.list ⨾ opt (rest_marks inner) params.rest

abbrev pub class_level : Class-F Lays Lays Lays Lays Lays Lays Lays Lays Lays Lays Lays Lays Lays Lays Lays Lays Lays Lays Lays Lays Lays Lays Lays PartLays → Lays
class_level class = one class.word ⨾ named is.ClassName class.name ⨾ within part.Class (opt (extends_marks inner) class.extends ⨾ one class.left ⨾ listed inner class.elements ⨾ one class.right)

abbrev pub element_level : Element-F Lays Lays Lays Lays Lays Lays Lays Lays Lays Lays Lays Lays Lays Lays Lays Lays Lays Lays Lays Lays Lays Lays Lays PartLays → Lays
element_level (Element-F.Element::Empty mark) = one mark
element_level (Element-F.Element::Method is_static method) = opt one is_static ⨾ inner method
element_level (Element-F.Field is_static key initial semi) = opt one is_static ⨾ key_of_marks inner key ⨾ opt (initializer_marks inner) initial ⨾ semicolon semi
element_level (Element-F.Static word body) = one word ⨾ within part.StaticBlock (body_marks inner body)

abbrev pub method_level : Method-F Lays Lays Lays Lays Lays Lays Lays Lays Lays Lays Lays Lays Lays Lays Lays Lays Lays Lays Lays Lays Lays Lays Lays PartLays → Lays
method_level (Method-F.Method::Method is_async star key left params right body) = opt one is_async ⨾ opt one star ⨾ key_of_marks inner key ⨾ within part.Function (one left ⨾ inner params ⨾ one right ⨾ within part.FunctionBody (body_marks inner body))
method_level (Method-F.Get word key left right body) = one word ⨾ key_of_marks inner key ⨾ within part.Function (one left ⨾ one right ⨾ within part.FunctionBody (body_marks inner body))
method_level (Method-F.Method::Set word key left parameter right body) = one word ⨾ key_of_marks inner key ⨾ within part.Function (one left ⨾ inner parameter ⨾ one right ⨾ within part.FunctionBody (body_marks inner body))

abbrev pub bind_property_level : BindProperty-F Lays Lays Lays Lays Lays Lays Lays Lays Lays Lays Lays Lays Lays Lays Lays Lays Lays Lays Lays Lays Lays Lays Lays PartLays → Lays
bind_property_level bind_property = keyed inner bind_property.key ⨾ inner bind_property.decl

abbrev pub bind_level : Bind-F Lays Lays Lays Lays Lays Lays Lays Lays Lays Lays Lays Lays Lays Lays Lays Lays Lays Lays Lays Lays Lays Lays Lays PartLays → Lays
bind_level (Bind-F.Bind::Name name) = told is.Bound name
bind_level (Bind-F.Bind::Array left elements rest right) = within part.Pattern (one left ⨾ listed (separated_marks (opt inner)) elements ⨾ opt (rest_marks inner) rest ⨾ one right)
bind_level (Bind-F.Bind::Object left properties rest right) = within part.Pattern (one left ⨾ listed (separated_marks inner) properties ⨾ opt (rest_marks inner) rest ⨾ one right)

abbrev pub target_level : Target-F Lays Lays Lays Lays Lays Lays Lays Lays Lays Lays Lays Lays Lays Lays Lays Lays Lays Lays Lays Lays Lays Lays Lays PartLays → Lays
target_level (Target-F.Target::Name name) = target_name name
target_level (Target-F.Member member) = target_member inner member
target_level (Target-F.ParenName name) = parenthesised_marks target_name name
target_level (Target-F.ParenMember member) = parenthesised_marks (target_member inner) member
target_level (Target-F.Target::Array left elements rest right) = one left ⨾ listed (separated_marks (opt in_array)) elements ⨾ opt (rest_marks inner) rest ⨾ one right
target_level (Target-F.Target::Object left properties rest right) = one left ⨾ listed (separated_marks in_object) properties ⨾ opt (rest_marks inner) rest ⨾ one right

abbrev pub target_part_level : TargetPart-F Lays Lays Lays Lays Lays Lays Lays Lays Lays Lays Lays Lays Lays Lays Lays Lays Lays Lays Lays Lays Lays Lays Lays PartLays → PartLays
target_part_level target_part in_object = part_key in_object inner target_part.key ⨾ inner target_part.target ⨾ opt (initializer_marks inner) target_part.initial

abbrev pub assign_level : Assign-F Lays Lays Lays Lays Lays Lays Lays Lays Lays Lays Lays Lays Lays Lays Lays Lays Lays Lays Lays Lays Lays Lays Lays PartLays → Lays
assign_level (Assign-F.Cond cond) = inner cond
assign_level (Assign-F.Arrow arrow) = inner arrow
assign_level (Assign-F.Assign::Set target equals value) = inner target ⨾ one equals ⨾ inner value
assign_level (Assign-F.Compound target operator value) = inner target ⨾ put mark.Updated ⨾ one operator ⨾ inner value
assign_level (Assign-F.Yield word yielded) = one word ⨾ opt (yielded_marks inner) yielded

abbrev pub arrow_level : Arrow-F Lays Lays Lays Lays Lays Lays Lays Lays Lays Lays Lays Lays Lays Lays Lays Lays Lays Lays Lays Lays Lays Lays Lays PartLays → Lays
arrow_level (Arrow-F.Arrow::Block is_async params mark body) = within part.Arrow (opt one is_async ⨾ arrow_params_marks inner params ⨾ one mark ⨾ within part.FunctionBody (body_marks inner body))
arrow_level (Arrow-F.Concise is_async params mark value) = within part.Arrow (opt one is_async ⨾ arrow_params_marks inner params ⨾ one mark ⨾ inner value)

abbrev pub cond_level : Cond-F Lays Lays Lays Lays Lays Lays Lays Lays Lays Lays Lays Lays Lays Lays Lays Lays Lays Lays Lays Lays Lays Lays Lays PartLays → Lays
cond_level cond = binary_of_marks inner cond.test ⨾ opt (arms_marks inner) cond.arms

abbrev pub operand_level : Operand-F Lays Lays Lays Lays Lays Lays Lays Lays Lays Lays Lays Lays Lays Lays Lays Lays Lays Lays Lays Lays Lays Lays Lays PartLays → Lays
operand_level (Operand-F.Private name) = one name
operand_level (Operand-F.Prefix operator operand) = told is.Prefix operator ⨾ inner operand
operand_level (Operand-F.Await word operand) = told is.Await word ⨾ inner operand
operand_level (Operand-F.Update operator target) = one operator ⨾ inner target ⨾ put mark.Updated
operand_level (Operand-F.LHS lhs) = inner lhs
operand_level (Operand-F.Postfix target operator) = inner target ⨾ put mark.Updated ⨾ one operator

abbrev pub lhs_level : LHS-F Lays Lays Lays Lays Lays Lays Lays Lays Lays Lays Lays Lays Lays Lays Lays Lays Lays Lays Lays Lays Lays Lays Lays PartLays → Lays
lhs_level lhs = inner lhs.base ⨾ listed (suffix_of_marks inner) lhs.suffixes

abbrev pub member_level : Member-F Lays Lays Lays Lays Lays Lays Lays Lays Lays Lays Lays Lays Lays Lays Lays Lays Lays Lays Lays Lays Lays Lays Lays PartLays → Lays
member_level (Member-F.Shorthand name) = put mark.Shorthand ⨾ told is.Reference name
member_level (Member-F.Pair key colon value) = key_of_marks inner key ⨾ one colon ⨾ inner value
member_level (Member-F.Member::Method method) = inner method
member_level (Member-F.Spread dots value) = one dots ⨾ inner value

abbrev pub primary_level : Primary-F Lays Lays Lays Lays Lays Lays Lays Lays Lays Lays Lays Lays Lays Lays Lays Lays Lays Lays Lays Lays Lays Lays Lays PartLays → Lays
primary_level (Primary-F.This word) = one word
primary_level (Primary-F.Primary::Name name) = told is.Reference name
primary_level (Primary-F.Literal literal) = one literal
primary_level (Primary-F.Template template) = template_marks (expr_of_marks inner) template
primary_level (Primary-F.Regex regex) = one regex
primary_level (Primary-F.Primary::Array left elements right) = one left ⨾ listed (separated_marks (opt (argument_marks inner))) elements ⨾ one right
primary_level (Primary-F.Primary::Object left members right) = one left ⨾ listed (separated_marks inner) members ⨾ one right
primary_level (Primary-F.Primary::Func func) = within part.FunctionExpression (inner func)
primary_level (Primary-F.Primary::Class class) = within part.ClassExpression (inner class)
primary_level (Primary-F.Paren left expr right) = told is.Opens left ⨾ expr_of_marks inner expr ⨾ told is.Closes right

abbrev pub base_level : Base-F Lays Lays Lays Lays Lays Lays Lays Lays Lays Lays Lays Lays Lays Lays Lays Lays Lays Lays Lays Lays Lays Lays Lays PartLays → Lays
base_level (Base-F.Primary primary) = inner primary
base_level (Base-F.Super word) = one word
base_level (Base-F.New word callee args) = told is.New word ⨾ inner callee ⨾ opt (args_of_marks inner) args
base_level (Base-F.NewTarget word dot target) = one word ⨾ one dot ⨾ one target
base_level (Base-F.ImportMeta word dot meta) = told is.ImportMeta word ⨾ one dot ⨾ one meta
base_level (Base-F.Import word left request second comma right) = told is.ImportCall word ⨾ one left ⨾ inner request ⨾ opt (second_argument_marks inner) second ⨾ opt one comma ⨾ one right

-- the whole of each

unfoldable pub item_marks : Item → Lays
item_marks = fold-Item Lays Lays Lays Lays Lays Lays Lays Lays Lays Lays Lays Lays Lays Lays Lays Lays Lays Lays Lays Lays Lays Lays Lays PartLays arrow_level assign_level base_level bind_level case_level element_level for_level head_level init_level item_level member_level method_level operand_level primary_level stmt_level target_level bind_property_level class_level cond_level decl_level func_level lhs_level params_level target_part_level

unfoldable pub decl_marks : Decl → Lays
decl_marks = fold-Decl Lays Lays Lays Lays Lays Lays Lays Lays Lays Lays Lays Lays Lays Lays Lays Lays Lays Lays Lays Lays Lays Lays Lays PartLays arrow_level assign_level base_level bind_level case_level element_level for_level head_level init_level item_level member_level method_level operand_level primary_level stmt_level target_level bind_property_level class_level cond_level decl_level func_level lhs_level params_level target_part_level

unfoldable pub case_marks : Case → Lays
case_marks = fold-Case Lays Lays Lays Lays Lays Lays Lays Lays Lays Lays Lays Lays Lays Lays Lays Lays Lays Lays Lays Lays Lays Lays Lays PartLays arrow_level assign_level base_level bind_level case_level element_level for_level head_level init_level item_level member_level method_level operand_level primary_level stmt_level target_level bind_property_level class_level cond_level decl_level func_level lhs_level params_level target_part_level

unfoldable pub stmt_marks : Stmt → Lays
stmt_marks = fold-Stmt Lays Lays Lays Lays Lays Lays Lays Lays Lays Lays Lays Lays Lays Lays Lays Lays Lays Lays Lays Lays Lays Lays Lays PartLays arrow_level assign_level base_level bind_level case_level element_level for_level head_level init_level item_level member_level method_level operand_level primary_level stmt_level target_level bind_property_level class_level cond_level decl_level func_level lhs_level params_level target_part_level

unfoldable pub init_marks : Init → Lays
init_marks = fold-Init Lays Lays Lays Lays Lays Lays Lays Lays Lays Lays Lays Lays Lays Lays Lays Lays Lays Lays Lays Lays Lays Lays Lays PartLays arrow_level assign_level base_level bind_level case_level element_level for_level head_level init_level item_level member_level method_level operand_level primary_level stmt_level target_level bind_property_level class_level cond_level decl_level func_level lhs_level params_level target_part_level

unfoldable pub for_marks : For → Lays
for_marks = fold-For Lays Lays Lays Lays Lays Lays Lays Lays Lays Lays Lays Lays Lays Lays Lays Lays Lays Lays Lays Lays Lays Lays Lays PartLays arrow_level assign_level base_level bind_level case_level element_level for_level head_level init_level item_level member_level method_level operand_level primary_level stmt_level target_level bind_property_level class_level cond_level decl_level func_level lhs_level params_level target_part_level

unfoldable pub head_marks : Head → Lays
head_marks = fold-Head Lays Lays Lays Lays Lays Lays Lays Lays Lays Lays Lays Lays Lays Lays Lays Lays Lays Lays Lays Lays Lays Lays Lays PartLays arrow_level assign_level base_level bind_level case_level element_level for_level head_level init_level item_level member_level method_level operand_level primary_level stmt_level target_level bind_property_level class_level cond_level decl_level func_level lhs_level params_level target_part_level

unfoldable pub func_marks : Func → Lays
func_marks = fold-Func Lays Lays Lays Lays Lays Lays Lays Lays Lays Lays Lays Lays Lays Lays Lays Lays Lays Lays Lays Lays Lays Lays Lays PartLays arrow_level assign_level base_level bind_level case_level element_level for_level head_level init_level item_level member_level method_level operand_level primary_level stmt_level target_level bind_property_level class_level cond_level decl_level func_level lhs_level params_level target_part_level

unfoldable pub params_marks : Params → Lays
params_marks = fold-Params Lays Lays Lays Lays Lays Lays Lays Lays Lays Lays Lays Lays Lays Lays Lays Lays Lays Lays Lays Lays Lays Lays Lays PartLays arrow_level assign_level base_level bind_level case_level element_level for_level head_level init_level item_level member_level method_level operand_level primary_level stmt_level target_level bind_property_level class_level cond_level decl_level func_level lhs_level params_level target_part_level

unfoldable pub class_marks : Class → Lays
class_marks = fold-Class Lays Lays Lays Lays Lays Lays Lays Lays Lays Lays Lays Lays Lays Lays Lays Lays Lays Lays Lays Lays Lays Lays Lays PartLays arrow_level assign_level base_level bind_level case_level element_level for_level head_level init_level item_level member_level method_level operand_level primary_level stmt_level target_level bind_property_level class_level cond_level decl_level func_level lhs_level params_level target_part_level

unfoldable pub element_marks : Element → Lays
element_marks = fold-Element Lays Lays Lays Lays Lays Lays Lays Lays Lays Lays Lays Lays Lays Lays Lays Lays Lays Lays Lays Lays Lays Lays Lays PartLays arrow_level assign_level base_level bind_level case_level element_level for_level head_level init_level item_level member_level method_level operand_level primary_level stmt_level target_level bind_property_level class_level cond_level decl_level func_level lhs_level params_level target_part_level

unfoldable pub method_marks : Method → Lays
method_marks = fold-Method Lays Lays Lays Lays Lays Lays Lays Lays Lays Lays Lays Lays Lays Lays Lays Lays Lays Lays Lays Lays Lays Lays Lays PartLays arrow_level assign_level base_level bind_level case_level element_level for_level head_level init_level item_level member_level method_level operand_level primary_level stmt_level target_level bind_property_level class_level cond_level decl_level func_level lhs_level params_level target_part_level

unfoldable pub bind_property_marks : BindProperty → Lays
bind_property_marks = fold-BindProperty Lays Lays Lays Lays Lays Lays Lays Lays Lays Lays Lays Lays Lays Lays Lays Lays Lays Lays Lays Lays Lays Lays Lays PartLays arrow_level assign_level base_level bind_level case_level element_level for_level head_level init_level item_level member_level method_level operand_level primary_level stmt_level target_level bind_property_level class_level cond_level decl_level func_level lhs_level params_level target_part_level

unfoldable pub bind_marks : Bind → Lays
bind_marks = fold-Bind Lays Lays Lays Lays Lays Lays Lays Lays Lays Lays Lays Lays Lays Lays Lays Lays Lays Lays Lays Lays Lays Lays Lays PartLays arrow_level assign_level base_level bind_level case_level element_level for_level head_level init_level item_level member_level method_level operand_level primary_level stmt_level target_level bind_property_level class_level cond_level decl_level func_level lhs_level params_level target_part_level

unfoldable pub target_marks : Target → Lays
target_marks = fold-Target Lays Lays Lays Lays Lays Lays Lays Lays Lays Lays Lays Lays Lays Lays Lays Lays Lays Lays Lays Lays Lays Lays Lays PartLays arrow_level assign_level base_level bind_level case_level element_level for_level head_level init_level item_level member_level method_level operand_level primary_level stmt_level target_level bind_property_level class_level cond_level decl_level func_level lhs_level params_level target_part_level

unfoldable pub target_part_marks : TargetPart → PartLays
target_part_marks = fold-TargetPart Lays Lays Lays Lays Lays Lays Lays Lays Lays Lays Lays Lays Lays Lays Lays Lays Lays Lays Lays Lays Lays Lays Lays PartLays arrow_level assign_level base_level bind_level case_level element_level for_level head_level init_level item_level member_level method_level operand_level primary_level stmt_level target_level bind_property_level class_level cond_level decl_level func_level lhs_level params_level target_part_level

unfoldable pub assign_marks : Assign → Lays
assign_marks = fold-Assign Lays Lays Lays Lays Lays Lays Lays Lays Lays Lays Lays Lays Lays Lays Lays Lays Lays Lays Lays Lays Lays Lays Lays PartLays arrow_level assign_level base_level bind_level case_level element_level for_level head_level init_level item_level member_level method_level operand_level primary_level stmt_level target_level bind_property_level class_level cond_level decl_level func_level lhs_level params_level target_part_level

unfoldable pub arrow_marks : Arrow → Lays
arrow_marks = fold-Arrow Lays Lays Lays Lays Lays Lays Lays Lays Lays Lays Lays Lays Lays Lays Lays Lays Lays Lays Lays Lays Lays Lays Lays PartLays arrow_level assign_level base_level bind_level case_level element_level for_level head_level init_level item_level member_level method_level operand_level primary_level stmt_level target_level bind_property_level class_level cond_level decl_level func_level lhs_level params_level target_part_level

unfoldable pub cond_marks : Cond → Lays
cond_marks = fold-Cond Lays Lays Lays Lays Lays Lays Lays Lays Lays Lays Lays Lays Lays Lays Lays Lays Lays Lays Lays Lays Lays Lays Lays PartLays arrow_level assign_level base_level bind_level case_level element_level for_level head_level init_level item_level member_level method_level operand_level primary_level stmt_level target_level bind_property_level class_level cond_level decl_level func_level lhs_level params_level target_part_level

unfoldable pub operand_marks : Operand → Lays
operand_marks = fold-Operand Lays Lays Lays Lays Lays Lays Lays Lays Lays Lays Lays Lays Lays Lays Lays Lays Lays Lays Lays Lays Lays Lays Lays PartLays arrow_level assign_level base_level bind_level case_level element_level for_level head_level init_level item_level member_level method_level operand_level primary_level stmt_level target_level bind_property_level class_level cond_level decl_level func_level lhs_level params_level target_part_level

unfoldable pub lhs_marks : LHS → Lays
lhs_marks = fold-LHS Lays Lays Lays Lays Lays Lays Lays Lays Lays Lays Lays Lays Lays Lays Lays Lays Lays Lays Lays Lays Lays Lays Lays PartLays arrow_level assign_level base_level bind_level case_level element_level for_level head_level init_level item_level member_level method_level operand_level primary_level stmt_level target_level bind_property_level class_level cond_level decl_level func_level lhs_level params_level target_part_level

unfoldable pub member_marks : Member → Lays
member_marks = fold-Member Lays Lays Lays Lays Lays Lays Lays Lays Lays Lays Lays Lays Lays Lays Lays Lays Lays Lays Lays Lays Lays Lays Lays PartLays arrow_level assign_level base_level bind_level case_level element_level for_level head_level init_level item_level member_level method_level operand_level primary_level stmt_level target_level bind_property_level class_level cond_level decl_level func_level lhs_level params_level target_part_level

unfoldable pub primary_marks : Primary → Lays
primary_marks = fold-Primary Lays Lays Lays Lays Lays Lays Lays Lays Lays Lays Lays Lays Lays Lays Lays Lays Lays Lays Lays Lays Lays Lays Lays PartLays arrow_level assign_level base_level bind_level case_level element_level for_level head_level init_level item_level member_level method_level operand_level primary_level stmt_level target_level bind_property_level class_level cond_level decl_level func_level lhs_level params_level target_part_level

unfoldable pub base_marks : Base → Lays
base_marks = fold-Base Lays Lays Lays Lays Lays Lays Lays Lays Lays Lays Lays Lays Lays Lays Lays Lays Lays Lays Lays Lays Lays Lays Lays PartLays arrow_level assign_level base_level bind_level case_level element_level for_level head_level init_level item_level member_level method_level operand_level primary_level stmt_level target_level bind_property_level class_level cond_level decl_level func_level lhs_level params_level target_part_level

-- productions that are such a part

abbrev pub lex_marks : LexOf Decl → Lays
lex_marks = lex_of_marks decl_marks

abbrev pub var_marks : VarOf Decl → Lays
var_marks = var_of_marks decl_marks

abbrev pub key_marks : KeyOf Assign → Lays
key_marks = key_of_marks assign_marks

abbrev pub expr_marks : ExprOf Assign → Lays
expr_marks = expr_of_marks assign_marks

abbrev pub args_marks : ArgsOf Assign → Lays
args_marks = args_of_marks assign_marks

abbrev pub suffix_marks : SuffixOf Assign → Lays
suffix_marks = suffix_of_marks assign_marks

abbrev pub binary_marks : BinaryOf Operand → Lays
binary_marks = binary_of_marks operand_marks

-- programs, imports and exports

abbrev pub space_marks : Space → Lays
space_marks space = one space.star ⨾ one space.word ⨾ told is.ImportedSpace space.name

abbrev pub import_name_marks : ImportName → Lays
import_name_marks (import_name_v.Name name) = put mark.Shorthand ⨾ told is.Imported name
import_name_marks (import_name_v.Renamed export word name) = told is.Outer export ⨾ one word ⨾ told is.Imported name

abbrev pub named_marks : Named → Lays
named_marks named = one named.left ⨾ listed (separated_marks import_name_marks) named.list ⨾ one named.right

abbrev pub clause_marks : Clause → Lays
clause_marks (clause_v.Name name) = told is.ImportedDefault name
clause_marks (clause_v.Space space) = space_marks space
clause_marks (clause_v.Named named) = named_marks named
clause_marks (clause_v.NameSpace name comma space) = told is.ImportedDefault name ⨾ one comma ⨾ space_marks space
clause_marks (clause_v.NameNamed name comma named) = told is.ImportedDefault name ⨾ one comma ⨾ named_marks named

abbrev pub attribute_marks : Attribute → Lays
attribute_marks attribute = one attribute.key ⨾ one attribute.colon ⨾ one attribute.value

abbrev pub with_marks : With → Lays
with_marks with = told is.Attributes with.word ⨾ one with.left ⨾ listed (separated_marks attribute_marks) with.list ⨾ one with.right

abbrev pub import_marks : Import → Lays
import_marks (import_v.Bare word request attributes semi) = within part.ImportDeclaration (one word ⨾ told is.Request request ⨾ opt with_marks attributes ⨾ semicolon semi)
import_marks (import_v.From word clause from_word request attributes semi) = within part.ImportDeclaration (one word ⨾ clause_marks clause ⨾ one from_word ⨾ told is.Request request ⨾ opt with_marks attributes ⨾ semicolon semi)

abbrev pub renamed_marks : Renamed → Lays
renamed_marks renamed = one renamed.word ⨾ told is.Outer renamed.name

abbrev pub export_name_marks : ExportName → Lays
export_name_marks export_name = told is.Exported export_name.name ⨾ opt renamed_marks export_name.renamed

abbrev pub names_marks : Names → Lays
names_marks names = one names.left ⨾ listed (separated_marks export_name_marks) names.list ⨾ one names.right

abbrev pub export_marks : Export → Lays
export_marks (export_v.All word star from_word request attributes semi) = within part.ExportStar (one word ⨾ one star ⨾ one from_word ⨾ told is.Request request ⨾ opt with_marks attributes ⨾ semicolon semi)
export_marks (export_v.Space word star as_word name from_word request attributes semi) = within part.ExportStar (one word ⨾ one star ⨾ one as_word ⨾ told is.Outer name ⨾ one from_word ⨾ told is.Request request ⨾ opt with_marks attributes ⨾ semicolon semi)
export_marks (export_v.From word names from_word request attributes semi) = within part.ExportList (one word ⨾ names_marks names ⨾ one from_word ⨾ told is.Request request ⨾ opt with_marks attributes ⨾ semicolon semi)
export_marks (export_v.Names word names semi) = within part.ExportList (one word ⨾ names_marks names ⨾ semicolon semi)
export_marks (export_v.Var word var) = within part.ExportedDeclaration (one word ⨾ var_of_marks decl_marks var)
export_marks (export_v.Lex word lex) = within part.ExportedDeclaration (one word ⨾ lex_of_marks decl_marks lex)
export_marks (export_v.Func word func) = within part.ExportedDeclaration (one word ⨾ func_marks func)
export_marks (export_v.Class word class) = within part.ExportedDeclaration (one word ⨾ class_marks class)
export_marks (export_v.DefaultFunc word default func) = within part.ExportDefault (one word ⨾ one default ⨾ func_marks func)
export_marks (export_v.DefaultClass word default class) = within part.ExportDefault (one word ⨾ one default ⨾ class_marks class)
export_marks (export_v.Default word default value semi) = within part.ExportDefault (one word ⨾ one default ⨾ within part.ExportedValue (assign_marks value) ⨾ semicolon semi)

abbrev pub program_item_marks : ProgramItem → Lays
program_item_marks (program_item_v.Item item) = item_marks item
program_item_marks (program_item_v.Import import) = import_marks import
program_item_marks (program_item_v.Export export) = export_marks export

abbrev pub program_marks : Program → Lays
program_marks program = listed program_item_marks program.items

-- the outline of a program
abbrev pub outline : Program → Marks
outline program = program_marks program []
