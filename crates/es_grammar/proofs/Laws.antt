-- The tokens of each form of each production, in terms of the tokens of its parts.
use Rattle.std.specs.Prelude.{◌≡◌, List, [], ◌∷◌, ◌++◌, Option, Some, None}
use Rattle.std.proofs.Common.{refl, ap, ap₂, ◌∙◌}
use Rattle.es_tree.specs.declared.tokens.Token.{Token}
use Rattle.es_tree.specs.declared.parts.Separated.{Separated}
use Rattle.es_tree.specs.declared.parts.Initializer.{Initializer}
use Rattle.es_tree.specs.declared.parts.Rest.{Rest}
use Rattle.es_tree.specs.declared.parts.Parenthesised.{Parenthesised}
use Rattle.es_tree.specs.declared.parts.Body.{Body}
use Rattle.es_tree.specs.declared.parts.Else.{Else}
use Rattle.es_tree.specs.declared.parts.CatchParameter.{CatchParameter}
use Rattle.es_tree.specs.declared.parts.Finally.{Finally}
use Rattle.es_tree.specs.declared.parts.Extends.{Extends}
use Rattle.es_tree.specs.declared.parts.Argument.{Argument}
use Rattle.es_tree.specs.declared.parts.Arms.{Arms}
use Rattle.es_tree.specs.declared.parts.Yielded.{Yielded}
use Rattle.es_tree.specs.declared.parts.SecondArgument.{SecondArgument}
use Rattle.es_tree.specs.declared.parts.Template.{Template}
use Rattle.es_tree.specs.declared.parts.ArrowParams.{ArrowParams}
use Rattle.es_tree.specs.declared.parts.LexOf.{LexOf}
use Rattle.es_tree.specs.declared.parts.VarOf.{VarOf}
use Rattle.es_tree.specs.declared.parts.KeyOf.{KeyOf}
use Rattle.es_tree.specs.declared.parts.PropertyKey.{PropertyKey}
use Rattle.es_tree.specs.declared.parts.ExprOf.{ExprOf}
use Rattle.es_tree.specs.declared.parts.ArgsOf.{ArgsOf}
use Rattle.es_tree.specs.declared.parts.SuffixOf.{SuffixOf}
use Rattle.es_tree.specs.declared.parts.BinaryOf.{BinaryOf}
use Rattle.es_tree.specs.declared.parts.ArrowParams.TheVariants as arrow_params_v
use Rattle.es_tree.specs.declared.parts.KeyOf.TheVariants as key_of_v
use Rattle.es_tree.specs.declared.parts.SuffixOf.TheVariants as suffix_of_v
use Rattle.es_tree.specs.declared.cycle.Arrow.TheOpen.{Arrow-F, Assign-F, Base-F, Bind-F, Case-F, Element-F, For-F, Head-F, Init-F, Item-F, Member-F, Method-F, Operand-F, Primary-F, Stmt-F, Target-F}
use Rattle.es_tree.specs.declared.cycle.Item.{Item}
use Rattle.es_tree.specs.declared.cycle.Decl.{Decl, out-Decl}
use Rattle.es_tree.specs.declared.cycle.Case.{Case}
use Rattle.es_tree.specs.declared.cycle.Stmt.{Stmt}
use Rattle.es_tree.specs.declared.cycle.Init.{Init}
use Rattle.es_tree.specs.declared.cycle.For.{For}
use Rattle.es_tree.specs.declared.cycle.Head.{Head}
use Rattle.es_tree.specs.declared.cycle.Func.{Func, out-Func}
use Rattle.es_tree.specs.declared.cycle.Params.{Params, out-Params}
use Rattle.es_tree.specs.declared.cycle.Class.{Class, out-Class}
use Rattle.es_tree.specs.declared.cycle.Element.{Element}
use Rattle.es_tree.specs.declared.cycle.Method.{Method}
use Rattle.es_tree.specs.declared.cycle.BindProperty.{BindProperty, out-BindProperty}
use Rattle.es_tree.specs.declared.cycle.Bind.{Bind, map-Bind}
use Rattle.es_tree.specs.declared.cycle.Target.{Target, map-Target}
use Rattle.es_tree.specs.declared.cycle.TargetPart.{TargetPart, out-TargetPart}
use Rattle.es_tree.specs.declared.cycle.Assign.{Assign}
use Rattle.es_tree.specs.declared.cycle.Arrow.{Arrow}
use Rattle.es_tree.specs.declared.cycle.Cond.{Cond, out-Cond}
use Rattle.es_tree.specs.declared.cycle.Operand.{Operand}
use Rattle.es_tree.specs.declared.cycle.LHS.{LHS, out-LHS, map-LHS}
use Rattle.es_tree.specs.declared.cycle.Member.{Member}
use Rattle.es_tree.specs.declared.cycle.Primary.{Primary, map-Primary}
use Rattle.es_tree.specs.declared.cycle.Base.{Base}
use Rattle.es_tree.specs.declared.cycle.Arrow.TheVariants as arrow_v
use Rattle.es_tree.specs.declared.cycle.Assign.TheVariants as assign_v
use Rattle.es_tree.specs.declared.cycle.Base.TheVariants as base_v
use Rattle.es_tree.specs.declared.cycle.Bind.TheVariants as bind_v
use Rattle.es_tree.specs.declared.cycle.Case.TheVariants as case_v
use Rattle.es_tree.specs.declared.cycle.Element.TheVariants as element_v
use Rattle.es_tree.specs.declared.cycle.For.TheVariants as for_v
use Rattle.es_tree.specs.declared.cycle.Head.TheVariants as head_v
use Rattle.es_tree.specs.declared.cycle.Init.TheVariants as init_v
use Rattle.es_tree.specs.declared.cycle.Item.TheVariants as item_v
use Rattle.es_tree.specs.declared.cycle.Member.TheVariants as member_v
use Rattle.es_tree.specs.declared.cycle.Method.TheVariants as method_v
use Rattle.es_tree.specs.declared.cycle.Operand.TheVariants as operand_v
use Rattle.es_tree.specs.declared.cycle.Primary.TheVariants as primary_v
use Rattle.es_tree.specs.declared.cycle.Stmt.TheVariants as stmt_v
use Rattle.es_tree.specs.declared.cycle.Target.TheVariants as target_v
use Rattle.es_tree.specs.Yield.{Tokens, one, opt, inner, listed, separated_tokens, initializer_tokens, rest_tokens, parenthesised_tokens, body_tokens, else_tokens, catch_parameter_tokens, finally_tokens, extends_tokens, argument_tokens, arms_tokens, yielded_tokens, second_argument_tokens, template_tokens, arrow_params_tokens, lex_tokens, var_tokens, key_tokens, expr_tokens, args_tokens, suffix_tokens, binary_tokens, property_key_tokens, suffix_of_tokens, arrow_tokens, assign_tokens, base_tokens, bind_tokens, case_tokens, element_tokens, for_tokens, head_tokens, init_tokens, item_tokens, member_tokens, method_tokens, operand_tokens, primary_tokens, stmt_tokens, target_tokens, bind_property_tokens, class_tokens, cond_tokens, decl_tokens, func_tokens, lhs_tokens, params_tokens, target_part_tokens}
use Rattle.es_grammar.proofs.Joins.{ap₃, listed_map, separated_over, joined_over, arguments_over, optional_over, pieces_over}
use Rattle.es_grammar.proofs.Opens.{item_mapped, item_opens, decl_mapped, decl_opens, case_mapped, case_opens, stmt_mapped, stmt_opens, init_mapped, init_opens, for_mapped, for_opens, head_mapped, head_opens, func_mapped, func_opens, params_mapped, params_opens, class_mapped, class_opens, element_mapped, element_opens, method_mapped, method_opens, bind_property_mapped, bind_property_opens, bind_mapped, bind_opens, target_mapped, target_opens, target_part_mapped, target_part_opens, assign_mapped, assign_opens, arrow_mapped, arrow_opens, cond_mapped, cond_opens, operand_mapped, operand_opens, lhs_mapped, lhs_opens, member_mapped, member_opens, primary_mapped, primary_opens, base_mapped, base_opens}

suffixes_over : (base : Base) (xs : List (SuffixOf Assign)) → listed (suffix_of_tokens inner) (map-LHS Arrow Assign Base Bind Case Element For Head Init Item Member Method Operand Primary Stmt Target BindProperty Class Cond Decl Func LHS Params TargetPart Tokens Tokens Tokens Tokens Tokens Tokens Tokens Tokens Tokens Tokens Tokens Tokens Tokens Tokens Tokens Tokens Tokens Tokens Tokens Tokens Tokens Tokens Tokens Tokens arrow_tokens assign_tokens base_tokens bind_tokens case_tokens element_tokens for_tokens head_tokens init_tokens item_tokens member_tokens method_tokens operand_tokens primary_tokens stmt_tokens target_tokens bind_property_tokens class_tokens cond_tokens decl_tokens func_tokens lhs_tokens params_tokens target_part_tokens (record { base = base; suffixes = xs })).suffixes ≡ listed suffix_tokens xs
suffixes_over base [] = refl
suffixes_over base (suffix_of_v.Dot mark name ∷ xs) = ap (λ t. mark ∷ name ∷ t) (suffixes_over base xs)
suffixes_over base (suffix_of_v.Private mark name ∷ xs) = ap (λ t. mark ∷ name ∷ t) (suffixes_over base xs)
suffixes_over base (suffix_of_v.Index left index right ∷ xs) = ap₂ (λ t u. (one left ++ t ++ one right) ++ u) (separated_over assign_tokens index.list) (suffixes_over base xs)
suffixes_over base (suffix_of_v.Args args ∷ xs) = ap₂ (λ t u. (one args.left ++ t ++ one args.right) ++ u) (arguments_over assign_tokens args.list) (suffixes_over base xs)
suffixes_over base (suffix_of_v.Template template ∷ xs) = ap₂ (λ t u. (one template.head ++ t) ++ u) (pieces_over assign_tokens template.more) (suffixes_over base xs)
suffixes_over base (suffix_of_v.OptionalDot mark name ∷ xs) = ap (λ t. mark ∷ name ∷ t) (suffixes_over base xs)
suffixes_over base (suffix_of_v.OptionalPrivate mark name ∷ xs) = ap (λ t. mark ∷ name ∷ t) (suffixes_over base xs)
suffixes_over base (suffix_of_v.OptionalIndex mark left index right ∷ xs) = ap₂ (λ t u. (one mark ++ one left ++ t ++ one right) ++ u) (separated_over assign_tokens index.list) (suffixes_over base xs)
suffixes_over base (suffix_of_v.OptionalArgs mark args ∷ xs) = ap₂ (λ t u. (one mark ++ one args.left ++ t ++ one args.right) ++ u) (arguments_over assign_tokens args.list) (suffixes_over base xs)

abbrev bind_first : Bind-F Tokens Tokens Tokens Tokens Tokens Tokens Tokens Tokens Tokens Tokens Tokens Tokens Tokens Tokens Tokens Tokens Tokens Tokens Tokens Tokens Tokens Tokens Tokens Tokens → Option Tokens
bind_first (Bind-F.Bind::Array left (element ∷ more) rest right) = element.item
bind_first other = None

-- what the fold makes of an element
abbrev bind_over : Token → Option Decl → Option Tokens
bind_over left o = bind_first (map-Bind Arrow Assign Base Bind Case Element For Head Init Item Member Method Operand Primary Stmt Target BindProperty Class Cond Decl Func LHS Params TargetPart Tokens Tokens Tokens Tokens Tokens Tokens Tokens Tokens Tokens Tokens Tokens Tokens Tokens Tokens Tokens Tokens Tokens Tokens Tokens Tokens Tokens Tokens Tokens Tokens arrow_tokens assign_tokens base_tokens bind_tokens case_tokens element_tokens for_tokens head_tokens init_tokens item_tokens member_tokens method_tokens operand_tokens primary_tokens stmt_tokens target_tokens bind_property_tokens class_tokens cond_tokens decl_tokens func_tokens lhs_tokens params_tokens target_part_tokens (Bind-F.Bind::Array left ((record { item = o; comma = None }) ∷ []) None left))

abbrev target_first : Target-F Tokens Tokens Tokens Tokens Tokens Tokens Tokens Tokens Tokens Tokens Tokens Tokens Tokens Tokens Tokens Tokens Tokens Tokens Tokens Tokens Tokens Tokens Tokens Tokens → Option Tokens
target_first (Target-F.Target::Array left (element ∷ more) rest right) = element.item
target_first other = None

-- what the fold makes of an element
abbrev target_over : Token → Option TargetPart → Option Tokens
target_over left o = target_first (map-Target Arrow Assign Base Bind Case Element For Head Init Item Member Method Operand Primary Stmt Target BindProperty Class Cond Decl Func LHS Params TargetPart Tokens Tokens Tokens Tokens Tokens Tokens Tokens Tokens Tokens Tokens Tokens Tokens Tokens Tokens Tokens Tokens Tokens Tokens Tokens Tokens Tokens Tokens Tokens Tokens arrow_tokens assign_tokens base_tokens bind_tokens case_tokens element_tokens for_tokens head_tokens init_tokens item_tokens member_tokens method_tokens operand_tokens primary_tokens stmt_tokens target_tokens bind_property_tokens class_tokens cond_tokens decl_tokens func_tokens lhs_tokens params_tokens target_part_tokens (Target-F.Target::Array left ((record { item = o; comma = None }) ∷ []) None left))

abbrev primary_first : Primary-F Tokens Tokens Tokens Tokens Tokens Tokens Tokens Tokens Tokens Tokens Tokens Tokens Tokens Tokens Tokens Tokens Tokens Tokens Tokens Tokens Tokens Tokens Tokens Tokens → Option (Argument Tokens)
primary_first (Primary-F.Primary::Array left (element ∷ more) right) = element.item
primary_first other = None

-- what the fold makes of an element
abbrev primary_over : Token → Option (Argument Assign) → Option (Argument Tokens)
primary_over left o = primary_first (map-Primary Arrow Assign Base Bind Case Element For Head Init Item Member Method Operand Primary Stmt Target BindProperty Class Cond Decl Func LHS Params TargetPart Tokens Tokens Tokens Tokens Tokens Tokens Tokens Tokens Tokens Tokens Tokens Tokens Tokens Tokens Tokens Tokens Tokens Tokens Tokens Tokens Tokens Tokens Tokens Tokens arrow_tokens assign_tokens base_tokens bind_tokens case_tokens element_tokens for_tokens head_tokens init_tokens item_tokens member_tokens method_tokens operand_tokens primary_tokens stmt_tokens target_tokens bind_property_tokens class_tokens cond_tokens decl_tokens func_tokens lhs_tokens params_tokens target_part_tokens (Primary-F.Primary::Array left ((record { item = o; comma = None }) ∷ []) left))

item_at-Stmt : (stmt : Stmt) → item_mapped (Item-F.Stmt stmt) ≡ stmt_tokens stmt
item_at-Stmt stmt = refl

pub item-Stmt : (stmt : Stmt) → item_tokens (item_v.Stmt stmt) ≡ stmt_tokens stmt
item-Stmt stmt = item_opens (item_v.Stmt stmt) ∙ ap item_mapped (item_v.outs-Stmt stmt) ∙ item_at-Stmt stmt

item_at-Lex : (lex : LexOf Decl) → item_mapped (Item-F.Item::Lex lex) ≡ lex_tokens lex
item_at-Lex lex = ap (λ t0. (one lex.word ++ t0 ++ opt one lex.semi)) (separated_over decl_tokens lex.decls)

pub item-Lex : (lex : LexOf Decl) → item_tokens (item_v.Lex lex) ≡ lex_tokens lex
item-Lex lex = item_opens (item_v.Lex lex) ∙ ap item_mapped (item_v.outs-Lex lex) ∙ item_at-Lex lex

item_at-Func : (func : Func) → item_mapped (Item-F.Item::Func func) ≡ func_tokens func
item_at-Func func = refl

pub item-Func : (func : Func) → item_tokens (item_v.Func func) ≡ func_tokens func
item-Func func = item_opens (item_v.Func func) ∙ ap item_mapped (item_v.outs-Func func) ∙ item_at-Func func

item_at-Class : (class : Class) → item_mapped (Item-F.Item::Class class) ≡ class_tokens class
item_at-Class class = refl

pub item-Class : (class : Class) → item_tokens (item_v.Class class) ≡ class_tokens class
item-Class class = item_opens (item_v.Class class) ∙ ap item_mapped (item_v.outs-Class class) ∙ item_at-Class class

decl_parts : (bind : Bind) (initial : Option (Initializer Assign)) → decl_mapped (record { bind = bind; initial = initial }) ≡ bind_tokens bind ++ opt (initializer_tokens assign_tokens) initial
decl_parts bind None = refl
decl_parts bind (Some initial) = refl

pub decl_law : (x : Decl) → decl_tokens x ≡ bind_tokens (out-Decl x).bind ++ opt (initializer_tokens assign_tokens) (out-Decl x).initial
decl_law x = decl_opens x ∙ decl_parts (out-Decl x).bind (out-Decl x).initial

case_at-Case : (word : Token) (test : ExprOf Assign) (colon : Token) (items : List Item) → case_mapped (Case-F.Case word test colon items) ≡ one word ++ expr_tokens test ++ one colon ++ listed item_tokens items
case_at-Case word test colon items = ap₂ (λ t0 t1. one word ++ t0 ++ one colon ++ t1) (separated_over assign_tokens test.list) (listed_map inner item_tokens items)

pub case-Case : (word : Token) (test : ExprOf Assign) (colon : Token) (items : List Item) → case_tokens (case_v.Case word test colon items) ≡ one word ++ expr_tokens test ++ one colon ++ listed item_tokens items
case-Case word test colon items = case_opens (case_v.Case word test colon items) ∙ ap case_mapped (case_v.outs-Case word test colon items) ∙ case_at-Case word test colon items

case_at-Default : (word : Token) (colon : Token) (items : List Item) → case_mapped (Case-F.Default word colon items) ≡ one word ++ one colon ++ listed item_tokens items
case_at-Default word colon items = ap (λ t0. one word ++ one colon ++ t0) (listed_map inner item_tokens items)

pub case-Default : (word : Token) (colon : Token) (items : List Item) → case_tokens (case_v.Default word colon items) ≡ one word ++ one colon ++ listed item_tokens items
case-Default word colon items = case_opens (case_v.Default word colon items) ∙ ap case_mapped (case_v.outs-Default word colon items) ∙ case_at-Default word colon items

stmt_at-Block : (body : Body Item) → stmt_mapped (Stmt-F.Stmt::Block body) ≡ body_tokens item_tokens body
stmt_at-Block body = ap (λ t0. (one body.left ++ t0 ++ one body.right)) (listed_map inner item_tokens body.items)

pub stmt-Block : (body : Body Item) → stmt_tokens (stmt_v.Block body) ≡ body_tokens item_tokens body
stmt-Block body = stmt_opens (stmt_v.Block body) ∙ ap stmt_mapped (stmt_v.outs-Block body) ∙ stmt_at-Block body

stmt_at-Empty : (mark : Token) → stmt_mapped (Stmt-F.Stmt::Empty mark) ≡ one mark
stmt_at-Empty mark = refl

pub stmt-Empty : (mark : Token) → stmt_tokens (stmt_v.Empty mark) ≡ one mark
stmt-Empty mark = stmt_opens (stmt_v.Empty mark) ∙ ap stmt_mapped (stmt_v.outs-Empty mark) ∙ stmt_at-Empty mark

stmt_at-Var : (var : VarOf Decl) → stmt_mapped (Stmt-F.Stmt::Var var) ≡ var_tokens var
stmt_at-Var var = ap (λ t0. (one var.word ++ t0 ++ opt one var.semi)) (separated_over decl_tokens var.decls)

pub stmt-Var : (var : VarOf Decl) → stmt_tokens (stmt_v.Var var) ≡ var_tokens var
stmt-Var var = stmt_opens (stmt_v.Var var) ∙ ap stmt_mapped (stmt_v.outs-Var var) ∙ stmt_at-Var var

stmt_at-If : (word : Token) (left : Token) (test : ExprOf Assign) (right : Token) (stmt : Stmt) (other : Option (Else Stmt)) → stmt_mapped (Stmt-F.If word left test right stmt other) ≡ one word ++ one left ++ expr_tokens test ++ one right ++ stmt_tokens stmt ++ opt (else_tokens stmt_tokens) other
stmt_at-If word left test right stmt None = ap (λ t0. one word ++ one left ++ t0 ++ one right ++ stmt_tokens stmt ++ []) (separated_over assign_tokens test.list)
stmt_at-If word left test right stmt (Some other) = ap (λ t0. one word ++ one left ++ t0 ++ one right ++ stmt_tokens stmt ++ (one other.word ++ stmt_tokens other.stmt)) (separated_over assign_tokens test.list)

pub stmt-If : (word : Token) (left : Token) (test : ExprOf Assign) (right : Token) (stmt : Stmt) (other : Option (Else Stmt)) → stmt_tokens (stmt_v.If word left test right stmt other) ≡ one word ++ one left ++ expr_tokens test ++ one right ++ stmt_tokens stmt ++ opt (else_tokens stmt_tokens) other
stmt-If word left test right stmt other = stmt_opens (stmt_v.If word left test right stmt other) ∙ ap stmt_mapped (stmt_v.outs-If word left test right stmt other) ∙ stmt_at-If word left test right stmt other

stmt_at-For : (each : For) → stmt_mapped (Stmt-F.For each) ≡ for_tokens each
stmt_at-For each = refl

pub stmt-For : (each : For) → stmt_tokens (stmt_v.For each) ≡ for_tokens each
stmt-For each = stmt_opens (stmt_v.For each) ∙ ap stmt_mapped (stmt_v.outs-For each) ∙ stmt_at-For each

stmt_at-While : (word : Token) (left : Token) (test : ExprOf Assign) (right : Token) (stmt : Stmt) → stmt_mapped (Stmt-F.While word left test right stmt) ≡ one word ++ one left ++ expr_tokens test ++ one right ++ stmt_tokens stmt
stmt_at-While word left test right stmt = ap (λ t0. one word ++ one left ++ t0 ++ one right ++ stmt_tokens stmt) (separated_over assign_tokens test.list)

pub stmt-While : (word : Token) (left : Token) (test : ExprOf Assign) (right : Token) (stmt : Stmt) → stmt_tokens (stmt_v.While word left test right stmt) ≡ one word ++ one left ++ expr_tokens test ++ one right ++ stmt_tokens stmt
stmt-While word left test right stmt = stmt_opens (stmt_v.While word left test right stmt) ∙ ap stmt_mapped (stmt_v.outs-While word left test right stmt) ∙ stmt_at-While word left test right stmt

stmt_at-Do : (word : Token) (stmt : Stmt) (while_word : Token) (left : Token) (test : ExprOf Assign) (right : Token) (semi : Option Token) → stmt_mapped (Stmt-F.Do word stmt while_word left test right semi) ≡ one word ++ stmt_tokens stmt ++ one while_word ++ one left ++ expr_tokens test ++ one right ++ opt one semi
stmt_at-Do word stmt while_word left test right semi = ap (λ t0. one word ++ stmt_tokens stmt ++ one while_word ++ one left ++ t0 ++ one right ++ opt one semi) (separated_over assign_tokens test.list)

pub stmt-Do : (word : Token) (stmt : Stmt) (while_word : Token) (left : Token) (test : ExprOf Assign) (right : Token) (semi : Option Token) → stmt_tokens (stmt_v.Do word stmt while_word left test right semi) ≡ one word ++ stmt_tokens stmt ++ one while_word ++ one left ++ expr_tokens test ++ one right ++ opt one semi
stmt-Do word stmt while_word left test right semi = stmt_opens (stmt_v.Do word stmt while_word left test right semi) ∙ ap stmt_mapped (stmt_v.outs-Do word stmt while_word left test right semi) ∙ stmt_at-Do word stmt while_word left test right semi

stmt_at-Continue : (word : Token) (label : Option Token) (semi : Option Token) → stmt_mapped (Stmt-F.Continue word label semi) ≡ one word ++ opt one label ++ opt one semi
stmt_at-Continue word label semi = refl

pub stmt-Continue : (word : Token) (label : Option Token) (semi : Option Token) → stmt_tokens (stmt_v.Continue word label semi) ≡ one word ++ opt one label ++ opt one semi
stmt-Continue word label semi = stmt_opens (stmt_v.Continue word label semi) ∙ ap stmt_mapped (stmt_v.outs-Continue word label semi) ∙ stmt_at-Continue word label semi

stmt_at-Break : (word : Token) (label : Option Token) (semi : Option Token) → stmt_mapped (Stmt-F.Break word label semi) ≡ one word ++ opt one label ++ opt one semi
stmt_at-Break word label semi = refl

pub stmt-Break : (word : Token) (label : Option Token) (semi : Option Token) → stmt_tokens (stmt_v.Break word label semi) ≡ one word ++ opt one label ++ opt one semi
stmt-Break word label semi = stmt_opens (stmt_v.Break word label semi) ∙ ap stmt_mapped (stmt_v.outs-Break word label semi) ∙ stmt_at-Break word label semi

stmt_at-Return : (word : Token) (value : Option (ExprOf Assign)) (semi : Option Token) → stmt_mapped (Stmt-F.Return word value semi) ≡ one word ++ opt expr_tokens value ++ opt one semi
stmt_at-Return word None semi = refl
stmt_at-Return word (Some value) semi = ap (λ t0. one word ++ t0 ++ opt one semi) (separated_over assign_tokens value.list)

pub stmt-Return : (word : Token) (value : Option (ExprOf Assign)) (semi : Option Token) → stmt_tokens (stmt_v.Return word value semi) ≡ one word ++ opt expr_tokens value ++ opt one semi
stmt-Return word value semi = stmt_opens (stmt_v.Return word value semi) ∙ ap stmt_mapped (stmt_v.outs-Return word value semi) ∙ stmt_at-Return word value semi

stmt_at-With : (word : Token) (left : Token) (object : ExprOf Assign) (right : Token) (stmt : Stmt) → stmt_mapped (Stmt-F.With word left object right stmt) ≡ one word ++ one left ++ expr_tokens object ++ one right ++ stmt_tokens stmt
stmt_at-With word left object right stmt = ap (λ t0. one word ++ one left ++ t0 ++ one right ++ stmt_tokens stmt) (separated_over assign_tokens object.list)

pub stmt-With : (word : Token) (left : Token) (object : ExprOf Assign) (right : Token) (stmt : Stmt) → stmt_tokens (stmt_v.With word left object right stmt) ≡ one word ++ one left ++ expr_tokens object ++ one right ++ stmt_tokens stmt
stmt-With word left object right stmt = stmt_opens (stmt_v.With word left object right stmt) ∙ ap stmt_mapped (stmt_v.outs-With word left object right stmt) ∙ stmt_at-With word left object right stmt

stmt_at-Switch : (word : Token) (left : Token) (value : ExprOf Assign) (right : Token) (left_brace : Token) (cases : List Case) (right_brace : Token) → stmt_mapped (Stmt-F.Switch word left value right left_brace cases right_brace) ≡ one word ++ one left ++ expr_tokens value ++ one right ++ one left_brace ++ listed case_tokens cases ++ one right_brace
stmt_at-Switch word left value right left_brace cases right_brace = ap₂ (λ t0 t1. one word ++ one left ++ t0 ++ one right ++ one left_brace ++ t1 ++ one right_brace) (separated_over assign_tokens value.list) (listed_map inner case_tokens cases)

pub stmt-Switch : (word : Token) (left : Token) (value : ExprOf Assign) (right : Token) (left_brace : Token) (cases : List Case) (right_brace : Token) → stmt_tokens (stmt_v.Switch word left value right left_brace cases right_brace) ≡ one word ++ one left ++ expr_tokens value ++ one right ++ one left_brace ++ listed case_tokens cases ++ one right_brace
stmt-Switch word left value right left_brace cases right_brace = stmt_opens (stmt_v.Switch word left value right left_brace cases right_brace) ∙ ap stmt_mapped (stmt_v.outs-Switch word left value right left_brace cases right_brace) ∙ stmt_at-Switch word left value right left_brace cases right_brace

stmt_at-Labelled : (label : Token) (colon : Token) (stmt : Stmt) → stmt_mapped (Stmt-F.Labelled label colon stmt) ≡ one label ++ one colon ++ stmt_tokens stmt
stmt_at-Labelled label colon stmt = refl

pub stmt-Labelled : (label : Token) (colon : Token) (stmt : Stmt) → stmt_tokens (stmt_v.Labelled label colon stmt) ≡ one label ++ one colon ++ stmt_tokens stmt
stmt-Labelled label colon stmt = stmt_opens (stmt_v.Labelled label colon stmt) ∙ ap stmt_mapped (stmt_v.outs-Labelled label colon stmt) ∙ stmt_at-Labelled label colon stmt

stmt_at-Throw : (word : Token) (value : ExprOf Assign) (semi : Option Token) → stmt_mapped (Stmt-F.Throw word value semi) ≡ one word ++ expr_tokens value ++ opt one semi
stmt_at-Throw word value semi = ap (λ t0. one word ++ t0 ++ opt one semi) (separated_over assign_tokens value.list)

pub stmt-Throw : (word : Token) (value : ExprOf Assign) (semi : Option Token) → stmt_tokens (stmt_v.Throw word value semi) ≡ one word ++ expr_tokens value ++ opt one semi
stmt-Throw word value semi = stmt_opens (stmt_v.Throw word value semi) ∙ ap stmt_mapped (stmt_v.outs-Throw word value semi) ∙ stmt_at-Throw word value semi

stmt_at-TryCatch : (word : Token) (body : Body Item) (catch : Token) (parameter : Option (CatchParameter Bind)) (handler : Body Item) (finally : Option (Finally Item)) → stmt_mapped (Stmt-F.TryCatch word body catch parameter handler finally) ≡ one word ++ body_tokens item_tokens body ++ one catch ++ opt (catch_parameter_tokens bind_tokens) parameter ++ body_tokens item_tokens handler ++ opt (finally_tokens item_tokens) finally
stmt_at-TryCatch word body catch None handler None = ap₂ (λ t0 t1. one word ++ (one body.left ++ t0 ++ one body.right) ++ one catch ++ [] ++ (one handler.left ++ t1 ++ one handler.right) ++ []) (listed_map inner item_tokens body.items) (listed_map inner item_tokens handler.items)
stmt_at-TryCatch word body catch None handler (Some finally) = ap₃ (λ t0 t1 t2. one word ++ (one body.left ++ t0 ++ one body.right) ++ one catch ++ [] ++ (one handler.left ++ t1 ++ one handler.right) ++ (one finally.word ++ one finally.block.left ++ t2 ++ one finally.block.right)) (listed_map inner item_tokens body.items) (listed_map inner item_tokens handler.items) (listed_map inner item_tokens finally.block.items)
stmt_at-TryCatch word body catch (Some parameter) handler None = ap₂ (λ t0 t1. one word ++ (one body.left ++ t0 ++ one body.right) ++ one catch ++ (one parameter.left ++ bind_tokens parameter.bind ++ one parameter.right) ++ (one handler.left ++ t1 ++ one handler.right) ++ []) (listed_map inner item_tokens body.items) (listed_map inner item_tokens handler.items)
stmt_at-TryCatch word body catch (Some parameter) handler (Some finally) = ap₃ (λ t0 t1 t2. one word ++ (one body.left ++ t0 ++ one body.right) ++ one catch ++ (one parameter.left ++ bind_tokens parameter.bind ++ one parameter.right) ++ (one handler.left ++ t1 ++ one handler.right) ++ (one finally.word ++ one finally.block.left ++ t2 ++ one finally.block.right)) (listed_map inner item_tokens body.items) (listed_map inner item_tokens handler.items) (listed_map inner item_tokens finally.block.items)

pub stmt-TryCatch : (word : Token) (body : Body Item) (catch : Token) (parameter : Option (CatchParameter Bind)) (handler : Body Item) (finally : Option (Finally Item)) → stmt_tokens (stmt_v.TryCatch word body catch parameter handler finally) ≡ one word ++ body_tokens item_tokens body ++ one catch ++ opt (catch_parameter_tokens bind_tokens) parameter ++ body_tokens item_tokens handler ++ opt (finally_tokens item_tokens) finally
stmt-TryCatch word body catch parameter handler finally = stmt_opens (stmt_v.TryCatch word body catch parameter handler finally) ∙ ap stmt_mapped (stmt_v.outs-TryCatch word body catch parameter handler finally) ∙ stmt_at-TryCatch word body catch parameter handler finally

stmt_at-TryFinally : (word : Token) (body : Body Item) (finally : Finally Item) → stmt_mapped (Stmt-F.TryFinally word body finally) ≡ one word ++ body_tokens item_tokens body ++ finally_tokens item_tokens finally
stmt_at-TryFinally word body finally = ap₂ (λ t0 t1. one word ++ (one body.left ++ t0 ++ one body.right) ++ (one finally.word ++ one finally.block.left ++ t1 ++ one finally.block.right)) (listed_map inner item_tokens body.items) (listed_map inner item_tokens finally.block.items)

pub stmt-TryFinally : (word : Token) (body : Body Item) (finally : Finally Item) → stmt_tokens (stmt_v.TryFinally word body finally) ≡ one word ++ body_tokens item_tokens body ++ finally_tokens item_tokens finally
stmt-TryFinally word body finally = stmt_opens (stmt_v.TryFinally word body finally) ∙ ap stmt_mapped (stmt_v.outs-TryFinally word body finally) ∙ stmt_at-TryFinally word body finally

stmt_at-Debugger : (word : Token) (semi : Option Token) → stmt_mapped (Stmt-F.Debugger word semi) ≡ one word ++ opt one semi
stmt_at-Debugger word semi = refl

pub stmt-Debugger : (word : Token) (semi : Option Token) → stmt_tokens (stmt_v.Debugger word semi) ≡ one word ++ opt one semi
stmt-Debugger word semi = stmt_opens (stmt_v.Debugger word semi) ∙ ap stmt_mapped (stmt_v.outs-Debugger word semi) ∙ stmt_at-Debugger word semi

stmt_at-Expr : (expr : ExprOf Assign) (semi : Option Token) → stmt_mapped (Stmt-F.Stmt::Expr expr semi) ≡ expr_tokens expr ++ opt one semi
stmt_at-Expr expr semi = ap (λ t0. t0 ++ opt one semi) (separated_over assign_tokens expr.list)

pub stmt-Expr : (expr : ExprOf Assign) (semi : Option Token) → stmt_tokens (stmt_v.Expr expr semi) ≡ expr_tokens expr ++ opt one semi
stmt-Expr expr semi = stmt_opens (stmt_v.Expr expr semi) ∙ ap stmt_mapped (stmt_v.outs-Expr expr semi) ∙ stmt_at-Expr expr semi

init_at-Var : (word : Token) (decls : List (Separated Decl)) → init_mapped (Init-F.Init::Var word decls) ≡ one word ++ listed (separated_tokens decl_tokens) decls
init_at-Var word decls = ap (λ t0. one word ++ t0) (separated_over decl_tokens decls)

pub init-Var : (word : Token) (decls : List (Separated Decl)) → init_tokens (init_v.Var word decls) ≡ one word ++ listed (separated_tokens decl_tokens) decls
init-Var word decls = init_opens (init_v.Var word decls) ∙ ap init_mapped (init_v.outs-Var word decls) ∙ init_at-Var word decls

init_at-Lex : (lex : LexOf Decl) → init_mapped (Init-F.Init::Lex lex) ≡ lex_tokens lex
init_at-Lex lex = ap (λ t0. (one lex.word ++ t0 ++ opt one lex.semi)) (separated_over decl_tokens lex.decls)

pub init-Lex : (lex : LexOf Decl) → init_tokens (init_v.Lex lex) ≡ lex_tokens lex
init-Lex lex = init_opens (init_v.Lex lex) ∙ ap init_mapped (init_v.outs-Lex lex) ∙ init_at-Lex lex

init_at-Expr : (expr : ExprOf Assign) → init_mapped (Init-F.Init::Expr expr) ≡ expr_tokens expr
init_at-Expr expr = ap (λ t0. t0) (separated_over assign_tokens expr.list)

pub init-Expr : (expr : ExprOf Assign) → init_tokens (init_v.Expr expr) ≡ expr_tokens expr
init-Expr expr = init_opens (init_v.Expr expr) ∙ ap init_mapped (init_v.outs-Expr expr) ∙ init_at-Expr expr

for_at-Loop : (word : Token) (left : Token) (init : Option Init) (first : Token) (test : Option (ExprOf Assign)) (second : Token) (update : Option (ExprOf Assign)) (right : Token) (stmt : Stmt) → for_mapped (For-F.Loop word left init first test second update right stmt) ≡ one word ++ one left ++ opt init_tokens init ++ one first ++ opt expr_tokens test ++ one second ++ opt expr_tokens update ++ one right ++ stmt_tokens stmt
for_at-Loop word left None first None second None right stmt = refl
for_at-Loop word left None first None second (Some update) right stmt = ap (λ t0. one word ++ one left ++ [] ++ one first ++ [] ++ one second ++ t0 ++ one right ++ stmt_tokens stmt) (separated_over assign_tokens update.list)
for_at-Loop word left None first (Some test) second None right stmt = ap (λ t0. one word ++ one left ++ [] ++ one first ++ t0 ++ one second ++ [] ++ one right ++ stmt_tokens stmt) (separated_over assign_tokens test.list)
for_at-Loop word left None first (Some test) second (Some update) right stmt = ap₂ (λ t0 t1. one word ++ one left ++ [] ++ one first ++ t0 ++ one second ++ t1 ++ one right ++ stmt_tokens stmt) (separated_over assign_tokens test.list) (separated_over assign_tokens update.list)
for_at-Loop word left (Some init) first None second None right stmt = refl
for_at-Loop word left (Some init) first None second (Some update) right stmt = ap (λ t0. one word ++ one left ++ init_tokens init ++ one first ++ [] ++ one second ++ t0 ++ one right ++ stmt_tokens stmt) (separated_over assign_tokens update.list)
for_at-Loop word left (Some init) first (Some test) second None right stmt = ap (λ t0. one word ++ one left ++ init_tokens init ++ one first ++ t0 ++ one second ++ [] ++ one right ++ stmt_tokens stmt) (separated_over assign_tokens test.list)
for_at-Loop word left (Some init) first (Some test) second (Some update) right stmt = ap₂ (λ t0 t1. one word ++ one left ++ init_tokens init ++ one first ++ t0 ++ one second ++ t1 ++ one right ++ stmt_tokens stmt) (separated_over assign_tokens test.list) (separated_over assign_tokens update.list)

pub for-Loop : (word : Token) (left : Token) (init : Option Init) (first : Token) (test : Option (ExprOf Assign)) (second : Token) (update : Option (ExprOf Assign)) (right : Token) (stmt : Stmt) → for_tokens (for_v.Loop word left init first test second update right stmt) ≡ one word ++ one left ++ opt init_tokens init ++ one first ++ opt expr_tokens test ++ one second ++ opt expr_tokens update ++ one right ++ stmt_tokens stmt
for-Loop word left init first test second update right stmt = for_opens (for_v.Loop word left init first test second update right stmt) ∙ ap for_mapped (for_v.outs-Loop word left init first test second update right stmt) ∙ for_at-Loop word left init first test second update right stmt

for_at-In : (word : Token) (left : Token) (head : Head) (in_word : Token) (object : ExprOf Assign) (right : Token) (stmt : Stmt) → for_mapped (For-F.In word left head in_word object right stmt) ≡ one word ++ one left ++ head_tokens head ++ one in_word ++ expr_tokens object ++ one right ++ stmt_tokens stmt
for_at-In word left head in_word object right stmt = ap (λ t0. one word ++ one left ++ head_tokens head ++ one in_word ++ t0 ++ one right ++ stmt_tokens stmt) (separated_over assign_tokens object.list)

pub for-In : (word : Token) (left : Token) (head : Head) (in_word : Token) (object : ExprOf Assign) (right : Token) (stmt : Stmt) → for_tokens (for_v.In word left head in_word object right stmt) ≡ one word ++ one left ++ head_tokens head ++ one in_word ++ expr_tokens object ++ one right ++ stmt_tokens stmt
for-In word left head in_word object right stmt = for_opens (for_v.In word left head in_word object right stmt) ∙ ap for_mapped (for_v.outs-In word left head in_word object right stmt) ∙ for_at-In word left head in_word object right stmt

for_at-Of : (word : Token) (await_word : Option Token) (left : Token) (head : Head) (of_word : Token) (values : Assign) (right : Token) (stmt : Stmt) → for_mapped (For-F.Of word await_word left head of_word values right stmt) ≡ one word ++ opt one await_word ++ one left ++ head_tokens head ++ one of_word ++ assign_tokens values ++ one right ++ stmt_tokens stmt
for_at-Of word await_word left head of_word values right stmt = refl

pub for-Of : (word : Token) (await_word : Option Token) (left : Token) (head : Head) (of_word : Token) (values : Assign) (right : Token) (stmt : Stmt) → for_tokens (for_v.Of word await_word left head of_word values right stmt) ≡ one word ++ opt one await_word ++ one left ++ head_tokens head ++ one of_word ++ assign_tokens values ++ one right ++ stmt_tokens stmt
for-Of word await_word left head of_word values right stmt = for_opens (for_v.Of word await_word left head of_word values right stmt) ∙ ap for_mapped (for_v.outs-Of word await_word left head of_word values right stmt) ∙ for_at-Of word await_word left head of_word values right stmt

head_at-Bind : (word : Token) (bind : Bind) → head_mapped (Head-F.Bind word bind) ≡ one word ++ bind_tokens bind
head_at-Bind word bind = refl

pub head-Bind : (word : Token) (bind : Bind) → head_tokens (head_v.Bind word bind) ≡ one word ++ bind_tokens bind
head-Bind word bind = head_opens (head_v.Bind word bind) ∙ ap head_mapped (head_v.outs-Bind word bind) ∙ head_at-Bind word bind

head_at-Target : (target : Target) → head_mapped (Head-F.Target target) ≡ target_tokens target
head_at-Target target = refl

pub head-Target : (target : Target) → head_tokens (head_v.Target target) ≡ target_tokens target
head-Target target = head_opens (head_v.Target target) ∙ ap head_mapped (head_v.outs-Target target) ∙ head_at-Target target

func_parts : (is_async : Option Token) (word : Token) (star : Option Token) (name : Option Token) (left : Token) (params : Params) (right : Token) (body : Body Item) → func_mapped (record { is_async = is_async; word = word; star = star; name = name; left = left; params = params; right = right; body = body }) ≡ opt one is_async ++ one word ++ opt one star ++ opt one name ++ one left ++ params_tokens params ++ one right ++ body_tokens item_tokens body
func_parts is_async word star name left params right body = ap (λ t0. opt one is_async ++ one word ++ opt one star ++ opt one name ++ one left ++ params_tokens params ++ one right ++ (one body.left ++ t0 ++ one body.right)) (listed_map inner item_tokens body.items)

pub func_law : (x : Func) → func_tokens x ≡ opt one (out-Func x).is_async ++ one (out-Func x).word ++ opt one (out-Func x).star ++ opt one (out-Func x).name ++ one (out-Func x).left ++ params_tokens (out-Func x).params ++ one (out-Func x).right ++ body_tokens item_tokens (out-Func x).body
func_law x = func_opens x ∙ func_parts (out-Func x).is_async (out-Func x).word (out-Func x).star (out-Func x).name (out-Func x).left (out-Func x).params (out-Func x).right (out-Func x).body

params_parts : (list : List (Separated Decl)) (rest : Option (Rest Bind)) → params_mapped (record { list = list; rest = rest }) ≡ listed (separated_tokens decl_tokens) list ++ opt (rest_tokens bind_tokens) rest
params_parts list None = ap (λ t0. t0 ++ []) (separated_over decl_tokens list)
params_parts list (Some rest) = ap (λ t0. t0 ++ (one rest.dots ++ bind_tokens rest.item)) (separated_over decl_tokens list)

pub params_law : (x : Params) → params_tokens x ≡ listed (separated_tokens decl_tokens) (out-Params x).list ++ opt (rest_tokens bind_tokens) (out-Params x).rest
params_law x = params_opens x ∙ params_parts (out-Params x).list (out-Params x).rest

class_parts : (word : Token) (name : Option Token) (extends : Option (Extends LHS)) (left : Token) (elements : List Element) (right : Token) → class_mapped (record { word = word; name = name; extends = extends; left = left; elements = elements; right = right }) ≡ one word ++ opt one name ++ opt (extends_tokens lhs_tokens) extends ++ one left ++ listed element_tokens elements ++ one right
class_parts word name None left elements right = ap (λ t0. one word ++ opt one name ++ [] ++ one left ++ t0 ++ one right) (listed_map inner element_tokens elements)
class_parts word name (Some extends) left elements right = ap (λ t0. one word ++ opt one name ++ (one extends.word ++ lhs_tokens extends.lhs) ++ one left ++ t0 ++ one right) (listed_map inner element_tokens elements)

pub class_law : (x : Class) → class_tokens x ≡ one (out-Class x).word ++ opt one (out-Class x).name ++ opt (extends_tokens lhs_tokens) (out-Class x).extends ++ one (out-Class x).left ++ listed element_tokens (out-Class x).elements ++ one (out-Class x).right
class_law x = class_opens x ∙ class_parts (out-Class x).word (out-Class x).name (out-Class x).extends (out-Class x).left (out-Class x).elements (out-Class x).right

element_at-Empty : (mark : Token) → element_mapped (Element-F.Element::Empty mark) ≡ one mark
element_at-Empty mark = refl

pub element-Empty : (mark : Token) → element_tokens (element_v.Empty mark) ≡ one mark
element-Empty mark = element_opens (element_v.Empty mark) ∙ ap element_mapped (element_v.outs-Empty mark) ∙ element_at-Empty mark

element_at-Method : (is_static : Option Token) (method : Method) → element_mapped (Element-F.Element::Method is_static method) ≡ opt one is_static ++ method_tokens method
element_at-Method is_static method = refl

pub element-Method : (is_static : Option Token) (method : Method) → element_tokens (element_v.Method is_static method) ≡ opt one is_static ++ method_tokens method
element-Method is_static method = element_opens (element_v.Method is_static method) ∙ ap element_mapped (element_v.outs-Method is_static method) ∙ element_at-Method is_static method

element_at-Field : (is_static : Option Token) (key : KeyOf Assign) (initial : Option (Initializer Assign)) (semi : Option Token) → element_mapped (Element-F.Field is_static key initial semi) ≡ opt one is_static ++ key_tokens key ++ opt (initializer_tokens assign_tokens) initial ++ opt one semi
element_at-Field is_static (key_of_v.IdName n) None semi = refl
element_at-Field is_static (key_of_v.IdName n) (Some initial) semi = refl
element_at-Field is_static (key_of_v.String n) None semi = refl
element_at-Field is_static (key_of_v.String n) (Some initial) semi = refl
element_at-Field is_static (key_of_v.Number n) None semi = refl
element_at-Field is_static (key_of_v.Number n) (Some initial) semi = refl
element_at-Field is_static (key_of_v.Private n) None semi = refl
element_at-Field is_static (key_of_v.Private n) (Some initial) semi = refl
element_at-Field is_static (key_of_v.Computed l e r) None semi = refl
element_at-Field is_static (key_of_v.Computed l e r) (Some initial) semi = refl

pub element-Field : (is_static : Option Token) (key : KeyOf Assign) (initial : Option (Initializer Assign)) (semi : Option Token) → element_tokens (element_v.Field is_static key initial semi) ≡ opt one is_static ++ key_tokens key ++ opt (initializer_tokens assign_tokens) initial ++ opt one semi
element-Field is_static key initial semi = element_opens (element_v.Field is_static key initial semi) ∙ ap element_mapped (element_v.outs-Field is_static key initial semi) ∙ element_at-Field is_static key initial semi

element_at-Static : (word : Token) (body : Body Item) → element_mapped (Element-F.Static word body) ≡ one word ++ body_tokens item_tokens body
element_at-Static word body = ap (λ t0. one word ++ (one body.left ++ t0 ++ one body.right)) (listed_map inner item_tokens body.items)

pub element-Static : (word : Token) (body : Body Item) → element_tokens (element_v.Static word body) ≡ one word ++ body_tokens item_tokens body
element-Static word body = element_opens (element_v.Static word body) ∙ ap element_mapped (element_v.outs-Static word body) ∙ element_at-Static word body

method_at-Method : (is_async : Option Token) (star : Option Token) (key : KeyOf Assign) (left : Token) (params : Params) (right : Token) (body : Body Item) → method_mapped (Method-F.Method::Method is_async star key left params right body) ≡ opt one is_async ++ opt one star ++ key_tokens key ++ one left ++ params_tokens params ++ one right ++ body_tokens item_tokens body
method_at-Method is_async star (key_of_v.IdName n) left params right body = ap (λ t0. opt one is_async ++ opt one star ++ one n ++ one left ++ params_tokens params ++ one right ++ (one body.left ++ t0 ++ one body.right)) (listed_map inner item_tokens body.items)
method_at-Method is_async star (key_of_v.String n) left params right body = ap (λ t0. opt one is_async ++ opt one star ++ one n ++ one left ++ params_tokens params ++ one right ++ (one body.left ++ t0 ++ one body.right)) (listed_map inner item_tokens body.items)
method_at-Method is_async star (key_of_v.Number n) left params right body = ap (λ t0. opt one is_async ++ opt one star ++ one n ++ one left ++ params_tokens params ++ one right ++ (one body.left ++ t0 ++ one body.right)) (listed_map inner item_tokens body.items)
method_at-Method is_async star (key_of_v.Private n) left params right body = ap (λ t0. opt one is_async ++ opt one star ++ one n ++ one left ++ params_tokens params ++ one right ++ (one body.left ++ t0 ++ one body.right)) (listed_map inner item_tokens body.items)
method_at-Method is_async star (key_of_v.Computed l e r) left params right body = ap (λ t0. opt one is_async ++ opt one star ++ (one l ++ assign_tokens e ++ one r) ++ one left ++ params_tokens params ++ one right ++ (one body.left ++ t0 ++ one body.right)) (listed_map inner item_tokens body.items)

pub method-Method : (is_async : Option Token) (star : Option Token) (key : KeyOf Assign) (left : Token) (params : Params) (right : Token) (body : Body Item) → method_tokens (method_v.Method is_async star key left params right body) ≡ opt one is_async ++ opt one star ++ key_tokens key ++ one left ++ params_tokens params ++ one right ++ body_tokens item_tokens body
method-Method is_async star key left params right body = method_opens (method_v.Method is_async star key left params right body) ∙ ap method_mapped (method_v.outs-Method is_async star key left params right body) ∙ method_at-Method is_async star key left params right body

method_at-Get : (word : Token) (key : KeyOf Assign) (left : Token) (right : Token) (body : Body Item) → method_mapped (Method-F.Get word key left right body) ≡ one word ++ key_tokens key ++ one left ++ one right ++ body_tokens item_tokens body
method_at-Get word (key_of_v.IdName n) left right body = ap (λ t0. one word ++ one n ++ one left ++ one right ++ (one body.left ++ t0 ++ one body.right)) (listed_map inner item_tokens body.items)
method_at-Get word (key_of_v.String n) left right body = ap (λ t0. one word ++ one n ++ one left ++ one right ++ (one body.left ++ t0 ++ one body.right)) (listed_map inner item_tokens body.items)
method_at-Get word (key_of_v.Number n) left right body = ap (λ t0. one word ++ one n ++ one left ++ one right ++ (one body.left ++ t0 ++ one body.right)) (listed_map inner item_tokens body.items)
method_at-Get word (key_of_v.Private n) left right body = ap (λ t0. one word ++ one n ++ one left ++ one right ++ (one body.left ++ t0 ++ one body.right)) (listed_map inner item_tokens body.items)
method_at-Get word (key_of_v.Computed l e r) left right body = ap (λ t0. one word ++ (one l ++ assign_tokens e ++ one r) ++ one left ++ one right ++ (one body.left ++ t0 ++ one body.right)) (listed_map inner item_tokens body.items)

pub method-Get : (word : Token) (key : KeyOf Assign) (left : Token) (right : Token) (body : Body Item) → method_tokens (method_v.Get word key left right body) ≡ one word ++ key_tokens key ++ one left ++ one right ++ body_tokens item_tokens body
method-Get word key left right body = method_opens (method_v.Get word key left right body) ∙ ap method_mapped (method_v.outs-Get word key left right body) ∙ method_at-Get word key left right body

method_at-Set : (word : Token) (key : KeyOf Assign) (left : Token) (parameter : Decl) (right : Token) (body : Body Item) → method_mapped (Method-F.Method::Set word key left parameter right body) ≡ one word ++ key_tokens key ++ one left ++ decl_tokens parameter ++ one right ++ body_tokens item_tokens body
method_at-Set word (key_of_v.IdName n) left parameter right body = ap (λ t0. one word ++ one n ++ one left ++ decl_tokens parameter ++ one right ++ (one body.left ++ t0 ++ one body.right)) (listed_map inner item_tokens body.items)
method_at-Set word (key_of_v.String n) left parameter right body = ap (λ t0. one word ++ one n ++ one left ++ decl_tokens parameter ++ one right ++ (one body.left ++ t0 ++ one body.right)) (listed_map inner item_tokens body.items)
method_at-Set word (key_of_v.Number n) left parameter right body = ap (λ t0. one word ++ one n ++ one left ++ decl_tokens parameter ++ one right ++ (one body.left ++ t0 ++ one body.right)) (listed_map inner item_tokens body.items)
method_at-Set word (key_of_v.Private n) left parameter right body = ap (λ t0. one word ++ one n ++ one left ++ decl_tokens parameter ++ one right ++ (one body.left ++ t0 ++ one body.right)) (listed_map inner item_tokens body.items)
method_at-Set word (key_of_v.Computed l e r) left parameter right body = ap (λ t0. one word ++ (one l ++ assign_tokens e ++ one r) ++ one left ++ decl_tokens parameter ++ one right ++ (one body.left ++ t0 ++ one body.right)) (listed_map inner item_tokens body.items)

pub method-Set : (word : Token) (key : KeyOf Assign) (left : Token) (parameter : Decl) (right : Token) (body : Body Item) → method_tokens (method_v.Set word key left parameter right body) ≡ one word ++ key_tokens key ++ one left ++ decl_tokens parameter ++ one right ++ body_tokens item_tokens body
method-Set word key left parameter right body = method_opens (method_v.Set word key left parameter right body) ∙ ap method_mapped (method_v.outs-Set word key left parameter right body) ∙ method_at-Set word key left parameter right body

bind_property_parts_keyed : (k : KeyOf Assign) (colon : Token) (decl : Decl) → bind_property_mapped (record { key = Some (record { key = k; colon = colon }); decl = decl }) ≡ (key_tokens k ++ one colon) ++ decl_tokens decl
bind_property_parts_keyed (key_of_v.IdName n) colon decl = refl
bind_property_parts_keyed (key_of_v.String n) colon decl = refl
bind_property_parts_keyed (key_of_v.Number n) colon decl = refl
bind_property_parts_keyed (key_of_v.Private n) colon decl = refl
bind_property_parts_keyed (key_of_v.Computed left e right) colon decl = refl

bind_property_parts : (key : Option (PropertyKey Assign)) (decl : Decl) → bind_property_mapped (record { key = key; decl = decl }) ≡ opt (property_key_tokens assign_tokens) key ++ decl_tokens decl
bind_property_parts None decl = refl
bind_property_parts (Some key) decl = bind_property_parts_keyed key.key key.colon decl

pub bind_property_law : (x : BindProperty) → bind_property_tokens x ≡ opt (property_key_tokens assign_tokens) (out-BindProperty x).key ++ decl_tokens (out-BindProperty x).decl
bind_property_law x = bind_property_opens x ∙ bind_property_parts (out-BindProperty x).key (out-BindProperty x).decl

bind_at-Name : (name : Token) → bind_mapped (Bind-F.Bind::Name name) ≡ one name
bind_at-Name name = refl

pub bind-Name : (name : Token) → bind_tokens (bind_v.Name name) ≡ one name
bind-Name name = bind_opens (bind_v.Name name) ∙ ap bind_mapped (bind_v.outs-Name name) ∙ bind_at-Name name

bind_at-Array : (left : Token) (elements : List (Separated (Option Decl))) (rest : Option (Rest Bind)) (right : Token) → bind_mapped (Bind-F.Bind::Array left elements rest right) ≡ one left ++ listed (separated_tokens (opt decl_tokens)) elements ++ opt (rest_tokens bind_tokens) rest ++ one right
bind_at-Array left elements None right = ap (λ t0. one left ++ t0 ++ [] ++ one right) (optional_over (bind_over left) inner decl_tokens refl (λ x. refl) elements)
bind_at-Array left elements (Some rest) right = ap (λ t0. one left ++ t0 ++ (one rest.dots ++ bind_tokens rest.item) ++ one right) (optional_over (bind_over left) inner decl_tokens refl (λ x. refl) elements)

pub bind-Array : (left : Token) (elements : List (Separated (Option Decl))) (rest : Option (Rest Bind)) (right : Token) → bind_tokens (bind_v.Array left elements rest right) ≡ one left ++ listed (separated_tokens (opt decl_tokens)) elements ++ opt (rest_tokens bind_tokens) rest ++ one right
bind-Array left elements rest right = bind_opens (bind_v.Array left elements rest right) ∙ ap bind_mapped (bind_v.outs-Array left elements rest right) ∙ bind_at-Array left elements rest right

bind_at-Object : (left : Token) (properties : List (Separated BindProperty)) (rest : Option (Rest Bind)) (right : Token) → bind_mapped (Bind-F.Bind::Object left properties rest right) ≡ one left ++ listed (separated_tokens bind_property_tokens) properties ++ opt (rest_tokens bind_tokens) rest ++ one right
bind_at-Object left properties None right = ap (λ t0. one left ++ t0 ++ [] ++ one right) (separated_over bind_property_tokens properties)
bind_at-Object left properties (Some rest) right = ap (λ t0. one left ++ t0 ++ (one rest.dots ++ bind_tokens rest.item) ++ one right) (separated_over bind_property_tokens properties)

pub bind-Object : (left : Token) (properties : List (Separated BindProperty)) (rest : Option (Rest Bind)) (right : Token) → bind_tokens (bind_v.Object left properties rest right) ≡ one left ++ listed (separated_tokens bind_property_tokens) properties ++ opt (rest_tokens bind_tokens) rest ++ one right
bind-Object left properties rest right = bind_opens (bind_v.Object left properties rest right) ∙ ap bind_mapped (bind_v.outs-Object left properties rest right) ∙ bind_at-Object left properties rest right

target_at-Name : (name : Token) → target_mapped (Target-F.Target::Name name) ≡ one name
target_at-Name name = refl

pub target-Name : (name : Token) → target_tokens (target_v.Name name) ≡ one name
target-Name name = target_opens (target_v.Name name) ∙ ap target_mapped (target_v.outs-Name name) ∙ target_at-Name name

target_at-Member : (member : LHS) → target_mapped (Target-F.Member member) ≡ lhs_tokens member
target_at-Member member = refl

pub target-Member : (member : LHS) → target_tokens (target_v.Member member) ≡ lhs_tokens member
target-Member member = target_opens (target_v.Member member) ∙ ap target_mapped (target_v.outs-Member member) ∙ target_at-Member member

target_at-ParenName : (name : Parenthesised Token) → target_mapped (Target-F.ParenName name) ≡ parenthesised_tokens one name
target_at-ParenName name = refl

pub target-ParenName : (name : Parenthesised Token) → target_tokens (target_v.ParenName name) ≡ parenthesised_tokens one name
target-ParenName name = target_opens (target_v.ParenName name) ∙ ap target_mapped (target_v.outs-ParenName name) ∙ target_at-ParenName name

target_at-ParenMember : (member : Parenthesised LHS) → target_mapped (Target-F.ParenMember member) ≡ parenthesised_tokens lhs_tokens member
target_at-ParenMember member = refl

pub target-ParenMember : (member : Parenthesised LHS) → target_tokens (target_v.ParenMember member) ≡ parenthesised_tokens lhs_tokens member
target-ParenMember member = target_opens (target_v.ParenMember member) ∙ ap target_mapped (target_v.outs-ParenMember member) ∙ target_at-ParenMember member

target_at-Array : (left : Token) (elements : List (Separated (Option TargetPart))) (rest : Option (Rest Target)) (right : Token) → target_mapped (Target-F.Target::Array left elements rest right) ≡ one left ++ listed (separated_tokens (opt target_part_tokens)) elements ++ opt (rest_tokens target_tokens) rest ++ one right
target_at-Array left elements None right = ap (λ t0. one left ++ t0 ++ [] ++ one right) (optional_over (target_over left) inner target_part_tokens refl (λ x. refl) elements)
target_at-Array left elements (Some rest) right = ap (λ t0. one left ++ t0 ++ (one rest.dots ++ target_tokens rest.item) ++ one right) (optional_over (target_over left) inner target_part_tokens refl (λ x. refl) elements)

pub target-Array : (left : Token) (elements : List (Separated (Option TargetPart))) (rest : Option (Rest Target)) (right : Token) → target_tokens (target_v.Array left elements rest right) ≡ one left ++ listed (separated_tokens (opt target_part_tokens)) elements ++ opt (rest_tokens target_tokens) rest ++ one right
target-Array left elements rest right = target_opens (target_v.Array left elements rest right) ∙ ap target_mapped (target_v.outs-Array left elements rest right) ∙ target_at-Array left elements rest right

target_at-Object : (left : Token) (properties : List (Separated TargetPart)) (rest : Option (Rest Target)) (right : Token) → target_mapped (Target-F.Target::Object left properties rest right) ≡ one left ++ listed (separated_tokens target_part_tokens) properties ++ opt (rest_tokens target_tokens) rest ++ one right
target_at-Object left properties None right = ap (λ t0. one left ++ t0 ++ [] ++ one right) (separated_over target_part_tokens properties)
target_at-Object left properties (Some rest) right = ap (λ t0. one left ++ t0 ++ (one rest.dots ++ target_tokens rest.item) ++ one right) (separated_over target_part_tokens properties)

pub target-Object : (left : Token) (properties : List (Separated TargetPart)) (rest : Option (Rest Target)) (right : Token) → target_tokens (target_v.Object left properties rest right) ≡ one left ++ listed (separated_tokens target_part_tokens) properties ++ opt (rest_tokens target_tokens) rest ++ one right
target-Object left properties rest right = target_opens (target_v.Object left properties rest right) ∙ ap target_mapped (target_v.outs-Object left properties rest right) ∙ target_at-Object left properties rest right

target_part_parts_keyed : (k : KeyOf Assign) (colon : Token) (target : Target) (initial : Option (Initializer Assign)) → target_part_mapped (record { key = Some (record { key = k; colon = colon }); target = target; initial = initial }) ≡ (key_tokens k ++ one colon) ++ target_tokens target ++ opt (initializer_tokens assign_tokens) initial
target_part_parts_keyed (key_of_v.IdName n) colon target None = refl
target_part_parts_keyed (key_of_v.IdName n) colon target (Some initial) = refl
target_part_parts_keyed (key_of_v.String n) colon target None = refl
target_part_parts_keyed (key_of_v.String n) colon target (Some initial) = refl
target_part_parts_keyed (key_of_v.Number n) colon target None = refl
target_part_parts_keyed (key_of_v.Number n) colon target (Some initial) = refl
target_part_parts_keyed (key_of_v.Private n) colon target None = refl
target_part_parts_keyed (key_of_v.Private n) colon target (Some initial) = refl
target_part_parts_keyed (key_of_v.Computed left e right) colon target None = refl
target_part_parts_keyed (key_of_v.Computed left e right) colon target (Some initial) = refl

target_part_parts : (key : Option (PropertyKey Assign)) (target : Target) (initial : Option (Initializer Assign)) → target_part_mapped (record { key = key; target = target; initial = initial }) ≡ opt (property_key_tokens assign_tokens) key ++ target_tokens target ++ opt (initializer_tokens assign_tokens) initial
target_part_parts None target None = refl
target_part_parts None target (Some initial) = refl
target_part_parts (Some key) target None = target_part_parts_keyed key.key key.colon target None
target_part_parts (Some key) target (Some initial) = target_part_parts_keyed key.key key.colon target (Some initial)

pub target_part_law : (x : TargetPart) → target_part_tokens x ≡ opt (property_key_tokens assign_tokens) (out-TargetPart x).key ++ target_tokens (out-TargetPart x).target ++ opt (initializer_tokens assign_tokens) (out-TargetPart x).initial
target_part_law x = target_part_opens x ∙ target_part_parts (out-TargetPart x).key (out-TargetPart x).target (out-TargetPart x).initial

assign_at-Cond : (cond : Cond) → assign_mapped (Assign-F.Cond cond) ≡ cond_tokens cond
assign_at-Cond cond = refl

pub assign-Cond : (cond : Cond) → assign_tokens (assign_v.Cond cond) ≡ cond_tokens cond
assign-Cond cond = assign_opens (assign_v.Cond cond) ∙ ap assign_mapped (assign_v.outs-Cond cond) ∙ assign_at-Cond cond

assign_at-Arrow : (arrow : Arrow) → assign_mapped (Assign-F.Arrow arrow) ≡ arrow_tokens arrow
assign_at-Arrow arrow = refl

pub assign-Arrow : (arrow : Arrow) → assign_tokens (assign_v.Arrow arrow) ≡ arrow_tokens arrow
assign-Arrow arrow = assign_opens (assign_v.Arrow arrow) ∙ ap assign_mapped (assign_v.outs-Arrow arrow) ∙ assign_at-Arrow arrow

assign_at-Set : (target : Target) (equals : Token) (value : Assign) → assign_mapped (Assign-F.Assign::Set target equals value) ≡ target_tokens target ++ one equals ++ assign_tokens value
assign_at-Set target equals value = refl

pub assign-Set : (target : Target) (equals : Token) (value : Assign) → assign_tokens (assign_v.Set target equals value) ≡ target_tokens target ++ one equals ++ assign_tokens value
assign-Set target equals value = assign_opens (assign_v.Set target equals value) ∙ ap assign_mapped (assign_v.outs-Set target equals value) ∙ assign_at-Set target equals value

assign_at-Compound : (target : Target) (operator : Token) (value : Assign) → assign_mapped (Assign-F.Compound target operator value) ≡ target_tokens target ++ one operator ++ assign_tokens value
assign_at-Compound target operator value = refl

pub assign-Compound : (target : Target) (operator : Token) (value : Assign) → assign_tokens (assign_v.Compound target operator value) ≡ target_tokens target ++ one operator ++ assign_tokens value
assign-Compound target operator value = assign_opens (assign_v.Compound target operator value) ∙ ap assign_mapped (assign_v.outs-Compound target operator value) ∙ assign_at-Compound target operator value

assign_at-Yield : (word : Token) (yielded : Option (Yielded Assign)) → assign_mapped (Assign-F.Yield word yielded) ≡ one word ++ opt (yielded_tokens assign_tokens) yielded
assign_at-Yield word None = refl
assign_at-Yield word (Some yielded) = refl

pub assign-Yield : (word : Token) (yielded : Option (Yielded Assign)) → assign_tokens (assign_v.Yield word yielded) ≡ one word ++ opt (yielded_tokens assign_tokens) yielded
assign-Yield word yielded = assign_opens (assign_v.Yield word yielded) ∙ ap assign_mapped (assign_v.outs-Yield word yielded) ∙ assign_at-Yield word yielded

arrow_at-Block : (is_async : Option Token) (params : ArrowParams Params) (mark : Token) (body : Body Item) → arrow_mapped (Arrow-F.Arrow::Block is_async params mark body) ≡ opt one is_async ++ arrow_params_tokens params_tokens params ++ one mark ++ body_tokens item_tokens body
arrow_at-Block is_async (arrow_params_v.Name n) mark body = ap (λ t0. opt one is_async ++ one n ++ one mark ++ (one body.left ++ t0 ++ one body.right)) (listed_map inner item_tokens body.items)
arrow_at-Block is_async (arrow_params_v.List l p r) mark body = ap (λ t0. opt one is_async ++ (one l ++ params_tokens p ++ one r) ++ one mark ++ (one body.left ++ t0 ++ one body.right)) (listed_map inner item_tokens body.items)

pub arrow-Block : (is_async : Option Token) (params : ArrowParams Params) (mark : Token) (body : Body Item) → arrow_tokens (arrow_v.Block is_async params mark body) ≡ opt one is_async ++ arrow_params_tokens params_tokens params ++ one mark ++ body_tokens item_tokens body
arrow-Block is_async params mark body = arrow_opens (arrow_v.Block is_async params mark body) ∙ ap arrow_mapped (arrow_v.outs-Block is_async params mark body) ∙ arrow_at-Block is_async params mark body

arrow_at-Concise : (is_async : Option Token) (params : ArrowParams Params) (mark : Token) (value : Assign) → arrow_mapped (Arrow-F.Concise is_async params mark value) ≡ opt one is_async ++ arrow_params_tokens params_tokens params ++ one mark ++ assign_tokens value
arrow_at-Concise is_async (arrow_params_v.Name n) mark value = refl
arrow_at-Concise is_async (arrow_params_v.List l p r) mark value = refl

pub arrow-Concise : (is_async : Option Token) (params : ArrowParams Params) (mark : Token) (value : Assign) → arrow_tokens (arrow_v.Concise is_async params mark value) ≡ opt one is_async ++ arrow_params_tokens params_tokens params ++ one mark ++ assign_tokens value
arrow-Concise is_async params mark value = arrow_opens (arrow_v.Concise is_async params mark value) ∙ ap arrow_mapped (arrow_v.outs-Concise is_async params mark value) ∙ arrow_at-Concise is_async params mark value

cond_parts : (test : BinaryOf Operand) (arms : Option (Arms Assign)) → cond_mapped (record { test = test; arms = arms }) ≡ binary_tokens test ++ opt (arms_tokens assign_tokens) arms
cond_parts test None = ap (λ t0. (operand_tokens test.first ++ t0) ++ []) (joined_over operand_tokens test.more)
cond_parts test (Some arms) = ap (λ t0. (operand_tokens test.first ++ t0) ++ (one arms.question ++ assign_tokens arms.when_true ++ one arms.colon ++ assign_tokens arms.when_false)) (joined_over operand_tokens test.more)

pub cond_law : (x : Cond) → cond_tokens x ≡ binary_tokens (out-Cond x).test ++ opt (arms_tokens assign_tokens) (out-Cond x).arms
cond_law x = cond_opens x ∙ cond_parts (out-Cond x).test (out-Cond x).arms

operand_at-Private : (name : Token) → operand_mapped (Operand-F.Private name) ≡ one name
operand_at-Private name = refl

pub operand-Private : (name : Token) → operand_tokens (operand_v.Private name) ≡ one name
operand-Private name = operand_opens (operand_v.Private name) ∙ ap operand_mapped (operand_v.outs-Private name) ∙ operand_at-Private name

operand_at-Prefix : (operator : Token) (operand : Operand) → operand_mapped (Operand-F.Prefix operator operand) ≡ one operator ++ operand_tokens operand
operand_at-Prefix operator operand = refl

pub operand-Prefix : (operator : Token) (operand : Operand) → operand_tokens (operand_v.Prefix operator operand) ≡ one operator ++ operand_tokens operand
operand-Prefix operator operand = operand_opens (operand_v.Prefix operator operand) ∙ ap operand_mapped (operand_v.outs-Prefix operator operand) ∙ operand_at-Prefix operator operand

operand_at-Await : (word : Token) (operand : Operand) → operand_mapped (Operand-F.Await word operand) ≡ one word ++ operand_tokens operand
operand_at-Await word operand = refl

pub operand-Await : (word : Token) (operand : Operand) → operand_tokens (operand_v.Await word operand) ≡ one word ++ operand_tokens operand
operand-Await word operand = operand_opens (operand_v.Await word operand) ∙ ap operand_mapped (operand_v.outs-Await word operand) ∙ operand_at-Await word operand

operand_at-Update : (operator : Token) (target : Target) → operand_mapped (Operand-F.Update operator target) ≡ one operator ++ target_tokens target
operand_at-Update operator target = refl

pub operand-Update : (operator : Token) (target : Target) → operand_tokens (operand_v.Update operator target) ≡ one operator ++ target_tokens target
operand-Update operator target = operand_opens (operand_v.Update operator target) ∙ ap operand_mapped (operand_v.outs-Update operator target) ∙ operand_at-Update operator target

operand_at-LHS : (lhs : LHS) → operand_mapped (Operand-F.LHS lhs) ≡ lhs_tokens lhs
operand_at-LHS lhs = refl

pub operand-LHS : (lhs : LHS) → operand_tokens (operand_v.LHS lhs) ≡ lhs_tokens lhs
operand-LHS lhs = operand_opens (operand_v.LHS lhs) ∙ ap operand_mapped (operand_v.outs-LHS lhs) ∙ operand_at-LHS lhs

operand_at-Postfix : (target : Target) (operator : Token) → operand_mapped (Operand-F.Postfix target operator) ≡ target_tokens target ++ one operator
operand_at-Postfix target operator = refl

pub operand-Postfix : (target : Target) (operator : Token) → operand_tokens (operand_v.Postfix target operator) ≡ target_tokens target ++ one operator
operand-Postfix target operator = operand_opens (operand_v.Postfix target operator) ∙ ap operand_mapped (operand_v.outs-Postfix target operator) ∙ operand_at-Postfix target operator

lhs_parts : (base : Base) (suffixes : List (SuffixOf Assign)) → lhs_mapped (record { base = base; suffixes = suffixes }) ≡ base_tokens base ++ listed suffix_tokens suffixes
lhs_parts base suffixes = ap (λ t0. base_tokens base ++ t0) (suffixes_over base suffixes)

pub lhs_law : (x : LHS) → lhs_tokens x ≡ base_tokens (out-LHS x).base ++ listed suffix_tokens (out-LHS x).suffixes
lhs_law x = lhs_opens x ∙ lhs_parts (out-LHS x).base (out-LHS x).suffixes

member_at-Shorthand : (name : Token) → member_mapped (Member-F.Shorthand name) ≡ one name
member_at-Shorthand name = refl

pub member-Shorthand : (name : Token) → member_tokens (member_v.Shorthand name) ≡ one name
member-Shorthand name = member_opens (member_v.Shorthand name) ∙ ap member_mapped (member_v.outs-Shorthand name) ∙ member_at-Shorthand name

member_at-Pair : (key : KeyOf Assign) (colon : Token) (value : Assign) → member_mapped (Member-F.Pair key colon value) ≡ key_tokens key ++ one colon ++ assign_tokens value
member_at-Pair (key_of_v.IdName n) colon value = refl
member_at-Pair (key_of_v.String n) colon value = refl
member_at-Pair (key_of_v.Number n) colon value = refl
member_at-Pair (key_of_v.Private n) colon value = refl
member_at-Pair (key_of_v.Computed l e r) colon value = refl

pub member-Pair : (key : KeyOf Assign) (colon : Token) (value : Assign) → member_tokens (member_v.Pair key colon value) ≡ key_tokens key ++ one colon ++ assign_tokens value
member-Pair key colon value = member_opens (member_v.Pair key colon value) ∙ ap member_mapped (member_v.outs-Pair key colon value) ∙ member_at-Pair key colon value

member_at-Method : (method : Method) → member_mapped (Member-F.Member::Method method) ≡ method_tokens method
member_at-Method method = refl

pub member-Method : (method : Method) → member_tokens (member_v.Method method) ≡ method_tokens method
member-Method method = member_opens (member_v.Method method) ∙ ap member_mapped (member_v.outs-Method method) ∙ member_at-Method method

member_at-Spread : (dots : Token) (value : Assign) → member_mapped (Member-F.Spread dots value) ≡ one dots ++ assign_tokens value
member_at-Spread dots value = refl

pub member-Spread : (dots : Token) (value : Assign) → member_tokens (member_v.Spread dots value) ≡ one dots ++ assign_tokens value
member-Spread dots value = member_opens (member_v.Spread dots value) ∙ ap member_mapped (member_v.outs-Spread dots value) ∙ member_at-Spread dots value

primary_at-This : (word : Token) → primary_mapped (Primary-F.This word) ≡ one word
primary_at-This word = refl

pub primary-This : (word : Token) → primary_tokens (primary_v.This word) ≡ one word
primary-This word = primary_opens (primary_v.This word) ∙ ap primary_mapped (primary_v.outs-This word) ∙ primary_at-This word

primary_at-Name : (name : Token) → primary_mapped (Primary-F.Primary::Name name) ≡ one name
primary_at-Name name = refl

pub primary-Name : (name : Token) → primary_tokens (primary_v.Name name) ≡ one name
primary-Name name = primary_opens (primary_v.Name name) ∙ ap primary_mapped (primary_v.outs-Name name) ∙ primary_at-Name name

primary_at-Literal : (literal : Token) → primary_mapped (Primary-F.Literal literal) ≡ one literal
primary_at-Literal literal = refl

pub primary-Literal : (literal : Token) → primary_tokens (primary_v.Literal literal) ≡ one literal
primary-Literal literal = primary_opens (primary_v.Literal literal) ∙ ap primary_mapped (primary_v.outs-Literal literal) ∙ primary_at-Literal literal

primary_at-Template : (template : Template (ExprOf Assign)) → primary_mapped (Primary-F.Template template) ≡ template_tokens expr_tokens template
primary_at-Template template = ap (λ t0. (one template.head ++ t0)) (pieces_over assign_tokens template.more)

pub primary-Template : (template : Template (ExprOf Assign)) → primary_tokens (primary_v.Template template) ≡ template_tokens expr_tokens template
primary-Template template = primary_opens (primary_v.Template template) ∙ ap primary_mapped (primary_v.outs-Template template) ∙ primary_at-Template template

primary_at-Regex : (regex : Token) → primary_mapped (Primary-F.Regex regex) ≡ one regex
primary_at-Regex regex = refl

pub primary-Regex : (regex : Token) → primary_tokens (primary_v.Regex regex) ≡ one regex
primary-Regex regex = primary_opens (primary_v.Regex regex) ∙ ap primary_mapped (primary_v.outs-Regex regex) ∙ primary_at-Regex regex

primary_at-Array : (left : Token) (elements : List (Separated (Option (Argument Assign)))) (right : Token) → primary_mapped (Primary-F.Primary::Array left elements right) ≡ one left ++ listed (separated_tokens (opt (argument_tokens assign_tokens))) elements ++ one right
primary_at-Array left elements right = ap (λ t0. one left ++ t0 ++ one right) (optional_over (primary_over left) (argument_tokens inner) (argument_tokens assign_tokens) refl (λ x. refl) elements)

pub primary-Array : (left : Token) (elements : List (Separated (Option (Argument Assign)))) (right : Token) → primary_tokens (primary_v.Array left elements right) ≡ one left ++ listed (separated_tokens (opt (argument_tokens assign_tokens))) elements ++ one right
primary-Array left elements right = primary_opens (primary_v.Array left elements right) ∙ ap primary_mapped (primary_v.outs-Array left elements right) ∙ primary_at-Array left elements right

primary_at-Object : (left : Token) (members : List (Separated Member)) (right : Token) → primary_mapped (Primary-F.Primary::Object left members right) ≡ one left ++ listed (separated_tokens member_tokens) members ++ one right
primary_at-Object left members right = ap (λ t0. one left ++ t0 ++ one right) (separated_over member_tokens members)

pub primary-Object : (left : Token) (members : List (Separated Member)) (right : Token) → primary_tokens (primary_v.Object left members right) ≡ one left ++ listed (separated_tokens member_tokens) members ++ one right
primary-Object left members right = primary_opens (primary_v.Object left members right) ∙ ap primary_mapped (primary_v.outs-Object left members right) ∙ primary_at-Object left members right

primary_at-Func : (func : Func) → primary_mapped (Primary-F.Primary::Func func) ≡ func_tokens func
primary_at-Func func = refl

pub primary-Func : (func : Func) → primary_tokens (primary_v.Func func) ≡ func_tokens func
primary-Func func = primary_opens (primary_v.Func func) ∙ ap primary_mapped (primary_v.outs-Func func) ∙ primary_at-Func func

primary_at-Class : (class : Class) → primary_mapped (Primary-F.Primary::Class class) ≡ class_tokens class
primary_at-Class class = refl

pub primary-Class : (class : Class) → primary_tokens (primary_v.Class class) ≡ class_tokens class
primary-Class class = primary_opens (primary_v.Class class) ∙ ap primary_mapped (primary_v.outs-Class class) ∙ primary_at-Class class

primary_at-Paren : (left : Token) (expr : ExprOf Assign) (right : Token) → primary_mapped (Primary-F.Paren left expr right) ≡ one left ++ expr_tokens expr ++ one right
primary_at-Paren left expr right = ap (λ t0. one left ++ t0 ++ one right) (separated_over assign_tokens expr.list)

pub primary-Paren : (left : Token) (expr : ExprOf Assign) (right : Token) → primary_tokens (primary_v.Paren left expr right) ≡ one left ++ expr_tokens expr ++ one right
primary-Paren left expr right = primary_opens (primary_v.Paren left expr right) ∙ ap primary_mapped (primary_v.outs-Paren left expr right) ∙ primary_at-Paren left expr right

base_at-Primary : (primary : Primary) → base_mapped (Base-F.Primary primary) ≡ primary_tokens primary
base_at-Primary primary = refl

pub base-Primary : (primary : Primary) → base_tokens (base_v.Primary primary) ≡ primary_tokens primary
base-Primary primary = base_opens (base_v.Primary primary) ∙ ap base_mapped (base_v.outs-Primary primary) ∙ base_at-Primary primary

base_at-Super : (word : Token) → base_mapped (Base-F.Super word) ≡ one word
base_at-Super word = refl

pub base-Super : (word : Token) → base_tokens (base_v.Super word) ≡ one word
base-Super word = base_opens (base_v.Super word) ∙ ap base_mapped (base_v.outs-Super word) ∙ base_at-Super word

base_at-New : (word : Token) (callee : LHS) (args : Option (ArgsOf Assign)) → base_mapped (Base-F.New word callee args) ≡ one word ++ lhs_tokens callee ++ opt args_tokens args
base_at-New word callee None = refl
base_at-New word callee (Some args) = ap (λ t0. one word ++ lhs_tokens callee ++ (one args.left ++ t0 ++ one args.right)) (arguments_over assign_tokens args.list)

pub base-New : (word : Token) (callee : LHS) (args : Option (ArgsOf Assign)) → base_tokens (base_v.New word callee args) ≡ one word ++ lhs_tokens callee ++ opt args_tokens args
base-New word callee args = base_opens (base_v.New word callee args) ∙ ap base_mapped (base_v.outs-New word callee args) ∙ base_at-New word callee args

base_at-NewTarget : (word : Token) (dot : Token) (target : Token) → base_mapped (Base-F.NewTarget word dot target) ≡ one word ++ one dot ++ one target
base_at-NewTarget word dot target = refl

pub base-NewTarget : (word : Token) (dot : Token) (target : Token) → base_tokens (base_v.NewTarget word dot target) ≡ one word ++ one dot ++ one target
base-NewTarget word dot target = base_opens (base_v.NewTarget word dot target) ∙ ap base_mapped (base_v.outs-NewTarget word dot target) ∙ base_at-NewTarget word dot target

base_at-ImportMeta : (word : Token) (dot : Token) (meta : Token) → base_mapped (Base-F.ImportMeta word dot meta) ≡ one word ++ one dot ++ one meta
base_at-ImportMeta word dot meta = refl

pub base-ImportMeta : (word : Token) (dot : Token) (meta : Token) → base_tokens (base_v.ImportMeta word dot meta) ≡ one word ++ one dot ++ one meta
base-ImportMeta word dot meta = base_opens (base_v.ImportMeta word dot meta) ∙ ap base_mapped (base_v.outs-ImportMeta word dot meta) ∙ base_at-ImportMeta word dot meta

base_at-Import : (word : Token) (left : Token) (request : Assign) (second : Option (SecondArgument Assign)) (comma : Option Token) (right : Token) → base_mapped (Base-F.Import word left request second comma right) ≡ one word ++ one left ++ assign_tokens request ++ opt (second_argument_tokens assign_tokens) second ++ opt one comma ++ one right
base_at-Import word left request None comma right = refl
base_at-Import word left request (Some second) comma right = refl

pub base-Import : (word : Token) (left : Token) (request : Assign) (second : Option (SecondArgument Assign)) (comma : Option Token) (right : Token) → base_tokens (base_v.Import word left request second comma right) ≡ one word ++ one left ++ assign_tokens request ++ opt (second_argument_tokens assign_tokens) second ++ opt one comma ++ one right
base-Import word left request second comma right = base_opens (base_v.Import word left request second comma right) ∙ ap base_mapped (base_v.outs-Import word left request second comma right) ∙ base_at-Import word left request second comma right
