-- One level of each production, with the tokens of its parts in their places.
use Rattle.std.specs.Prelude.{◌≡◌}
use Rattle.es_tree.specs.declared.cycle.Arrow.TheOpen.{Arrow-F, Assign-F, Base-F, Bind-F, Case-F, Element-F, For-F, Head-F, Init-F, Item-F, Member-F, Method-F, Operand-F, Primary-F, Stmt-F, Target-F, BindProperty-F, Class-F, Cond-F, Decl-F, Func-F, LHS-F, Params-F, TargetPart-F}
use Rattle.es_tree.specs.declared.cycle.Item.{Item, out-Item, map-Item, fold_out-Item}
use Rattle.es_tree.specs.declared.cycle.Decl.{Decl, out-Decl, map-Decl, fold_out-Decl}
use Rattle.es_tree.specs.declared.cycle.Case.{Case, out-Case, map-Case, fold_out-Case}
use Rattle.es_tree.specs.declared.cycle.Stmt.{Stmt, out-Stmt, map-Stmt, fold_out-Stmt}
use Rattle.es_tree.specs.declared.cycle.Init.{Init, out-Init, map-Init, fold_out-Init}
use Rattle.es_tree.specs.declared.cycle.For.{For, out-For, map-For, fold_out-For}
use Rattle.es_tree.specs.declared.cycle.Head.{Head, out-Head, map-Head, fold_out-Head}
use Rattle.es_tree.specs.declared.cycle.Func.{Func, out-Func, map-Func, fold_out-Func}
use Rattle.es_tree.specs.declared.cycle.Params.{Params, out-Params, map-Params, fold_out-Params}
use Rattle.es_tree.specs.declared.cycle.Class.{Class, out-Class, map-Class, fold_out-Class}
use Rattle.es_tree.specs.declared.cycle.Element.{Element, out-Element, map-Element, fold_out-Element}
use Rattle.es_tree.specs.declared.cycle.Method.{Method, out-Method, map-Method, fold_out-Method}
use Rattle.es_tree.specs.declared.cycle.BindProperty.{BindProperty, out-BindProperty, map-BindProperty, fold_out-BindProperty}
use Rattle.es_tree.specs.declared.cycle.Bind.{Bind, out-Bind, map-Bind, fold_out-Bind}
use Rattle.es_tree.specs.declared.cycle.Target.{Target, out-Target, map-Target, fold_out-Target}
use Rattle.es_tree.specs.declared.cycle.TargetPart.{TargetPart, out-TargetPart, map-TargetPart, fold_out-TargetPart}
use Rattle.es_tree.specs.declared.cycle.Assign.{Assign, out-Assign, map-Assign, fold_out-Assign}
use Rattle.es_tree.specs.declared.cycle.Arrow.{Arrow, out-Arrow, map-Arrow, fold_out-Arrow}
use Rattle.es_tree.specs.declared.cycle.Cond.{Cond, out-Cond, map-Cond, fold_out-Cond}
use Rattle.es_tree.specs.declared.cycle.Operand.{Operand, out-Operand, map-Operand, fold_out-Operand}
use Rattle.es_tree.specs.declared.cycle.LHS.{LHS, out-LHS, map-LHS, fold_out-LHS}
use Rattle.es_tree.specs.declared.cycle.Member.{Member, out-Member, map-Member, fold_out-Member}
use Rattle.es_tree.specs.declared.cycle.Primary.{Primary, out-Primary, map-Primary, fold_out-Primary}
use Rattle.es_tree.specs.declared.cycle.Base.{Base, out-Base, map-Base, fold_out-Base}
use Rattle.es_tree.specs.Yield.{Tokens, arrow_tokens, assign_tokens, base_tokens, bind_tokens, case_tokens, element_tokens, for_tokens, head_tokens, init_tokens, item_tokens, member_tokens, method_tokens, operand_tokens, primary_tokens, stmt_tokens, target_tokens, bind_property_tokens, class_tokens, cond_tokens, decl_tokens, func_tokens, lhs_tokens, params_tokens, target_part_tokens, arrow_level, assign_level, base_level, bind_level, case_level, element_level, for_level, head_level, init_level, item_level, member_level, method_level, operand_level, primary_level, stmt_level, target_level, bind_property_level, class_level, cond_level, decl_level, func_level, lhs_level, params_level, target_part_level}

abbrev pub item_mapped : Item-F Arrow Assign Base Bind Case Element For Head Init Item Member Method Operand Primary Stmt Target BindProperty Class Cond Decl Func LHS Params TargetPart → Tokens
item_mapped layer = item_level (map-Item Arrow Assign Base Bind Case Element For Head Init Item Member Method Operand Primary Stmt Target BindProperty Class Cond Decl Func LHS Params TargetPart Tokens Tokens Tokens Tokens Tokens Tokens Tokens Tokens Tokens Tokens Tokens Tokens Tokens Tokens Tokens Tokens Tokens Tokens Tokens Tokens Tokens Tokens Tokens Tokens arrow_tokens assign_tokens base_tokens bind_tokens case_tokens element_tokens for_tokens head_tokens init_tokens item_tokens member_tokens method_tokens operand_tokens primary_tokens stmt_tokens target_tokens bind_property_tokens class_tokens cond_tokens decl_tokens func_tokens lhs_tokens params_tokens target_part_tokens layer)

pub item_opens : (x : Item) → item_tokens x ≡ item_mapped (out-Item x)
unfolding arrow_tokens assign_tokens base_tokens bind_tokens case_tokens element_tokens for_tokens head_tokens init_tokens item_tokens member_tokens method_tokens operand_tokens primary_tokens stmt_tokens target_tokens bind_property_tokens class_tokens cond_tokens decl_tokens func_tokens lhs_tokens params_tokens target_part_tokens
item_opens x = fold_out-Item Tokens Tokens Tokens Tokens Tokens Tokens Tokens Tokens Tokens Tokens Tokens Tokens Tokens Tokens Tokens Tokens Tokens Tokens Tokens Tokens Tokens Tokens Tokens Tokens arrow_level assign_level base_level bind_level case_level element_level for_level head_level init_level item_level member_level method_level operand_level primary_level stmt_level target_level bind_property_level class_level cond_level decl_level func_level lhs_level params_level target_part_level x

abbrev pub decl_mapped : Decl-F Arrow Assign Base Bind Case Element For Head Init Item Member Method Operand Primary Stmt Target BindProperty Class Cond Decl Func LHS Params TargetPart → Tokens
decl_mapped layer = decl_level (map-Decl Arrow Assign Base Bind Case Element For Head Init Item Member Method Operand Primary Stmt Target BindProperty Class Cond Decl Func LHS Params TargetPart Tokens Tokens Tokens Tokens Tokens Tokens Tokens Tokens Tokens Tokens Tokens Tokens Tokens Tokens Tokens Tokens Tokens Tokens Tokens Tokens Tokens Tokens Tokens Tokens arrow_tokens assign_tokens base_tokens bind_tokens case_tokens element_tokens for_tokens head_tokens init_tokens item_tokens member_tokens method_tokens operand_tokens primary_tokens stmt_tokens target_tokens bind_property_tokens class_tokens cond_tokens decl_tokens func_tokens lhs_tokens params_tokens target_part_tokens layer)

pub decl_opens : (x : Decl) → decl_tokens x ≡ decl_mapped (out-Decl x)
unfolding arrow_tokens assign_tokens base_tokens bind_tokens case_tokens element_tokens for_tokens head_tokens init_tokens item_tokens member_tokens method_tokens operand_tokens primary_tokens stmt_tokens target_tokens bind_property_tokens class_tokens cond_tokens decl_tokens func_tokens lhs_tokens params_tokens target_part_tokens
decl_opens x = fold_out-Decl Tokens Tokens Tokens Tokens Tokens Tokens Tokens Tokens Tokens Tokens Tokens Tokens Tokens Tokens Tokens Tokens Tokens Tokens Tokens Tokens Tokens Tokens Tokens Tokens arrow_level assign_level base_level bind_level case_level element_level for_level head_level init_level item_level member_level method_level operand_level primary_level stmt_level target_level bind_property_level class_level cond_level decl_level func_level lhs_level params_level target_part_level x

abbrev pub case_mapped : Case-F Arrow Assign Base Bind Case Element For Head Init Item Member Method Operand Primary Stmt Target BindProperty Class Cond Decl Func LHS Params TargetPart → Tokens
case_mapped layer = case_level (map-Case Arrow Assign Base Bind Case Element For Head Init Item Member Method Operand Primary Stmt Target BindProperty Class Cond Decl Func LHS Params TargetPart Tokens Tokens Tokens Tokens Tokens Tokens Tokens Tokens Tokens Tokens Tokens Tokens Tokens Tokens Tokens Tokens Tokens Tokens Tokens Tokens Tokens Tokens Tokens Tokens arrow_tokens assign_tokens base_tokens bind_tokens case_tokens element_tokens for_tokens head_tokens init_tokens item_tokens member_tokens method_tokens operand_tokens primary_tokens stmt_tokens target_tokens bind_property_tokens class_tokens cond_tokens decl_tokens func_tokens lhs_tokens params_tokens target_part_tokens layer)

pub case_opens : (x : Case) → case_tokens x ≡ case_mapped (out-Case x)
unfolding arrow_tokens assign_tokens base_tokens bind_tokens case_tokens element_tokens for_tokens head_tokens init_tokens item_tokens member_tokens method_tokens operand_tokens primary_tokens stmt_tokens target_tokens bind_property_tokens class_tokens cond_tokens decl_tokens func_tokens lhs_tokens params_tokens target_part_tokens
case_opens x = fold_out-Case Tokens Tokens Tokens Tokens Tokens Tokens Tokens Tokens Tokens Tokens Tokens Tokens Tokens Tokens Tokens Tokens Tokens Tokens Tokens Tokens Tokens Tokens Tokens Tokens arrow_level assign_level base_level bind_level case_level element_level for_level head_level init_level item_level member_level method_level operand_level primary_level stmt_level target_level bind_property_level class_level cond_level decl_level func_level lhs_level params_level target_part_level x

abbrev pub stmt_mapped : Stmt-F Arrow Assign Base Bind Case Element For Head Init Item Member Method Operand Primary Stmt Target BindProperty Class Cond Decl Func LHS Params TargetPart → Tokens
stmt_mapped layer = stmt_level (map-Stmt Arrow Assign Base Bind Case Element For Head Init Item Member Method Operand Primary Stmt Target BindProperty Class Cond Decl Func LHS Params TargetPart Tokens Tokens Tokens Tokens Tokens Tokens Tokens Tokens Tokens Tokens Tokens Tokens Tokens Tokens Tokens Tokens Tokens Tokens Tokens Tokens Tokens Tokens Tokens Tokens arrow_tokens assign_tokens base_tokens bind_tokens case_tokens element_tokens for_tokens head_tokens init_tokens item_tokens member_tokens method_tokens operand_tokens primary_tokens stmt_tokens target_tokens bind_property_tokens class_tokens cond_tokens decl_tokens func_tokens lhs_tokens params_tokens target_part_tokens layer)

pub stmt_opens : (x : Stmt) → stmt_tokens x ≡ stmt_mapped (out-Stmt x)
unfolding arrow_tokens assign_tokens base_tokens bind_tokens case_tokens element_tokens for_tokens head_tokens init_tokens item_tokens member_tokens method_tokens operand_tokens primary_tokens stmt_tokens target_tokens bind_property_tokens class_tokens cond_tokens decl_tokens func_tokens lhs_tokens params_tokens target_part_tokens
stmt_opens x = fold_out-Stmt Tokens Tokens Tokens Tokens Tokens Tokens Tokens Tokens Tokens Tokens Tokens Tokens Tokens Tokens Tokens Tokens Tokens Tokens Tokens Tokens Tokens Tokens Tokens Tokens arrow_level assign_level base_level bind_level case_level element_level for_level head_level init_level item_level member_level method_level operand_level primary_level stmt_level target_level bind_property_level class_level cond_level decl_level func_level lhs_level params_level target_part_level x

abbrev pub init_mapped : Init-F Arrow Assign Base Bind Case Element For Head Init Item Member Method Operand Primary Stmt Target BindProperty Class Cond Decl Func LHS Params TargetPart → Tokens
init_mapped layer = init_level (map-Init Arrow Assign Base Bind Case Element For Head Init Item Member Method Operand Primary Stmt Target BindProperty Class Cond Decl Func LHS Params TargetPart Tokens Tokens Tokens Tokens Tokens Tokens Tokens Tokens Tokens Tokens Tokens Tokens Tokens Tokens Tokens Tokens Tokens Tokens Tokens Tokens Tokens Tokens Tokens Tokens arrow_tokens assign_tokens base_tokens bind_tokens case_tokens element_tokens for_tokens head_tokens init_tokens item_tokens member_tokens method_tokens operand_tokens primary_tokens stmt_tokens target_tokens bind_property_tokens class_tokens cond_tokens decl_tokens func_tokens lhs_tokens params_tokens target_part_tokens layer)

pub init_opens : (x : Init) → init_tokens x ≡ init_mapped (out-Init x)
unfolding arrow_tokens assign_tokens base_tokens bind_tokens case_tokens element_tokens for_tokens head_tokens init_tokens item_tokens member_tokens method_tokens operand_tokens primary_tokens stmt_tokens target_tokens bind_property_tokens class_tokens cond_tokens decl_tokens func_tokens lhs_tokens params_tokens target_part_tokens
init_opens x = fold_out-Init Tokens Tokens Tokens Tokens Tokens Tokens Tokens Tokens Tokens Tokens Tokens Tokens Tokens Tokens Tokens Tokens Tokens Tokens Tokens Tokens Tokens Tokens Tokens Tokens arrow_level assign_level base_level bind_level case_level element_level for_level head_level init_level item_level member_level method_level operand_level primary_level stmt_level target_level bind_property_level class_level cond_level decl_level func_level lhs_level params_level target_part_level x

abbrev pub for_mapped : For-F Arrow Assign Base Bind Case Element For Head Init Item Member Method Operand Primary Stmt Target BindProperty Class Cond Decl Func LHS Params TargetPart → Tokens
for_mapped layer = for_level (map-For Arrow Assign Base Bind Case Element For Head Init Item Member Method Operand Primary Stmt Target BindProperty Class Cond Decl Func LHS Params TargetPart Tokens Tokens Tokens Tokens Tokens Tokens Tokens Tokens Tokens Tokens Tokens Tokens Tokens Tokens Tokens Tokens Tokens Tokens Tokens Tokens Tokens Tokens Tokens Tokens arrow_tokens assign_tokens base_tokens bind_tokens case_tokens element_tokens for_tokens head_tokens init_tokens item_tokens member_tokens method_tokens operand_tokens primary_tokens stmt_tokens target_tokens bind_property_tokens class_tokens cond_tokens decl_tokens func_tokens lhs_tokens params_tokens target_part_tokens layer)

pub for_opens : (x : For) → for_tokens x ≡ for_mapped (out-For x)
unfolding arrow_tokens assign_tokens base_tokens bind_tokens case_tokens element_tokens for_tokens head_tokens init_tokens item_tokens member_tokens method_tokens operand_tokens primary_tokens stmt_tokens target_tokens bind_property_tokens class_tokens cond_tokens decl_tokens func_tokens lhs_tokens params_tokens target_part_tokens
for_opens x = fold_out-For Tokens Tokens Tokens Tokens Tokens Tokens Tokens Tokens Tokens Tokens Tokens Tokens Tokens Tokens Tokens Tokens Tokens Tokens Tokens Tokens Tokens Tokens Tokens Tokens arrow_level assign_level base_level bind_level case_level element_level for_level head_level init_level item_level member_level method_level operand_level primary_level stmt_level target_level bind_property_level class_level cond_level decl_level func_level lhs_level params_level target_part_level x

abbrev pub head_mapped : Head-F Arrow Assign Base Bind Case Element For Head Init Item Member Method Operand Primary Stmt Target BindProperty Class Cond Decl Func LHS Params TargetPart → Tokens
head_mapped layer = head_level (map-Head Arrow Assign Base Bind Case Element For Head Init Item Member Method Operand Primary Stmt Target BindProperty Class Cond Decl Func LHS Params TargetPart Tokens Tokens Tokens Tokens Tokens Tokens Tokens Tokens Tokens Tokens Tokens Tokens Tokens Tokens Tokens Tokens Tokens Tokens Tokens Tokens Tokens Tokens Tokens Tokens arrow_tokens assign_tokens base_tokens bind_tokens case_tokens element_tokens for_tokens head_tokens init_tokens item_tokens member_tokens method_tokens operand_tokens primary_tokens stmt_tokens target_tokens bind_property_tokens class_tokens cond_tokens decl_tokens func_tokens lhs_tokens params_tokens target_part_tokens layer)

pub head_opens : (x : Head) → head_tokens x ≡ head_mapped (out-Head x)
unfolding arrow_tokens assign_tokens base_tokens bind_tokens case_tokens element_tokens for_tokens head_tokens init_tokens item_tokens member_tokens method_tokens operand_tokens primary_tokens stmt_tokens target_tokens bind_property_tokens class_tokens cond_tokens decl_tokens func_tokens lhs_tokens params_tokens target_part_tokens
head_opens x = fold_out-Head Tokens Tokens Tokens Tokens Tokens Tokens Tokens Tokens Tokens Tokens Tokens Tokens Tokens Tokens Tokens Tokens Tokens Tokens Tokens Tokens Tokens Tokens Tokens Tokens arrow_level assign_level base_level bind_level case_level element_level for_level head_level init_level item_level member_level method_level operand_level primary_level stmt_level target_level bind_property_level class_level cond_level decl_level func_level lhs_level params_level target_part_level x

abbrev pub func_mapped : Func-F Arrow Assign Base Bind Case Element For Head Init Item Member Method Operand Primary Stmt Target BindProperty Class Cond Decl Func LHS Params TargetPart → Tokens
func_mapped layer = func_level (map-Func Arrow Assign Base Bind Case Element For Head Init Item Member Method Operand Primary Stmt Target BindProperty Class Cond Decl Func LHS Params TargetPart Tokens Tokens Tokens Tokens Tokens Tokens Tokens Tokens Tokens Tokens Tokens Tokens Tokens Tokens Tokens Tokens Tokens Tokens Tokens Tokens Tokens Tokens Tokens Tokens arrow_tokens assign_tokens base_tokens bind_tokens case_tokens element_tokens for_tokens head_tokens init_tokens item_tokens member_tokens method_tokens operand_tokens primary_tokens stmt_tokens target_tokens bind_property_tokens class_tokens cond_tokens decl_tokens func_tokens lhs_tokens params_tokens target_part_tokens layer)

pub func_opens : (x : Func) → func_tokens x ≡ func_mapped (out-Func x)
unfolding arrow_tokens assign_tokens base_tokens bind_tokens case_tokens element_tokens for_tokens head_tokens init_tokens item_tokens member_tokens method_tokens operand_tokens primary_tokens stmt_tokens target_tokens bind_property_tokens class_tokens cond_tokens decl_tokens func_tokens lhs_tokens params_tokens target_part_tokens
func_opens x = fold_out-Func Tokens Tokens Tokens Tokens Tokens Tokens Tokens Tokens Tokens Tokens Tokens Tokens Tokens Tokens Tokens Tokens Tokens Tokens Tokens Tokens Tokens Tokens Tokens Tokens arrow_level assign_level base_level bind_level case_level element_level for_level head_level init_level item_level member_level method_level operand_level primary_level stmt_level target_level bind_property_level class_level cond_level decl_level func_level lhs_level params_level target_part_level x

abbrev pub params_mapped : Params-F Arrow Assign Base Bind Case Element For Head Init Item Member Method Operand Primary Stmt Target BindProperty Class Cond Decl Func LHS Params TargetPart → Tokens
params_mapped layer = params_level (map-Params Arrow Assign Base Bind Case Element For Head Init Item Member Method Operand Primary Stmt Target BindProperty Class Cond Decl Func LHS Params TargetPart Tokens Tokens Tokens Tokens Tokens Tokens Tokens Tokens Tokens Tokens Tokens Tokens Tokens Tokens Tokens Tokens Tokens Tokens Tokens Tokens Tokens Tokens Tokens Tokens arrow_tokens assign_tokens base_tokens bind_tokens case_tokens element_tokens for_tokens head_tokens init_tokens item_tokens member_tokens method_tokens operand_tokens primary_tokens stmt_tokens target_tokens bind_property_tokens class_tokens cond_tokens decl_tokens func_tokens lhs_tokens params_tokens target_part_tokens layer)

pub params_opens : (x : Params) → params_tokens x ≡ params_mapped (out-Params x)
unfolding arrow_tokens assign_tokens base_tokens bind_tokens case_tokens element_tokens for_tokens head_tokens init_tokens item_tokens member_tokens method_tokens operand_tokens primary_tokens stmt_tokens target_tokens bind_property_tokens class_tokens cond_tokens decl_tokens func_tokens lhs_tokens params_tokens target_part_tokens
params_opens x = fold_out-Params Tokens Tokens Tokens Tokens Tokens Tokens Tokens Tokens Tokens Tokens Tokens Tokens Tokens Tokens Tokens Tokens Tokens Tokens Tokens Tokens Tokens Tokens Tokens Tokens arrow_level assign_level base_level bind_level case_level element_level for_level head_level init_level item_level member_level method_level operand_level primary_level stmt_level target_level bind_property_level class_level cond_level decl_level func_level lhs_level params_level target_part_level x

abbrev pub class_mapped : Class-F Arrow Assign Base Bind Case Element For Head Init Item Member Method Operand Primary Stmt Target BindProperty Class Cond Decl Func LHS Params TargetPart → Tokens
class_mapped layer = class_level (map-Class Arrow Assign Base Bind Case Element For Head Init Item Member Method Operand Primary Stmt Target BindProperty Class Cond Decl Func LHS Params TargetPart Tokens Tokens Tokens Tokens Tokens Tokens Tokens Tokens Tokens Tokens Tokens Tokens Tokens Tokens Tokens Tokens Tokens Tokens Tokens Tokens Tokens Tokens Tokens Tokens arrow_tokens assign_tokens base_tokens bind_tokens case_tokens element_tokens for_tokens head_tokens init_tokens item_tokens member_tokens method_tokens operand_tokens primary_tokens stmt_tokens target_tokens bind_property_tokens class_tokens cond_tokens decl_tokens func_tokens lhs_tokens params_tokens target_part_tokens layer)

pub class_opens : (x : Class) → class_tokens x ≡ class_mapped (out-Class x)
unfolding arrow_tokens assign_tokens base_tokens bind_tokens case_tokens element_tokens for_tokens head_tokens init_tokens item_tokens member_tokens method_tokens operand_tokens primary_tokens stmt_tokens target_tokens bind_property_tokens class_tokens cond_tokens decl_tokens func_tokens lhs_tokens params_tokens target_part_tokens
class_opens x = fold_out-Class Tokens Tokens Tokens Tokens Tokens Tokens Tokens Tokens Tokens Tokens Tokens Tokens Tokens Tokens Tokens Tokens Tokens Tokens Tokens Tokens Tokens Tokens Tokens Tokens arrow_level assign_level base_level bind_level case_level element_level for_level head_level init_level item_level member_level method_level operand_level primary_level stmt_level target_level bind_property_level class_level cond_level decl_level func_level lhs_level params_level target_part_level x

abbrev pub element_mapped : Element-F Arrow Assign Base Bind Case Element For Head Init Item Member Method Operand Primary Stmt Target BindProperty Class Cond Decl Func LHS Params TargetPart → Tokens
element_mapped layer = element_level (map-Element Arrow Assign Base Bind Case Element For Head Init Item Member Method Operand Primary Stmt Target BindProperty Class Cond Decl Func LHS Params TargetPart Tokens Tokens Tokens Tokens Tokens Tokens Tokens Tokens Tokens Tokens Tokens Tokens Tokens Tokens Tokens Tokens Tokens Tokens Tokens Tokens Tokens Tokens Tokens Tokens arrow_tokens assign_tokens base_tokens bind_tokens case_tokens element_tokens for_tokens head_tokens init_tokens item_tokens member_tokens method_tokens operand_tokens primary_tokens stmt_tokens target_tokens bind_property_tokens class_tokens cond_tokens decl_tokens func_tokens lhs_tokens params_tokens target_part_tokens layer)

pub element_opens : (x : Element) → element_tokens x ≡ element_mapped (out-Element x)
unfolding arrow_tokens assign_tokens base_tokens bind_tokens case_tokens element_tokens for_tokens head_tokens init_tokens item_tokens member_tokens method_tokens operand_tokens primary_tokens stmt_tokens target_tokens bind_property_tokens class_tokens cond_tokens decl_tokens func_tokens lhs_tokens params_tokens target_part_tokens
element_opens x = fold_out-Element Tokens Tokens Tokens Tokens Tokens Tokens Tokens Tokens Tokens Tokens Tokens Tokens Tokens Tokens Tokens Tokens Tokens Tokens Tokens Tokens Tokens Tokens Tokens Tokens arrow_level assign_level base_level bind_level case_level element_level for_level head_level init_level item_level member_level method_level operand_level primary_level stmt_level target_level bind_property_level class_level cond_level decl_level func_level lhs_level params_level target_part_level x

abbrev pub method_mapped : Method-F Arrow Assign Base Bind Case Element For Head Init Item Member Method Operand Primary Stmt Target BindProperty Class Cond Decl Func LHS Params TargetPart → Tokens
method_mapped layer = method_level (map-Method Arrow Assign Base Bind Case Element For Head Init Item Member Method Operand Primary Stmt Target BindProperty Class Cond Decl Func LHS Params TargetPart Tokens Tokens Tokens Tokens Tokens Tokens Tokens Tokens Tokens Tokens Tokens Tokens Tokens Tokens Tokens Tokens Tokens Tokens Tokens Tokens Tokens Tokens Tokens Tokens arrow_tokens assign_tokens base_tokens bind_tokens case_tokens element_tokens for_tokens head_tokens init_tokens item_tokens member_tokens method_tokens operand_tokens primary_tokens stmt_tokens target_tokens bind_property_tokens class_tokens cond_tokens decl_tokens func_tokens lhs_tokens params_tokens target_part_tokens layer)

pub method_opens : (x : Method) → method_tokens x ≡ method_mapped (out-Method x)
unfolding arrow_tokens assign_tokens base_tokens bind_tokens case_tokens element_tokens for_tokens head_tokens init_tokens item_tokens member_tokens method_tokens operand_tokens primary_tokens stmt_tokens target_tokens bind_property_tokens class_tokens cond_tokens decl_tokens func_tokens lhs_tokens params_tokens target_part_tokens
method_opens x = fold_out-Method Tokens Tokens Tokens Tokens Tokens Tokens Tokens Tokens Tokens Tokens Tokens Tokens Tokens Tokens Tokens Tokens Tokens Tokens Tokens Tokens Tokens Tokens Tokens Tokens arrow_level assign_level base_level bind_level case_level element_level for_level head_level init_level item_level member_level method_level operand_level primary_level stmt_level target_level bind_property_level class_level cond_level decl_level func_level lhs_level params_level target_part_level x

abbrev pub bind_property_mapped : BindProperty-F Arrow Assign Base Bind Case Element For Head Init Item Member Method Operand Primary Stmt Target BindProperty Class Cond Decl Func LHS Params TargetPart → Tokens
bind_property_mapped layer = bind_property_level (map-BindProperty Arrow Assign Base Bind Case Element For Head Init Item Member Method Operand Primary Stmt Target BindProperty Class Cond Decl Func LHS Params TargetPart Tokens Tokens Tokens Tokens Tokens Tokens Tokens Tokens Tokens Tokens Tokens Tokens Tokens Tokens Tokens Tokens Tokens Tokens Tokens Tokens Tokens Tokens Tokens Tokens arrow_tokens assign_tokens base_tokens bind_tokens case_tokens element_tokens for_tokens head_tokens init_tokens item_tokens member_tokens method_tokens operand_tokens primary_tokens stmt_tokens target_tokens bind_property_tokens class_tokens cond_tokens decl_tokens func_tokens lhs_tokens params_tokens target_part_tokens layer)

pub bind_property_opens : (x : BindProperty) → bind_property_tokens x ≡ bind_property_mapped (out-BindProperty x)
unfolding arrow_tokens assign_tokens base_tokens bind_tokens case_tokens element_tokens for_tokens head_tokens init_tokens item_tokens member_tokens method_tokens operand_tokens primary_tokens stmt_tokens target_tokens bind_property_tokens class_tokens cond_tokens decl_tokens func_tokens lhs_tokens params_tokens target_part_tokens
bind_property_opens x = fold_out-BindProperty Tokens Tokens Tokens Tokens Tokens Tokens Tokens Tokens Tokens Tokens Tokens Tokens Tokens Tokens Tokens Tokens Tokens Tokens Tokens Tokens Tokens Tokens Tokens Tokens arrow_level assign_level base_level bind_level case_level element_level for_level head_level init_level item_level member_level method_level operand_level primary_level stmt_level target_level bind_property_level class_level cond_level decl_level func_level lhs_level params_level target_part_level x

abbrev pub bind_mapped : Bind-F Arrow Assign Base Bind Case Element For Head Init Item Member Method Operand Primary Stmt Target BindProperty Class Cond Decl Func LHS Params TargetPart → Tokens
bind_mapped layer = bind_level (map-Bind Arrow Assign Base Bind Case Element For Head Init Item Member Method Operand Primary Stmt Target BindProperty Class Cond Decl Func LHS Params TargetPart Tokens Tokens Tokens Tokens Tokens Tokens Tokens Tokens Tokens Tokens Tokens Tokens Tokens Tokens Tokens Tokens Tokens Tokens Tokens Tokens Tokens Tokens Tokens Tokens arrow_tokens assign_tokens base_tokens bind_tokens case_tokens element_tokens for_tokens head_tokens init_tokens item_tokens member_tokens method_tokens operand_tokens primary_tokens stmt_tokens target_tokens bind_property_tokens class_tokens cond_tokens decl_tokens func_tokens lhs_tokens params_tokens target_part_tokens layer)

pub bind_opens : (x : Bind) → bind_tokens x ≡ bind_mapped (out-Bind x)
unfolding arrow_tokens assign_tokens base_tokens bind_tokens case_tokens element_tokens for_tokens head_tokens init_tokens item_tokens member_tokens method_tokens operand_tokens primary_tokens stmt_tokens target_tokens bind_property_tokens class_tokens cond_tokens decl_tokens func_tokens lhs_tokens params_tokens target_part_tokens
bind_opens x = fold_out-Bind Tokens Tokens Tokens Tokens Tokens Tokens Tokens Tokens Tokens Tokens Tokens Tokens Tokens Tokens Tokens Tokens Tokens Tokens Tokens Tokens Tokens Tokens Tokens Tokens arrow_level assign_level base_level bind_level case_level element_level for_level head_level init_level item_level member_level method_level operand_level primary_level stmt_level target_level bind_property_level class_level cond_level decl_level func_level lhs_level params_level target_part_level x

abbrev pub target_mapped : Target-F Arrow Assign Base Bind Case Element For Head Init Item Member Method Operand Primary Stmt Target BindProperty Class Cond Decl Func LHS Params TargetPart → Tokens
target_mapped layer = target_level (map-Target Arrow Assign Base Bind Case Element For Head Init Item Member Method Operand Primary Stmt Target BindProperty Class Cond Decl Func LHS Params TargetPart Tokens Tokens Tokens Tokens Tokens Tokens Tokens Tokens Tokens Tokens Tokens Tokens Tokens Tokens Tokens Tokens Tokens Tokens Tokens Tokens Tokens Tokens Tokens Tokens arrow_tokens assign_tokens base_tokens bind_tokens case_tokens element_tokens for_tokens head_tokens init_tokens item_tokens member_tokens method_tokens operand_tokens primary_tokens stmt_tokens target_tokens bind_property_tokens class_tokens cond_tokens decl_tokens func_tokens lhs_tokens params_tokens target_part_tokens layer)

pub target_opens : (x : Target) → target_tokens x ≡ target_mapped (out-Target x)
unfolding arrow_tokens assign_tokens base_tokens bind_tokens case_tokens element_tokens for_tokens head_tokens init_tokens item_tokens member_tokens method_tokens operand_tokens primary_tokens stmt_tokens target_tokens bind_property_tokens class_tokens cond_tokens decl_tokens func_tokens lhs_tokens params_tokens target_part_tokens
target_opens x = fold_out-Target Tokens Tokens Tokens Tokens Tokens Tokens Tokens Tokens Tokens Tokens Tokens Tokens Tokens Tokens Tokens Tokens Tokens Tokens Tokens Tokens Tokens Tokens Tokens Tokens arrow_level assign_level base_level bind_level case_level element_level for_level head_level init_level item_level member_level method_level operand_level primary_level stmt_level target_level bind_property_level class_level cond_level decl_level func_level lhs_level params_level target_part_level x

abbrev pub target_part_mapped : TargetPart-F Arrow Assign Base Bind Case Element For Head Init Item Member Method Operand Primary Stmt Target BindProperty Class Cond Decl Func LHS Params TargetPart → Tokens
target_part_mapped layer = target_part_level (map-TargetPart Arrow Assign Base Bind Case Element For Head Init Item Member Method Operand Primary Stmt Target BindProperty Class Cond Decl Func LHS Params TargetPart Tokens Tokens Tokens Tokens Tokens Tokens Tokens Tokens Tokens Tokens Tokens Tokens Tokens Tokens Tokens Tokens Tokens Tokens Tokens Tokens Tokens Tokens Tokens Tokens arrow_tokens assign_tokens base_tokens bind_tokens case_tokens element_tokens for_tokens head_tokens init_tokens item_tokens member_tokens method_tokens operand_tokens primary_tokens stmt_tokens target_tokens bind_property_tokens class_tokens cond_tokens decl_tokens func_tokens lhs_tokens params_tokens target_part_tokens layer)

pub target_part_opens : (x : TargetPart) → target_part_tokens x ≡ target_part_mapped (out-TargetPart x)
unfolding arrow_tokens assign_tokens base_tokens bind_tokens case_tokens element_tokens for_tokens head_tokens init_tokens item_tokens member_tokens method_tokens operand_tokens primary_tokens stmt_tokens target_tokens bind_property_tokens class_tokens cond_tokens decl_tokens func_tokens lhs_tokens params_tokens target_part_tokens
target_part_opens x = fold_out-TargetPart Tokens Tokens Tokens Tokens Tokens Tokens Tokens Tokens Tokens Tokens Tokens Tokens Tokens Tokens Tokens Tokens Tokens Tokens Tokens Tokens Tokens Tokens Tokens Tokens arrow_level assign_level base_level bind_level case_level element_level for_level head_level init_level item_level member_level method_level operand_level primary_level stmt_level target_level bind_property_level class_level cond_level decl_level func_level lhs_level params_level target_part_level x

abbrev pub assign_mapped : Assign-F Arrow Assign Base Bind Case Element For Head Init Item Member Method Operand Primary Stmt Target BindProperty Class Cond Decl Func LHS Params TargetPart → Tokens
assign_mapped layer = assign_level (map-Assign Arrow Assign Base Bind Case Element For Head Init Item Member Method Operand Primary Stmt Target BindProperty Class Cond Decl Func LHS Params TargetPart Tokens Tokens Tokens Tokens Tokens Tokens Tokens Tokens Tokens Tokens Tokens Tokens Tokens Tokens Tokens Tokens Tokens Tokens Tokens Tokens Tokens Tokens Tokens Tokens arrow_tokens assign_tokens base_tokens bind_tokens case_tokens element_tokens for_tokens head_tokens init_tokens item_tokens member_tokens method_tokens operand_tokens primary_tokens stmt_tokens target_tokens bind_property_tokens class_tokens cond_tokens decl_tokens func_tokens lhs_tokens params_tokens target_part_tokens layer)

pub assign_opens : (x : Assign) → assign_tokens x ≡ assign_mapped (out-Assign x)
unfolding arrow_tokens assign_tokens base_tokens bind_tokens case_tokens element_tokens for_tokens head_tokens init_tokens item_tokens member_tokens method_tokens operand_tokens primary_tokens stmt_tokens target_tokens bind_property_tokens class_tokens cond_tokens decl_tokens func_tokens lhs_tokens params_tokens target_part_tokens
assign_opens x = fold_out-Assign Tokens Tokens Tokens Tokens Tokens Tokens Tokens Tokens Tokens Tokens Tokens Tokens Tokens Tokens Tokens Tokens Tokens Tokens Tokens Tokens Tokens Tokens Tokens Tokens arrow_level assign_level base_level bind_level case_level element_level for_level head_level init_level item_level member_level method_level operand_level primary_level stmt_level target_level bind_property_level class_level cond_level decl_level func_level lhs_level params_level target_part_level x

abbrev pub arrow_mapped : Arrow-F Arrow Assign Base Bind Case Element For Head Init Item Member Method Operand Primary Stmt Target BindProperty Class Cond Decl Func LHS Params TargetPart → Tokens
arrow_mapped layer = arrow_level (map-Arrow Arrow Assign Base Bind Case Element For Head Init Item Member Method Operand Primary Stmt Target BindProperty Class Cond Decl Func LHS Params TargetPart Tokens Tokens Tokens Tokens Tokens Tokens Tokens Tokens Tokens Tokens Tokens Tokens Tokens Tokens Tokens Tokens Tokens Tokens Tokens Tokens Tokens Tokens Tokens Tokens arrow_tokens assign_tokens base_tokens bind_tokens case_tokens element_tokens for_tokens head_tokens init_tokens item_tokens member_tokens method_tokens operand_tokens primary_tokens stmt_tokens target_tokens bind_property_tokens class_tokens cond_tokens decl_tokens func_tokens lhs_tokens params_tokens target_part_tokens layer)

pub arrow_opens : (x : Arrow) → arrow_tokens x ≡ arrow_mapped (out-Arrow x)
unfolding arrow_tokens assign_tokens base_tokens bind_tokens case_tokens element_tokens for_tokens head_tokens init_tokens item_tokens member_tokens method_tokens operand_tokens primary_tokens stmt_tokens target_tokens bind_property_tokens class_tokens cond_tokens decl_tokens func_tokens lhs_tokens params_tokens target_part_tokens
arrow_opens x = fold_out-Arrow Tokens Tokens Tokens Tokens Tokens Tokens Tokens Tokens Tokens Tokens Tokens Tokens Tokens Tokens Tokens Tokens Tokens Tokens Tokens Tokens Tokens Tokens Tokens Tokens arrow_level assign_level base_level bind_level case_level element_level for_level head_level init_level item_level member_level method_level operand_level primary_level stmt_level target_level bind_property_level class_level cond_level decl_level func_level lhs_level params_level target_part_level x

abbrev pub cond_mapped : Cond-F Arrow Assign Base Bind Case Element For Head Init Item Member Method Operand Primary Stmt Target BindProperty Class Cond Decl Func LHS Params TargetPart → Tokens
cond_mapped layer = cond_level (map-Cond Arrow Assign Base Bind Case Element For Head Init Item Member Method Operand Primary Stmt Target BindProperty Class Cond Decl Func LHS Params TargetPart Tokens Tokens Tokens Tokens Tokens Tokens Tokens Tokens Tokens Tokens Tokens Tokens Tokens Tokens Tokens Tokens Tokens Tokens Tokens Tokens Tokens Tokens Tokens Tokens arrow_tokens assign_tokens base_tokens bind_tokens case_tokens element_tokens for_tokens head_tokens init_tokens item_tokens member_tokens method_tokens operand_tokens primary_tokens stmt_tokens target_tokens bind_property_tokens class_tokens cond_tokens decl_tokens func_tokens lhs_tokens params_tokens target_part_tokens layer)

pub cond_opens : (x : Cond) → cond_tokens x ≡ cond_mapped (out-Cond x)
unfolding arrow_tokens assign_tokens base_tokens bind_tokens case_tokens element_tokens for_tokens head_tokens init_tokens item_tokens member_tokens method_tokens operand_tokens primary_tokens stmt_tokens target_tokens bind_property_tokens class_tokens cond_tokens decl_tokens func_tokens lhs_tokens params_tokens target_part_tokens
cond_opens x = fold_out-Cond Tokens Tokens Tokens Tokens Tokens Tokens Tokens Tokens Tokens Tokens Tokens Tokens Tokens Tokens Tokens Tokens Tokens Tokens Tokens Tokens Tokens Tokens Tokens Tokens arrow_level assign_level base_level bind_level case_level element_level for_level head_level init_level item_level member_level method_level operand_level primary_level stmt_level target_level bind_property_level class_level cond_level decl_level func_level lhs_level params_level target_part_level x

abbrev pub operand_mapped : Operand-F Arrow Assign Base Bind Case Element For Head Init Item Member Method Operand Primary Stmt Target BindProperty Class Cond Decl Func LHS Params TargetPart → Tokens
operand_mapped layer = operand_level (map-Operand Arrow Assign Base Bind Case Element For Head Init Item Member Method Operand Primary Stmt Target BindProperty Class Cond Decl Func LHS Params TargetPart Tokens Tokens Tokens Tokens Tokens Tokens Tokens Tokens Tokens Tokens Tokens Tokens Tokens Tokens Tokens Tokens Tokens Tokens Tokens Tokens Tokens Tokens Tokens Tokens arrow_tokens assign_tokens base_tokens bind_tokens case_tokens element_tokens for_tokens head_tokens init_tokens item_tokens member_tokens method_tokens operand_tokens primary_tokens stmt_tokens target_tokens bind_property_tokens class_tokens cond_tokens decl_tokens func_tokens lhs_tokens params_tokens target_part_tokens layer)

pub operand_opens : (x : Operand) → operand_tokens x ≡ operand_mapped (out-Operand x)
unfolding arrow_tokens assign_tokens base_tokens bind_tokens case_tokens element_tokens for_tokens head_tokens init_tokens item_tokens member_tokens method_tokens operand_tokens primary_tokens stmt_tokens target_tokens bind_property_tokens class_tokens cond_tokens decl_tokens func_tokens lhs_tokens params_tokens target_part_tokens
operand_opens x = fold_out-Operand Tokens Tokens Tokens Tokens Tokens Tokens Tokens Tokens Tokens Tokens Tokens Tokens Tokens Tokens Tokens Tokens Tokens Tokens Tokens Tokens Tokens Tokens Tokens Tokens arrow_level assign_level base_level bind_level case_level element_level for_level head_level init_level item_level member_level method_level operand_level primary_level stmt_level target_level bind_property_level class_level cond_level decl_level func_level lhs_level params_level target_part_level x

abbrev pub lhs_mapped : LHS-F Arrow Assign Base Bind Case Element For Head Init Item Member Method Operand Primary Stmt Target BindProperty Class Cond Decl Func LHS Params TargetPart → Tokens
lhs_mapped layer = lhs_level (map-LHS Arrow Assign Base Bind Case Element For Head Init Item Member Method Operand Primary Stmt Target BindProperty Class Cond Decl Func LHS Params TargetPart Tokens Tokens Tokens Tokens Tokens Tokens Tokens Tokens Tokens Tokens Tokens Tokens Tokens Tokens Tokens Tokens Tokens Tokens Tokens Tokens Tokens Tokens Tokens Tokens arrow_tokens assign_tokens base_tokens bind_tokens case_tokens element_tokens for_tokens head_tokens init_tokens item_tokens member_tokens method_tokens operand_tokens primary_tokens stmt_tokens target_tokens bind_property_tokens class_tokens cond_tokens decl_tokens func_tokens lhs_tokens params_tokens target_part_tokens layer)

pub lhs_opens : (x : LHS) → lhs_tokens x ≡ lhs_mapped (out-LHS x)
unfolding arrow_tokens assign_tokens base_tokens bind_tokens case_tokens element_tokens for_tokens head_tokens init_tokens item_tokens member_tokens method_tokens operand_tokens primary_tokens stmt_tokens target_tokens bind_property_tokens class_tokens cond_tokens decl_tokens func_tokens lhs_tokens params_tokens target_part_tokens
lhs_opens x = fold_out-LHS Tokens Tokens Tokens Tokens Tokens Tokens Tokens Tokens Tokens Tokens Tokens Tokens Tokens Tokens Tokens Tokens Tokens Tokens Tokens Tokens Tokens Tokens Tokens Tokens arrow_level assign_level base_level bind_level case_level element_level for_level head_level init_level item_level member_level method_level operand_level primary_level stmt_level target_level bind_property_level class_level cond_level decl_level func_level lhs_level params_level target_part_level x

abbrev pub member_mapped : Member-F Arrow Assign Base Bind Case Element For Head Init Item Member Method Operand Primary Stmt Target BindProperty Class Cond Decl Func LHS Params TargetPart → Tokens
member_mapped layer = member_level (map-Member Arrow Assign Base Bind Case Element For Head Init Item Member Method Operand Primary Stmt Target BindProperty Class Cond Decl Func LHS Params TargetPart Tokens Tokens Tokens Tokens Tokens Tokens Tokens Tokens Tokens Tokens Tokens Tokens Tokens Tokens Tokens Tokens Tokens Tokens Tokens Tokens Tokens Tokens Tokens Tokens arrow_tokens assign_tokens base_tokens bind_tokens case_tokens element_tokens for_tokens head_tokens init_tokens item_tokens member_tokens method_tokens operand_tokens primary_tokens stmt_tokens target_tokens bind_property_tokens class_tokens cond_tokens decl_tokens func_tokens lhs_tokens params_tokens target_part_tokens layer)

pub member_opens : (x : Member) → member_tokens x ≡ member_mapped (out-Member x)
unfolding arrow_tokens assign_tokens base_tokens bind_tokens case_tokens element_tokens for_tokens head_tokens init_tokens item_tokens member_tokens method_tokens operand_tokens primary_tokens stmt_tokens target_tokens bind_property_tokens class_tokens cond_tokens decl_tokens func_tokens lhs_tokens params_tokens target_part_tokens
member_opens x = fold_out-Member Tokens Tokens Tokens Tokens Tokens Tokens Tokens Tokens Tokens Tokens Tokens Tokens Tokens Tokens Tokens Tokens Tokens Tokens Tokens Tokens Tokens Tokens Tokens Tokens arrow_level assign_level base_level bind_level case_level element_level for_level head_level init_level item_level member_level method_level operand_level primary_level stmt_level target_level bind_property_level class_level cond_level decl_level func_level lhs_level params_level target_part_level x

abbrev pub primary_mapped : Primary-F Arrow Assign Base Bind Case Element For Head Init Item Member Method Operand Primary Stmt Target BindProperty Class Cond Decl Func LHS Params TargetPart → Tokens
primary_mapped layer = primary_level (map-Primary Arrow Assign Base Bind Case Element For Head Init Item Member Method Operand Primary Stmt Target BindProperty Class Cond Decl Func LHS Params TargetPart Tokens Tokens Tokens Tokens Tokens Tokens Tokens Tokens Tokens Tokens Tokens Tokens Tokens Tokens Tokens Tokens Tokens Tokens Tokens Tokens Tokens Tokens Tokens Tokens arrow_tokens assign_tokens base_tokens bind_tokens case_tokens element_tokens for_tokens head_tokens init_tokens item_tokens member_tokens method_tokens operand_tokens primary_tokens stmt_tokens target_tokens bind_property_tokens class_tokens cond_tokens decl_tokens func_tokens lhs_tokens params_tokens target_part_tokens layer)

pub primary_opens : (x : Primary) → primary_tokens x ≡ primary_mapped (out-Primary x)
unfolding arrow_tokens assign_tokens base_tokens bind_tokens case_tokens element_tokens for_tokens head_tokens init_tokens item_tokens member_tokens method_tokens operand_tokens primary_tokens stmt_tokens target_tokens bind_property_tokens class_tokens cond_tokens decl_tokens func_tokens lhs_tokens params_tokens target_part_tokens
primary_opens x = fold_out-Primary Tokens Tokens Tokens Tokens Tokens Tokens Tokens Tokens Tokens Tokens Tokens Tokens Tokens Tokens Tokens Tokens Tokens Tokens Tokens Tokens Tokens Tokens Tokens Tokens arrow_level assign_level base_level bind_level case_level element_level for_level head_level init_level item_level member_level method_level operand_level primary_level stmt_level target_level bind_property_level class_level cond_level decl_level func_level lhs_level params_level target_part_level x

abbrev pub base_mapped : Base-F Arrow Assign Base Bind Case Element For Head Init Item Member Method Operand Primary Stmt Target BindProperty Class Cond Decl Func LHS Params TargetPart → Tokens
base_mapped layer = base_level (map-Base Arrow Assign Base Bind Case Element For Head Init Item Member Method Operand Primary Stmt Target BindProperty Class Cond Decl Func LHS Params TargetPart Tokens Tokens Tokens Tokens Tokens Tokens Tokens Tokens Tokens Tokens Tokens Tokens Tokens Tokens Tokens Tokens Tokens Tokens Tokens Tokens Tokens Tokens Tokens Tokens arrow_tokens assign_tokens base_tokens bind_tokens case_tokens element_tokens for_tokens head_tokens init_tokens item_tokens member_tokens method_tokens operand_tokens primary_tokens stmt_tokens target_tokens bind_property_tokens class_tokens cond_tokens decl_tokens func_tokens lhs_tokens params_tokens target_part_tokens layer)

pub base_opens : (x : Base) → base_tokens x ≡ base_mapped (out-Base x)
unfolding arrow_tokens assign_tokens base_tokens bind_tokens case_tokens element_tokens for_tokens head_tokens init_tokens item_tokens member_tokens method_tokens operand_tokens primary_tokens stmt_tokens target_tokens bind_property_tokens class_tokens cond_tokens decl_tokens func_tokens lhs_tokens params_tokens target_part_tokens
base_opens x = fold_out-Base Tokens Tokens Tokens Tokens Tokens Tokens Tokens Tokens Tokens Tokens Tokens Tokens Tokens Tokens Tokens Tokens Tokens Tokens Tokens Tokens Tokens Tokens Tokens Tokens arrow_level assign_level base_level bind_level case_level element_level for_level head_level init_level item_level member_level method_level operand_level primary_level stmt_level target_level bind_property_level class_level cond_level decl_level func_level lhs_level params_level target_part_level x
