-- One level of each production, with the marks of its parts in their places.
use Rattle.std.specs.Prelude.{◌≡◌}
use Rattle.es_tree.specs.declared.cycle.Arrow.TheOpen.{Arrow-F, Assign-F, Base-F, Bind-F, Case-F, Element-F, For-F, Head-F, Init-F, Item-F, Member-F, Method-F, Operand-F, Primary-F, Stmt-F, Target-F, BindProperty-F, Class-F, Cond-F, Decl-F, Func-F, LHS-F, Params-F, TargetPart-F}
use Rattle.es_tree.specs.declared.cycle.Item.{Item, out-Item, map-Item, fold_out-Item}
use Rattle.es_tree.specs.declared.cycle.Decl.{Decl, out-Decl, map-Decl, fold_out-Decl}
use Rattle.es_tree.specs.declared.cycle.Case.{Case, out-Case, map-Case, fold_out-Case}
use Rattle.es_tree.specs.declared.cycle.Stmt.{Stmt, out-Stmt, map-Stmt, fold_out-Stmt}
use Rattle.es_tree.specs.declared.cycle.Init.{Init, out-Init, map-Init, fold_out-Init}
use Rattle.es_tree.specs.declared.cycle.For.{For, out-For, map-For, fold_out-For}
use Rattle.es_tree.specs.declared.cycle.Head.{Head, out-Head, map-Head, fold_out-Head}
use Rattle.es_tree.specs.declared.cycle.Func.{Func, out-Func, map-Func, fold_out-Func}
use Rattle.es_tree.specs.declared.cycle.Params.{Params, out-Params, map-Params, fold_out-Params}
use Rattle.es_tree.specs.declared.cycle.Class.{Class, out-Class, map-Class, fold_out-Class}
use Rattle.es_tree.specs.declared.cycle.Element.{Element, out-Element, map-Element, fold_out-Element}
use Rattle.es_tree.specs.declared.cycle.Method.{Method, out-Method, map-Method, fold_out-Method}
use Rattle.es_tree.specs.declared.cycle.BindProperty.{BindProperty, out-BindProperty, map-BindProperty, fold_out-BindProperty}
use Rattle.es_tree.specs.declared.cycle.Bind.{Bind, out-Bind, map-Bind, fold_out-Bind}
use Rattle.es_tree.specs.declared.cycle.Target.{Target, out-Target, map-Target, fold_out-Target}
use Rattle.es_tree.specs.declared.cycle.TargetPart.{TargetPart, out-TargetPart, map-TargetPart, fold_out-TargetPart}
use Rattle.es_tree.specs.declared.cycle.Assign.{Assign, out-Assign, map-Assign, fold_out-Assign}
use Rattle.es_tree.specs.declared.cycle.Arrow.{Arrow, out-Arrow, map-Arrow, fold_out-Arrow}
use Rattle.es_tree.specs.declared.cycle.Cond.{Cond, out-Cond, map-Cond, fold_out-Cond}
use Rattle.es_tree.specs.declared.cycle.Operand.{Operand, out-Operand, map-Operand, fold_out-Operand}
use Rattle.es_tree.specs.declared.cycle.LHS.{LHS, out-LHS, map-LHS, fold_out-LHS}
use Rattle.es_tree.specs.declared.cycle.Member.{Member, out-Member, map-Member, fold_out-Member}
use Rattle.es_tree.specs.declared.cycle.Primary.{Primary, out-Primary, map-Primary, fold_out-Primary}
use Rattle.es_tree.specs.declared.cycle.Base.{Base, out-Base, map-Base, fold_out-Base}
use Rattle.es_outline.specs.Outline.{Lays, PartLays, arrow_marks, assign_marks, base_marks, bind_marks, case_marks, element_marks, for_marks, head_marks, init_marks, item_marks, member_marks, method_marks, operand_marks, primary_marks, stmt_marks, target_marks, bind_property_marks, class_marks, cond_marks, decl_marks, func_marks, lhs_marks, params_marks, target_part_marks, arrow_level, assign_level, base_level, bind_level, case_level, element_level, for_level, head_level, init_level, item_level, member_level, method_level, operand_level, primary_level, stmt_level, target_level, bind_property_level, class_level, cond_level, decl_level, func_level, lhs_level, params_level, target_part_level}

abbrev pub item_mapped : Item-F Arrow Assign Base Bind Case Element For Head Init Item Member Method Operand Primary Stmt Target BindProperty Class Cond Decl Func LHS Params TargetPart → Lays
item_mapped layer = item_level (map-Item Arrow Assign Base Bind Case Element For Head Init Item Member Method Operand Primary Stmt Target BindProperty Class Cond Decl Func LHS Params TargetPart Lays Lays Lays Lays Lays Lays Lays Lays Lays Lays Lays Lays Lays Lays Lays Lays Lays Lays Lays Lays Lays Lays Lays PartLays arrow_marks assign_marks base_marks bind_marks case_marks element_marks for_marks head_marks init_marks item_marks member_marks method_marks operand_marks primary_marks stmt_marks target_marks bind_property_marks class_marks cond_marks decl_marks func_marks lhs_marks params_marks target_part_marks layer)

pub item_opens : (x : Item) → item_marks x ≡ item_mapped (out-Item x)
unfolding arrow_marks assign_marks base_marks bind_marks case_marks element_marks for_marks head_marks init_marks item_marks member_marks method_marks operand_marks primary_marks stmt_marks target_marks bind_property_marks class_marks cond_marks decl_marks func_marks lhs_marks params_marks target_part_marks
item_opens x = fold_out-Item Lays Lays Lays Lays Lays Lays Lays Lays Lays Lays Lays Lays Lays Lays Lays Lays Lays Lays Lays Lays Lays Lays Lays PartLays arrow_level assign_level base_level bind_level case_level element_level for_level head_level init_level item_level member_level method_level operand_level primary_level stmt_level target_level bind_property_level class_level cond_level decl_level func_level lhs_level params_level target_part_level x

abbrev pub decl_mapped : Decl-F Arrow Assign Base Bind Case Element For Head Init Item Member Method Operand Primary Stmt Target BindProperty Class Cond Decl Func LHS Params TargetPart → Lays
decl_mapped layer = decl_level (map-Decl Arrow Assign Base Bind Case Element For Head Init Item Member Method Operand Primary Stmt Target BindProperty Class Cond Decl Func LHS Params TargetPart Lays Lays Lays Lays Lays Lays Lays Lays Lays Lays Lays Lays Lays Lays Lays Lays Lays Lays Lays Lays Lays Lays Lays PartLays arrow_marks assign_marks base_marks bind_marks case_marks element_marks for_marks head_marks init_marks item_marks member_marks method_marks operand_marks primary_marks stmt_marks target_marks bind_property_marks class_marks cond_marks decl_marks func_marks lhs_marks params_marks target_part_marks layer)

pub decl_opens : (x : Decl) → decl_marks x ≡ decl_mapped (out-Decl x)
unfolding arrow_marks assign_marks base_marks bind_marks case_marks element_marks for_marks head_marks init_marks item_marks member_marks method_marks operand_marks primary_marks stmt_marks target_marks bind_property_marks class_marks cond_marks decl_marks func_marks lhs_marks params_marks target_part_marks
decl_opens x = fold_out-Decl Lays Lays Lays Lays Lays Lays Lays Lays Lays Lays Lays Lays Lays Lays Lays Lays Lays Lays Lays Lays Lays Lays Lays PartLays arrow_level assign_level base_level bind_level case_level element_level for_level head_level init_level item_level member_level method_level operand_level primary_level stmt_level target_level bind_property_level class_level cond_level decl_level func_level lhs_level params_level target_part_level x

abbrev pub case_mapped : Case-F Arrow Assign Base Bind Case Element For Head Init Item Member Method Operand Primary Stmt Target BindProperty Class Cond Decl Func LHS Params TargetPart → Lays
case_mapped layer = case_level (map-Case Arrow Assign Base Bind Case Element For Head Init Item Member Method Operand Primary Stmt Target BindProperty Class Cond Decl Func LHS Params TargetPart Lays Lays Lays Lays Lays Lays Lays Lays Lays Lays Lays Lays Lays Lays Lays Lays Lays Lays Lays Lays Lays Lays Lays PartLays arrow_marks assign_marks base_marks bind_marks case_marks element_marks for_marks head_marks init_marks item_marks member_marks method_marks operand_marks primary_marks stmt_marks target_marks bind_property_marks class_marks cond_marks decl_marks func_marks lhs_marks params_marks target_part_marks layer)

pub case_opens : (x : Case) → case_marks x ≡ case_mapped (out-Case x)
unfolding arrow_marks assign_marks base_marks bind_marks case_marks element_marks for_marks head_marks init_marks item_marks member_marks method_marks operand_marks primary_marks stmt_marks target_marks bind_property_marks class_marks cond_marks decl_marks func_marks lhs_marks params_marks target_part_marks
case_opens x = fold_out-Case Lays Lays Lays Lays Lays Lays Lays Lays Lays Lays Lays Lays Lays Lays Lays Lays Lays Lays Lays Lays Lays Lays Lays PartLays arrow_level assign_level base_level bind_level case_level element_level for_level head_level init_level item_level member_level method_level operand_level primary_level stmt_level target_level bind_property_level class_level cond_level decl_level func_level lhs_level params_level target_part_level x

abbrev pub stmt_mapped : Stmt-F Arrow Assign Base Bind Case Element For Head Init Item Member Method Operand Primary Stmt Target BindProperty Class Cond Decl Func LHS Params TargetPart → Lays
stmt_mapped layer = stmt_level (map-Stmt Arrow Assign Base Bind Case Element For Head Init Item Member Method Operand Primary Stmt Target BindProperty Class Cond Decl Func LHS Params TargetPart Lays Lays Lays Lays Lays Lays Lays Lays Lays Lays Lays Lays Lays Lays Lays Lays Lays Lays Lays Lays Lays Lays Lays PartLays arrow_marks assign_marks base_marks bind_marks case_marks element_marks for_marks head_marks init_marks item_marks member_marks method_marks operand_marks primary_marks stmt_marks target_marks bind_property_marks class_marks cond_marks decl_marks func_marks lhs_marks params_marks target_part_marks layer)

pub stmt_opens : (x : Stmt) → stmt_marks x ≡ stmt_mapped (out-Stmt x)
unfolding arrow_marks assign_marks base_marks bind_marks case_marks element_marks for_marks head_marks init_marks item_marks member_marks method_marks operand_marks primary_marks stmt_marks target_marks bind_property_marks class_marks cond_marks decl_marks func_marks lhs_marks params_marks target_part_marks
stmt_opens x = fold_out-Stmt Lays Lays Lays Lays Lays Lays Lays Lays Lays Lays Lays Lays Lays Lays Lays Lays Lays Lays Lays Lays Lays Lays Lays PartLays arrow_level assign_level base_level bind_level case_level element_level for_level head_level init_level item_level member_level method_level operand_level primary_level stmt_level target_level bind_property_level class_level cond_level decl_level func_level lhs_level params_level target_part_level x

abbrev pub init_mapped : Init-F Arrow Assign Base Bind Case Element For Head Init Item Member Method Operand Primary Stmt Target BindProperty Class Cond Decl Func LHS Params TargetPart → Lays
init_mapped layer = init_level (map-Init Arrow Assign Base Bind Case Element For Head Init Item Member Method Operand Primary Stmt Target BindProperty Class Cond Decl Func LHS Params TargetPart Lays Lays Lays Lays Lays Lays Lays Lays Lays Lays Lays Lays Lays Lays Lays Lays Lays Lays Lays Lays Lays Lays Lays PartLays arrow_marks assign_marks base_marks bind_marks case_marks element_marks for_marks head_marks init_marks item_marks member_marks method_marks operand_marks primary_marks stmt_marks target_marks bind_property_marks class_marks cond_marks decl_marks func_marks lhs_marks params_marks target_part_marks layer)

pub init_opens : (x : Init) → init_marks x ≡ init_mapped (out-Init x)
unfolding arrow_marks assign_marks base_marks bind_marks case_marks element_marks for_marks head_marks init_marks item_marks member_marks method_marks operand_marks primary_marks stmt_marks target_marks bind_property_marks class_marks cond_marks decl_marks func_marks lhs_marks params_marks target_part_marks
init_opens x = fold_out-Init Lays Lays Lays Lays Lays Lays Lays Lays Lays Lays Lays Lays Lays Lays Lays Lays Lays Lays Lays Lays Lays Lays Lays PartLays arrow_level assign_level base_level bind_level case_level element_level for_level head_level init_level item_level member_level method_level operand_level primary_level stmt_level target_level bind_property_level class_level cond_level decl_level func_level lhs_level params_level target_part_level x

abbrev pub for_mapped : For-F Arrow Assign Base Bind Case Element For Head Init Item Member Method Operand Primary Stmt Target BindProperty Class Cond Decl Func LHS Params TargetPart → Lays
for_mapped layer = for_level (map-For Arrow Assign Base Bind Case Element For Head Init Item Member Method Operand Primary Stmt Target BindProperty Class Cond Decl Func LHS Params TargetPart Lays Lays Lays Lays Lays Lays Lays Lays Lays Lays Lays Lays Lays Lays Lays Lays Lays Lays Lays Lays Lays Lays Lays PartLays arrow_marks assign_marks base_marks bind_marks case_marks element_marks for_marks head_marks init_marks item_marks member_marks method_marks operand_marks primary_marks stmt_marks target_marks bind_property_marks class_marks cond_marks decl_marks func_marks lhs_marks params_marks target_part_marks layer)

pub for_opens : (x : For) → for_marks x ≡ for_mapped (out-For x)
unfolding arrow_marks assign_marks base_marks bind_marks case_marks element_marks for_marks head_marks init_marks item_marks member_marks method_marks operand_marks primary_marks stmt_marks target_marks bind_property_marks class_marks cond_marks decl_marks func_marks lhs_marks params_marks target_part_marks
for_opens x = fold_out-For Lays Lays Lays Lays Lays Lays Lays Lays Lays Lays Lays Lays Lays Lays Lays Lays Lays Lays Lays Lays Lays Lays Lays PartLays arrow_level assign_level base_level bind_level case_level element_level for_level head_level init_level item_level member_level method_level operand_level primary_level stmt_level target_level bind_property_level class_level cond_level decl_level func_level lhs_level params_level target_part_level x

abbrev pub head_mapped : Head-F Arrow Assign Base Bind Case Element For Head Init Item Member Method Operand Primary Stmt Target BindProperty Class Cond Decl Func LHS Params TargetPart → Lays
head_mapped layer = head_level (map-Head Arrow Assign Base Bind Case Element For Head Init Item Member Method Operand Primary Stmt Target BindProperty Class Cond Decl Func LHS Params TargetPart Lays Lays Lays Lays Lays Lays Lays Lays Lays Lays Lays Lays Lays Lays Lays Lays Lays Lays Lays Lays Lays Lays Lays PartLays arrow_marks assign_marks base_marks bind_marks case_marks element_marks for_marks head_marks init_marks item_marks member_marks method_marks operand_marks primary_marks stmt_marks target_marks bind_property_marks class_marks cond_marks decl_marks func_marks lhs_marks params_marks target_part_marks layer)

pub head_opens : (x : Head) → head_marks x ≡ head_mapped (out-Head x)
unfolding arrow_marks assign_marks base_marks bind_marks case_marks element_marks for_marks head_marks init_marks item_marks member_marks method_marks operand_marks primary_marks stmt_marks target_marks bind_property_marks class_marks cond_marks decl_marks func_marks lhs_marks params_marks target_part_marks
head_opens x = fold_out-Head Lays Lays Lays Lays Lays Lays Lays Lays Lays Lays Lays Lays Lays Lays Lays Lays Lays Lays Lays Lays Lays Lays Lays PartLays arrow_level assign_level base_level bind_level case_level element_level for_level head_level init_level item_level member_level method_level operand_level primary_level stmt_level target_level bind_property_level class_level cond_level decl_level func_level lhs_level params_level target_part_level x

abbrev pub func_mapped : Func-F Arrow Assign Base Bind Case Element For Head Init Item Member Method Operand Primary Stmt Target BindProperty Class Cond Decl Func LHS Params TargetPart → Lays
func_mapped layer = func_level (map-Func Arrow Assign Base Bind Case Element For Head Init Item Member Method Operand Primary Stmt Target BindProperty Class Cond Decl Func LHS Params TargetPart Lays Lays Lays Lays Lays Lays Lays Lays Lays Lays Lays Lays Lays Lays Lays Lays Lays Lays Lays Lays Lays Lays Lays PartLays arrow_marks assign_marks base_marks bind_marks case_marks element_marks for_marks head_marks init_marks item_marks member_marks method_marks operand_marks primary_marks stmt_marks target_marks bind_property_marks class_marks cond_marks decl_marks func_marks lhs_marks params_marks target_part_marks layer)

pub func_opens : (x : Func) → func_marks x ≡ func_mapped (out-Func x)
unfolding arrow_marks assign_marks base_marks bind_marks case_marks element_marks for_marks head_marks init_marks item_marks member_marks method_marks operand_marks primary_marks stmt_marks target_marks bind_property_marks class_marks cond_marks decl_marks func_marks lhs_marks params_marks target_part_marks
func_opens x = fold_out-Func Lays Lays Lays Lays Lays Lays Lays Lays Lays Lays Lays Lays Lays Lays Lays Lays Lays Lays Lays Lays Lays Lays Lays PartLays arrow_level assign_level base_level bind_level case_level element_level for_level head_level init_level item_level member_level method_level operand_level primary_level stmt_level target_level bind_property_level class_level cond_level decl_level func_level lhs_level params_level target_part_level x

abbrev pub params_mapped : Params-F Arrow Assign Base Bind Case Element For Head Init Item Member Method Operand Primary Stmt Target BindProperty Class Cond Decl Func LHS Params TargetPart → Lays
params_mapped layer = params_level (map-Params Arrow Assign Base Bind Case Element For Head Init Item Member Method Operand Primary Stmt Target BindProperty Class Cond Decl Func LHS Params TargetPart Lays Lays Lays Lays Lays Lays Lays Lays Lays Lays Lays Lays Lays Lays Lays Lays Lays Lays Lays Lays Lays Lays Lays PartLays arrow_marks assign_marks base_marks bind_marks case_marks element_marks for_marks head_marks init_marks item_marks member_marks method_marks operand_marks primary_marks stmt_marks target_marks bind_property_marks class_marks cond_marks decl_marks func_marks lhs_marks params_marks target_part_marks layer)

pub params_opens : (x : Params) → params_marks x ≡ params_mapped (out-Params x)
unfolding arrow_marks assign_marks base_marks bind_marks case_marks element_marks for_marks head_marks init_marks item_marks member_marks method_marks operand_marks primary_marks stmt_marks target_marks bind_property_marks class_marks cond_marks decl_marks func_marks lhs_marks params_marks target_part_marks
params_opens x = fold_out-Params Lays Lays Lays Lays Lays Lays Lays Lays Lays Lays Lays Lays Lays Lays Lays Lays Lays Lays Lays Lays Lays Lays Lays PartLays arrow_level assign_level base_level bind_level case_level element_level for_level head_level init_level item_level member_level method_level operand_level primary_level stmt_level target_level bind_property_level class_level cond_level decl_level func_level lhs_level params_level target_part_level x

abbrev pub class_mapped : Class-F Arrow Assign Base Bind Case Element For Head Init Item Member Method Operand Primary Stmt Target BindProperty Class Cond Decl Func LHS Params TargetPart → Lays
class_mapped layer = class_level (map-Class Arrow Assign Base Bind Case Element For Head Init Item Member Method Operand Primary Stmt Target BindProperty Class Cond Decl Func LHS Params TargetPart Lays Lays Lays Lays Lays Lays Lays Lays Lays Lays Lays Lays Lays Lays Lays Lays Lays Lays Lays Lays Lays Lays Lays PartLays arrow_marks assign_marks base_marks bind_marks case_marks element_marks for_marks head_marks init_marks item_marks member_marks method_marks operand_marks primary_marks stmt_marks target_marks bind_property_marks class_marks cond_marks decl_marks func_marks lhs_marks params_marks target_part_marks layer)

pub class_opens : (x : Class) → class_marks x ≡ class_mapped (out-Class x)
unfolding arrow_marks assign_marks base_marks bind_marks case_marks element_marks for_marks head_marks init_marks item_marks member_marks method_marks operand_marks primary_marks stmt_marks target_marks bind_property_marks class_marks cond_marks decl_marks func_marks lhs_marks params_marks target_part_marks
class_opens x = fold_out-Class Lays Lays Lays Lays Lays Lays Lays Lays Lays Lays Lays Lays Lays Lays Lays Lays Lays Lays Lays Lays Lays Lays Lays PartLays arrow_level assign_level base_level bind_level case_level element_level for_level head_level init_level item_level member_level method_level operand_level primary_level stmt_level target_level bind_property_level class_level cond_level decl_level func_level lhs_level params_level target_part_level x

abbrev pub element_mapped : Element-F Arrow Assign Base Bind Case Element For Head Init Item Member Method Operand Primary Stmt Target BindProperty Class Cond Decl Func LHS Params TargetPart → Lays
element_mapped layer = element_level (map-Element Arrow Assign Base Bind Case Element For Head Init Item Member Method Operand Primary Stmt Target BindProperty Class Cond Decl Func LHS Params TargetPart Lays Lays Lays Lays Lays Lays Lays Lays Lays Lays Lays Lays Lays Lays Lays Lays Lays Lays Lays Lays Lays Lays Lays PartLays arrow_marks assign_marks base_marks bind_marks case_marks element_marks for_marks head_marks init_marks item_marks member_marks method_marks operand_marks primary_marks stmt_marks target_marks bind_property_marks class_marks cond_marks decl_marks func_marks lhs_marks params_marks target_part_marks layer)

pub element_opens : (x : Element) → element_marks x ≡ element_mapped (out-Element x)
unfolding arrow_marks assign_marks base_marks bind_marks case_marks element_marks for_marks head_marks init_marks item_marks member_marks method_marks operand_marks primary_marks stmt_marks target_marks bind_property_marks class_marks cond_marks decl_marks func_marks lhs_marks params_marks target_part_marks
element_opens x = fold_out-Element Lays Lays Lays Lays Lays Lays Lays Lays Lays Lays Lays Lays Lays Lays Lays Lays Lays Lays Lays Lays Lays Lays Lays PartLays arrow_level assign_level base_level bind_level case_level element_level for_level head_level init_level item_level member_level method_level operand_level primary_level stmt_level target_level bind_property_level class_level cond_level decl_level func_level lhs_level params_level target_part_level x

abbrev pub method_mapped : Method-F Arrow Assign Base Bind Case Element For Head Init Item Member Method Operand Primary Stmt Target BindProperty Class Cond Decl Func LHS Params TargetPart → Lays
method_mapped layer = method_level (map-Method Arrow Assign Base Bind Case Element For Head Init Item Member Method Operand Primary Stmt Target BindProperty Class Cond Decl Func LHS Params TargetPart Lays Lays Lays Lays Lays Lays Lays Lays Lays Lays Lays Lays Lays Lays Lays Lays Lays Lays Lays Lays Lays Lays Lays PartLays arrow_marks assign_marks base_marks bind_marks case_marks element_marks for_marks head_marks init_marks item_marks member_marks method_marks operand_marks primary_marks stmt_marks target_marks bind_property_marks class_marks cond_marks decl_marks func_marks lhs_marks params_marks target_part_marks layer)

pub method_opens : (x : Method) → method_marks x ≡ method_mapped (out-Method x)
unfolding arrow_marks assign_marks base_marks bind_marks case_marks element_marks for_marks head_marks init_marks item_marks member_marks method_marks operand_marks primary_marks stmt_marks target_marks bind_property_marks class_marks cond_marks decl_marks func_marks lhs_marks params_marks target_part_marks
method_opens x = fold_out-Method Lays Lays Lays Lays Lays Lays Lays Lays Lays Lays Lays Lays Lays Lays Lays Lays Lays Lays Lays Lays Lays Lays Lays PartLays arrow_level assign_level base_level bind_level case_level element_level for_level head_level init_level item_level member_level method_level operand_level primary_level stmt_level target_level bind_property_level class_level cond_level decl_level func_level lhs_level params_level target_part_level x

abbrev pub bind_property_mapped : BindProperty-F Arrow Assign Base Bind Case Element For Head Init Item Member Method Operand Primary Stmt Target BindProperty Class Cond Decl Func LHS Params TargetPart → Lays
bind_property_mapped layer = bind_property_level (map-BindProperty Arrow Assign Base Bind Case Element For Head Init Item Member Method Operand Primary Stmt Target BindProperty Class Cond Decl Func LHS Params TargetPart Lays Lays Lays Lays Lays Lays Lays Lays Lays Lays Lays Lays Lays Lays Lays Lays Lays Lays Lays Lays Lays Lays Lays PartLays arrow_marks assign_marks base_marks bind_marks case_marks element_marks for_marks head_marks init_marks item_marks member_marks method_marks operand_marks primary_marks stmt_marks target_marks bind_property_marks class_marks cond_marks decl_marks func_marks lhs_marks params_marks target_part_marks layer)

pub bind_property_opens : (x : BindProperty) → bind_property_marks x ≡ bind_property_mapped (out-BindProperty x)
unfolding arrow_marks assign_marks base_marks bind_marks case_marks element_marks for_marks head_marks init_marks item_marks member_marks method_marks operand_marks primary_marks stmt_marks target_marks bind_property_marks class_marks cond_marks decl_marks func_marks lhs_marks params_marks target_part_marks
bind_property_opens x = fold_out-BindProperty Lays Lays Lays Lays Lays Lays Lays Lays Lays Lays Lays Lays Lays Lays Lays Lays Lays Lays Lays Lays Lays Lays Lays PartLays arrow_level assign_level base_level bind_level case_level element_level for_level head_level init_level item_level member_level method_level operand_level primary_level stmt_level target_level bind_property_level class_level cond_level decl_level func_level lhs_level params_level target_part_level x

abbrev pub bind_mapped : Bind-F Arrow Assign Base Bind Case Element For Head Init Item Member Method Operand Primary Stmt Target BindProperty Class Cond Decl Func LHS Params TargetPart → Lays
bind_mapped layer = bind_level (map-Bind Arrow Assign Base Bind Case Element For Head Init Item Member Method Operand Primary Stmt Target BindProperty Class Cond Decl Func LHS Params TargetPart Lays Lays Lays Lays Lays Lays Lays Lays Lays Lays Lays Lays Lays Lays Lays Lays Lays Lays Lays Lays Lays Lays Lays PartLays arrow_marks assign_marks base_marks bind_marks case_marks element_marks for_marks head_marks init_marks item_marks member_marks method_marks operand_marks primary_marks stmt_marks target_marks bind_property_marks class_marks cond_marks decl_marks func_marks lhs_marks params_marks target_part_marks layer)

pub bind_opens : (x : Bind) → bind_marks x ≡ bind_mapped (out-Bind x)
unfolding arrow_marks assign_marks base_marks bind_marks case_marks element_marks for_marks head_marks init_marks item_marks member_marks method_marks operand_marks primary_marks stmt_marks target_marks bind_property_marks class_marks cond_marks decl_marks func_marks lhs_marks params_marks target_part_marks
bind_opens x = fold_out-Bind Lays Lays Lays Lays Lays Lays Lays Lays Lays Lays Lays Lays Lays Lays Lays Lays Lays Lays Lays Lays Lays Lays Lays PartLays arrow_level assign_level base_level bind_level case_level element_level for_level head_level init_level item_level member_level method_level operand_level primary_level stmt_level target_level bind_property_level class_level cond_level decl_level func_level lhs_level params_level target_part_level x

abbrev pub target_mapped : Target-F Arrow Assign Base Bind Case Element For Head Init Item Member Method Operand Primary Stmt Target BindProperty Class Cond Decl Func LHS Params TargetPart → Lays
target_mapped layer = target_level (map-Target Arrow Assign Base Bind Case Element For Head Init Item Member Method Operand Primary Stmt Target BindProperty Class Cond Decl Func LHS Params TargetPart Lays Lays Lays Lays Lays Lays Lays Lays Lays Lays Lays Lays Lays Lays Lays Lays Lays Lays Lays Lays Lays Lays Lays PartLays arrow_marks assign_marks base_marks bind_marks case_marks element_marks for_marks head_marks init_marks item_marks member_marks method_marks operand_marks primary_marks stmt_marks target_marks bind_property_marks class_marks cond_marks decl_marks func_marks lhs_marks params_marks target_part_marks layer)

pub target_opens : (x : Target) → target_marks x ≡ target_mapped (out-Target x)
unfolding arrow_marks assign_marks base_marks bind_marks case_marks element_marks for_marks head_marks init_marks item_marks member_marks method_marks operand_marks primary_marks stmt_marks target_marks bind_property_marks class_marks cond_marks decl_marks func_marks lhs_marks params_marks target_part_marks
target_opens x = fold_out-Target Lays Lays Lays Lays Lays Lays Lays Lays Lays Lays Lays Lays Lays Lays Lays Lays Lays Lays Lays Lays Lays Lays Lays PartLays arrow_level assign_level base_level bind_level case_level element_level for_level head_level init_level item_level member_level method_level operand_level primary_level stmt_level target_level bind_property_level class_level cond_level decl_level func_level lhs_level params_level target_part_level x

abbrev pub target_part_mapped : TargetPart-F Arrow Assign Base Bind Case Element For Head Init Item Member Method Operand Primary Stmt Target BindProperty Class Cond Decl Func LHS Params TargetPart → PartLays
target_part_mapped layer = target_part_level (map-TargetPart Arrow Assign Base Bind Case Element For Head Init Item Member Method Operand Primary Stmt Target BindProperty Class Cond Decl Func LHS Params TargetPart Lays Lays Lays Lays Lays Lays Lays Lays Lays Lays Lays Lays Lays Lays Lays Lays Lays Lays Lays Lays Lays Lays Lays PartLays arrow_marks assign_marks base_marks bind_marks case_marks element_marks for_marks head_marks init_marks item_marks member_marks method_marks operand_marks primary_marks stmt_marks target_marks bind_property_marks class_marks cond_marks decl_marks func_marks lhs_marks params_marks target_part_marks layer)

pub target_part_opens : (x : TargetPart) → target_part_marks x ≡ target_part_mapped (out-TargetPart x)
unfolding arrow_marks assign_marks base_marks bind_marks case_marks element_marks for_marks head_marks init_marks item_marks member_marks method_marks operand_marks primary_marks stmt_marks target_marks bind_property_marks class_marks cond_marks decl_marks func_marks lhs_marks params_marks target_part_marks
target_part_opens x = fold_out-TargetPart Lays Lays Lays Lays Lays Lays Lays Lays Lays Lays Lays Lays Lays Lays Lays Lays Lays Lays Lays Lays Lays Lays Lays PartLays arrow_level assign_level base_level bind_level case_level element_level for_level head_level init_level item_level member_level method_level operand_level primary_level stmt_level target_level bind_property_level class_level cond_level decl_level func_level lhs_level params_level target_part_level x

abbrev pub assign_mapped : Assign-F Arrow Assign Base Bind Case Element For Head Init Item Member Method Operand Primary Stmt Target BindProperty Class Cond Decl Func LHS Params TargetPart → Lays
assign_mapped layer = assign_level (map-Assign Arrow Assign Base Bind Case Element For Head Init Item Member Method Operand Primary Stmt Target BindProperty Class Cond Decl Func LHS Params TargetPart Lays Lays Lays Lays Lays Lays Lays Lays Lays Lays Lays Lays Lays Lays Lays Lays Lays Lays Lays Lays Lays Lays Lays PartLays arrow_marks assign_marks base_marks bind_marks case_marks element_marks for_marks head_marks init_marks item_marks member_marks method_marks operand_marks primary_marks stmt_marks target_marks bind_property_marks class_marks cond_marks decl_marks func_marks lhs_marks params_marks target_part_marks layer)

pub assign_opens : (x : Assign) → assign_marks x ≡ assign_mapped (out-Assign x)
unfolding arrow_marks assign_marks base_marks bind_marks case_marks element_marks for_marks head_marks init_marks item_marks member_marks method_marks operand_marks primary_marks stmt_marks target_marks bind_property_marks class_marks cond_marks decl_marks func_marks lhs_marks params_marks target_part_marks
assign_opens x = fold_out-Assign Lays Lays Lays Lays Lays Lays Lays Lays Lays Lays Lays Lays Lays Lays Lays Lays Lays Lays Lays Lays Lays Lays Lays PartLays arrow_level assign_level base_level bind_level case_level element_level for_level head_level init_level item_level member_level method_level operand_level primary_level stmt_level target_level bind_property_level class_level cond_level decl_level func_level lhs_level params_level target_part_level x

abbrev pub arrow_mapped : Arrow-F Arrow Assign Base Bind Case Element For Head Init Item Member Method Operand Primary Stmt Target BindProperty Class Cond Decl Func LHS Params TargetPart → Lays
arrow_mapped layer = arrow_level (map-Arrow Arrow Assign Base Bind Case Element For Head Init Item Member Method Operand Primary Stmt Target BindProperty Class Cond Decl Func LHS Params TargetPart Lays Lays Lays Lays Lays Lays Lays Lays Lays Lays Lays Lays Lays Lays Lays Lays Lays Lays Lays Lays Lays Lays Lays PartLays arrow_marks assign_marks base_marks bind_marks case_marks element_marks for_marks head_marks init_marks item_marks member_marks method_marks operand_marks primary_marks stmt_marks target_marks bind_property_marks class_marks cond_marks decl_marks func_marks lhs_marks params_marks target_part_marks layer)

pub arrow_opens : (x : Arrow) → arrow_marks x ≡ arrow_mapped (out-Arrow x)
unfolding arrow_marks assign_marks base_marks bind_marks case_marks element_marks for_marks head_marks init_marks item_marks member_marks method_marks operand_marks primary_marks stmt_marks target_marks bind_property_marks class_marks cond_marks decl_marks func_marks lhs_marks params_marks target_part_marks
arrow_opens x = fold_out-Arrow Lays Lays Lays Lays Lays Lays Lays Lays Lays Lays Lays Lays Lays Lays Lays Lays Lays Lays Lays Lays Lays Lays Lays PartLays arrow_level assign_level base_level bind_level case_level element_level for_level head_level init_level item_level member_level method_level operand_level primary_level stmt_level target_level bind_property_level class_level cond_level decl_level func_level lhs_level params_level target_part_level x

abbrev pub cond_mapped : Cond-F Arrow Assign Base Bind Case Element For Head Init Item Member Method Operand Primary Stmt Target BindProperty Class Cond Decl Func LHS Params TargetPart → Lays
cond_mapped layer = cond_level (map-Cond Arrow Assign Base Bind Case Element For Head Init Item Member Method Operand Primary Stmt Target BindProperty Class Cond Decl Func LHS Params TargetPart Lays Lays Lays Lays Lays Lays Lays Lays Lays Lays Lays Lays Lays Lays Lays Lays Lays Lays Lays Lays Lays Lays Lays PartLays arrow_marks assign_marks base_marks bind_marks case_marks element_marks for_marks head_marks init_marks item_marks member_marks method_marks operand_marks primary_marks stmt_marks target_marks bind_property_marks class_marks cond_marks decl_marks func_marks lhs_marks params_marks target_part_marks layer)

pub cond_opens : (x : Cond) → cond_marks x ≡ cond_mapped (out-Cond x)
unfolding arrow_marks assign_marks base_marks bind_marks case_marks element_marks for_marks head_marks init_marks item_marks member_marks method_marks operand_marks primary_marks stmt_marks target_marks bind_property_marks class_marks cond_marks decl_marks func_marks lhs_marks params_marks target_part_marks
cond_opens x = fold_out-Cond Lays Lays Lays Lays Lays Lays Lays Lays Lays Lays Lays Lays Lays Lays Lays Lays Lays Lays Lays Lays Lays Lays Lays PartLays arrow_level assign_level base_level bind_level case_level element_level for_level head_level init_level item_level member_level method_level operand_level primary_level stmt_level target_level bind_property_level class_level cond_level decl_level func_level lhs_level params_level target_part_level x

abbrev pub operand_mapped : Operand-F Arrow Assign Base Bind Case Element For Head Init Item Member Method Operand Primary Stmt Target BindProperty Class Cond Decl Func LHS Params TargetPart → Lays
operand_mapped layer = operand_level (map-Operand Arrow Assign Base Bind Case Element For Head Init Item Member Method Operand Primary Stmt Target BindProperty Class Cond Decl Func LHS Params TargetPart Lays Lays Lays Lays Lays Lays Lays Lays Lays Lays Lays Lays Lays Lays Lays Lays Lays Lays Lays Lays Lays Lays Lays PartLays arrow_marks assign_marks base_marks bind_marks case_marks element_marks for_marks head_marks init_marks item_marks member_marks method_marks operand_marks primary_marks stmt_marks target_marks bind_property_marks class_marks cond_marks decl_marks func_marks lhs_marks params_marks target_part_marks layer)

pub operand_opens : (x : Operand) → operand_marks x ≡ operand_mapped (out-Operand x)
unfolding arrow_marks assign_marks base_marks bind_marks case_marks element_marks for_marks head_marks init_marks item_marks member_marks method_marks operand_marks primary_marks stmt_marks target_marks bind_property_marks class_marks cond_marks decl_marks func_marks lhs_marks params_marks target_part_marks
operand_opens x = fold_out-Operand Lays Lays Lays Lays Lays Lays Lays Lays Lays Lays Lays Lays Lays Lays Lays Lays Lays Lays Lays Lays Lays Lays Lays PartLays arrow_level assign_level base_level bind_level case_level element_level for_level head_level init_level item_level member_level method_level operand_level primary_level stmt_level target_level bind_property_level class_level cond_level decl_level func_level lhs_level params_level target_part_level x

abbrev pub lhs_mapped : LHS-F Arrow Assign Base Bind Case Element For Head Init Item Member Method Operand Primary Stmt Target BindProperty Class Cond Decl Func LHS Params TargetPart → Lays
lhs_mapped layer = lhs_level (map-LHS Arrow Assign Base Bind Case Element For Head Init Item Member Method Operand Primary Stmt Target BindProperty Class Cond Decl Func LHS Params TargetPart Lays Lays Lays Lays Lays Lays Lays Lays Lays Lays Lays Lays Lays Lays Lays Lays Lays Lays Lays Lays Lays Lays Lays PartLays arrow_marks assign_marks base_marks bind_marks case_marks element_marks for_marks head_marks init_marks item_marks member_marks method_marks operand_marks primary_marks stmt_marks target_marks bind_property_marks class_marks cond_marks decl_marks func_marks lhs_marks params_marks target_part_marks layer)

pub lhs_opens : (x : LHS) → lhs_marks x ≡ lhs_mapped (out-LHS x)
unfolding arrow_marks assign_marks base_marks bind_marks case_marks element_marks for_marks head_marks init_marks item_marks member_marks method_marks operand_marks primary_marks stmt_marks target_marks bind_property_marks class_marks cond_marks decl_marks func_marks lhs_marks params_marks target_part_marks
lhs_opens x = fold_out-LHS Lays Lays Lays Lays Lays Lays Lays Lays Lays Lays Lays Lays Lays Lays Lays Lays Lays Lays Lays Lays Lays Lays Lays PartLays arrow_level assign_level base_level bind_level case_level element_level for_level head_level init_level item_level member_level method_level operand_level primary_level stmt_level target_level bind_property_level class_level cond_level decl_level func_level lhs_level params_level target_part_level x

abbrev pub member_mapped : Member-F Arrow Assign Base Bind Case Element For Head Init Item Member Method Operand Primary Stmt Target BindProperty Class Cond Decl Func LHS Params TargetPart → Lays
member_mapped layer = member_level (map-Member Arrow Assign Base Bind Case Element For Head Init Item Member Method Operand Primary Stmt Target BindProperty Class Cond Decl Func LHS Params TargetPart Lays Lays Lays Lays Lays Lays Lays Lays Lays Lays Lays Lays Lays Lays Lays Lays Lays Lays Lays Lays Lays Lays Lays PartLays arrow_marks assign_marks base_marks bind_marks case_marks element_marks for_marks head_marks init_marks item_marks member_marks method_marks operand_marks primary_marks stmt_marks target_marks bind_property_marks class_marks cond_marks decl_marks func_marks lhs_marks params_marks target_part_marks layer)

pub member_opens : (x : Member) → member_marks x ≡ member_mapped (out-Member x)
unfolding arrow_marks assign_marks base_marks bind_marks case_marks element_marks for_marks head_marks init_marks item_marks member_marks method_marks operand_marks primary_marks stmt_marks target_marks bind_property_marks class_marks cond_marks decl_marks func_marks lhs_marks params_marks target_part_marks
member_opens x = fold_out-Member Lays Lays Lays Lays Lays Lays Lays Lays Lays Lays Lays Lays Lays Lays Lays Lays Lays Lays Lays Lays Lays Lays Lays PartLays arrow_level assign_level base_level bind_level case_level element_level for_level head_level init_level item_level member_level method_level operand_level primary_level stmt_level target_level bind_property_level class_level cond_level decl_level func_level lhs_level params_level target_part_level x

abbrev pub primary_mapped : Primary-F Arrow Assign Base Bind Case Element For Head Init Item Member Method Operand Primary Stmt Target BindProperty Class Cond Decl Func LHS Params TargetPart → Lays
primary_mapped layer = primary_level (map-Primary Arrow Assign Base Bind Case Element For Head Init Item Member Method Operand Primary Stmt Target BindProperty Class Cond Decl Func LHS Params TargetPart Lays Lays Lays Lays Lays Lays Lays Lays Lays Lays Lays Lays Lays Lays Lays Lays Lays Lays Lays Lays Lays Lays Lays PartLays arrow_marks assign_marks base_marks bind_marks case_marks element_marks for_marks head_marks init_marks item_marks member_marks method_marks operand_marks primary_marks stmt_marks target_marks bind_property_marks class_marks cond_marks decl_marks func_marks lhs_marks params_marks target_part_marks layer)

pub primary_opens : (x : Primary) → primary_marks x ≡ primary_mapped (out-Primary x)
unfolding arrow_marks assign_marks base_marks bind_marks case_marks element_marks for_marks head_marks init_marks item_marks member_marks method_marks operand_marks primary_marks stmt_marks target_marks bind_property_marks class_marks cond_marks decl_marks func_marks lhs_marks params_marks target_part_marks
primary_opens x = fold_out-Primary Lays Lays Lays Lays Lays Lays Lays Lays Lays Lays Lays Lays Lays Lays Lays Lays Lays Lays Lays Lays Lays Lays Lays PartLays arrow_level assign_level base_level bind_level case_level element_level for_level head_level init_level item_level member_level method_level operand_level primary_level stmt_level target_level bind_property_level class_level cond_level decl_level func_level lhs_level params_level target_part_level x

abbrev pub base_mapped : Base-F Arrow Assign Base Bind Case Element For Head Init Item Member Method Operand Primary Stmt Target BindProperty Class Cond Decl Func LHS Params TargetPart → Lays
base_mapped layer = base_level (map-Base Arrow Assign Base Bind Case Element For Head Init Item Member Method Operand Primary Stmt Target BindProperty Class Cond Decl Func LHS Params TargetPart Lays Lays Lays Lays Lays Lays Lays Lays Lays Lays Lays Lays Lays Lays Lays Lays Lays Lays Lays Lays Lays Lays Lays PartLays arrow_marks assign_marks base_marks bind_marks case_marks element_marks for_marks head_marks init_marks item_marks member_marks method_marks operand_marks primary_marks stmt_marks target_marks bind_property_marks class_marks cond_marks decl_marks func_marks lhs_marks params_marks target_part_marks layer)

pub base_opens : (x : Base) → base_marks x ≡ base_mapped (out-Base x)
unfolding arrow_marks assign_marks base_marks bind_marks case_marks element_marks for_marks head_marks init_marks item_marks member_marks method_marks operand_marks primary_marks stmt_marks target_marks bind_property_marks class_marks cond_marks decl_marks func_marks lhs_marks params_marks target_part_marks
base_opens x = fold_out-Base Lays Lays Lays Lays Lays Lays Lays Lays Lays Lays Lays Lays Lays Lays Lays Lays Lays Lays Lays Lays Lays Lays Lays PartLays arrow_level assign_level base_level bind_level case_level element_level for_level head_level init_level item_level member_level method_level operand_level primary_level stmt_level target_level bind_property_level class_level cond_level decl_level func_level lhs_level params_level target_part_level x
