-- The outline of a script has no mark of an import or an export.
use Rattle.std.specs.Prelude.{◌≡◌, ℕ, List, []}
use Rattle.std.specs.List.{All}
use Rattle.std.proofs.Common.{sym, ap, subst, ◌∙◌}
use Rattle.std.proofs.lemmas.List.Elements.{All-nil}
use Rattle.es_tree.specs.declared.cycle.Item.{ind-Item}
use Rattle.es_tree.specs.declared.cycle.Arrow.{roll-Arrow, out-roll-Arrow}
use Rattle.es_tree.specs.declared.cycle.Assign.{roll-Assign, out-roll-Assign}
use Rattle.es_tree.specs.declared.cycle.Base.{roll-Base, out-roll-Base}
use Rattle.es_tree.specs.declared.cycle.Bind.{roll-Bind, out-roll-Bind}
use Rattle.es_tree.specs.declared.cycle.Case.{roll-Case, out-roll-Case}
use Rattle.es_tree.specs.declared.cycle.Element.{roll-Element, out-roll-Element}
use Rattle.es_tree.specs.declared.cycle.For.{roll-For, out-roll-For}
use Rattle.es_tree.specs.declared.cycle.Head.{roll-Head, out-roll-Head}
use Rattle.es_tree.specs.declared.cycle.Init.{roll-Init, out-roll-Init}
use Rattle.es_tree.specs.declared.cycle.Item.{Item, roll-Item, out-roll-Item}
use Rattle.es_tree.specs.declared.cycle.Member.{roll-Member, out-roll-Member}
use Rattle.es_tree.specs.declared.cycle.Method.{roll-Method, out-roll-Method}
use Rattle.es_tree.specs.declared.cycle.Operand.{roll-Operand, out-roll-Operand}
use Rattle.es_tree.specs.declared.cycle.Primary.{roll-Primary, out-roll-Primary}
use Rattle.es_tree.specs.declared.cycle.Stmt.{roll-Stmt, out-roll-Stmt}
use Rattle.es_tree.specs.declared.cycle.Target.{roll-Target, out-roll-Target}
use Rattle.es_tree.specs.declared.cycle.BindProperty.{roll-BindProperty, out-roll-BindProperty}
use Rattle.es_tree.specs.declared.cycle.Class.{roll-Class, out-roll-Class}
use Rattle.es_tree.specs.declared.cycle.Cond.{roll-Cond, out-roll-Cond}
use Rattle.es_tree.specs.declared.cycle.Decl.{roll-Decl, out-roll-Decl}
use Rattle.es_tree.specs.declared.cycle.Func.{roll-Func, out-roll-Func}
use Rattle.es_tree.specs.declared.cycle.LHS.{roll-LHS, out-roll-LHS}
use Rattle.es_tree.specs.declared.cycle.Params.{roll-Params, out-roll-Params}
use Rattle.es_tree.specs.declared.cycle.TargetPart.{roll-TargetPart, out-roll-TargetPart}
use Rattle.es_tree.specs.declared.program.ProgramItem.{ProgramItem}
use Rattle.es_tree.specs.declared.tokens.ProgramGoal.TheVariants.{Script}
use Rattle.es_grammar.specs.declared.places.Context.{Context}
use Rattle.es_grammar.specs.Lists.{Chain}
use Rattle.es_grammar.specs.Modules.{ScriptItemAt}
use Rattle.es_grammar.specs.Parses.{ProgramItemAt, rules_to, at_top}
use Rattle.es_grammar.specs.Reading.{Bytes}
use Rattle.es_grammar.specs.Rules.{Rules}
use Rattle.es_grammar.specs.declared.TheConstants.{MAX_NEST}
use Rattle.es_outline.specs.Outline.{listed, program_item_marks}
use Rattle.es_outline.proofs.Opens.{arrow_mapped, arrow_opens, assign_mapped, assign_opens, base_mapped, base_opens, bind_mapped, bind_opens, case_mapped, case_opens, element_mapped, element_opens, for_mapped, for_opens, head_mapped, head_opens, init_mapped, init_opens, item_mapped, item_opens, member_mapped, member_opens, method_mapped, method_opens, operand_mapped, operand_opens, primary_mapped, primary_opens, stmt_mapped, stmt_opens, target_mapped, target_opens, bind_property_mapped, bind_property_opens, class_mapped, class_opens, cond_mapped, cond_opens, decl_mapped, decl_opens, func_mapped, func_opens, lhs_mapped, lhs_opens, params_mapped, params_opens, target_part_mapped, target_part_opens}
use Rattle.es_scope.specs.Source.{Source}
use Rattle.facts_laws.specs.Conditions.{IsOutlined}
use Rattle.facts_laws.specs.Plain.{IsPlain}
use Rattle.facts_laws.proofs.Keeping.{Keeps, keeps_nothing, ◌then◌}
use Rattle.facts_laws.proofs.Kept.{KeepsArrow, ArrowLayer, arrow_of, KeepsAssign, AssignLayer, assign_of, KeepsBase, BaseLayer, base_of, KeepsBind, BindLayer, bind_of, KeepsCase, CaseLayer, case_of, KeepsElement, ElementLayer, element_of, KeepsFor, ForLayer, for_of, KeepsHead, HeadLayer, head_of, KeepsInit, InitLayer, init_of, KeepsItem, ItemLayer, item_of, KeepsMember, MemberLayer, member_of, KeepsMethod, MethodLayer, method_of, KeepsOperand, OperandLayer, operand_of, KeepsPrimary, PrimaryLayer, primary_of, KeepsStmt, StmtLayer, stmt_of, KeepsTarget, TargetLayer, target_of, KeepsBindProperty, BindPropertyLayer, bind_property_of, KeepsClass, ClassLayer, class_of, KeepsCond, CondLayer, cond_of, KeepsDecl, DeclLayer, decl_of, KeepsFunc, FuncLayer, func_of, KeepsLHS, LHSLayer, lhs_of, KeepsParams, ParamsLayer, params_of, KeepsTargetPart, TargetPartLayer, target_part_of}
use Rattle.facts_laws.proofs.StatementLevels.{item_step, case_step, stmt_step, init_step, for_step, head_step, decl_step}
use Rattle.facts_laws.proofs.PatternLevels.{func_step, params_step, class_step, element_step, method_step, bind_property_step, bind_step, target_step, target_part_step}
use Rattle.facts_laws.proofs.ExpressionLevels.{assign_step, arrow_step, cond_step, operand_step, lhs_step, member_step, primary_step, base_step}

-- a production, if the level that it is made of does

arrow_whole : (y : ArrowLayer) → KeepsArrow (roll-Arrow (arrow_of y))
arrow_whole y = subst Keeps (sym (arrow_opens (roll-Arrow (arrow_of y)) ∙ ap arrow_mapped (out-roll-Arrow (arrow_of y)))) (arrow_step y)

assign_whole : (y : AssignLayer) → KeepsAssign (roll-Assign (assign_of y))
assign_whole y = subst Keeps (sym (assign_opens (roll-Assign (assign_of y)) ∙ ap assign_mapped (out-roll-Assign (assign_of y)))) (assign_step y)

base_whole : (y : BaseLayer) → KeepsBase (roll-Base (base_of y))
base_whole y = subst Keeps (sym (base_opens (roll-Base (base_of y)) ∙ ap base_mapped (out-roll-Base (base_of y)))) (base_step y)

bind_whole : (y : BindLayer) → KeepsBind (roll-Bind (bind_of y))
bind_whole y = subst Keeps (sym (bind_opens (roll-Bind (bind_of y)) ∙ ap bind_mapped (out-roll-Bind (bind_of y)))) (bind_step y)

case_whole : (y : CaseLayer) → KeepsCase (roll-Case (case_of y))
case_whole y = subst Keeps (sym (case_opens (roll-Case (case_of y)) ∙ ap case_mapped (out-roll-Case (case_of y)))) (case_step y)

element_whole : (y : ElementLayer) → KeepsElement (roll-Element (element_of y))
element_whole y = subst Keeps (sym (element_opens (roll-Element (element_of y)) ∙ ap element_mapped (out-roll-Element (element_of y)))) (element_step y)

for_whole : (y : ForLayer) → KeepsFor (roll-For (for_of y))
for_whole y = subst Keeps (sym (for_opens (roll-For (for_of y)) ∙ ap for_mapped (out-roll-For (for_of y)))) (for_step y)

head_whole : (y : HeadLayer) → KeepsHead (roll-Head (head_of y))
head_whole y = subst Keeps (sym (head_opens (roll-Head (head_of y)) ∙ ap head_mapped (out-roll-Head (head_of y)))) (head_step y)

init_whole : (y : InitLayer) → KeepsInit (roll-Init (init_of y))
init_whole y = subst Keeps (sym (init_opens (roll-Init (init_of y)) ∙ ap init_mapped (out-roll-Init (init_of y)))) (init_step y)

item_whole : (y : ItemLayer) → KeepsItem (roll-Item (item_of y))
item_whole y = subst Keeps (sym (item_opens (roll-Item (item_of y)) ∙ ap item_mapped (out-roll-Item (item_of y)))) (item_step y)

member_whole : (y : MemberLayer) → KeepsMember (roll-Member (member_of y))
member_whole y = subst Keeps (sym (member_opens (roll-Member (member_of y)) ∙ ap member_mapped (out-roll-Member (member_of y)))) (member_step y)

method_whole : (y : MethodLayer) → KeepsMethod (roll-Method (method_of y))
method_whole y = subst Keeps (sym (method_opens (roll-Method (method_of y)) ∙ ap method_mapped (out-roll-Method (method_of y)))) (method_step y)

operand_whole : (y : OperandLayer) → KeepsOperand (roll-Operand (operand_of y))
operand_whole y = subst Keeps (sym (operand_opens (roll-Operand (operand_of y)) ∙ ap operand_mapped (out-roll-Operand (operand_of y)))) (operand_step y)

primary_whole : (y : PrimaryLayer) → KeepsPrimary (roll-Primary (primary_of y))
primary_whole y = subst Keeps (sym (primary_opens (roll-Primary (primary_of y)) ∙ ap primary_mapped (out-roll-Primary (primary_of y)))) (primary_step y)

stmt_whole : (y : StmtLayer) → KeepsStmt (roll-Stmt (stmt_of y))
stmt_whole y = subst Keeps (sym (stmt_opens (roll-Stmt (stmt_of y)) ∙ ap stmt_mapped (out-roll-Stmt (stmt_of y)))) (stmt_step y)

target_whole : (y : TargetLayer) → KeepsTarget (roll-Target (target_of y))
target_whole y = subst Keeps (sym (target_opens (roll-Target (target_of y)) ∙ ap target_mapped (out-roll-Target (target_of y)))) (target_step y)

bind_property_whole : (y : BindPropertyLayer) → KeepsBindProperty (roll-BindProperty (bind_property_of y))
bind_property_whole y = subst Keeps (sym (bind_property_opens (roll-BindProperty (bind_property_of y)) ∙ ap bind_property_mapped (out-roll-BindProperty (bind_property_of y)))) (bind_property_step y)

class_whole : (y : ClassLayer) → KeepsClass (roll-Class (class_of y))
class_whole y = subst Keeps (sym (class_opens (roll-Class (class_of y)) ∙ ap class_mapped (out-roll-Class (class_of y)))) (class_step y)

cond_whole : (y : CondLayer) → KeepsCond (roll-Cond (cond_of y))
cond_whole y = subst Keeps (sym (cond_opens (roll-Cond (cond_of y)) ∙ ap cond_mapped (out-roll-Cond (cond_of y)))) (cond_step y)

decl_whole : (y : DeclLayer) → KeepsDecl (roll-Decl (decl_of y))
decl_whole y = subst Keeps (sym (decl_opens (roll-Decl (decl_of y)) ∙ ap decl_mapped (out-roll-Decl (decl_of y)))) (decl_step y)

func_whole : (y : FuncLayer) → KeepsFunc (roll-Func (func_of y))
func_whole y = subst Keeps (sym (func_opens (roll-Func (func_of y)) ∙ ap func_mapped (out-roll-Func (func_of y)))) (func_step y)

lhs_whole : (y : LHSLayer) → KeepsLHS (roll-LHS (lhs_of y))
lhs_whole y = subst Keeps (sym (lhs_opens (roll-LHS (lhs_of y)) ∙ ap lhs_mapped (out-roll-LHS (lhs_of y)))) (lhs_step y)

params_whole : (y : ParamsLayer) → KeepsParams (roll-Params (params_of y))
params_whole y = subst Keeps (sym (params_opens (roll-Params (params_of y)) ∙ ap params_mapped (out-roll-Params (params_of y)))) (params_step y)

target_part_whole : (y : TargetPartLayer) → KeepsTargetPart (roll-TargetPart (target_part_of y))
target_part_whole y in_object = subst (λ f. Keeps (f in_object)) (sym (target_part_opens (roll-TargetPart (target_part_of y)) ∙ ap target_part_mapped (out-roll-TargetPart (target_part_of y)))) (target_part_step y in_object)

keeps_item : (x : Item) → KeepsItem x
keeps_item = ind-Item KeepsArrow KeepsAssign KeepsBase KeepsBind KeepsCase KeepsElement KeepsFor KeepsHead KeepsInit KeepsItem KeepsMember KeepsMethod KeepsOperand KeepsPrimary KeepsStmt KeepsTarget KeepsBindProperty KeepsClass KeepsCond KeepsDecl KeepsFunc KeepsLHS KeepsParams KeepsTargetPart
    (λ x y is. subst (λ z. KeepsArrow (roll-Arrow z)) is (arrow_whole y))
    (λ x y is. subst (λ z. KeepsAssign (roll-Assign z)) is (assign_whole y))
    (λ x y is. subst (λ z. KeepsBase (roll-Base z)) is (base_whole y))
    (λ x y is. subst (λ z. KeepsBind (roll-Bind z)) is (bind_whole y))
    (λ x y is. subst (λ z. KeepsCase (roll-Case z)) is (case_whole y))
    (λ x y is. subst (λ z. KeepsElement (roll-Element z)) is (element_whole y))
    (λ x y is. subst (λ z. KeepsFor (roll-For z)) is (for_whole y))
    (λ x y is. subst (λ z. KeepsHead (roll-Head z)) is (head_whole y))
    (λ x y is. subst (λ z. KeepsInit (roll-Init z)) is (init_whole y))
    (λ x y is. subst (λ z. KeepsItem (roll-Item z)) is (item_whole y))
    (λ x y is. subst (λ z. KeepsMember (roll-Member z)) is (member_whole y))
    (λ x y is. subst (λ z. KeepsMethod (roll-Method z)) is (method_whole y))
    (λ x y is. subst (λ z. KeepsOperand (roll-Operand z)) is (operand_whole y))
    (λ x y is. subst (λ z. KeepsPrimary (roll-Primary z)) is (primary_whole y))
    (λ x y is. subst (λ z. KeepsStmt (roll-Stmt z)) is (stmt_whole y))
    (λ x y is. subst (λ z. KeepsTarget (roll-Target z)) is (target_whole y))
    (λ x y is. subst (λ z. KeepsBindProperty (roll-BindProperty z)) is (bind_property_whole y))
    (λ x y is. subst (λ z. KeepsClass (roll-Class z)) is (class_whole y))
    (λ x y is. subst (λ z. KeepsCond (roll-Cond z)) is (cond_whole y))
    (λ x y is. subst (λ z. KeepsDecl (roll-Decl z)) is (decl_whole y))
    (λ x y is. subst (λ z. KeepsFunc (roll-Func z)) is (func_whole y))
    (λ x y is. subst (λ z. KeepsLHS (roll-LHS z)) is (lhs_whole y))
    (λ x y is. subst (λ z. KeepsParams (roll-Params z)) is (params_whole y))
    (λ x y is. subst (λ z. KeepsTargetPart (roll-TargetPart z)) is (target_part_whole y))

-- scripts
module _ (text : Bytes) (r : Rules) (c : Context) where
  keeps_script_item : (from to : ℕ) (item : ProgramItem) → ScriptItemAt text r c from item to → Keeps (program_item_marks item)
  keeps_script_item _ _ _ (ScriptItemAt.item item at) = keeps_item item

  keeps_script : (from to : ℕ) (items : List ProgramItem) → Chain (ScriptItemAt text r c) from items to → Keeps (listed program_item_marks items)
  keeps_script _ _ _ Chain.none = keeps_nothing
  keeps_script _ _ _ (Chain.more item items at rest) = keeps_script_item _ _ item at then keeps_script _ _ items rest

pub plain_script : (source : Source) → IsOutlined source → source.goal ≡ Script → All IsPlain source.marks
plain_script source outlined goal =
    let parses = outlined.parses in
    let items = subst (λ g. Chain (ProgramItemAt source.text (rules_to source.text MAX_NEST) g) 0 outlined.program.items parses.last) (outlined.goal ∙ goal) parses.items in
    let keeps = keeps_script source.text (rules_to source.text MAX_NEST) (at_top Script) 0 parses.last outlined.program.items items in
    subst (All IsPlain) (sym outlined.marks) (keeps.kept [] (All-nil IsPlain))
