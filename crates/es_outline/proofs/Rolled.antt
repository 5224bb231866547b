-- The outlines of the productions that are records, in terms of the outlines of their parts.
use Rattle.std.specs.Prelude.{◌≡◌}
use Rattle.std.proofs.Common.{ap, ◌∙◌}
use Rattle.es_tree.specs.declared.cycle.Arrow.{Arrow}
use Rattle.es_tree.specs.declared.cycle.Assign.{Assign}
use Rattle.es_tree.specs.declared.cycle.Base.{Base}
use Rattle.es_tree.specs.declared.cycle.Bind.{Bind}
use Rattle.es_tree.specs.declared.cycle.Case.{Case}
use Rattle.es_tree.specs.declared.cycle.Element.{Element}
use Rattle.es_tree.specs.declared.cycle.For.{For}
use Rattle.es_tree.specs.declared.cycle.Head.{Head}
use Rattle.es_tree.specs.declared.cycle.Init.{Init}
use Rattle.es_tree.specs.declared.cycle.Item.{Item}
use Rattle.es_tree.specs.declared.cycle.Member.{Member}
use Rattle.es_tree.specs.declared.cycle.Method.{Method}
use Rattle.es_tree.specs.declared.cycle.Operand.{Operand}
use Rattle.es_tree.specs.declared.cycle.Primary.{Primary}
use Rattle.es_tree.specs.declared.cycle.Stmt.{Stmt}
use Rattle.es_tree.specs.declared.cycle.Target.{Target}
use Rattle.es_tree.specs.declared.cycle.BindProperty.{BindProperty, roll-BindProperty, out-roll-BindProperty}
use Rattle.es_tree.specs.declared.cycle.Class.{Class, roll-Class, out-roll-Class}
use Rattle.es_tree.specs.declared.cycle.Cond.{Cond, roll-Cond, out-roll-Cond}
use Rattle.es_tree.specs.declared.cycle.Decl.{Decl, roll-Decl, out-roll-Decl}
use Rattle.es_tree.specs.declared.cycle.Func.{Func, roll-Func, out-roll-Func}
use Rattle.es_tree.specs.declared.cycle.LHS.{LHS, roll-LHS, out-roll-LHS}
use Rattle.es_tree.specs.declared.cycle.Params.{Params, roll-Params, out-roll-Params}
use Rattle.es_tree.specs.declared.cycle.TargetPart.{TargetPart, roll-TargetPart, out-roll-TargetPart}
use Rattle.es_tree.specs.declared.cycle.Arrow.TheOpen.{Decl-F, Func-F, Params-F, Class-F, BindProperty-F, TargetPart-F, Cond-F, LHS-F}
use Rattle.es_outline.specs.declared.mark.Role.TheVariants as is
use Rattle.es_outline.specs.declared.mark.Part.TheVariants as part
use Rattle.es_outline.specs.Outline.{Lays, PartLays, ◌⨾◌, one, within, named, in_object, opt, listed, separated_marks, initializer_marks, rest_marks, body_marks, extends_marks, arms_marks, keyed, part_key, item_marks, decl_marks, func_marks, params_marks, class_marks, element_marks, bind_property_marks, bind_marks, target_marks, target_part_marks, assign_marks, cond_marks, lhs_marks, base_marks, suffix_marks, binary_marks}
use Rattle.es_outline.proofs.Laws.{decl_law, func_law, params_law, class_law, bind_property_law, target_part_law, cond_law, lhs_law}

abbrev pub OpenDecl : Type 0
OpenDecl =
    Decl-F Arrow Assign Base Bind Case Element For Head Init Item Member Method Operand Primary Stmt
    Target BindProperty Class Cond Decl Func LHS Params TargetPart

abbrev pub decl_parts : OpenDecl → Lays
decl_parts l = bind_marks l.bind ⨾ opt (initializer_marks assign_marks) l.initial

pub decl_rolled : (l : OpenDecl) → decl_marks (roll-Decl l) ≡ decl_parts l
decl_rolled l = decl_law (roll-Decl l) ∙ ap decl_parts (out-roll-Decl l)

abbrev pub OpenFunc : Type 0
OpenFunc =
    Func-F Arrow Assign Base Bind Case Element For Head Init Item Member Method Operand Primary Stmt
    Target BindProperty Class Cond Decl Func LHS Params TargetPart

abbrev pub func_parts : OpenFunc → Lays
func_parts l = opt one l.is_async ⨾ one l.word ⨾ opt one l.star ⨾ named is.FunctionName l.name ⨾ within part.Function (one l.left ⨾ params_marks l.params ⨾ one l.right ⨾ within part.FunctionBody (body_marks item_marks l.body))

pub func_rolled : (l : OpenFunc) → func_marks (roll-Func l) ≡ func_parts l
func_rolled l = func_law (roll-Func l) ∙ ap func_parts (out-roll-Func l)

abbrev pub OpenParams : Type 0
OpenParams =
    Params-F Arrow Assign Base Bind Case Element For Head Init Item Member Method Operand Primary Stmt
    Target BindProperty Class Cond Decl Func LHS Params TargetPart

abbrev pub params_parts : OpenParams → Lays
params_parts l = listed (separated_marks decl_marks) l.list ⨾ opt (rest_marks bind_marks) l.rest

pub params_rolled : (l : OpenParams) → params_marks (roll-Params l) ≡ params_parts l
params_rolled l = params_law (roll-Params l) ∙ ap params_parts (out-roll-Params l)

abbrev pub OpenClass : Type 0
OpenClass =
    Class-F Arrow Assign Base Bind Case Element For Head Init Item Member Method Operand Primary Stmt
    Target BindProperty Class Cond Decl Func LHS Params TargetPart

abbrev pub class_parts : OpenClass → Lays
class_parts l = one l.word ⨾ named is.ClassName l.name ⨾ within part.Class (opt (extends_marks lhs_marks) l.extends ⨾ one l.left ⨾ listed element_marks l.elements ⨾ one l.right)

pub class_rolled : (l : OpenClass) → class_marks (roll-Class l) ≡ class_parts l
class_rolled l = class_law (roll-Class l) ∙ ap class_parts (out-roll-Class l)

abbrev pub OpenBindProperty : Type 0
OpenBindProperty =
    BindProperty-F Arrow Assign Base Bind Case Element For Head Init Item Member Method Operand Primary Stmt
    Target BindProperty Class Cond Decl Func LHS Params TargetPart

abbrev pub bind_property_parts : OpenBindProperty → Lays
bind_property_parts l = keyed assign_marks l.key ⨾ decl_marks l.decl

pub bind_property_rolled : (l : OpenBindProperty) → bind_property_marks (roll-BindProperty l) ≡ bind_property_parts l
bind_property_rolled l = bind_property_law (roll-BindProperty l) ∙ ap bind_property_parts (out-roll-BindProperty l)

abbrev pub OpenTargetPart : Type 0
OpenTargetPart =
    TargetPart-F Arrow Assign Base Bind Case Element For Head Init Item Member Method Operand Primary Stmt
    Target BindProperty Class Cond Decl Func LHS Params TargetPart

abbrev pub target_part_parts : OpenTargetPart → PartLays
target_part_parts l in_object = part_key in_object assign_marks l.key ⨾ target_marks l.target ⨾ opt (initializer_marks assign_marks) l.initial

pub target_part_rolled : (l : OpenTargetPart) → target_part_marks (roll-TargetPart l) ≡ target_part_parts l
target_part_rolled l = target_part_law (roll-TargetPart l) ∙ ap target_part_parts (out-roll-TargetPart l)

abbrev pub OpenCond : Type 0
OpenCond =
    Cond-F Arrow Assign Base Bind Case Element For Head Init Item Member Method Operand Primary Stmt
    Target BindProperty Class Cond Decl Func LHS Params TargetPart

abbrev pub cond_parts : OpenCond → Lays
cond_parts l = binary_marks l.test ⨾ opt (arms_marks assign_marks) l.arms

pub cond_rolled : (l : OpenCond) → cond_marks (roll-Cond l) ≡ cond_parts l
cond_rolled l = cond_law (roll-Cond l) ∙ ap cond_parts (out-roll-Cond l)

abbrev pub OpenLHS : Type 0
OpenLHS =
    LHS-F Arrow Assign Base Bind Case Element For Head Init Item Member Method Operand Primary Stmt
    Target BindProperty Class Cond Decl Func LHS Params TargetPart

abbrev pub lhs_parts : OpenLHS → Lays
lhs_parts l = base_marks l.base ⨾ listed suffix_marks l.suffixes

pub lhs_rolled : (l : OpenLHS) → lhs_marks (roll-LHS l) ≡ lhs_parts l
lhs_rolled l = lhs_law (roll-LHS l) ∙ ap lhs_parts (out-roll-LHS l)
