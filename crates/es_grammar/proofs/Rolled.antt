-- The tokens of the productions that are records, in terms of the tokens of their parts.
use Rattle.std.specs.Prelude.{◌≡◌, ◌++◌}
use Rattle.std.proofs.Common.{ap, ◌∙◌}
use Rattle.es_tree.specs.declared.cycle.Arrow.{Arrow}
use Rattle.es_tree.specs.declared.cycle.Assign.{Assign}
use Rattle.es_tree.specs.declared.cycle.Base.{Base}
use Rattle.es_tree.specs.declared.cycle.Bind.{Bind}
use Rattle.es_tree.specs.declared.cycle.Case.{Case}
use Rattle.es_tree.specs.declared.cycle.Element.{Element}
use Rattle.es_tree.specs.declared.cycle.For.{For}
use Rattle.es_tree.specs.declared.cycle.Head.{Head}
use Rattle.es_tree.specs.declared.cycle.Init.{Init}
use Rattle.es_tree.specs.declared.cycle.Item.{Item}
use Rattle.es_tree.specs.declared.cycle.Member.{Member}
use Rattle.es_tree.specs.declared.cycle.Method.{Method}
use Rattle.es_tree.specs.declared.cycle.Operand.{Operand}
use Rattle.es_tree.specs.declared.cycle.Primary.{Primary}
use Rattle.es_tree.specs.declared.cycle.Stmt.{Stmt}
use Rattle.es_tree.specs.declared.cycle.Target.{Target}
use Rattle.es_tree.specs.declared.cycle.BindProperty.{BindProperty, roll-BindProperty, out-roll-BindProperty}
use Rattle.es_tree.specs.declared.cycle.Class.{Class, roll-Class, out-roll-Class}
use Rattle.es_tree.specs.declared.cycle.Cond.{Cond, roll-Cond, out-roll-Cond}
use Rattle.es_tree.specs.declared.cycle.Decl.{Decl, roll-Decl, out-roll-Decl}
use Rattle.es_tree.specs.declared.cycle.Func.{Func, roll-Func, out-roll-Func}
use Rattle.es_tree.specs.declared.cycle.LHS.{LHS, roll-LHS, out-roll-LHS}
use Rattle.es_tree.specs.declared.cycle.Params.{Params, roll-Params, out-roll-Params}
use Rattle.es_tree.specs.declared.cycle.TargetPart.{TargetPart, roll-TargetPart, out-roll-TargetPart}
use Rattle.es_tree.specs.declared.cycle.Arrow.TheOpen.{Decl-F, Func-F, Params-F, Class-F, BindProperty-F, TargetPart-F, Cond-F, LHS-F}
use Rattle.es_tree.specs.Yield.{Tokens, one, opt, listed, separated_tokens, initializer_tokens, rest_tokens, body_tokens, extends_tokens, arms_tokens, property_key_tokens, binary_tokens, suffix_tokens, item_tokens, assign_tokens, bind_tokens, decl_tokens, params_tokens, lhs_tokens, element_tokens, target_tokens, base_tokens, bind_property_tokens, target_part_tokens, cond_tokens, func_tokens, class_tokens}
use Rattle.es_grammar.proofs.Laws.{decl_law, func_law, params_law, class_law, bind_property_law, target_part_law, cond_law, lhs_law}

abbrev pub OpenDecl : Type 0
OpenDecl =
    Decl-F Arrow Assign Base Bind Case Element For Head Init Item Member Method Operand Primary Stmt
    Target BindProperty Class Cond Decl Func LHS Params TargetPart

abbrev pub decl_parts : OpenDecl → Tokens
decl_parts l = bind_tokens l.bind ++ opt (initializer_tokens assign_tokens) l.initial

pub decl_rolled : (l : OpenDecl) → decl_tokens (roll-Decl l) ≡ decl_parts l
decl_rolled l = decl_law (roll-Decl l) ∙ ap decl_parts (out-roll-Decl l)

abbrev pub OpenFunc : Type 0
OpenFunc =
    Func-F Arrow Assign Base Bind Case Element For Head Init Item Member Method Operand Primary Stmt
    Target BindProperty Class Cond Decl Func LHS Params TargetPart

abbrev pub func_parts : OpenFunc → Tokens
func_parts l =
    opt one l.is_async ++ one l.word ++ opt one l.star ++ opt one l.name ++ one l.left ++ params_tokens l.params ++ one l.right
    ++ body_tokens item_tokens l.body

pub func_rolled : (l : OpenFunc) → func_tokens (roll-Func l) ≡ func_parts l
func_rolled l = func_law (roll-Func l) ∙ ap func_parts (out-roll-Func l)

abbrev pub OpenParams : Type 0
OpenParams =
    Params-F Arrow Assign Base Bind Case Element For Head Init Item Member Method Operand Primary Stmt
    Target BindProperty Class Cond Decl Func LHS Params TargetPart

abbrev pub params_parts : OpenParams → Tokens
params_parts l = listed (separated_tokens decl_tokens) l.list ++ opt (rest_tokens bind_tokens) l.rest

pub params_rolled : (l : OpenParams) → params_tokens (roll-Params l) ≡ params_parts l
params_rolled l = params_law (roll-Params l) ∙ ap params_parts (out-roll-Params l)

abbrev pub OpenClass : Type 0
OpenClass =
    Class-F Arrow Assign Base Bind Case Element For Head Init Item Member Method Operand Primary Stmt
    Target BindProperty Class Cond Decl Func LHS Params TargetPart

abbrev pub class_parts : OpenClass → Tokens
class_parts l =
    one l.word ++ opt one l.name ++ opt (extends_tokens lhs_tokens) l.extends ++ one l.left ++ listed element_tokens l.elements ++ one l.right

pub class_rolled : (l : OpenClass) → class_tokens (roll-Class l) ≡ class_parts l
class_rolled l = class_law (roll-Class l) ∙ ap class_parts (out-roll-Class l)

abbrev pub OpenBindProperty : Type 0
OpenBindProperty =
    BindProperty-F Arrow Assign Base Bind Case Element For Head Init Item Member Method Operand Primary Stmt
    Target BindProperty Class Cond Decl Func LHS Params TargetPart

abbrev pub bind_property_parts : OpenBindProperty → Tokens
bind_property_parts l = opt (property_key_tokens assign_tokens) l.key ++ decl_tokens l.decl

pub bind_property_rolled : (l : OpenBindProperty) → bind_property_tokens (roll-BindProperty l) ≡ bind_property_parts l
bind_property_rolled l = bind_property_law (roll-BindProperty l) ∙ ap bind_property_parts (out-roll-BindProperty l)

abbrev pub OpenTargetPart : Type 0
OpenTargetPart =
    TargetPart-F Arrow Assign Base Bind Case Element For Head Init Item Member Method Operand Primary Stmt
    Target BindProperty Class Cond Decl Func LHS Params TargetPart

abbrev pub target_part_parts : OpenTargetPart → Tokens
target_part_parts l =
    opt (property_key_tokens assign_tokens) l.key ++ target_tokens l.target ++ opt (initializer_tokens assign_tokens) l.initial

pub target_part_rolled : (l : OpenTargetPart) → target_part_tokens (roll-TargetPart l) ≡ target_part_parts l
target_part_rolled l = target_part_law (roll-TargetPart l) ∙ ap target_part_parts (out-roll-TargetPart l)

abbrev pub OpenCond : Type 0
OpenCond =
    Cond-F Arrow Assign Base Bind Case Element For Head Init Item Member Method Operand Primary Stmt
    Target BindProperty Class Cond Decl Func LHS Params TargetPart

abbrev pub cond_parts : OpenCond → Tokens
cond_parts l = binary_tokens l.test ++ opt (arms_tokens assign_tokens) l.arms

pub cond_rolled : (l : OpenCond) → cond_tokens (roll-Cond l) ≡ cond_parts l
cond_rolled l = cond_law (roll-Cond l) ∙ ap cond_parts (out-roll-Cond l)

abbrev pub OpenLHS : Type 0
OpenLHS =
    LHS-F Arrow Assign Base Bind Case Element For Head Init Item Member Method Operand Primary Stmt
    Target BindProperty Class Cond Decl Func LHS Params TargetPart

abbrev pub lhs_parts : OpenLHS → Tokens
lhs_parts l = base_tokens l.base ++ listed suffix_tokens l.suffixes

pub lhs_rolled : (l : OpenLHS) → lhs_tokens (roll-LHS l) ≡ lhs_parts l
lhs_rolled l = lhs_law (roll-LHS l) ∙ ap lhs_parts (out-roll-LHS l)
