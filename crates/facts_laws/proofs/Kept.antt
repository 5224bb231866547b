-- What is said of each production, and one level of it, of whose parts it is known.
use Rattle.std.specs.Prelude.{Bool}
use Rattle.es_tree.specs.declared.cycle.Arrow.{Arrow, map-Arrow}
use Rattle.es_tree.specs.declared.cycle.Assign.{Assign, map-Assign}
use Rattle.es_tree.specs.declared.cycle.Base.{Base, map-Base}
use Rattle.es_tree.specs.declared.cycle.Bind.{Bind, map-Bind}
use Rattle.es_tree.specs.declared.cycle.Case.{Case, map-Case}
use Rattle.es_tree.specs.declared.cycle.Element.{Element, map-Element}
use Rattle.es_tree.specs.declared.cycle.For.{For, map-For}
use Rattle.es_tree.specs.declared.cycle.Head.{Head, map-Head}
use Rattle.es_tree.specs.declared.cycle.Init.{Init, map-Init}
use Rattle.es_tree.specs.declared.cycle.Item.{Item, map-Item}
use Rattle.es_tree.specs.declared.cycle.Member.{Member, map-Member}
use Rattle.es_tree.specs.declared.cycle.Method.{Method, map-Method}
use Rattle.es_tree.specs.declared.cycle.Operand.{Operand, map-Operand}
use Rattle.es_tree.specs.declared.cycle.Primary.{Primary, map-Primary}
use Rattle.es_tree.specs.declared.cycle.Stmt.{Stmt, map-Stmt}
use Rattle.es_tree.specs.declared.cycle.Target.{Target, map-Target}
use Rattle.es_tree.specs.declared.cycle.BindProperty.{BindProperty, map-BindProperty}
use Rattle.es_tree.specs.declared.cycle.Class.{Class, map-Class}
use Rattle.es_tree.specs.declared.cycle.Cond.{Cond, map-Cond}
use Rattle.es_tree.specs.declared.cycle.Decl.{Decl, map-Decl}
use Rattle.es_tree.specs.declared.cycle.Func.{Func, map-Func}
use Rattle.es_tree.specs.declared.cycle.LHS.{LHS, map-LHS}
use Rattle.es_tree.specs.declared.cycle.Params.{Params, map-Params}
use Rattle.es_tree.specs.declared.cycle.TargetPart.{TargetPart, map-TargetPart}
use Rattle.es_tree.specs.declared.cycle.Arrow.TheOpen.{Arrow-F, Assign-F, Base-F, Bind-F, Case-F, Element-F, For-F, Head-F, Init-F, Item-F, Member-F, Method-F, Operand-F, Primary-F, Stmt-F, Target-F, BindProperty-F, Class-F, Cond-F, Decl-F, Func-F, LHS-F, Params-F, TargetPart-F}
use Rattle.es_outline.specs.Outline.{Lays, PartLays, arrow_marks, assign_marks, base_marks, bind_marks, case_marks, element_marks, for_marks, head_marks, init_marks, item_marks, member_marks, method_marks, operand_marks, primary_marks, stmt_marks, target_marks, bind_property_marks, class_marks, cond_marks, decl_marks, func_marks, lhs_marks, params_marks, target_part_marks}
use Rattle.facts_laws.proofs.Keeping.{Keeps}

abbrev pub KeepsArrow : Arrow → Type 0
KeepsArrow x = Keeps (arrow_marks x)

abbrev pub KeptArrow : Type 0
KeptArrow = (x : Arrow) × KeepsArrow x

abbrev pub KeepsAssign : Assign → Type 0
KeepsAssign x = Keeps (assign_marks x)

abbrev pub KeptAssign : Type 0
KeptAssign = (x : Assign) × KeepsAssign x

abbrev pub KeepsBase : Base → Type 0
KeepsBase x = Keeps (base_marks x)

abbrev pub KeptBase : Type 0
KeptBase = (x : Base) × KeepsBase x

abbrev pub KeepsBind : Bind → Type 0
KeepsBind x = Keeps (bind_marks x)

abbrev pub KeptBind : Type 0
KeptBind = (x : Bind) × KeepsBind x

abbrev pub KeepsCase : Case → Type 0
KeepsCase x = Keeps (case_marks x)

abbrev pub KeptCase : Type 0
KeptCase = (x : Case) × KeepsCase x

abbrev pub KeepsElement : Element → Type 0
KeepsElement x = Keeps (element_marks x)

abbrev pub KeptElement : Type 0
KeptElement = (x : Element) × KeepsElement x

abbrev pub KeepsFor : For → Type 0
KeepsFor x = Keeps (for_marks x)

abbrev pub KeptFor : Type 0
KeptFor = (x : For) × KeepsFor x

abbrev pub KeepsHead : Head → Type 0
KeepsHead x = Keeps (head_marks x)

abbrev pub KeptHead : Type 0
KeptHead = (x : Head) × KeepsHead x

abbrev pub KeepsInit : Init → Type 0
KeepsInit x = Keeps (init_marks x)

abbrev pub KeptInit : Type 0
KeptInit = (x : Init) × KeepsInit x

abbrev pub KeepsItem : Item → Type 0
KeepsItem x = Keeps (item_marks x)

abbrev pub KeptItem : Type 0
KeptItem = (x : Item) × KeepsItem x

abbrev pub KeepsMember : Member → Type 0
KeepsMember x = Keeps (member_marks x)

abbrev pub KeptMember : Type 0
KeptMember = (x : Member) × KeepsMember x

abbrev pub KeepsMethod : Method → Type 0
KeepsMethod x = Keeps (method_marks x)

abbrev pub KeptMethod : Type 0
KeptMethod = (x : Method) × KeepsMethod x

abbrev pub KeepsOperand : Operand → Type 0
KeepsOperand x = Keeps (operand_marks x)

abbrev pub KeptOperand : Type 0
KeptOperand = (x : Operand) × KeepsOperand x

abbrev pub KeepsPrimary : Primary → Type 0
KeepsPrimary x = Keeps (primary_marks x)

abbrev pub KeptPrimary : Type 0
KeptPrimary = (x : Primary) × KeepsPrimary x

abbrev pub KeepsStmt : Stmt → Type 0
KeepsStmt x = Keeps (stmt_marks x)

abbrev pub KeptStmt : Type 0
KeptStmt = (x : Stmt) × KeepsStmt x

abbrev pub KeepsTarget : Target → Type 0
KeepsTarget x = Keeps (target_marks x)

abbrev pub KeptTarget : Type 0
KeptTarget = (x : Target) × KeepsTarget x

abbrev pub KeepsBindProperty : BindProperty → Type 0
KeepsBindProperty x = Keeps (bind_property_marks x)

abbrev pub KeptBindProperty : Type 0
KeptBindProperty = (x : BindProperty) × KeepsBindProperty x

abbrev pub KeepsClass : Class → Type 0
KeepsClass x = Keeps (class_marks x)

abbrev pub KeptClass : Type 0
KeptClass = (x : Class) × KeepsClass x

abbrev pub KeepsCond : Cond → Type 0
KeepsCond x = Keeps (cond_marks x)

abbrev pub KeptCond : Type 0
KeptCond = (x : Cond) × KeepsCond x

abbrev pub KeepsDecl : Decl → Type 0
KeepsDecl x = Keeps (decl_marks x)

abbrev pub KeptDecl : Type 0
KeptDecl = (x : Decl) × KeepsDecl x

abbrev pub KeepsFunc : Func → Type 0
KeepsFunc x = Keeps (func_marks x)

abbrev pub KeptFunc : Type 0
KeptFunc = (x : Func) × KeepsFunc x

abbrev pub KeepsLHS : LHS → Type 0
KeepsLHS x = Keeps (lhs_marks x)

abbrev pub KeptLHS : Type 0
KeptLHS = (x : LHS) × KeepsLHS x

abbrev pub KeepsParams : Params → Type 0
KeepsParams x = Keeps (params_marks x)

abbrev pub KeptParams : Type 0
KeptParams = (x : Params) × KeepsParams x

abbrev pub KeepsTargetPart : TargetPart → Type 0
KeepsTargetPart x = (in_object : Bool) → Keeps (target_part_marks x in_object)

abbrev pub KeptTargetPart : Type 0
KeptTargetPart = (x : TargetPart) × KeepsTargetPart x

-- a level, and the same without what is known of its parts

abbrev pub ArrowLayer : Type 0
ArrowLayer = Arrow-F KeptArrow KeptAssign KeptBase KeptBind KeptCase KeptElement KeptFor KeptHead KeptInit KeptItem KeptMember KeptMethod KeptOperand KeptPrimary KeptStmt KeptTarget KeptBindProperty KeptClass KeptCond KeptDecl KeptFunc KeptLHS KeptParams KeptTargetPart

abbrev pub arrow_of : ArrowLayer → Arrow-F Arrow Assign Base Bind Case Element For Head Init Item Member Method Operand Primary Stmt Target BindProperty Class Cond Decl Func LHS Params TargetPart
arrow_of y = map-Arrow KeptArrow KeptAssign KeptBase KeptBind KeptCase KeptElement KeptFor KeptHead KeptInit KeptItem KeptMember KeptMethod KeptOperand KeptPrimary KeptStmt KeptTarget KeptBindProperty KeptClass KeptCond KeptDecl KeptFunc KeptLHS KeptParams KeptTargetPart Arrow Assign Base Bind Case Element For Head Init Item Member Method Operand Primary Stmt Target BindProperty Class Cond Decl Func LHS Params TargetPart (λ p. p.0) (λ p. p.0) (λ p. p.0) (λ p. p.0) (λ p. p.0) (λ p. p.0) (λ p. p.0) (λ p. p.0) (λ p. p.0) (λ p. p.0) (λ p. p.0) (λ p. p.0) (λ p. p.0) (λ p. p.0) (λ p. p.0) (λ p. p.0) (λ p. p.0) (λ p. p.0) (λ p. p.0) (λ p. p.0) (λ p. p.0) (λ p. p.0) (λ p. p.0) (λ p. p.0) y

abbrev pub AssignLayer : Type 0
AssignLayer = Assign-F KeptArrow KeptAssign KeptBase KeptBind KeptCase KeptElement KeptFor KeptHead KeptInit KeptItem KeptMember KeptMethod KeptOperand KeptPrimary KeptStmt KeptTarget KeptBindProperty KeptClass KeptCond KeptDecl KeptFunc KeptLHS KeptParams KeptTargetPart

abbrev pub assign_of : AssignLayer → Assign-F Arrow Assign Base Bind Case Element For Head Init Item Member Method Operand Primary Stmt Target BindProperty Class Cond Decl Func LHS Params TargetPart
assign_of y = map-Assign KeptArrow KeptAssign KeptBase KeptBind KeptCase KeptElement KeptFor KeptHead KeptInit KeptItem KeptMember KeptMethod KeptOperand KeptPrimary KeptStmt KeptTarget KeptBindProperty KeptClass KeptCond KeptDecl KeptFunc KeptLHS KeptParams KeptTargetPart Arrow Assign Base Bind Case Element For Head Init Item Member Method Operand Primary Stmt Target BindProperty Class Cond Decl Func LHS Params TargetPart (λ p. p.0) (λ p. p.0) (λ p. p.0) (λ p. p.0) (λ p. p.0) (λ p. p.0) (λ p. p.0) (λ p. p.0) (λ p. p.0) (λ p. p.0) (λ p. p.0) (λ p. p.0) (λ p. p.0) (λ p. p.0) (λ p. p.0) (λ p. p.0) (λ p. p.0) (λ p. p.0) (λ p. p.0) (λ p. p.0) (λ p. p.0) (λ p. p.0) (λ p. p.0) (λ p. p.0) y

abbrev pub BaseLayer : Type 0
BaseLayer = Base-F KeptArrow KeptAssign KeptBase KeptBind KeptCase KeptElement KeptFor KeptHead KeptInit KeptItem KeptMember KeptMethod KeptOperand KeptPrimary KeptStmt KeptTarget KeptBindProperty KeptClass KeptCond KeptDecl KeptFunc KeptLHS KeptParams KeptTargetPart

abbrev pub base_of : BaseLayer → Base-F Arrow Assign Base Bind Case Element For Head Init Item Member Method Operand Primary Stmt Target BindProperty Class Cond Decl Func LHS Params TargetPart
base_of y = map-Base KeptArrow KeptAssign KeptBase KeptBind KeptCase KeptElement KeptFor KeptHead KeptInit KeptItem KeptMember KeptMethod KeptOperand KeptPrimary KeptStmt KeptTarget KeptBindProperty KeptClass KeptCond KeptDecl KeptFunc KeptLHS KeptParams KeptTargetPart Arrow Assign Base Bind Case Element For Head Init Item Member Method Operand Primary Stmt Target BindProperty Class Cond Decl Func LHS Params TargetPart (λ p. p.0) (λ p. p.0) (λ p. p.0) (λ p. p.0) (λ p. p.0) (λ p. p.0) (λ p. p.0) (λ p. p.0) (λ p. p.0) (λ p. p.0) (λ p. p.0) (λ p. p.0) (λ p. p.0) (λ p. p.0) (λ p. p.0) (λ p. p.0) (λ p. p.0) (λ p. p.0) (λ p. p.0) (λ p. p.0) (λ p. p.0) (λ p. p.0) (λ p. p.0) (λ p. p.0) y

abbrev pub BindLayer : Type 0
BindLayer = Bind-F KeptArrow KeptAssign KeptBase KeptBind KeptCase KeptElement KeptFor KeptHead KeptInit KeptItem KeptMember KeptMethod KeptOperand KeptPrimary KeptStmt KeptTarget KeptBindProperty KeptClass KeptCond KeptDecl KeptFunc KeptLHS KeptParams KeptTargetPart

abbrev pub bind_of : BindLayer → Bind-F Arrow Assign Base Bind Case Element For Head Init Item Member Method Operand Primary Stmt Target BindProperty Class Cond Decl Func LHS Params TargetPart
bind_of y = map-Bind KeptArrow KeptAssign KeptBase KeptBind KeptCase KeptElement KeptFor KeptHead KeptInit KeptItem KeptMember KeptMethod KeptOperand KeptPrimary KeptStmt KeptTarget KeptBindProperty KeptClass KeptCond KeptDecl KeptFunc KeptLHS KeptParams KeptTargetPart Arrow Assign Base Bind Case Element For Head Init Item Member Method Operand Primary Stmt Target BindProperty Class Cond Decl Func LHS Params TargetPart (λ p. p.0) (λ p. p.0) (λ p. p.0) (λ p. p.0) (λ p. p.0) (λ p. p.0) (λ p. p.0) (λ p. p.0) (λ p. p.0) (λ p. p.0) (λ p. p.0) (λ p. p.0) (λ p. p.0) (λ p. p.0) (λ p. p.0) (λ p. p.0) (λ p. p.0) (λ p. p.0) (λ p. p.0) (λ p. p.0) (λ p. p.0) (λ p. p.0) (λ p. p.0) (λ p. p.0) y

abbrev pub CaseLayer : Type 0
CaseLayer = Case-F KeptArrow KeptAssign KeptBase KeptBind KeptCase KeptElement KeptFor KeptHead KeptInit KeptItem KeptMember KeptMethod KeptOperand KeptPrimary KeptStmt KeptTarget KeptBindProperty KeptClass KeptCond KeptDecl KeptFunc KeptLHS KeptParams KeptTargetPart

abbrev pub case_of : CaseLayer → Case-F Arrow Assign Base Bind Case Element For Head Init Item Member Method Operand Primary Stmt Target BindProperty Class Cond Decl Func LHS Params TargetPart
case_of y = map-Case KeptArrow KeptAssign KeptBase KeptBind KeptCase KeptElement KeptFor KeptHead KeptInit KeptItem KeptMember KeptMethod KeptOperand KeptPrimary KeptStmt KeptTarget KeptBindProperty KeptClass KeptCond KeptDecl KeptFunc KeptLHS KeptParams KeptTargetPart Arrow Assign Base Bind Case Element For Head Init Item Member Method Operand Primary Stmt Target BindProperty Class Cond Decl Func LHS Params TargetPart (λ p. p.0) (λ p. p.0) (λ p. p.0) (λ p. p.0) (λ p. p.0) (λ p. p.0) (λ p. p.0) (λ p. p.0) (λ p. p.0) (λ p. p.0) (λ p. p.0) (λ p. p.0) (λ p. p.0) (λ p. p.0) (λ p. p.0) (λ p. p.0) (λ p. p.0) (λ p. p.0) (λ p. p.0) (λ p. p.0) (λ p. p.0) (λ p. p.0) (λ p. p.0) (λ p. p.0) y

abbrev pub ElementLayer : Type 0
ElementLayer = Element-F KeptArrow KeptAssign KeptBase KeptBind KeptCase KeptElement KeptFor KeptHead KeptInit KeptItem KeptMember KeptMethod KeptOperand KeptPrimary KeptStmt KeptTarget KeptBindProperty KeptClass KeptCond KeptDecl KeptFunc KeptLHS KeptParams KeptTargetPart

abbrev pub element_of : ElementLayer → Element-F Arrow Assign Base Bind Case Element For Head Init Item Member Method Operand Primary Stmt Target BindProperty Class Cond Decl Func LHS Params TargetPart
element_of y = map-Element KeptArrow KeptAssign KeptBase KeptBind KeptCase KeptElement KeptFor KeptHead KeptInit KeptItem KeptMember KeptMethod KeptOperand KeptPrimary KeptStmt KeptTarget KeptBindProperty KeptClass KeptCond KeptDecl KeptFunc KeptLHS KeptParams KeptTargetPart Arrow Assign Base Bind Case Element For Head Init Item Member Method Operand Primary Stmt Target BindProperty Class Cond Decl Func LHS Params TargetPart (λ p. p.0) (λ p. p.0) (λ p. p.0) (λ p. p.0) (λ p. p.0) (λ p. p.0) (λ p. p.0) (λ p. p.0) (λ p. p.0) (λ p. p.0) (λ p. p.0) (λ p. p.0) (λ p. p.0) (λ p. p.0) (λ p. p.0) (λ p. p.0) (λ p. p.0) (λ p. p.0) (λ p. p.0) (λ p. p.0) (λ p. p.0) (λ p. p.0) (λ p. p.0) (λ p. p.0) y

abbrev pub ForLayer : Type 0
ForLayer = For-F KeptArrow KeptAssign KeptBase KeptBind KeptCase KeptElement KeptFor KeptHead KeptInit KeptItem KeptMember KeptMethod KeptOperand KeptPrimary KeptStmt KeptTarget KeptBindProperty KeptClass KeptCond KeptDecl KeptFunc KeptLHS KeptParams KeptTargetPart

abbrev pub for_of : ForLayer → For-F Arrow Assign Base Bind Case Element For Head Init Item Member Method Operand Primary Stmt Target BindProperty Class Cond Decl Func LHS Params TargetPart
for_of y = map-For KeptArrow KeptAssign KeptBase KeptBind KeptCase KeptElement KeptFor KeptHead KeptInit KeptItem KeptMember KeptMethod KeptOperand KeptPrimary KeptStmt KeptTarget KeptBindProperty KeptClass KeptCond KeptDecl KeptFunc KeptLHS KeptParams KeptTargetPart Arrow Assign Base Bind Case Element For Head Init Item Member Method Operand Primary Stmt Target BindProperty Class Cond Decl Func LHS Params TargetPart (λ p. p.0) (λ p. p.0) (λ p. p.0) (λ p. p.0) (λ p. p.0) (λ p. p.0) (λ p. p.0) (λ p. p.0) (λ p. p.0) (λ p. p.0) (λ p. p.0) (λ p. p.0) (λ p. p.0) (λ p. p.0) (λ p. p.0) (λ p. p.0) (λ p. p.0) (λ p. p.0) (λ p. p.0) (λ p. p.0) (λ p. p.0) (λ p. p.0) (λ p. p.0) (λ p. p.0) y

abbrev pub HeadLayer : Type 0
HeadLayer = Head-F KeptArrow KeptAssign KeptBase KeptBind KeptCase KeptElement KeptFor KeptHead KeptInit KeptItem KeptMember KeptMethod KeptOperand KeptPrimary KeptStmt KeptTarget KeptBindProperty KeptClass KeptCond KeptDecl KeptFunc KeptLHS KeptParams KeptTargetPart

abbrev pub head_of : HeadLayer → Head-F Arrow Assign Base Bind Case Element For Head Init Item Member Method Operand Primary Stmt Target BindProperty Class Cond Decl Func LHS Params TargetPart
head_of y = map-Head KeptArrow KeptAssign KeptBase KeptBind KeptCase KeptElement KeptFor KeptHead KeptInit KeptItem KeptMember KeptMethod KeptOperand KeptPrimary KeptStmt KeptTarget KeptBindProperty KeptClass KeptCond KeptDecl KeptFunc KeptLHS KeptParams KeptTargetPart Arrow Assign Base Bind Case Element For Head Init Item Member Method Operand Primary Stmt Target BindProperty Class Cond Decl Func LHS Params TargetPart (λ p. p.0) (λ p. p.0) (λ p. p.0) (λ p. p.0) (λ p. p.0) (λ p. p.0) (λ p. p.0) (λ p. p.0) (λ p. p.0) (λ p. p.0) (λ p. p.0) (λ p. p.0) (λ p. p.0) (λ p. p.0) (λ p. p.0) (λ p. p.0) (λ p. p.0) (λ p. p.0) (λ p. p.0) (λ p. p.0) (λ p. p.0) (λ p. p.0) (λ p. p.0) (λ p. p.0) y

abbrev pub InitLayer : Type 0
InitLayer = Init-F KeptArrow KeptAssign KeptBase KeptBind KeptCase KeptElement KeptFor KeptHead KeptInit KeptItem KeptMember KeptMethod KeptOperand KeptPrimary KeptStmt KeptTarget KeptBindProperty KeptClass KeptCond KeptDecl KeptFunc KeptLHS KeptParams KeptTargetPart

abbrev pub init_of : InitLayer → Init-F Arrow Assign Base Bind Case Element For Head Init Item Member Method Operand Primary Stmt Target BindProperty Class Cond Decl Func LHS Params TargetPart
init_of y = map-Init KeptArrow KeptAssign KeptBase KeptBind KeptCase KeptElement KeptFor KeptHead KeptInit KeptItem KeptMember KeptMethod KeptOperand KeptPrimary KeptStmt KeptTarget KeptBindProperty KeptClass KeptCond KeptDecl KeptFunc KeptLHS KeptParams KeptTargetPart Arrow Assign Base Bind Case Element For Head Init Item Member Method Operand Primary Stmt Target BindProperty Class Cond Decl Func LHS Params TargetPart (λ p. p.0) (λ p. p.0) (λ p. p.0) (λ p. p.0) (λ p. p.0) (λ p. p.0) (λ p. p.0) (λ p. p.0) (λ p. p.0) (λ p. p.0) (λ p. p.0) (λ p. p.0) (λ p. p.0) (λ p. p.0) (λ p. p.0) (λ p. p.0) (λ p. p.0) (λ p. p.0) (λ p. p.0) (λ p. p.0) (λ p. p.0) (λ p. p.0) (λ p. p.0) (λ p. p.0) y

abbrev pub ItemLayer : Type 0
ItemLayer = Item-F KeptArrow KeptAssign KeptBase KeptBind KeptCase KeptElement KeptFor KeptHead KeptInit KeptItem KeptMember KeptMethod KeptOperand KeptPrimary KeptStmt KeptTarget KeptBindProperty KeptClass KeptCond KeptDecl KeptFunc KeptLHS KeptParams KeptTargetPart

abbrev pub item_of : ItemLayer → Item-F Arrow Assign Base Bind Case Element For Head Init Item Member Method Operand Primary Stmt Target BindProperty Class Cond Decl Func LHS Params TargetPart
item_of y = map-Item KeptArrow KeptAssign KeptBase KeptBind KeptCase KeptElement KeptFor KeptHead KeptInit KeptItem KeptMember KeptMethod KeptOperand KeptPrimary KeptStmt KeptTarget KeptBindProperty KeptClass KeptCond KeptDecl KeptFunc KeptLHS KeptParams KeptTargetPart Arrow Assign Base Bind Case Element For Head Init Item Member Method Operand Primary Stmt Target BindProperty Class Cond Decl Func LHS Params TargetPart (λ p. p.0) (λ p. p.0) (λ p. p.0) (λ p. p.0) (λ p. p.0) (λ p. p.0) (λ p. p.0) (λ p. p.0) (λ p. p.0) (λ p. p.0) (λ p. p.0) (λ p. p.0) (λ p. p.0) (λ p. p.0) (λ p. p.0) (λ p. p.0) (λ p. p.0) (λ p. p.0) (λ p. p.0) (λ p. p.0) (λ p. p.0) (λ p. p.0) (λ p. p.0) (λ p. p.0) y

abbrev pub MemberLayer : Type 0
MemberLayer = Member-F KeptArrow KeptAssign KeptBase KeptBind KeptCase KeptElement KeptFor KeptHead KeptInit KeptItem KeptMember KeptMethod KeptOperand KeptPrimary KeptStmt KeptTarget KeptBindProperty KeptClass KeptCond KeptDecl KeptFunc KeptLHS KeptParams KeptTargetPart

abbrev pub member_of : MemberLayer → Member-F Arrow Assign Base Bind Case Element For Head Init Item Member Method Operand Primary Stmt Target BindProperty Class Cond Decl Func LHS Params TargetPart
member_of y = map-Member KeptArrow KeptAssign KeptBase KeptBind KeptCase KeptElement KeptFor KeptHead KeptInit KeptItem KeptMember KeptMethod KeptOperand KeptPrimary KeptStmt KeptTarget KeptBindProperty KeptClass KeptCond KeptDecl KeptFunc KeptLHS KeptParams KeptTargetPart Arrow Assign Base Bind Case Element For Head Init Item Member Method Operand Primary Stmt Target BindProperty Class Cond Decl Func LHS Params TargetPart (λ p. p.0) (λ p. p.0) (λ p. p.0) (λ p. p.0) (λ p. p.0) (λ p. p.0) (λ p. p.0) (λ p. p.0) (λ p. p.0) (λ p. p.0) (λ p. p.0) (λ p. p.0) (λ p. p.0) (λ p. p.0) (λ p. p.0) (λ p. p.0) (λ p. p.0) (λ p. p.0) (λ p. p.0) (λ p. p.0) (λ p. p.0) (λ p. p.0) (λ p. p.0) (λ p. p.0) y

abbrev pub MethodLayer : Type 0
MethodLayer = Method-F KeptArrow KeptAssign KeptBase KeptBind KeptCase KeptElement KeptFor KeptHead KeptInit KeptItem KeptMember KeptMethod KeptOperand KeptPrimary KeptStmt KeptTarget KeptBindProperty KeptClass KeptCond KeptDecl KeptFunc KeptLHS KeptParams KeptTargetPart

abbrev pub method_of : MethodLayer → Method-F Arrow Assign Base Bind Case Element For Head Init Item Member Method Operand Primary Stmt Target BindProperty Class Cond Decl Func LHS Params TargetPart
method_of y = map-Method KeptArrow KeptAssign KeptBase KeptBind KeptCase KeptElement KeptFor KeptHead KeptInit KeptItem KeptMember KeptMethod KeptOperand KeptPrimary KeptStmt KeptTarget KeptBindProperty KeptClass KeptCond KeptDecl KeptFunc KeptLHS KeptParams KeptTargetPart Arrow Assign Base Bind Case Element For Head Init Item Member Method Operand Primary Stmt Target BindProperty Class Cond Decl Func LHS Params TargetPart (λ p. p.0) (λ p. p.0) (λ p. p.0) (λ p. p.0) (λ p. p.0) (λ p. p.0) (λ p. p.0) (λ p. p.0) (λ p. p.0) (λ p. p.0) (λ p. p.0) (λ p. p.0) (λ p. p.0) (λ p. p.0) (λ p. p.0) (λ p. p.0) (λ p. p.0) (λ p. p.0) (λ p. p.0) (λ p. p.0) (λ p. p.0) (λ p. p.0) (λ p. p.0) (λ p. p.0) y

abbrev pub OperandLayer : Type 0
OperandLayer = Operand-F KeptArrow KeptAssign KeptBase KeptBind KeptCase KeptElement KeptFor KeptHead KeptInit KeptItem KeptMember KeptMethod KeptOperand KeptPrimary KeptStmt KeptTarget KeptBindProperty KeptClass KeptCond KeptDecl KeptFunc KeptLHS KeptParams KeptTargetPart

abbrev pub operand_of : OperandLayer → Operand-F Arrow Assign Base Bind Case Element For Head Init Item Member Method Operand Primary Stmt Target BindProperty Class Cond Decl Func LHS Params TargetPart
operand_of y = map-Operand KeptArrow KeptAssign KeptBase KeptBind KeptCase KeptElement KeptFor KeptHead KeptInit KeptItem KeptMember KeptMethod KeptOperand KeptPrimary KeptStmt KeptTarget KeptBindProperty KeptClass KeptCond KeptDecl KeptFunc KeptLHS KeptParams KeptTargetPart Arrow Assign Base Bind Case Element For Head Init Item Member Method Operand Primary Stmt Target BindProperty Class Cond Decl Func LHS Params TargetPart (λ p. p.0) (λ p. p.0) (λ p. p.0) (λ p. p.0) (λ p. p.0) (λ p. p.0) (λ p. p.0) (λ p. p.0) (λ p. p.0) (λ p. p.0) (λ p. p.0) (λ p. p.0) (λ p. p.0) (λ p. p.0) (λ p. p.0) (λ p. p.0) (λ p. p.0) (λ p. p.0) (λ p. p.0) (λ p. p.0) (λ p. p.0) (λ p. p.0) (λ p. p.0) (λ p. p.0) y

abbrev pub PrimaryLayer : Type 0
PrimaryLayer = Primary-F KeptArrow KeptAssign KeptBase KeptBind KeptCase KeptElement KeptFor KeptHead KeptInit KeptItem KeptMember KeptMethod KeptOperand KeptPrimary KeptStmt KeptTarget KeptBindProperty KeptClass KeptCond KeptDecl KeptFunc KeptLHS KeptParams KeptTargetPart

abbrev pub primary_of : PrimaryLayer → Primary-F Arrow Assign Base Bind Case Element For Head Init Item Member Method Operand Primary Stmt Target BindProperty Class Cond Decl Func LHS Params TargetPart
primary_of y = map-Primary KeptArrow KeptAssign KeptBase KeptBind KeptCase KeptElement KeptFor KeptHead KeptInit KeptItem KeptMember KeptMethod KeptOperand KeptPrimary KeptStmt KeptTarget KeptBindProperty KeptClass KeptCond KeptDecl KeptFunc KeptLHS KeptParams KeptTargetPart Arrow Assign Base Bind Case Element For Head Init Item Member Method Operand Primary Stmt Target BindProperty Class Cond Decl Func LHS Params TargetPart (λ p. p.0) (λ p. p.0) (λ p. p.0) (λ p. p.0) (λ p. p.0) (λ p. p.0) (λ p. p.0) (λ p. p.0) (λ p. p.0) (λ p. p.0) (λ p. p.0) (λ p. p.0) (λ p. p.0) (λ p. p.0) (λ p. p.0) (λ p. p.0) (λ p. p.0) (λ p. p.0) (λ p. p.0) (λ p. p.0) (λ p. p.0) (λ p. p.0) (λ p. p.0) (λ p. p.0) y

abbrev pub StmtLayer : Type 0
StmtLayer = Stmt-F KeptArrow KeptAssign KeptBase KeptBind KeptCase KeptElement KeptFor KeptHead KeptInit KeptItem KeptMember KeptMethod KeptOperand KeptPrimary KeptStmt KeptTarget KeptBindProperty KeptClass KeptCond KeptDecl KeptFunc KeptLHS KeptParams KeptTargetPart

abbrev pub stmt_of : StmtLayer → Stmt-F Arrow Assign Base Bind Case Element For Head Init Item Member Method Operand Primary Stmt Target BindProperty Class Cond Decl Func LHS Params TargetPart
stmt_of y = map-Stmt KeptArrow KeptAssign KeptBase KeptBind KeptCase KeptElement KeptFor KeptHead KeptInit KeptItem KeptMember KeptMethod KeptOperand KeptPrimary KeptStmt KeptTarget KeptBindProperty KeptClass KeptCond KeptDecl KeptFunc KeptLHS KeptParams KeptTargetPart Arrow Assign Base Bind Case Element For Head Init Item Member Method Operand Primary Stmt Target BindProperty Class Cond Decl Func LHS Params TargetPart (λ p. p.0) (λ p. p.0) (λ p. p.0) (λ p. p.0) (λ p. p.0) (λ p. p.0) (λ p. p.0) (λ p. p.0) (λ p. p.0) (λ p. p.0) (λ p. p.0) (λ p. p.0) (λ p. p.0) (λ p. p.0) (λ p. p.0) (λ p. p.0) (λ p. p.0) (λ p. p.0) (λ p. p.0) (λ p. p.0) (λ p. p.0) (λ p. p.0) (λ p. p.0) (λ p. p.0) y

abbrev pub TargetLayer : Type 0
TargetLayer = Target-F KeptArrow KeptAssign KeptBase KeptBind KeptCase KeptElement KeptFor KeptHead KeptInit KeptItem KeptMember KeptMethod KeptOperand KeptPrimary KeptStmt KeptTarget KeptBindProperty KeptClass KeptCond KeptDecl KeptFunc KeptLHS KeptParams KeptTargetPart

abbrev pub target_of : TargetLayer → Target-F Arrow Assign Base Bind Case Element For Head Init Item Member Method Operand Primary Stmt Target BindProperty Class Cond Decl Func LHS Params TargetPart
target_of y = map-Target KeptArrow KeptAssign KeptBase KeptBind KeptCase KeptElement KeptFor KeptHead KeptInit KeptItem KeptMember KeptMethod KeptOperand KeptPrimary KeptStmt KeptTarget KeptBindProperty KeptClass KeptCond KeptDecl KeptFunc KeptLHS KeptParams KeptTargetPart Arrow Assign Base Bind Case Element For Head Init Item Member Method Operand Primary Stmt Target BindProperty Class Cond Decl Func LHS Params TargetPart (λ p. p.0) (λ p. p.0) (λ p. p.0) (λ p. p.0) (λ p. p.0) (λ p. p.0) (λ p. p.0) (λ p. p.0) (λ p. p.0) (λ p. p.0) (λ p. p.0) (λ p. p.0) (λ p. p.0) (λ p. p.0) (λ p. p.0) (λ p. p.0) (λ p. p.0) (λ p. p.0) (λ p. p.0) (λ p. p.0) (λ p. p.0) (λ p. p.0) (λ p. p.0) (λ p. p.0) y

abbrev pub BindPropertyLayer : Type 0
BindPropertyLayer = BindProperty-F KeptArrow KeptAssign KeptBase KeptBind KeptCase KeptElement KeptFor KeptHead KeptInit KeptItem KeptMember KeptMethod KeptOperand KeptPrimary KeptStmt KeptTarget KeptBindProperty KeptClass KeptCond KeptDecl KeptFunc KeptLHS KeptParams KeptTargetPart

abbrev pub bind_property_of : BindPropertyLayer → BindProperty-F Arrow Assign Base Bind Case Element For Head Init Item Member Method Operand Primary Stmt Target BindProperty Class Cond Decl Func LHS Params TargetPart
bind_property_of y = map-BindProperty KeptArrow KeptAssign KeptBase KeptBind KeptCase KeptElement KeptFor KeptHead KeptInit KeptItem KeptMember KeptMethod KeptOperand KeptPrimary KeptStmt KeptTarget KeptBindProperty KeptClass KeptCond KeptDecl KeptFunc KeptLHS KeptParams KeptTargetPart Arrow Assign Base Bind Case Element For Head Init Item Member Method Operand Primary Stmt Target BindProperty Class Cond Decl Func LHS Params TargetPart (λ p. p.0) (λ p. p.0) (λ p. p.0) (λ p. p.0) (λ p. p.0) (λ p. p.0) (λ p. p.0) (λ p. p.0) (λ p. p.0) (λ p. p.0) (λ p. p.0) (λ p. p.0) (λ p. p.0) (λ p. p.0) (λ p. p.0) (λ p. p.0) (λ p. p.0) (λ p. p.0) (λ p. p.0) (λ p. p.0) (λ p. p.0) (λ p. p.0) (λ p. p.0) (λ p. p.0) y

abbrev pub ClassLayer : Type 0
ClassLayer = Class-F KeptArrow KeptAssign KeptBase KeptBind KeptCase KeptElement KeptFor KeptHead KeptInit KeptItem KeptMember KeptMethod KeptOperand KeptPrimary KeptStmt KeptTarget KeptBindProperty KeptClass KeptCond KeptDecl KeptFunc KeptLHS KeptParams KeptTargetPart

abbrev pub class_of : ClassLayer → Class-F Arrow Assign Base Bind Case Element For Head Init Item Member Method Operand Primary Stmt Target BindProperty Class Cond Decl Func LHS Params TargetPart
class_of y = map-Class KeptArrow KeptAssign KeptBase KeptBind KeptCase KeptElement KeptFor KeptHead KeptInit KeptItem KeptMember KeptMethod KeptOperand KeptPrimary KeptStmt KeptTarget KeptBindProperty KeptClass KeptCond KeptDecl KeptFunc KeptLHS KeptParams KeptTargetPart Arrow Assign Base Bind Case Element For Head Init Item Member Method Operand Primary Stmt Target BindProperty Class Cond Decl Func LHS Params TargetPart (λ p. p.0) (λ p. p.0) (λ p. p.0) (λ p. p.0) (λ p. p.0) (λ p. p.0) (λ p. p.0) (λ p. p.0) (λ p. p.0) (λ p. p.0) (λ p. p.0) (λ p. p.0) (λ p. p.0) (λ p. p.0) (λ p. p.0) (λ p. p.0) (λ p. p.0) (λ p. p.0) (λ p. p.0) (λ p. p.0) (λ p. p.0) (λ p. p.0) (λ p. p.0) (λ p. p.0) y

abbrev pub CondLayer : Type 0
CondLayer = Cond-F KeptArrow KeptAssign KeptBase KeptBind KeptCase KeptElement KeptFor KeptHead KeptInit KeptItem KeptMember KeptMethod KeptOperand KeptPrimary KeptStmt KeptTarget KeptBindProperty KeptClass KeptCond KeptDecl KeptFunc KeptLHS KeptParams KeptTargetPart

abbrev pub cond_of : CondLayer → Cond-F Arrow Assign Base Bind Case Element For Head Init Item Member Method Operand Primary Stmt Target BindProperty Class Cond Decl Func LHS Params TargetPart
cond_of y = map-Cond KeptArrow KeptAssign KeptBase KeptBind KeptCase KeptElement KeptFor KeptHead KeptInit KeptItem KeptMember KeptMethod KeptOperand KeptPrimary KeptStmt KeptTarget KeptBindProperty KeptClass KeptCond KeptDecl KeptFunc KeptLHS KeptParams KeptTargetPart Arrow Assign Base Bind Case Element For Head Init Item Member Method Operand Primary Stmt Target BindProperty Class Cond Decl Func LHS Params TargetPart (λ p. p.0) (λ p. p.0) (λ p. p.0) (λ p. p.0) (λ p. p.0) (λ p. p.0) (λ p. p.0) (λ p. p.0) (λ p. p.0) (λ p. p.0) (λ p. p.0) (λ p. p.0) (λ p. p.0) (λ p. p.0) (λ p. p.0) (λ p. p.0) (λ p. p.0) (λ p. p.0) (λ p. p.0) (λ p. p.0) (λ p. p.0) (λ p. p.0) (λ p. p.0) (λ p. p.0) y

abbrev pub DeclLayer : Type 0
DeclLayer = Decl-F KeptArrow KeptAssign KeptBase KeptBind KeptCase KeptElement KeptFor KeptHead KeptInit KeptItem KeptMember KeptMethod KeptOperand KeptPrimary KeptStmt KeptTarget KeptBindProperty KeptClass KeptCond KeptDecl KeptFunc KeptLHS KeptParams KeptTargetPart

abbrev pub decl_of : DeclLayer → Decl-F Arrow Assign Base Bind Case Element For Head Init Item Member Method Operand Primary Stmt Target BindProperty Class Cond Decl Func LHS Params TargetPart
decl_of y = map-Decl KeptArrow KeptAssign KeptBase KeptBind KeptCase KeptElement KeptFor KeptHead KeptInit KeptItem KeptMember KeptMethod KeptOperand KeptPrimary KeptStmt KeptTarget KeptBindProperty KeptClass KeptCond KeptDecl KeptFunc KeptLHS KeptParams KeptTargetPart Arrow Assign Base Bind Case Element For Head Init Item Member Method Operand Primary Stmt Target BindProperty Class Cond Decl Func LHS Params TargetPart (λ p. p.0) (λ p. p.0) (λ p. p.0) (λ p. p.0) (λ p. p.0) (λ p. p.0) (λ p. p.0) (λ p. p.0) (λ p. p.0) (λ p. p.0) (λ p. p.0) (λ p. p.0) (λ p. p.0) (λ p. p.0) (λ p. p.0) (λ p. p.0) (λ p. p.0) (λ p. p.0) (λ p. p.0) (λ p. p.0) (λ p. p.0) (λ p. p.0) (λ p. p.0) (λ p. p.0) y

abbrev pub FuncLayer : Type 0
FuncLayer = Func-F KeptArrow KeptAssign KeptBase KeptBind KeptCase KeptElement KeptFor KeptHead KeptInit KeptItem KeptMember KeptMethod KeptOperand KeptPrimary KeptStmt KeptTarget KeptBindProperty KeptClass KeptCond KeptDecl KeptFunc KeptLHS KeptParams KeptTargetPart

abbrev pub func_of : FuncLayer → Func-F Arrow Assign Base Bind Case Element For Head Init Item Member Method Operand Primary Stmt Target BindProperty Class Cond Decl Func LHS Params TargetPart
func_of y = map-Func KeptArrow KeptAssign KeptBase KeptBind KeptCase KeptElement KeptFor KeptHead KeptInit KeptItem KeptMember KeptMethod KeptOperand KeptPrimary KeptStmt KeptTarget KeptBindProperty KeptClass KeptCond KeptDecl KeptFunc KeptLHS KeptParams KeptTargetPart Arrow Assign Base Bind Case Element For Head Init Item Member Method Operand Primary Stmt Target BindProperty Class Cond Decl Func LHS Params TargetPart (λ p. p.0) (λ p. p.0) (λ p. p.0) (λ p. p.0) (λ p. p.0) (λ p. p.0) (λ p. p.0) (λ p. p.0) (λ p. p.0) (λ p. p.0) (λ p. p.0) (λ p. p.0) (λ p. p.0) (λ p. p.0) (λ p. p.0) (λ p. p.0) (λ p. p.0) (λ p. p.0) (λ p. p.0) (λ p. p.0) (λ p. p.0) (λ p. p.0) (λ p. p.0) (λ p. p.0) y

abbrev pub LHSLayer : Type 0
LHSLayer = LHS-F KeptArrow KeptAssign KeptBase KeptBind KeptCase KeptElement KeptFor KeptHead KeptInit KeptItem KeptMember KeptMethod KeptOperand KeptPrimary KeptStmt KeptTarget KeptBindProperty KeptClass KeptCond KeptDecl KeptFunc KeptLHS KeptParams KeptTargetPart

abbrev pub lhs_of : LHSLayer → LHS-F Arrow Assign Base Bind Case Element For Head Init Item Member Method Operand Primary Stmt Target BindProperty Class Cond Decl Func LHS Params TargetPart
lhs_of y = map-LHS KeptArrow KeptAssign KeptBase KeptBind KeptCase KeptElement KeptFor KeptHead KeptInit KeptItem KeptMember KeptMethod KeptOperand KeptPrimary KeptStmt KeptTarget KeptBindProperty KeptClass KeptCond KeptDecl KeptFunc KeptLHS KeptParams KeptTargetPart Arrow Assign Base Bind Case Element For Head Init Item Member Method Operand Primary Stmt Target BindProperty Class Cond Decl Func LHS Params TargetPart (λ p. p.0) (λ p. p.0) (λ p. p.0) (λ p. p.0) (λ p. p.0) (λ p. p.0) (λ p. p.0) (λ p. p.0) (λ p. p.0) (λ p. p.0) (λ p. p.0) (λ p. p.0) (λ p. p.0) (λ p. p.0) (λ p. p.0) (λ p. p.0) (λ p. p.0) (λ p. p.0) (λ p. p.0) (λ p. p.0) (λ p. p.0) (λ p. p.0) (λ p. p.0) (λ p. p.0) y

abbrev pub ParamsLayer : Type 0
ParamsLayer = Params-F KeptArrow KeptAssign KeptBase KeptBind KeptCase KeptElement KeptFor KeptHead KeptInit KeptItem KeptMember KeptMethod KeptOperand KeptPrimary KeptStmt KeptTarget KeptBindProperty KeptClass KeptCond KeptDecl KeptFunc KeptLHS KeptParams KeptTargetPart

abbrev pub params_of : ParamsLayer → Params-F Arrow Assign Base Bind Case Element For Head Init Item Member Method Operand Primary Stmt Target BindProperty Class Cond Decl Func LHS Params TargetPart
params_of y = map-Params KeptArrow KeptAssign KeptBase KeptBind KeptCase KeptElement KeptFor KeptHead KeptInit KeptItem KeptMember KeptMethod KeptOperand KeptPrimary KeptStmt KeptTarget KeptBindProperty KeptClass KeptCond KeptDecl KeptFunc KeptLHS KeptParams KeptTargetPart Arrow Assign Base Bind Case Element For Head Init Item Member Method Operand Primary Stmt Target BindProperty Class Cond Decl Func LHS Params TargetPart (λ p. p.0) (λ p. p.0) (λ p. p.0) (λ p. p.0) (λ p. p.0) (λ p. p.0) (λ p. p.0) (λ p. p.0) (λ p. p.0) (λ p. p.0) (λ p. p.0) (λ p. p.0) (λ p. p.0) (λ p. p.0) (λ p. p.0) (λ p. p.0) (λ p. p.0) (λ p. p.0) (λ p. p.0) (λ p. p.0) (λ p. p.0) (λ p. p.0) (λ p. p.0) (λ p. p.0) y

abbrev pub TargetPartLayer : Type 0
TargetPartLayer = TargetPart-F KeptArrow KeptAssign KeptBase KeptBind KeptCase KeptElement KeptFor KeptHead KeptInit KeptItem KeptMember KeptMethod KeptOperand KeptPrimary KeptStmt KeptTarget KeptBindProperty KeptClass KeptCond KeptDecl KeptFunc KeptLHS KeptParams KeptTargetPart

abbrev pub target_part_of : TargetPartLayer → TargetPart-F Arrow Assign Base Bind Case Element For Head Init Item Member Method Operand Primary Stmt Target BindProperty Class Cond Decl Func LHS Params TargetPart
target_part_of y = map-TargetPart KeptArrow KeptAssign KeptBase KeptBind KeptCase KeptElement KeptFor KeptHead KeptInit KeptItem KeptMember KeptMethod KeptOperand KeptPrimary KeptStmt KeptTarget KeptBindProperty KeptClass KeptCond KeptDecl KeptFunc KeptLHS KeptParams KeptTargetPart Arrow Assign Base Bind Case Element For Head Init Item Member Method Operand Primary Stmt Target BindProperty Class Cond Decl Func LHS Params TargetPart (λ p. p.0) (λ p. p.0) (λ p. p.0) (λ p. p.0) (λ p. p.0) (λ p. p.0) (λ p. p.0) (λ p. p.0) (λ p. p.0) (λ p. p.0) (λ p. p.0) (λ p. p.0) (λ p. p.0) (λ p. p.0) (λ p. p.0) (λ p. p.0) (λ p. p.0) (λ p. p.0) (λ p. p.0) (λ p. p.0) (λ p. p.0) (λ p. p.0) (λ p. p.0) (λ p. p.0) y

-- and with the marks of its parts

abbrev pub bind_lays : BindLayer → Bind-F Lays Lays Lays Lays Lays Lays Lays Lays Lays Lays Lays Lays Lays Lays Lays Lays Lays Lays Lays Lays Lays Lays Lays PartLays
bind_lays y = map-Bind Arrow Assign Base Bind Case Element For Head Init Item Member Method Operand Primary Stmt Target BindProperty Class Cond Decl Func LHS Params TargetPart Lays Lays Lays Lays Lays Lays Lays Lays Lays Lays Lays Lays Lays Lays Lays Lays Lays Lays Lays Lays Lays Lays Lays PartLays arrow_marks assign_marks base_marks bind_marks case_marks element_marks for_marks head_marks init_marks item_marks member_marks method_marks operand_marks primary_marks stmt_marks target_marks bind_property_marks class_marks cond_marks decl_marks func_marks lhs_marks params_marks target_part_marks (bind_of y)

abbrev pub primary_lays : PrimaryLayer → Primary-F Lays Lays Lays Lays Lays Lays Lays Lays Lays Lays Lays Lays Lays Lays Lays Lays Lays Lays Lays Lays Lays Lays Lays PartLays
primary_lays y = map-Primary Arrow Assign Base Bind Case Element For Head Init Item Member Method Operand Primary Stmt Target BindProperty Class Cond Decl Func LHS Params TargetPart Lays Lays Lays Lays Lays Lays Lays Lays Lays Lays Lays Lays Lays Lays Lays Lays Lays Lays Lays Lays Lays Lays Lays PartLays arrow_marks assign_marks base_marks bind_marks case_marks element_marks for_marks head_marks init_marks item_marks member_marks method_marks operand_marks primary_marks stmt_marks target_marks bind_property_marks class_marks cond_marks decl_marks func_marks lhs_marks params_marks target_part_marks (primary_of y)

abbrev pub target_lays : TargetLayer → Target-F Lays Lays Lays Lays Lays Lays Lays Lays Lays Lays Lays Lays Lays Lays Lays Lays Lays Lays Lays Lays Lays Lays Lays PartLays
target_lays y = map-Target Arrow Assign Base Bind Case Element For Head Init Item Member Method Operand Primary Stmt Target BindProperty Class Cond Decl Func LHS Params TargetPart Lays Lays Lays Lays Lays Lays Lays Lays Lays Lays Lays Lays Lays Lays Lays Lays Lays Lays Lays Lays Lays Lays Lays PartLays arrow_marks assign_marks base_marks bind_marks case_marks element_marks for_marks head_marks init_marks item_marks member_marks method_marks operand_marks primary_marks stmt_marks target_marks bind_property_marks class_marks cond_marks decl_marks func_marks lhs_marks params_marks target_part_marks (target_of y)

abbrev pub bind_property_lays : BindPropertyLayer → BindProperty-F Lays Lays Lays Lays Lays Lays Lays Lays Lays Lays Lays Lays Lays Lays Lays Lays Lays Lays Lays Lays Lays Lays Lays PartLays
bind_property_lays y = map-BindProperty Arrow Assign Base Bind Case Element For Head Init Item Member Method Operand Primary Stmt Target BindProperty Class Cond Decl Func LHS Params TargetPart Lays Lays Lays Lays Lays Lays Lays Lays Lays Lays Lays Lays Lays Lays Lays Lays Lays Lays Lays Lays Lays Lays Lays PartLays arrow_marks assign_marks base_marks bind_marks case_marks element_marks for_marks head_marks init_marks item_marks member_marks method_marks operand_marks primary_marks stmt_marks target_marks bind_property_marks class_marks cond_marks decl_marks func_marks lhs_marks params_marks target_part_marks (bind_property_of y)

abbrev pub class_lays : ClassLayer → Class-F Lays Lays Lays Lays Lays Lays Lays Lays Lays Lays Lays Lays Lays Lays Lays Lays Lays Lays Lays Lays Lays Lays Lays PartLays
class_lays y = map-Class Arrow Assign Base Bind Case Element For Head Init Item Member Method Operand Primary Stmt Target BindProperty Class Cond Decl Func LHS Params TargetPart Lays Lays Lays Lays Lays Lays Lays Lays Lays Lays Lays Lays Lays Lays Lays Lays Lays Lays Lays Lays Lays Lays Lays PartLays arrow_marks assign_marks base_marks bind_marks case_marks element_marks for_marks head_marks init_marks item_marks member_marks method_marks operand_marks primary_marks stmt_marks target_marks bind_property_marks class_marks cond_marks decl_marks func_marks lhs_marks params_marks target_part_marks (class_of y)

abbrev pub cond_lays : CondLayer → Cond-F Lays Lays Lays Lays Lays Lays Lays Lays Lays Lays Lays Lays Lays Lays Lays Lays Lays Lays Lays Lays Lays Lays Lays PartLays
cond_lays y = map-Cond Arrow Assign Base Bind Case Element For Head Init Item Member Method Operand Primary Stmt Target BindProperty Class Cond Decl Func LHS Params TargetPart Lays Lays Lays Lays Lays Lays Lays Lays Lays Lays Lays Lays Lays Lays Lays Lays Lays Lays Lays Lays Lays Lays Lays PartLays arrow_marks assign_marks base_marks bind_marks case_marks element_marks for_marks head_marks init_marks item_marks member_marks method_marks operand_marks primary_marks stmt_marks target_marks bind_property_marks class_marks cond_marks decl_marks func_marks lhs_marks params_marks target_part_marks (cond_of y)

abbrev pub decl_lays : DeclLayer → Decl-F Lays Lays Lays Lays Lays Lays Lays Lays Lays Lays Lays Lays Lays Lays Lays Lays Lays Lays Lays Lays Lays Lays Lays PartLays
decl_lays y = map-Decl Arrow Assign Base Bind Case Element For Head Init Item Member Method Operand Primary Stmt Target BindProperty Class Cond Decl Func LHS Params TargetPart Lays Lays Lays Lays Lays Lays Lays Lays Lays Lays Lays Lays Lays Lays Lays Lays Lays Lays Lays Lays Lays Lays Lays PartLays arrow_marks assign_marks base_marks bind_marks case_marks element_marks for_marks head_marks init_marks item_marks member_marks method_marks operand_marks primary_marks stmt_marks target_marks bind_property_marks class_marks cond_marks decl_marks func_marks lhs_marks params_marks target_part_marks (decl_of y)

abbrev pub lhs_lays : LHSLayer → LHS-F Lays Lays Lays Lays Lays Lays Lays Lays Lays Lays Lays Lays Lays Lays Lays Lays Lays Lays Lays Lays Lays Lays Lays PartLays
lhs_lays y = map-LHS Arrow Assign Base Bind Case Element For Head Init Item Member Method Operand Primary Stmt Target BindProperty Class Cond Decl Func LHS Params TargetPart Lays Lays Lays Lays Lays Lays Lays Lays Lays Lays Lays Lays Lays Lays Lays Lays Lays Lays Lays Lays Lays Lays Lays PartLays arrow_marks assign_marks base_marks bind_marks case_marks element_marks for_marks head_marks init_marks item_marks member_marks method_marks operand_marks primary_marks stmt_marks target_marks bind_property_marks class_marks cond_marks decl_marks func_marks lhs_marks params_marks target_part_marks (lhs_of y)

abbrev pub params_lays : ParamsLayer → Params-F Lays Lays Lays Lays Lays Lays Lays Lays Lays Lays Lays Lays Lays Lays Lays Lays Lays Lays Lays Lays Lays Lays Lays PartLays
params_lays y = map-Params Arrow Assign Base Bind Case Element For Head Init Item Member Method Operand Primary Stmt Target BindProperty Class Cond Decl Func LHS Params TargetPart Lays Lays Lays Lays Lays Lays Lays Lays Lays Lays Lays Lays Lays Lays Lays Lays Lays Lays Lays Lays Lays Lays Lays PartLays arrow_marks assign_marks base_marks bind_marks case_marks element_marks for_marks head_marks init_marks item_marks member_marks method_marks operand_marks primary_marks stmt_marks target_marks bind_property_marks class_marks cond_marks decl_marks func_marks lhs_marks params_marks target_part_marks (params_of y)

abbrev pub target_part_lays : TargetPartLayer → TargetPart-F Lays Lays Lays Lays Lays Lays Lays Lays Lays Lays Lays Lays Lays Lays Lays Lays Lays Lays Lays Lays Lays Lays Lays PartLays
target_part_lays y = map-TargetPart Arrow Assign Base Bind Case Element For Head Init Item Member Method Operand Primary Stmt Target BindProperty Class Cond Decl Func LHS Params TargetPart Lays Lays Lays Lays Lays Lays Lays Lays Lays Lays Lays Lays Lays Lays Lays Lays Lays Lays Lays Lays Lays Lays Lays PartLays arrow_marks assign_marks base_marks bind_marks case_marks element_marks for_marks head_marks init_marks item_marks member_marks method_marks operand_marks primary_marks stmt_marks target_marks bind_property_marks class_marks cond_marks decl_marks func_marks lhs_marks params_marks target_part_marks (target_part_of y)
