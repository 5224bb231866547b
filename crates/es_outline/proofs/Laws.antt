-- The outline of each form of each production, in terms of the outlines of its parts.
use Rattle.std.specs.Prelude.{◌≡◌, List, [], ◌∷◌, Bool, true, false, Option, Some, None}
use Rattle.std.proofs.Common.{refl, ap, ap₂, ◌∙◌}
use Rattle.es_tree.specs.declared.tokens.Token.{Token}
use Rattle.es_tree.specs.declared.parts.Separated.{Separated}
use Rattle.es_tree.specs.declared.parts.Initializer.{Initializer}
use Rattle.es_tree.specs.declared.parts.Rest.{Rest}
use Rattle.es_tree.specs.declared.parts.Parenthesised.{Parenthesised}
use Rattle.es_tree.specs.declared.parts.Body.{Body}
use Rattle.es_tree.specs.declared.parts.Else.{Else}
use Rattle.es_tree.specs.declared.parts.CatchParameter.{CatchParameter}
use Rattle.es_tree.specs.declared.parts.Finally.{Finally}
use Rattle.es_tree.specs.declared.parts.Extends.{Extends}
use Rattle.es_tree.specs.declared.parts.Argument.{Argument}
use Rattle.es_tree.specs.declared.parts.Arms.{Arms}
use Rattle.es_tree.specs.declared.parts.Yielded.{Yielded}
use Rattle.es_tree.specs.declared.parts.SecondArgument.{SecondArgument}
use Rattle.es_tree.specs.declared.parts.Template.{Template}
use Rattle.es_tree.specs.declared.parts.ArrowParams.{ArrowParams}
use Rattle.es_tree.specs.declared.parts.LexOf.{LexOf}
use Rattle.es_tree.specs.declared.parts.VarOf.{VarOf}
use Rattle.es_tree.specs.declared.parts.KeyOf.{KeyOf}
use Rattle.es_tree.specs.declared.parts.PropertyKey.{PropertyKey}
use Rattle.es_tree.specs.declared.parts.ExprOf.{ExprOf}
use Rattle.es_tree.specs.declared.parts.ArgsOf.{ArgsOf}
use Rattle.es_tree.specs.declared.parts.SuffixOf.{SuffixOf}
use Rattle.es_tree.specs.declared.parts.BinaryOf.{BinaryOf}
use Rattle.es_tree.specs.declared.parts.ArrowParams.TheVariants as arrow_params_v
use Rattle.es_tree.specs.declared.parts.KeyOf.TheVariants as key_of_v
use Rattle.es_tree.specs.declared.parts.SuffixOf.TheVariants as suffix_of_v
use Rattle.es_tree.specs.declared.cycle.Arrow.TheOpen.{Arrow-F, Assign-F, Base-F, Bind-F, Case-F, Element-F, For-F, Head-F, Init-F, Item-F, Member-F, Method-F, Operand-F, Primary-F, Stmt-F, Target-F}
use Rattle.es_tree.specs.declared.cycle.Item.{Item}
use Rattle.es_tree.specs.declared.cycle.Decl.{Decl, out-Decl}
use Rattle.es_tree.specs.declared.cycle.Case.{Case}
use Rattle.es_tree.specs.declared.cycle.Stmt.{Stmt}
use Rattle.es_tree.specs.declared.cycle.Init.{Init}
use Rattle.es_tree.specs.declared.cycle.For.{For}
use Rattle.es_tree.specs.declared.cycle.Head.{Head}
use Rattle.es_tree.specs.declared.cycle.Func.{Func, out-Func}
use Rattle.es_tree.specs.declared.cycle.Params.{Params, out-Params}
use Rattle.es_tree.specs.declared.cycle.Class.{Class, out-Class}
use Rattle.es_tree.specs.declared.cycle.Element.{Element}
use Rattle.es_tree.specs.declared.cycle.Method.{Method}
use Rattle.es_tree.specs.declared.cycle.BindProperty.{BindProperty, out-BindProperty}
use Rattle.es_tree.specs.declared.cycle.Bind.{Bind, map-Bind}
use Rattle.es_tree.specs.declared.cycle.Target.{Target, map-Target}
use Rattle.es_tree.specs.declared.cycle.TargetPart.{TargetPart, out-TargetPart}
use Rattle.es_tree.specs.declared.cycle.Assign.{Assign}
use Rattle.es_tree.specs.declared.cycle.Arrow.{Arrow}
use Rattle.es_tree.specs.declared.cycle.Cond.{Cond, out-Cond}
use Rattle.es_tree.specs.declared.cycle.Operand.{Operand}
use Rattle.es_tree.specs.declared.cycle.LHS.{LHS, out-LHS, map-LHS}
use Rattle.es_tree.specs.declared.cycle.Member.{Member}
use Rattle.es_tree.specs.declared.cycle.Primary.{Primary, map-Primary}
use Rattle.es_tree.specs.declared.cycle.Base.{Base}
use Rattle.es_tree.specs.declared.cycle.Arrow.TheVariants as arrow_v
use Rattle.es_tree.specs.declared.cycle.Assign.TheVariants as assign_v
use Rattle.es_tree.specs.declared.cycle.Base.TheVariants as base_v
use Rattle.es_tree.specs.declared.cycle.Bind.TheVariants as bind_v
use Rattle.es_tree.specs.declared.cycle.Case.TheVariants as case_v
use Rattle.es_tree.specs.declared.cycle.Element.TheVariants as element_v
use Rattle.es_tree.specs.declared.cycle.For.TheVariants as for_v
use Rattle.es_tree.specs.declared.cycle.Head.TheVariants as head_v
use Rattle.es_tree.specs.declared.cycle.Init.TheVariants as init_v
use Rattle.es_tree.specs.declared.cycle.Item.TheVariants as item_v
use Rattle.es_tree.specs.declared.cycle.Member.TheVariants as member_v
use Rattle.es_tree.specs.declared.cycle.Method.TheVariants as method_v
use Rattle.es_tree.specs.declared.cycle.Operand.TheVariants as operand_v
use Rattle.es_tree.specs.declared.cycle.Primary.TheVariants as primary_v
use Rattle.es_tree.specs.declared.cycle.Stmt.TheVariants as stmt_v
use Rattle.es_tree.specs.declared.cycle.Target.TheVariants as target_v
use Rattle.es_outline.specs.declared.mark.Mark.TheVariants as mark
use Rattle.es_outline.specs.declared.mark.Role.TheVariants as is
use Rattle.es_outline.specs.declared.mark.Part.TheVariants as part
use Rattle.es_outline.specs.Outline.{Lays, PartLays, ◌⨾◌, nothing, put, told, one, within, named, semicolon, inner, in_object, in_array, opt, listed, separated_marks, initializer_marks, rest_marks, parenthesised_marks, body_marks, block_marks, else_marks, catch_parameter_marks, finally_marks, extends_marks, argument_marks, arms_marks, yielded_marks, second_argument_marks, template_marks, arrow_params_marks, head_lex_marks, keyed, part_key, target_name, target_member, suffix_of_marks, item_marks, decl_marks, case_marks, stmt_marks, init_marks, for_marks, head_marks, func_marks, params_marks, class_marks, element_marks, method_marks, bind_property_marks, bind_marks, target_marks, target_part_marks, assign_marks, arrow_marks, cond_marks, operand_marks, lhs_marks, member_marks, primary_marks, base_marks, lex_marks, var_marks, key_marks, expr_marks, args_marks, suffix_marks, binary_marks}
use Rattle.es_outline.proofs.Joins.{ap₃, listed_map, separated_over, joined_over, arguments_over, optional_over, pieces_over}
use Rattle.es_outline.proofs.Opens.{item_mapped, item_opens, decl_mapped, decl_opens, case_mapped, case_opens, stmt_mapped, stmt_opens, init_mapped, init_opens, for_mapped, for_opens, head_mapped, head_opens, func_mapped, func_opens, params_mapped, params_opens, class_mapped, class_opens, element_mapped, element_opens, method_mapped, method_opens, bind_property_mapped, bind_property_opens, bind_mapped, bind_opens, target_mapped, target_opens, target_part_mapped, target_part_opens, assign_mapped, assign_opens, arrow_mapped, arrow_opens, cond_mapped, cond_opens, operand_mapped, operand_opens, lhs_mapped, lhs_opens, member_mapped, member_opens, primary_mapped, primary_opens, base_mapped, base_opens}

-- functions

decl_parts : (bind : Bind) (initial : Option (Initializer Assign)) → decl_mapped (record { bind = bind; initial = initial }) ≡ bind_marks bind ⨾ opt (initializer_marks assign_marks) initial
decl_parts bind None = refl
decl_parts bind (Some initial) = refl

pub decl_law : (x : Decl) → decl_marks x ≡ bind_marks (out-Decl x).bind ⨾ opt (initializer_marks assign_marks) (out-Decl x).initial
decl_law x = decl_opens x ∙ decl_parts (out-Decl x).bind (out-Decl x).initial

abbrev bind_first : Bind-F Lays Lays Lays Lays Lays Lays Lays Lays Lays Lays Lays Lays Lays Lays Lays Lays Lays Lays Lays Lays Lays Lays Lays PartLays → Option Lays
bind_first (Bind-F.Bind::Array left (element ∷ more) rest right) = element.item
bind_first other = None

-- what the fold makes of an element
abbrev bind_over : Token → Option Decl → Option Lays
bind_over left o = bind_first (map-Bind Arrow Assign Base Bind Case Element For Head Init Item Member Method Operand Primary Stmt Target BindProperty Class Cond Decl Func LHS Params TargetPart Lays Lays Lays Lays Lays Lays Lays Lays Lays Lays Lays Lays Lays Lays Lays Lays Lays Lays Lays Lays Lays Lays Lays PartLays arrow_marks assign_marks base_marks bind_marks case_marks element_marks for_marks head_marks init_marks item_marks member_marks method_marks operand_marks primary_marks stmt_marks target_marks bind_property_marks class_marks cond_marks decl_marks func_marks lhs_marks params_marks target_part_marks (Bind-F.Bind::Array left ((record { item = o; comma = None }) ∷ []) None left))

bind_at-Name : (name : Token) → bind_mapped (Bind-F.Bind::Name name) ≡ told is.Bound name
bind_at-Name name = refl

pub bind-Name : (name : Token) → bind_marks (bind_v.Name name) ≡ told is.Bound name
bind-Name name = bind_opens (bind_v.Name name) ∙ ap bind_mapped (bind_v.outs-Name name) ∙ bind_at-Name name

bind_at-Array : (left : Token) (elements : List (Separated (Option Decl))) (rest : Option (Rest Bind)) (right : Token) → bind_mapped (Bind-F.Bind::Array left elements rest right) ≡ within part.Pattern (one left ⨾ listed (separated_marks (opt decl_marks)) elements ⨾ opt (rest_marks bind_marks) rest ⨾ one right)
bind_at-Array left elements None right = ap (λ t0. within part.Pattern (one left ⨾ t0 ⨾ nothing ⨾ one right)) (optional_over (bind_over left) inner decl_marks refl (λ x. refl) elements)
bind_at-Array left elements (Some rest) right = ap (λ t0. within part.Pattern (one left ⨾ t0 ⨾ (one rest.dots ⨾ bind_marks rest.item) ⨾ one right)) (optional_over (bind_over left) inner decl_marks refl (λ x. refl) elements)

pub bind-Array : (left : Token) (elements : List (Separated (Option Decl))) (rest : Option (Rest Bind)) (right : Token) → bind_marks (bind_v.Array left elements rest right) ≡ within part.Pattern (one left ⨾ listed (separated_marks (opt decl_marks)) elements ⨾ opt (rest_marks bind_marks) rest ⨾ one right)
bind-Array left elements rest right = bind_opens (bind_v.Array left elements rest right) ∙ ap bind_mapped (bind_v.outs-Array left elements rest right) ∙ bind_at-Array left elements rest right

bind_at-Object : (left : Token) (properties : List (Separated BindProperty)) (rest : Option (Rest Bind)) (right : Token) → bind_mapped (Bind-F.Bind::Object left properties rest right) ≡ within part.Pattern (one left ⨾ listed (separated_marks bind_property_marks) properties ⨾ opt (rest_marks bind_marks) rest ⨾ one right)
bind_at-Object left properties None right = ap (λ t0. within part.Pattern (one left ⨾ t0 ⨾ nothing ⨾ one right)) (separated_over bind_property_marks properties)
bind_at-Object left properties (Some rest) right = ap (λ t0. within part.Pattern (one left ⨾ t0 ⨾ (one rest.dots ⨾ bind_marks rest.item) ⨾ one right)) (separated_over bind_property_marks properties)

pub bind-Object : (left : Token) (properties : List (Separated BindProperty)) (rest : Option (Rest Bind)) (right : Token) → bind_marks (bind_v.Object left properties rest right) ≡ within part.Pattern (one left ⨾ listed (separated_marks bind_property_marks) properties ⨾ opt (rest_marks bind_marks) rest ⨾ one right)
bind-Object left properties rest right = bind_opens (bind_v.Object left properties rest right) ∙ ap bind_mapped (bind_v.outs-Object left properties rest right) ∙ bind_at-Object left properties rest right

bind_property_keyed : (k : KeyOf Assign) (colon : Token) (decl : Decl) → bind_property_mapped (record { key = Some (record { key = k; colon = colon }); decl = decl }) ≡ (key_marks k ⨾ one colon) ⨾ decl_marks decl
bind_property_keyed (key_of_v.IdName n) colon decl = refl
bind_property_keyed (key_of_v.String n) colon decl = refl
bind_property_keyed (key_of_v.Number n) colon decl = refl
bind_property_keyed (key_of_v.Private n) colon decl = refl
bind_property_keyed (key_of_v.Computed l e r) colon decl = refl

bind_property_parts : (key : Option (PropertyKey Assign)) (decl : Decl) → bind_property_mapped (record { key = key; decl = decl }) ≡ keyed assign_marks key ⨾ decl_marks decl
bind_property_parts None decl = refl
bind_property_parts (Some key) decl = bind_property_keyed key.key key.colon decl

pub bind_property_law : (x : BindProperty) → bind_property_marks x ≡ keyed assign_marks (out-BindProperty x).key ⨾ decl_marks (out-BindProperty x).decl
bind_property_law x = bind_property_opens x ∙ bind_property_parts (out-BindProperty x).key (out-BindProperty x).decl

params_parts : (list : List (Separated Decl)) (rest : Option (Rest Bind)) → params_mapped (record { list = list; rest = rest }) ≡ listed (separated_marks decl_marks) list ⨾ opt (rest_marks bind_marks) rest
params_parts list None = ap (λ t0. t0 ⨾ nothing) (separated_over decl_marks list)
params_parts list (Some rest) = ap (λ t0. t0 ⨾ (one rest.dots ⨾ bind_marks rest.item)) (separated_over decl_marks list)

pub params_law : (x : Params) → params_marks x ≡ listed (separated_marks decl_marks) (out-Params x).list ⨾ opt (rest_marks bind_marks) (out-Params x).rest
params_law x = params_opens x ∙ params_parts (out-Params x).list (out-Params x).rest

func_parts : (is_async : Option Token) (word : Token) (star : Option Token) (name : Option Token) (left : Token) (params : Params) (right : Token) (body : Body Item) → func_mapped (record { is_async = is_async; word = word; star = star; name = name; left = left; params = params; right = right; body = body }) ≡ opt one is_async ⨾ one word ⨾ opt one star ⨾ named is.FunctionName name ⨾ within part.Function (one left ⨾ params_marks params ⨾ one right ⨾ within part.FunctionBody (body_marks item_marks body))
func_parts is_async word star name left params right body = ap (λ t0. opt one is_async ⨾ one word ⨾ opt one star ⨾ named is.FunctionName name ⨾ within part.Function (one left ⨾ params_marks params ⨾ one right ⨾ within part.FunctionBody (one body.left ⨾ t0 ⨾ one body.right))) (listed_map inner item_marks body.items)

pub func_law : (x : Func) → func_marks x ≡ opt one (out-Func x).is_async ⨾ one (out-Func x).word ⨾ opt one (out-Func x).star ⨾ named is.FunctionName (out-Func x).name ⨾ within part.Function (one (out-Func x).left ⨾ params_marks (out-Func x).params ⨾ one (out-Func x).right ⨾ within part.FunctionBody (body_marks item_marks (out-Func x).body))
func_law x = func_opens x ∙ func_parts (out-Func x).is_async (out-Func x).word (out-Func x).star (out-Func x).name (out-Func x).left (out-Func x).params (out-Func x).right (out-Func x).body

method_at-Method : (is_async : Option Token) (star : Option Token) (key : KeyOf Assign) (left : Token) (params : Params) (right : Token) (body : Body Item) → method_mapped (Method-F.Method::Method is_async star key left params right body) ≡ opt one is_async ⨾ opt one star ⨾ key_marks key ⨾ within part.Function (one left ⨾ params_marks params ⨾ one right ⨾ within part.FunctionBody (body_marks item_marks body))
method_at-Method is_async star (key_of_v.IdName n) left params right body = ap (λ t0. opt one is_async ⨾ opt one star ⨾ one n ⨾ within part.Function (one left ⨾ params_marks params ⨾ one right ⨾ within part.FunctionBody (one body.left ⨾ t0 ⨾ one body.right))) (listed_map inner item_marks body.items)
method_at-Method is_async star (key_of_v.String n) left params right body = ap (λ t0. opt one is_async ⨾ opt one star ⨾ one n ⨾ within part.Function (one left ⨾ params_marks params ⨾ one right ⨾ within part.FunctionBody (one body.left ⨾ t0 ⨾ one body.right))) (listed_map inner item_marks body.items)
method_at-Method is_async star (key_of_v.Number n) left params right body = ap (λ t0. opt one is_async ⨾ opt one star ⨾ one n ⨾ within part.Function (one left ⨾ params_marks params ⨾ one right ⨾ within part.FunctionBody (one body.left ⨾ t0 ⨾ one body.right))) (listed_map inner item_marks body.items)
method_at-Method is_async star (key_of_v.Private n) left params right body = ap (λ t0. opt one is_async ⨾ opt one star ⨾ one n ⨾ within part.Function (one left ⨾ params_marks params ⨾ one right ⨾ within part.FunctionBody (one body.left ⨾ t0 ⨾ one body.right))) (listed_map inner item_marks body.items)
method_at-Method is_async star (key_of_v.Computed l e r) left params right body = ap (λ t0. opt one is_async ⨾ opt one star ⨾ (one l ⨾ assign_marks e ⨾ one r) ⨾ within part.Function (one left ⨾ params_marks params ⨾ one right ⨾ within part.FunctionBody (one body.left ⨾ t0 ⨾ one body.right))) (listed_map inner item_marks body.items)

pub method-Method : (is_async : Option Token) (star : Option Token) (key : KeyOf Assign) (left : Token) (params : Params) (right : Token) (body : Body Item) → method_marks (method_v.Method is_async star key left params right body) ≡ opt one is_async ⨾ opt one star ⨾ key_marks key ⨾ within part.Function (one left ⨾ params_marks params ⨾ one right ⨾ within part.FunctionBody (body_marks item_marks body))
method-Method is_async star key left params right body = method_opens (method_v.Method is_async star key left params right body) ∙ ap method_mapped (method_v.outs-Method is_async star key left params right body) ∙ method_at-Method is_async star key left params right body

method_at-Get : (word : Token) (key : KeyOf Assign) (left : Token) (right : Token) (body : Body Item) → method_mapped (Method-F.Get word key left right body) ≡ one word ⨾ key_marks key ⨾ within part.Function (one left ⨾ one right ⨾ within part.FunctionBody (body_marks item_marks body))
method_at-Get word (key_of_v.IdName n) left right body = ap (λ t0. one word ⨾ one n ⨾ within part.Function (one left ⨾ one right ⨾ within part.FunctionBody (one body.left ⨾ t0 ⨾ one body.right))) (listed_map inner item_marks body.items)
method_at-Get word (key_of_v.String n) left right body = ap (λ t0. one word ⨾ one n ⨾ within part.Function (one left ⨾ one right ⨾ within part.FunctionBody (one body.left ⨾ t0 ⨾ one body.right))) (listed_map inner item_marks body.items)
method_at-Get word (key_of_v.Number n) left right body = ap (λ t0. one word ⨾ one n ⨾ within part.Function (one left ⨾ one right ⨾ within part.FunctionBody (one body.left ⨾ t0 ⨾ one body.right))) (listed_map inner item_marks body.items)
method_at-Get word (key_of_v.Private n) left right body = ap (λ t0. one word ⨾ one n ⨾ within part.Function (one left ⨾ one right ⨾ within part.FunctionBody (one body.left ⨾ t0 ⨾ one body.right))) (listed_map inner item_marks body.items)
method_at-Get word (key_of_v.Computed l e r) left right body = ap (λ t0. one word ⨾ (one l ⨾ assign_marks e ⨾ one r) ⨾ within part.Function (one left ⨾ one right ⨾ within part.FunctionBody (one body.left ⨾ t0 ⨾ one body.right))) (listed_map inner item_marks body.items)

pub method-Get : (word : Token) (key : KeyOf Assign) (left : Token) (right : Token) (body : Body Item) → method_marks (method_v.Get word key left right body) ≡ one word ⨾ key_marks key ⨾ within part.Function (one left ⨾ one right ⨾ within part.FunctionBody (body_marks item_marks body))
method-Get word key left right body = method_opens (method_v.Get word key left right body) ∙ ap method_mapped (method_v.outs-Get word key left right body) ∙ method_at-Get word key left right body

method_at-Set : (word : Token) (key : KeyOf Assign) (left : Token) (parameter : Decl) (right : Token) (body : Body Item) → method_mapped (Method-F.Method::Set word key left parameter right body) ≡ one word ⨾ key_marks key ⨾ within part.Function (one left ⨾ decl_marks parameter ⨾ one right ⨾ within part.FunctionBody (body_marks item_marks body))
method_at-Set word (key_of_v.IdName n) left parameter right body = ap (λ t0. one word ⨾ one n ⨾ within part.Function (one left ⨾ decl_marks parameter ⨾ one right ⨾ within part.FunctionBody (one body.left ⨾ t0 ⨾ one body.right))) (listed_map inner item_marks body.items)
method_at-Set word (key_of_v.String n) left parameter right body = ap (λ t0. one word ⨾ one n ⨾ within part.Function (one left ⨾ decl_marks parameter ⨾ one right ⨾ within part.FunctionBody (one body.left ⨾ t0 ⨾ one body.right))) (listed_map inner item_marks body.items)
method_at-Set word (key_of_v.Number n) left parameter right body = ap (λ t0. one word ⨾ one n ⨾ within part.Function (one left ⨾ decl_marks parameter ⨾ one right ⨾ within part.FunctionBody (one body.left ⨾ t0 ⨾ one body.right))) (listed_map inner item_marks body.items)
method_at-Set word (key_of_v.Private n) left parameter right body = ap (λ t0. one word ⨾ one n ⨾ within part.Function (one left ⨾ decl_marks parameter ⨾ one right ⨾ within part.FunctionBody (one body.left ⨾ t0 ⨾ one body.right))) (listed_map inner item_marks body.items)
method_at-Set word (key_of_v.Computed l e r) left parameter right body = ap (λ t0. one word ⨾ (one l ⨾ assign_marks e ⨾ one r) ⨾ within part.Function (one left ⨾ decl_marks parameter ⨾ one right ⨾ within part.FunctionBody (one body.left ⨾ t0 ⨾ one body.right))) (listed_map inner item_marks body.items)

pub method-Set : (word : Token) (key : KeyOf Assign) (left : Token) (parameter : Decl) (right : Token) (body : Body Item) → method_marks (method_v.Set word key left parameter right body) ≡ one word ⨾ key_marks key ⨾ within part.Function (one left ⨾ decl_marks parameter ⨾ one right ⨾ within part.FunctionBody (body_marks item_marks body))
method-Set word key left parameter right body = method_opens (method_v.Set word key left parameter right body) ∙ ap method_mapped (method_v.outs-Set word key left parameter right body) ∙ method_at-Set word key left parameter right body

element_at-Empty : (mark : Token) → element_mapped (Element-F.Element::Empty mark) ≡ one mark
element_at-Empty mark = refl

pub element-Empty : (mark : Token) → element_marks (element_v.Empty mark) ≡ one mark
element-Empty mark = element_opens (element_v.Empty mark) ∙ ap element_mapped (element_v.outs-Empty mark) ∙ element_at-Empty mark

element_at-Method : (is_static : Option Token) (method : Method) → element_mapped (Element-F.Element::Method is_static method) ≡ opt one is_static ⨾ method_marks method
element_at-Method is_static method = refl

pub element-Method : (is_static : Option Token) (method : Method) → element_marks (element_v.Method is_static method) ≡ opt one is_static ⨾ method_marks method
element-Method is_static method = element_opens (element_v.Method is_static method) ∙ ap element_mapped (element_v.outs-Method is_static method) ∙ element_at-Method is_static method

element_at-Field : (is_static : Option Token) (key : KeyOf Assign) (initial : Option (Initializer Assign)) (semi : Option Token) → element_mapped (Element-F.Field is_static key initial semi) ≡ opt one is_static ⨾ key_marks key ⨾ opt (initializer_marks assign_marks) initial ⨾ semicolon semi
element_at-Field is_static (key_of_v.IdName n) None semi = refl
element_at-Field is_static (key_of_v.IdName n) (Some initial) semi = refl
element_at-Field is_static (key_of_v.String n) None semi = refl
element_at-Field is_static (key_of_v.String n) (Some initial) semi = refl
element_at-Field is_static (key_of_v.Number n) None semi = refl
element_at-Field is_static (key_of_v.Number n) (Some initial) semi = refl
element_at-Field is_static (key_of_v.Private n) None semi = refl
element_at-Field is_static (key_of_v.Private n) (Some initial) semi = refl
element_at-Field is_static (key_of_v.Computed l e r) None semi = refl
element_at-Field is_static (key_of_v.Computed l e r) (Some initial) semi = refl

pub element-Field : (is_static : Option Token) (key : KeyOf Assign) (initial : Option (Initializer Assign)) (semi : Option Token) → element_marks (element_v.Field is_static key initial semi) ≡ opt one is_static ⨾ key_marks key ⨾ opt (initializer_marks assign_marks) initial ⨾ semicolon semi
element-Field is_static key initial semi = element_opens (element_v.Field is_static key initial semi) ∙ ap element_mapped (element_v.outs-Field is_static key initial semi) ∙ element_at-Field is_static key initial semi

element_at-Static : (word : Token) (body : Body Item) → element_mapped (Element-F.Static word body) ≡ one word ⨾ within part.StaticBlock (body_marks item_marks body)
element_at-Static word body = ap (λ t0. one word ⨾ within part.StaticBlock (one body.left ⨾ t0 ⨾ one body.right)) (listed_map inner item_marks body.items)

pub element-Static : (word : Token) (body : Body Item) → element_marks (element_v.Static word body) ≡ one word ⨾ within part.StaticBlock (body_marks item_marks body)
element-Static word body = element_opens (element_v.Static word body) ∙ ap element_mapped (element_v.outs-Static word body) ∙ element_at-Static word body

class_parts : (word : Token) (name : Option Token) (extends : Option (Extends LHS)) (left : Token) (elements : List Element) (right : Token) → class_mapped (record { word = word; name = name; extends = extends; left = left; elements = elements; right = right }) ≡ one word ⨾ named is.ClassName name ⨾ within part.Class (opt (extends_marks lhs_marks) extends ⨾ one left ⨾ listed element_marks elements ⨾ one right)
class_parts word name None left elements right = ap (λ t0. one word ⨾ named is.ClassName name ⨾ within part.Class (nothing ⨾ one left ⨾ t0 ⨾ one right)) (listed_map inner element_marks elements)
class_parts word name (Some extends) left elements right = ap (λ t0. one word ⨾ named is.ClassName name ⨾ within part.Class ((one extends.word ⨾ lhs_marks extends.lhs) ⨾ one left ⨾ t0 ⨾ one right)) (listed_map inner element_marks elements)

pub class_law : (x : Class) → class_marks x ≡ one (out-Class x).word ⨾ named is.ClassName (out-Class x).name ⨾ within part.Class (opt (extends_marks lhs_marks) (out-Class x).extends ⨾ one (out-Class x).left ⨾ listed element_marks (out-Class x).elements ⨾ one (out-Class x).right)
class_law x = class_opens x ∙ class_parts (out-Class x).word (out-Class x).name (out-Class x).extends (out-Class x).left (out-Class x).elements (out-Class x).right

-- expressions

assign_at-Cond : (cond : Cond) → assign_mapped (Assign-F.Cond cond) ≡ cond_marks cond
assign_at-Cond cond = refl

pub assign-Cond : (cond : Cond) → assign_marks (assign_v.Cond cond) ≡ cond_marks cond
assign-Cond cond = assign_opens (assign_v.Cond cond) ∙ ap assign_mapped (assign_v.outs-Cond cond) ∙ assign_at-Cond cond

assign_at-Arrow : (arrow : Arrow) → assign_mapped (Assign-F.Arrow arrow) ≡ arrow_marks arrow
assign_at-Arrow arrow = refl

pub assign-Arrow : (arrow : Arrow) → assign_marks (assign_v.Arrow arrow) ≡ arrow_marks arrow
assign-Arrow arrow = assign_opens (assign_v.Arrow arrow) ∙ ap assign_mapped (assign_v.outs-Arrow arrow) ∙ assign_at-Arrow arrow

assign_at-Set : (target : Target) (equals : Token) (value : Assign) → assign_mapped (Assign-F.Assign::Set target equals value) ≡ target_marks target ⨾ one equals ⨾ assign_marks value
assign_at-Set target equals value = refl

pub assign-Set : (target : Target) (equals : Token) (value : Assign) → assign_marks (assign_v.Set target equals value) ≡ target_marks target ⨾ one equals ⨾ assign_marks value
assign-Set target equals value = assign_opens (assign_v.Set target equals value) ∙ ap assign_mapped (assign_v.outs-Set target equals value) ∙ assign_at-Set target equals value

assign_at-Compound : (target : Target) (operator : Token) (value : Assign) → assign_mapped (Assign-F.Compound target operator value) ≡ target_marks target ⨾ put mark.Updated ⨾ one operator ⨾ assign_marks value
assign_at-Compound target operator value = refl

pub assign-Compound : (target : Target) (operator : Token) (value : Assign) → assign_marks (assign_v.Compound target operator value) ≡ target_marks target ⨾ put mark.Updated ⨾ one operator ⨾ assign_marks value
assign-Compound target operator value = assign_opens (assign_v.Compound target operator value) ∙ ap assign_mapped (assign_v.outs-Compound target operator value) ∙ assign_at-Compound target operator value

assign_at-Yield : (word : Token) (yielded : Option (Yielded Assign)) → assign_mapped (Assign-F.Yield word yielded) ≡ one word ⨾ opt (yielded_marks assign_marks) yielded
assign_at-Yield word None = refl
assign_at-Yield word (Some yielded) = refl

pub assign-Yield : (word : Token) (yielded : Option (Yielded Assign)) → assign_marks (assign_v.Yield word yielded) ≡ one word ⨾ opt (yielded_marks assign_marks) yielded
assign-Yield word yielded = assign_opens (assign_v.Yield word yielded) ∙ ap assign_mapped (assign_v.outs-Yield word yielded) ∙ assign_at-Yield word yielded

arrow_at-Block : (is_async : Option Token) (params : ArrowParams Params) (mark : Token) (body : Body Item) → arrow_mapped (Arrow-F.Arrow::Block is_async params mark body) ≡ within part.Arrow (opt one is_async ⨾ arrow_params_marks params_marks params ⨾ one mark ⨾ within part.FunctionBody (body_marks item_marks body))
arrow_at-Block is_async (arrow_params_v.Name n) mark body = ap (λ t0. within part.Arrow (opt one is_async ⨾ told is.Bound n ⨾ one mark ⨾ within part.FunctionBody (one body.left ⨾ t0 ⨾ one body.right))) (listed_map inner item_marks body.items)
arrow_at-Block is_async (arrow_params_v.List l p r) mark body = ap (λ t0. within part.Arrow (opt one is_async ⨾ (one l ⨾ params_marks p ⨾ one r) ⨾ one mark ⨾ within part.FunctionBody (one body.left ⨾ t0 ⨾ one body.right))) (listed_map inner item_marks body.items)

pub arrow-Block : (is_async : Option Token) (params : ArrowParams Params) (mark : Token) (body : Body Item) → arrow_marks (arrow_v.Block is_async params mark body) ≡ within part.Arrow (opt one is_async ⨾ arrow_params_marks params_marks params ⨾ one mark ⨾ within part.FunctionBody (body_marks item_marks body))
arrow-Block is_async params mark body = arrow_opens (arrow_v.Block is_async params mark body) ∙ ap arrow_mapped (arrow_v.outs-Block is_async params mark body) ∙ arrow_at-Block is_async params mark body

arrow_at-Concise : (is_async : Option Token) (params : ArrowParams Params) (mark : Token) (value : Assign) → arrow_mapped (Arrow-F.Concise is_async params mark value) ≡ within part.Arrow (opt one is_async ⨾ arrow_params_marks params_marks params ⨾ one mark ⨾ assign_marks value)
arrow_at-Concise is_async (arrow_params_v.Name n) mark value = refl
arrow_at-Concise is_async (arrow_params_v.List l p r) mark value = refl

pub arrow-Concise : (is_async : Option Token) (params : ArrowParams Params) (mark : Token) (value : Assign) → arrow_marks (arrow_v.Concise is_async params mark value) ≡ within part.Arrow (opt one is_async ⨾ arrow_params_marks params_marks params ⨾ one mark ⨾ assign_marks value)
arrow-Concise is_async params mark value = arrow_opens (arrow_v.Concise is_async params mark value) ∙ ap arrow_mapped (arrow_v.outs-Concise is_async params mark value) ∙ arrow_at-Concise is_async params mark value

cond_parts : (test : BinaryOf Operand) (arms : Option (Arms Assign)) → cond_mapped (record { test = test; arms = arms }) ≡ binary_marks test ⨾ opt (arms_marks assign_marks) arms
cond_parts test None = ap (λ t0. (operand_marks test.first ⨾ t0) ⨾ nothing) (joined_over operand_marks test.more)
cond_parts test (Some arms) = ap (λ t0. (operand_marks test.first ⨾ t0) ⨾ (one arms.question ⨾ assign_marks arms.when_true ⨾ one arms.colon ⨾ assign_marks arms.when_false)) (joined_over operand_marks test.more)

pub cond_law : (x : Cond) → cond_marks x ≡ binary_marks (out-Cond x).test ⨾ opt (arms_marks assign_marks) (out-Cond x).arms
cond_law x = cond_opens x ∙ cond_parts (out-Cond x).test (out-Cond x).arms

operand_at-Private : (name : Token) → operand_mapped (Operand-F.Private name) ≡ one name
operand_at-Private name = refl

pub operand-Private : (name : Token) → operand_marks (operand_v.Private name) ≡ one name
operand-Private name = operand_opens (operand_v.Private name) ∙ ap operand_mapped (operand_v.outs-Private name) ∙ operand_at-Private name

operand_at-Prefix : (operator : Token) (operand : Operand) → operand_mapped (Operand-F.Prefix operator operand) ≡ told is.Prefix operator ⨾ operand_marks operand
operand_at-Prefix operator operand = refl

pub operand-Prefix : (operator : Token) (operand : Operand) → operand_marks (operand_v.Prefix operator operand) ≡ told is.Prefix operator ⨾ operand_marks operand
operand-Prefix operator operand = operand_opens (operand_v.Prefix operator operand) ∙ ap operand_mapped (operand_v.outs-Prefix operator operand) ∙ operand_at-Prefix operator operand

operand_at-Await : (word : Token) (operand : Operand) → operand_mapped (Operand-F.Await word operand) ≡ told is.Await word ⨾ operand_marks operand
operand_at-Await word operand = refl

pub operand-Await : (word : Token) (operand : Operand) → operand_marks (operand_v.Await word operand) ≡ told is.Await word ⨾ operand_marks operand
operand-Await word operand = operand_opens (operand_v.Await word operand) ∙ ap operand_mapped (operand_v.outs-Await word operand) ∙ operand_at-Await word operand

operand_at-Update : (operator : Token) (target : Target) → operand_mapped (Operand-F.Update operator target) ≡ one operator ⨾ target_marks target ⨾ put mark.Updated
operand_at-Update operator target = refl

pub operand-Update : (operator : Token) (target : Target) → operand_marks (operand_v.Update operator target) ≡ one operator ⨾ target_marks target ⨾ put mark.Updated
operand-Update operator target = operand_opens (operand_v.Update operator target) ∙ ap operand_mapped (operand_v.outs-Update operator target) ∙ operand_at-Update operator target

operand_at-LHS : (lhs : LHS) → operand_mapped (Operand-F.LHS lhs) ≡ lhs_marks lhs
operand_at-LHS lhs = refl

pub operand-LHS : (lhs : LHS) → operand_marks (operand_v.LHS lhs) ≡ lhs_marks lhs
operand-LHS lhs = operand_opens (operand_v.LHS lhs) ∙ ap operand_mapped (operand_v.outs-LHS lhs) ∙ operand_at-LHS lhs

operand_at-Postfix : (target : Target) (operator : Token) → operand_mapped (Operand-F.Postfix target operator) ≡ target_marks target ⨾ put mark.Updated ⨾ one operator
operand_at-Postfix target operator = refl

pub operand-Postfix : (target : Target) (operator : Token) → operand_marks (operand_v.Postfix target operator) ≡ target_marks target ⨾ put mark.Updated ⨾ one operator
operand-Postfix target operator = operand_opens (operand_v.Postfix target operator) ∙ ap operand_mapped (operand_v.outs-Postfix target operator) ∙ operand_at-Postfix target operator

suffixes_over : (base : Base) (xs : List (SuffixOf Assign)) → listed (suffix_of_marks inner) (map-LHS Arrow Assign Base Bind Case Element For Head Init Item Member Method Operand Primary Stmt Target BindProperty Class Cond Decl Func LHS Params TargetPart Lays Lays Lays Lays Lays Lays Lays Lays Lays Lays Lays Lays Lays Lays Lays Lays Lays Lays Lays Lays Lays Lays Lays PartLays arrow_marks assign_marks base_marks bind_marks case_marks element_marks for_marks head_marks init_marks item_marks member_marks method_marks operand_marks primary_marks stmt_marks target_marks bind_property_marks class_marks cond_marks decl_marks func_marks lhs_marks params_marks target_part_marks (record { base = base; suffixes = xs })).suffixes ≡ listed suffix_marks xs
suffixes_over base [] = refl
suffixes_over base (suffix_of_v.Dot mark name ∷ xs) = ap (λ t0. (told is.Dot mark ⨾ one name) ⨾ t0) (suffixes_over base xs)
suffixes_over base (suffix_of_v.Private mark name ∷ xs) = ap (λ t0. (told is.Suffixes mark ⨾ one name) ⨾ t0) (suffixes_over base xs)
suffixes_over base (suffix_of_v.Index left index right ∷ xs) = ap₂ (λ t0 t1. (told is.Suffixes left ⨾ t0 ⨾ one right) ⨾ t1) (separated_over assign_marks index.list) (suffixes_over base xs)
suffixes_over base (suffix_of_v.Args args ∷ xs) = ap₂ (λ t0 t1. (put mark.Call ⨾ (one args.left ⨾ t0 ⨾ one args.right)) ⨾ t1) (arguments_over assign_marks args.list) (suffixes_over base xs)
suffixes_over base (suffix_of_v.Template template ∷ xs) = ap₂ (λ t0 t1. (put mark.Tag ⨾ (one template.head ⨾ t0)) ⨾ t1) (pieces_over assign_marks template.more) (suffixes_over base xs)
suffixes_over base (suffix_of_v.OptionalDot mark name ∷ xs) = ap (λ t0. (told is.Suffixes mark ⨾ one name) ⨾ t0) (suffixes_over base xs)
suffixes_over base (suffix_of_v.OptionalPrivate mark name ∷ xs) = ap (λ t0. (told is.Suffixes mark ⨾ one name) ⨾ t0) (suffixes_over base xs)
suffixes_over base (suffix_of_v.OptionalIndex mark left index right ∷ xs) = ap₂ (λ t0 t1. (told is.Suffixes mark ⨾ one left ⨾ t0 ⨾ one right) ⨾ t1) (separated_over assign_marks index.list) (suffixes_over base xs)
suffixes_over base (suffix_of_v.OptionalArgs mark args ∷ xs) = ap₂ (λ t0 t1. (told is.Suffixes mark ⨾ (one args.left ⨾ t0 ⨾ one args.right)) ⨾ t1) (arguments_over assign_marks args.list) (suffixes_over base xs)

lhs_parts : (base : Base) (suffixes : List (SuffixOf Assign)) → lhs_mapped (record { base = base; suffixes = suffixes }) ≡ base_marks base ⨾ listed suffix_marks suffixes
lhs_parts base suffixes = ap (λ t0. base_marks base ⨾ t0) (suffixes_over base suffixes)

pub lhs_law : (x : LHS) → lhs_marks x ≡ base_marks (out-LHS x).base ⨾ listed suffix_marks (out-LHS x).suffixes
lhs_law x = lhs_opens x ∙ lhs_parts (out-LHS x).base (out-LHS x).suffixes

member_at-Shorthand : (name : Token) → member_mapped (Member-F.Shorthand name) ≡ put mark.Shorthand ⨾ told is.Reference name
member_at-Shorthand name = refl

pub member-Shorthand : (name : Token) → member_marks (member_v.Shorthand name) ≡ put mark.Shorthand ⨾ told is.Reference name
member-Shorthand name = member_opens (member_v.Shorthand name) ∙ ap member_mapped (member_v.outs-Shorthand name) ∙ member_at-Shorthand name

member_at-Pair : (key : KeyOf Assign) (colon : Token) (value : Assign) → member_mapped (Member-F.Pair key colon value) ≡ key_marks key ⨾ one colon ⨾ assign_marks value
member_at-Pair (key_of_v.IdName n) colon value = refl
member_at-Pair (key_of_v.String n) colon value = refl
member_at-Pair (key_of_v.Number n) colon value = refl
member_at-Pair (key_of_v.Private n) colon value = refl
member_at-Pair (key_of_v.Computed l e r) colon value = refl

pub member-Pair : (key : KeyOf Assign) (colon : Token) (value : Assign) → member_marks (member_v.Pair key colon value) ≡ key_marks key ⨾ one colon ⨾ assign_marks value
member-Pair key colon value = member_opens (member_v.Pair key colon value) ∙ ap member_mapped (member_v.outs-Pair key colon value) ∙ member_at-Pair key colon value

member_at-Method : (method : Method) → member_mapped (Member-F.Member::Method method) ≡ method_marks method
member_at-Method method = refl

pub member-Method : (method : Method) → member_marks (member_v.Method method) ≡ method_marks method
member-Method method = member_opens (member_v.Method method) ∙ ap member_mapped (member_v.outs-Method method) ∙ member_at-Method method

member_at-Spread : (dots : Token) (value : Assign) → member_mapped (Member-F.Spread dots value) ≡ one dots ⨾ assign_marks value
member_at-Spread dots value = refl

pub member-Spread : (dots : Token) (value : Assign) → member_marks (member_v.Spread dots value) ≡ one dots ⨾ assign_marks value
member-Spread dots value = member_opens (member_v.Spread dots value) ∙ ap member_mapped (member_v.outs-Spread dots value) ∙ member_at-Spread dots value

abbrev primary_first : Primary-F Lays Lays Lays Lays Lays Lays Lays Lays Lays Lays Lays Lays Lays Lays Lays Lays Lays Lays Lays Lays Lays Lays Lays PartLays → Option (Argument Lays)
primary_first (Primary-F.Primary::Array left (element ∷ more) right) = element.item
primary_first other = None

-- what the fold makes of an element
abbrev primary_over : Token → Option (Argument Assign) → Option (Argument Lays)
primary_over left o = primary_first (map-Primary Arrow Assign Base Bind Case Element For Head Init Item Member Method Operand Primary Stmt Target BindProperty Class Cond Decl Func LHS Params TargetPart Lays Lays Lays Lays Lays Lays Lays Lays Lays Lays Lays Lays Lays Lays Lays Lays Lays Lays Lays Lays Lays Lays Lays PartLays arrow_marks assign_marks base_marks bind_marks case_marks element_marks for_marks head_marks init_marks item_marks member_marks method_marks operand_marks primary_marks stmt_marks target_marks bind_property_marks class_marks cond_marks decl_marks func_marks lhs_marks params_marks target_part_marks (Primary-F.Primary::Array left ((record { item = o; comma = None }) ∷ []) left))

primary_at-This : (word : Token) → primary_mapped (Primary-F.This word) ≡ one word
primary_at-This word = refl

pub primary-This : (word : Token) → primary_marks (primary_v.This word) ≡ one word
primary-This word = primary_opens (primary_v.This word) ∙ ap primary_mapped (primary_v.outs-This word) ∙ primary_at-This word

primary_at-Name : (name : Token) → primary_mapped (Primary-F.Primary::Name name) ≡ told is.Reference name
primary_at-Name name = refl

pub primary-Name : (name : Token) → primary_marks (primary_v.Name name) ≡ told is.Reference name
primary-Name name = primary_opens (primary_v.Name name) ∙ ap primary_mapped (primary_v.outs-Name name) ∙ primary_at-Name name

primary_at-Literal : (literal : Token) → primary_mapped (Primary-F.Literal literal) ≡ one literal
primary_at-Literal literal = refl

pub primary-Literal : (literal : Token) → primary_marks (primary_v.Literal literal) ≡ one literal
primary-Literal literal = primary_opens (primary_v.Literal literal) ∙ ap primary_mapped (primary_v.outs-Literal literal) ∙ primary_at-Literal literal

primary_at-Template : (template : Template (ExprOf Assign)) → primary_mapped (Primary-F.Template template) ≡ template_marks expr_marks template
primary_at-Template template = ap (λ t0. one template.head ⨾ t0) (pieces_over assign_marks template.more)

pub primary-Template : (template : Template (ExprOf Assign)) → primary_marks (primary_v.Template template) ≡ template_marks expr_marks template
primary-Template template = primary_opens (primary_v.Template template) ∙ ap primary_mapped (primary_v.outs-Template template) ∙ primary_at-Template template

primary_at-Regex : (regex : Token) → primary_mapped (Primary-F.Regex regex) ≡ one regex
primary_at-Regex regex = refl

pub primary-Regex : (regex : Token) → primary_marks (primary_v.Regex regex) ≡ one regex
primary-Regex regex = primary_opens (primary_v.Regex regex) ∙ ap primary_mapped (primary_v.outs-Regex regex) ∙ primary_at-Regex regex

primary_at-Array : (left : Token) (elements : List (Separated (Option (Argument Assign)))) (right : Token) → primary_mapped (Primary-F.Primary::Array left elements right) ≡ one left ⨾ listed (separated_marks (opt (argument_marks assign_marks))) elements ⨾ one right
primary_at-Array left elements right = ap (λ t0. one left ⨾ t0 ⨾ one right) (optional_over (primary_over left) (argument_marks inner) (argument_marks assign_marks) refl (λ x. refl) elements)

pub primary-Array : (left : Token) (elements : List (Separated (Option (Argument Assign)))) (right : Token) → primary_marks (primary_v.Array left elements right) ≡ one left ⨾ listed (separated_marks (opt (argument_marks assign_marks))) elements ⨾ one right
primary-Array left elements right = primary_opens (primary_v.Array left elements right) ∙ ap primary_mapped (primary_v.outs-Array left elements right) ∙ primary_at-Array left elements right

primary_at-Object : (left : Token) (members : List (Separated Member)) (right : Token) → primary_mapped (Primary-F.Primary::Object left members right) ≡ one left ⨾ listed (separated_marks member_marks) members ⨾ one right
primary_at-Object left members right = ap (λ t0. one left ⨾ t0 ⨾ one right) (separated_over member_marks members)

pub primary-Object : (left : Token) (members : List (Separated Member)) (right : Token) → primary_marks (primary_v.Object left members right) ≡ one left ⨾ listed (separated_marks member_marks) members ⨾ one right
primary-Object left members right = primary_opens (primary_v.Object left members right) ∙ ap primary_mapped (primary_v.outs-Object left members right) ∙ primary_at-Object left members right

primary_at-Func : (func : Func) → primary_mapped (Primary-F.Primary::Func func) ≡ within part.FunctionExpression (func_marks func)
primary_at-Func func = refl

pub primary-Func : (func : Func) → primary_marks (primary_v.Func func) ≡ within part.FunctionExpression (func_marks func)
primary-Func func = primary_opens (primary_v.Func func) ∙ ap primary_mapped (primary_v.outs-Func func) ∙ primary_at-Func func

primary_at-Class : (class : Class) → primary_mapped (Primary-F.Primary::Class class) ≡ within part.ClassExpression (class_marks class)
primary_at-Class class = refl

pub primary-Class : (class : Class) → primary_marks (primary_v.Class class) ≡ within part.ClassExpression (class_marks class)
primary-Class class = primary_opens (primary_v.Class class) ∙ ap primary_mapped (primary_v.outs-Class class) ∙ primary_at-Class class

primary_at-Paren : (left : Token) (expr : ExprOf Assign) (right : Token) → primary_mapped (Primary-F.Paren left expr right) ≡ told is.Opens left ⨾ expr_marks expr ⨾ told is.Closes right
primary_at-Paren left expr right = ap (λ t0. told is.Opens left ⨾ t0 ⨾ told is.Closes right) (separated_over assign_marks expr.list)

pub primary-Paren : (left : Token) (expr : ExprOf Assign) (right : Token) → primary_marks (primary_v.Paren left expr right) ≡ told is.Opens left ⨾ expr_marks expr ⨾ told is.Closes right
primary-Paren left expr right = primary_opens (primary_v.Paren left expr right) ∙ ap primary_mapped (primary_v.outs-Paren left expr right) ∙ primary_at-Paren left expr right

base_at-Primary : (primary : Primary) → base_mapped (Base-F.Primary primary) ≡ primary_marks primary
base_at-Primary primary = refl

pub base-Primary : (primary : Primary) → base_marks (base_v.Primary primary) ≡ primary_marks primary
base-Primary primary = base_opens (base_v.Primary primary) ∙ ap base_mapped (base_v.outs-Primary primary) ∙ base_at-Primary primary

base_at-Super : (word : Token) → base_mapped (Base-F.Super word) ≡ one word
base_at-Super word = refl

pub base-Super : (word : Token) → base_marks (base_v.Super word) ≡ one word
base-Super word = base_opens (base_v.Super word) ∙ ap base_mapped (base_v.outs-Super word) ∙ base_at-Super word

base_at-New : (word : Token) (callee : LHS) (args : Option (ArgsOf Assign)) → base_mapped (Base-F.New word callee args) ≡ told is.New word ⨾ lhs_marks callee ⨾ opt args_marks args
base_at-New word callee None = refl
base_at-New word callee (Some args) = ap (λ t0. told is.New word ⨾ lhs_marks callee ⨾ (one args.left ⨾ t0 ⨾ one args.right)) (arguments_over assign_marks args.list)

pub base-New : (word : Token) (callee : LHS) (args : Option (ArgsOf Assign)) → base_marks (base_v.New word callee args) ≡ told is.New word ⨾ lhs_marks callee ⨾ opt args_marks args
base-New word callee args = base_opens (base_v.New word callee args) ∙ ap base_mapped (base_v.outs-New word callee args) ∙ base_at-New word callee args

base_at-NewTarget : (word : Token) (dot : Token) (target : Token) → base_mapped (Base-F.NewTarget word dot target) ≡ one word ⨾ one dot ⨾ one target
base_at-NewTarget word dot target = refl

pub base-NewTarget : (word : Token) (dot : Token) (target : Token) → base_marks (base_v.NewTarget word dot target) ≡ one word ⨾ one dot ⨾ one target
base-NewTarget word dot target = base_opens (base_v.NewTarget word dot target) ∙ ap base_mapped (base_v.outs-NewTarget word dot target) ∙ base_at-NewTarget word dot target

base_at-ImportMeta : (word : Token) (dot : Token) (meta : Token) → base_mapped (Base-F.ImportMeta word dot meta) ≡ told is.ImportMeta word ⨾ one dot ⨾ one meta
base_at-ImportMeta word dot meta = refl

pub base-ImportMeta : (word : Token) (dot : Token) (meta : Token) → base_marks (base_v.ImportMeta word dot meta) ≡ told is.ImportMeta word ⨾ one dot ⨾ one meta
base-ImportMeta word dot meta = base_opens (base_v.ImportMeta word dot meta) ∙ ap base_mapped (base_v.outs-ImportMeta word dot meta) ∙ base_at-ImportMeta word dot meta

base_at-Import : (word : Token) (left : Token) (request : Assign) (second : Option (SecondArgument Assign)) (comma : Option Token) (right : Token) → base_mapped (Base-F.Import word left request second comma right) ≡ told is.ImportCall word ⨾ one left ⨾ assign_marks request ⨾ opt (second_argument_marks assign_marks) second ⨾ opt one comma ⨾ one right
base_at-Import word left request None comma right = refl
base_at-Import word left request (Some second) comma right = refl

pub base-Import : (word : Token) (left : Token) (request : Assign) (second : Option (SecondArgument Assign)) (comma : Option Token) (right : Token) → base_marks (base_v.Import word left request second comma right) ≡ told is.ImportCall word ⨾ one left ⨾ assign_marks request ⨾ opt (second_argument_marks assign_marks) second ⨾ opt one comma ⨾ one right
base-Import word left request second comma right = base_opens (base_v.Import word left request second comma right) ∙ ap base_mapped (base_v.outs-Import word left request second comma right) ∙ base_at-Import word left request second comma right

-- targets

-- a part of an assignment pattern, in an array and in an object
abbrev pub array_part_marks : TargetPart → Lays
array_part_marks part = in_array (target_part_marks part)

abbrev pub object_part_marks : TargetPart → Lays
object_part_marks part = in_object (target_part_marks part)

abbrev target_first : Target-F Lays Lays Lays Lays Lays Lays Lays Lays Lays Lays Lays Lays Lays Lays Lays Lays Lays Lays Lays Lays Lays Lays Lays PartLays → Option PartLays
target_first (Target-F.Target::Array left (element ∷ more) rest right) = element.item
target_first other = None

-- what the fold makes of an element
abbrev target_over : Token → Option TargetPart → Option PartLays
target_over left o = target_first (map-Target Arrow Assign Base Bind Case Element For Head Init Item Member Method Operand Primary Stmt Target BindProperty Class Cond Decl Func LHS Params TargetPart Lays Lays Lays Lays Lays Lays Lays Lays Lays Lays Lays Lays Lays Lays Lays Lays Lays Lays Lays Lays Lays Lays Lays PartLays arrow_marks assign_marks base_marks bind_marks case_marks element_marks for_marks head_marks init_marks item_marks member_marks method_marks operand_marks primary_marks stmt_marks target_marks bind_property_marks class_marks cond_marks decl_marks func_marks lhs_marks params_marks target_part_marks (Target-F.Target::Array left ((record { item = o; comma = None }) ∷ []) None left))

target_at-Name : (name : Token) → target_mapped (Target-F.Target::Name name) ≡ target_name name
target_at-Name name = refl

pub target-Name : (name : Token) → target_marks (target_v.Name name) ≡ target_name name
target-Name name = target_opens (target_v.Name name) ∙ ap target_mapped (target_v.outs-Name name) ∙ target_at-Name name

target_at-Member : (member : LHS) → target_mapped (Target-F.Member member) ≡ target_member lhs_marks member
target_at-Member member = refl

pub target-Member : (member : LHS) → target_marks (target_v.Member member) ≡ target_member lhs_marks member
target-Member member = target_opens (target_v.Member member) ∙ ap target_mapped (target_v.outs-Member member) ∙ target_at-Member member

target_at-ParenName : (name : Parenthesised Token) → target_mapped (Target-F.ParenName name) ≡ parenthesised_marks target_name name
target_at-ParenName name = refl

pub target-ParenName : (name : Parenthesised Token) → target_marks (target_v.ParenName name) ≡ parenthesised_marks target_name name
target-ParenName name = target_opens (target_v.ParenName name) ∙ ap target_mapped (target_v.outs-ParenName name) ∙ target_at-ParenName name

target_at-ParenMember : (member : Parenthesised LHS) → target_mapped (Target-F.ParenMember member) ≡ parenthesised_marks (target_member lhs_marks) member
target_at-ParenMember member = refl

pub target-ParenMember : (member : Parenthesised LHS) → target_marks (target_v.ParenMember member) ≡ parenthesised_marks (target_member lhs_marks) member
target-ParenMember member = target_opens (target_v.ParenMember member) ∙ ap target_mapped (target_v.outs-ParenMember member) ∙ target_at-ParenMember member

target_at-Array : (left : Token) (elements : List (Separated (Option TargetPart))) (rest : Option (Rest Target)) (right : Token) → target_mapped (Target-F.Target::Array left elements rest right) ≡ one left ⨾ listed (separated_marks (opt array_part_marks)) elements ⨾ opt (rest_marks target_marks) rest ⨾ one right
target_at-Array left elements None right = ap (λ t0. one left ⨾ t0 ⨾ nothing ⨾ one right) (optional_over (target_over left) in_array array_part_marks refl (λ x. refl) elements)
target_at-Array left elements (Some rest) right = ap (λ t0. one left ⨾ t0 ⨾ (one rest.dots ⨾ target_marks rest.item) ⨾ one right) (optional_over (target_over left) in_array array_part_marks refl (λ x. refl) elements)

pub target-Array : (left : Token) (elements : List (Separated (Option TargetPart))) (rest : Option (Rest Target)) (right : Token) → target_marks (target_v.Array left elements rest right) ≡ one left ⨾ listed (separated_marks (opt array_part_marks)) elements ⨾ opt (rest_marks target_marks) rest ⨾ one right
target-Array left elements rest right = target_opens (target_v.Array left elements rest right) ∙ ap target_mapped (target_v.outs-Array left elements rest right) ∙ target_at-Array left elements rest right

target_at-Object : (left : Token) (properties : List (Separated TargetPart)) (rest : Option (Rest Target)) (right : Token) → target_mapped (Target-F.Target::Object left properties rest right) ≡ one left ⨾ listed (separated_marks object_part_marks) properties ⨾ opt (rest_marks target_marks) rest ⨾ one right
target_at-Object left properties None right = ap (λ t0. one left ⨾ t0 ⨾ nothing ⨾ one right) (listed_map (separated_marks in_object) (λ s. record { item = target_part_marks s.item; comma = s.comma }) properties)
target_at-Object left properties (Some rest) right = ap (λ t0. one left ⨾ t0 ⨾ (one rest.dots ⨾ target_marks rest.item) ⨾ one right) (listed_map (separated_marks in_object) (λ s. record { item = target_part_marks s.item; comma = s.comma }) properties)

pub target-Object : (left : Token) (properties : List (Separated TargetPart)) (rest : Option (Rest Target)) (right : Token) → target_marks (target_v.Object left properties rest right) ≡ one left ⨾ listed (separated_marks object_part_marks) properties ⨾ opt (rest_marks target_marks) rest ⨾ one right
target-Object left properties rest right = target_opens (target_v.Object left properties rest right) ∙ ap target_mapped (target_v.outs-Object left properties rest right) ∙ target_at-Object left properties rest right

target_part_keyed : (k : KeyOf Assign) (colon : Token) (target : Target) (initial : Option (Initializer Assign)) (in_object : Bool) → target_part_mapped (record { key = Some (record { key = k; colon = colon }); target = target; initial = initial }) in_object ≡ (key_marks k ⨾ one colon) ⨾ target_marks target ⨾ opt (initializer_marks assign_marks) initial
target_part_keyed (key_of_v.IdName n) colon target None false = refl
target_part_keyed (key_of_v.IdName n) colon target None true = refl
target_part_keyed (key_of_v.IdName n) colon target (Some initial) false = refl
target_part_keyed (key_of_v.IdName n) colon target (Some initial) true = refl
target_part_keyed (key_of_v.String n) colon target None false = refl
target_part_keyed (key_of_v.String n) colon target None true = refl
target_part_keyed (key_of_v.String n) colon target (Some initial) false = refl
target_part_keyed (key_of_v.String n) colon target (Some initial) true = refl
target_part_keyed (key_of_v.Number n) colon target None false = refl
target_part_keyed (key_of_v.Number n) colon target None true = refl
target_part_keyed (key_of_v.Number n) colon target (Some initial) false = refl
target_part_keyed (key_of_v.Number n) colon target (Some initial) true = refl
target_part_keyed (key_of_v.Private n) colon target None false = refl
target_part_keyed (key_of_v.Private n) colon target None true = refl
target_part_keyed (key_of_v.Private n) colon target (Some initial) false = refl
target_part_keyed (key_of_v.Private n) colon target (Some initial) true = refl
target_part_keyed (key_of_v.Computed l e r) colon target None false = refl
target_part_keyed (key_of_v.Computed l e r) colon target None true = refl
target_part_keyed (key_of_v.Computed l e r) colon target (Some initial) false = refl
target_part_keyed (key_of_v.Computed l e r) colon target (Some initial) true = refl

target_part_parts : (key : Option (PropertyKey Assign)) (target : Target) (initial : Option (Initializer Assign)) (in_object : Bool) → target_part_mapped (record { key = key; target = target; initial = initial }) in_object ≡ part_key in_object assign_marks key ⨾ target_marks target ⨾ opt (initializer_marks assign_marks) initial
target_part_parts None target None false = refl
target_part_parts None target None true = refl
target_part_parts None target (Some initial) false = refl
target_part_parts None target (Some initial) true = refl
target_part_parts (Some key) target None false = target_part_keyed key.key key.colon target None false
target_part_parts (Some key) target None true = target_part_keyed key.key key.colon target None true
target_part_parts (Some key) target (Some initial) false = target_part_keyed key.key key.colon target (Some initial) false
target_part_parts (Some key) target (Some initial) true = target_part_keyed key.key key.colon target (Some initial) true

pub target_part_law : (x : TargetPart) → target_part_marks x ≡ (λ in_object. part_key in_object assign_marks (out-TargetPart x).key ⨾ target_marks (out-TargetPart x).target ⨾ opt (initializer_marks assign_marks) (out-TargetPart x).initial)
target_part_law x = target_part_opens x ∙ (λ i in_object. target_part_parts (out-TargetPart x).key (out-TargetPart x).target (out-TargetPart x).initial in_object i)

-- statements

item_at-Stmt : (stmt : Stmt) → item_mapped (Item-F.Stmt stmt) ≡ stmt_marks stmt
item_at-Stmt stmt = refl

pub item-Stmt : (stmt : Stmt) → item_marks (item_v.Stmt stmt) ≡ stmt_marks stmt
item-Stmt stmt = item_opens (item_v.Stmt stmt) ∙ ap item_mapped (item_v.outs-Stmt stmt) ∙ item_at-Stmt stmt

item_at-Lex : (lex : LexOf Decl) → item_mapped (Item-F.Item::Lex lex) ≡ lex_marks lex
item_at-Lex lex = ap (λ t0. within part.Declaration (one lex.word ⨾ t0) ⨾ semicolon lex.semi) (separated_over decl_marks lex.decls)

pub item-Lex : (lex : LexOf Decl) → item_marks (item_v.Lex lex) ≡ lex_marks lex
item-Lex lex = item_opens (item_v.Lex lex) ∙ ap item_mapped (item_v.outs-Lex lex) ∙ item_at-Lex lex

item_at-Func : (func : Func) → item_mapped (Item-F.Item::Func func) ≡ func_marks func
item_at-Func func = refl

pub item-Func : (func : Func) → item_marks (item_v.Func func) ≡ func_marks func
item-Func func = item_opens (item_v.Func func) ∙ ap item_mapped (item_v.outs-Func func) ∙ item_at-Func func

item_at-Class : (class : Class) → item_mapped (Item-F.Item::Class class) ≡ class_marks class
item_at-Class class = refl

pub item-Class : (class : Class) → item_marks (item_v.Class class) ≡ class_marks class
item-Class class = item_opens (item_v.Class class) ∙ ap item_mapped (item_v.outs-Class class) ∙ item_at-Class class

stmt_at-Block : (body : Body Item) → stmt_mapped (Stmt-F.Stmt::Block body) ≡ block_marks item_marks body
stmt_at-Block body = ap (λ t0. within part.Block (one body.left ⨾ t0 ⨾ one body.right)) (listed_map inner item_marks body.items)

pub stmt-Block : (body : Body Item) → stmt_marks (stmt_v.Block body) ≡ block_marks item_marks body
stmt-Block body = stmt_opens (stmt_v.Block body) ∙ ap stmt_mapped (stmt_v.outs-Block body) ∙ stmt_at-Block body

stmt_at-Empty : (mark : Token) → stmt_mapped (Stmt-F.Stmt::Empty mark) ≡ one mark
stmt_at-Empty mark = refl

pub stmt-Empty : (mark : Token) → stmt_marks (stmt_v.Empty mark) ≡ one mark
stmt-Empty mark = stmt_opens (stmt_v.Empty mark) ∙ ap stmt_mapped (stmt_v.outs-Empty mark) ∙ stmt_at-Empty mark

stmt_at-Var : (var : VarOf Decl) → stmt_mapped (Stmt-F.Stmt::Var var) ≡ var_marks var
stmt_at-Var var = ap (λ t0. within part.Declaration (one var.word ⨾ t0) ⨾ semicolon var.semi) (separated_over decl_marks var.decls)

pub stmt-Var : (var : VarOf Decl) → stmt_marks (stmt_v.Var var) ≡ var_marks var
stmt-Var var = stmt_opens (stmt_v.Var var) ∙ ap stmt_mapped (stmt_v.outs-Var var) ∙ stmt_at-Var var

stmt_at-If : (word : Token) (left : Token) (test : ExprOf Assign) (right : Token) (stmt : Stmt) (other : Option (Else Stmt)) → stmt_mapped (Stmt-F.If word left test right stmt other) ≡ one word ⨾ one left ⨾ expr_marks test ⨾ one right ⨾ stmt_marks stmt ⨾ opt (else_marks stmt_marks) other
stmt_at-If word left test right stmt None = ap (λ t0. one word ⨾ one left ⨾ t0 ⨾ one right ⨾ stmt_marks stmt ⨾ nothing) (separated_over assign_marks test.list)
stmt_at-If word left test right stmt (Some other) = ap (λ t0. one word ⨾ one left ⨾ t0 ⨾ one right ⨾ stmt_marks stmt ⨾ (one other.word ⨾ stmt_marks other.stmt)) (separated_over assign_marks test.list)

pub stmt-If : (word : Token) (left : Token) (test : ExprOf Assign) (right : Token) (stmt : Stmt) (other : Option (Else Stmt)) → stmt_marks (stmt_v.If word left test right stmt other) ≡ one word ⨾ one left ⨾ expr_marks test ⨾ one right ⨾ stmt_marks stmt ⨾ opt (else_marks stmt_marks) other
stmt-If word left test right stmt other = stmt_opens (stmt_v.If word left test right stmt other) ∙ ap stmt_mapped (stmt_v.outs-If word left test right stmt other) ∙ stmt_at-If word left test right stmt other

stmt_at-For : (each : For) → stmt_mapped (Stmt-F.For each) ≡ for_marks each
stmt_at-For each = refl

pub stmt-For : (each : For) → stmt_marks (stmt_v.For each) ≡ for_marks each
stmt-For each = stmt_opens (stmt_v.For each) ∙ ap stmt_mapped (stmt_v.outs-For each) ∙ stmt_at-For each

stmt_at-While : (word : Token) (left : Token) (test : ExprOf Assign) (right : Token) (stmt : Stmt) → stmt_mapped (Stmt-F.While word left test right stmt) ≡ one word ⨾ one left ⨾ expr_marks test ⨾ one right ⨾ stmt_marks stmt
stmt_at-While word left test right stmt = ap (λ t0. one word ⨾ one left ⨾ t0 ⨾ one right ⨾ stmt_marks stmt) (separated_over assign_marks test.list)

pub stmt-While : (word : Token) (left : Token) (test : ExprOf Assign) (right : Token) (stmt : Stmt) → stmt_marks (stmt_v.While word left test right stmt) ≡ one word ⨾ one left ⨾ expr_marks test ⨾ one right ⨾ stmt_marks stmt
stmt-While word left test right stmt = stmt_opens (stmt_v.While word left test right stmt) ∙ ap stmt_mapped (stmt_v.outs-While word left test right stmt) ∙ stmt_at-While word left test right stmt

stmt_at-Do : (word : Token) (stmt : Stmt) (while_word : Token) (left : Token) (test : ExprOf Assign) (right : Token) (semi : Option Token) → stmt_mapped (Stmt-F.Do word stmt while_word left test right semi) ≡ one word ⨾ stmt_marks stmt ⨾ one while_word ⨾ one left ⨾ expr_marks test ⨾ one right ⨾ semicolon semi
stmt_at-Do word stmt while_word left test right semi = ap (λ t0. one word ⨾ stmt_marks stmt ⨾ one while_word ⨾ one left ⨾ t0 ⨾ one right ⨾ semicolon semi) (separated_over assign_marks test.list)

pub stmt-Do : (word : Token) (stmt : Stmt) (while_word : Token) (left : Token) (test : ExprOf Assign) (right : Token) (semi : Option Token) → stmt_marks (stmt_v.Do word stmt while_word left test right semi) ≡ one word ⨾ stmt_marks stmt ⨾ one while_word ⨾ one left ⨾ expr_marks test ⨾ one right ⨾ semicolon semi
stmt-Do word stmt while_word left test right semi = stmt_opens (stmt_v.Do word stmt while_word left test right semi) ∙ ap stmt_mapped (stmt_v.outs-Do word stmt while_word left test right semi) ∙ stmt_at-Do word stmt while_word left test right semi

stmt_at-Continue : (word : Token) (label : Option Token) (semi : Option Token) → stmt_mapped (Stmt-F.Continue word label semi) ≡ one word ⨾ opt (told is.Label) label ⨾ semicolon semi
stmt_at-Continue word label semi = refl

pub stmt-Continue : (word : Token) (label : Option Token) (semi : Option Token) → stmt_marks (stmt_v.Continue word label semi) ≡ one word ⨾ opt (told is.Label) label ⨾ semicolon semi
stmt-Continue word label semi = stmt_opens (stmt_v.Continue word label semi) ∙ ap stmt_mapped (stmt_v.outs-Continue word label semi) ∙ stmt_at-Continue word label semi

stmt_at-Break : (word : Token) (label : Option Token) (semi : Option Token) → stmt_mapped (Stmt-F.Break word label semi) ≡ one word ⨾ opt (told is.Label) label ⨾ semicolon semi
stmt_at-Break word label semi = refl

pub stmt-Break : (word : Token) (label : Option Token) (semi : Option Token) → stmt_marks (stmt_v.Break word label semi) ≡ one word ⨾ opt (told is.Label) label ⨾ semicolon semi
stmt-Break word label semi = stmt_opens (stmt_v.Break word label semi) ∙ ap stmt_mapped (stmt_v.outs-Break word label semi) ∙ stmt_at-Break word label semi

stmt_at-Return : (word : Token) (value : Option (ExprOf Assign)) (semi : Option Token) → stmt_mapped (Stmt-F.Return word value semi) ≡ one word ⨾ opt expr_marks value ⨾ semicolon semi
stmt_at-Return word None semi = refl
stmt_at-Return word (Some value) semi = ap (λ t0. one word ⨾ t0 ⨾ semicolon semi) (separated_over assign_marks value.list)

pub stmt-Return : (word : Token) (value : Option (ExprOf Assign)) (semi : Option Token) → stmt_marks (stmt_v.Return word value semi) ≡ one word ⨾ opt expr_marks value ⨾ semicolon semi
stmt-Return word value semi = stmt_opens (stmt_v.Return word value semi) ∙ ap stmt_mapped (stmt_v.outs-Return word value semi) ∙ stmt_at-Return word value semi

stmt_at-With : (word : Token) (left : Token) (object : ExprOf Assign) (right : Token) (stmt : Stmt) → stmt_mapped (Stmt-F.With word left object right stmt) ≡ told is.With word ⨾ one left ⨾ expr_marks object ⨾ one right ⨾ stmt_marks stmt
stmt_at-With word left object right stmt = ap (λ t0. told is.With word ⨾ one left ⨾ t0 ⨾ one right ⨾ stmt_marks stmt) (separated_over assign_marks object.list)

pub stmt-With : (word : Token) (left : Token) (object : ExprOf Assign) (right : Token) (stmt : Stmt) → stmt_marks (stmt_v.With word left object right stmt) ≡ told is.With word ⨾ one left ⨾ expr_marks object ⨾ one right ⨾ stmt_marks stmt
stmt-With word left object right stmt = stmt_opens (stmt_v.With word left object right stmt) ∙ ap stmt_mapped (stmt_v.outs-With word left object right stmt) ∙ stmt_at-With word left object right stmt

stmt_at-Switch : (word : Token) (left : Token) (value : ExprOf Assign) (right : Token) (left_brace : Token) (cases : List Case) (right_brace : Token) → stmt_mapped (Stmt-F.Switch word left value right left_brace cases right_brace) ≡ one word ⨾ one left ⨾ expr_marks value ⨾ one right ⨾ within part.Switch (one left_brace ⨾ listed case_marks cases ⨾ one right_brace)
stmt_at-Switch word left value right left_brace cases right_brace = ap₂ (λ t0 t1. one word ⨾ one left ⨾ t0 ⨾ one right ⨾ within part.Switch (one left_brace ⨾ t1 ⨾ one right_brace)) (separated_over assign_marks value.list) (listed_map inner case_marks cases)

pub stmt-Switch : (word : Token) (left : Token) (value : ExprOf Assign) (right : Token) (left_brace : Token) (cases : List Case) (right_brace : Token) → stmt_marks (stmt_v.Switch word left value right left_brace cases right_brace) ≡ one word ⨾ one left ⨾ expr_marks value ⨾ one right ⨾ within part.Switch (one left_brace ⨾ listed case_marks cases ⨾ one right_brace)
stmt-Switch word left value right left_brace cases right_brace = stmt_opens (stmt_v.Switch word left value right left_brace cases right_brace) ∙ ap stmt_mapped (stmt_v.outs-Switch word left value right left_brace cases right_brace) ∙ stmt_at-Switch word left value right left_brace cases right_brace

stmt_at-Labelled : (label : Token) (colon : Token) (stmt : Stmt) → stmt_mapped (Stmt-F.Labelled label colon stmt) ≡ told is.Label label ⨾ one colon ⨾ stmt_marks stmt
stmt_at-Labelled label colon stmt = refl

pub stmt-Labelled : (label : Token) (colon : Token) (stmt : Stmt) → stmt_marks (stmt_v.Labelled label colon stmt) ≡ told is.Label label ⨾ one colon ⨾ stmt_marks stmt
stmt-Labelled label colon stmt = stmt_opens (stmt_v.Labelled label colon stmt) ∙ ap stmt_mapped (stmt_v.outs-Labelled label colon stmt) ∙ stmt_at-Labelled label colon stmt

stmt_at-Throw : (word : Token) (value : ExprOf Assign) (semi : Option Token) → stmt_mapped (Stmt-F.Throw word value semi) ≡ one word ⨾ expr_marks value ⨾ semicolon semi
stmt_at-Throw word value semi = ap (λ t0. one word ⨾ t0 ⨾ semicolon semi) (separated_over assign_marks value.list)

pub stmt-Throw : (word : Token) (value : ExprOf Assign) (semi : Option Token) → stmt_marks (stmt_v.Throw word value semi) ≡ one word ⨾ expr_marks value ⨾ semicolon semi
stmt-Throw word value semi = stmt_opens (stmt_v.Throw word value semi) ∙ ap stmt_mapped (stmt_v.outs-Throw word value semi) ∙ stmt_at-Throw word value semi

stmt_at-TryCatch : (word : Token) (body : Body Item) (catch : Token) (parameter : Option (CatchParameter Bind)) (handler : Body Item) (finally : Option (Finally Item)) → stmt_mapped (Stmt-F.TryCatch word body catch parameter handler finally) ≡ one word ⨾ block_marks item_marks body ⨾ one catch ⨾ within part.Catch (opt (catch_parameter_marks bind_marks) parameter ⨾ block_marks item_marks handler) ⨾ opt (finally_marks item_marks) finally
stmt_at-TryCatch word body catch None handler None = ap₂ (λ t0 t1. one word ⨾ within part.Block (one body.left ⨾ t0 ⨾ one body.right) ⨾ one catch ⨾ within part.Catch (nothing ⨾ within part.Block (one handler.left ⨾ t1 ⨾ one handler.right)) ⨾ nothing) (listed_map inner item_marks body.items) (listed_map inner item_marks handler.items)
stmt_at-TryCatch word body catch None handler (Some finally) = ap₃ (λ t0 t1 t2. one word ⨾ within part.Block (one body.left ⨾ t0 ⨾ one body.right) ⨾ one catch ⨾ within part.Catch (nothing ⨾ within part.Block (one handler.left ⨾ t1 ⨾ one handler.right)) ⨾ (one finally.word ⨾ within part.Block (one finally.block.left ⨾ t2 ⨾ one finally.block.right))) (listed_map inner item_marks body.items) (listed_map inner item_marks handler.items) (listed_map inner item_marks finally.block.items)
stmt_at-TryCatch word body catch (Some parameter) handler None = ap₂ (λ t0 t1. one word ⨾ within part.Block (one body.left ⨾ t0 ⨾ one body.right) ⨾ one catch ⨾ within part.Catch ((one parameter.left ⨾ bind_marks parameter.bind ⨾ one parameter.right) ⨾ within part.Block (one handler.left ⨾ t1 ⨾ one handler.right)) ⨾ nothing) (listed_map inner item_marks body.items) (listed_map inner item_marks handler.items)
stmt_at-TryCatch word body catch (Some parameter) handler (Some finally) = ap₃ (λ t0 t1 t2. one word ⨾ within part.Block (one body.left ⨾ t0 ⨾ one body.right) ⨾ one catch ⨾ within part.Catch ((one parameter.left ⨾ bind_marks parameter.bind ⨾ one parameter.right) ⨾ within part.Block (one handler.left ⨾ t1 ⨾ one handler.right)) ⨾ (one finally.word ⨾ within part.Block (one finally.block.left ⨾ t2 ⨾ one finally.block.right))) (listed_map inner item_marks body.items) (listed_map inner item_marks handler.items) (listed_map inner item_marks finally.block.items)

pub stmt-TryCatch : (word : Token) (body : Body Item) (catch : Token) (parameter : Option (CatchParameter Bind)) (handler : Body Item) (finally : Option (Finally Item)) → stmt_marks (stmt_v.TryCatch word body catch parameter handler finally) ≡ one word ⨾ block_marks item_marks body ⨾ one catch ⨾ within part.Catch (opt (catch_parameter_marks bind_marks) parameter ⨾ block_marks item_marks handler) ⨾ opt (finally_marks item_marks) finally
stmt-TryCatch word body catch parameter handler finally = stmt_opens (stmt_v.TryCatch word body catch parameter handler finally) ∙ ap stmt_mapped (stmt_v.outs-TryCatch word body catch parameter handler finally) ∙ stmt_at-TryCatch word body catch parameter handler finally

stmt_at-TryFinally : (word : Token) (body : Body Item) (finally : Finally Item) → stmt_mapped (Stmt-F.TryFinally word body finally) ≡ one word ⨾ block_marks item_marks body ⨾ finally_marks item_marks finally
stmt_at-TryFinally word body finally = ap₂ (λ t0 t1. one word ⨾ within part.Block (one body.left ⨾ t0 ⨾ one body.right) ⨾ (one finally.word ⨾ within part.Block (one finally.block.left ⨾ t1 ⨾ one finally.block.right))) (listed_map inner item_marks body.items) (listed_map inner item_marks finally.block.items)

pub stmt-TryFinally : (word : Token) (body : Body Item) (finally : Finally Item) → stmt_marks (stmt_v.TryFinally word body finally) ≡ one word ⨾ block_marks item_marks body ⨾ finally_marks item_marks finally
stmt-TryFinally word body finally = stmt_opens (stmt_v.TryFinally word body finally) ∙ ap stmt_mapped (stmt_v.outs-TryFinally word body finally) ∙ stmt_at-TryFinally word body finally

stmt_at-Debugger : (word : Token) (semi : Option Token) → stmt_mapped (Stmt-F.Debugger word semi) ≡ one word ⨾ semicolon semi
stmt_at-Debugger word semi = refl

pub stmt-Debugger : (word : Token) (semi : Option Token) → stmt_marks (stmt_v.Debugger word semi) ≡ one word ⨾ semicolon semi
stmt-Debugger word semi = stmt_opens (stmt_v.Debugger word semi) ∙ ap stmt_mapped (stmt_v.outs-Debugger word semi) ∙ stmt_at-Debugger word semi

stmt_at-Expr : (expr : ExprOf Assign) (semi : Option Token) → stmt_mapped (Stmt-F.Stmt::Expr expr semi) ≡ expr_marks expr ⨾ semicolon semi
stmt_at-Expr expr semi = ap (λ t0. t0 ⨾ semicolon semi) (separated_over assign_marks expr.list)

pub stmt-Expr : (expr : ExprOf Assign) (semi : Option Token) → stmt_marks (stmt_v.Expr expr semi) ≡ expr_marks expr ⨾ semicolon semi
stmt-Expr expr semi = stmt_opens (stmt_v.Expr expr semi) ∙ ap stmt_mapped (stmt_v.outs-Expr expr semi) ∙ stmt_at-Expr expr semi

case_at-Case : (word : Token) (test : ExprOf Assign) (colon : Token) (items : List Item) → case_mapped (Case-F.Case word test colon items) ≡ one word ⨾ expr_marks test ⨾ one colon ⨾ listed item_marks items
case_at-Case word test colon items = ap₂ (λ t0 t1. one word ⨾ t0 ⨾ one colon ⨾ t1) (separated_over assign_marks test.list) (listed_map inner item_marks items)

pub case-Case : (word : Token) (test : ExprOf Assign) (colon : Token) (items : List Item) → case_marks (case_v.Case word test colon items) ≡ one word ⨾ expr_marks test ⨾ one colon ⨾ listed item_marks items
case-Case word test colon items = case_opens (case_v.Case word test colon items) ∙ ap case_mapped (case_v.outs-Case word test colon items) ∙ case_at-Case word test colon items

case_at-Default : (word : Token) (colon : Token) (items : List Item) → case_mapped (Case-F.Default word colon items) ≡ one word ⨾ one colon ⨾ listed item_marks items
case_at-Default word colon items = ap (λ t0. one word ⨾ one colon ⨾ t0) (listed_map inner item_marks items)

pub case-Default : (word : Token) (colon : Token) (items : List Item) → case_marks (case_v.Default word colon items) ≡ one word ⨾ one colon ⨾ listed item_marks items
case-Default word colon items = case_opens (case_v.Default word colon items) ∙ ap case_mapped (case_v.outs-Default word colon items) ∙ case_at-Default word colon items

init_at-Var : (word : Token) (decls : List (Separated Decl)) → init_mapped (Init-F.Init::Var word decls) ≡ within part.Declaration (one word ⨾ listed (separated_marks decl_marks) decls)
init_at-Var word decls = ap (λ t0. within part.Declaration (one word ⨾ t0)) (separated_over decl_marks decls)

pub init-Var : (word : Token) (decls : List (Separated Decl)) → init_marks (init_v.Var word decls) ≡ within part.Declaration (one word ⨾ listed (separated_marks decl_marks) decls)
init-Var word decls = init_opens (init_v.Var word decls) ∙ ap init_mapped (init_v.outs-Var word decls) ∙ init_at-Var word decls

init_at-Lex : (lex : LexOf Decl) → init_mapped (Init-F.Init::Lex lex) ≡ head_lex_marks decl_marks lex
init_at-Lex lex = ap (λ t0. within part.Declaration (one lex.word ⨾ t0)) (separated_over decl_marks lex.decls)

pub init-Lex : (lex : LexOf Decl) → init_marks (init_v.Lex lex) ≡ head_lex_marks decl_marks lex
init-Lex lex = init_opens (init_v.Lex lex) ∙ ap init_mapped (init_v.outs-Lex lex) ∙ init_at-Lex lex

init_at-Expr : (expr : ExprOf Assign) → init_mapped (Init-F.Init::Expr expr) ≡ expr_marks expr
init_at-Expr expr = ap (λ t0. t0) (separated_over assign_marks expr.list)

pub init-Expr : (expr : ExprOf Assign) → init_marks (init_v.Expr expr) ≡ expr_marks expr
init-Expr expr = init_opens (init_v.Expr expr) ∙ ap init_mapped (init_v.outs-Expr expr) ∙ init_at-Expr expr

for_at-Loop : (word : Token) (left : Token) (init : Option Init) (first : Token) (test : Option (ExprOf Assign)) (second : Token) (update : Option (ExprOf Assign)) (right : Token) (stmt : Stmt) → for_mapped (For-F.Loop word left init first test second update right stmt) ≡ within part.For (one word ⨾ one left ⨾ opt init_marks init ⨾ one first ⨾ opt expr_marks test ⨾ one second ⨾ opt expr_marks update ⨾ one right ⨾ stmt_marks stmt)
for_at-Loop word left None first None second None right stmt = refl
for_at-Loop word left None first None second (Some update) right stmt = ap (λ t0. within part.For (one word ⨾ one left ⨾ nothing ⨾ one first ⨾ nothing ⨾ one second ⨾ t0 ⨾ one right ⨾ stmt_marks stmt)) (separated_over assign_marks update.list)
for_at-Loop word left None first (Some test) second None right stmt = ap (λ t0. within part.For (one word ⨾ one left ⨾ nothing ⨾ one first ⨾ t0 ⨾ one second ⨾ nothing ⨾ one right ⨾ stmt_marks stmt)) (separated_over assign_marks test.list)
for_at-Loop word left None first (Some test) second (Some update) right stmt = ap₂ (λ t0 t1. within part.For (one word ⨾ one left ⨾ nothing ⨾ one first ⨾ t0 ⨾ one second ⨾ t1 ⨾ one right ⨾ stmt_marks stmt)) (separated_over assign_marks test.list) (separated_over assign_marks update.list)
for_at-Loop word left (Some init) first None second None right stmt = refl
for_at-Loop word left (Some init) first None second (Some update) right stmt = ap (λ t0. within part.For (one word ⨾ one left ⨾ init_marks init ⨾ one first ⨾ nothing ⨾ one second ⨾ t0 ⨾ one right ⨾ stmt_marks stmt)) (separated_over assign_marks update.list)
for_at-Loop word left (Some init) first (Some test) second None right stmt = ap (λ t0. within part.For (one word ⨾ one left ⨾ init_marks init ⨾ one first ⨾ t0 ⨾ one second ⨾ nothing ⨾ one right ⨾ stmt_marks stmt)) (separated_over assign_marks test.list)
for_at-Loop word left (Some init) first (Some test) second (Some update) right stmt = ap₂ (λ t0 t1. within part.For (one word ⨾ one left ⨾ init_marks init ⨾ one first ⨾ t0 ⨾ one second ⨾ t1 ⨾ one right ⨾ stmt_marks stmt)) (separated_over assign_marks test.list) (separated_over assign_marks update.list)

pub for-Loop : (word : Token) (left : Token) (init : Option Init) (first : Token) (test : Option (ExprOf Assign)) (second : Token) (update : Option (ExprOf Assign)) (right : Token) (stmt : Stmt) → for_marks (for_v.Loop word left init first test second update right stmt) ≡ within part.For (one word ⨾ one left ⨾ opt init_marks init ⨾ one first ⨾ opt expr_marks test ⨾ one second ⨾ opt expr_marks update ⨾ one right ⨾ stmt_marks stmt)
for-Loop word left init first test second update right stmt = for_opens (for_v.Loop word left init first test second update right stmt) ∙ ap for_mapped (for_v.outs-Loop word left init first test second update right stmt) ∙ for_at-Loop word left init first test second update right stmt

for_at-In : (word : Token) (left : Token) (head : Head) (in_word : Token) (object : ExprOf Assign) (right : Token) (stmt : Stmt) → for_mapped (For-F.In word left head in_word object right stmt) ≡ within part.For (one word ⨾ one left ⨾ head_marks head ⨾ one in_word ⨾ expr_marks object ⨾ one right ⨾ stmt_marks stmt)
for_at-In word left head in_word object right stmt = ap (λ t0. within part.For (one word ⨾ one left ⨾ head_marks head ⨾ one in_word ⨾ t0 ⨾ one right ⨾ stmt_marks stmt)) (separated_over assign_marks object.list)

pub for-In : (word : Token) (left : Token) (head : Head) (in_word : Token) (object : ExprOf Assign) (right : Token) (stmt : Stmt) → for_marks (for_v.In word left head in_word object right stmt) ≡ within part.For (one word ⨾ one left ⨾ head_marks head ⨾ one in_word ⨾ expr_marks object ⨾ one right ⨾ stmt_marks stmt)
for-In word left head in_word object right stmt = for_opens (for_v.In word left head in_word object right stmt) ∙ ap for_mapped (for_v.outs-In word left head in_word object right stmt) ∙ for_at-In word left head in_word object right stmt

for_at-Of : (word : Token) (await_word : Option Token) (left : Token) (head : Head) (of_word : Token) (values : Assign) (right : Token) (stmt : Stmt) → for_mapped (For-F.Of word await_word left head of_word values right stmt) ≡ within part.For (one word ⨾ opt (told is.Await) await_word ⨾ one left ⨾ head_marks head ⨾ one of_word ⨾ assign_marks values ⨾ one right ⨾ stmt_marks stmt)
for_at-Of word await_word left head of_word values right stmt = refl

pub for-Of : (word : Token) (await_word : Option Token) (left : Token) (head : Head) (of_word : Token) (values : Assign) (right : Token) (stmt : Stmt) → for_marks (for_v.Of word await_word left head of_word values right stmt) ≡ within part.For (one word ⨾ opt (told is.Await) await_word ⨾ one left ⨾ head_marks head ⨾ one of_word ⨾ assign_marks values ⨾ one right ⨾ stmt_marks stmt)
for-Of word await_word left head of_word values right stmt = for_opens (for_v.Of word await_word left head of_word values right stmt) ∙ ap for_mapped (for_v.outs-Of word await_word left head of_word values right stmt) ∙ for_at-Of word await_word left head of_word values right stmt

head_at-Bind : (word : Token) (bind : Bind) → head_mapped (Head-F.Bind word bind) ≡ within part.Declaration (one word ⨾ bind_marks bind ⨾ put mark.Iterated)
head_at-Bind word bind = refl

pub head-Bind : (word : Token) (bind : Bind) → head_marks (head_v.Bind word bind) ≡ within part.Declaration (one word ⨾ bind_marks bind ⨾ put mark.Iterated)
head-Bind word bind = head_opens (head_v.Bind word bind) ∙ ap head_mapped (head_v.outs-Bind word bind) ∙ head_at-Bind word bind

head_at-Target : (target : Target) → head_mapped (Head-F.Target target) ≡ target_marks target
head_at-Target target = refl

pub head-Target : (target : Target) → head_marks (head_v.Target target) ≡ target_marks target
head-Target target = head_opens (head_v.Target target) ∙ ap head_mapped (head_v.outs-Target target) ∙ head_at-Target target
