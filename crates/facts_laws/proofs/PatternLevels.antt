-- Functions, classes and patterns have no mark of an import or an export, if their parts have none.
use Rattle.std.specs.Prelude.{Bool, true, false, List, [], ◌∷◌, Option, Some, None}
use Rattle.std.proofs.Common.{refl}
use Rattle.es_tree.specs.declared.tokens.Token.{Token}
use Rattle.es_tree.specs.declared.parts.Separated.{Separated}
use Rattle.es_tree.specs.declared.parts.Initializer.{Initializer}
use Rattle.es_tree.specs.declared.parts.Rest.{Rest}
use Rattle.es_tree.specs.declared.parts.Extends.{Extends}
use Rattle.es_tree.specs.declared.parts.PropertyKey.{PropertyKey}
use Rattle.es_tree.specs.declared.parts.KeyOf.{KeyOf}
use Rattle.es_tree.specs.declared.parts.KeyOf.TheVariants as key_of_v
use Rattle.es_tree.specs.declared.cycle.Arrow.TheOpen.{Element-F, Method-F, Bind-F, Target-F}
use Rattle.es_outline.specs.declared.mark.Mark.TheVariants as mark
use Rattle.es_outline.specs.declared.mark.Role.TheVariants as is
use Rattle.es_outline.specs.declared.mark.Part.TheVariants as part
use Rattle.es_outline.specs.Outline.{Lays, PartLays, inner, in_array, opt, listed, separated_marks, initializer_marks, rest_marks, extends_marks, part_key, keyed}
use Rattle.es_outline.proofs.Opens.{func_mapped, params_mapped, class_mapped, element_mapped, method_mapped, bind_property_mapped, bind_mapped, target_mapped, target_part_mapped}
use Rattle.facts_laws.proofs.Keeping.{Keeps, keeps_nothing, keeps_put, ◌then◌, keeps_told, keeps_one, keeps_within, keeps_named, keeps_semicolon, keeps_opt_one, keeps_tokens, keeps_listed}
use Rattle.facts_laws.proofs.Kept.{KeptAssign, BindLayer, bind_of, bind_lays, KeptBind, ElementLayer, element_of, MethodLayer, method_of, TargetLayer, target_of, target_lays, KeptTarget, BindPropertyLayer, bind_property_of, bind_property_lays, ClassLayer, class_of, class_lays, KeptDecl, FuncLayer, func_of, KeptLHS, ParamsLayer, params_of, params_lays, TargetPartLayer, target_part_of, target_part_lays, KeptTargetPart}

pub func_step : (y : FuncLayer) → Keeps (func_mapped (func_of y))
func_step y = keeps_opt_one y.is_async then keeps_one y.word then keeps_opt_one y.star then keeps_named is.FunctionName y.name refl then keeps_within part.Function refl (keeps_one y.left then y.params.1 then keeps_one y.right then keeps_within part.FunctionBody refl ((keeps_one y.body.left then keeps_listed _ _ _ (λ x. x.1) y.body.items then keeps_one y.body.right)))

params_rest : (list : List (Separated KeptDecl)) (rest : Option (Rest KeptBind)) → Keeps (opt (rest_marks inner) (params_lays (record { list = list; rest = rest })).rest)
params_rest list None = keeps_nothing
params_rest list (Some rest) = keeps_one rest.dots then rest.item.1

pub params_step : (y : ParamsLayer) → Keeps (params_mapped (params_of y))
params_step y = keeps_listed _ _ _ (λ x. x.item.1 then keeps_opt_one x.comma) y.list then params_rest y.list y.rest

class_extends : (word : Token) (extends : Option (Extends KeptLHS))
    → Keeps (opt (extends_marks inner) (class_lays (record { word = word; name = None; extends = extends; left = word; elements = []; right = word })).extends)
class_extends word None = keeps_nothing
class_extends word (Some extends) = keeps_one extends.word then extends.lhs.1

pub class_step : (y : ClassLayer) → Keeps (class_mapped (class_of y))
class_step y = keeps_one y.word then keeps_named is.ClassName y.name refl then keeps_within part.Class refl (class_extends y.word y.extends then keeps_one y.left then keeps_listed _ _ _ (λ x. x.1) y.elements then keeps_one y.right)

pub element_step : (y : ElementLayer) → Keeps (element_mapped (element_of y))
element_step (Element-F.Element::Empty mark) = keeps_one mark
element_step (Element-F.Element::Method is_static method) = keeps_opt_one is_static then method.1
element_step (Element-F.Field is_static (key_of_v.IdName name) None semi) = keeps_opt_one is_static then keeps_one name then keeps_nothing then keeps_semicolon semi
element_step (Element-F.Field is_static (key_of_v.IdName name) (Some initial) semi) = keeps_opt_one is_static then keeps_one name then (keeps_told is.Initializes initial.equals refl then initial.value.1) then keeps_semicolon semi
element_step (Element-F.Field is_static (key_of_v.String text) None semi) = keeps_opt_one is_static then keeps_one text then keeps_nothing then keeps_semicolon semi
element_step (Element-F.Field is_static (key_of_v.String text) (Some initial) semi) = keeps_opt_one is_static then keeps_one text then (keeps_told is.Initializes initial.equals refl then initial.value.1) then keeps_semicolon semi
element_step (Element-F.Field is_static (key_of_v.Number number) None semi) = keeps_opt_one is_static then keeps_one number then keeps_nothing then keeps_semicolon semi
element_step (Element-F.Field is_static (key_of_v.Number number) (Some initial) semi) = keeps_opt_one is_static then keeps_one number then (keeps_told is.Initializes initial.equals refl then initial.value.1) then keeps_semicolon semi
element_step (Element-F.Field is_static (key_of_v.Computed before computed after) None semi) = keeps_opt_one is_static then (keeps_one before then computed.1 then keeps_one after) then keeps_nothing then keeps_semicolon semi
element_step (Element-F.Field is_static (key_of_v.Computed before computed after) (Some initial) semi) = keeps_opt_one is_static then (keeps_one before then computed.1 then keeps_one after) then (keeps_told is.Initializes initial.equals refl then initial.value.1) then keeps_semicolon semi
element_step (Element-F.Field is_static (key_of_v.Private name) None semi) = keeps_opt_one is_static then keeps_one name then keeps_nothing then keeps_semicolon semi
element_step (Element-F.Field is_static (key_of_v.Private name) (Some initial) semi) = keeps_opt_one is_static then keeps_one name then (keeps_told is.Initializes initial.equals refl then initial.value.1) then keeps_semicolon semi
element_step (Element-F.Static word body) = keeps_one word then keeps_within part.StaticBlock refl ((keeps_one body.left then keeps_listed _ _ _ (λ x. x.1) body.items then keeps_one body.right))

pub method_step : (y : MethodLayer) → Keeps (method_mapped (method_of y))
method_step (Method-F.Method::Method is_async star (key_of_v.IdName name) left params right body) = keeps_opt_one is_async then keeps_opt_one star then keeps_one name then keeps_within part.Function refl (keeps_one left then params.1 then keeps_one right then keeps_within part.FunctionBody refl ((keeps_one body.left then keeps_listed _ _ _ (λ x. x.1) body.items then keeps_one body.right)))
method_step (Method-F.Method::Method is_async star (key_of_v.String text) left params right body) = keeps_opt_one is_async then keeps_opt_one star then keeps_one text then keeps_within part.Function refl (keeps_one left then params.1 then keeps_one right then keeps_within part.FunctionBody refl ((keeps_one body.left then keeps_listed _ _ _ (λ x. x.1) body.items then keeps_one body.right)))
method_step (Method-F.Method::Method is_async star (key_of_v.Number number) left params right body) = keeps_opt_one is_async then keeps_opt_one star then keeps_one number then keeps_within part.Function refl (keeps_one left then params.1 then keeps_one right then keeps_within part.FunctionBody refl ((keeps_one body.left then keeps_listed _ _ _ (λ x. x.1) body.items then keeps_one body.right)))
method_step (Method-F.Method::Method is_async star (key_of_v.Computed before computed after) left params right body) = keeps_opt_one is_async then keeps_opt_one star then (keeps_one before then computed.1 then keeps_one after) then keeps_within part.Function refl (keeps_one left then params.1 then keeps_one right then keeps_within part.FunctionBody refl ((keeps_one body.left then keeps_listed _ _ _ (λ x. x.1) body.items then keeps_one body.right)))
method_step (Method-F.Method::Method is_async star (key_of_v.Private name) left params right body) = keeps_opt_one is_async then keeps_opt_one star then keeps_one name then keeps_within part.Function refl (keeps_one left then params.1 then keeps_one right then keeps_within part.FunctionBody refl ((keeps_one body.left then keeps_listed _ _ _ (λ x. x.1) body.items then keeps_one body.right)))
method_step (Method-F.Get word (key_of_v.IdName name) left right body) = keeps_one word then keeps_one name then keeps_within part.Function refl (keeps_one left then keeps_one right then keeps_within part.FunctionBody refl ((keeps_one body.left then keeps_listed _ _ _ (λ x. x.1) body.items then keeps_one body.right)))
method_step (Method-F.Get word (key_of_v.String text) left right body) = keeps_one word then keeps_one text then keeps_within part.Function refl (keeps_one left then keeps_one right then keeps_within part.FunctionBody refl ((keeps_one body.left then keeps_listed _ _ _ (λ x. x.1) body.items then keeps_one body.right)))
method_step (Method-F.Get word (key_of_v.Number number) left right body) = keeps_one word then keeps_one number then keeps_within part.Function refl (keeps_one left then keeps_one right then keeps_within part.FunctionBody refl ((keeps_one body.left then keeps_listed _ _ _ (λ x. x.1) body.items then keeps_one body.right)))
method_step (Method-F.Get word (key_of_v.Computed before computed after) left right body) = keeps_one word then (keeps_one before then computed.1 then keeps_one after) then keeps_within part.Function refl (keeps_one left then keeps_one right then keeps_within part.FunctionBody refl ((keeps_one body.left then keeps_listed _ _ _ (λ x. x.1) body.items then keeps_one body.right)))
method_step (Method-F.Get word (key_of_v.Private name) left right body) = keeps_one word then keeps_one name then keeps_within part.Function refl (keeps_one left then keeps_one right then keeps_within part.FunctionBody refl ((keeps_one body.left then keeps_listed _ _ _ (λ x. x.1) body.items then keeps_one body.right)))
method_step (Method-F.Method::Set word (key_of_v.IdName name) left parameter right body) = keeps_one word then keeps_one name then keeps_within part.Function refl (keeps_one left then parameter.1 then keeps_one right then keeps_within part.FunctionBody refl ((keeps_one body.left then keeps_listed _ _ _ (λ x. x.1) body.items then keeps_one body.right)))
method_step (Method-F.Method::Set word (key_of_v.String text) left parameter right body) = keeps_one word then keeps_one text then keeps_within part.Function refl (keeps_one left then parameter.1 then keeps_one right then keeps_within part.FunctionBody refl ((keeps_one body.left then keeps_listed _ _ _ (λ x. x.1) body.items then keeps_one body.right)))
method_step (Method-F.Method::Set word (key_of_v.Number number) left parameter right body) = keeps_one word then keeps_one number then keeps_within part.Function refl (keeps_one left then parameter.1 then keeps_one right then keeps_within part.FunctionBody refl ((keeps_one body.left then keeps_listed _ _ _ (λ x. x.1) body.items then keeps_one body.right)))
method_step (Method-F.Method::Set word (key_of_v.Computed before computed after) left parameter right body) = keeps_one word then (keeps_one before then computed.1 then keeps_one after) then keeps_within part.Function refl (keeps_one left then parameter.1 then keeps_one right then keeps_within part.FunctionBody refl ((keeps_one body.left then keeps_listed _ _ _ (λ x. x.1) body.items then keeps_one body.right)))
method_step (Method-F.Method::Set word (key_of_v.Private name) left parameter right body) = keeps_one word then keeps_one name then keeps_within part.Function refl (keeps_one left then parameter.1 then keeps_one right then keeps_within part.FunctionBody refl ((keeps_one body.left then keeps_listed _ _ _ (λ x. x.1) body.items then keeps_one body.right)))

property_keyed : (key : KeyOf KeptAssign) (colon : Token) (decl : KeptDecl)
    → Keeps (keyed inner (bind_property_lays (record { key = Some (record { key = key; colon = colon }); decl = decl })).key)
property_keyed (key_of_v.IdName name) colon decl = keeps_one name then keeps_one colon
property_keyed (key_of_v.String text) colon decl = keeps_one text then keeps_one colon
property_keyed (key_of_v.Number number) colon decl = keeps_one number then keeps_one colon
property_keyed (key_of_v.Computed before computed after) colon decl = (keeps_one before then computed.1 then keeps_one after) then keeps_one colon
property_keyed (key_of_v.Private name) colon decl = keeps_one name then keeps_one colon

property_key : (key : Option (PropertyKey KeptAssign)) (decl : KeptDecl) → Keeps (keyed inner (bind_property_lays (record { key = key; decl = decl })).key)
property_key None decl = keeps_put mark.Shorthand refl
property_key (Some key) decl = property_keyed key.key key.colon decl

pub bind_property_step : (y : BindPropertyLayer) → Keeps (bind_property_mapped (bind_property_of y))
bind_property_step y = property_key y.key y.decl then y.decl.1

abbrev bind_items : Bind-F Lays Lays Lays Lays Lays Lays Lays Lays Lays Lays Lays Lays Lays Lays Lays Lays Lays Lays Lays Lays Lays Lays Lays PartLays → List (Separated (Option Lays))
bind_items (Bind-F.Bind::Array left elements rest right) = elements
bind_items _ = []

bind_element : (left : Token) (item : Option KeptDecl) (comma : Option Token)
    → Keeps (listed (separated_marks (opt inner)) (bind_items (bind_lays (Bind-F.Bind::Array left (record { item = item; comma = comma } ∷ []) None left))))
bind_element left None comma = (keeps_nothing then keeps_opt_one comma) then keeps_nothing
bind_element left (Some x) comma = (x.1 then keeps_opt_one comma) then keeps_nothing

bind_elements : (left : Token) (elements : List (Separated (Option KeptDecl)))
    → Keeps (listed (separated_marks (opt inner)) (bind_items (bind_lays (Bind-F.Bind::Array left elements None left))))
bind_elements left [] = keeps_nothing
bind_elements left (x ∷ elements) = bind_element left x.item x.comma then bind_elements left elements

pub bind_step : (y : BindLayer) → Keeps (bind_mapped (bind_of y))
bind_step (Bind-F.Bind::Name name) = keeps_told is.Bound name refl
bind_step (Bind-F.Bind::Array left elements None right) = keeps_within part.Pattern refl (keeps_one left then bind_elements left elements then keeps_nothing then keeps_one right)
bind_step (Bind-F.Bind::Array left elements (Some rest) right) = keeps_within part.Pattern refl (keeps_one left then bind_elements left elements then (keeps_one rest.dots then rest.item.1) then keeps_one right)
bind_step (Bind-F.Bind::Object left properties None right) = keeps_within part.Pattern refl (keeps_one left then keeps_listed _ _ _ (λ x. x.item.1 then keeps_opt_one x.comma) properties then keeps_nothing then keeps_one right)
bind_step (Bind-F.Bind::Object left properties (Some rest) right) = keeps_within part.Pattern refl (keeps_one left then keeps_listed _ _ _ (λ x. x.item.1 then keeps_opt_one x.comma) properties then (keeps_one rest.dots then rest.item.1) then keeps_one right)

abbrev target_items : Target-F Lays Lays Lays Lays Lays Lays Lays Lays Lays Lays Lays Lays Lays Lays Lays Lays Lays Lays Lays Lays Lays Lays Lays PartLays → List (Separated (Option PartLays))
target_items (Target-F.Target::Array left elements rest right) = elements
target_items _ = []

target_element : (left : Token) (item : Option KeptTargetPart) (comma : Option Token)
    → Keeps (listed (separated_marks (opt in_array)) (target_items (target_lays (Target-F.Target::Array left (record { item = item; comma = comma } ∷ []) None left))))
target_element left None comma = (keeps_nothing then keeps_opt_one comma) then keeps_nothing
target_element left (Some x) comma = (x.1 false then keeps_opt_one comma) then keeps_nothing

target_elements : (left : Token) (elements : List (Separated (Option KeptTargetPart)))
    → Keeps (listed (separated_marks (opt in_array)) (target_items (target_lays (Target-F.Target::Array left elements None left))))
target_elements left [] = keeps_nothing
target_elements left (x ∷ elements) = target_element left x.item x.comma then target_elements left elements

pub target_step : (y : TargetLayer) → Keeps (target_mapped (target_of y))
target_step (Target-F.Target::Name name) = (keeps_told is.Reference name refl then keeps_put mark.Assigned refl)
target_step (Target-F.Member member) = (member.1 then keeps_put mark.Assigned refl)
target_step (Target-F.ParenName name) = (keeps_tokens is.Opens refl name.opened then (keeps_told is.Reference name.item refl then keeps_put mark.Assigned refl) then keeps_tokens is.Closes refl name.closed)
target_step (Target-F.ParenMember member) = (keeps_tokens is.Opens refl member.opened then (member.item.1 then keeps_put mark.Assigned refl) then keeps_tokens is.Closes refl member.closed)
target_step (Target-F.Target::Array left elements None right) = keeps_one left then target_elements left elements then keeps_nothing then keeps_one right
target_step (Target-F.Target::Array left elements (Some rest) right) = keeps_one left then target_elements left elements then (keeps_one rest.dots then rest.item.1) then keeps_one right
target_step (Target-F.Target::Object left properties None right) = keeps_one left then keeps_listed _ _ _ (λ x. (x.item.1 true then keeps_opt_one x.comma)) properties then keeps_nothing then keeps_one right
target_step (Target-F.Target::Object left properties (Some rest) right) = keeps_one left then keeps_listed _ _ _ (λ x. (x.item.1 true then keeps_opt_one x.comma)) properties then (keeps_one rest.dots then rest.item.1) then keeps_one right

part_keyed : (key : KeyOf KeptAssign) (colon : Token) (target : KeptTarget) (in_object : Bool)
    → Keeps (part_key in_object inner (target_part_lays (record { key = Some (record { key = key; colon = colon }); target = target; initial = None })).key)
part_keyed (key_of_v.IdName name) colon target true = keeps_one name then keeps_one colon
part_keyed (key_of_v.String text) colon target true = keeps_one text then keeps_one colon
part_keyed (key_of_v.Number number) colon target true = keeps_one number then keeps_one colon
part_keyed (key_of_v.Computed before computed after) colon target true = (keeps_one before then computed.1 then keeps_one after) then keeps_one colon
part_keyed (key_of_v.Private name) colon target true = keeps_one name then keeps_one colon
part_keyed (key_of_v.IdName name) colon target false = keeps_one name then keeps_one colon
part_keyed (key_of_v.String text) colon target false = keeps_one text then keeps_one colon
part_keyed (key_of_v.Number number) colon target false = keeps_one number then keeps_one colon
part_keyed (key_of_v.Computed before computed after) colon target false = (keeps_one before then computed.1 then keeps_one after) then keeps_one colon
part_keyed (key_of_v.Private name) colon target false = keeps_one name then keeps_one colon

part_named : (key : Option (PropertyKey KeptAssign)) (target : KeptTarget) (in_object : Bool)
    → Keeps (part_key in_object inner (target_part_lays (record { key = key; target = target; initial = None })).key)
part_named None target true = keeps_put mark.Shorthand refl
part_named None target false = keeps_nothing
part_named (Some key) target in_object = part_keyed key.key key.colon target in_object

part_initial : (target : KeptTarget) (initial : Option (Initializer KeptAssign))
    → Keeps (opt (initializer_marks inner) (target_part_lays (record { key = None; target = target; initial = initial })).initial)
part_initial target None = keeps_nothing
part_initial target (Some initial) = keeps_told is.Initializes initial.equals refl then initial.value.1

pub target_part_step : (y : TargetPartLayer) (in_object : Bool) → Keeps (target_part_mapped (target_part_of y) in_object)
target_part_step y in_object = part_named y.key y.target in_object then y.target.1 then part_initial y.target y.initial
