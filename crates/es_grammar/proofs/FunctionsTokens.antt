-- The tokens of bindings, functions and classes stand where their production does.
use Rattle.std.specs.Prelude.{ℕ, Bool, Option, Some, None}
use Rattle.es_tree.specs.declared.tokens.Token.{Token}
use Rattle.es_tree.specs.declared.parts.Initializer.{Initializer}
use Rattle.es_tree.specs.declared.parts.Body.{Body}
use Rattle.es_tree.specs.declared.parts.Extends.{Extends}
use Rattle.es_tree.specs.declared.parts.ArrowParams.{ArrowParams}
use Rattle.es_tree.specs.declared.parts.KeyOf.{KeyOf}
use Rattle.es_tree.specs.declared.parts.PropertyKey.{PropertyKey}
use Rattle.es_tree.specs.declared.cycle.Item.{Item}
use Rattle.es_tree.specs.declared.cycle.Decl.{Decl, roll-Decl}
use Rattle.es_tree.specs.declared.cycle.Func.{Func}
use Rattle.es_tree.specs.declared.cycle.Params.{Params}
use Rattle.es_tree.specs.declared.cycle.Class.{Class}
use Rattle.es_tree.specs.declared.cycle.Element.{Element}
use Rattle.es_tree.specs.declared.cycle.Method.{Method}
use Rattle.es_tree.specs.declared.cycle.BindProperty.{BindProperty}
use Rattle.es_tree.specs.declared.cycle.Bind.{Bind}
use Rattle.es_tree.specs.declared.cycle.Assign.{Assign}
use Rattle.es_tree.specs.declared.cycle.Arrow.{Arrow}
use Rattle.es_tree.specs.declared.cycle.LHS.{LHS}
use Rattle.es_tree.specs.declared.cycle.Bind.TheVariants as bind
use Rattle.es_tree.specs.Yield.{one, opt, initializer_tokens, body_tokens, extends_tokens, arrow_params_tokens, property_key_tokens, item_tokens, decl_tokens, func_tokens, params_tokens, class_tokens, element_tokens, method_tokens, bind_property_tokens, bind_tokens, assign_tokens, arrow_tokens, lhs_tokens, key_tokens}
use Rattle.es_grammar.specs.declared.places.Context.{Context}
use Rattle.es_grammar.specs.Reading.{Bytes}
use Rattle.es_grammar.specs.declared.places.Stop.{Stop}
use Rattle.es_grammar.specs.Rules.{Rules}
use Rattle.es_grammar.specs.Functions.{InitializerAt, BindAt, DeclAt, PartAt, KeyAt, ElementKeyAt, PropertyKeyAt, BindPropertyAt, NameBindAt, BindPatternAt, ParamsAt, ClosedItemAt, BodyAt, AsyncAt, StarAt, OptionalNameAt, FuncAt, MethodAt, ArrowParamsAt, ArrowAt, StaticAt, ElementAt, HeritageAt, ClassAt}
use Rattle.es_grammar.specs.Tokens.{TokensAt}
use Rattle.es_grammar.proofs.Laws.{element-Empty, element-Method, element-Field, element-Static, method-Method, method-Get, method-Set, bind-Name, bind-Array, bind-Object, arrow-Block, arrow-Concise}
use Rattle.es_grammar.proofs.Rolled.{decl_rolled, func_rolled, params_rolled, class_rolled, bind_property_rolled}
use Rattle.es_grammar.proofs.Standing.{over, nothing, kind_at, mark_at, word_at, name_at, semi_stands, Stands, chain_stands, list_stands, each_stands, elements_stand, each_element_stands, rest_stands, ◌▹◌}
use Rattle.es_grammar.proofs.Tells.{Tells}

pub initializer_stands : {text : Bytes} {r : Rules} {c : Context} {p : ℕ} {x : Initializer Assign} {s : Stop} (t : Tells text r)
    → InitializerAt text r c p x s → TokensAt text p (initializer_tokens assign_tokens x) s.at
initializer_stands t (InitializerAt.initializer equals value h1 h2) = mark_at h1 ▹ t.assign _ _ _ _ h2

pub bind_stands : {text : Bytes} {r : Rules} {c : Context} {p : ℕ} {x : Bind} {q : ℕ} (t : Tells text r) → BindAt text r c p x q
    → TokensAt text p (bind_tokens x) q
bind_stands t (BindAt.name token h1) = over (bind-Name token) (name_at h1)
bind_stands t (BindAt.pattern x h1) = t.bind_pattern _ _ _ _ h1

pub decl_stands : {text : Bytes} {r : Rules} {c : Context} {p : ℕ} {x : Decl} {s : Stop} (t : Tells text r) → DeclAt text r c p x s
    → TokensAt text p (decl_tokens x) s.at
decl_stands t (DeclAt.plain x h1) = over (decl_rolled (record { bind = x; initial = None })) (bind_stands t h1 ▹ nothing)
decl_stands t (DeclAt.initialised x i h1 h2) = over (decl_rolled (record { bind = x; initial = Some i })) (bind_stands t h1 ▹ initializer_stands t h2)

pub part_stands : {text : Bytes} {r : Rules} {c : Context} {p : ℕ} {x : Decl} {q : ℕ} (t : Tells text r) → PartAt text r c p x q
    → TokensAt text p (decl_tokens x) q
part_stands t (PartAt.part x h1) = decl_stands t h1

pub key_stands : {text : Bytes} {r : Rules} {c : Context} {p : ℕ} {x : KeyOf Assign} {q : ℕ} (t : Tells text r) → KeyAt text r c p x q
    → TokensAt text p (key_tokens x) q
key_stands t (KeyAt.id_name token h1) = kind_at h1
key_stands t (KeyAt.string token h1) = kind_at h1
key_stands t (KeyAt.number token h1) = kind_at h1
key_stands t (KeyAt.computed left x right h1 h2 h3) = mark_at h1 ▹ t.assign _ _ _ _ h2 ▹ mark_at h3

pub element_key_stands : {text : Bytes} {r : Rules} {c : Context} {p : ℕ} {x : KeyOf Assign} {q : ℕ} (t : Tells text r) → ElementKeyAt text r c p x q
    → TokensAt text p (key_tokens x) q
element_key_stands t (ElementKeyAt.public x h1) = key_stands t h1
element_key_stands t (ElementKeyAt.private token h1) = kind_at h1

pub property_key_stands : {text : Bytes} {r : Rules} {c : Context} {p : ℕ} {x : PropertyKey Assign} {q : ℕ} (t : Tells text r)
    → PropertyKeyAt text r c p x q → TokensAt text p (property_key_tokens assign_tokens x) q
property_key_stands t (PropertyKeyAt.property x colon h1 h2) = key_stands t h1 ▹ mark_at h2

pub bind_property_stands : {text : Bytes} {r : Rules} {c : Context} {p : ℕ} {x : BindProperty} {q : ℕ} (t : Tells text r)
    → BindPropertyAt text r c p x q → TokensAt text p (bind_property_tokens x) q
bind_property_stands t (BindPropertyAt.keyed k x h1 h2) =
    over (bind_property_rolled (record { key = Some k; decl = x })) (property_key_stands t h1 ▹ part_stands t h2)
bind_property_stands t (BindPropertyAt.name token h1) =
    over (bind_property_rolled (record { key = None; decl = roll-Decl (record { bind = bind.Name token; initial = None }) })) (over (decl_rolled
    (record { bind = bind.Name token; initial = None })) (over (bind-Name token) (name_at h1)
    ▹ nothing))
bind_property_stands t (BindPropertyAt.initialised token i h1 h2) =
    over (bind_property_rolled (record { key = None; decl = roll-Decl (record { bind = bind.Name token; initial = Some i }) })) (over (decl_rolled
    (record { bind = bind.Name token; initial = Some i })) (over (bind-Name token) (name_at h1)
    ▹ initializer_stands t h2))

pub name_bind_stands : {text : Bytes} {c : Context} {p : ℕ} {x : Bind} {q : ℕ} → NameBindAt text c p x q → TokensAt text p (bind_tokens x) q
name_bind_stands (NameBindAt.name token h1) = over (bind-Name token) (name_at h1)

pub bind_pattern_stands : {text : Bytes} {r : Rules} {c : Context} {p : ℕ} {x : Bind} {q : ℕ} (t : Tells text r) → BindPatternAt text r c p x q
    → TokensAt text p (bind_tokens x) q
bind_pattern_stands t (BindPatternAt.array left xs right h1 h2 h3) =
    over (bind-Array left xs None right) (mark_at h1 ▹ elements_stand decl_tokens h2 (λ p x q h. part_stands t h) ▹ nothing ▹ mark_at h3)
bind_pattern_stands t (BindPatternAt.array_rest left xs x right h1 h2 h3 h4) =
    over (bind-Array left xs (Some x) right) (mark_at h1 ▹ each_element_stands decl_tokens h2 (λ p x q h. part_stands t h)
    ▹ rest_stands bind_tokens h3 (λ p x q h. bind_stands t h) ▹ mark_at h4)
bind_pattern_stands t (BindPatternAt.object left xs right h1 h2 h3) =
    over (bind-Object left xs None right) (mark_at h1 ▹ list_stands bind_property_tokens h2 (λ p x q h. bind_property_stands t h) ▹ nothing
    ▹ mark_at h3)
bind_pattern_stands t (BindPatternAt.object_rest left xs x right h1 h2 h3 h4) =
    over (bind-Object left xs (Some x) right) (mark_at h1 ▹ each_stands bind_property_tokens h2 (λ p x q h. bind_property_stands t h)
    ▹ rest_stands bind_tokens h3 (λ p x q h. name_bind_stands h) ▹ mark_at h4)

pub params_stands : {text : Bytes} {r : Rules} {c : Context} {p : ℕ} {x : Params} {q : ℕ} (t : Tells text r) → ParamsAt text r c p x q
    → TokensAt text p (params_tokens x) q
params_stands t (ParamsAt.list xs h1) =
    over (params_rolled (record { list = xs; rest = None })) (list_stands decl_tokens h1 (λ p x q h. part_stands t h) ▹ nothing)
params_stands t (ParamsAt.with_rest xs x h1 h2) =
    over (params_rolled (record { list = xs; rest = Some x })) (each_stands decl_tokens h1 (λ p x q h. part_stands t h)
    ▹ rest_stands bind_tokens h2 (λ p x q h. bind_stands t h))

pub closed_item_stands : {text : Bytes} {r : Rules} {c : Context} {p : ℕ} {x : Item} {q : ℕ} (t : Tells text r) → ClosedItemAt text r c p x q
    → TokensAt text p (item_tokens x) q
closed_item_stands t (ClosedItemAt.closed x h1 h2) = t.item _ _ _ _ h1

pub body_stands : {text : Bytes} {r : Rules} {c : Context} {p : ℕ} {x : Body Item} {q : ℕ} (t : Tells text r) → BodyAt text r c p x q
    → TokensAt text p (body_tokens item_tokens x) q
body_stands t (BodyAt.body left xs right h1 h2 h3) = mark_at h1 ▹ chain_stands item_tokens h2 (λ p x q h. closed_item_stands t h) ▹ mark_at h3

pub async_stands : {text : Bytes} {p : ℕ} {x : Option Token} {b : Bool} {q : ℕ} → AsyncAt text p x b q → TokensAt text p (opt one x) q
async_stands AsyncAt.none = nothing
async_stands (AsyncAt.word token next h1 h2 h3) = word_at h1

pub star_stands : {text : Bytes} {p : ℕ} {x : Option Token} {b : Bool} {q : ℕ} → StarAt text p x b q → TokensAt text p (opt one x) q
star_stands StarAt.none = nothing
star_stands (StarAt.star token h1) = mark_at h1

pub optional_name_stands : {text : Bytes} {c : Context} {p : ℕ} {x : Option Token} {q : ℕ} → OptionalNameAt text c p x q
    → TokensAt text p (opt one x) q
optional_name_stands OptionalNameAt.none = nothing
optional_name_stands (OptionalNameAt.name token h1) = name_at h1

pub func_stands : {text : Bytes} {r : Rules} {c : Context} {named : Bool} {p : ℕ} {x : Func} {q : ℕ} (t : Tells text r) → FuncAt text r c named p x q
    → TokensAt text p (func_tokens x) q
func_stands t (FuncAt.func async word star name left params right body h1 h2 h3 h4 h5 h6 h7 h8 h9) =
    over (func_rolled (record { is_async = async; word = word; star = star; name = name; left = left; params = params; right = right; body = body }))
    (async_stands h1
    ▹ word_at h2 ▹ star_stands h3 ▹ optional_name_stands h4 ▹ mark_at h6 ▹ params_stands t h7 ▹ mark_at h8 ▹ body_stands t h9)

pub method_stands : {text : Bytes} {r : Rules} {c : Context} {a_key : ℕ → KeyOf Assign → ℕ → Type 0} {p : ℕ} {x : Method} {q : ℕ} (t : Tells text r)
    → MethodAt text r c a_key p x q → Stands text key_tokens a_key → TokensAt text p (method_tokens x) q
method_stands t (MethodAt.method async star x left params right body h1 h2 h3 h4 h5 h6 h7) part =
    over (method-Method async star x left params right body) (async_stands h1 ▹ star_stands h2 ▹ part _ _ _ h3 ▹ mark_at h4 ▹ params_stands t h5
    ▹ mark_at h6 ▹ body_stands t h7)
method_stands t (MethodAt.get word x left right body h1 h2 h3 h4 h5) part =
    over (method-Get word x left right body) (word_at h1 ▹ part _ _ _ h2 ▹ mark_at h3 ▹ mark_at h4 ▹ body_stands t h5)
method_stands t (MethodAt.set word x left parameter right body h1 h2 h3 h4 h5 h6) part =
    over (method-Set word x left parameter right body) (word_at h1 ▹ part _ _ _ h2 ▹ mark_at h3 ▹ part_stands t h4 ▹ mark_at h5 ▹ body_stands t h6)

pub arrow_params_stands : {text : Bytes} {r : Rules} {c : Context} {p : ℕ} {x : ArrowParams Params} {q : ℕ} (t : Tells text r)
    → ArrowParamsAt text r c p x q → TokensAt text p (arrow_params_tokens params_tokens x) q
arrow_params_stands t (ArrowParamsAt.name token h1) = name_at h1
arrow_params_stands t (ArrowParamsAt.list left params right h1 h2 h3) = mark_at h1 ▹ params_stands t h2 ▹ mark_at h3

pub arrow_stands : {text : Bytes} {r : Rules} {c : Context} {p : ℕ} {x : Arrow} {s : Stop} (t : Tells text r) → ArrowAt text r c p x s
    → TokensAt text p (arrow_tokens x) s.at
arrow_stands t (ArrowAt.block async params mark body h1 h2 h3 h4 h5) =
    over (arrow-Block async params mark body) (async_stands h1 ▹ arrow_params_stands t h2 ▹ mark_at h3 ▹ body_stands t h5)
arrow_stands t (ArrowAt.concise async params mark x h1 h2 h3 h4 h5 h6) =
    over (arrow-Concise async params mark x) (async_stands h1 ▹ arrow_params_stands t h2 ▹ mark_at h3 ▹ t.assign _ _ _ _ h6)

pub static_stands : {text : Bytes} {p : ℕ} {x : Option Token} {q : ℕ} → StaticAt text p x q → TokensAt text p (opt one x) q
static_stands StaticAt.none = nothing
static_stands (StaticAt.word token h1) = word_at h1

pub element_stands : {text : Bytes} {r : Rules} {c : Context} {p : ℕ} {x : Element} {q : ℕ} (t : Tells text r) → ElementAt text r c p x q
    → TokensAt text p (element_tokens x) q
element_stands t (ElementAt.empty token h1) = over (element-Empty token) (mark_at h1)
element_stands t (ElementAt.method word x h1 h2) =
    over (element-Method word x) (static_stands h1 ▹ method_stands t h2 (λ p x q h. element_key_stands t h))
element_stands t (ElementAt.field word x semi h1 h2 h3) =
    over (element-Field word x None semi) (static_stands h1 ▹ element_key_stands t h2 ▹ nothing ▹ semi_stands h3)
element_stands t (ElementAt.initialised word x i semi h1 h2 h3 h4) =
    over (element-Field word x (Some i) semi) (static_stands h1 ▹ element_key_stands t h2 ▹ initializer_stands t h3 ▹ semi_stands h4)
element_stands t (ElementAt.block word body h1 h2) = over (element-Static word body) (word_at h1 ▹ body_stands t h2)

pub heritage_stands : {text : Bytes} {r : Rules} {c : Context} {p : ℕ} {x : Option (Extends LHS)} {q : ℕ} (t : Tells text r)
    → HeritageAt text r c p x q → TokensAt text p (opt (extends_tokens lhs_tokens) x) q
heritage_stands t HeritageAt.none = nothing
heritage_stands t (HeritageAt.extended word x h1 h2) = word_at h1 ▹ t.extended _ _ _ _ h2

pub class_stands : {text : Bytes} {r : Rules} {c : Context} {named : Bool} {p : ℕ} {x : Class} {q : ℕ} (t : Tells text r)
    → ClassAt text r c named p x q → TokensAt text p (class_tokens x) q
class_stands t (ClassAt.class word name heritage left xs right h1 h2 h3 h4 h5 h6 h7) =
    over (class_rolled (record { word = word; name = name; extends = heritage; left = left; elements = xs; right = right })) (word_at h1
    ▹ optional_name_stands h2 ▹ heritage_stands t h4 ▹ mark_at h5 ▹ chain_stands element_tokens h6 (λ p x q h. element_stands t h) ▹ mark_at h7)
