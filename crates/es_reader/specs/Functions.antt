-- Bindings, parameters, functions, methods and classes.
use Rattle.es_reader.specs.declared.pieces.CallableOf.{CallableOf}
use Rattle.std.specs.Prelude.{ℕ, Bool, true, false, not, ◌&&◌, ◌||◌, List, [], ◌∷◌, Option, Some, None, is_some, codes, if◌then◌else◌}
use Rattle.es_tree.specs.declared.tokens.Token.{Token}
use Rattle.es_tree.specs.declared.tokens.TokenKind.{TokenKind}
use Rattle.es_tree.specs.declared.tokens.TokenKind.TheVariants as kind
use Rattle.es_tree.specs.declared.tokens.Goal.TheVariants.{Operand, Operator}
use Rattle.es_tree.specs.declared.parts.Separated.{Separated}
use Rattle.es_tree.specs.declared.parts.Initializer.{Initializer}
use Rattle.es_tree.specs.declared.parts.Extends.{Extends}
use Rattle.es_tree.specs.declared.parts.Body.{Body}
use Rattle.es_tree.specs.declared.parts.KeyOf.{KeyOf}
use Rattle.es_tree.specs.declared.parts.KeyOf.TheVariants as key
use Rattle.es_tree.specs.declared.parts.PropertyKey.{PropertyKey}
use Rattle.es_tree.specs.declared.cycle.Item.{Item}
use Rattle.es_tree.specs.declared.cycle.Assign.{Assign}
use Rattle.es_tree.specs.declared.cycle.Bind.{Bind}
use Rattle.es_tree.specs.declared.cycle.Bind.TheVariants as bind_v
use Rattle.es_tree.specs.declared.cycle.BindProperty.{BindProperty, roll-BindProperty}
use Rattle.es_tree.specs.declared.cycle.Decl.{Decl, roll-Decl}
use Rattle.es_tree.specs.declared.cycle.Params.{Params, roll-Params}
use Rattle.es_tree.specs.declared.cycle.Func.{Func, roll-Func}
use Rattle.es_tree.specs.declared.cycle.Method.{Method}
use Rattle.es_tree.specs.declared.cycle.Method.TheVariants as method_v
use Rattle.es_tree.specs.declared.cycle.Element.{Element}
use Rattle.es_tree.specs.declared.cycle.Element.TheVariants as element_v
use Rattle.es_tree.specs.declared.cycle.Class.{Class, roll-Class}
use Rattle.es_tree.specs.declared.cycle.LHS.{LHS}
use Rattle.es_grammar.specs.declared.places.Context.{Context}
use Rattle.es_grammar.specs.declared.places.Stop.{Stop}
use Rattle.es_grammar.specs.Contexts.{bracketed, in_function, in_class}
use Rattle.es_grammar.specs.Reading.{Bytes}
use Rattle.es_grammar.specs.Semicolons.{stop, declared_name}
use Rattle.es_grammar.specs.Functions.{ending_of_key}
use Rattle.es_reader.specs.Basics.{◌>>=◌, Reader, Ended, token, is_mark, is_one_mark, is_word, is_one_word, is_name, mark, word, name}
use Rattle.es_reader.specs.Loops.{all_turns}
use Rattle.es_reader.specs.Lists.{chain_turn, list_turn, elements_turn, ends_with_comma, rest_behind}
use Rattle.es_reader.specs.Readers.{Readers}
use Rattle.es_reader.specs.Semis.{holds, read_semi}

-- `=` that was seen, and Assign
unfoldable pub initializer_behind : Bytes → Readers → Context → Token → Option (Initializer Assign × Stop)
initializer_behind text r c equals = r.assign c equals.end >>= λ x. Some (record { equals = equals; value = x.0 }, x.1)

-- `=` Assign
unfoldable pub read_initializer : Bytes → Readers → Context → Ended (Initializer Assign)
read_initializer text r c p = mark text Operator (codes "=") p >>= initializer_behind text r c

-- Bind: Name | a pattern
unfoldable pub read_bind : Bytes → Readers → Context → Reader Bind
read_bind text r c p = token text Operand p >>= λ t. if is_name text c t then Some (bind_v.Name t, t.end) else r.bind_pattern c p

abbrev pub decl : Bind → Option (Initializer Assign) → Decl
decl x initial = roll-Decl (record { bind = x; initial = initial })

unfoldable pub decl_initialised : Bytes → Readers → Context → Bind → Token → Option (Decl × Stop)
decl_initialised text r c x equals = initializer_behind text r c equals >>= λ i. Some (decl x (Some i.0), i.1)

-- what may stand behind a Bind
unfoldable pub decl_behind : Bytes → Readers → Context → Bind → Ended Decl
decl_behind text r c x p = token text Operator p >>= λ t.
    if is_mark text (codes "=") t then decl_initialised text r c x t else Some (decl x None, stop p declared_name)

-- Decl: Bind (`=` Assign)?
unfoldable pub read_decl : Bytes → Readers → Context → Ended Decl
read_decl text r c p = read_bind text r c p >>= λ x. decl_behind text r c x.0 x.1

-- the same as a parameter or as an element of a pattern
unfoldable pub read_part : Bytes → Readers → Context → Reader Decl
read_part text r c p = read_decl text r (bracketed c) p >>= λ x. Some (x.0, x.1.at)

unfoldable pub read_computed_key : Bytes → Readers → Context → Token → Option (KeyOf Assign × ℕ)
read_computed_key text r c left = r.assign (bracketed c) left.end >>= λ x. mark text Operator (codes "]") x.1.at >>= λ right.
    Some (key.Computed left x.0 right, right.end)

abbrev pub read_key_by : Bytes → Readers → Context → Token → TokenKind → Option (KeyOf Assign × ℕ)
read_key_by text r c t kind.IdName = Some (key.IdName t, t.end)
read_key_by text r c t kind.String = Some (key.String t, t.end)
read_key_by text r c t kind.Number = Some (key.Number t, t.end)
read_key_by text r c t kind.Punctuator = if is_mark text (codes "[") t then read_computed_key text r c t else None
read_key_by text r c t _ = None

-- Key: IdName | String | Number | `[` Assign `]`
unfoldable pub read_key : Bytes → Readers → Context → Reader (KeyOf Assign)
read_key text r c p = token text Operand p >>= λ t. read_key_by text r c t t.kind

abbrev pub read_element_key_by : Bytes → Readers → Context → Token → TokenKind → Option (KeyOf Assign × ℕ)
read_element_key_by text r c t kind.Private = Some (key.Private t, t.end)
read_element_key_by text r c t k = read_key_by text r c t k

-- in a class it may be private
unfoldable pub read_element_key : Bytes → Readers → Context → Reader (KeyOf Assign)
read_element_key text r c p = token text Operand p >>= λ t. read_element_key_by text r c t t.kind

unfoldable pub read_property_key : Bytes → Readers → Context → Reader (PropertyKey Assign)
read_property_key text r c p = read_key text r c p >>= λ k. mark text Operator (codes ":") k.1 >>= λ colon.
    Some (record { key = k.0; colon = colon }, colon.end)

abbrev pub bind_property : Option (PropertyKey Assign) → Decl → BindProperty
bind_property k x = roll-BindProperty (record { key = k; decl = x })

-- what a key and its colon name
unfoldable pub property_behind : Bytes → Readers → Context → PropertyKey Assign → Reader BindProperty
property_behind text r c k p = read_part text r c p >>= λ x. Some (bind_property (Some k) x.0, x.1)

unfoldable pub keyed_property : Bytes → Readers → Context → Reader BindProperty
keyed_property text r c p = read_property_key text r c p >>= λ k. property_behind text r c k.0 k.1

unfoldable pub property_initialised : Bytes → Readers → Context → Token → Token → Option (BindProperty × ℕ)
property_initialised text r c t equals = initializer_behind text r (bracketed c) equals >>= λ i.
    Some (bind_property None (decl (bind_v.Name t) (Some i.0)), i.1.at)

unfoldable pub property_by : Bytes → Readers → Context → Token → Token → Option (BindProperty × ℕ)
property_by text r c t u =
    if is_mark text (codes ":") u then property_behind text r c (record { key = key.IdName t; colon = u }) u.end
    else (if is_mark text (codes "=") u then property_initialised text r c t u else Some (bind_property None (decl (bind_v.Name t) None), t.end))

-- a Name, by the token behind it
unfoldable pub named_property : Bytes → Readers → Context → Token → Option (BindProperty × ℕ)
named_property text r c t = token text Operator t.end >>= property_by text r c t

-- a property of an object pattern
unfoldable pub read_bind_property : Bytes → Readers → Context → Reader BindProperty
read_bind_property text r c p = token text Operand p >>= λ t. if is_name text c t then named_property text r c t else keyed_property text r c p

unfoldable pub read_name_bind : Bytes → Context → Reader Bind
read_name_bind text c p = name text Operand c p >>= λ t. Some (bind_v.Name t, t.end)

-- the parts of a pattern or of parameters end before this mark, and before `...`
abbrev pub ends_parts : Bytes → List ℕ → Token → Bool
ends_parts text closing t = is_one_mark text (closing ∷ codes "..." ∷ []) t

-- `...`, where a part may follow
abbrev pub is_rest : {X : Type 0} → Bytes → List (Separated X) → Token → Bool
is_rest text xs t = is_mark text (codes "...") t && ends_with_comma xs

abbrev pub Elements : Type 0
Elements = List (Separated (Option Decl))

unfoldable pub array_with_rest : Bytes → Readers → Context → Token → Elements → Token → Option (Bind × ℕ)
array_with_rest text r c left xs dots = rest_behind (read_bind text r c) dots >>= λ x. mark text Operator (codes "]") x.1 >>= λ right.
    Some (bind_v.Array left xs (Some x.0) right, right.end)

unfoldable pub array_without_rest : Bytes → Token → Elements → ℕ → Option (Bind × ℕ)
array_without_rest text left xs p = mark text Operator (codes "]") p >>= λ right. Some (bind_v.Array left xs None right, right.end)

unfoldable pub array_behind : Bytes → Readers → Context → Token → Elements → ℕ → Option (Bind × ℕ)
array_behind text r c left xs p = token text Operand p >>= λ t.
    if is_rest text xs t then array_with_rest text r c left xs t else array_without_rest text left xs p

unfoldable pub read_array_bind : Bytes → Readers → Context → Token → Option (Bind × ℕ)
read_array_bind text r c left = all_turns text (elements_turn text (ends_parts text (codes "]")) (read_part text r c)) left.end >>= λ xs.
    array_behind text r c left xs.0 xs.1

abbrev pub Properties : Type 0
Properties = List (Separated BindProperty)

unfoldable pub object_with_rest : Bytes → Context → Token → Properties → Token → Option (Bind × ℕ)
object_with_rest text c left xs dots = rest_behind (read_name_bind text c) dots >>= λ x. mark text Operator (codes "}") x.1 >>= λ right.
    Some (bind_v.Object left xs (Some x.0) right, right.end)

unfoldable pub object_without_rest : Bytes → Token → Properties → ℕ → Option (Bind × ℕ)
object_without_rest text left xs p = mark text Operator (codes "}") p >>= λ right. Some (bind_v.Object left xs None right, right.end)

unfoldable pub object_behind : Bytes → Context → Token → Properties → ℕ → Option (Bind × ℕ)
object_behind text c left xs p = token text Operand p >>= λ t.
    if is_rest text xs t then object_with_rest text c left xs t else object_without_rest text left xs p

unfoldable pub read_object_bind : Bytes → Readers → Context → Token → Option (Bind × ℕ)
read_object_bind text r c left = all_turns text (list_turn text (ends_parts text (codes "}")) (read_bind_property text r c)) left.end >>= λ xs.
    object_behind text c left xs.0 xs.1

-- a pattern of Binds
unfoldable pub read_bind_pattern : Bytes → Readers → Context → Reader Bind
read_bind_pattern text r c p = token text Operand p >>= λ t.
    if is_mark text (codes "[") t then read_array_bind text r c t
    else (if is_mark text (codes "{") t then read_object_bind text r c t else None)

unfoldable pub params_with_rest : Bytes → Readers → Context → List (Separated Decl) → Token → Option (Params × ℕ)
params_with_rest text r c xs dots = rest_behind (read_bind text r c) dots >>= λ x. Some (roll-Params (record { list = xs; rest = Some x.0 }), x.1)

unfoldable pub params_behind : Bytes → Readers → Context → List (Separated Decl) → Reader Params
params_behind text r c xs p = token text Operand p >>= λ t.
    if is_rest text xs t then params_with_rest text r c xs t else Some (roll-Params (record { list = xs; rest = None }), p)

-- Params, which `)` ends
unfoldable pub read_params : Bytes → Readers → Context → Reader Params
read_params text r c p = all_turns text (list_turn text (ends_parts text (codes ")")) (read_part text r c)) p >>= λ xs.
    params_behind text r c xs.0 xs.1

unfoldable pub belonging_words : List (List ℕ)
belonging_words = codes "else" ∷ codes "catch" ∷ codes "finally" ∷ []

-- a token behind an item that would belong to it
unfoldable pub belongs : Bytes → Token → Bool
belongs text t = is_one_word text belonging_words t || is_mark text (codes ":") t

-- an item behind which nothing belongs to it
unfoldable pub read_closed_item : Bytes → Readers → Context → Reader Item
read_closed_item text r c p = r.item c p >>= λ x. if holds (belongs text) (token text Operand x.1) then None else Some x

unfoldable pub body_behind : Bytes → Readers → Context → Token → Option (Body Item × ℕ)
body_behind text r c left = all_turns text (chain_turn text (is_mark text (codes "}")) (read_closed_item text r c)) left.end >>= λ xs.
    mark text Operand (codes "}") xs.1 >>= λ right. Some (record { left = left; items = xs.0; right = right }, right.end)

-- `{` Item* `}`
unfoldable pub read_body : Bytes → Readers → Context → Reader (Body Item)
read_body text r c p = mark text Operand (codes "{") p >>= body_behind text r c

-- `(` Params `)` and a body
abbrev pub Callable : Type 0
Callable = CallableOf Params (Body Item)

unfoldable pub read_callable : Bytes → Readers → Context → Reader Callable
read_callable text r c p = mark text Operator (codes "(") p >>= λ left. read_params text r c left.end >>= λ params.
    mark text Operator (codes ")") params.1 >>= λ right. read_body text r c right.end >>= λ body.
    Some (record { left = left; params = params.0; right = right; body = body.0 }, body.1)

-- `*`, if it is there
unfoldable pub read_star : Bytes → Reader (Option Token)
read_star text p = token text Operator p >>= λ t. if is_mark text (codes "*") t then Some (Some t, t.end) else Some (None, p)

unfoldable pub read_optional_name : Bytes → Context → Reader (Option Token)
read_optional_name text c p = token text Operand p >>= λ t. if is_name text c t then Some (Some t, t.end) else Some (None, p)

-- the name is there, where it has to be
abbrev pub fits_name : Bool → Option Token → Bool
fits_name named n = not named || is_some n

abbrev pub func : Option Token → Token → Option Token → Option Token → Callable → Func
func async function star n x = roll-Func (record {
  is_async = async;
  word = function;
  star = star;
  name = n;
  left = x.left;
  params = x.params;
  right = x.right;
  body = x.body;
})

unfoldable pub func_called : Bytes → Readers → Context → Option Token → Token → Option Token → Option Token → Reader Func
func_called text r c async function star n p = read_callable text r (in_function (is_some async) (is_some star) c) p >>= λ x.
    Some (func async function star n x.0, x.1)

unfoldable pub func_behind : Bytes → Readers → Context → Bool → Option Token → Token → Option (Func × ℕ)
func_behind text r c named async function = read_star text function.end >>= λ s. read_optional_name text c s.1 >>= λ n.
    if fits_name named n.0 then func_called text r c async function s.0 n.0 n.1 else None

-- `function` on the line of `async`
abbrev pub is_function_on_line : Bytes → Token → Bool
is_function_on_line text t = is_word text (codes "function") t && not t.newline

-- `async ~ function`, whose first word was seen
unfoldable pub begins_async_function : Bytes → Token → Bool
begins_async_function text t = is_word text (codes "async") t && holds (is_function_on_line text) (token text Operand t.end)

unfoldable pub async_func_behind : Bytes → Readers → Context → Bool → Token → Option (Func × ℕ)
async_func_behind text r c named async = token text Operand async.end >>= λ t.
    if is_function_on_line text t then func_behind text r c named (Some async) t else None

-- Func, whose name may be left out where `named` doesn't hold
unfoldable pub read_func : Bytes → Readers → Context → Bool → Reader Func
read_func text r c named p = token text Operand p >>= λ t.
    if is_word text (codes "async") t then async_func_behind text r c named t
    else (if is_word text (codes "function") t then func_behind text r c named None t else None)

-- a token that begins a Key, one of a class
abbrev pub begins_key_by : Bytes → Token → TokenKind → Bool
begins_key_by text t kind.IdName = true
begins_key_by text t kind.Private = true
begins_key_by text t kind.Number = true
begins_key_by text t kind.String = true
begins_key_by text t kind.Punctuator = is_mark text (codes "[") t
begins_key_by text t _ = false

unfoldable pub begins_key : Bytes → Token → Bool
begins_key text t = begins_key_by text t t.kind

-- the same, or `*`
unfoldable pub begins_starred_key : Bytes → Token → Bool
begins_starred_key text t = is_mark text (codes "*") t || begins_key text t

abbrev pub begins_async_key : Bytes → Token → Bool
begins_async_key text t = not t.newline && begins_starred_key text t

-- `get` or `set` before a key
unfoldable pub begins_accessor : Bytes → List ℕ → Token → Bool
begins_accessor text accessor t = is_word text accessor t && holds (begins_key text) (token text Operand t.end)

-- `async` before a method on its line
unfoldable pub begins_async_method : Bytes → Token → Bool
begins_async_method text t = is_word text (codes "async") t && holds (begins_async_key text) (token text Operand t.end)

-- a Method that doesn't begin with its Key
unfoldable pub begins_method : Bytes → Token → Bool
begins_method text t = is_mark text (codes "*") t || begins_accessor text (codes "get") t || begins_accessor text (codes "set") t
    || begins_async_method text t

-- a Method from behind its Key on
unfoldable pub method_behind : Bytes → Readers → Context → Option Token → Option Token → KeyOf Assign → Reader Method
method_behind text r c async star k p = read_callable text r (in_function (is_some async) (is_some star) c) p >>= λ x.
    Some (method_v.Method async star k x.0.left x.0.params x.0.right x.0.body, x.1)

unfoldable pub read_starred_method : Bytes → Readers → Context → Reader (KeyOf Assign) → Option Token → Reader Method
read_starred_method text r c a_key async p = read_star text p >>= λ s. a_key s.1 >>= λ k. method_behind text r c async s.0 k.0 k.1

unfoldable pub read_getter : Bytes → Readers → Context → Reader (KeyOf Assign) → Token → Option (Method × ℕ)
read_getter text r c a_key get = a_key get.end >>= λ k. mark text Operator (codes "(") k.1 >>= λ left. mark text Operand (codes ")") left.end >>= λ right.
    read_body text r (in_function false false c) right.end >>= λ body. Some (method_v.Get get k.0 left right body.0, body.1)

unfoldable pub read_setter : Bytes → Readers → Context → Reader (KeyOf Assign) → Token → Option (Method × ℕ)
read_setter text r c a_key set = a_key set.end >>= λ k. mark text Operator (codes "(") k.1 >>= λ left.
    read_part text r (in_function false false c) left.end >>= λ x. mark text Operator (codes ")") x.1 >>= λ right.
    read_body text r (in_function false false c) right.end >>= λ body. Some (method_v.Set set k.0 left x.0 right body.0, body.1)

-- Method, with keys of a class or of an object
unfoldable pub read_method : Bytes → Readers → Context → Reader (KeyOf Assign) → Reader Method
read_method text r c a_key p = token text Operand p >>= λ t.
    if begins_accessor text (codes "get") t then read_getter text r c a_key t
    else (if begins_accessor text (codes "set") t then read_setter text r c a_key t
    else (if begins_async_method text t then read_starred_method text r c a_key (Some t) t.end else read_starred_method text r c a_key None p))

unfoldable pub method_element : Bytes → Readers → Context → Option Token → Reader Element
method_element text r c static p = read_method text r c (read_element_key text r c) p >>= λ x. Some (element_v.Method static x.0, x.1)

unfoldable pub plain_method_element : Bytes → Readers → Context → Option Token → KeyOf Assign → Reader Element
plain_method_element text r c static k p = method_behind text r c None None k p >>= λ x. Some (element_v.Method static x.0, x.1)

unfoldable pub field_initialised : Bytes → Readers → Context → Option Token → KeyOf Assign → Token → Option (Element × ℕ)
field_initialised text r c static k equals = initializer_behind text r (in_class c) equals >>= λ i. read_semi text i.1 >>= λ s.
    Some (element_v.Field static k (Some i.0) s.0, s.1)

unfoldable pub plain_field : Bytes → Option Token → KeyOf Assign → Reader Element
plain_field text static k p = read_semi text (stop p (ending_of_key text k)) >>= λ s. Some (element_v.Field static k None s.0, s.1)

unfoldable pub element_by : Bytes → Readers → Context → Option Token → KeyOf Assign → ℕ → Token → Option (Element × ℕ)
element_by text r c static k p t =
    if is_mark text (codes "(") t then plain_method_element text r c static k p
    else (if is_mark text (codes "=") t then field_initialised text r c static k t else plain_field text static k p)

-- a method or a field that begins with its key
unfoldable pub keyed_element : Bytes → Readers → Context → Option Token → Reader Element
keyed_element text r c static p = read_element_key text r c p >>= λ k. token text Operator k.1 >>= element_by text r c static k.0 k.1

unfoldable pub element_behind : Bytes → Readers → Context → Option Token → ℕ → Token → Option (Element × ℕ)
element_behind text r c static p t = if begins_method text t then method_element text r c static p else keyed_element text r c static p

unfoldable pub static_block : Bytes → Readers → Context → Token → Option (Element × ℕ)
static_block text r c static = read_body text r (in_class c) static.end >>= λ x. Some (element_v.Static static x.0, x.1)

unfoldable pub static_by : Bytes → Readers → Context → Token → ℕ → Token → Option (Element × ℕ)
static_by text r c t p u =
    if is_mark text (codes "{") u then static_block text r c t
    else (if begins_starred_key text u then element_behind text r c (Some t) t.end u else keyed_element text r c None p)

-- `static`, which may be a key
unfoldable pub static_element : Bytes → Readers → Context → Token → ℕ → Option (Element × ℕ)
static_element text r c t p = token text Operand t.end >>= static_by text r c t p

-- Element of a class
unfoldable pub read_element : Bytes → Readers → Context → Reader Element
read_element text r c p = token text Operand p >>= λ t.
    if is_mark text (codes ";") t then Some (element_v.Empty t, t.end)
    else (if is_word text (codes "static") t then static_element text r c t p else element_behind text r c None p t)

unfoldable pub heritage_behind : Readers → Context → Token → Option (Option (Extends LHS) × ℕ)
heritage_behind r c t = r.extended c t.end >>= λ x. Some (Some (record { word = t; lhs = x.0 }), x.1)

unfoldable pub read_heritage : Bytes → Readers → Context → Reader (Option (Extends LHS))
read_heritage text r c p = token text Operand p >>= λ t. if is_word text (codes "extends") t then heritage_behind r c t else Some (None, p)

unfoldable pub class_named : Bytes → Readers → Context → Token → Option Token → Reader Class
class_named text r c word n p = read_heritage text r c p >>= λ h. mark text Operator (codes "{") h.1 >>= λ left.
    all_turns text (chain_turn text (is_mark text (codes "}")) (read_element text r c)) left.end >>= λ xs.
    mark text Operand (codes "}") xs.1 >>= λ right.
    Some (roll-Class (record { word = word; name = n; extends = h.0; left = left; elements = xs.0; right = right }), right.end)

-- Class, whose name may be left out where `named` doesn't hold
unfoldable pub read_class : Bytes → Readers → Context → Bool → Reader Class
read_class text r c named p = word text Operand (codes "class") p >>= λ t. read_optional_name text c t.end >>= λ n.
    if fits_name named n.0 then class_named text r c t n.0 n.1 else None
