-- Bindings, parameters, functions, methods and classes.
use Rattle.std.specs.Prelude.{ℕ, Bool, true, false, ◌&&◌, List, codes, Option, Some, None, is_some, if◌then◌else◌}
use Rattle.es_tree.specs.declared.tokens.Token.{Token}
use Rattle.es_tree.specs.declared.tokens.TokenKind.{TokenKind}
use Rattle.es_tree.specs.declared.tokens.TokenKind.TheVariants as kind
use Rattle.es_tree.specs.declared.tokens.Goal.TheVariants.{Operand, Operator}
use Rattle.es_tree.specs.declared.parts.KeyOf.TheVariants as key
use Rattle.es_grammar.specs.declared.places.Context.{Context}
use Rattle.es_grammar.specs.declared.places.Ending.{Ending}
use Rattle.es_grammar.specs.declared.places.Ending.TheVariants.{DeclaredName as declared_name, FieldKey as field_key}
use Rattle.es_grammar.specs.declared.places.Stop.{Stop}
use Rattle.es_grammar.specs.Contexts.{bracketed, in_function, in_class}
use Rattle.es_grammar.specs.Functions.{ending_of_key}
use Rattle.es_grammar.specs.Reading.{Bytes}
use Rattle.es_outline.specs.declared.mark.Mark.TheVariants.{Shorthand as shorthand}
use Rattle.es_outline.specs.declared.mark.Part.TheVariants as part
use Rattle.es_outline.specs.declared.mark.Role.TheVariants as is
use Rattle.es_outline.specs.Outline.{Marks, put, one, told, opt, named, semicolon, begin, end}
use Rattle.es_reader.specs.Basics.{◌>>=◌, token, is_mark, is_name, is_word, mark, name, word}
use Rattle.es_reader.specs.Semis.{holds, read_semi}
use Rattle.es_reader.specs.Functions.{begins_accessor, begins_async_method, begins_method, begins_starred_key, belongs, ends_parts, fits_name, is_function_on_line, read_optional_name, read_star}
use Rattle.es_trace.specs.Basics.{Traced, Tracer, Ended}
use Rattle.es_trace.specs.Loops.{all_turns}
use Rattle.es_trace.specs.Lists.{chain_turn, list_turn, elements_turn, rest_behind, first_at}
use Rattle.es_trace.specs.Tracers.{Tracers}
use Rattle.es_trace.specs.declared.pieces.Listed.{Listed}

-- `=` that was seen, and Assign
unfoldable pub initializer_behind : Tracers → Context → Marks → Token → Traced Stop
initializer_behind r c marks equals = r.assign c (told is.Initializes equals marks) equals.end

-- Bind: Name | a pattern
unfoldable pub trace_bind : Bytes → Tracers → Context → Tracer
trace_bind text r c marks p = token text Operand p >>= λ t.
    if is_name text c t then Some (told is.Bound t marks, t.end) else r.bind_pattern c marks p

abbrev pub stop : ℕ → Ending → Stop
stop p ending = record { at = p; ending = ending }

-- what may stand behind a Bind
unfoldable pub decl_behind : Bytes → Tracers → Context → Ended
decl_behind text r c marks p = token text Operator p >>= λ t.
    if is_mark text (codes "=") t then initializer_behind r c marks t else Some (marks, stop p declared_name)

-- Decl: Bind (`=` Assign)?
unfoldable pub trace_decl : Bytes → Tracers → Context → Ended
trace_decl text r c marks p = trace_bind text r c marks p >>= λ x. decl_behind text r c x.0 x.1

-- the same as a parameter or as an element of a pattern
unfoldable pub trace_part : Bytes → Tracers → Context → Tracer
trace_part text r c marks p = trace_decl text r (bracketed c) marks p >>= λ x. Some (x.0, x.1.at)

unfoldable pub trace_computed_key : Bytes → Tracers → Context → Marks → Token → Traced ℕ
trace_computed_key text r c marks left = r.assign (bracketed c) (one left marks) left.end >>= λ x.
    mark text Operator (codes "]") x.1.at >>= λ right. Some (one right x.0, right.end)

abbrev pub trace_key_by : Bytes → Tracers → Context → Marks → Token → TokenKind → Traced ℕ
trace_key_by text r c marks t kind.IdName = Some (one t marks, t.end)
trace_key_by text r c marks t kind.String = Some (one t marks, t.end)
trace_key_by text r c marks t kind.Number = Some (one t marks, t.end)
trace_key_by text r c marks t kind.Punctuator = if is_mark text (codes "[") t then trace_computed_key text r c marks t else None
trace_key_by text r c marks t _ = None

-- Key: IdName | String | Number | `[` Assign `]`
unfoldable pub trace_key : Bytes → Tracers → Context → Tracer
trace_key text r c marks p = token text Operand p >>= λ t. trace_key_by text r c marks t t.kind

abbrev pub trace_element_key_by : Bytes → Tracers → Context → Marks → Token → TokenKind → Traced ℕ
trace_element_key_by text r c marks t kind.Private = Some (one t marks, t.end)
trace_element_key_by text r c marks t k = trace_key_by text r c marks t k

-- in a class it may be private
unfoldable pub trace_element_key : Bytes → Tracers → Context → Tracer
trace_element_key text r c marks p = token text Operand p >>= λ t. trace_element_key_by text r c marks t t.kind

unfoldable pub trace_property_key : Bytes → Tracers → Context → Tracer
trace_property_key text r c marks p = trace_key text r c marks p >>= λ k. mark text Operator (codes ":") k.1 >>= λ colon.
    Some (one colon k.0, colon.end)

unfoldable pub keyed_property : Bytes → Tracers → Context → Tracer
keyed_property text r c marks p = trace_property_key text r c marks p >>= λ k. trace_part text r c k.0 k.1

-- a Name that is its own key
abbrev pub shorthand_name : Token → Marks → Marks
shorthand_name t marks = told is.Bound t (put shorthand marks)

unfoldable pub property_initialised : Tracers → Context → Marks → Token → Traced ℕ
property_initialised r c marks equals = initializer_behind r (bracketed c) marks equals >>= λ i. Some (i.0, i.1.at)

-- a Name is put once the token behind it tells whether it is a key
unfoldable pub property_by : Bytes → Tracers → Context → Marks → Token → Token → Traced ℕ
property_by text r c marks t u =
    if is_mark text (codes ":") u then trace_part text r c (one u (one t marks)) u.end
    else (if is_mark text (codes "=") u then property_initialised r c (shorthand_name t marks) u else Some (shorthand_name t marks, t.end))

-- a Name, by the token behind it
unfoldable pub named_property : Bytes → Tracers → Context → Marks → Token → Traced ℕ
named_property text r c marks t = token text Operator t.end >>= property_by text r c marks t

-- a property of an object pattern
unfoldable pub trace_bind_property : Bytes → Tracers → Context → Tracer
trace_bind_property text r c marks p = token text Operand p >>= λ t.
    if is_name text c t then named_property text r c marks t else keyed_property text r c marks p

unfoldable pub trace_name_bind : Bytes → Context → Tracer
trace_name_bind text c marks p = name text Operand c p >>= λ t. Some (told is.Bound t marks, t.end)

-- `...`, where a part may follow
abbrev pub is_rest : Bytes → Bool → Token → Bool
is_rest text ready t = is_mark text (codes "...") t && ready

-- the mark that closes a pattern
unfoldable pub pattern_end : Bytes → List ℕ → Tracer
pattern_end text closing marks p = mark text Operator closing p >>= λ right. Some (end part.Pattern (one right marks), right.end)

unfoldable pub array_with_rest : Bytes → Tracers → Context → Marks → Token → Traced ℕ
array_with_rest text r c marks dots = rest_behind (trace_bind text r c) marks dots >>= λ x. pattern_end text (codes "]") x.0 x.1

unfoldable pub array_behind : Bytes → Tracers → Context → Marks → Listed → Traced ℕ
array_behind text r c marks s = token text Operand s.at >>= λ t.
    if is_rest text s.ready t then array_with_rest text r c marks t else pattern_end text (codes "]") marks s.at

unfoldable pub trace_array_bind : Bytes → Tracers → Context → Marks → Token → Traced ℕ
trace_array_bind text r c marks left =
    all_turns text (elements_turn text (ends_parts text (codes "]")) (trace_part text r c)) (one left (begin part.Pattern marks)) (first_at left.end) >>= λ xs.
    array_behind text r c xs.0 xs.1

unfoldable pub object_with_rest : Bytes → Context → Marks → Token → Traced ℕ
object_with_rest text c marks dots = rest_behind (trace_name_bind text c) marks dots >>= λ x. pattern_end text (codes "}") x.0 x.1

unfoldable pub object_behind : Bytes → Context → Marks → Listed → Traced ℕ
object_behind text c marks s = token text Operand s.at >>= λ t.
    if is_rest text s.ready t then object_with_rest text c marks t else pattern_end text (codes "}") marks s.at

unfoldable pub trace_object_bind : Bytes → Tracers → Context → Marks → Token → Traced ℕ
trace_object_bind text r c marks left =
    all_turns text (list_turn text (ends_parts text (codes "}")) (trace_bind_property text r c)) (one left (begin part.Pattern marks)) (first_at left.end) >>= λ xs.
    object_behind text c xs.0 xs.1

-- a pattern of Binds
unfoldable pub trace_bind_pattern : Bytes → Tracers → Context → Tracer
trace_bind_pattern text r c marks p = token text Operand p >>= λ t.
    if is_mark text (codes "[") t then trace_array_bind text r c marks t
    else (if is_mark text (codes "{") t then trace_object_bind text r c marks t else None)

unfoldable pub params_behind : Bytes → Tracers → Context → Marks → Listed → Traced ℕ
params_behind text r c marks s = token text Operand s.at >>= λ t.
    if is_rest text s.ready t then rest_behind (trace_bind text r c) marks t else Some (marks, s.at)

-- Params, which `)` ends
unfoldable pub trace_params : Bytes → Tracers → Context → Tracer
trace_params text r c marks p = all_turns text (list_turn text (ends_parts text (codes ")")) (trace_part text r c)) marks (first_at p) >>= λ xs.
    params_behind text r c xs.0 xs.1

-- an item behind which nothing belongs to it
unfoldable pub trace_closed_item : Bytes → Tracers → Context → Tracer
trace_closed_item text r c marks p = r.item c marks p >>= λ x. if holds (belongs text) (token text Operand x.1) then None else Some x

unfoldable pub body_behind : Bytes → Tracers → Context → Marks → Token → Traced ℕ
body_behind text r c marks left =
    all_turns text (chain_turn text (is_mark text (codes "}")) (trace_closed_item text r c)) (one left marks) left.end >>= λ xs.
    mark text Operand (codes "}") xs.1 >>= λ right. Some (one right xs.0, right.end)

-- `{` Item* `}`
unfoldable pub trace_body : Bytes → Tracers → Context → Tracer
trace_body text r c marks p = mark text Operand (codes "{") p >>= body_behind text r c marks

-- the body of a function, with which the function ends
unfoldable pub function_body : Bytes → Tracers → Context → Tracer
function_body text r c marks p = trace_body text r c (begin part.FunctionBody marks) p >>= λ x.
    Some (end part.Function (end part.FunctionBody x.0), x.1)

-- `(` Params `)` and a body
unfoldable pub trace_callable : Bytes → Tracers → Context → Tracer
trace_callable text r c marks p = mark text Operator (codes "(") p >>= λ left.
    trace_params text r c (one left (begin part.Function marks)) left.end >>= λ params.
    mark text Operator (codes ")") params.1 >>= λ right. function_body text r c (one right params.0) right.end

unfoldable pub func_called : Bytes → Tracers → Context → Bool → Marks → Token → Option Token → Option Token → ℕ → Traced ℕ
func_called text r c is_async marks function star n p =
    trace_callable text r (in_function is_async (is_some star) c) (named is.FunctionName n (opt one star (one function marks))) p

-- from `function` on, whose name may be left out where it need not be named
unfoldable pub func_behind : Bytes → Tracers → Context → Bool → Bool → Marks → Token → Traced ℕ
func_behind text r c must is_async marks function = read_star text function.end >>= λ s. read_optional_name text c s.1 >>= λ n.
    if fits_name must n.0 then func_called text r c is_async marks function s.0 n.0 n.1 else None

unfoldable pub async_func_behind : Bytes → Tracers → Context → Bool → Marks → Token → Traced ℕ
async_func_behind text r c must marks async = token text Operand async.end >>= λ t.
    if is_function_on_line text t then func_behind text r c must true (one async marks) t else None

-- Func
unfoldable pub trace_func : Bytes → Tracers → Context → Bool → Tracer
trace_func text r c must marks p = token text Operand p >>= λ t.
    if is_word text (codes "async") t then async_func_behind text r c must marks t
    else (if is_word text (codes "function") t then func_behind text r c must false marks t else None)

-- a Method from behind its Key on
unfoldable pub method_behind : Bytes → Tracers → Context → Bool → Bool → Tracer
method_behind text r c is_async is_generator marks p = trace_callable text r (in_function is_async is_generator c) marks p

unfoldable pub trace_starred_method : Bytes → Tracers → Context → Tracer → Bool → Tracer
trace_starred_method text r c a_key is_async marks p = read_star text p >>= λ s. a_key (opt one s.0 marks) s.1 >>= λ k.
    method_behind text r c is_async (is_some s.0) k.0 k.1

unfoldable pub trace_getter : Bytes → Tracers → Context → Tracer → Marks → Token → Traced ℕ
trace_getter text r c a_key marks get = a_key (one get marks) get.end >>= λ k. mark text Operator (codes "(") k.1 >>= λ left.
    mark text Operand (codes ")") left.end >>= λ right.
    function_body text r (in_function false false c) (one right (one left (begin part.Function k.0))) right.end

unfoldable pub trace_setter : Bytes → Tracers → Context → Tracer → Marks → Token → Traced ℕ
trace_setter text r c a_key marks set = a_key (one set marks) set.end >>= λ k. mark text Operator (codes "(") k.1 >>= λ left.
    trace_part text r (in_function false false c) (one left (begin part.Function k.0)) left.end >>= λ x.
    mark text Operator (codes ")") x.1 >>= λ right. function_body text r (in_function false false c) (one right x.0) right.end

-- Method, with keys of a class or of an object
unfoldable pub trace_method : Bytes → Tracers → Context → Tracer → Tracer
trace_method text r c a_key marks p = token text Operand p >>= λ t.
    if begins_accessor text (codes "get") t then trace_getter text r c a_key marks t
    else (if begins_accessor text (codes "set") t then trace_setter text r c a_key marks t
    else (if begins_async_method text t then trace_starred_method text r c a_key true (one t marks) t.end
    else trace_starred_method text r c a_key false marks p))

unfoldable pub field_initialised : Bytes → Tracers → Context → Marks → Token → Traced ℕ
field_initialised text r c marks equals = initializer_behind r (in_class c) marks equals >>= λ i. read_semi text i.1 >>= λ s.
    Some (semicolon s.0 i.0, s.1)

unfoldable pub plain_field : Bytes → Marks → Stop → Traced ℕ
plain_field text marks s = read_semi text s >>= λ x. Some (semicolon x.0 marks, x.1)

-- behind a key, which ended so
unfoldable pub element_by : Bytes → Tracers → Context → Marks → Stop → Token → Traced ℕ
element_by text r c marks s t =
    if is_mark text (codes "(") t then method_behind text r c false false marks s.at
    else (if is_mark text (codes "=") t then field_initialised text r c marks t else plain_field text marks s)

-- what a key ends in that begins with the token
abbrev pub key_ending : Bytes → Token → TokenKind → Ending
key_ending text t kind.IdName = ending_of_key text (key.IdName t)
key_ending text t _ = field_key

unfoldable pub key_behind : Bytes → Tracers → Context → Marks → ℕ → Token → Traced ℕ
key_behind text r c marks p t = trace_element_key text r c marks p >>= λ k. token text Operator k.1 >>=
    element_by text r c k.0 (stop k.1 (key_ending text t t.kind))

-- a method or a field that begins with its key, whose first token tells what it ends in
unfoldable pub keyed_element : Bytes → Tracers → Context → Tracer
keyed_element text r c marks p = token text Operand p >>= key_behind text r c marks p

unfoldable pub element_behind : Bytes → Tracers → Context → Marks → ℕ → Token → Traced ℕ
element_behind text r c marks p t =
    if begins_method text t then trace_method text r c (trace_element_key text r c) marks p else keyed_element text r c marks p

unfoldable pub static_block : Bytes → Tracers → Context → Marks → Token → Traced ℕ
static_block text r c marks static = trace_body text r (in_class c) (begin part.StaticBlock (one static marks)) static.end >>= λ x.
    Some (end part.StaticBlock x.0, x.1)

unfoldable pub static_by : Bytes → Tracers → Context → Marks → Token → ℕ → Token → Traced ℕ
static_by text r c marks t p u =
    if is_mark text (codes "{") u then static_block text r c marks t
    else (if begins_starred_key text u then element_behind text r c (one t marks) t.end u else keyed_element text r c marks p)

-- `static`, which may be a key
unfoldable pub static_element : Bytes → Tracers → Context → Marks → Token → ℕ → Traced ℕ
static_element text r c marks t p = token text Operand t.end >>= static_by text r c marks t p

-- Element of a class
unfoldable pub trace_element : Bytes → Tracers → Context → Tracer
trace_element text r c marks p = token text Operand p >>= λ t.
    if is_mark text (codes ";") t then Some (one t marks, t.end)
    else (if is_word text (codes "static") t then static_element text r c marks t p else element_behind text r c marks p t)

-- `extends` and what it names, if it is there
unfoldable pub trace_heritage : Bytes → Tracers → Context → Tracer
trace_heritage text r c marks p = token text Operand p >>= λ t.
    if is_word text (codes "extends") t then r.extended c (one t marks) t.end else Some (marks, p)

unfoldable pub class_named : Bytes → Tracers → Context → Tracer
class_named text r c marks p = trace_heritage text r c (begin part.Class marks) p >>= λ h. mark text Operator (codes "{") h.1 >>= λ left.
    all_turns text (chain_turn text (is_mark text (codes "}")) (trace_element text r c)) (one left h.0) left.end >>= λ xs.
    mark text Operand (codes "}") xs.1 >>= λ right. Some (end part.Class (one right xs.0), right.end)

-- Class, whose name may be left out where it need not be named
unfoldable pub trace_class : Bytes → Tracers → Context → Bool → Tracer
trace_class text r c must marks p = word text Operand (codes "class") p >>= λ t. read_optional_name text c t.end >>= λ n.
    if fits_name must n.0 then class_named text r c (named is.ClassName n.0 (one t marks)) n.1 else None
