-- Expressions, up to what has a suffix.
use Rattle.std.specs.Prelude.{ℕ, Bool, true, false, not, ◌&&◌, ◌||◌, List, codes, Option, Some, None, if◌then◌else◌}
use Rattle.es_tree.specs.declared.tokens.Token.{Token}
use Rattle.es_tree.specs.declared.tokens.TokenKind.{TokenKind}
use Rattle.es_tree.specs.declared.tokens.TokenKind.TheVariants as kind
use Rattle.es_tree.specs.declared.tokens.Goal.TheVariants.{Operand as AtOperand, Operator as AtOperator, Template as AtTemplate}
use Rattle.es_grammar.specs.declared.places.Context.{Context}
use Rattle.es_grammar.specs.Contexts.{bracketed}
use Rattle.es_grammar.specs.Expressions.{literal_words, opens}
use Rattle.es_grammar.specs.Reading.{Bytes}
use Rattle.es_outline.specs.declared.mark.Mark.TheVariants.{Call as call, Shorthand as shorthand, Tag as tag}
use Rattle.es_outline.specs.declared.mark.Part.TheVariants as part
use Rattle.es_outline.specs.declared.mark.Role.{Role}
use Rattle.es_outline.specs.declared.mark.Role.TheVariants as is
use Rattle.es_outline.specs.Outline.{Marks, begin, end, one, put, told}
use Rattle.es_reader.specs.Basics.{◌>>=◌, token, is_mark, is_name, is_one_word, is_word, mark, word}
use Rattle.es_reader.specs.Expressions.{begins_call, begins_function, begins_member, begins_suffix, begins_with_name, is_piece, is_template_kind}
use Rattle.es_reader.specs.Functions.{begins_method}
use Rattle.es_reader.specs.Semis.{is_closed}
use Rattle.es_trace.specs.Basics.{Traced, Tracer, Ended}
use Rattle.es_trace.specs.declared.pieces.Chain.{Chain}
use Rattle.es_trace.specs.declared.pieces.Listed.{Listed}
use Rattle.es_trace.specs.declared.pieces.Turn.{Turn}
use Rattle.es_trace.specs.declared.pieces.Turn.TheVariants.{Ended as ended, More as more}
use Rattle.es_trace.specs.declared.pieces_expressions.Suffixed.{Suffixed}
use Rattle.es_trace.specs.declared.pieces_expressions.Suffixes.{Suffixes}
use Rattle.es_trace.specs.declared.pieces_expressions.SuffixKind.{SuffixKind}
use Rattle.es_trace.specs.declared.pieces_expressions.SuffixKind.TheVariants as suffix
use Rattle.es_trace.specs.Functions.{method_behind, trace_class, trace_func, trace_key, trace_method}
use Rattle.es_trace.specs.Lists.{elements_turn, first_at, list_turn, trace_ended_list}
use Rattle.es_trace.specs.Loops.{Turning, all_turns}
use Rattle.es_trace.specs.Tracers.{Tracers}

-- Expr: Assign/,
unfoldable pub trace_expr : Bytes → Tracers → Context → Ended
trace_expr text r c marks p = trace_ended_list text (r.assign c) marks p

-- an Expr that the token behind it closes
unfoldable pub trace_closed_expr : Bytes → Tracers → Context → Tracer
trace_closed_expr text r c marks p = trace_expr text r c marks p >>= λ x. if is_closed text x.1 then Some (x.0, x.1.at) else None

-- the mark that has to stand there
unfoldable pub trace_mark : Bytes → List ℕ → Tracer
trace_mark text closing marks p = mark text AtOperator closing p >>= λ right. Some (one right marks, right.end)

-- an Expr in brackets, from behind the left one on; what the right one is
unfoldable pub expr_to : Bytes → Tracers → Context → Role → List ℕ → Tracer
expr_to text r c role closing marks p = trace_closed_expr text r (bracketed c) marks p >>= λ x.
    mark text AtOperator closing x.1 >>= λ right. Some (told role right x.0, right.end)

abbrev pub piece_turn : Bytes → Token → Turn ℕ
piece_turn text t = if opens text t then more t.end else ended t.end

unfoldable pub piece_behind : Bytes → Marks → ℕ → Traced (Turn ℕ)
piece_behind text marks p = token text AtTemplate p >>= λ t. if is_piece text t then Some (one t marks, piece_turn text t) else None

-- an expression of a template, with the template token behind it
unfoldable pub pieces_turn : Bytes → Tracers → Context → Turning ℕ
pieces_turn text r c marks p = trace_closed_expr text r (bracketed c) marks p >>= λ x. piece_behind text x.0 x.1

-- Template, whose first token was seen
unfoldable pub template_from : Bytes → Tracers → Context → Marks → Token → Traced ℕ
template_from text r c marks t = if opens text t then all_turns text (pieces_turn text r c) (one t marks) t.end else Some (one t marks, t.end)

-- Assign within brackets
unfoldable pub trace_value : Tracers → Context → Tracer
trace_value r c marks p = r.assign (bracketed c) marks p >>= λ x. Some (x.0, x.1.at)

-- the same behind a token that was seen
unfoldable pub value_behind : Tracers → Context → Marks → Token → Traced ℕ
value_behind r c marks t = trace_value r c (one t marks) t.end

-- `...`? Assign
unfoldable pub trace_argument : Bytes → Tracers → Context → Tracer
trace_argument text r c marks p = token text AtOperand p >>= λ t. if is_mark text (codes "...") t then value_behind r c marks t else trace_value r c marks p

abbrev pub arguments_turn : Bytes → Tracers → Context → Turning Listed
arguments_turn text r c = list_turn text (is_mark text (codes ")")) (trace_argument text r c)

unfoldable pub args_behind : Bytes → Tracers → Context → Marks → Token → Traced ℕ
args_behind text r c marks left = all_turns text (arguments_turn text r c) (one left marks) (first_at left.end) >>= λ x.
    trace_mark text (codes ")") x.0 x.1.at

-- Args
unfoldable pub trace_args : Bytes → Tracers → Context → Tracer
trace_args text r c marks p = mark text AtOperator (codes "(") p >>= args_behind text r c marks

-- Suffixes, by the mark that they begin with

abbrev pub Suffixing : Type 0
Suffixing = Traced Suffixed

abbrev pub suffixed : SuffixKind → ℕ → Suffixed
suffixed what p = record { at = p; kind = what }

-- the mark is told apart by what stands behind it
abbrev pub dot_by : Marks → Token → Token → TokenKind → Suffixing
dot_by marks t u kind.IdName = Some (one u (told is.Dot t marks), suffixed suffix.Dot u.end)
dot_by marks t u kind.Private = Some (one u (told is.Suffixes t marks), suffixed suffix.Private u.end)
dot_by marks t u _ = None

unfoldable pub trace_dot : Bytes → Marks → Token → Suffixing
trace_dot text marks t = token text AtOperand t.end >>= λ u. dot_by marks t u u.kind

unfoldable pub trace_index : Bytes → Tracers → Context → Marks → Token → Suffixing
trace_index text r c marks left = expr_to text r c is.Plain (codes "]") (told is.Suffixes left marks) left.end >>= λ x. Some (x.0, suffixed suffix.Index x.1)

unfoldable pub template_suffix : Bytes → Tracers → Context → Marks → Token → Suffixing
template_suffix text r c marks t = template_from text r c (put tag marks) t >>= λ x. Some (x.0, suffixed suffix.Template x.1)

unfoldable pub args_suffix : Bytes → Tracers → Context → Marks → Token → Suffixing
args_suffix text r c marks left = args_behind text r c (put call marks) left >>= λ x. Some (x.0, suffixed suffix.Args x.1)

-- by what stands behind `?.`, whose mark is put
abbrev pub optional_by : Bytes → Tracers → Context → Marks → Token → Token → TokenKind → Traced ℕ
optional_by text r c marks t u kind.IdName = Some (one u marks, u.end)
optional_by text r c marks t u kind.Private = Some (one u marks, u.end)
optional_by text r c marks t u kind.Punctuator =
    if is_mark text (codes "[") u then expr_to text r c is.Plain (codes "]") (one u marks) u.end else trace_args text r c marks t.end
optional_by text r c marks t u _ = None

-- what stands behind `?.`
unfoldable pub optional_behind : Bytes → Tracers → Context → Marks → Token → Traced ℕ
optional_behind text r c marks t = token text AtOperand t.end >>= λ u. optional_by text r c (told is.Suffixes t marks) t u u.kind

unfoldable pub optional_suffix : Bytes → Tracers → Context → Marks → Token → Suffixing
optional_suffix text r c marks t = optional_behind text r c marks t >>= λ x. Some (x.0, suffixed suffix.Optional x.1)

-- a suffix that the callee of `new` may have, or none
unfoldable pub member_suffix : Bytes → Tracers → Context → Marks → Token → Suffixing
member_suffix text r c marks t =
    if is_mark text (codes ".") t then trace_dot text marks t
    else (if is_mark text (codes "[") t then trace_index text r c marks t
    else (if is_template_kind t.kind then template_suffix text r c marks t else None))

unfoldable pub call_suffix : Bytes → Tracers → Context → Marks → Token → Suffixing
call_suffix text r c marks t =
    if is_mark text (codes "(") t then args_suffix text r c marks t
    else (if is_mark text (codes "?.") t then optional_suffix text r c marks t else None)

unfoldable pub suffix_from : Bytes → Tracers → Context → Marks → Token → Suffixing
suffix_from text r c marks t = if begins_call text t then call_suffix text r c marks t else member_suffix text r c marks t

-- What is known of suffixes: one more of a kind at a time

abbrev pub is_optional : SuffixKind → Bool
is_optional suffix.Optional = true
is_optional _ = false

abbrev pub is_template : SuffixKind → Bool
is_template suffix.Template = true
is_template _ = false

abbrev pub names_member : SuffixKind → Bool
names_member suffix.Dot = true
names_member suffix.Private = true
names_member suffix.Index = true
names_member _ = false

-- it may stand first behind `super`
abbrev pub follows_super : SuffixKind → Bool
follows_super suffix.Dot = true
follows_super suffix.Index = true
follows_super suffix.Args = true
follows_super _ = false

abbrev pub no_suffixes : ℕ → Suffixes
no_suffixes p = record {
  at = p;
  is_empty = true;
  follow_super = false;
  has_optional = false;
  has_plain_templates = true;
  end_with_member = false;
}

abbrev pub suffixes_behind : Suffixes → Suffixed → Suffixes
suffixes_behind s x = record {
  at = x.at;
  is_empty = false;
  follow_super = if s.is_empty then follows_super x.kind else s.follow_super;
  has_optional = s.has_optional || is_optional x.kind;
  has_plain_templates = s.has_plain_templates && not (s.has_optional && is_template x.kind);
  end_with_member = not s.has_optional && names_member x.kind;
}

unfoldable pub next_suffix : Bytes → Tracers → Context → Marks → Suffixes → Token → Traced (Turn Suffixes)
next_suffix text r c marks s t = suffix_from text r c marks t >>= λ x. Some (x.0, more (suffixes_behind s x.1))

unfoldable pub suffixes_turn : Bytes → Tracers → Context → Turning Suffixes
suffixes_turn text r c marks s = token text AtOperator s.at >>= λ t. if begins_suffix text t then next_suffix text r c marks s t else Some (marks, ended s)

unfoldable pub next_member : Bytes → Tracers → Context → Marks → Suffixes → Token → Traced (Turn Suffixes)
next_member text r c marks s t = member_suffix text r c marks t >>= λ x. Some (x.0, more (suffixes_behind s x.1))

unfoldable pub members_turn : Bytes → Tracers → Context → Turning Suffixes
members_turn text r c marks s = token text AtOperator s.at >>= λ t. if begins_member text t then next_member text r c marks s t else Some (marks, ended s)

-- Members of objects. A shorthand's name is no key, so a Name is told by the token behind it before it is put; as a key it would be
-- the same token, and end where it ends.

-- by the token behind a key
unfoldable pub keyed_by : Bytes → Tracers → Context → Marks → ℕ → Token → Traced ℕ
keyed_by text r c marks p u =
    if is_mark text (codes ":") u then value_behind r c marks u
    else (if is_mark text (codes "(") u then method_behind text r c false false marks p else None)

unfoldable pub keyed_member : Bytes → Tracers → Context → Tracer
keyed_member text r c marks p = trace_key text r c marks p >>= λ k. token text AtOperator k.1 >>= keyed_by text r c k.0 k.1

-- by the token behind a Name
unfoldable pub named_by : Bytes → Tracers → Context → Marks → Token → Token → Traced ℕ
named_by text r c marks t u =
    if is_mark text (codes ":") u then value_behind r c (one t marks) u
    else (if is_mark text (codes "(") u then method_behind text r c false false (one t marks) t.end
    else Some (told is.Reference t (put shorthand marks), t.end))

unfoldable pub named_member : Bytes → Tracers → Context → Marks → Token → Traced ℕ
named_member text r c marks t = token text AtOperator t.end >>= named_by text r c marks t

-- a member of an object
unfoldable pub trace_member : Bytes → Tracers → Context → Tracer
trace_member text r c marks p = token text AtOperand p >>= λ t.
    if is_mark text (codes "...") t then value_behind r c marks t
    else (if begins_method text t then trace_method text r c (trace_key text r c) marks p
    else (if is_name text c t then named_member text r c marks t else keyed_member text r c marks p))

-- Primary, but for a Name

abbrev pub array_turn : Bytes → Tracers → Context → Turning Listed
array_turn text r c = elements_turn text (is_mark text (codes "]")) (trace_argument text r c)

unfoldable pub trace_array : Bytes → Tracers → Context → Marks → Token → Traced ℕ
trace_array text r c marks left = all_turns text (array_turn text r c) (one left marks) (first_at left.end) >>= λ x. trace_mark text (codes "]") x.0 x.1.at

abbrev pub object_turn : Bytes → Tracers → Context → Turning Listed
object_turn text r c = list_turn text (is_mark text (codes "}")) (trace_member text r c)

unfoldable pub trace_object : Bytes → Tracers → Context → Marks → Token → Traced ℕ
trace_object text r c marks left = all_turns text (object_turn text r c) (one left marks) (first_at left.end) >>= λ x. trace_mark text (codes "}") x.0 x.1.at

unfoldable pub func_primary : Bytes → Tracers → Context → Tracer
func_primary text r c marks p = trace_func text r c false (begin part.FunctionExpression marks) p >>= λ x. Some (end part.FunctionExpression x.0, x.1)

unfoldable pub class_primary : Bytes → Tracers → Context → Tracer
class_primary text r c marks p = trace_class text r c false (begin part.ClassExpression marks) p >>= λ x. Some (end part.ClassExpression x.0, x.1)

unfoldable pub word_primary : Bytes → Tracers → Context → Marks → ℕ → Token → Traced ℕ
word_primary text r c marks p t =
    if begins_function text t then func_primary text r c marks p
    else (if is_word text (codes "this") t then Some (one t marks, t.end)
    else (if is_one_word text literal_words t then Some (one t marks, t.end)
    else (if is_word text (codes "class") t then class_primary text r c marks p else None)))

unfoldable pub mark_primary : Bytes → Tracers → Context → Marks → Token → Traced ℕ
mark_primary text r c marks t =
    if is_mark text (codes "(") t then expr_to text r c is.Closes (codes ")") (told is.Opens t marks) t.end
    else (if is_mark text (codes "[") t then trace_array text r c marks t
    else (if is_mark text (codes "{") t then trace_object text r c marks t else None))

abbrev pub primary_by : Bytes → Tracers → Context → Marks → ℕ → Token → TokenKind → Traced ℕ
primary_by text r c marks p t kind.IdName = word_primary text r c marks p t
primary_by text r c marks p t kind.Number = Some (one t marks, t.end)
primary_by text r c marks p t kind.String = Some (one t marks, t.end)
primary_by text r c marks p t kind.Template = template_from text r c marks t
primary_by text r c marks p t kind.Regex = Some (one t marks, t.end)
primary_by text r c marks p t kind.Punctuator = mark_primary text r c marks t
primary_by text r c marks p t _ = None

-- What an LHS begins with

unfoldable pub new_target : Bytes → Marks → Token → Token → Traced ℕ
new_target text marks new dot = word text AtOperand (codes "target") dot.end >>= λ t. Some (one t (one dot (one new marks)), t.end)

unfoldable pub new_base : Bytes → Tracers → Context → Marks → ℕ → Token → Traced ℕ
new_base text r c marks p new = token text AtOperand new.end >>= λ u. if is_mark text (codes ".") u then new_target text marks new u else r.new c marks p

unfoldable pub import_meta : Bytes → Marks → Token → Token → Traced ℕ
import_meta text marks import dot = word text AtOperand (codes "meta") dot.end >>= λ t. Some (one t (one dot (told is.ImportMeta import marks)), t.end)

unfoldable pub meta_base : Bytes → Marks → Token → Traced ℕ
meta_base text marks import = mark text AtOperand (codes ".") import.end >>= import_meta text marks import

-- a base that is no Name, whose first token was seen
unfoldable pub base_from : Bytes → Tracers → Context → Marks → ℕ → Token → Traced ℕ
base_from text r c marks p t =
    if is_word text (codes "new") t then new_base text r c marks p t
    else (if is_word text (codes "import") t then meta_base text marks t else primary_by text r c marks p t t.kind)

-- a comma, if it is there
unfoldable pub trace_comma : Bytes → Tracer
trace_comma text marks p = token text AtOperator p >>= λ t. if is_mark text (codes ",") t then Some (one t marks, t.end) else Some (marks, p)

unfoldable pub import_second : Bytes → Tracers → Context → Marks → Token → Traced ℕ
import_second text r c marks comma = value_behind r c marks comma >>= λ y. trace_comma text y.0 y.1 >>= λ z. trace_mark text (codes ")") z.0 z.1

-- behind the comma that follows the first argument
unfoldable pub import_comma : Bytes → Tracers → Context → Marks → Token → Traced ℕ
import_comma text r c marks comma = token text AtOperand comma.end >>= λ t.
    if is_mark text (codes ")") t then trace_mark text (codes ")") (one comma marks) comma.end else import_second text r c marks comma

unfoldable pub import_first : Bytes → Tracers → Context → Tracer
import_first text r c marks p = token text AtOperator p >>= λ t.
    if is_mark text (codes ",") t then import_comma text r c marks t else trace_mark text (codes ")") marks p

unfoldable pub import_call : Bytes → Tracers → Context → Marks → Token → Traced ℕ
import_call text r c marks left = value_behind r c marks left >>= λ x. import_first text r c x.0 x.1

unfoldable pub import_base : Bytes → Tracers → Context → Marks → Token → Traced ℕ
import_base text r c marks import = token text AtOperand import.end >>= λ u.
    if is_mark text (codes "(") u then import_call text r c (told is.ImportCall import marks) u else meta_base text marks import

-- The parts of an LHS

-- by whether its base is a Name, and by its suffixes
abbrev pub chain : Bool → Suffixes → Chain
chain is_name s = record { at = s.at; is_name = is_name && s.is_empty; is_member = s.end_with_member }

unfoldable pub parts_behind : Bytes → Tracers → Context → Bool → Marks → ℕ → Traced Chain
parts_behind text r c is_name marks p = all_turns text (suffixes_turn text r c) marks (no_suffixes p) >>= λ x.
    if x.1.has_plain_templates then Some (x.0, chain is_name x.1) else None

unfoldable pub super_parts : Bytes → Tracers → Context → Marks → Token → Traced Chain
super_parts text r c marks t = all_turns text (suffixes_turn text r c) (one t marks) (no_suffixes t.end) >>= λ x.
    if x.1.follow_super && x.1.has_plain_templates then Some (x.0, chain false x.1) else None

unfoldable pub import_parts : Bytes → Tracers → Context → Marks → Token → Traced Chain
import_parts text r c marks t = import_base text r c marks t >>= λ x. parts_behind text r c false x.0 x.1

unfoldable pub other_parts : Bytes → Tracers → Context → Marks → ℕ → Token → Traced Chain
other_parts text r c marks p t = base_from text r c marks p t >>= λ x. parts_behind text r c false x.0 x.1

-- by the first token
unfoldable pub parts_from : Bytes → Tracers → Context → Marks → ℕ → Token → Traced Chain
parts_from text r c marks p t =
    if begins_with_name text c t then parts_behind text r c true (told is.Reference t marks) t.end
    else (if is_word text (codes "super") t then super_parts text r c marks t
    else (if is_word text (codes "import") t then import_parts text r c marks t else other_parts text r c marks p t))

unfoldable pub trace_parts : Bytes → Tracers → Context → Marks → ℕ → Traced Chain
trace_parts text r c marks p = token text AtOperand p >>= parts_from text r c marks p

-- LHS: a base and suffixes
unfoldable pub trace_lhs : Bytes → Tracers → Context → Tracer
trace_lhs text r c marks p = trace_parts text r c marks p >>= λ x. Some (x.0, x.1.at)

-- `new`

unfoldable pub callee_behind : Bytes → Tracers → Context → Tracer
callee_behind text r c marks p = all_turns text (members_turn text r c) marks (no_suffixes p) >>= λ x. Some (x.0, x.1.at)

unfoldable pub super_callee : Bytes → Tracers → Context → Marks → Token → Traced ℕ
super_callee text r c marks t = all_turns text (members_turn text r c) (one t marks) (no_suffixes t.end) >>= λ x.
    if x.1.follow_super then Some (x.0, x.1.at) else None

unfoldable pub other_callee : Bytes → Tracers → Context → Marks → ℕ → Token → Traced ℕ
other_callee text r c marks p t = base_from text r c marks p t >>= λ x. callee_behind text r c x.0 x.1

unfoldable pub callee_from : Bytes → Tracers → Context → Marks → ℕ → Token → Traced ℕ
callee_from text r c marks p t =
    if begins_with_name text c t then callee_behind text r c (told is.Reference t marks) t.end
    else (if is_word text (codes "super") t then super_callee text r c marks t else other_callee text r c marks p t)

-- the callee of `new`
unfoldable pub trace_callee : Bytes → Tracers → Context → Tracer
trace_callee text r c marks p = token text AtOperand p >>= callee_from text r c marks p

-- the arguments, if they are there
unfoldable pub new_behind : Bytes → Tracers → Context → Tracer
new_behind text r c marks p = token text AtOperator p >>= λ t. if is_mark text (codes "(") t then args_behind text r c marks t else Some (marks, p)

-- `new` Callee Args?
unfoldable pub trace_new : Bytes → Tracers → Context → Tracer
trace_new text r c marks p = word text AtOperand (codes "new") p >>= λ new. trace_callee text r c (told is.New new marks) new.end >>= λ x.
    new_behind text r c x.0 x.1
