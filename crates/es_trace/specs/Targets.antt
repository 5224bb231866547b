-- What may be assigned to.
use Rattle.std.specs.Prelude.{ℕ, zero, suc, Bool, true, false, ◌&&◌, ◌||◌, codes, Option, Some, None, if◌then◌else◌}
use Rattle.es_tree.specs.declared.tokens.Token.{Token}
use Rattle.es_tree.specs.declared.tokens.Goal.TheVariants.{Operand, Operator}
use Rattle.es_grammar.specs.declared.places.Context.{Context}
use Rattle.es_grammar.specs.Contexts.{bracketed}
use Rattle.es_grammar.specs.Reading.{Bytes}
use Rattle.es_outline.specs.declared.mark.Mark.TheVariants as mark_v
use Rattle.es_outline.specs.declared.mark.Role.TheVariants as is
use Rattle.es_outline.specs.Outline.{Marks, one, put, told}
use Rattle.es_reader.specs.Basics.{◌>>=◌, or_else, token, is_mark, is_name, mark}
use Rattle.es_reader.specs.Functions.{ends_parts}
use Rattle.es_reader.specs.Expressions.{begins_suffix}
use Rattle.es_reader.specs.Targets.{begins_pattern}
use Rattle.es_trace.specs.Basics.{Traced, Tracer}
use Rattle.es_trace.specs.Loops.{Turning, all_turns}
use Rattle.es_trace.specs.Lists.{elements_turn, first_at, list_turn, rest_behind}
use Rattle.es_trace.specs.Tracers.{Tracers}
use Rattle.es_trace.specs.Functions.{initializer_behind, trace_property_key}
use Rattle.es_trace.specs.Expressions.{trace_parts}
use Rattle.es_trace.specs.declared.pieces.Chain.{Chain}
use Rattle.es_trace.specs.declared.pieces.Listed.{Listed}
use Rattle.es_trace.specs.declared.pieces.Turn.{Turn}
use Rattle.es_trace.specs.declared.pieces.Turn.TheVariants.{Ended as ended, More as more}

-- what was read may be assigned to: it is a Name or a member
abbrev pub is_bare : Chain → Bool
is_bare x = x.is_name || x.is_member

-- the Name or member before it is assigned to
abbrev pub assigned : Marks → Marks
assigned marks = put mark_v.Assigned marks

unfoldable pub bare_behind : Marks → Chain → Traced ℕ
bare_behind marks x = if is_bare x then Some (assigned marks, x.at) else None

-- a Name, or a member
unfoldable pub trace_bare : Bytes → Tracers → Context → Marks → ℕ → Traced ℕ
trace_bare text r c marks p = trace_parts text r c marks p >>= λ x. bare_behind x.0 x.1

-- how far the parentheses around a target were read: up to a place, and so many of them
pub record Opened : Type 0 where
  pub at : ℕ
  pub count : ℕ

abbrev pub opened : ℕ → ℕ → Opened
opened p n = record { at = p; count = n }

unfoldable pub deeper : Bytes → Marks → Opened → Traced (Turn Opened)
deeper text marks s = mark text Operand (codes "(") s.at >>= λ t. Some (told is.Opens t marks, more (opened t.end (suc s.count)))

abbrev pub bare_or_deeper : ℕ → Traced ℕ → Traced (Turn Opened) → Traced (Turn Opened)
bare_or_deeper n None turn = turn
bare_or_deeper n (Some x) turn = Some (x.0, ended (opened x.1 n))

-- behind a parenthesis stands a Name or a member, or one more parenthesis
unfoldable pub paren_turn : Bytes → Tracers → Context → Turning Opened
paren_turn text r c marks s = bare_or_deeper s.count (trace_bare text r c marks s.at) (deeper text marks s)

-- so many closing parentheses
unfoldable pub closing : Bytes → ℕ → Marks → ℕ → Traced ℕ
closing text zero marks p = Some (marks, p)
closing text (suc n) marks p = mark text Operator (codes ")") p >>= λ t. closing text n (told is.Closes t marks) t.end

-- a Name or a member in parentheses, the first of which was seen. Where the turns end they have found it.
unfoldable pub trace_paren_target : Bytes → Tracers → Context → Marks → Token → Traced ℕ
trace_paren_target text r c marks left =
    all_turns text (paren_turn text r c) (told is.Opens left marks) (opened left.end 1) >>= λ x. closing text x.1.count x.0 x.1.at

-- a Name, or a member without `?.`, either in parentheses
unfoldable pub trace_simple_target : Bytes → Tracers → Context → Marks → ℕ → Traced ℕ
trace_simple_target text r c marks p = token text Operand p >>= λ t.
    if is_mark text (codes "(") t then or_else (trace_bare text r c marks p) (trace_paren_target text r c marks t) else trace_bare text r c marks p

-- a pattern, unless a suffix stands behind it
unfoldable pub pattern_alone : Bytes → Tracers → Context → Marks → ℕ → Traced ℕ
pattern_alone text r c marks p = r.target_pattern c marks p >>= λ x. token text Operator x.1 >>= λ u. if begins_suffix text u then None else Some x

-- Target
unfoldable pub trace_target : Bytes → Tracers → Context → Marks → ℕ → Traced ℕ
trace_target text r c marks p = token text Operand p >>= λ t.
    if begins_pattern text t then or_else (pattern_alone text r c marks p) (trace_bare text r c marks p) else trace_simple_target text r c marks p

-- Parts of patterns

unfoldable pub part_initialised : Tracers → Context → Marks → Token → Traced ℕ
part_initialised r c marks equals = initializer_behind r (bracketed c) marks equals >>= λ i. Some (i.0, i.1.at)

-- by the token behind a Target that ends there
unfoldable pub part_by : Bytes → Tracers → Context → Marks → ℕ → Token → Traced ℕ
part_by text r c marks p u = if is_mark text (codes "=") u then part_initialised r c marks u else Some (marks, p)

-- what may stand behind a Target
unfoldable pub part_behind : Bytes → Tracers → Context → Marks → ℕ → Traced ℕ
part_behind text r c marks p = token text Operator p >>= λ u. part_by text r c marks p u

-- an element of an array pattern, or what a key names
unfoldable pub trace_target_part : Bytes → Tracers → Context → Marks → ℕ → Traced ℕ
trace_target_part text r c marks p = trace_target text r (bracketed c) marks p >>= λ x. part_behind text r c x.0 x.1

unfoldable pub keyed_target : Bytes → Tracers → Context → Marks → ℕ → Traced ℕ
keyed_target text r c marks p = trace_property_key text r c marks p >>= λ k. trace_target_part text r c k.0 k.1

-- a Name that is the key too
abbrev pub shorthand : Marks → Token → Marks
shorthand marks t = assigned (told is.Reference t (put mark_v.Shorthand marks))

-- a Name is the key where `:` stands behind it, and else a shorthand: its mark is put when that is known
unfoldable pub named_by : Bytes → Tracers → Context → Marks → Token → Token → Traced ℕ
named_by text r c marks t u =
    if is_mark text (codes ":") u then trace_target_part text r c (one u (one t marks)) u.end else part_by text r c (shorthand marks t) t.end u

-- a Name, by the token behind it
unfoldable pub named_target : Bytes → Tracers → Context → Marks → Token → Traced ℕ
named_target text r c marks t = token text Operator t.end >>= λ u. named_by text r c marks t u

-- a property of an object pattern
unfoldable pub trace_target_property : Bytes → Tracers → Context → Marks → ℕ → Traced ℕ
trace_target_property text r c marks p =
    token text Operand p >>= λ t. if is_name text c t then named_target text r c marks t else keyed_target text r c marks p

-- Patterns

-- `...`, where a part may follow
abbrev pub is_rest : Bytes → Listed → Token → Bool
is_rest text s t = is_mark text (codes "...") t && s.ready

unfoldable pub array_with_rest : Bytes → Tracers → Context → Marks → Token → Traced ℕ
array_with_rest text r c marks dots = rest_behind (trace_target text r (bracketed c)) marks dots >>= λ x.
    mark text Operator (codes "]") x.1 >>= λ right. Some (one right x.0, right.end)

unfoldable pub array_without_rest : Bytes → Marks → ℕ → Traced ℕ
array_without_rest text marks p = mark text Operator (codes "]") p >>= λ right. Some (one right marks, right.end)

unfoldable pub array_behind : Bytes → Tracers → Context → Marks → Listed → Traced ℕ
array_behind text r c marks s = token text Operand s.at >>= λ t.
    if is_rest text s t then array_with_rest text r c marks t else array_without_rest text marks s.at

unfoldable pub array_turn : Bytes → Tracers → Context → Turning Listed
array_turn text r c = elements_turn text (ends_parts text (codes "]")) (trace_target_part text r c)

unfoldable pub trace_array_target : Bytes → Tracers → Context → Marks → Token → Traced ℕ
trace_array_target text r c marks left =
    all_turns text (array_turn text r c) (one left marks) (first_at left.end) >>= λ x. array_behind text r c x.0 x.1

unfoldable pub object_with_rest : Bytes → Tracers → Context → Marks → Token → Traced ℕ
object_with_rest text r c marks dots = rest_behind (trace_simple_target text r (bracketed c)) marks dots >>= λ x.
    mark text Operator (codes "}") x.1 >>= λ right. Some (one right x.0, right.end)

unfoldable pub object_without_rest : Bytes → Marks → ℕ → Traced ℕ
object_without_rest text marks p = mark text Operator (codes "}") p >>= λ right. Some (one right marks, right.end)

unfoldable pub object_behind : Bytes → Tracers → Context → Marks → Listed → Traced ℕ
object_behind text r c marks s = token text Operand s.at >>= λ t.
    if is_rest text s t then object_with_rest text r c marks t else object_without_rest text marks s.at

unfoldable pub object_turn : Bytes → Tracers → Context → Turning Listed
object_turn text r c = list_turn text (ends_parts text (codes "}")) (trace_target_property text r c)

unfoldable pub trace_object_target : Bytes → Tracers → Context → Marks → Token → Traced ℕ
trace_object_target text r c marks left =
    all_turns text (object_turn text r c) (one left marks) (first_at left.end) >>= λ x. object_behind text r c x.0 x.1

-- a pattern of Targets
unfoldable pub trace_target_pattern : Bytes → Tracers → Context → Marks → ℕ → Traced ℕ
trace_target_pattern text r c marks p = token text Operand p >>= λ t.
    if is_mark text (codes "[") t then trace_array_target text r c marks t
    else (if is_mark text (codes "{") t then trace_object_target text r c marks t else None)
