-- Operators, conditions and assignments.
use Rattle.std.specs.Prelude.{ℕ, Bool, true, false, not, ◌&&◌, ◌||◌, codes, Option, Some, None, if◌then◌else◌}
use Rattle.std.specs.Str.{bytes_eq}
use Rattle.es_tree.specs.declared.tokens.Token.{Token}
use Rattle.es_tree.specs.declared.tokens.Goal.TheVariants.{Operand as AtOperand, Operator as AtOperator}
use Rattle.es_grammar.specs.declared.places.Context.{Context}
use Rattle.es_grammar.specs.declared.places.Stop.{Stop}
use Rattle.es_grammar.specs.Contexts.{bracketed, in_arrow, in_concise}
use Rattle.es_grammar.specs.Reading.{Bytes, spelled}
use Rattle.es_grammar.specs.Semicolons.{stop, block_arrow, postfix, expression}
use Rattle.es_outline.specs.declared.mark.Mark.TheVariants as mark_v
use Rattle.es_outline.specs.declared.mark.Part.TheVariants as part
use Rattle.es_outline.specs.declared.mark.Role.TheVariants as is
use Rattle.es_outline.specs.Outline.{Marks, begin, end, one, put, told}
use Rattle.es_reader.specs.declared.pieces.Shape.{Shape}
use Rattle.es_reader.specs.declared.pieces.Shape.TheVariants.{Signed as signed, Private as private, Plain as plain}
use Rattle.es_reader.specs.Basics.{◌>>=◌, token, is_mark, is_name, is_word, mark}
use Rattle.es_reader.specs.Shapes.{begins_prefixed, is_await, is_private_kind, is_sign, is_update, shape_of}
use Rattle.es_reader.specs.Operators.{through, is_arrow, is_assignment, is_loose, is_operator, is_postfix, is_spelled, is_yield, begins_nothing, begins_other}
use Rattle.es_reader.specs.Targets.{begins_pattern}
use Rattle.es_trace.specs.Basics.{Traced, Ended}
use Rattle.es_trace.specs.Loops.{Turning, all_turns}
use Rattle.es_trace.specs.Tracers.{Tracers}
use Rattle.es_trace.specs.Functions.{trace_body, trace_params}
use Rattle.es_trace.specs.Expressions.{trace_parts}
use Rattle.es_trace.specs.Targets.{assigned, is_bare, trace_paren_target, trace_simple_target}
use Rattle.es_trace.specs.declared.pieces.Chain.{Chain}
use Rattle.es_trace.specs.declared.pieces.Turn.{Turn}
use Rattle.es_trace.specs.declared.pieces.Turn.TheVariants.{Ended as ended, More as more}
use Rattle.es_trace.specs.declared.pieces_operators.Joins.{Joins}

-- Where an LHS was read that turns out to be no target, what follows begins again with the marks `before` it.

-- Operands

-- the target before it is read too, by this operator
abbrev pub updated : Marks → Token → Marks
updated marks op = one op (put mark_v.Updated marks)

unfoldable pub postfix_behind : Bytes → Marks → ℕ → Traced Stop
postfix_behind text marks p = token text AtOperator p >>= λ u. if is_postfix text u then Some (updated marks u, stop u.end postfix) else None

unfoldable pub paren_postfix : Bytes → Tracers → Context → Marks → Token → Traced Stop
paren_postfix text r c marks left = trace_paren_target text r c marks left >>= λ x. postfix_behind text x.0 x.1

-- what is no target in itself is one only as a Name or a member in parentheses
unfoldable pub other_postfix : Bytes → Tracers → Context → Marks → Token → Traced Stop
other_postfix text r c marks t = if is_mark text (codes "(") t then paren_postfix text r c marks t else None

unfoldable pub chain_postfix : Bytes → Tracers → Context → Marks → Marks → Token → Chain → Token → Traced Stop
chain_postfix text r c before marks t x u =
    if is_bare x then Some (updated (assigned marks) u, stop u.end postfix) else other_postfix text r c before t

-- an Operand that begins with an LHS, whose first token is told too
unfoldable pub operand_behind : Bytes → Tracers → Context → Marks → Marks → Token → Chain → Traced Stop
operand_behind text r c before marks t x = token text AtOperator x.at >>= λ u.
    if is_postfix text u then chain_postfix text r c before marks t x u else Some (marks, stop x.at expression)

unfoldable pub plain_operand : Bytes → Tracers → Context → Marks → ℕ → Token → Traced Stop
plain_operand text r c marks p t =
    through (trace_parts text r c marks p) (λ x. operand_behind text r c marks x.0 t x.1) (other_postfix text r c marks t)

unfoldable pub operand_from : Bytes → Tracers → Context → Marks → ℕ → Token → Traced Stop
operand_from text r c marks p t = if begins_prefixed text c t then r.prefixed c marks p else plain_operand text r c marks p t

-- Operand
unfoldable pub trace_operand : Bytes → Tracers → Context → Marks → ℕ → Traced Stop
trace_operand text r c marks p = token text AtOperand p >>= λ t. operand_from text r c marks p t

unfoldable pub update_operand : Bytes → Tracers → Context → Marks → Token → Traced Stop
update_operand text r c marks t =
    trace_simple_target text r c (one t marks) t.end >>= λ x. Some (put mark_v.Updated x.0, stop x.1 expression)

unfoldable pub prefixed_from : Bytes → Tracers → Context → Marks → Token → Traced Stop
prefixed_from text r c marks t =
    if is_sign text t then trace_operand text r c (told is.Prefix t marks) t.end
    else (if is_await text c t then trace_operand text r c (told is.Await t marks) t.end
    else (if is_update text t then update_operand text r c marks t else None))

-- an Operand with a prefix
unfoldable pub trace_prefixed : Bytes → Tracers → Context → Marks → ℕ → Traced Stop
trace_prefixed text r c marks p = token text AtOperand p >>= λ t. prefixed_from text r c marks t

-- Operators

-- an operand of a list
unfoldable pub listed_from : Bytes → Tracers → Context → Marks → ℕ → Token → Traced Stop
listed_from text r c marks p t = if is_private_kind t.kind then Some (one t marks, stop t.end expression) else operand_from text r c marks p t

-- an operand of this shape may stand before that operator, and behind one that is loose or not
abbrev pub suits : Bytes → Bool → Shape → Option Token → Bool
suits text loose signed behind = not (is_spelled text (codes "**") behind)
suits text loose private behind = is_spelled text (codes "in") behind && loose
suits text loose plain behind = true

-- before the first operator
abbrev pub first_joins : Stop → Shape → Joins
first_joins s shape = record { at = s; is_loose = true; shape = shape; has_coalescing = false; has_logical = false }

unfoldable pub is_coalescing : Bytes → Token → Bool
is_coalescing text op = bytes_eq (spelled text op) (codes "??")

unfoldable pub is_logical : Bytes → Token → Bool
is_logical text op = bytes_eq (spelled text op) (codes "||") || bytes_eq (spelled text op) (codes "&&")

-- behind one more operator and an operand that ends there
abbrev pub joins_behind : Bytes → Joins → Token → Stop → Shape → Joins
joins_behind text s op at shape = record {
  at = at;
  is_loose = is_loose text (Some op);
  shape = shape;
  has_coalescing = s.has_coalescing || is_coalescing text op;
  has_logical = s.has_logical || is_logical text op;
}

unfoldable pub joined_by : Bytes → Tracers → Context → Marks → Joins → Token → Token → Traced (Turn Joins)
joined_by text r c marks s op t =
    listed_from text r c (one op marks) op.end t >>= λ x. Some (x.0, more (joins_behind text s op x.1 (shape_of text c t)))

unfoldable pub next_joined : Bytes → Tracers → Context → Marks → Joins → Token → Traced (Turn Joins)
next_joined text r c marks s op = token text AtOperand op.end >>= λ t. joined_by text r c marks s op t

unfoldable pub joined_behind : Bytes → Tracers → Context → Marks → Joins → Token → Traced (Turn Joins)
joined_behind text r c marks s op = if suits text s.is_loose s.shape (Some op) then next_joined text r c marks s op else None

unfoldable pub joined_ended : Bytes → Marks → Joins → Traced (Turn Joins)
joined_ended text marks s = if suits text s.is_loose s.shape None then Some (marks, ended s) else None

-- an operator and an operand, or the end of the list
unfoldable pub joined_turn : Bytes → Tracers → Context → Turning Joins
joined_turn text r c marks s =
    token text AtOperator s.at.at >>= λ t. if is_operator text c t then joined_behind text r c marks s t else joined_ended text marks s

-- `??` stands with `||` or `&&`
abbrev pub mixes : Joins → Bool
mixes s = s.has_coalescing && s.has_logical

-- Binary, from behind its first operand on
unfoldable pub binary_behind : Bytes → Tracers → Context → Marks → Shape → Stop → Traced Stop
binary_behind text r c marks shape s =
    all_turns text (joined_turn text r c) marks (first_joins s shape) >>= λ x. if mixes x.1 then None else Some (x.0, x.1.at)

unfoldable pub arms_behind : Bytes → Tracers → Context → Marks → Token → Traced Stop
arms_behind text r c marks question = r.assign (bracketed c) (one question marks) question.end >>= λ x.
    mark text AtOperator (codes ":") x.1.at >>= λ colon. r.assign c (one colon x.0) colon.end

unfoldable pub cond_behind : Bytes → Tracers → Context → Marks → Stop → Traced Stop
cond_behind text r c marks s = token text AtOperator s.at >>= λ t.
    if is_mark text (codes "?") t then arms_behind text r c marks t else Some (marks, s)

-- Cond, from behind its first operand on
unfoldable pub cond_from : Bytes → Tracers → Context → Marks → Shape → Stop → Traced Stop
cond_from text r c marks shape s = binary_behind text r c marks shape s >>= λ b. cond_behind text r c b.0 b.1

unfoldable pub cond_by : Bytes → Tracers → Context → Marks → ℕ → Token → Traced Stop
cond_by text r c marks p t = listed_from text r c marks p t >>= λ x. cond_from text r c x.0 (shape_of text c t) x.1

-- Cond
unfoldable pub trace_cond : Bytes → Tracers → Context → Marks → ℕ → Traced Stop
trace_cond text r c marks p = token text AtOperand p >>= λ t. cond_by text r c marks p t

-- Arrows: heads end behind `=>`

unfoldable pub arrow_behind : Bytes → Marks → ℕ → Traced ℕ
arrow_behind text marks p = token text AtOperator p >>= λ t. if is_arrow text t then Some (one t marks, t.end) else None

-- `(` Params `) =>`, whose parenthesis was seen
unfoldable pub list_head : Bytes → Tracers → Context → Marks → Token → Traced ℕ
list_head text r c marks left = trace_params text r c (one left marks) left.end >>= λ x.
    mark text AtOperator (codes ")") x.1 >>= λ right. arrow_behind text (one right x.0) right.end

unfoldable pub params_head : Bytes → Tracers → Context → Marks → Token → Traced ℕ
params_head text r c marks t =
    if is_name text c t then arrow_behind text (told is.Bound t marks) t.end
    else (if is_mark text (codes "(") t then list_head text r c marks t else None)

-- the same with where the arrow begins
unfoldable pub bracket_head : Bytes → Tracers → Context → Marks → Token → Traced ℕ
bracket_head text r c marks left = list_head text r (in_arrow false c) (begin part.Arrow marks) left

-- what stands behind `async` on its line
unfoldable pub async_head : Bytes → Tracers → Context → Marks → Token → Traced ℕ
async_head text r c marks async = token text AtOperand async.end >>= λ t.
    if t.newline then None else params_head text r (in_arrow true c) (one async (begin part.Arrow marks)) t

unfoldable pub block_body : Bytes → Tracers → Context → Bool → Marks → ℕ → Traced Stop
block_body text r c is_async marks p = trace_body text r (in_arrow is_async c) (begin part.FunctionBody marks) p >>= λ x.
    Some (end part.Arrow (end part.FunctionBody x.0), stop x.1 block_arrow)

unfoldable pub concise_body : Tracers → Context → Bool → Marks → ℕ → Traced Stop
concise_body r c is_async marks p = r.assign (in_concise is_async c) marks p >>= λ x. Some (end part.Arrow x.0, x.1)

-- the body of an arrow
unfoldable pub arrow_body : Bytes → Tracers → Context → Bool → Marks → ℕ → Traced Stop
arrow_body text r c is_async marks p = token text AtOperand p >>= λ t.
    if is_mark text (codes "{") t then block_body text r c is_async marks p else concise_body r c is_async marks p

-- Assignments

-- the operator behind a target, and a value
unfoldable pub target_assign : Bytes → Tracers → Context → Marks → Token → Traced Stop
target_assign text r c marks op =
    if is_mark text (codes "=") op then r.assign c (one op marks) op.end else r.assign c (updated marks op) op.end

unfoldable pub paren_by : Bytes → Tracers → Context → Marks → Token → Traced Stop
paren_by text r c marks u =
    if is_assignment text u then target_assign text r c marks u
    else (if is_postfix text u then cond_from text r c (updated marks u) plain (stop u.end postfix) else None)

-- a target in parentheses, and what is done with it
unfoldable pub paren_assign : Bytes → Tracers → Context → Marks → Token → Traced Stop
paren_assign text r c marks left =
    trace_paren_target text r c marks left >>= λ x. token text AtOperator x.1 >>= λ u. paren_by text r c x.0 u

unfoldable pub pattern_assign : Bytes → Tracers → Context → Marks → ℕ → Traced Stop
pattern_assign text r c marks p = r.target_pattern c marks p >>= λ x. mark text AtOperator (codes "=") x.1 >>= λ op. r.assign c (one op x.0) op.end

-- what is no target in itself is one only in parentheses, or as a pattern
unfoldable pub other_assign : Bytes → Tracers → Context → Marks → ℕ → Token → Traced Stop
other_assign text r c marks p t =
    if is_mark text (codes "(") t then paren_assign text r c marks t
    else (if begins_pattern text t then pattern_assign text r c marks p else None)

unfoldable pub operand_assign : Bytes → Tracers → Context → Marks → Marks → Token → Chain → Traced Stop
operand_assign text r c before marks t x = operand_behind text r c before marks t x >>= λ y. cond_from text r c y.0 plain y.1

unfoldable pub chain_assign : Bytes → Tracers → Context → Marks → Marks → ℕ → Token → Chain → Token → Traced Stop
chain_assign text r c before marks p t x u = if is_bare x then target_assign text r c (assigned marks) u else other_assign text r c before p t

-- by what stands behind an LHS
unfoldable pub assign_behind : Bytes → Tracers → Context → Marks → Marks → ℕ → Token → Chain → Traced Stop
assign_behind text r c before marks p t x = token text AtOperator x.at >>= λ u.
    if is_assignment text u then chain_assign text r c before marks p t x u else operand_assign text r c before marks t x

unfoldable pub plain_assign : Bytes → Tracers → Context → Marks → ℕ → Token → Traced Stop
plain_assign text r c marks p t =
    through (trace_parts text r c marks p) (λ x. assign_behind text r c marks x.0 p t x.1) (other_assign text r c marks p t)

-- `async`, which may begin an arrow
unfoldable pub async_assign : Bytes → Tracers → Context → Marks → ℕ → Token → Traced Stop
async_assign text r c marks p t = through (async_head text r c marks t) (λ x. arrow_body text r c true x.0 x.1) (plain_assign text r c marks p t)

-- a Name that is the parameter of an arrow, and `=>`
abbrev pub name_head : Marks → Token → Token → Marks
name_head marks t arrow = one arrow (told is.Bound t (begin part.Arrow marks))

unfoldable pub named_by : Bytes → Tracers → Context → Marks → ℕ → Token → Token → Traced Stop
named_by text r c marks p t u =
    if is_arrow text u then arrow_body text r c false (name_head marks t u) u.end
    else (if is_word text (codes "async") t then async_assign text r c marks p t else plain_assign text r c marks p t)

-- a Name, by the token behind it
unfoldable pub named_assign : Bytes → Tracers → Context → Marks → ℕ → Token → Traced Stop
named_assign text r c marks p t = token text AtOperator t.end >>= λ u. named_by text r c marks p t u

-- `(`, which may begin an arrow
unfoldable pub bracket_assign : Bytes → Tracers → Context → Marks → ℕ → Token → Traced Stop
bracket_assign text r c marks p t =
    through (bracket_head text r c marks t) (λ x. arrow_body text r c false x.0 x.1) (plain_assign text r c marks p t)

-- `yield`

unfoldable pub yield_by : Bytes → Tracers → Context → Marks → Token → Token → Traced Stop
yield_by text r c marks word t =
    if begins_nothing text t then Some (one word marks, stop word.end block_arrow)
    else (if is_mark text (codes "*") t then r.assign c (one t (one word marks)) t.end else r.assign c (one word marks) word.end)

unfoldable pub yield_assign : Bytes → Tracers → Context → Marks → Token → Traced Stop
yield_assign text r c marks word = token text AtOperand word.end >>= λ t. yield_by text r c marks word t

-- by the first token
unfoldable pub assign_from : Bytes → Tracers → Context → Marks → ℕ → Token → Traced Stop
assign_from text r c marks p t =
    if is_name text c t then named_assign text r c marks p t
    else (if is_mark text (codes "(") t then bracket_assign text r c marks p t
    else (if begins_other text c t then cond_by text r c marks p t
    else (if is_yield text c t then yield_assign text r c marks t else plain_assign text r c marks p t)))

-- Assign
unfoldable pub trace_assign : Bytes → Tracers → Context → Marks → ℕ → Traced Stop
trace_assign text r c marks p = token text AtOperand p >>= λ t. assign_from text r c marks p t
