-- Operators, conditions and assignments.
use Rattle.es_reader.specs.declared.pieces.HeadOf.{HeadOf}
use Rattle.es_reader.specs.declared.pieces.Operands.{Operands}
use Rattle.std.specs.Prelude.{ℕ, Bool, true, false, not, ◌&&◌, ◌||◌, List, [], ◌∷◌, Option, Some, None, is_some, codes, if◌then◌else◌}
use Rattle.std.specs.List.{list_any}
use Rattle.std.specs.Str.{bytes_eq}
use Rattle.es_tree.specs.declared.tokens.Token.{Token}
use Rattle.es_tree.specs.declared.tokens.TokenKind.{TokenKind}
use Rattle.es_tree.specs.declared.tokens.TokenKind.TheVariants as kind
use Rattle.es_tree.specs.declared.tokens.Goal.TheVariants.{Operand as AtOperand, Operator as AtOperator}
use Rattle.es_tree.specs.declared.parts.ArrowParams.{ArrowParams}
use Rattle.es_tree.specs.declared.parts.ArrowParams.TheVariants as arrow_params
use Rattle.es_tree.specs.declared.parts.BinaryOf.{BinaryOf}
use Rattle.es_tree.specs.declared.parts.Joined.{Joined}
use Rattle.es_tree.specs.declared.parts.Yielded.{Yielded}
use Rattle.es_tree.specs.declared.cycle.Params.{Params}
use Rattle.es_tree.specs.declared.cycle.Arrow.{Arrow}
use Rattle.es_tree.specs.declared.cycle.Arrow.TheVariants as arrow_v
use Rattle.es_tree.specs.declared.cycle.Assign.{Assign}
use Rattle.es_tree.specs.declared.cycle.Assign.TheVariants as assign_v
use Rattle.es_tree.specs.declared.cycle.Cond.{Cond, roll-Cond}
use Rattle.es_tree.specs.declared.cycle.Operand.{Operand}
use Rattle.es_tree.specs.declared.cycle.Operand.TheVariants as operand_v
use Rattle.es_tree.specs.declared.cycle.Target.{Target}
use Rattle.es_grammar.specs.declared.places.Context.{Context}
use Rattle.es_grammar.specs.declared.places.Stop.{Stop}
use Rattle.es_grammar.specs.Contexts.{bracketed, in_arrow, in_concise}
use Rattle.es_grammar.specs.Reading.{Bytes, spelled}
use Rattle.es_grammar.specs.Semicolons.{stop, block_arrow, postfix, expression, binary_marks, assignment_marks}
use Rattle.es_grammar.specs.Operators.{has_operator, loose_marks}
use Rattle.es_reader.specs.Basics.{◌>>=◌, Ended, token, is_mark, is_one_mark, is_word, is_name, mark}
use Rattle.es_reader.specs.declared.pieces.TurnOf.{TurnOf}
use Rattle.es_reader.specs.declared.pieces.TurnOf.TheVariants.{Ended as ended}
use Rattle.es_reader.specs.declared.pieces.TurnOf.TheVariants.{More as more}
use Rattle.es_reader.specs.Loops.{all_turns}
use Rattle.es_reader.specs.Readers.{Readers}
use Rattle.es_reader.specs.Functions.{read_body, read_params}
use Rattle.es_reader.specs.declared.pieces.Shape.{Shape}
use Rattle.es_reader.specs.declared.pieces.Shape.TheVariants.{Signed as signed}
use Rattle.es_reader.specs.declared.pieces.Shape.TheVariants.{Private as private}
use Rattle.es_reader.specs.declared.pieces.Shape.TheVariants.{Plain as plain}
use Rattle.es_reader.specs.Shapes.{begins_prefixed, is_await, is_private_kind, is_sign, is_update, shape_of}
use Rattle.es_reader.specs.Expressions.{Parts, lhs_of, read_parts}
use Rattle.es_reader.specs.Targets.{bare_of, bare_target, begins_pattern, read_paren_target, read_simple_target}

-- what was read decides how it goes on; where nothing was, the other way
abbrev pub through : {A B : Type 0} → Option A → (A → Option B) → Option B → Option B
through (Some x) f y = f x
through None f y = y

-- Operands

-- `++` or `--` behind a target, on its line
abbrev pub is_postfix : Bytes → Token → Bool
is_postfix text t = is_update text t && not t.newline

abbrev pub postfix_of : Target → Token → Option (Operand × Stop)
postfix_of x u = Some (operand_v.Postfix x u, stop u.end postfix)

unfoldable pub postfix_behind : Bytes → Target → Ended Operand
postfix_behind text x p = token text AtOperator p >>= λ u. if is_postfix text u then postfix_of x u else None

unfoldable pub paren_postfix : Bytes → Readers → Context → Token → Option (Operand × Stop)
paren_postfix text r c left = read_paren_target text r c left >>= λ x. postfix_behind text x.0 x.1

-- what is no target in itself is one only as a Name or a member in parentheses
unfoldable pub other_postfix : Bytes → Readers → Context → Token → Option (Operand × Stop)
other_postfix text r c t = if is_mark text (codes "(") t then paren_postfix text r c t else None

-- an Operand that begins with an LHS, whose first token is told too
unfoldable pub operand_behind : Bytes → Readers → Context → Token → Parts → Ended Operand
operand_behind text r c t x p = token text AtOperator p >>= λ u.
    if is_postfix text u then through (bare_of x) (λ b. postfix_of (bare_target b) u) (other_postfix text r c t)
    else Some (operand_v.LHS (lhs_of x), stop p expression)

unfoldable pub plain_operand : Bytes → Readers → Context → ℕ → Token → Option (Operand × Stop)
plain_operand text r c p t = through (read_parts text r c p) (λ x. operand_behind text r c t x.0 x.1) (other_postfix text r c t)

unfoldable pub operand_from : Bytes → Readers → Context → ℕ → Token → Option (Operand × Stop)
operand_from text r c p t = if begins_prefixed text c t then r.prefixed c p else plain_operand text r c p t

-- Operand
unfoldable pub read_operand : Bytes → Readers → Context → Ended Operand
read_operand text r c p = token text AtOperand p >>= operand_from text r c p

unfoldable pub prefix_operand : Bytes → Readers → Context → Token → Option (Operand × Stop)
prefix_operand text r c t = read_operand text r c t.end >>= λ x. Some (operand_v.Prefix t x.0, x.1)

unfoldable pub await_operand : Bytes → Readers → Context → Token → Option (Operand × Stop)
await_operand text r c t = read_operand text r c t.end >>= λ x. Some (operand_v.Await t x.0, x.1)

unfoldable pub update_operand : Bytes → Readers → Context → Token → Option (Operand × Stop)
update_operand text r c t = read_simple_target text r c t.end >>= λ x. Some (operand_v.Update t x.0, stop x.1 expression)

unfoldable pub prefixed_from : Bytes → Readers → Context → Token → Option (Operand × Stop)
prefixed_from text r c t =
    if is_sign text t then prefix_operand text r c t
    else (if is_await text c t then await_operand text r c t else (if is_update text t then update_operand text r c t else None))

-- an Operand with a prefix
unfoldable pub read_prefixed : Bytes → Readers → Context → Ended Operand
read_prefixed text r c p = token text AtOperand p >>= prefixed_from text r c

-- Operators

-- BinOp
unfoldable pub is_operator : Bytes → Context → Token → Bool
is_operator text c t = is_one_mark text binary_marks t || is_word text (codes "instanceof") t || (c.has_in && is_word text (codes "in") t)

-- an operand of a list
unfoldable pub listed_from : Bytes → Readers → Context → ℕ → Token → Option (Operand × Stop)
listed_from text r c p t = if is_private_kind t.kind then Some (operand_v.Private t, stop t.end expression) else operand_from text r c p t

-- the operator before a private name, if any
abbrev pub is_loose : Bytes → Option Token → Bool
is_loose text None = true
is_loose text (Some t) = list_any (bytes_eq (spelled text t)) loose_marks

abbrev pub is_spelled : Bytes → List ℕ → Option Token → Bool
is_spelled text word None = false
is_spelled text word (Some t) = bytes_eq (spelled text t) word

-- an operand of this shape may stand behind this operator and before that one
abbrev pub fits : Bytes → Option Token → Shape → Option Token → Bool
fits text before signed behind = not (is_spelled text (codes "**") behind)
fits text before private behind = is_spelled text (codes "in") behind && is_loose text before
fits text before plain behind = true

-- where the last operand ended, what it was, and the operator before it

abbrev pub operands : Stop → Option Token → Shape → Operands
operands s before shape = record { at = s; before = before; shape = shape }

abbrev pub joined : Token → Operand → Joined Operand
joined op x = record { op = op; operand = x }

unfoldable pub joined_by : Bytes → Readers → Context → Token → Token → Option (TurnOf Operands (Joined Operand))
joined_by text r c op t = listed_from text r c op.end t >>= λ x. Some (more (joined op x.0) (operands x.1 (Some op) (shape_of text c t)))

unfoldable pub next_joined : Bytes → Readers → Context → Token → Option (TurnOf Operands (Joined Operand))
next_joined text r c op = token text AtOperand op.end >>= joined_by text r c op

unfoldable pub joined_behind : Bytes → Readers → Context → Operands → Token → Option (TurnOf Operands (Joined Operand))
joined_behind text r c s op = if fits text s.before s.shape (Some op) then next_joined text r c op else None

unfoldable pub joined_ended : Bytes → Operands → Option (TurnOf Operands (Joined Operand))
joined_ended text s = if fits text s.before s.shape None then Some (ended s) else None

-- an operator and an operand, or the end of the list
unfoldable pub joined_turn : Bytes → Readers → Context → Operands → Option (TurnOf Operands (Joined Operand))
joined_turn text r c s = token text AtOperator s.at.at >>= λ t. if is_operator text c t then joined_behind text r c s t else joined_ended text s

-- `??` stands with `||` or `&&`
abbrev pub mixes : Bytes → List (Joined Operand) → Bool
mixes text xs = has_operator text (codes "??" ∷ []) xs && has_operator text (codes "||" ∷ codes "&&" ∷ []) xs

-- Binary, from behind its first operand on
unfoldable pub binary_behind : Bytes → Readers → Context → Operand → Shape → Stop → Option (BinaryOf Operand × Stop)
binary_behind text r c x shape s = all_turns text (joined_turn text r c) (operands s None shape) >>= λ xs.
    if mixes text xs.0 then None else Some (record { first = x; more = xs.0 }, xs.1.at)

abbrev pub choice : BinaryOf Operand → Token → Assign → Token → Assign → Cond
choice test question when_true colon when_false = roll-Cond (record {
  test = test;
  arms = Some (record { question = question; when_true = when_true; colon = colon; when_false = when_false });
})

unfoldable pub arms_behind : Bytes → Readers → Context → BinaryOf Operand → Token → Option (Cond × Stop)
arms_behind text r c test question = r.assign (bracketed c) question.end >>= λ x. mark text AtOperator (codes ":") x.1.at >>= λ colon.
    r.assign c colon.end >>= λ y. Some (choice test question x.0 colon y.0, y.1)

unfoldable pub cond_behind : Bytes → Readers → Context → BinaryOf Operand → Stop → Option (Cond × Stop)
cond_behind text r c test s = token text AtOperator s.at >>= λ t.
    if is_mark text (codes "?") t then arms_behind text r c test t else Some (roll-Cond (record { test = test; arms = None }), s)

-- Cond, from behind its first operand on
unfoldable pub cond_from : Bytes → Readers → Context → Shape → Operand → Stop → Option (Cond × Stop)
cond_from text r c shape x s = binary_behind text r c x shape s >>= λ b. cond_behind text r c b.0 b.1

unfoldable pub cond_by : Bytes → Readers → Context → ℕ → Token → Option (Cond × Stop)
cond_by text r c p t = listed_from text r c p t >>= λ x. cond_from text r c (shape_of text c t) x.0 x.1

-- Cond
unfoldable pub read_cond : Bytes → Readers → Context → Ended Cond
read_cond text r c p = token text AtOperand p >>= cond_by text r c p

-- Arrows

-- `=>` on the line of what stands before it
unfoldable pub is_arrow : Bytes → Token → Bool
is_arrow text t = is_mark text (codes "=>") t && not t.newline

-- what stands before an arrow's body
abbrev pub Head : Type 0
Head = HeadOf Params

abbrev pub head : ArrowParams Params → Token → Head
head params mark = record { params = params; mark = mark }

unfoldable pub arrow_behind : Bytes → ArrowParams Params → ℕ → Option Head
arrow_behind text params p = token text AtOperator p >>= λ t. if is_arrow text t then Some (head params t) else None

-- `(` Params `) =>`, whose parenthesis was seen
unfoldable pub list_head : Bytes → Readers → Context → Token → Option Head
list_head text r c left = read_params text r c left.end >>= λ x. mark text AtOperator (codes ")") x.1 >>= λ right.
    arrow_behind text (arrow_params.List left x.0 right) right.end

unfoldable pub params_head : Bytes → Readers → Context → Token → Option Head
params_head text r c t =
    if is_name text c t then arrow_behind text (arrow_params.Name t) t.end
    else (if is_mark text (codes "(") t then list_head text r c t else None)

-- what stands behind `async` on its line
unfoldable pub async_head : Bytes → Readers → Context → Token → Option Head
async_head text r c async = token text AtOperand async.end >>= λ t. if t.newline then None else params_head text r (in_arrow true c) t

unfoldable pub block_body : Bytes → Readers → Context → Option Token → Head → Option (Arrow × Stop)
block_body text r c async h = read_body text r (in_arrow (is_some async) c) h.mark.end >>= λ x.
    Some (arrow_v.Block async h.params h.mark x.0, stop x.1 block_arrow)

unfoldable pub concise_body : Readers → Context → Option Token → Head → Option (Arrow × Stop)
concise_body r c async h = r.assign (in_concise (is_some async) c) h.mark.end >>= λ x. Some (arrow_v.Concise async h.params h.mark x.0, x.1)

-- the body of an arrow
unfoldable pub arrow_body : Bytes → Readers → Context → Option Token → Head → Option (Arrow × Stop)
arrow_body text r c async h = token text AtOperand h.mark.end >>= λ t.
    if is_mark text (codes "{") t then block_body text r c async h else concise_body r c async h

-- Assignments

unfoldable pub arrow_assign : Bytes → Readers → Context → Option Token → Head → Option (Assign × Stop)
arrow_assign text r c async h = arrow_body text r c async h >>= λ x. Some (assign_v.Arrow x.0, x.1)

-- `=` or another assignment operator
unfoldable pub is_assignment : Bytes → Token → Bool
is_assignment text t = is_mark text (codes "=") t || is_one_mark text assignment_marks t

unfoldable pub set_assign : Readers → Context → Target → Token → Option (Assign × Stop)
set_assign r c x op = r.assign c op.end >>= λ v. Some (assign_v.Set x op v.0, v.1)

unfoldable pub compound_assign : Readers → Context → Target → Token → Option (Assign × Stop)
compound_assign r c x op = r.assign c op.end >>= λ v. Some (assign_v.Compound x op v.0, v.1)

-- a simple Target, an operator, and a value
unfoldable pub target_assign : Bytes → Readers → Context → Target → Token → Option (Assign × Stop)
target_assign text r c x op = if is_mark text (codes "=") op then set_assign r c x op else compound_assign r c x op

unfoldable pub cond_assign : Bytes → Readers → Context → Operand → Stop → Option (Assign × Stop)
cond_assign text r c x s = cond_from text r c plain x s >>= λ z. Some (assign_v.Cond z.0, z.1)

unfoldable pub paren_by : Bytes → Readers → Context → Target → Token → Option (Assign × Stop)
paren_by text r c x u =
    if is_assignment text u then target_assign text r c x u
    else (if is_postfix text u then cond_assign text r c (operand_v.Postfix x u) (stop u.end postfix) else None)

-- a target in parentheses, and what is done with it
unfoldable pub paren_assign : Bytes → Readers → Context → Token → Option (Assign × Stop)
paren_assign text r c left = read_paren_target text r c left >>= λ x. token text AtOperator x.1 >>= paren_by text r c x.0

unfoldable pub pattern_assign : Bytes → Readers → Context → Ended Assign
pattern_assign text r c p = r.target_pattern c p >>= λ x. mark text AtOperator (codes "=") x.1 >>= set_assign r c x.0

-- what is no target in itself is one only in parentheses, or as a pattern
unfoldable pub other_assign : Bytes → Readers → Context → ℕ → Token → Option (Assign × Stop)
other_assign text r c p t =
    if is_mark text (codes "(") t then paren_assign text r c t
    else (if begins_pattern text t then pattern_assign text r c p else None)

unfoldable pub operand_assign : Bytes → Readers → Context → Token → Parts → Ended Assign
operand_assign text r c t x p = operand_behind text r c t x p >>= λ y. cond_assign text r c y.0 y.1

-- by what stands behind an LHS
unfoldable pub assign_behind : Bytes → Readers → Context → ℕ → Token → Parts → Ended Assign
assign_behind text r c p t x q = token text AtOperator q >>= λ u.
    if is_assignment text u then through (bare_of x) (λ b. target_assign text r c (bare_target b) u) (other_assign text r c p t)
    else operand_assign text r c t x q

unfoldable pub plain_assign : Bytes → Readers → Context → ℕ → Token → Option (Assign × Stop)
plain_assign text r c p t = through (read_parts text r c p) (λ x. assign_behind text r c p t x.0 x.1) (other_assign text r c p t)

-- `async`, which may begin an arrow
unfoldable pub async_assign : Bytes → Readers → Context → ℕ → Token → Option (Assign × Stop)
async_assign text r c p t = through (async_head text r c t) (arrow_assign text r c (Some t)) (plain_assign text r c p t)

unfoldable pub named_by : Bytes → Readers → Context → ℕ → Token → Token → Option (Assign × Stop)
named_by text r c p t u =
    if is_arrow text u then arrow_assign text r c None (head (arrow_params.Name t) u)
    else (if is_word text (codes "async") t then async_assign text r c p t else plain_assign text r c p t)

-- a Name, by the token behind it
unfoldable pub named_assign : Bytes → Readers → Context → ℕ → Token → Option (Assign × Stop)
named_assign text r c p t = token text AtOperator t.end >>= named_by text r c p t

-- `(`, which may begin an arrow
unfoldable pub bracket_assign : Bytes → Readers → Context → ℕ → Token → Option (Assign × Stop)
bracket_assign text r c p t = through (list_head text r (in_arrow false c) t) (arrow_assign text r c None) (plain_assign text r c p t)

-- `yield`

abbrev pub ends_kind : TokenKind → Bool
ends_kind kind.End = true
ends_kind _ = false

-- no Assign begins so on the line of `yield`
unfoldable pub begins_nothing : Bytes → Token → Bool
begins_nothing text t = t.newline || ends_kind t.kind || is_word text (codes "in") t
    || is_one_mark text (codes ")" ∷ codes "]" ∷ codes "}" ∷ codes "," ∷ codes ";" ∷ codes ":" ∷ []) t

abbrev pub yielded : Option Token → Assign → Yielded Assign
yielded star x = record { star = star; value = x }

unfoldable pub yield_value : Readers → Context → Token → Option Token → Ended Assign
yield_value r c word star p = r.assign c p >>= λ x. Some (assign_v.Yield word (Some (yielded star x.0)), x.1)

unfoldable pub yield_by : Bytes → Readers → Context → Token → Token → Option (Assign × Stop)
yield_by text r c word t =
    if begins_nothing text t then Some (assign_v.Yield word None, stop word.end block_arrow)
    else (if is_mark text (codes "*") t then yield_value r c word (Some t) t.end else yield_value r c word None word.end)

unfoldable pub yield_assign : Bytes → Readers → Context → Token → Option (Assign × Stop)
yield_assign text r c word = token text AtOperand word.end >>= yield_by text r c word

unfoldable pub is_yield : Bytes → Context → Token → Bool
is_yield text c t = c.has_yield && is_word text (codes "yield") t

-- an operand that is no LHS
unfoldable pub begins_other : Bytes → Context → Token → Bool
begins_other text c t = begins_prefixed text c t || is_private_kind t.kind

unfoldable pub other_cond : Bytes → Readers → Context → ℕ → Token → Option (Assign × Stop)
other_cond text r c p t = cond_by text r c p t >>= λ x. Some (assign_v.Cond x.0, x.1)

-- by the first token
unfoldable pub assign_from : Bytes → Readers → Context → ℕ → Token → Option (Assign × Stop)
assign_from text r c p t =
    if is_name text c t then named_assign text r c p t
    else (if is_mark text (codes "(") t then bracket_assign text r c p t
    else (if begins_other text c t then other_cond text r c p t
    else (if is_yield text c t then yield_assign text r c t else plain_assign text r c p t)))

-- Assign
unfoldable pub read_assign : Bytes → Readers → Context → Ended Assign
read_assign text r c p = token text AtOperand p >>= assign_from text r c p
