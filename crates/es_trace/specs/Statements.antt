-- Statements, declarations and items.
use Rattle.std.specs.Prelude.{ℕ, Bool, true, false, not, ◌&&◌, ◌||◌, List, [], ◌∷◌, Option, Some, None, codes, if◌then◌else◌}
use Rattle.es_tree.specs.declared.tokens.Token.{Token}
use Rattle.es_tree.specs.declared.tokens.Goal.TheVariants.{Operand, Operator}
use Rattle.es_grammar.specs.declared.places.Context.{Context}
use Rattle.es_grammar.specs.declared.places.Stop.{Stop}
use Rattle.es_grammar.specs.Contexts.{bracketed, without_in}
use Rattle.es_grammar.specs.Reading.{Bytes}
use Rattle.es_grammar.specs.Semicolons.{stop, declared_name, other}
use Rattle.es_grammar.specs.Statements.{declaration_words}
use Rattle.es_outline.specs.declared.mark.Part.TheVariants as part
use Rattle.es_outline.specs.declared.mark.Role.TheVariants as is
use Rattle.es_outline.specs.declared.mark.Mark.TheVariants as mark_v
use Rattle.es_outline.specs.Outline.{Marks, begin, end, one, put, semicolon, told}
use Rattle.es_reader.specs.Basics.{◌>>=◌, token, is_mark, is_word, is_one_word, is_name, mark, word}
use Rattle.es_reader.specs.Semis.{holds, is_closed, read_semi, read_free_semi}
use Rattle.es_reader.specs.Statements.{begins_declaration, begins_value, ends_cases, ends_clause, is_label}
use Rattle.es_trace.specs.Basics.{Traced, Tracer, Ended}
use Rattle.es_trace.specs.Expressions.{trace_expr, trace_closed_expr}
use Rattle.es_trace.specs.Functions.{body_behind, initializer_behind, trace_bind, trace_body, trace_class, trace_closed_item, trace_func}
use Rattle.es_trace.specs.Lists.{chain_turn, comma_or_end, ended_turn, stop_at, trace_ended_list}
use Rattle.es_trace.specs.Loops.{all_turns, go_on}
use Rattle.es_trace.specs.Targets.{trace_target}
use Rattle.es_trace.specs.Tracers.{Tracers}

-- a semicolon behind what ended so
unfoldable pub semi_behind : Bytes → Marks → Stop → Traced ℕ
semi_behind text marks ended = read_semi text ended >>= λ s. Some (semicolon s.0 marks, s.1)

-- by the token behind a declared Bind, where an initialiser may be left out or may not
unfoldable pub declared_by : Bytes → Tracers → Context → Bool → Marks → ℕ → Token → Traced Stop
declared_by text r c may_end marks p t =
    if is_mark text (codes "=") t then initializer_behind r c marks t
    else (if may_end then Some (marks, stop p declared_name) else None)

unfoldable pub declared_behind : Bytes → Tracers → Context → Bool → Ended
declared_behind text r c may_end marks p = token text Operator p >>= declared_by text r c may_end marks p

abbrev pub named_binding : Token → Marks → Traced (ℕ × Bool)
named_binding t marks = Some (told is.Bound t marks, (t.end, true))

unfoldable pub pattern_binding : Tracers → Context → Marks → ℕ → Traced (ℕ × Bool)
pattern_binding r c marks p = r.bind_pattern c marks p >>= λ x. Some (x.0, (x.1, false))

unfoldable pub pattern_declared : Bytes → Tracers → Context → Ended
pattern_declared text r c marks p = r.bind_pattern c marks p >>= λ x. declared_behind text r c false x.0 x.1

-- a declared Decl: a pattern needs an initialiser, and so does a `const`
unfoldable pub trace_declared : Bytes → Tracers → Context → Bool → Ended
trace_declared text r c is_const marks p = token text Operand p >>= λ t.
    if is_name text c t then declared_behind text r c (not is_const) (told is.Bound t marks) t.end else pattern_declared text r c marks p

unfoldable pub trace_decls : Bytes → Tracers → Context → Bool → Ended
trace_decls text r c is_const marks p = trace_ended_list text (trace_declared text r c is_const) marks p

-- Lex, whose word was seen
unfoldable pub lex_behind : Bytes → Tracers → Context → Bool → Marks → Token → Traced ℕ
lex_behind text r c is_const marks t = trace_decls text r c is_const (one t (begin part.Declaration marks)) t.end >>= λ xs.
    semi_behind text (end part.Declaration xs.0) xs.1

-- Var, whose word was seen: it is laid as a Lex without `const`
unfoldable pub var_behind : Bytes → Tracers → Context → Marks → Token → Traced ℕ
var_behind text r c marks t = lex_behind text r c false marks t

-- `(` Expr `)`
unfoldable pub trace_condition : Bytes → Tracers → Context → Tracer
trace_condition text r c marks p = mark text Operand (codes "(") p >>= λ left.
    trace_closed_expr text r (bracketed c) (one left marks) left.end >>= λ x. mark text Operator (codes ")") x.1 >>= λ right.
    Some (one right x.0, right.end)

-- the same with the word before it, and Stmt
unfoldable pub condition_and_stmt : Bytes → Tracers → Context → Tracer
condition_and_stmt text r c marks p = trace_condition text r c marks p >>= λ x. r.stmt c x.0 x.1

-- For, from behind its head or its declarations on; whoever has its word lays where it begins and ends

-- `)` Stmt
unfoldable pub for_body : Bytes → Tracers → Context → Tracer
for_body text r c marks p = mark text Operator (codes ")") p >>= λ right. r.stmt c (one right marks) right.end

unfoldable pub of_behind : Bytes → Tracers → Context → Marks → Token → Traced ℕ
of_behind text r c marks middle = r.assign (bracketed c) (one middle marks) middle.end >>= λ x. for_body text r c x.0 x.1.at

unfoldable pub in_behind : Bytes → Tracers → Context → Marks → Token → Traced ℕ
in_behind text r c marks middle = trace_closed_expr text r (bracketed c) (one middle marks) middle.end >>= λ x. for_body text r c x.0 x.1

-- behind a head
unfoldable pub for_each : Bytes → Tracers → Context → Tracer
for_each text r c marks p = token text Operator p >>= λ t.
    if is_word text (codes "of") t then of_behind text r c marks t
    else (if is_word text (codes "in") t then in_behind text r c marks t else None)

-- Expr, unless the mark behind it stands already
unfoldable pub trace_optional_expr : Bytes → Tracers → Context → List ℕ → Tracer
trace_optional_expr text r c closing marks p = token text Operand p >>= λ t.
    if is_mark text closing t then Some (marks, p) else trace_closed_expr text r (bracketed c) marks p

unfoldable pub for_loop : Bytes → Tracers → Context → Tracer
for_loop text r c marks p = mark text Operator (codes ";") p >>= λ first.
    trace_optional_expr text r c (codes ";") (one first marks) first.end >>= λ test. mark text Operator (codes ";") test.1 >>= λ second.
    trace_optional_expr text r c (codes ")") (one second test.0) second.end >>= λ update. for_body text r c update.0 update.1

-- the declaration of a head ends
abbrev pub iterated : Marks → Marks
iterated marks = end part.Declaration (put mark_v.Iterated marks)

-- (`var` | `let` | `const`) Bind, whose word was seen
unfoldable pub bind_head : Bytes → Tracers → Context → Marks → Token → Traced ℕ
bind_head text r c marks t = trace_bind text r c (one t (begin part.Declaration marks)) t.end >>= λ x. Some (iterated x.0, x.1)

-- Head: (`var` | `let` | `const`) Bind | Target
unfoldable pub trace_head : Bytes → Tracers → Context → Tracer
trace_head text r c marks p = token text Operand p >>= λ t.
    if is_one_word text declaration_words t then bind_head text r c marks t else trace_target text r c marks p

-- a declared Bind, with whether it is a Name
unfoldable pub trace_binding : Bytes → Tracers → Context → Marks → ℕ → Traced (ℕ × Bool)
trace_binding text r c marks p = token text Operand p >>= λ t.
    if is_name text c t then named_binding t marks else pattern_binding r c marks p

-- the declarations whose first Bind was traced, by the token behind it
unfoldable pub decls_behind : Bytes → Tracers → Context → Bool → Marks → ℕ × Bool → Token → Traced Stop
decls_behind text r c is_const marks x t = declared_by text r c (x.1 && not is_const) marks x.0 t >>= λ y. comma_or_end text y.0 y.1 >>= λ z.
    go_on (all_turns text (ended_turn text (trace_declared text r c is_const))) z.0 z.1

unfoldable pub for_declared : Bytes → Tracers → Context → Bool → Marks → ℕ × Bool → Token → Traced ℕ
for_declared text r c is_const marks x t = decls_behind text r (without_in c) is_const marks x t >>= λ xs.
    for_loop text r c (end part.Declaration xs.0) xs.1.at

-- a head or declarations, by the token behind the first Bind
unfoldable pub for_binding_by : Bytes → Tracers → Context → Bool → Marks → ℕ × Bool → Token → Traced ℕ
for_binding_by text r c is_const marks x t =
    if is_word text (codes "of") t then of_behind text r c (iterated marks) t
    else (if is_word text (codes "in") t then in_behind text r c (iterated marks) t else for_declared text r c is_const marks x t)

unfoldable pub for_binding : Bytes → Tracers → Context → Marks → Token → Traced ℕ
for_binding text r c marks t = trace_binding text r (without_in c) (one t (begin part.Declaration marks)) t.end >>= λ x.
    token text Operator x.1.0 >>= for_binding_by text r c (is_word text (codes "const") t) x.0 x.1

unfoldable pub for_target : Bytes → Tracers → Context → Tracer
for_target text r c marks p = trace_target text r (without_in c) marks p >>= λ x. for_each text r c x.0 x.1

-- Expr before `;`
unfoldable pub init_expr : Bytes → Tracers → Context → Tracer
init_expr text r c marks p = trace_expr text r c marks p >>= λ x. token text Operator x.1.at >>= λ t.
    if is_mark text (codes ";") t then Some (x.0, x.1.at) else None

-- an Expr where `;` stands behind it, else a Target
abbrev pub for_expr_by : Bytes → Tracers → Context → Marks → ℕ → Traced ℕ → Traced ℕ
for_expr_by text r c marks p None = for_target text r c marks p
for_expr_by text r c marks p (Some x) = for_loop text r c x.0 x.1

unfoldable pub for_expr : Bytes → Tracers → Context → Tracer
for_expr text r c marks p = for_expr_by text r c marks p (init_expr text r (without_in c) marks p)

-- behind `(`, by the token there
unfoldable pub for_paren_by : Bytes → Tracers → Context → Marks → ℕ → Token → Traced ℕ
for_paren_by text r c marks p t =
    if is_mark text (codes ";") t then for_loop text r c marks p
    else (if is_one_word text declaration_words t then for_binding text r c marks t else for_expr text r c marks p)

unfoldable pub for_paren : Bytes → Tracers → Context → Marks → Token → Traced ℕ
for_paren text r c marks left = token text Operand left.end >>= λ t. for_paren_by text r c (one left marks) left.end t

unfoldable pub for_await : Bytes → Tracers → Context → Marks → Token → Traced ℕ
for_await text r c marks await = mark text Operand (codes "(") await.end >>= λ left.
    trace_head text r (without_in c) (one left (told is.Await await marks)) left.end >>= λ head.
    word text Operator (codes "of") head.1 >>= λ middle. of_behind text r c head.0 middle

unfoldable pub for_by : Bytes → Tracers → Context → Marks → Token → Traced ℕ
for_by text r c marks t =
    if is_mark text (codes "(") t then for_paren text r c marks t
    else (if c.has_await && is_word text (codes "await") t then for_await text r c marks t else None)

-- For, whose word was seen
unfoldable pub for_stmt : Bytes → Tracers → Context → Marks → Token → Traced ℕ
for_stmt text r c marks for_word = token text Operand for_word.end >>= λ t.
    for_by text r c (one for_word (begin part.For marks)) t >>= λ x. Some (end part.For x.0, x.1)

-- clauses of `switch`

unfoldable pub trace_clause_items : Bytes → Tracers → Context → Tracer
trace_clause_items text r c marks p = all_turns text (chain_turn text (ends_clause text) (trace_closed_item text r c)) marks p

-- `:` and the items of a clause
unfoldable pub clause_behind : Bytes → Tracers → Context → Tracer
clause_behind text r c marks p = mark text Operator (codes ":") p >>= λ colon. trace_clause_items text r c (one colon marks) colon.end

unfoldable pub trace_case : Bytes → Tracers → Context → Tracer
trace_case text r c marks p = word text Operand (codes "case") p >>= λ t.
    trace_closed_expr text r (bracketed c) (one t marks) t.end >>= λ x. clause_behind text r c x.0 x.1

-- clauses without `default`
unfoldable pub trace_case_run : Bytes → Tracers → Context → Tracer
trace_case_run text r c marks p = all_turns text (chain_turn text (ends_cases text) (trace_case text r c)) marks p

unfoldable pub cases_with_default : Bytes → Tracers → Context → Marks → Token → Traced ℕ
cases_with_default text r c marks t = clause_behind text r c (one t marks) t.end >>= λ x. trace_case_run text r c x.0 x.1

-- clauses of which one at most is `default`
unfoldable pub trace_cases : Bytes → Tracers → Context → Tracer
trace_cases text r c marks p = trace_case_run text r c marks p >>= λ x. token text Operand x.1 >>= λ t.
    if is_word text (codes "default") t then cases_with_default text r c x.0 t else Some x

unfoldable pub switch_stmt : Bytes → Tracers → Context → Marks → Token → Traced ℕ
switch_stmt text r c marks t = trace_condition text r c (one t marks) t.end >>= λ x. mark text Operand (codes "{") x.1 >>= λ brace.
    trace_cases text r c (one brace (begin part.Switch x.0)) brace.end >>= λ cases. mark text Operand (codes "}") cases.1 >>= λ last.
    Some (end part.Switch (one last cases.0), last.end)

-- `else` Stmt, wherever `else` stands
abbrev pub else_by : Bytes → Tracers → Context → Marks → ℕ → Option Token → Traced ℕ
else_by text r c marks p None = Some (marks, p)
else_by text r c marks p (Some t) = if is_word text (codes "else") t then r.stmt c (one t marks) t.end else Some (marks, p)

unfoldable pub trace_else : Bytes → Tracers → Context → Tracer
trace_else text r c marks p = else_by text r c marks p (token text Operand p)

unfoldable pub if_stmt : Bytes → Tracers → Context → Marks → Token → Traced ℕ
if_stmt text r c marks t = condition_and_stmt text r c (one t marks) t.end >>= λ x. trace_else text r c x.0 x.1

unfoldable pub do_stmt : Bytes → Tracers → Context → Marks → Token → Traced ℕ
do_stmt text r c marks t = r.stmt c (one t marks) t.end >>= λ body. word text Operand (codes "while") body.1 >>= λ u.
    trace_condition text r c (one u body.0) u.end >>= λ x. read_free_semi text x.1 >>= λ s. Some (semicolon s.0 x.0, s.1)

-- a label behind `continue` and `break`, on their line
abbrev pub label_by : Bytes → Context → Marks → ℕ → Option Token → Traced ℕ
label_by text c marks p None = Some (marks, p)
label_by text c marks p (Some t) = if is_label text c t then Some (told is.Label t marks, t.end) else Some (marks, p)

unfoldable pub trace_label : Bytes → Context → Tracer
trace_label text c marks p = label_by text c marks p (token text Operand p)

-- `continue` or `break`, which was seen
unfoldable pub jump_behind : Bytes → Context → Marks → Token → Traced ℕ
jump_behind text c marks t = trace_label text c (one t marks) t.end >>= λ x. semi_behind text x.0 (stop x.1 other)

-- an Expr, if the token behind it closes it; what it doesn't begin with is asked before
unfoldable pub expr_stmt : Bytes → Tracers → Context → Tracer
expr_stmt text r c marks p = trace_expr text r (bracketed c) marks p >>= λ x. if is_closed text x.1 then semi_behind text x.0 x.1 else None

-- a word that was seen, and a value that begins on its line
unfoldable pub value_behind : Bytes → Tracers → Context → Marks → Token → Traced ℕ
value_behind text r c marks t = token text Operand t.end >>= λ u. if u.newline then None else expr_stmt text r c (one t marks) t.end

-- a word that was seen, alone
unfoldable pub word_alone : Bytes → Marks → Token → Traced ℕ
word_alone text marks t = semi_behind text (one t marks) (stop t.end other)

unfoldable pub return_stmt : Bytes → Tracers → Context → Marks → Token → Traced ℕ
return_stmt text r c marks t =
    if holds (begins_value text) (token text Operand t.end) then value_behind text r c marks t else word_alone text marks t

-- `{` Item* `}`, a scope
unfoldable pub trace_block : Bytes → Tracers → Context → Tracer
trace_block text r c marks p = trace_body text r c (begin part.Block marks) p >>= λ x. Some (end part.Block x.0, x.1)

unfoldable pub block_behind : Bytes → Tracers → Context → Marks → Token → Traced ℕ
block_behind text r c marks left = body_behind text r c (begin part.Block marks) left >>= λ x. Some (end part.Block x.0, x.1)

unfoldable pub parameter_behind : Bytes → Tracers → Context → Marks → Token → Traced ℕ
parameter_behind text r c marks left = trace_bind text r (bracketed c) (one left marks) left.end >>= λ x. mark text Operator (codes ")") x.1 >>= λ right.
    Some (one right x.0, right.end)

unfoldable pub trace_catch_parameter : Bytes → Tracers → Context → Tracer
trace_catch_parameter text r c marks p = token text Operand p >>= λ t.
    if is_mark text (codes "(") t then parameter_behind text r c marks t else Some (marks, p)

abbrev pub finally_by : Bytes → Tracers → Context → Marks → ℕ → Option Token → Traced ℕ
finally_by text r c marks p None = Some (marks, p)
finally_by text r c marks p (Some t) = if is_word text (codes "finally") t then trace_block text r c (one t marks) t.end else Some (marks, p)

unfoldable pub trace_optional_finally : Bytes → Tracers → Context → Tracer
trace_optional_finally text r c marks p = finally_by text r c marks p (token text Operand p)

unfoldable pub try_catch : Bytes → Tracers → Context → Marks → Token → Traced ℕ
try_catch text r c marks catch = trace_catch_parameter text r c (begin part.Catch (one catch marks)) catch.end >>= λ x.
    trace_block text r c x.0 x.1 >>= λ handler. trace_optional_finally text r c (end part.Catch handler.0) handler.1

unfoldable pub try_stmt : Bytes → Tracers → Context → Marks → Token → Traced ℕ
try_stmt text r c marks t = trace_block text r c (one t marks) t.end >>= λ body. token text Operand body.1 >>= λ u.
    if is_word text (codes "catch") u then try_catch text r c body.0 u
    else (if is_word text (codes "finally") u then trace_block text r c (one u body.0) u.end else None)

unfoldable pub name_stmt : Bytes → Tracers → Context → Marks → ℕ → Token → Traced ℕ
name_stmt text r c marks p t = token text Operator t.end >>= λ u.
    if is_mark text (codes ":") u then r.stmt c (one u (told is.Label t marks)) u.end else expr_stmt text r c marks p

unfoldable pub plain_stmt : Bytes → Tracers → Context → Marks → ℕ → Token → Traced ℕ
plain_stmt text r c marks p t =
    if begins_declaration text t then None
    else (if is_name text c t then name_stmt text r c marks p t else expr_stmt text r c marks p)

unfoldable pub other_stmt : Bytes → Tracers → Context → Marks → ℕ → Token → Traced ℕ
other_stmt text r c marks p t =
    if is_word text (codes "with") t then condition_and_stmt text r c (told is.With t marks) t.end
    else (if is_word text (codes "switch") t then switch_stmt text r c marks t
    else (if is_word text (codes "throw") t then value_behind text r c marks t
    else (if is_word text (codes "try") t then try_stmt text r c marks t
    else (if is_word text (codes "debugger") t then word_alone text marks t else plain_stmt text r c marks p t))))

unfoldable pub jump_stmt : Bytes → Tracers → Context → Marks → ℕ → Token → Traced ℕ
jump_stmt text r c marks p t =
    if is_word text (codes "continue") t then jump_behind text c marks t
    else (if is_word text (codes "break") t then jump_behind text c marks t
    else (if is_word text (codes "return") t then (if c.has_return then return_stmt text r c marks t else None)
    else other_stmt text r c marks p t))

unfoldable pub word_stmt : Bytes → Tracers → Context → Marks → ℕ → Token → Traced ℕ
word_stmt text r c marks p t =
    if is_word text (codes "var") t then var_behind text r (bracketed c) marks t
    else (if is_word text (codes "if") t then if_stmt text r c marks t
    else (if is_word text (codes "for") t then for_stmt text r c marks t
    else (if is_word text (codes "while") t then condition_and_stmt text r c (one t marks) t.end
    else (if is_word text (codes "do") t then do_stmt text r c marks t else jump_stmt text r c marks p t))))

-- Stmt, whose first token was seen
unfoldable pub stmt_by : Bytes → Tracers → Context → Marks → ℕ → Token → Traced ℕ
stmt_by text r c marks p t =
    if is_mark text (codes "{") t then block_behind text r c marks t
    else (if is_mark text (codes ";") t then Some (one t marks, t.end) else word_stmt text r c marks p t)

-- Stmt
unfoldable pub trace_stmt : Bytes → Tracers → Context → Tracer
trace_stmt text r c marks p = token text Operand p >>= λ t. stmt_by text r c marks p t

-- a function or a class, by its first token
unfoldable pub declaration_item : Bytes → Tracers → Context → Bool → Marks → ℕ → Token → Traced ℕ
declaration_item text r c named marks p t =
    if is_word text (codes "class") t then trace_class text r c named marks p else trace_func text r c named marks p

unfoldable pub item_by : Bytes → Tracers → Context → Marks → ℕ → Token → Traced ℕ
item_by text r c marks p t =
    if is_one_word text (codes "let" ∷ codes "const" ∷ []) t then lex_behind text r (bracketed c) (is_word text (codes "const") t) marks t
    else (if begins_declaration text t then declaration_item text r c true marks p t else stmt_by text r c marks p t)

-- Item: Stmt | Lex | Func | Class
unfoldable pub trace_item : Bytes → Tracers → Context → Tracer
trace_item text r c marks p = token text Operand p >>= λ t. item_by text r c marks p t
