-- Statements, declarations and items.
use Rattle.es_reader.specs.declared.pieces.ConditionOf.{ConditionOf}
use Rattle.std.specs.Prelude.{ℕ, ◌+◌, length, Bool, true, false, not, ◌&&◌, ◌||◌, List, [], ◌∷◌, ◌++◌, Option, Some, None, codes, if◌then◌else◌}
use Rattle.es_tree.specs.declared.tokens.Token.{Token}
use Rattle.es_tree.specs.declared.tokens.Goal.TheVariants.{Operand, Operator}
use Rattle.es_tree.specs.declared.parts.Separated.{Separated}
use Rattle.es_tree.specs.declared.parts.CatchParameter.{CatchParameter}
use Rattle.es_tree.specs.declared.parts.Else.{Else}
use Rattle.es_tree.specs.declared.parts.Finally.{Finally}
use Rattle.es_tree.specs.declared.parts.Body.{Body}
use Rattle.es_tree.specs.declared.cycle.Bind.{Bind}
use Rattle.es_tree.specs.declared.cycle.Bind.TheVariants as bind_v
use Rattle.es_tree.specs.declared.cycle.Case.{Case}
use Rattle.es_tree.specs.declared.cycle.Case.TheVariants as case_v
use Rattle.es_tree.specs.declared.cycle.Decl.{Decl}
use Rattle.es_tree.specs.declared.cycle.For.{For}
use Rattle.es_tree.specs.declared.cycle.For.TheVariants as for_v
use Rattle.es_tree.specs.declared.cycle.Head.{Head}
use Rattle.es_tree.specs.declared.cycle.Head.TheVariants as head_v
use Rattle.es_tree.specs.declared.cycle.Init.{Init}
use Rattle.es_tree.specs.declared.cycle.Init.TheVariants as init_v
use Rattle.es_tree.specs.declared.cycle.Item.{Item}
use Rattle.es_tree.specs.declared.cycle.Item.TheVariants as item_v
use Rattle.es_tree.specs.declared.cycle.Stmt.{Stmt}
use Rattle.es_tree.specs.declared.cycle.Stmt.TheVariants as stmt_v
use Rattle.es_grammar.specs.declared.places.Context.{Context}
use Rattle.es_grammar.specs.declared.places.Stop.{Stop}
use Rattle.es_grammar.specs.Contexts.{bracketed, without_in}
use Rattle.es_grammar.specs.Reading.{Bytes, spelled}
use Rattle.es_grammar.specs.Semicolons.{stop, declared_name, other, closes}
use Rattle.es_grammar.specs.Expressions.{Expr}
use Rattle.es_grammar.specs.Statements.{Lex, Var, declaration_words}
use Rattle.es_reader.specs.Basics.{◌>>=◌, Reader, Ended, token, is_mark, is_word, is_one_word, is_name, mark, word}
use Rattle.es_reader.specs.Loops.{all_turns, go_on, repeat}
use Rattle.es_reader.specs.Lists.{chain_turn}
use Rattle.es_reader.specs.EndedLists.{comma_or_end, ended_turn, read_ended_list}
use Rattle.es_reader.specs.Readers.{Readers}
use Rattle.es_reader.specs.Semis.{holds, is_closed, read_semi, read_free_semi}
use Rattle.es_reader.specs.Functions.{begins_async_function, body_behind, decl, decl_initialised, read_bind, read_body, read_class, read_closed_item, read_func}
use Rattle.es_reader.specs.Expressions.{read_expr, read_closed_expr}
use Rattle.es_reader.specs.Targets.{read_target}

-- a Bind, and whether it is a Name
abbrev pub Binding : Type 0
Binding = Bind × Bool

abbrev pub binding : Bind → Bool → Binding
binding x is_name = (x, is_name)

unfoldable pub pattern_binding : Readers → Context → Reader Binding
pattern_binding r c p = r.bind_pattern c p >>= λ x. Some (binding x.0 false, x.1)

unfoldable pub read_binding : Bytes → Readers → Context → Reader Binding
read_binding text r c p = token text Operand p >>= λ t. if is_name text c t then Some (binding (bind_v.Name t) true, t.end) else pattern_binding r c p

-- a declared binding, by the token behind it: a pattern needs an initialiser, and so does a `const`
unfoldable pub declared_by : Bytes → Readers → Context → Bool → Binding → ℕ → Token → Option (Decl × Stop)
declared_by text r c is_const x p t =
    if is_mark text (codes "=") t then decl_initialised text r c x.0 t
    else (if x.1 && not is_const then Some (decl x.0 None, stop p declared_name) else None)

unfoldable pub declared_behind : Bytes → Readers → Context → Bool → Binding → Ended Decl
declared_behind text r c is_const x p = token text Operator p >>= declared_by text r c is_const x p

unfoldable pub read_declared : Bytes → Readers → Context → Bool → Ended Decl
read_declared text r c is_const p = read_binding text r c p >>= λ x. declared_behind text r c is_const x.0 x.1

abbrev pub Decls : Type 0
Decls = List (Separated Decl)

unfoldable pub read_decls : Bytes → Readers → Context → Bool → ℕ → Option (Decls × Stop)
read_decls text r c is_const p = read_ended_list text (read_declared text r c is_const) p

unfoldable pub lex_behind : Bytes → Readers → Context → Bool → Token → Option (Lex × ℕ)
lex_behind text r c is_const t = read_decls text r c is_const t.end >>= λ xs. read_semi text xs.1 >>= λ s.
    Some (record { word = t; decls = xs.0; semi = s.0 }, s.1)

-- Lex: (`let` | `const`) Decl/, semi
unfoldable pub read_lex : Bytes → Readers → Context → Reader Lex
read_lex text r c p = token text Operand p >>= λ t.
    if is_word text (codes "let") t then lex_behind text r c false t
    else (if is_word text (codes "const") t then lex_behind text r c true t else None)

unfoldable pub var_behind : Bytes → Readers → Context → Token → Option (Var × ℕ)
var_behind text r c t = read_decls text r c false t.end >>= λ xs. read_semi text xs.1 >>= λ s.
    Some (record { word = t; decls = xs.0; semi = s.0 }, s.1)

-- Var: `var` Decl/, semi
unfoldable pub read_var : Bytes → Readers → Context → Reader Var
read_var text r c p = word text Operand (codes "var") p >>= var_behind text r c

-- `(` Expr `)`
abbrev pub Condition : Type 0
Condition = ConditionOf Expr

-- it ends where its `)` does
unfoldable pub read_condition : Bytes → Readers → Context → ℕ → Option Condition
read_condition text r c p = mark text Operand (codes "(") p >>= λ left. read_closed_expr text r (bracketed c) left.end >>= λ x.
    mark text Operator (codes ")") x.1 >>= λ right. Some (record { left = left; test = x.0; right = right })

-- For, from behind its head or its declarations on

unfoldable pub for_of : Bytes → Readers → Context → Token → Option Token → Token → Head → Token → Option (For × ℕ)
for_of text r c for_word await left head middle = r.assign (bracketed c) middle.end >>= λ x. mark text Operator (codes ")") x.1.at >>= λ right.
    r.stmt c right.end >>= λ body. Some (for_v.Of for_word await left head middle x.0 right body.0, body.1)

unfoldable pub for_in : Bytes → Readers → Context → Token → Token → Head → Token → Option (For × ℕ)
for_in text r c for_word left head middle = read_closed_expr text r (bracketed c) middle.end >>= λ x.
    mark text Operator (codes ")") x.1 >>= λ right. r.stmt c right.end >>= λ body. Some (for_v.In for_word left head middle x.0 right body.0, body.1)

unfoldable pub some_expr : Bytes → Readers → Context → Reader (Option Expr)
some_expr text r c p = read_closed_expr text r (bracketed c) p >>= λ x. Some (Some x.0, x.1)

-- Expr, unless the mark behind it stands already
unfoldable pub read_optional_expr : Bytes → Readers → Context → List ℕ → Reader (Option Expr)
read_optional_expr text r c closing p = token text Operand p >>= λ t. if is_mark text closing t then Some (None, p) else some_expr text r c p

unfoldable pub for_loop : Bytes → Readers → Context → Token → Token → Option Init → ℕ → Option (For × ℕ)
for_loop text r c for_word left init p = mark text Operator (codes ";") p >>= λ first.
    read_optional_expr text r c (codes ";") first.end >>= λ test. mark text Operator (codes ";") test.1 >>= λ second.
    read_optional_expr text r c (codes ")") second.end >>= λ update. mark text Operator (codes ")") update.1 >>= λ right.
    r.stmt c right.end >>= λ body. Some (for_v.Loop for_word left init first test.0 second update.0 right body.0, body.1)

-- what these declarations are, by their word
abbrev pub init_of : Bytes → Token → Decls → Init
init_of text t xs = if is_word text (codes "var") t then init_v.Var t xs else init_v.Lex (record { word = t; decls = xs; semi = None })

-- the declarations whose first binding was read
unfoldable pub decls_behind : Bytes → Readers → Context → Bool → Binding → ℕ → Token → Option (Decls × Stop)
decls_behind text r c is_const x p t = declared_by text r c is_const x p t >>= λ y. comma_or_end text y.0 y.1 >>=
    go_on [] (repeat (ended_turn text (read_declared text r c is_const)) (length text + 1))

unfoldable pub for_declared : Bytes → Readers → Context → Token → Token → Token → Binding → ℕ → Token → Option (For × ℕ)
for_declared text r c for_word left t x p u = decls_behind text r (without_in c) (is_word text (codes "const") t) x p u >>= λ xs.
    for_loop text r c for_word left (Some (init_of text t xs.0)) xs.1.at

-- a head or declarations, by the token behind the first binding
unfoldable pub for_binding_by : Bytes → Readers → Context → Token → Token → Token → Binding → ℕ → Token → Option (For × ℕ)
for_binding_by text r c for_word left t x p u =
    if is_word text (codes "of") u then for_of text r c for_word None left (head_v.Bind t x.0) u
    else (if is_word text (codes "in") u then for_in text r c for_word left (head_v.Bind t x.0) u
    else for_declared text r c for_word left t x p u)

unfoldable pub for_binding : Bytes → Readers → Context → Token → Token → Token → Option (For × ℕ)
for_binding text r c for_word left t = read_binding text r (without_in c) t.end >>= λ x.
    token text Operator x.1 >>= for_binding_by text r c for_word left t x.0 x.1

unfoldable pub for_target_by : Bytes → Readers → Context → Token → Token → Head → Token → Option (For × ℕ)
for_target_by text r c for_word left head u =
    if is_word text (codes "of") u then for_of text r c for_word None left head u
    else (if is_word text (codes "in") u then for_in text r c for_word left head u else None)

unfoldable pub for_target : Bytes → Readers → Context → Token → Token → Option (For × ℕ)
for_target text r c for_word left = read_target text r (without_in c) left.end >>= λ x.
    token text Operator x.1 >>= for_target_by text r c for_word left (head_v.Target x.0)

-- an Expr where `;` stands behind it, else a Target
abbrev pub for_expr_by : Bytes → Readers → Context → Token → Token → Option (Expr × Stop) → Option (For × ℕ)
for_expr_by text r c for_word left None = for_target text r c for_word left
for_expr_by text r c for_word left (Some x) =
    if holds (is_mark text (codes ";")) (token text Operator x.1.at) then for_loop text r c for_word left (Some (init_v.Expr x.0)) x.1.at
    else for_target text r c for_word left

unfoldable pub for_expr : Bytes → Readers → Context → Token → Token → Option (For × ℕ)
for_expr text r c for_word left = for_expr_by text r c for_word left (read_expr text r (without_in c) left.end)

unfoldable pub for_paren_by : Bytes → Readers → Context → Token → Token → Token → Option (For × ℕ)
for_paren_by text r c for_word left t =
    if is_mark text (codes ";") t then for_loop text r c for_word left None left.end
    else (if is_one_word text declaration_words t then for_binding text r c for_word left t else for_expr text r c for_word left)

unfoldable pub for_paren : Bytes → Readers → Context → Token → Token → Option (For × ℕ)
for_paren text r c for_word left = token text Operand left.end >>= for_paren_by text r c for_word left

unfoldable pub bind_head : Bytes → Readers → Context → Token → Option (Head × ℕ)
bind_head text r c t = read_bind text r c t.end >>= λ x. Some (head_v.Bind t x.0, x.1)

unfoldable pub target_head : Bytes → Readers → Context → Reader Head
target_head text r c p = read_target text r c p >>= λ x. Some (head_v.Target x.0, x.1)

-- Head: (`var` | `let` | `const`) Bind | Target
unfoldable pub read_head : Bytes → Readers → Context → Reader Head
read_head text r c p = token text Operand p >>= λ t. if is_one_word text declaration_words t then bind_head text r c t else target_head text r c p

unfoldable pub for_await : Bytes → Readers → Context → Token → Token → Option (For × ℕ)
for_await text r c for_word await = mark text Operand (codes "(") await.end >>= λ left. read_head text r (without_in c) left.end >>= λ head.
    word text Operator (codes "of") head.1 >>= for_of text r c for_word (Some await) left head.0

unfoldable pub for_by : Bytes → Readers → Context → Token → Token → Option (For × ℕ)
for_by text r c for_word t =
    if is_mark text (codes "(") t then for_paren text r c for_word t
    else (if c.has_await && is_word text (codes "await") t then for_await text r c for_word t else None)

-- For, whose word was seen
unfoldable pub for_behind : Bytes → Readers → Context → Token → Option (For × ℕ)
for_behind text r c for_word = token text Operand for_word.end >>= for_by text r c for_word

unfoldable pub read_for : Bytes → Readers → Context → Reader For
read_for text r c p = word text Operand (codes "for") p >>= for_behind text r c

-- the items of a clause end before these
unfoldable pub ends_clause : Bytes → Token → Bool
ends_clause text t = is_mark text (codes "}") t || is_one_word text (codes "case" ∷ codes "default" ∷ []) t

unfoldable pub read_clause_items : Bytes → Readers → Context → ℕ → Option (List Item × ℕ)
read_clause_items text r c p = all_turns text (chain_turn text (ends_clause text) (read_closed_item text r c)) p

unfoldable pub read_case : Bytes → Readers → Context → Reader Case
read_case text r c p = word text Operand (codes "case") p >>= λ t. read_closed_expr text r (bracketed c) t.end >>= λ x.
    mark text Operator (codes ":") x.1 >>= λ colon. read_clause_items text r c colon.end >>= λ xs. Some (case_v.Case t x.0 colon xs.0, xs.1)

unfoldable pub read_default_case : Bytes → Readers → Context → Token → Option (Case × ℕ)
read_default_case text r c t = mark text Operator (codes ":") t.end >>= λ colon. read_clause_items text r c colon.end >>= λ xs.
    Some (case_v.Default t colon xs.0, xs.1)

abbrev pub ends_cases : Bytes → Token → Bool
ends_cases text t = not (is_word text (codes "case") t)

-- clauses without `default`
unfoldable pub read_case_run : Bytes → Readers → Context → ℕ → Option (List Case × ℕ)
read_case_run text r c p = all_turns text (chain_turn text (ends_cases text) (read_case text r c)) p

unfoldable pub cases_with_default : Bytes → Readers → Context → List Case → Token → Option (List Case × ℕ)
cases_with_default text r c before t = read_default_case text r c t >>= λ x. read_case_run text r c x.1 >>= λ behind.
    Some (before ++ x.0 ∷ behind.0, behind.1)

unfoldable pub cases_behind : Bytes → Readers → Context → List Case → ℕ → Option (List Case × ℕ)
cases_behind text r c before p = token text Operand p >>= λ t.
    if is_word text (codes "default") t then cases_with_default text r c before t else Some (before, p)

-- clauses of which one at most is `default`
unfoldable pub read_cases : Bytes → Readers → Context → ℕ → Option (List Case × ℕ)
read_cases text r c p = read_case_run text r c p >>= λ xs. cases_behind text r c xs.0 xs.1

unfoldable pub else_behind : Readers → Context → Token → Option (Option (Else Stmt) × ℕ)
else_behind r c t = r.stmt c t.end >>= λ x. Some (Some (record { word = t; stmt = x.0 }), x.1)

abbrev pub else_by : Bytes → Readers → Context → ℕ → Option Token → Option (Option (Else Stmt) × ℕ)
else_by text r c p None = Some (None, p)
else_by text r c p (Some t) = if is_word text (codes "else") t then else_behind r c t else Some (None, p)

-- `else` Stmt, wherever `else` stands
unfoldable pub read_else : Bytes → Readers → Context → Reader (Option (Else Stmt))
read_else text r c p = else_by text r c p (token text Operand p)

-- a Name on the line of the word before it
abbrev pub is_label : Bytes → Context → Token → Bool
is_label text c t = is_name text c t && not t.newline

abbrev pub label_by : Bytes → Context → ℕ → Option Token → Option Token × ℕ
label_by text c p None = (None, p)
label_by text c p (Some t) = if is_label text c t then (Some t, t.end) else (None, p)

-- a label behind `continue` and `break`, on their line
unfoldable pub read_label : Bytes → Context → Reader (Option Token)
read_label text c p = Some (label_by text c p (token text Operand p))

-- an Expr, if the token behind it closes it
unfoldable pub read_ended_expr : Bytes → Readers → Context → Ended Expr
read_ended_expr text r c p = read_expr text r (bracketed c) p >>= λ x. if is_closed text x.1 then Some x else None

-- an Expr that begins on the line of the word before it
unfoldable pub read_expr_on_line : Bytes → Readers → Context → Ended Expr
read_expr_on_line text r c p = token text Operand p >>= λ t. if t.newline then None else read_ended_expr text r c p

-- a value stands behind `return`
abbrev pub begins_value : Bytes → Token → Bool
begins_value text t = not (t.newline || closes (codes "}" ∷ codes ";" ∷ []) t.kind (spelled text t))

unfoldable pub return_value : Bytes → Readers → Context → Token → Option (Stmt × ℕ)
return_value text r c t = read_expr_on_line text r c t.end >>= λ x. read_semi text x.1 >>= λ s. Some (stmt_v.Return t (Some x.0) s.0, s.1)

unfoldable pub return_alone : Bytes → Token → Option (Stmt × ℕ)
return_alone text t = read_semi text (stop t.end other) >>= λ s. Some (stmt_v.Return t None s.0, s.1)

unfoldable pub return_stmt : Bytes → Readers → Context → Token → Option (Stmt × ℕ)
return_stmt text r c t = if holds (begins_value text) (token text Operand t.end) then return_value text r c t else return_alone text t

unfoldable pub catch_parameter : Bytes → Readers → Context → Token → Option (Option (CatchParameter Bind) × ℕ)
catch_parameter text r c left = read_bind text r (bracketed c) left.end >>= λ x. mark text Operator (codes ")") x.1 >>= λ right.
    Some (Some (record { left = left; bind = x.0; right = right }), right.end)

unfoldable pub read_catch_parameter : Bytes → Readers → Context → Reader (Option (CatchParameter Bind))
read_catch_parameter text r c p = token text Operand p >>= λ t. if is_mark text (codes "(") t then catch_parameter text r c t else Some (None, p)

unfoldable pub finally_behind : Bytes → Readers → Context → Token → Option (Finally Item × ℕ)
finally_behind text r c t = read_body text r c t.end >>= λ x. Some (record { word = t; block = x.0 }, x.1)

unfoldable pub some_finally : Bytes → Readers → Context → Token → Option (Option (Finally Item) × ℕ)
some_finally text r c t = finally_behind text r c t >>= λ x. Some (Some x.0, x.1)

abbrev pub finally_by : Bytes → Readers → Context → ℕ → Option Token → Option (Option (Finally Item) × ℕ)
finally_by text r c p None = Some (None, p)
finally_by text r c p (Some t) = if is_word text (codes "finally") t then some_finally text r c t else Some (None, p)

unfoldable pub read_optional_finally : Bytes → Readers → Context → Reader (Option (Finally Item))
read_optional_finally text r c p = finally_by text r c p (token text Operand p)

unfoldable pub try_catch : Bytes → Readers → Context → Token → Body Item → Token → Option (Stmt × ℕ)
try_catch text r c t body catch = read_catch_parameter text r c catch.end >>= λ x. read_body text r c x.1 >>= λ handler.
    read_optional_finally text r c handler.1 >>= λ last. Some (stmt_v.TryCatch t body catch x.0 handler.0 last.0, last.1)

unfoldable pub try_finally : Bytes → Readers → Context → Token → Body Item → Token → Option (Stmt × ℕ)
try_finally text r c t body finally = finally_behind text r c finally >>= λ x. Some (stmt_v.TryFinally t body x.0, x.1)

unfoldable pub try_by : Bytes → Readers → Context → Token → Body Item → Token → Option (Stmt × ℕ)
try_by text r c t body u =
    if is_word text (codes "catch") u then try_catch text r c t body u
    else (if is_word text (codes "finally") u then try_finally text r c t body u else None)

unfoldable pub try_stmt : Bytes → Readers → Context → Token → Option (Stmt × ℕ)
try_stmt text r c t = read_body text r c t.end >>= λ body. token text Operand body.1 >>= try_by text r c t body.0

unfoldable pub block_stmt : Bytes → Readers → Context → Token → Option (Stmt × ℕ)
block_stmt text r c left = body_behind text r c left >>= λ x. Some (stmt_v.Block x.0, x.1)

unfoldable pub var_stmt : Bytes → Readers → Context → Token → Option (Stmt × ℕ)
var_stmt text r c t = var_behind text r (bracketed c) t >>= λ x. Some (stmt_v.Var x.0, x.1)

unfoldable pub if_stmt : Bytes → Readers → Context → Token → Option (Stmt × ℕ)
if_stmt text r c t = read_condition text r c t.end >>= λ x. r.stmt c x.right.end >>= λ body. read_else text r c body.1 >>= λ otherwise.
    Some (stmt_v.If t x.left x.test x.right body.0 otherwise.0, otherwise.1)

unfoldable pub for_stmt : Bytes → Readers → Context → Token → Option (Stmt × ℕ)
for_stmt text r c t = for_behind text r c t >>= λ x. Some (stmt_v.For x.0, x.1)

unfoldable pub while_stmt : Bytes → Readers → Context → Token → Option (Stmt × ℕ)
while_stmt text r c t = read_condition text r c t.end >>= λ x. r.stmt c x.right.end >>= λ body.
    Some (stmt_v.While t x.left x.test x.right body.0, body.1)

unfoldable pub do_stmt : Bytes → Readers → Context → Token → Option (Stmt × ℕ)
do_stmt text r c t = r.stmt c t.end >>= λ body. word text Operand (codes "while") body.1 >>= λ u. read_condition text r c u.end >>= λ x.
    read_free_semi text x.right.end >>= λ s. Some (stmt_v.Do t body.0 u x.left x.test x.right s.0, s.1)

unfoldable pub continue_stmt : Bytes → Context → Token → Option (Stmt × ℕ)
continue_stmt text c t = read_label text c t.end >>= λ label. read_semi text (stop label.1 other) >>= λ s. Some (stmt_v.Continue t label.0 s.0, s.1)

unfoldable pub break_stmt : Bytes → Context → Token → Option (Stmt × ℕ)
break_stmt text c t = read_label text c t.end >>= λ label. read_semi text (stop label.1 other) >>= λ s. Some (stmt_v.Break t label.0 s.0, s.1)

unfoldable pub with_stmt : Bytes → Readers → Context → Token → Option (Stmt × ℕ)
with_stmt text r c t = read_condition text r c t.end >>= λ x. r.stmt c x.right.end >>= λ body.
    Some (stmt_v.With t x.left x.test x.right body.0, body.1)

unfoldable pub switch_stmt : Bytes → Readers → Context → Token → Option (Stmt × ℕ)
switch_stmt text r c t = read_condition text r c t.end >>= λ x. mark text Operand (codes "{") x.right.end >>= λ brace.
    read_cases text r c brace.end >>= λ cases. mark text Operand (codes "}") cases.1 >>= λ last.
    Some (stmt_v.Switch t x.left x.test x.right brace cases.0 last, last.end)

unfoldable pub throw_stmt : Bytes → Readers → Context → Token → Option (Stmt × ℕ)
throw_stmt text r c t = read_expr_on_line text r c t.end >>= λ x. read_semi text x.1 >>= λ s. Some (stmt_v.Throw t x.0 s.0, s.1)

unfoldable pub debugger_stmt : Bytes → Token → Option (Stmt × ℕ)
debugger_stmt text t = read_semi text (stop t.end other) >>= λ s. Some (stmt_v.Debugger t s.0, s.1)

-- an Expr; what it doesn't begin with is asked before
unfoldable pub expr_stmt : Bytes → Readers → Context → Reader Stmt
expr_stmt text r c p = read_ended_expr text r c p >>= λ x. read_semi text x.1 >>= λ s. Some (stmt_v.Expr x.0 s.0, s.1)

unfoldable pub labelled_stmt : Readers → Context → Token → Token → Option (Stmt × ℕ)
labelled_stmt r c t colon = r.stmt c colon.end >>= λ body. Some (stmt_v.Labelled t colon body.0, body.1)

unfoldable pub name_stmt : Bytes → Readers → Context → ℕ → Token → Option (Stmt × ℕ)
name_stmt text r c p t = token text Operator t.end >>= λ u. if is_mark text (codes ":") u then labelled_stmt r c t u else expr_stmt text r c p

-- a token that begins a function or a class
unfoldable pub begins_declaration : Bytes → Token → Bool
begins_declaration text t = is_one_word text (codes "function" ∷ codes "class" ∷ []) t || begins_async_function text t

unfoldable pub plain_stmt : Bytes → Readers → Context → ℕ → Token → Option (Stmt × ℕ)
plain_stmt text r c p t =
    if begins_declaration text t then None else (if is_name text c t then name_stmt text r c p t else expr_stmt text r c p)

unfoldable pub other_stmt : Bytes → Readers → Context → ℕ → Token → Option (Stmt × ℕ)
other_stmt text r c p t =
    if is_word text (codes "with") t then with_stmt text r c t
    else (if is_word text (codes "switch") t then switch_stmt text r c t
    else (if is_word text (codes "throw") t then throw_stmt text r c t
    else (if is_word text (codes "try") t then try_stmt text r c t
    else (if is_word text (codes "debugger") t then debugger_stmt text t else plain_stmt text r c p t))))

unfoldable pub jump_stmt : Bytes → Readers → Context → ℕ → Token → Option (Stmt × ℕ)
jump_stmt text r c p t =
    if is_word text (codes "continue") t then continue_stmt text c t
    else (if is_word text (codes "break") t then break_stmt text c t
    else (if is_word text (codes "return") t then (if c.has_return then return_stmt text r c t else None)
    else other_stmt text r c p t))

unfoldable pub word_stmt : Bytes → Readers → Context → ℕ → Token → Option (Stmt × ℕ)
word_stmt text r c p t =
    if is_word text (codes "var") t then var_stmt text r c t
    else (if is_word text (codes "if") t then if_stmt text r c t
    else (if is_word text (codes "for") t then for_stmt text r c t
    else (if is_word text (codes "while") t then while_stmt text r c t
    else (if is_word text (codes "do") t then do_stmt text r c t else jump_stmt text r c p t))))

-- Stmt, whose first token was seen
unfoldable pub stmt_by : Bytes → Readers → Context → ℕ → Token → Option (Stmt × ℕ)
stmt_by text r c p t =
    if is_mark text (codes "{") t then block_stmt text r c t
    else (if is_mark text (codes ";") t then Some (stmt_v.Empty t, t.end) else word_stmt text r c p t)

-- Stmt
unfoldable pub read_stmt : Bytes → Readers → Context → Reader Stmt
read_stmt text r c p = token text Operand p >>= stmt_by text r c p

unfoldable pub lex_item : Bytes → Readers → Context → Reader Item
lex_item text r c p = read_lex text r (bracketed c) p >>= λ x. Some (item_v.Lex x.0, x.1)

unfoldable pub func_item : Bytes → Readers → Context → Bool → Reader Item
func_item text r c named p = read_func text r c named p >>= λ x. Some (item_v.Func x.0, x.1)

unfoldable pub class_item : Bytes → Readers → Context → Bool → Reader Item
class_item text r c named p = read_class text r c named p >>= λ x. Some (item_v.Class x.0, x.1)

-- a function or a class, by its first token
unfoldable pub declaration_item : Bytes → Readers → Context → Bool → ℕ → Token → Option (Item × ℕ)
declaration_item text r c named p t = if is_word text (codes "class") t then class_item text r c named p else func_item text r c named p

unfoldable pub stmt_item : Bytes → Readers → Context → ℕ → Token → Option (Item × ℕ)
stmt_item text r c p t = stmt_by text r c p t >>= λ x. Some (item_v.Stmt x.0, x.1)

unfoldable pub item_by : Bytes → Readers → Context → ℕ → Token → Option (Item × ℕ)
item_by text r c p t =
    if is_one_word text (codes "let" ∷ codes "const" ∷ []) t then lex_item text r c p
    else (if begins_declaration text t then declaration_item text r c true p t else stmt_item text r c p t)

-- Item: Stmt | Lex | Func | Class
unfoldable pub read_item : Bytes → Readers → Context → Reader Item
read_item text r c p = token text Operand p >>= item_by text r c p
