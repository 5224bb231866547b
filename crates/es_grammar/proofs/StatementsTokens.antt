-- The tokens of statements and items stand where their production does.
use Rattle.std.specs.Prelude.{ℕ, Bool, List, Option, Some, None}
use Rattle.es_tree.specs.declared.tokens.Token.{Token}
use Rattle.es_tree.specs.declared.parts.Else.{Else}
use Rattle.es_tree.specs.declared.parts.CatchParameter.{CatchParameter}
use Rattle.es_tree.specs.declared.parts.Finally.{Finally}
use Rattle.es_tree.specs.declared.cycle.Item.{Item}
use Rattle.es_tree.specs.declared.cycle.Decl.{Decl}
use Rattle.es_tree.specs.declared.cycle.Case.{Case}
use Rattle.es_tree.specs.declared.cycle.Stmt.{Stmt}
use Rattle.es_tree.specs.declared.cycle.Init.{Init}
use Rattle.es_tree.specs.declared.cycle.For.{For}
use Rattle.es_tree.specs.declared.cycle.Head.{Head}
use Rattle.es_tree.specs.declared.cycle.Bind.{Bind}
use Rattle.es_tree.specs.Yield.{one, opt, listed, else_tokens, catch_parameter_tokens, finally_tokens, item_tokens, decl_tokens, case_tokens, stmt_tokens, init_tokens, for_tokens, head_tokens, bind_tokens, lex_tokens, var_tokens, expr_tokens}
use Rattle.es_grammar.specs.declared.places.Context.{Context}
use Rattle.es_grammar.specs.Reading.{Bytes}
use Rattle.es_grammar.specs.declared.places.Stop.{Stop}
use Rattle.es_grammar.specs.Rules.{Rules}
use Rattle.es_grammar.specs.Statements.{DeclaredAt, LexicalAt, Lex, Var, LexAt, VarAt, InitAt, OptionalInitAt, OptionalExprAt, HeadAt, ForAwaitAt, ForAt, CaseAt, CasesAt, ElseAt, LabelAt, ExprOnLineAt, CatchParameterAt, FinallyAt, OptionalFinallyAt, StmtAt, ItemAt}
use Rattle.es_grammar.specs.Expressions.{Expr}
use Rattle.es_grammar.specs.Tokens.{TokensAt}
use Rattle.es_grammar.proofs.Laws.{item-Stmt, item-Lex, item-Func, item-Class, case-Case, case-Default, stmt-Block, stmt-Empty, stmt-Var, stmt-If, stmt-For, stmt-While, stmt-Do, stmt-Continue, stmt-Break, stmt-Return, stmt-With, stmt-Switch, stmt-Labelled, stmt-Throw, stmt-TryCatch, stmt-TryFinally, stmt-Debugger, stmt-Expr, init-Var, init-Lex, init-Expr, for-Loop, for-In, for-Of, head-Bind, head-Target}
use Rattle.es_grammar.proofs.Standing.{over, nothing, mark_at, word_at, one_word_at, name_at, semi_stands, free_semi_stands, chain_stands, ended_list_stands, ◌▹◌}
use Rattle.es_grammar.proofs.Tells.{Tells}
use Rattle.es_grammar.proofs.FunctionsTokens.{bind_stands, decl_stands, closed_item_stands, body_stands, func_stands, class_stands}
use Rattle.es_grammar.proofs.ExpressionsTokens.{expr_stands, closed_expr_stands}
use Rattle.es_grammar.proofs.TargetsTokens.{target_stands}

pub declared_stands : {text : Bytes} {r : Rules} {c : Context} {is_const : Bool} {p : ℕ} {x : Decl} {s : Stop} (t : Tells text r)
    → DeclaredAt text r c is_const p x s → TokensAt text p (decl_tokens x) s.at
declared_stands t (DeclaredAt.name token h1 h2) = decl_stands t h2
declared_stands t (DeclaredAt.initialised x i h1) = decl_stands t h1

pub lexical_stands : {text : Bytes} {p : ℕ} {x : Token} {b : Bool} → LexicalAt text p x b → TokensAt text p (one x) x.end
lexical_stands (LexicalAt.let_word token h1) = word_at h1
lexical_stands (LexicalAt.const_word token h1) = word_at h1

pub lex_stands : {text : Bytes} {r : Rules} {c : Context} {p : ℕ} {x : Lex} {q : ℕ} (t : Tells text r) → LexAt text r c p x q
    → TokensAt text p (lex_tokens x) q
lex_stands t (LexAt.lex word xs semi h1 h2 h3) =
    lexical_stands h1 ▹ ended_list_stands decl_tokens h2 (λ p x q h. declared_stands t h) ▹ semi_stands h3

pub var_stands : {text : Bytes} {r : Rules} {c : Context} {p : ℕ} {x : Var} {q : ℕ} (t : Tells text r) → VarAt text r c p x q
    → TokensAt text p (var_tokens x) q
var_stands t (VarAt.var word xs semi h1 h2 h3) = word_at h1 ▹ ended_list_stands decl_tokens h2 (λ p x q h. declared_stands t h) ▹ semi_stands h3

pub init_stands : {text : Bytes} {r : Rules} {c : Context} {p : ℕ} {x : Init} {q : ℕ} (t : Tells text r) → InitAt text r c p x q
    → TokensAt text p (init_tokens x) q
init_stands t (InitAt.var word xs h1 h2) = over (init-Var word xs) (word_at h1 ▹ ended_list_stands decl_tokens h2 (λ p x q h. declared_stands t h))
init_stands t (InitAt.lex word xs h1 h2) =
    over (init-Lex (record { word = word; decls = xs; semi = None })) (lexical_stands h1
    ▹ ended_list_stands decl_tokens h2 (λ p x q h. declared_stands t h) ▹ nothing)
init_stands t (InitAt.expr x h1) = over (init-Expr x) (closed_expr_stands t h1)

pub optional_init_stands : {text : Bytes} {r : Rules} {c : Context} {p : ℕ} {x : Option Init} {q : ℕ} (t : Tells text r)
    → OptionalInitAt text r c p x q → TokensAt text p (opt init_tokens x) q
optional_init_stands t OptionalInitAt.none = nothing
optional_init_stands t (OptionalInitAt.some x h1) = init_stands t h1

pub optional_expr_stands : {text : Bytes} {r : Rules} {c : Context} {p : ℕ} {x : Option Expr} {q : ℕ} (t : Tells text r)
    → OptionalExprAt text r c p x q → TokensAt text p (opt expr_tokens x) q
optional_expr_stands t OptionalExprAt.none = nothing
optional_expr_stands t (OptionalExprAt.some x h1) = closed_expr_stands t h1

pub head_stands : {text : Bytes} {r : Rules} {c : Context} {p : ℕ} {x : Head} {q : ℕ} (t : Tells text r) → HeadAt text r c p x q
    → TokensAt text p (head_tokens x) q
head_stands t (HeadAt.bind word x h1 h2) = over (head-Bind word x) (one_word_at h1 ▹ bind_stands t h2)
head_stands t (HeadAt.target x h1) = over (head-Target x) (target_stands t h1)

pub for_await_stands : {text : Bytes} {c : Context} {p : ℕ} {x : Option Token} {q : ℕ} → ForAwaitAt text c p x q → TokensAt text p (opt one x) q
for_await_stands ForAwaitAt.none = nothing
for_await_stands (ForAwaitAt.word token h1 h2) = word_at h2

pub for_stands : {text : Bytes} {r : Rules} {c : Context} {p : ℕ} {x : For} {q : ℕ} (t : Tells text r) → ForAt text r c p x q
    → TokensAt text p (for_tokens x) q
for_stands t (ForAt.loop word left init first test second update right body h1 h2 h3 h4 h5 h6 h7 h8 h9) =
    over (for-Loop word left init first test second update right body) (word_at h1 ▹ mark_at h2 ▹ optional_init_stands t h3 ▹ mark_at h4
    ▹ optional_expr_stands t h5 ▹ mark_at h6 ▹ optional_expr_stands t h7 ▹ mark_at h8 ▹ t.stmt _ _ _ _ h9)
for_stands t (ForAt.in_object word left head middle x right body h1 h2 h3 h4 h5 h6 h7) =
    over (for-In word left head middle x right body) (word_at h1 ▹ mark_at h2 ▹ head_stands t h3 ▹ word_at h4 ▹ closed_expr_stands t h5 ▹ mark_at h6
    ▹ t.stmt _ _ _ _ h7)
for_stands t (ForAt.of_iterable word await left head middle x right body h1 h2 h3 h4 h5 h6 h7 h8) =
    over (for-Of word await left head middle x right body) (word_at h1 ▹ for_await_stands h2 ▹ mark_at h3 ▹ head_stands t h4 ▹ word_at h5
    ▹ t.assign _ _ _ _ h6 ▹ mark_at h7 ▹ t.stmt _ _ _ _ h8)

pub case_stands : {text : Bytes} {r : Rules} {c : Context} {p : ℕ} {x : Case} {q : ℕ} (t : Tells text r) → CaseAt text r c p x q
    → TokensAt text p (case_tokens x) q
case_stands t (CaseAt.case word x colon xs h1 h2 h3 h4) =
    over (case-Case word x colon xs) (word_at h1 ▹ closed_expr_stands t h2 ▹ mark_at h3
    ▹ chain_stands item_tokens h4 (λ p x q h. closed_item_stands t h))
case_stands t (CaseAt.default word colon xs h1 h2 h3) =
    over (case-Default word colon xs) (word_at h1 ▹ mark_at h2 ▹ chain_stands item_tokens h3 (λ p x q h. closed_item_stands t h))

pub cases_stands : {text : Bytes} {r : Rules} {c : Context} {seen : Bool} {p : ℕ} {x : List Case} {q : ℕ} (t : Tells text r)
    → CasesAt text r c seen p x q → TokensAt text p (listed case_tokens x) q
cases_stands t CasesAt.none = nothing
cases_stands t (CasesAt.case word x colon xs rest h1 h2) = case_stands t h1 ▹ cases_stands t h2
cases_stands t (CasesAt.default word colon xs rest h1 h2) = case_stands t h1 ▹ cases_stands t h2

pub else_stands : {text : Bytes} {r : Rules} {c : Context} {p : ℕ} {x : Option (Else Stmt)} {q : ℕ} (t : Tells text r) → ElseAt text r c p x q
    → TokensAt text p (opt (else_tokens stmt_tokens) x) q
else_stands t (ElseAt.none h1) = nothing
else_stands t (ElseAt.word token x h1 h2) = word_at h1 ▹ t.stmt _ _ _ _ h2

pub label_stands : {text : Bytes} {c : Context} {p : ℕ} {x : Option Token} {q : ℕ} → LabelAt text c p x q → TokensAt text p (opt one x) q
label_stands LabelAt.none = nothing
label_stands (LabelAt.name token h1 h2) = name_at h1

pub expr_on_line_stands : {text : Bytes} {r : Rules} {c : Context} {p : ℕ} {x : Expr} {s : Stop} (t : Tells text r) → ExprOnLineAt text r c p x s
    → TokensAt text p (expr_tokens x) s.at
expr_on_line_stands t (ExprOnLineAt.expr x next h1 h2 h3 h4) = expr_stands t h3

pub catch_parameter_stands : {text : Bytes} {r : Rules} {c : Context} {p : ℕ} {x : Option (CatchParameter Bind)} {q : ℕ} (t : Tells text r)
    → CatchParameterAt text r c p x q → TokensAt text p (opt (catch_parameter_tokens bind_tokens) x) q
catch_parameter_stands t CatchParameterAt.none = nothing
catch_parameter_stands t (CatchParameterAt.bind left x right h1 h2 h3) = mark_at h1 ▹ bind_stands t h2 ▹ mark_at h3

pub finally_stands : {text : Bytes} {r : Rules} {c : Context} {p : ℕ} {x : Finally Item} {q : ℕ} (t : Tells text r) → FinallyAt text r c p x q
    → TokensAt text p (finally_tokens item_tokens x) q
finally_stands t (FinallyAt.finally word x h1 h2) = word_at h1 ▹ body_stands t h2

pub optional_finally_stands : {text : Bytes} {r : Rules} {c : Context} {p : ℕ} {x : Option (Finally Item)} {q : ℕ} (t : Tells text r)
    → OptionalFinallyAt text r c p x q → TokensAt text p (opt (finally_tokens item_tokens) x) q
optional_finally_stands t OptionalFinallyAt.none = nothing
optional_finally_stands t (OptionalFinallyAt.some x h1) = finally_stands t h1

pub stmt_stands : {text : Bytes} {r : Rules} {c : Context} {p : ℕ} {x : Stmt} {q : ℕ} (t : Tells text r) → StmtAt text r c p x q
    → TokensAt text p (stmt_tokens x) q
stmt_stands t (StmtAt.block x h1) = over (stmt-Block x) (body_stands t h1)
stmt_stands t (StmtAt.empty token h1) = over (stmt-Empty token) (mark_at h1)
stmt_stands t (StmtAt.var x h1) = over (stmt-Var x) (var_stands t h1)
stmt_stands t (StmtAt.if word left x right body otherwise h1 h2 h3 h4 h5 h6) =
    over (stmt-If word left x right body otherwise) (word_at h1 ▹ mark_at h2 ▹ closed_expr_stands t h3 ▹ mark_at h4 ▹ t.stmt _ _ _ _ h5
    ▹ else_stands t h6)
stmt_stands t (StmtAt.for x h1) = over (stmt-For x) (for_stands t h1)
stmt_stands t (StmtAt.while word left x right body h1 h2 h3 h4 h5) =
    over (stmt-While word left x right body) (word_at h1 ▹ mark_at h2 ▹ closed_expr_stands t h3 ▹ mark_at h4 ▹ t.stmt _ _ _ _ h5)
stmt_stands t (StmtAt.do_while word body while_word left x right semi h1 h2 h3 h4 h5 h6 h7) =
    over (stmt-Do word body while_word left x right semi) (word_at h1 ▹ t.stmt _ _ _ _ h2 ▹ word_at h3 ▹ mark_at h4 ▹ closed_expr_stands t h5
    ▹ mark_at h6 ▹ free_semi_stands h7)
stmt_stands t (StmtAt.continue word label semi h1 h2 h3) = over (stmt-Continue word label semi) (word_at h1 ▹ label_stands h2 ▹ semi_stands h3)
stmt_stands t (StmtAt.break word label semi h1 h2 h3) = over (stmt-Break word label semi) (word_at h1 ▹ label_stands h2 ▹ semi_stands h3)
stmt_stands t (StmtAt.return word semi h1 h2 h3) = over (stmt-Return word None semi) (word_at h2 ▹ nothing ▹ semi_stands h3)
stmt_stands t (StmtAt.return_value word x semi h1 h2 h3 h4) =
    over (stmt-Return word (Some x) semi) (word_at h2 ▹ expr_on_line_stands t h3 ▹ semi_stands h4)
stmt_stands t (StmtAt.with word left x right body h1 h2 h3 h4 h5) =
    over (stmt-With word left x right body) (word_at h1 ▹ mark_at h2 ▹ closed_expr_stands t h3 ▹ mark_at h4 ▹ t.stmt _ _ _ _ h5)
stmt_stands t (StmtAt.switch word left x right brace cases last h1 h2 h3 h4 h5 h6 h7) =
    over (stmt-Switch word left x right brace cases last) (word_at h1 ▹ mark_at h2 ▹ closed_expr_stands t h3 ▹ mark_at h4 ▹ mark_at h5
    ▹ cases_stands t h6 ▹ mark_at h7)
stmt_stands t (StmtAt.labelled name colon body h1 h2 h3) = over (stmt-Labelled name colon body) (name_at h1 ▹ mark_at h2 ▹ t.stmt _ _ _ _ h3)
stmt_stands t (StmtAt.throw word x semi h1 h2 h3) = over (stmt-Throw word x semi) (word_at h1 ▹ expr_on_line_stands t h2 ▹ semi_stands h3)
stmt_stands t (StmtAt.try_catch word body catch_word parameter handler last h1 h2 h3 h4 h5 h6) =
    over (stmt-TryCatch word body catch_word parameter handler last) (word_at h1 ▹ body_stands t h2 ▹ word_at h3 ▹ catch_parameter_stands t h4
    ▹ body_stands t h5 ▹ optional_finally_stands t h6)
stmt_stands t (StmtAt.try_finally word body last h1 h2 h3) =
    over (stmt-TryFinally word body last) (word_at h1 ▹ body_stands t h2 ▹ finally_stands t h3)
stmt_stands t (StmtAt.debugger word semi h1 h2) = over (stmt-Debugger word semi) (word_at h1 ▹ semi_stands h2)
stmt_stands t (StmtAt.expr x semi h1 h2 h3 h4 h5) = over (stmt-Expr x semi) (expr_stands t h3 ▹ semi_stands h5)

pub item_stands : {text : Bytes} {r : Rules} {c : Context} {p : ℕ} {x : Item} {q : ℕ} (t : Tells text r) → ItemAt text r c p x q
    → TokensAt text p (item_tokens x) q
item_stands t (ItemAt.stmt x h1) = over (item-Stmt x) (stmt_stands t h1)
item_stands t (ItemAt.lex x h1) = over (item-Lex x) (lex_stands t h1)
item_stands t (ItemAt.func x h1) = over (item-Func x) (func_stands t h1)
item_stands t (ItemAt.class x h1) = over (item-Class x) (class_stands t h1)
