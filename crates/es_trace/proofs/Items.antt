-- Items, blocks and clauses are traced as they are read.
use Rattle.std.proofs.Common.{◌≡◌, ℕ, Bool, true, false, List, [], ◌∷◌, ◌++◌, Option, Some, None, codes, length, ◌+◌, refl, ap, sym, ◌∙◌, ◌&&◌, ◌||◌, arith, if◌then◌else◌}
use Rattle.es_tree.specs.declared.tokens.Token.{Token}
use Rattle.es_tree.specs.declared.tokens.Goal.TheVariants.{Operand, Operator}
use Rattle.es_tree.specs.declared.parts.Body.{Body}
use Rattle.es_tree.specs.declared.parts.CatchParameter.{CatchParameter}
use Rattle.es_tree.specs.declared.parts.Else.{Else}
use Rattle.es_tree.specs.declared.parts.Finally.{Finally}
use Rattle.es_tree.specs.declared.cycle.Bind.{Bind}
use Rattle.es_tree.specs.declared.cycle.Case.{Case}
use Rattle.es_tree.specs.declared.cycle.Case.TheVariants as case_v
use Rattle.es_tree.specs.declared.cycle.Item.{Item}
use Rattle.es_tree.specs.declared.cycle.Item.TheVariants as item_v
use Rattle.es_tree.specs.declared.cycle.Stmt.{Stmt}
use Rattle.es_tree.specs.declared.cycle.Stmt.TheVariants as stmt_v
use Rattle.es_grammar.specs.declared.places.Context.{Context}
use Rattle.es_grammar.specs.declared.places.Stop.{Stop}
use Rattle.es_grammar.specs.Contexts.{bracketed}
use Rattle.es_grammar.specs.Expressions.{Expr}
use Rattle.es_grammar.specs.Reading.{Bytes, spelled}
use Rattle.es_grammar.specs.Semicolons.{stop, other}
use Rattle.es_outline.specs.declared.mark.Part.TheVariants as part
use Rattle.es_outline.specs.declared.mark.Role.TheVariants as is
use Rattle.es_outline.specs.Outline.{◌⨾◌, Lays, Marks, begin, end, listed, one, opt, semicolon, told, within, bind_marks, block_marks, body_marks, case_marks, catch_parameter_marks, class_marks, else_marks, expr_marks, finally_marks, for_marks, func_marks, item_marks, lex_marks, stmt_marks, var_marks}
use Rattle.es_outline.proofs.Laws.{case-Case, case-Default, item-Class, item-Func, item-Lex, item-Stmt, stmt-Block, stmt-Break, stmt-Continue, stmt-Debugger, stmt-Do, stmt-Empty, stmt-Expr, stmt-For, stmt-If, stmt-Labelled, stmt-Return, stmt-Switch, stmt-Throw, stmt-TryCatch, stmt-TryFinally, stmt-Var, stmt-While, stmt-With}
use Rattle.std.specs.Str.{bytes_eq}
use Rattle.std.proofs.lemmas.Slice.Eq.{bytes_eq-Decides}
use Rattle.es_grammar.specs.Statements.{Lex}
use Rattle.es_reader.specs.Basics.{◌>>=◌, is_id_name, token, is_mark, is_name, is_one_word, is_word, mark, word}
use Rattle.es_reader.specs.Expressions as expressions
use Rattle.es_reader.specs.Functions as functions
use Rattle.es_reader.specs.Lists as read_lists
use Rattle.es_reader.specs.Loops as loops
use Rattle.es_reader.specs.Readers.{Readers}
use Rattle.es_reader.specs.Semis.{holds, is_closed, read_free_semi, read_semi}
use Rattle.es_reader.specs.Statements as reads
use Rattle.es_reader.specs.declared.pieces.ConditionOf.{ConditionOf}
use Rattle.es_trace.specs.Basics.{Traced, Tracer, laid}
use Rattle.es_trace.specs.Expressions.{trace_closed_expr, trace_expr}
use Rattle.es_trace.specs.Following.{AreFollowing, Follows}
use Rattle.es_trace.specs.Functions.{body_behind, trace_body, trace_class, trace_closed_item, trace_func}
use Rattle.es_trace.specs.Lists.{chain_turn}
use Rattle.es_trace.specs.Loops.{all_turns, repeat}
use Rattle.es_trace.specs.Statements.{for_stmt, block_behind, cases_with_default, clause_behind, condition_and_stmt, declaration_item, do_stmt, else_by, expr_stmt, finally_by, if_stmt, item_by, jump_behind, jump_stmt, label_by, lex_behind, name_stmt, other_stmt, parameter_behind, plain_stmt, return_stmt, semi_behind, stmt_by, switch_stmt, trace_block, trace_case, trace_case_run, trace_cases, trace_catch_parameter, trace_clause_items, trace_condition, trace_else, trace_item, trace_label, trace_optional_finally, trace_stmt, try_catch, try_stmt, value_behind, var_behind, word_alone, word_stmt}
use Rattle.es_trace.specs.Tracers.{Tracers}
use Rattle.es_trace.proofs.Classes.{class_laid}
use Rattle.es_trace.proofs.Statements.{break_laid, condition_bind, condition_marks, continue_laid, debugger_laid, do_laid, expr_laid, if_laid, return_laid, throw_laid, while_laid, with_laid}
use Rattle.es_trace.proofs.Declarations.{lex_laid, var_laid}
use Rattle.es_trace.proofs.Functions.{bind_laid, body_behind_laid, body_laid, closed_item_laid}
use Rattle.es_trace.proofs.Heads.{FollowExpressions, for_laid}
use Rattle.es_trace.proofs.Methods.{func_laid}
use Rattle.es_trace.proofs.Lists.{at_place, chain_laid}
use Rattle.es_trace.proofs.Laying.{all_bind, assoc, laid_all, laid_as, laid_bind, laid_if, laid_repeat, law_at, listed_append, there_bind, mark_at, seen_bind}

let_is_not_const : codes "let" ≡ codes "const" → ⊥
let_is_not_const e = absurd (omega (ap length e, arith))

module _ (text : Bytes) {t : Tracers} {r : Readers} (follows : AreFollowing t r) where
  block_laid : (c : Context) → Follows (block_marks item_marks) (trace_block text t c) (functions.read_body text r c)
  unfolding trace_block
  block_laid c marks p = ended (functions.read_body text r c p) _ (body_laid text follows c (begin part.Block marks) p)
    where
      ended : (came : Option (Body Item × ℕ)) (traced : Traced ℕ) → traced ≡ laid (body_marks item_marks) (begin part.Block marks) came
          → (traced >>= λ x. Some (end part.Block x.0, x.1)) ≡ laid (block_marks item_marks) marks came
      ended None traced e = ap (λ o. o >>= λ x. Some (end part.Block x.0, x.1)) e
      ended (Some x) traced e = ap (λ o. o >>= λ y. Some (end part.Block y.0, y.1)) e

  block_stmt_laid : (c : Context) (marks : Marks) (left : Token)
      → block_behind text t c marks left ≡ laid stmt_marks marks (reads.block_stmt text r c left)
  unfolding block_behind reads.block_stmt
  block_stmt_laid c marks left = laid_bind (body_marks item_marks) (begin part.Block marks) (laid stmt_marks marks) refl _
      (functions.body_behind text r c left) _ _ (body_behind_laid text follows c _ left) (λ x. law_at (stmt-Block x.0) marks x.1)

  catch_parameter_laid : (c : Context)
      → Follows (opt (catch_parameter_marks bind_marks)) (trace_catch_parameter text t c) (reads.read_catch_parameter text r c)
  unfolding trace_catch_parameter parameter_behind reads.read_catch_parameter reads.catch_parameter
  catch_parameter_laid c marks p = seen_bind (laid (opt (catch_parameter_marks bind_marks)) marks) refl (token text Operand p) _ _ (λ u.
      laid_if (laid (opt (catch_parameter_marks bind_marks)) marks) (is_mark text (codes "(") u)
      (laid_bind bind_marks (one u marks) (laid (opt (catch_parameter_marks bind_marks)) marks) refl _ (functions.read_bind text r (bracketed c) u.end) _ _
      (bind_laid text follows (bracketed c) _ u.end) (λ x.
      seen_bind (laid (opt (catch_parameter_marks bind_marks)) marks) refl (mark text Operator (codes ")") x.1) _ _ (λ right. refl))) refl)

  finally_laid : (c : Context) (marks : Marks) (u : Token)
      → trace_block text t c (one u marks) u.end ≡ laid (finally_marks item_marks) marks (reads.finally_behind text r c u)
  unfolding reads.finally_behind
  finally_laid c marks u = laid_as (block_marks item_marks) (finally_marks item_marks) (one u marks) marks _ (functions.read_body text r c u.end)
      (λ x. record { word = u; block = x }) (block_laid c _ u.end) (λ x. refl)

  optional_finally_laid : (c : Context) → Follows (opt (finally_marks item_marks)) (trace_optional_finally text t c) (reads.read_optional_finally text r c)
  unfolding trace_optional_finally reads.read_optional_finally reads.some_finally
  optional_finally_laid c marks p = by_token (token text Operand p)
    where
      by_token : (o : Option Token) → finally_by text t c marks p o ≡ laid (opt (finally_marks item_marks)) marks (reads.finally_by text r c p o)
      by_token None = refl
      by_token (Some u) = laid_if (laid (opt (finally_marks item_marks)) marks) (is_word text (codes "finally") u)
          (laid_as (finally_marks item_marks) (opt (finally_marks item_marks)) marks marks _ (reads.finally_behind text r c u) (λ x. Some x)
          (finally_laid c marks u) (λ x. refl)) refl

  try_catch_laid : (c : Context) (marks : Marks) (u : Token) (body : Body Item) (catch : Token)
      → try_catch text t c (block_marks item_marks body (one u marks)) catch ≡ laid stmt_marks marks (reads.try_catch text r c u body catch)
  unfolding try_catch reads.try_catch
  try_catch_laid c marks u body catch = laid_bind (opt (catch_parameter_marks bind_marks))
      (begin part.Catch (one catch (block_marks item_marks body (one u marks)))) (laid stmt_marks marks) refl _
      (reads.read_catch_parameter text r c catch.end) _ _ (catch_parameter_laid c _ catch.end) (λ x.
      laid_bind (block_marks item_marks) (opt (catch_parameter_marks bind_marks) x.0 (begin part.Catch (one catch (block_marks item_marks body (one u marks)))))
      (laid stmt_marks marks) refl _ (functions.read_body text r c x.1) _ _ (block_laid c _ x.1) (λ handler.
      laid_as (opt (finally_marks item_marks)) stmt_marks _ marks _ (reads.read_optional_finally text r c handler.1)
      (λ last. stmt_v.TryCatch u body catch x.0 handler.0 last) (optional_finally_laid c _ handler.1)
      (λ last. mark_at (stmt-TryCatch u body catch x.0 handler.0 last) marks)))

  try_finally_laid : (c : Context) (marks : Marks) (u : Token) (body : Body Item) (last : Token)
      → trace_block text t c (one last (block_marks item_marks body (one u marks))) last.end ≡ laid stmt_marks marks (reads.try_finally text r c u body last)
  unfolding reads.try_finally
  try_finally_laid c marks u body last = laid_as (finally_marks item_marks) stmt_marks (block_marks item_marks body (one u marks)) marks _
      (reads.finally_behind text r c last) (λ x. stmt_v.TryFinally u body x) (finally_laid c _ last) (λ x. mark_at (stmt-TryFinally u body x) marks)

  try_laid : (c : Context) (marks : Marks) (u : Token) → try_stmt text t c marks u ≡ laid stmt_marks marks (reads.try_stmt text r c u)
  unfolding try_stmt reads.try_stmt reads.try_by
  try_laid c marks u = laid_bind (block_marks item_marks) (one u marks) (laid stmt_marks marks) refl _ (functions.read_body text r c u.end) _ _
      (block_laid c _ u.end) (λ body. seen_bind (laid stmt_marks marks) refl (token text Operand body.1) _ _ (λ v.
      laid_if (laid stmt_marks marks) (is_word text (codes "catch") v) (try_catch_laid c marks u body.0 v)
      (laid_if (laid stmt_marks marks) (is_word text (codes "finally") v) (try_finally_laid c marks u body.0 v) refl)))

  clause_items_laid : (c : Context) (marks : Marks) (p : ℕ)
      → trace_clause_items text t c marks p ≡ laid (listed item_marks) marks (reads.read_clause_items text r c p)
  unfolding trace_clause_items reads.read_clause_items
  clause_items_laid c marks p = laid_repeat item_marks at_place _ _ marks (λ found q. chain_laid text item_marks marks (reads.ends_clause text)
      (trace_closed_item text t c) (functions.read_closed_item text r c) (closed_item_laid text follows c) found q) (length text + 1) [] p
      ∙ same (loops.all_turns text (read_lists.chain_turn text (reads.ends_clause text) (functions.read_closed_item text r c)) p)
    where
      same : (came : Option (List Item × ℕ)) → laid_all item_marks at_place marks came ≡ laid (listed item_marks) marks came
      same None = refl
      same (Some xs) = refl

  default_case_laid : (c : Context) (marks : Marks) (u : Token)
      → clause_behind text t c (one u marks) u.end ≡ laid case_marks marks (reads.read_default_case text r c u)
  unfolding clause_behind reads.read_default_case
  default_case_laid c marks u = seen_bind (laid case_marks marks) refl (mark text Operator (codes ":") u.end) _ _ (λ colon.
      laid_as (listed item_marks) case_marks (one colon (one u marks)) marks _ (reads.read_clause_items text r c colon.end)
      (λ xs. case_v.Default u colon xs) (clause_items_laid c _ colon.end) (λ xs. mark_at (case-Default u colon xs) marks))

module _ (text : Bytes) {t : Tracers} {r : Readers} (follows : AreFollowing t r) (parts : FollowExpressions text t r) where
  case_laid : (c : Context) → Follows case_marks (trace_case text t c) (reads.read_case text r c)
  unfolding trace_case clause_behind reads.read_case
  case_laid c marks p = seen_bind (laid case_marks marks) refl (word text Operand (codes "case") p) _ _ (λ u.
      laid_bind expr_marks (one u marks) (laid case_marks marks) refl _ (expressions.read_closed_expr text r (bracketed c) u.end) _ _
      (parts.closed (bracketed c) _ u.end) (λ x. seen_bind (laid case_marks marks) refl (mark text Operator (codes ":") x.1) _ _ (λ colon.
      laid_as (listed item_marks) case_marks (one colon (expr_marks x.0 (one u marks))) marks _ (reads.read_clause_items text r c colon.end)
      (λ xs. case_v.Case u x.0 colon xs) (clause_items_laid text follows c _ colon.end) (λ xs. mark_at (case-Case u x.0 colon xs) marks))))

  case_run_laid : (c : Context) (marks : Marks) (p : ℕ)
      → trace_case_run text t c marks p ≡ laid (listed case_marks) marks (reads.read_case_run text r c p)
  unfolding trace_case_run reads.read_case_run
  case_run_laid c marks p = laid_repeat case_marks at_place _ _ marks (λ found q. chain_laid text case_marks marks (reads.ends_cases text)
      (trace_case text t c) (reads.read_case text r c) (case_laid c) found q) (length text + 1) [] p
      ∙ same (loops.all_turns text (read_lists.chain_turn text (reads.ends_cases text) (reads.read_case text r c)) p)
    where
      same : (came : Option (List Case × ℕ)) → laid_all case_marks at_place marks came ≡ laid (listed case_marks) marks came
      same None = refl
      same (Some xs) = refl

  with_default_laid : (c : Context) (marks : Marks) (before : List Case) (u : Token)
      → cases_with_default text t c (listed case_marks before marks) u ≡ laid (listed case_marks) marks (reads.cases_with_default text r c before u)
  unfolding cases_with_default reads.cases_with_default
  with_default_laid c marks before u = laid_bind case_marks (listed case_marks before marks) (laid (listed case_marks) marks) refl _
      (reads.read_default_case text r c u) _ _ (default_case_laid text follows c _ u) (λ x.
      laid_as (listed case_marks) (listed case_marks) (case_marks x.0 (listed case_marks before marks)) marks _ (reads.read_case_run text r c x.1)
      (λ behind. before ++ x.0 ∷ behind) (case_run_laid c _ x.1) (λ behind. sym (listed_append case_marks before (x.0 ∷ behind) marks)))

  cases_laid : (c : Context) (marks : Marks) (p : ℕ) → trace_cases text t c marks p ≡ laid (listed case_marks) marks (reads.read_cases text r c p)
  unfolding trace_cases reads.read_cases reads.cases_behind
  cases_laid c marks p = laid_bind (listed case_marks) marks (laid (listed case_marks) marks) refl _ (reads.read_case_run text r c p) _ _
      (case_run_laid c marks p) (λ xs. seen_bind (laid (listed case_marks) marks) refl (token text Operand xs.1) _ _ (λ u.
      laid_if (laid (listed case_marks) marks) (is_word text (codes "default") u) (with_default_laid c marks xs.0 u) refl))

  switch_laid : (c : Context) (marks : Marks) (u : Token) → switch_stmt text t c marks u ≡ laid stmt_marks marks (reads.switch_stmt text r c u)
  unfolding switch_stmt reads.switch_stmt
  switch_laid c marks u = condition_bind text follows parts (laid stmt_marks marks) refl c (one u marks) u.end _ _ (λ x.
      seen_bind (laid stmt_marks marks) refl (mark text Operand (codes "{") x.right.end) _ _ (λ brace.
      laid_bind (listed case_marks) (one brace (begin part.Switch (condition_marks x (one u marks)))) (laid stmt_marks marks) refl _
      (reads.read_cases text r c brace.end) _ _ (cases_laid c _ brace.end) (λ cases.
      seen_bind (laid stmt_marks marks) refl (mark text Operand (codes "}") cases.1) _ _ (λ last.
      law_at (stmt-Switch u x.left x.test x.right brace cases.0 last) marks last.end))))

  name_stmt_laid : (c : Context) (marks : Marks) (p : ℕ) (u : Token) → name_stmt text t c marks p u ≡ laid stmt_marks marks (reads.name_stmt text r c p u)
  unfolding name_stmt reads.name_stmt reads.labelled_stmt
  name_stmt_laid c marks p u = seen_bind (laid stmt_marks marks) refl (token text Operator u.end) _ _ (λ v.
      laid_if (laid stmt_marks marks) (is_mark text (codes ":") v)
      (laid_as stmt_marks stmt_marks (one v (told is.Label u marks)) marks _ (r.stmt c v.end) (λ x. stmt_v.Labelled u v x) (follows.stmt c _ v.end)
      (λ x. mark_at (stmt-Labelled u v x) marks)) (expr_laid text follows parts c marks p))

  plain_stmt_laid : (c : Context) (marks : Marks) (p : ℕ) (u : Token) → plain_stmt text t c marks p u ≡ laid stmt_marks marks (reads.plain_stmt text r c p u)
  unfolding plain_stmt reads.plain_stmt
  plain_stmt_laid c marks p u = laid_if (laid stmt_marks marks) (reads.begins_declaration text u) refl
      (laid_if (laid stmt_marks marks) (is_name text c u) (name_stmt_laid c marks p u) (expr_laid text follows parts c marks p))

  other_stmt_laid : (c : Context) (marks : Marks) (p : ℕ) (u : Token) → other_stmt text t c marks p u ≡ laid stmt_marks marks (reads.other_stmt text r c p u)
  unfolding other_stmt reads.other_stmt
  other_stmt_laid c marks p u = laid_if (laid stmt_marks marks) (is_word text (codes "with") u) (with_laid text follows parts c marks u)
      (laid_if (laid stmt_marks marks) (is_word text (codes "switch") u) (switch_laid c marks u)
      (laid_if (laid stmt_marks marks) (is_word text (codes "throw") u) (throw_laid text follows parts c marks u)
      (laid_if (laid stmt_marks marks) (is_word text (codes "try") u) (try_laid text follows c marks u)
      (laid_if (laid stmt_marks marks) (is_word text (codes "debugger") u) (debugger_laid text follows parts marks u) (plain_stmt_laid c marks p u)))))

  jump_stmt_laid : (c : Context) (marks : Marks) (p : ℕ) (u : Token) → jump_stmt text t c marks p u ≡ laid stmt_marks marks (reads.jump_stmt text r c p u)
  unfolding jump_stmt reads.jump_stmt
  jump_stmt_laid c marks p u = laid_if (laid stmt_marks marks) (is_word text (codes "continue") u) (continue_laid text follows parts c marks u)
      (laid_if (laid stmt_marks marks) (is_word text (codes "break") u) (break_laid text follows parts c marks u)
      (laid_if (laid stmt_marks marks) (is_word text (codes "return") u)
      (laid_if (laid stmt_marks marks) c.has_return (return_laid text follows parts c marks u) refl) (other_stmt_laid c marks p u)))

  var_stmt_laid : (c : Context) (marks : Marks) (u : Token) → var_behind text t (bracketed c) marks u ≡ laid stmt_marks marks (reads.var_stmt text r c u)
  unfolding reads.var_stmt
  var_stmt_laid c marks u = laid_as var_marks stmt_marks marks marks _ (reads.var_behind text r (bracketed c) u) (λ x. stmt_v.Var x)
      (var_laid text follows (bracketed c) marks u) (λ x. mark_at (stmt-Var x) marks)

  for_stmt_laid : (c : Context) (marks : Marks) (u : Token) → for_stmt text t c marks u ≡ laid stmt_marks marks (reads.for_stmt text r c u)
  unfolding reads.for_stmt
  for_stmt_laid c marks u = laid_as for_marks stmt_marks marks marks _ (reads.for_behind text r c u) (λ x. stmt_v.For x)
      (for_laid text follows parts c marks u) (λ x. mark_at (stmt-For x) marks)

  word_stmt_laid : (c : Context) (marks : Marks) (p : ℕ) (u : Token) → word_stmt text t c marks p u ≡ laid stmt_marks marks (reads.word_stmt text r c p u)
  unfolding word_stmt reads.word_stmt
  word_stmt_laid c marks p u = laid_if (laid stmt_marks marks) (is_word text (codes "var") u) (var_stmt_laid c marks u)
      (laid_if (laid stmt_marks marks) (is_word text (codes "if") u) (if_laid text follows parts c marks u)
      (laid_if (laid stmt_marks marks) (is_word text (codes "for") u) (for_stmt_laid c marks u)
      (laid_if (laid stmt_marks marks) (is_word text (codes "while") u) (while_laid text follows parts c marks u)
      (laid_if (laid stmt_marks marks) (is_word text (codes "do") u) (do_laid text follows parts c marks u) (jump_stmt_laid c marks p u)))))

  stmt_by_laid : (c : Context) (marks : Marks) (p : ℕ) (u : Token) → stmt_by text t c marks p u ≡ laid stmt_marks marks (reads.stmt_by text r c p u)
  unfolding stmt_by reads.stmt_by
  stmt_by_laid c marks p u = laid_if (laid stmt_marks marks) (is_mark text (codes "{") u) (block_stmt_laid text follows c marks u)
      (laid_if (laid stmt_marks marks) (is_mark text (codes ";") u) (law_at (stmt-Empty u) marks u.end) (word_stmt_laid c marks p u))

  pub stmt_laid : (c : Context) → Follows stmt_marks (trace_stmt text t c) (reads.read_stmt text r c)
  unfolding trace_stmt reads.read_stmt
  stmt_laid c marks p = seen_bind (laid stmt_marks marks) refl (token text Operand p) _ _ (λ u. stmt_by_laid c marks p u)

  pub declaration_laid : (c : Context) (must : Bool) (marks : Marks) (p : ℕ) (u : Token)
      → declaration_item text t c must marks p u ≡ laid item_marks marks (reads.declaration_item text r c must p u)
  unfolding declaration_item reads.declaration_item reads.class_item reads.func_item
  declaration_laid c must marks p u = laid_if (laid item_marks marks) (is_word text (codes "class") u)
      (laid_as class_marks item_marks marks marks _ (functions.read_class text r c must p) (λ x. item_v.Class x) (class_laid text follows c must marks p)
      (λ x. mark_at (item-Class x) marks))
      (laid_as func_marks item_marks marks marks _ (functions.read_func text r c must p) (λ x. item_v.Func x) (func_laid text follows c must marks p)
      (λ x. mark_at (item-Func x) marks))

  -- `let` or `const`, which one the word tells
  lex_is : (c : Context) (p : ℕ) (u : Token) → token text Operand p ≡ Some u → is_one_word text (codes "let" ∷ codes "const" ∷ []) u ≡ true
      → reads.read_lex text r c p ≡ reads.lex_behind text r c (is_word text (codes "const") u) u
  unfolding reads.read_lex is_word is_one_word
  lex_is c p u seen one_of = ap (λ o. o >>= by_word) seen ∙ by_bools (is_id_name u.kind) (bytes_eq (spelled text u) (codes "let"))
      (bytes_eq (spelled text u) (codes "const")) refl refl one_of
    where
      by_word : Token → Option (Lex × ℕ)
      by_word v = if is_word text (codes "let") v then reads.lex_behind text r c false v
          else (if is_word text (codes "const") v then reads.lex_behind text r c true v else None)

      by_bools : (id is_let is_const : Bool) → bytes_eq (spelled text u) (codes "let") ≡ is_let → bytes_eq (spelled text u) (codes "const") ≡ is_const
          → id && (is_let || (is_const || false)) ≡ true
          → (if id && is_let then reads.lex_behind text r c false u else (if id && is_const then reads.lex_behind text r c true u else None))
          ≡ reads.lex_behind text r c (id && is_const) u
      by_bools true true false l k one = refl
      by_bools true false true l k one = refl
      by_bools true true true l k one = absurd (let_is_not_const (sym ((bytes_eq-Decides (spelled text u) (codes "let")).0 l)
          ∙ (bytes_eq-Decides (spelled text u) (codes "const")).0 k))
      by_bools true false false l k one = absurd cc
      by_bools false is_let is_const l k one = absurd cc

  item_by_laid : (c : Context) (marks : Marks) (p : ℕ) (u : Token) → token text Operand p ≡ Some u
      → item_by text t c marks p u ≡ laid item_marks marks (reads.item_by text r c p u)
  unfolding item_by reads.item_by reads.lex_item reads.stmt_item
  item_by_laid c marks p u seen = by_word (is_one_word text (codes "let" ∷ codes "const" ∷ []) u) refl
    where
      lex_of : Option (Lex × ℕ) → Option (Item × ℕ)
      lex_of o = o >>= λ x. Some (item_v.Lex x.0, x.1)

      stmt_of : Option (Item × ℕ)
      stmt_of = reads.stmt_by text r c p u >>= λ x. Some (item_v.Stmt x.0, x.1)

      others : Traced ℕ
      others = if reads.begins_declaration text u then declaration_item text t c true marks p u else stmt_by text t c marks p u

      read_others : Option (Item × ℕ)
      read_others = if reads.begins_declaration text u then reads.declaration_item text r c true p u else stmt_of

      others_laid : others ≡ laid item_marks marks read_others
      others_laid = laid_if (laid item_marks marks) (reads.begins_declaration text u) (declaration_laid c true marks p u)
          (laid_as stmt_marks item_marks marks marks _ (reads.stmt_by text r c p u) (λ x. item_v.Stmt x) (stmt_by_laid c marks p u)
          (λ x. mark_at (item-Stmt x) marks))

      by_word : (b : Bool) → is_one_word text (codes "let" ∷ codes "const" ∷ []) u ≡ b
          → (if b then lex_behind text t (bracketed c) (is_word text (codes "const") u) marks u else others)
          ≡ laid item_marks marks (if b then lex_of (reads.read_lex text r (bracketed c) p) else read_others)
      by_word true e = laid_as lex_marks item_marks marks marks _ (reads.lex_behind text r (bracketed c) (is_word text (codes "const") u) u)
          (λ x. item_v.Lex x) (lex_laid text follows (bracketed c) (is_word text (codes "const") u) marks u) (λ x. mark_at (item-Lex x) marks)
          ∙ ap (λ o. laid item_marks marks (lex_of o)) (sym (lex_is (bracketed c) p u seen e))
      by_word false e = others_laid

  pub item_laid : (c : Context) → Follows item_marks (trace_item text t c) (reads.read_item text r c)
  unfolding trace_item reads.read_item
  item_laid c marks p = there_bind (laid item_marks marks) refl (token text Operand p) _ _ (λ u seen. item_by_laid c marks p u seen)
