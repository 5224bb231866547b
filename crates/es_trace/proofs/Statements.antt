-- Statements and items are traced as they are read.
use Rattle.std.proofs.Common.{◌≡◌, ℕ, Bool, true, false, List, [], ◌∷◌, ◌++◌, Option, Some, None, codes, length, ◌+◌, refl, ap, sym, ◌∙◌, if◌then◌else◌}
use Rattle.es_tree.specs.declared.tokens.Token.{Token}
use Rattle.es_tree.specs.declared.tokens.Goal.TheVariants.{Operand, Operator}
use Rattle.es_tree.specs.declared.parts.Body.{Body}
use Rattle.es_tree.specs.declared.parts.CatchParameter.{CatchParameter}
use Rattle.es_tree.specs.declared.parts.Else.{Else}
use Rattle.es_tree.specs.declared.parts.Finally.{Finally}
use Rattle.es_tree.specs.declared.cycle.Bind.{Bind}
use Rattle.es_tree.specs.declared.cycle.Case.{Case}
use Rattle.es_tree.specs.declared.cycle.Case.TheVariants as case_v
use Rattle.es_tree.specs.declared.cycle.Item.{Item}
use Rattle.es_tree.specs.declared.cycle.Item.TheVariants as item_v
use Rattle.es_tree.specs.declared.cycle.Stmt.{Stmt}
use Rattle.es_tree.specs.declared.cycle.Stmt.TheVariants as stmt_v
use Rattle.es_grammar.specs.declared.places.Context.{Context}
use Rattle.es_grammar.specs.declared.places.Stop.{Stop}
use Rattle.es_grammar.specs.Contexts.{bracketed}
use Rattle.es_grammar.specs.Expressions.{Expr}
use Rattle.es_grammar.specs.Reading.{Bytes}
use Rattle.es_grammar.specs.Semicolons.{stop, other}
use Rattle.es_outline.specs.declared.mark.Part.TheVariants as part
use Rattle.es_outline.specs.declared.mark.Role.TheVariants as is
use Rattle.es_outline.specs.Outline.{◌⨾◌, Lays, Marks, begin, end, listed, one, opt, semicolon, told, within, bind_marks, block_marks, body_marks, case_marks, catch_parameter_marks, class_marks, else_marks, expr_marks, finally_marks, for_marks, func_marks, item_marks, lex_marks, stmt_marks, var_marks}
use Rattle.es_outline.proofs.Laws.{case-Case, case-Default, item-Class, item-Func, item-Lex, item-Stmt, stmt-Block, stmt-Break, stmt-Continue, stmt-Debugger, stmt-Do, stmt-Empty, stmt-Expr, stmt-For, stmt-If, stmt-Labelled, stmt-Return, stmt-Switch, stmt-Throw, stmt-TryCatch, stmt-TryFinally, stmt-Var, stmt-While, stmt-With}
use Rattle.es_reader.specs.Basics.{◌>>=◌, token, is_mark, is_name, is_one_word, is_word, mark, word}
use Rattle.es_reader.specs.Expressions as expressions
use Rattle.es_reader.specs.Functions as functions
use Rattle.es_reader.specs.Lists as read_lists
use Rattle.es_reader.specs.Loops as loops
use Rattle.es_reader.specs.Readers.{Readers}
use Rattle.es_reader.specs.Semis.{holds, is_closed, read_free_semi, read_semi}
use Rattle.es_reader.specs.Statements as reads
use Rattle.es_reader.specs.declared.pieces.ConditionOf.{ConditionOf}
use Rattle.es_trace.specs.Basics.{Traced, Tracer, laid}
use Rattle.es_trace.specs.Expressions.{trace_closed_expr, trace_expr}
use Rattle.es_trace.specs.Following.{AreFollowing, Follows}
use Rattle.es_trace.specs.Functions.{body_behind, trace_body, trace_class, trace_closed_item, trace_func}
use Rattle.es_trace.specs.Lists.{chain_turn}
use Rattle.es_trace.specs.Loops.{all_turns, repeat}
use Rattle.es_trace.specs.Statements.{block_behind, cases_with_default, clause_behind, condition_and_stmt, declaration_item, do_stmt, else_by, expr_stmt, finally_by, if_stmt, item_by, jump_behind, jump_stmt, label_by, lex_behind, name_stmt, other_stmt, parameter_behind, plain_stmt, return_stmt, semi_behind, stmt_by, switch_stmt, trace_block, trace_case, trace_case_run, trace_cases, trace_catch_parameter, trace_clause_items, trace_condition, trace_else, trace_item, trace_label, trace_optional_finally, trace_stmt, try_catch, try_stmt, value_behind, var_behind, word_alone, word_stmt}
use Rattle.es_trace.specs.Tracers.{Tracers}
use Rattle.es_trace.proofs.Classes.{class_laid}
use Rattle.es_trace.proofs.Declarations.{lex_laid, var_laid}
use Rattle.es_trace.proofs.Functions.{bind_laid, body_behind_laid, body_laid, closed_item_laid}
use Rattle.es_trace.proofs.Heads.{FollowExpressions, for_laid}
use Rattle.es_trace.proofs.Methods.{func_laid}
use Rattle.es_trace.proofs.Lists.{at_place, chain_laid}
use Rattle.es_trace.proofs.Laying.{all_bind, assoc, laid_all, laid_as, laid_bind, laid_if, laid_repeat, law_at, listed_push, mark_at, seen_bind}

-- the marks of a condition
abbrev pub condition_marks : reads.Condition → Lays
condition_marks x = one x.left ⨾ expr_marks x.test ⨾ one x.right

-- with where it ends
abbrev pub with_end : reads.Condition → Option (reads.Condition × ℕ)
with_end x = Some (x, x.right.end)

module _ (text : Bytes) {t : Tracers} {r : Readers} (follows : AreFollowing t r) (parts : FollowExpressions text t r) where
  condition_laid : (c : Context) (marks : Marks) (p : ℕ)
      → trace_condition text t c marks p ≡ laid condition_marks marks (reads.read_condition text r c p >>= with_end)
  unfolding trace_condition reads.read_condition
  condition_laid c marks p = by_left (mark text Operand (codes "(") p)
    where
      by_right : (left : Token) (x : Expr) (o : Option Token) → (o >>= λ right. Some (one right (expr_marks x (one left marks)), right.end))
          ≡ laid condition_marks marks ((o >>= λ right. Some (record { left = left; test = x; right = right })) >>= with_end)
      by_right left x None = refl
      by_right left x (Some right) = refl

      by_expr : (left : Token) (came : Option (Expr × ℕ)) (traced : Traced ℕ) → traced ≡ laid expr_marks (one left marks) came
          → (traced >>= λ x. mark text Operator (codes ")") x.1 >>= λ right. Some (one right x.0, right.end))
          ≡ laid condition_marks marks ((came >>= λ x. mark text Operator (codes ")") x.1 >>= λ right.
          Some (record { left = left; test = x.0; right = right })) >>= with_end)
      by_expr left None traced e = ap (λ o. o >>= λ x. mark text Operator (codes ")") x.1 >>= λ right. Some (one right x.0, right.end)) e
      by_expr left (Some x) traced e = ap (λ o. o >>= λ y. mark text Operator (codes ")") y.1 >>= λ right. Some (one right y.0, right.end)) e
          ∙ by_right left x.0 (mark text Operator (codes ")") x.1)

      by_left : (o : Option Token) → (o >>= λ left. trace_closed_expr text t (bracketed c) (one left marks) left.end >>= λ x.
          mark text Operator (codes ")") x.1 >>= λ right. Some (one right x.0, right.end))
          ≡ laid condition_marks marks ((o >>= λ left. expressions.read_closed_expr text r (bracketed c) left.end >>= λ x.
          mark text Operator (codes ")") x.1 >>= λ right. Some (record { left = left; test = x.0; right = right })) >>= with_end)
      by_left None = refl
      by_left (Some left) = by_expr left (expressions.read_closed_expr text r (bracketed c) left.end) _ (parts.closed (bracketed c) _ left.end)

  -- a condition, and then what follows it
  pub condition_bind : {S U : Type 0} (φ : Option S → Traced U) → φ None ≡ None → (c : Context) (before : Marks) (p : ℕ) (trace : Marks × ℕ → Traced U)
      (next : reads.Condition → Option S) → ((x : reads.Condition) → trace (condition_marks x before, x.right.end) ≡ φ (next x))
      → (trace_condition text t c before p >>= trace) ≡ φ (reads.read_condition text r c p >>= next)
  condition_bind φ none c before p trace next each = by_condition (reads.read_condition text r c p) (condition_laid c before p)
    where
      by_condition : (came : Option reads.Condition) → trace_condition text t c before p ≡ laid condition_marks before (came >>= with_end)
          → (trace_condition text t c before p >>= trace) ≡ φ (came >>= next)
      by_condition None e = ap (λ o. o >>= trace) e ∙ sym none
      by_condition (Some x) e = ap (λ o. o >>= trace) e ∙ each x

  pub while_laid : (c : Context) (marks : Marks) (u : Token)
      → condition_and_stmt text t c (one u marks) u.end ≡ laid stmt_marks marks (reads.while_stmt text r c u)
  unfolding condition_and_stmt reads.while_stmt
  while_laid c marks u = condition_bind (laid stmt_marks marks) refl c (one u marks) u.end _ _ (λ x.
      laid_as stmt_marks stmt_marks (condition_marks x (one u marks)) marks _ (r.stmt c x.right.end)
      (λ body. stmt_v.While u x.left x.test x.right body) (follows.stmt c _ x.right.end)
      (λ body. mark_at (stmt-While u x.left x.test x.right body) marks))

  pub with_laid : (c : Context) (marks : Marks) (u : Token)
      → condition_and_stmt text t c (told is.With u marks) u.end ≡ laid stmt_marks marks (reads.with_stmt text r c u)
  unfolding condition_and_stmt reads.with_stmt
  with_laid c marks u = condition_bind (laid stmt_marks marks) refl c (told is.With u marks) u.end _ _ (λ x.
      laid_as stmt_marks stmt_marks (condition_marks x (told is.With u marks)) marks _ (r.stmt c x.right.end)
      (λ body. stmt_v.With u x.left x.test x.right body) (follows.stmt c _ x.right.end)
      (λ body. mark_at (stmt-With u x.left x.test x.right body) marks))

  else_laid : (c : Context) → Follows (opt (else_marks stmt_marks)) (trace_else text t c) (reads.read_else text r c)
  unfolding trace_else reads.read_else reads.else_behind
  else_laid c marks p = by_token (token text Operand p)
    where
      by_token : (o : Option Token) → else_by text t c marks p o ≡ laid (opt (else_marks stmt_marks)) marks (reads.else_by text r c p o)
      by_token None = refl
      by_token (Some u) = laid_if (laid (opt (else_marks stmt_marks)) marks) (is_word text (codes "else") u)
          (laid_as stmt_marks (opt (else_marks stmt_marks)) (one u marks) marks _ (r.stmt c u.end) (λ x. Some (record { word = u; stmt = x }))
          (follows.stmt c _ u.end) (λ x. refl)) refl

  pub if_laid : (c : Context) (marks : Marks) (u : Token) → if_stmt text t c marks u ≡ laid stmt_marks marks (reads.if_stmt text r c u)
  unfolding if_stmt condition_and_stmt reads.if_stmt
  if_laid c marks u = assoc (trace_condition text t c (one u marks) u.end) (λ x. t.stmt c x.0 x.1) (λ x. trace_else text t c x.0 x.1)
      ∙ condition_bind (laid stmt_marks marks) refl c (one u marks) u.end (λ x. t.stmt c x.0 x.1 >>= λ y. trace_else text t c y.0 y.1) _ (λ x.
      laid_bind stmt_marks (condition_marks x (one u marks)) (laid stmt_marks marks) refl _ (r.stmt c x.right.end) _ _ (follows.stmt c _ x.right.end)
      (λ body. laid_as (opt (else_marks stmt_marks)) stmt_marks _ marks _ (reads.read_else text r c body.1)
      (λ other. stmt_v.If u x.left x.test x.right body.0 other) (else_laid c _ body.1)
      (λ other. mark_at (stmt-If u x.left x.test x.right body.0 other) marks)))

  pub do_laid : (c : Context) (marks : Marks) (u : Token) → do_stmt text t c marks u ≡ laid stmt_marks marks (reads.do_stmt text r c u)
  unfolding do_stmt reads.do_stmt
  do_laid c marks u = laid_bind stmt_marks (one u marks) (laid stmt_marks marks) refl _ (r.stmt c u.end) _ _ (follows.stmt c _ u.end) (λ body.
      seen_bind (laid stmt_marks marks) refl (word text Operand (codes "while") body.1) _ _ (λ v.
      condition_bind (laid stmt_marks marks) refl c (one v (stmt_marks body.0 (one u marks))) v.end _ _ (λ x.
      seen_bind (laid stmt_marks marks) refl (read_free_semi text x.right.end) _ _ (λ s.
      law_at (stmt-Do u body.0 v x.left x.test x.right s.0) marks s.1))))

  -- a label, and the semicolon behind it
  label_laid : (c : Context) → Follows (opt (told is.Label)) (trace_label text c) (reads.read_label text c)
  unfolding trace_label reads.read_label
  label_laid c marks p = by_token (token text Operand p)
    where
      by_bool : (u : Token) (b : Bool) → (if b then Some (told is.Label u marks, u.end) else Some (marks, p))
          ≡ laid (opt (told is.Label)) marks (Some (if b then (Some u, u.end) else (None, p)))
      by_bool u true = refl
      by_bool u false = refl

      by_token : (o : Option Token) → label_by text c marks p o ≡ laid (opt (told is.Label)) marks (Some (reads.label_by text c p o))
      by_token None = refl
      by_token (Some u) = by_bool u (reads.is_label text c u)

  pub continue_laid : (c : Context) (marks : Marks) (u : Token) → jump_behind text c marks u ≡ laid stmt_marks marks (reads.continue_stmt text c u)
  unfolding jump_behind semi_behind reads.continue_stmt
  continue_laid c marks u = laid_bind (opt (told is.Label)) (one u marks) (laid stmt_marks marks) refl _ (reads.read_label text c u.end) _ _
      (label_laid c _ u.end) (λ x. seen_bind (laid stmt_marks marks) refl (read_semi text (stop x.1 other)) _ _ (λ s.
      law_at (stmt-Continue u x.0 s.0) marks s.1))

  pub break_laid : (c : Context) (marks : Marks) (u : Token) → jump_behind text c marks u ≡ laid stmt_marks marks (reads.break_stmt text c u)
  unfolding jump_behind semi_behind reads.break_stmt
  break_laid c marks u = laid_bind (opt (told is.Label)) (one u marks) (laid stmt_marks marks) refl _ (reads.read_label text c u.end) _ _
      (label_laid c _ u.end) (λ x. seen_bind (laid stmt_marks marks) refl (read_semi text (stop x.1 other)) _ _ (λ s.
      law_at (stmt-Break u x.0 s.0) marks s.1))

  -- an Expr that is closed, of which with its semicolon a statement is made
  ended_laid : (c : Context) (before marks : Marks) (p : ℕ) (make : Expr → Option Token → Stmt)
      → ((x : Expr) (s : Option Token) → semicolon s (expr_marks x before) ≡ stmt_marks (make x s) marks)
      → expr_stmt text t c before p ≡ laid stmt_marks marks (reads.read_ended_expr text r c p >>= λ x. read_semi text x.1 >>= λ s. Some (make x.0 s.0, s.1))
  unfolding expr_stmt semi_behind reads.read_ended_expr
  ended_laid c before marks p make is = by_expr (expressions.read_expr text r (bracketed c) p) _ (parts.expr (bracketed c) before p)
    where
      made : Expr × Stop → Option (Stmt × ℕ)
      made x = read_semi text x.1 >>= λ s. Some (make x.0 s.0, s.1)

      by_semi : (x : Expr) (o : Option (Option Token × ℕ)) → (o >>= λ s. Some (semicolon s.0 (expr_marks x before), s.1))
          ≡ laid stmt_marks marks (o >>= λ s. Some (make x s.0, s.1))
      by_semi x None = refl
      by_semi x (Some s) = ap (λ m. Some (m, s.1)) (is x s.0)

      by_closed : (x : Expr) (e : Stop) (b : Bool)
          → (if b then (read_semi text e >>= λ s. Some (semicolon s.0 (expr_marks x before), s.1)) else None)
          ≡ laid stmt_marks marks ((if b then Some (x, e) else None) >>= made)
      by_closed x e true = by_semi x (read_semi text e)
      by_closed x e false = refl

      by_expr : (came : Option (Expr × Stop)) (traced : Traced Stop) → traced ≡ laid expr_marks before came
          → (traced >>= λ x. if is_closed text x.1 then (read_semi text x.1 >>= λ s. Some (semicolon s.0 x.0, s.1)) else None)
          ≡ laid stmt_marks marks ((came >>= λ x. if is_closed text x.1 then Some x else None) >>= made)
      by_expr None traced e = ap (λ o. o >>= λ x. if is_closed text x.1 then (read_semi text x.1 >>= λ s. Some (semicolon s.0 x.0, s.1)) else None) e
      by_expr (Some x) traced e = ap (λ o. o >>= λ y. if is_closed text y.1 then (read_semi text y.1 >>= λ s. Some (semicolon s.0 y.0, s.1)) else None) e
          ∙ by_closed x.0 x.1 (is_closed text x.1)

  pub expr_laid : (c : Context) (marks : Marks) (p : ℕ) → expr_stmt text t c marks p ≡ laid stmt_marks marks (reads.expr_stmt text r c p)
  unfolding reads.expr_stmt
  expr_laid c marks p = ended_laid c marks marks p (λ x s. stmt_v.Expr x s) (λ x s. mark_at (stmt-Expr x s) marks)

  -- the same on the line of a word
  on_line_laid : (c : Context) (marks : Marks) (u : Token) (make : Expr → Option Token → Stmt)
      → ((x : Expr) (s : Option Token) → semicolon s (expr_marks x (one u marks)) ≡ stmt_marks (make x s) marks) → value_behind text t c marks u
      ≡ laid stmt_marks marks (reads.read_expr_on_line text r c u.end >>= λ x. read_semi text x.1 >>= λ s. Some (make x.0 s.0, s.1))
  unfolding value_behind reads.read_expr_on_line
  on_line_laid c marks u make is = by_token (token text Operand u.end)
    where
      made : Expr × Stop → Option (Stmt × ℕ)
      made x = read_semi text x.1 >>= λ s. Some (make x.0 s.0, s.1)

      by_line : (b : Bool) → (if b then None else expr_stmt text t c (one u marks) u.end)
          ≡ laid stmt_marks marks ((if b then None else reads.read_ended_expr text r c u.end) >>= made)
      by_line true = refl
      by_line false = ended_laid c (one u marks) marks u.end make is

      by_token : (o : Option Token) → (o >>= λ v. if v.newline then None else expr_stmt text t c (one u marks) u.end)
          ≡ laid stmt_marks marks ((o >>= λ v. if v.newline then None else reads.read_ended_expr text r c u.end) >>= made)
      by_token None = refl
      by_token (Some v) = by_line v.newline

  pub throw_laid : (c : Context) (marks : Marks) (u : Token) → value_behind text t c marks u ≡ laid stmt_marks marks (reads.throw_stmt text r c u)
  unfolding reads.throw_stmt
  throw_laid c marks u = on_line_laid c marks u (λ x s. stmt_v.Throw u x s) (λ x s. mark_at (stmt-Throw u x s) marks)

  pub debugger_laid : (marks : Marks) (u : Token) → word_alone text marks u ≡ laid stmt_marks marks (reads.debugger_stmt text u)
  unfolding word_alone semi_behind reads.debugger_stmt
  debugger_laid marks u = seen_bind (laid stmt_marks marks) refl (read_semi text (stop u.end other)) _ _ (λ s. law_at (stmt-Debugger u s.0) marks s.1)

  pub return_laid : (c : Context) (marks : Marks) (u : Token) → return_stmt text t c marks u ≡ laid stmt_marks marks (reads.return_stmt text r c u)
  unfolding return_stmt word_alone semi_behind reads.return_stmt reads.return_value reads.return_alone
  return_laid c marks u = laid_if (laid stmt_marks marks) (holds (reads.begins_value text) (token text Operand u.end))
      (on_line_laid c marks u (λ x s. stmt_v.Return u (Some x) s) (λ x s. mark_at (stmt-Return u (Some x) s) marks))
      (seen_bind (laid stmt_marks marks) refl (read_semi text (stop u.end other)) _ _ (λ s. law_at (stmt-Return u None s.0) marks s.1))
