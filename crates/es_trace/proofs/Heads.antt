-- `for` is traced as it is read.
use Rattle.std.proofs.Common.{◌≡◌, ℕ, Bool, true, false, ◌&&◌, List, [], ◌∷◌, ◌++◌, Option, Some, None, codes, refl, ap, sym, ◌∙◌, if◌then◌else◌}
use Rattle.es_tree.specs.declared.tokens.Token.{Token}
use Rattle.es_tree.specs.declared.tokens.Goal.TheVariants.{Operand, Operator}
use Rattle.es_tree.specs.declared.parts.Separated.{Separated}
use Rattle.es_tree.specs.declared.cycle.Bind.{Bind}
use Rattle.es_tree.specs.declared.cycle.Decl.{Decl}
use Rattle.es_tree.specs.declared.cycle.For.{For}
use Rattle.es_tree.specs.declared.cycle.For.TheVariants as for_v
use Rattle.es_tree.specs.declared.cycle.Head.{Head}
use Rattle.es_tree.specs.declared.cycle.Head.TheVariants as head_v
use Rattle.es_tree.specs.declared.cycle.Init.{Init}
use Rattle.es_tree.specs.declared.cycle.Init.TheVariants as init_v
use Rattle.es_tree.specs.declared.cycle.Target.{Target}
use Rattle.es_grammar.specs.declared.places.Context.{Context}
use Rattle.es_grammar.specs.declared.places.Stop.{Stop}
use Rattle.es_grammar.specs.Contexts.{bracketed, without_in}
use Rattle.es_grammar.specs.Expressions.{Expr}
use Rattle.es_grammar.specs.Reading.{Bytes}
use Rattle.es_grammar.specs.Statements.{declaration_words}
use Rattle.es_outline.specs.declared.mark.Part.TheVariants as part
use Rattle.es_outline.specs.declared.mark.Role.TheVariants as is
use Rattle.es_outline.specs.Outline.{◌⨾◌, Lays, Marks, begin, end, listed, one, opt, told, within, assign_marks, bind_marks, decl_marks, expr_marks, for_marks, head_marks, init_marks, separated_marks, stmt_marks, target_marks}
use Rattle.es_outline.proofs.Laws.{for-In, for-Loop, for-Of, head-Bind, head-Target, init-Expr, init-Lex, init-Var}
use Rattle.es_reader.specs.Basics.{◌>>=◌, token, is_mark, is_name, is_one_word, is_word, mark, word}
use Rattle.es_reader.specs.Expressions as expressions
use Rattle.es_reader.specs.Functions as functions
use Rattle.es_reader.specs.Readers.{Readers}
use Rattle.es_reader.specs.Semis.{holds}
use Rattle.es_reader.specs.Statements as reads
use Rattle.es_reader.specs.Targets as targets
use Rattle.es_trace.specs.Basics.{Traced, Tracer, laid}
use Rattle.es_trace.specs.Expressions.{trace_closed_expr, trace_expr}
use Rattle.es_trace.specs.Following.{AreFollowing, Follows}
use Rattle.es_trace.specs.Functions.{trace_bind}
use Rattle.es_trace.specs.Statements.{bind_head, for_await, for_binding, for_binding_by, for_body, for_by, for_declared, for_each, for_expr, for_expr_by, for_loop, for_paren, for_paren_by, for_stmt, for_target, in_behind, init_expr, iterated, of_behind, trace_head, trace_optional_expr}
use Rattle.es_trace.specs.Targets.{trace_target}
use Rattle.es_trace.specs.Tracers.{Tracers}
use Rattle.es_trace.proofs.Declarations.{binding_at, binding_laid, binding_marks, decls_behind_laid, decls_marks}
use Rattle.es_trace.proofs.Functions.{bind_laid}
use Rattle.es_trace.proofs.Modules.{ended_as, ended_by}
use Rattle.es_trace.proofs.Laying.{inside_if, laid_as, laid_bind, laid_if, laid_then, mark_at, seen_bind, seen_then, state_then}

-- what statements stand on is traced as it is read
pub record FollowExpressions (text : Bytes) (t : Tracers) (r : Readers) : Type 0 where
  pub expr : (c : Context) → Follows expr_marks (trace_expr text t c) (expressions.read_expr text r c)
  pub closed : (c : Context) → Follows expr_marks (trace_closed_expr text t c) (expressions.read_closed_expr text r c)
  pub target : (c : Context) → Follows target_marks (trace_target text t c) (targets.read_target text r c)

module _ (text : Bytes) {t : Tracers} {r : Readers} (follows : AreFollowing t r) (parts : FollowExpressions text t r) where
  -- the rest of a `for`, where it ends
  abbrev Fors : Marks → Traced ℕ → Option (For × ℕ) → Type 0
  Fors marks traced read = (traced >>= ended_by part.For) ≡ laid for_marks marks read

  -- `for` and `(`
  abbrev opened : Marks → Token → Option Token → Token → Marks
  opened marks for_word await left = one left (opt (told is.Await) await (one for_word (begin part.For marks)))

  of_laid : (c : Context) (marks : Marks) (for_word : Token) (await : Option Token) (left : Token) (head : Head) (middle : Token)
      → Fors marks (of_behind text t c (head_marks head (opened marks for_word await left)) middle) (reads.for_of text r c for_word await left head middle)
  unfolding of_behind for_body reads.for_of
  of_laid c marks for_word await left head middle = laid_then (ended_by part.For) assign_marks (one middle (head_marks head (opened marks for_word await left)))
      (laid for_marks marks) refl _ (r.assign (bracketed c) middle.end) _ _ (follows.assign (bracketed c) _ middle.end) (λ x.
      seen_then (ended_by part.For) (laid for_marks marks) refl (mark text Operator (codes ")") x.1.at) _ _ (λ right.
      ended_as part.For stmt_marks for_marks _ marks _ (r.stmt c right.end) (λ body. for_v.Of for_word await left head middle x.0 right body)
      (follows.stmt c _ right.end) (λ body. mark_at (for-Of for_word await left head middle x.0 right body) marks)))

  in_laid : (c : Context) (marks : Marks) (for_word left : Token) (head : Head) (middle : Token)
      → Fors marks (in_behind text t c (head_marks head (opened marks for_word None left)) middle) (reads.for_in text r c for_word left head middle)
  unfolding in_behind for_body reads.for_in
  in_laid c marks for_word left head middle = laid_then (ended_by part.For) expr_marks (one middle (head_marks head (opened marks for_word None left)))
      (laid for_marks marks) refl _ (expressions.read_closed_expr text r (bracketed c) middle.end) _ _ (parts.closed (bracketed c) _ middle.end) (λ x.
      seen_then (ended_by part.For) (laid for_marks marks) refl (mark text Operator (codes ")") x.1) _ _ (λ right.
      ended_as part.For stmt_marks for_marks _ marks _ (r.stmt c right.end) (λ body. for_v.In for_word left head middle x.0 right body)
      (follows.stmt c _ right.end) (λ body. mark_at (for-In for_word left head middle x.0 right body) marks)))

  optional_expr_laid : (c : Context) (closing : List ℕ)
      → Follows (opt expr_marks) (trace_optional_expr text t c closing) (reads.read_optional_expr text r c closing)
  unfolding trace_optional_expr reads.read_optional_expr reads.some_expr
  optional_expr_laid c closing marks p = seen_bind (laid (opt expr_marks) marks) refl (token text Operand p) _ _ (λ u.
      laid_if (laid (opt expr_marks) marks) (is_mark text closing u) refl
      (laid_as expr_marks (opt expr_marks) marks marks _ (expressions.read_closed_expr text r (bracketed c) p) (λ x. Some x)
      (parts.closed (bracketed c) marks p) (λ x. refl)))

  loop_laid : (c : Context) (marks : Marks) (for_word left : Token) (init : Option Init) (p : ℕ)
      → Fors marks (for_loop text t c (opt init_marks init (opened marks for_word None left)) p) (reads.for_loop text r c for_word left init p)
  unfolding for_loop for_body reads.for_loop
  loop_laid c marks for_word left init p = seen_then (ended_by part.For) (laid for_marks marks) refl (mark text Operator (codes ";") p) _ _ (λ first.
      laid_then (ended_by part.For) (opt expr_marks) _ (laid for_marks marks) refl _ (reads.read_optional_expr text r c (codes ";") first.end) _ _
      (optional_expr_laid c (codes ";") _ first.end) (λ test.
      seen_then (ended_by part.For) (laid for_marks marks) refl (mark text Operator (codes ";") test.1) _ _ (λ second.
      laid_then (ended_by part.For) (opt expr_marks) _ (laid for_marks marks) refl _ (reads.read_optional_expr text r c (codes ")") second.end) _ _
      (optional_expr_laid c (codes ")") _ second.end) (λ update.
      seen_then (ended_by part.For) (laid for_marks marks) refl (mark text Operator (codes ")") update.1) _ _ (λ right.
      ended_as part.For stmt_marks for_marks _ marks _ (r.stmt c right.end)
      (λ body. for_v.Loop for_word left init first test.0 second update.0 right body) (follows.stmt c _ right.end)
      (λ body. mark_at (for-Loop for_word left init first test.0 second update.0 right body) marks))))))

  -- declarations in a head, by their word
  init_is : (u : Token) (xs : List (Separated Decl)) (b : Bool) (marks : Marks) → within part.Declaration (one u ⨾ decls_marks text follows xs) marks
      ≡ init_marks (if b then init_v.Var u xs else init_v.Lex (record { word = u; decls = xs; semi = None })) marks
  init_is u xs true marks = mark_at (init-Var u xs) marks
  init_is u xs false marks = mark_at (init-Lex (record { word = u; decls = xs; semi = None })) marks

  declared_laid : (c : Context) (marks : Marks) (for_word left u : Token) (x : reads.Binding) (p : ℕ) (v : Token)
      → Fors marks (for_declared text t c (is_word text (codes "const") u) (bind_marks x.0 (one u (begin part.Declaration (opened marks for_word None left)))) (p, x.1) v)
      (reads.for_declared text r c for_word left u x p v)
  unfolding for_declared reads.for_declared
  declared_laid c marks for_word left u x p v = laid_then (ended_by part.For) (decls_marks text follows)
      (one u (begin part.Declaration (opened marks for_word None left))) (laid for_marks marks) refl _
      (reads.decls_behind text r (without_in c) (is_word text (codes "const") u) x p v) _ _
      (decls_behind_laid text follows (without_in c) (is_word text (codes "const") u) _ x p v) (λ xs.
      ap (λ m. for_loop text t c m xs.1.at >>= ended_by part.For) (init_is u xs.0 (is_word text (codes "var") u) (opened marks for_word None left))
      ∙ loop_laid c marks for_word left (Some (reads.init_of text u xs.0)) xs.1.at)

  -- a head that is a declaration
  abbrev heading : Marks → Token → Token → Token → Bind → Marks
  heading marks for_word left u x = bind_marks x (one u (begin part.Declaration (opened marks for_word None left)))

  binding_by_laid : (c : Context) (marks : Marks) (for_word left u : Token) (x : reads.Binding) (p : ℕ) (v : Token)
      → Fors marks (for_binding_by text t c (is_word text (codes "const") u) (heading marks for_word left u x.0) (p, x.1) v)
      (reads.for_binding_by text r c for_word left u x p v)
  unfolding for_binding_by reads.for_binding_by
  binding_by_laid c marks for_word left u x p v = inside_if (λ o. o >>= ended_by part.For) (laid for_marks marks) (is_word text (codes "of") v)
      (ap (λ m. of_behind text t c m v >>= ended_by part.For) (mark_at (head-Bind u x.0) (opened marks for_word None left))
      ∙ of_laid c marks for_word None left (head_v.Bind u x.0) v)
      (inside_if (λ o. o >>= ended_by part.For) (laid for_marks marks) (is_word text (codes "in") v)
      (ap (λ m. in_behind text t c m v >>= ended_by part.For) (mark_at (head-Bind u x.0) (opened marks for_word None left))
      ∙ in_laid c marks for_word left (head_v.Bind u x.0) v) (declared_laid c marks for_word left u x p v))

  binding_for_laid : (c : Context) (marks : Marks) (for_word left u : Token)
      → Fors marks (for_binding text t c (opened marks for_word None left) u) (reads.for_binding text r c for_word left u)
  unfolding for_binding reads.for_binding
  binding_for_laid c marks for_word left u = state_then (ended_by part.For) binding_marks binding_at (one u (begin part.Declaration (opened marks for_word None left)))
      (laid for_marks marks) refl _ (reads.read_binding text r (without_in c) u.end) _ _ (binding_laid text follows (without_in c) _ u.end) (λ x.
      seen_then (ended_by part.For) (laid for_marks marks) refl (token text Operator x.1) _ _ (λ v. binding_by_laid c marks for_word left u x.0 x.1 v))

  each_laid : (c : Context) (marks : Marks) (for_word left : Token) (head : Head) (p : ℕ)
      → Fors marks (for_each text t c (head_marks head (opened marks for_word None left)) p)
      (token text Operator p >>= reads.for_target_by text r c for_word left head)
  unfolding for_each reads.for_target_by
  each_laid c marks for_word left head p = seen_then (ended_by part.For) (laid for_marks marks) refl (token text Operator p) _ _ (λ v.
      inside_if (λ o. o >>= ended_by part.For) (laid for_marks marks) (is_word text (codes "of") v) (of_laid c marks for_word None left head v)
      (inside_if (λ o. o >>= ended_by part.For) (laid for_marks marks) (is_word text (codes "in") v) (in_laid c marks for_word left head v) refl))

  pub target_for_laid : (c : Context) (marks : Marks) (for_word left : Token)
      → Fors marks (for_target text t c (opened marks for_word None left) left.end) (reads.for_target text r c for_word left)
  unfolding for_target reads.for_target
  target_for_laid c marks for_word left = laid_then (ended_by part.For) target_marks (opened marks for_word None left) (laid for_marks marks) refl _
      (targets.read_target text r (without_in c) left.end) _ _ (parts.target (without_in c) _ left.end) (λ x.
      ap (λ m. for_each text t c m x.1 >>= ended_by part.For) (mark_at (head-Target x.0) (opened marks for_word None left))
      ∙ each_laid c marks for_word left (head_v.Target x.0) x.1)

  pub expr_for_laid : (c : Context) (marks : Marks) (for_word left : Token)
      → Fors marks (for_expr text t c (opened marks for_word None left) left.end) (reads.for_expr text r c for_word left)
  unfolding for_expr init_expr reads.for_expr
  expr_for_laid c marks for_word left = by_expr (expressions.read_expr text r (without_in c) left.end) _ (parts.expr (without_in c) before left.end)
    where
      before : Marks
      before = opened marks for_word None left

      closed_by : Marks × Stop → Token → Traced ℕ
      closed_by x u = if is_mark text (codes ";") u then Some (x.0, x.1.at) else None

      by_mark : (x : Expr) (s : Stop) (b : Bool) → Fors marks
          (for_expr_by text t c before left.end (if b then Some (expr_marks x before, s.at) else None))
          (if b then reads.for_loop text r c for_word left (Some (init_v.Expr x)) s.at else reads.for_target text r c for_word left)
      by_mark x s true = ap (λ m. for_loop text t c m s.at >>= ended_by part.For) (mark_at (init-Expr x) before)
          ∙ loop_laid c marks for_word left (Some (init_v.Expr x)) s.at
      by_mark x s false = target_for_laid c marks for_word left

      by_token : (x : Expr) (s : Stop) (o : Option Token) → Fors marks (for_expr_by text t c before left.end (o >>= closed_by (expr_marks x before, s)))
          (if holds (is_mark text (codes ";")) o then reads.for_loop text r c for_word left (Some (init_v.Expr x)) s.at
          else reads.for_target text r c for_word left)
      by_token x s None = target_for_laid c marks for_word left
      by_token x s (Some u) = by_mark x s (is_mark text (codes ";") u)

      by_expr : (came : Option (Expr × Stop)) (traced : Traced Stop) → traced ≡ laid expr_marks before came
          → Fors marks (for_expr_by text t c before left.end (traced >>= λ x. token text Operator x.1.at >>= closed_by x))
          (reads.for_expr_by text r c for_word left came)
      by_expr None traced e = ap (λ o. for_expr_by text t c before left.end (o >>= λ x. token text Operator x.1.at >>= closed_by x) >>= ended_by part.For) e
          ∙ target_for_laid c marks for_word left
      by_expr (Some x) traced e = ap (λ o. for_expr_by text t c before left.end (o >>= λ y. token text Operator y.1.at >>= closed_by y) >>= ended_by part.For) e
          ∙ by_token x.0 x.1 (token text Operator x.1.at)

  paren_laid : (c : Context) (marks : Marks) (for_word left : Token)
      → Fors marks (for_paren text t c (one for_word (begin part.For marks)) left) (reads.for_paren text r c for_word left)
  unfolding for_paren for_paren_by reads.for_paren reads.for_paren_by
  paren_laid c marks for_word left = seen_then (ended_by part.For) (laid for_marks marks) refl (token text Operand left.end) _ _ (λ u.
      inside_if (λ o. o >>= ended_by part.For) (laid for_marks marks) (is_mark text (codes ";") u) (loop_laid c marks for_word left None left.end)
      (inside_if (λ o. o >>= ended_by part.For) (laid for_marks marks) (is_one_word text declaration_words u) (binding_for_laid c marks for_word left u)
      (expr_for_laid c marks for_word left)))

  head_laid : (c : Context) → Follows head_marks (trace_head text t c) (reads.read_head text r c)
  unfolding trace_head bind_head reads.read_head reads.bind_head reads.target_head
  head_laid c marks p = seen_bind (laid head_marks marks) refl (token text Operand p) _ _ (λ u.
      laid_if (laid head_marks marks) (is_one_word text declaration_words u)
      (laid_bind bind_marks (one u (begin part.Declaration marks)) (laid head_marks marks) refl _ (functions.read_bind text r c u.end) _ _
      (bind_laid text follows c _ u.end) (λ x. ap (λ m. Some (m, x.1)) (mark_at (head-Bind u x.0) marks)))
      (laid_as target_marks head_marks marks marks _ (targets.read_target text r c p) (λ x. head_v.Target x) (parts.target c marks p)
      (λ x. mark_at (head-Target x) marks)))

  await_laid : (c : Context) (marks : Marks) (for_word await : Token)
      → Fors marks (for_await text t c (one for_word (begin part.For marks)) await) (reads.for_await text r c for_word await)
  unfolding for_await reads.for_await
  await_laid c marks for_word await = seen_then (ended_by part.For) (laid for_marks marks) refl (mark text Operand (codes "(") await.end) _ _ (λ left.
      laid_then (ended_by part.For) head_marks (opened marks for_word (Some await) left) (laid for_marks marks) refl _
      (reads.read_head text r (without_in c) left.end) _ _ (head_laid (without_in c) _ left.end) (λ head.
      seen_then (ended_by part.For) (laid for_marks marks) refl (word text Operator (codes "of") head.1) _ _ (λ middle.
      of_laid c marks for_word (Some await) left head.0 middle)))

  pub for_laid : (c : Context) (marks : Marks) (for_word : Token) → for_stmt text t c marks for_word ≡ laid for_marks marks (reads.for_behind text r c for_word)
  unfolding for_stmt for_by reads.for_behind reads.for_by
  for_laid c marks for_word = seen_bind (laid for_marks marks) refl (token text Operand for_word.end) _ _ (λ u.
      inside_if (λ o. o >>= ended_by part.For) (laid for_marks marks) (is_mark text (codes "(") u) (paren_laid c marks for_word u)
      (inside_if (λ o. o >>= ended_by part.For) (laid for_marks marks) (c.has_await && is_word text (codes "await") u) (await_laid c marks for_word u) refl))
