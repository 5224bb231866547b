-- Arrows and assignments are traced as they are read.
use Rattle.std.proofs.Common.{◌≡◌, ℕ, true, false, Option, Some, None, codes, is_some, refl, ap, ◌∙◌}
use Rattle.es_tree.specs.declared.tokens.Token.{Token}
use Rattle.es_tree.specs.declared.tokens.Goal.TheVariants.{Operand as AtOperand, Operator as AtOperator}
use Rattle.es_tree.specs.declared.parts.ArrowParams.{ArrowParams}
use Rattle.es_tree.specs.declared.parts.ArrowParams.TheVariants as arrow_params
use Rattle.es_tree.specs.declared.cycle.Assign.TheVariants as assign_v
use Rattle.es_tree.specs.declared.cycle.Operand.{Operand}
use Rattle.es_tree.specs.declared.cycle.Operand.TheVariants as operand_v
use Rattle.es_tree.specs.declared.cycle.Params.{Params}
use Rattle.es_tree.specs.declared.cycle.Target.{Target}
use Rattle.es_grammar.specs.declared.places.Context.{Context}
use Rattle.es_grammar.specs.declared.places.Stop.{Stop}
use Rattle.es_grammar.specs.Contexts.{in_arrow, in_concise}
use Rattle.es_grammar.specs.Reading.{Bytes}
use Rattle.es_grammar.specs.Semicolons.{block_arrow, postfix, stop}
use Rattle.es_outline.specs.declared.mark.Part.TheVariants as part
use Rattle.es_outline.specs.Outline.{◌⨾◌, Lays, Marks, arrow_marks, arrow_params_marks, assign_marks, begin, body_marks, cond_marks, item_marks, one, operand_marks, opt, params_marks, target_marks}
use Rattle.es_outline.proofs.Laws.{arrow-Block, arrow-Concise, assign-Arrow, assign-Compound, assign-Cond, assign-Set, assign-Yield, operand-Postfix}
use Rattle.es_reader.specs.Basics.{is_mark, is_name, is_word, mark, token}
use Rattle.es_reader.specs.declared.pieces.Shape.TheVariants as shape_v
use Rattle.es_reader.specs.Expressions.{Parts, read_parts}
use Rattle.es_reader.specs.Functions as read_functions
use Rattle.es_reader.specs.Operators as reads
use Rattle.es_reader.specs.Operators.{Head, begins_nothing, begins_other, is_arrow, is_assignment, is_postfix, is_yield, through}
use Rattle.es_reader.specs.Readers.{Readers}
use Rattle.es_reader.specs.Targets as targets
use Rattle.es_reader.specs.Targets.{bare_of, bare_target, begins_pattern}
use Rattle.es_trace.specs.Basics.{Traced, laid}
use Rattle.es_trace.specs.Following.{AreFollowing, Follows, chain_of, parts_marks}
use Rattle.es_trace.specs.Operators.{arrow_behind, arrow_body, assign_behind, assign_from, async_assign, async_head, block_body, bracket_assign, bracket_head, chain_assign, concise_body, cond_from, cond_by, list_head, named_assign, named_by, operand_assign, other_assign, params_head, paren_assign, paren_by, pattern_assign, plain_assign, target_assign, trace_assign, updated, yield_assign, yield_by}
use Rattle.es_trace.specs.Tracers.{Tracers}
use Rattle.es_trace.proofs.Bare.{NameIs, bare_through, parts_named, parts_through}
use Rattle.es_trace.proofs.Expressions.{FollowFunctions, parts_laid}
use Rattle.es_trace.proofs.Functions.{body_laid, params_laid}
use Rattle.es_trace.proofs.Laying.{laid_as, laid_bind, laid_if, law_at, mark_at, seen_bind}
use Rattle.es_trace.proofs.Operators.{cond_by_laid, cond_from_laid, operand_behind_laid}
use Rattle.es_trace.proofs.Targets.{paren_target_laid}

-- what stands before the body of an arrow
abbrev pub arrow_head_marks : Head → Lays
arrow_head_marks h = arrow_params_marks params_marks h.params ⨾ one h.mark

-- it ends with its mark
abbrev pub laid_head : Marks → Option Head → Traced ℕ
laid_head marks None = None
laid_head marks (Some h) = Some (arrow_head_marks h marks, h.mark.end)

-- a head, and then what follows it, or the other way
head_through : {A B : Type 0} (before : Marks) (φ : Option A → Option B) (traced : Traced ℕ) (read : Option Head) (trace : Marks × ℕ → Option B)
    (next : Head → Option A) (other : Option B) (second : Option A) → traced ≡ laid_head before read
    → ((h : Head) → trace (arrow_head_marks h before, h.mark.end) ≡ φ (next h)) → other ≡ φ second
    → through traced trace other ≡ φ (through read next second)
head_through before φ traced None trace next other second is each same = ap (λ o. through o trace other) is ∙ same
head_through before φ traced (Some h) trace next other second is each same = ap (λ o. through o trace other) is ∙ each h

module _ (text : Bytes) {t : Tracers} {r : Readers} (follows : AreFollowing t r) (functions : FollowFunctions text t r) where
  -- Arrows

  arrow_behind_laid : (marks : Marks) (params : ArrowParams Params) (p : ℕ)
      → arrow_behind text (arrow_params_marks params_marks params marks) p ≡ laid_head marks (reads.arrow_behind text params p)
  unfolding arrow_behind reads.arrow_behind
  arrow_behind_laid marks params p = seen_bind (laid_head marks) refl (token text AtOperator p) _ _ (λ u.
      laid_if (laid_head marks) (is_arrow text u) refl refl)

  pub list_head_laid : (c : Context) (marks : Marks) (left : Token) → list_head text t c marks left ≡ laid_head marks (reads.list_head text r c left)
  unfolding list_head reads.list_head
  list_head_laid c marks left = laid_bind params_marks (one left marks) (laid_head marks) refl _ (read_functions.read_params text r c left.end) _ _
      (params_laid text follows c _ left.end) (λ x. seen_bind (laid_head marks) refl (mark text AtOperator (codes ")") x.1) _ _ (λ right.
      arrow_behind_laid marks (arrow_params.List left x.0 right) right.end))

  params_head_laid : (c : Context) (marks : Marks) (u : Token) → params_head text t c marks u ≡ laid_head marks (reads.params_head text r c u)
  unfolding params_head reads.params_head
  params_head_laid c marks u = laid_if (laid_head marks) (is_name text c u) (arrow_behind_laid marks (arrow_params.Name u) u.end)
      (laid_if (laid_head marks) (is_mark text (codes "(") u) (list_head_laid c marks u) refl)

  pub bracket_head_laid : (c : Context) (marks : Marks) (left : Token)
      → bracket_head text t c marks left ≡ laid_head (begin part.Arrow marks) (reads.list_head text r (in_arrow false c) left)
  unfolding bracket_head
  bracket_head_laid c marks left = list_head_laid (in_arrow false c) (begin part.Arrow marks) left

  pub async_head_laid : (c : Context) (marks : Marks) (u : Token)
      → async_head text t c marks u ≡ laid_head (one u (begin part.Arrow marks)) (reads.async_head text r c u)
  unfolding async_head reads.async_head
  async_head_laid c marks u = seen_bind (laid_head (one u (begin part.Arrow marks))) refl (token text AtOperand u.end) _ _ (λ v.
      laid_if (laid_head (one u (begin part.Arrow marks))) v.newline refl (params_head_laid (in_arrow true c) _ v))

  -- an arrow up to its body
  abbrev headed : Marks → Option Token → Head → Marks
  headed marks async h = arrow_head_marks h (opt one async (begin part.Arrow marks))

  block_body_laid : (c : Context) (marks : Marks) (async : Option Token) (h : Head)
      → block_body text t c (is_some async) (headed marks async h) h.mark.end ≡ laid arrow_marks marks (reads.block_body text r c async h)
  unfolding block_body reads.block_body
  block_body_laid c marks async h = laid_bind (body_marks item_marks) (begin part.FunctionBody (headed marks async h)) (laid arrow_marks marks) refl _
      (read_functions.read_body text r (in_arrow (is_some async) c) h.mark.end) _ _ (body_laid text follows (in_arrow (is_some async) c) _ h.mark.end)
      (λ x. law_at (arrow-Block async h.params h.mark x.0) marks (stop x.1 block_arrow))

  concise_body_laid : (c : Context) (marks : Marks) (async : Option Token) (h : Head)
      → concise_body t c (is_some async) (headed marks async h) h.mark.end ≡ laid arrow_marks marks (reads.concise_body r c async h)
  unfolding concise_body reads.concise_body
  concise_body_laid c marks async h = laid_bind assign_marks (headed marks async h) (laid arrow_marks marks) refl _
      (r.assign (in_concise (is_some async) c) h.mark.end) _ _ (follows.assign (in_concise (is_some async) c) _ h.mark.end)
      (λ x. law_at (arrow-Concise async h.params h.mark x.0) marks x.1)

  pub arrow_body_laid : (c : Context) (marks : Marks) (async : Option Token) (h : Head)
      → arrow_body text t c (is_some async) (headed marks async h) h.mark.end ≡ laid arrow_marks marks (reads.arrow_body text r c async h)
  unfolding arrow_body reads.arrow_body
  arrow_body_laid c marks async h = seen_bind (laid arrow_marks marks) refl (token text AtOperand h.mark.end) _ _ (λ u.
      laid_if (laid arrow_marks marks) (is_mark text (codes "{") u) (block_body_laid c marks async h) (concise_body_laid c marks async h))

  pub arrow_assign_laid : (c : Context) (marks : Marks) (async : Option Token) (h : Head)
      → arrow_body text t c (is_some async) (headed marks async h) h.mark.end ≡ laid assign_marks marks (reads.arrow_assign text r c async h)
  unfolding reads.arrow_assign
  arrow_assign_laid c marks async h = laid_as arrow_marks assign_marks marks marks _ (reads.arrow_body text r c async h) (λ x. assign_v.Arrow x)
      (arrow_body_laid c marks async h) (λ x. mark_at (assign-Arrow x) marks)

  -- Assignments

  set_laid : (c : Context) (marks : Marks) (x : Target) (op : Token)
      → t.assign c (one op (target_marks x marks)) op.end ≡ laid assign_marks marks (reads.set_assign r c x op)
  unfolding reads.set_assign
  set_laid c marks x op = laid_as assign_marks assign_marks (one op (target_marks x marks)) marks _ (r.assign c op.end)
      (λ v. assign_v.Set x op v) (follows.assign c _ op.end) (λ v. mark_at (assign-Set x op v) marks)

  compound_laid : (c : Context) (marks : Marks) (x : Target) (op : Token)
      → t.assign c (updated (target_marks x marks) op) op.end ≡ laid assign_marks marks (reads.compound_assign r c x op)
  unfolding reads.compound_assign
  compound_laid c marks x op = laid_as assign_marks assign_marks (updated (target_marks x marks) op) marks _ (r.assign c op.end)
      (λ v. assign_v.Compound x op v) (follows.assign c _ op.end) (λ v. mark_at (assign-Compound x op v) marks)

  target_assign_laid : (c : Context) (marks : Marks) (x : Target) (op : Token)
      → target_assign text t c (target_marks x marks) op ≡ laid assign_marks marks (reads.target_assign text r c x op)
  unfolding target_assign reads.target_assign
  target_assign_laid c marks x op = laid_if (laid assign_marks marks) (is_mark text (codes "=") op) (set_laid c marks x op) (compound_laid c marks x op)

  pub cond_assign_laid : (c : Context) (marks : Marks) (x : Operand) (s : Stop)
      → cond_from text t c (operand_marks x marks) shape_v.Plain s ≡ laid assign_marks marks (reads.cond_assign text r c x s)
  unfolding reads.cond_assign
  cond_assign_laid c marks x s = laid_as cond_marks assign_marks marks marks _ (reads.cond_from text r c shape_v.Plain x s) (λ z. assign_v.Cond z)
      (cond_from_laid text follows functions c marks shape_v.Plain x s) (λ z. mark_at (assign-Cond z) marks)

  paren_by_laid : (c : Context) (marks : Marks) (x : Target) (u : Token)
      → paren_by text t c (target_marks x marks) u ≡ laid assign_marks marks (reads.paren_by text r c x u)
  unfolding paren_by reads.paren_by
  paren_by_laid c marks x u = laid_if (laid assign_marks marks) (is_assignment text u) (target_assign_laid c marks x u)
      (laid_if (laid assign_marks marks) (is_postfix text u)
      (ap (λ m. cond_from text t c m shape_v.Plain (stop u.end postfix)) (mark_at (operand-Postfix x u) marks)
      ∙ cond_assign_laid c marks (operand_v.Postfix x u) (stop u.end postfix)) refl)

  paren_assign_laid : (c : Context) (marks : Marks) (left : Token)
      → paren_assign text t c marks left ≡ laid assign_marks marks (reads.paren_assign text r c left)
  unfolding paren_assign reads.paren_assign
  paren_assign_laid c marks left = laid_bind target_marks marks (laid assign_marks marks) refl _ (targets.read_paren_target text r c left) _ _
      (paren_target_laid text follows functions c marks left) (λ x.
      seen_bind (laid assign_marks marks) refl (token text AtOperator x.1) _ _ (λ u. paren_by_laid c marks x.0 u))

  pattern_assign_laid : (c : Context) → Follows assign_marks (pattern_assign text t c) (reads.pattern_assign text r c)
  unfolding pattern_assign reads.pattern_assign
  pattern_assign_laid c marks p = laid_bind target_marks marks (laid assign_marks marks) refl _ (r.target_pattern c p) _ _
      (follows.target_pattern c marks p) (λ x.
      seen_bind (laid assign_marks marks) refl (mark text AtOperator (codes "=") x.1) _ _ (λ op. set_laid c marks x.0 op))

  pub other_assign_laid : (c : Context) (marks : Marks) (p : ℕ) (u : Token)
      → other_assign text t c marks p u ≡ laid assign_marks marks (reads.other_assign text r c p u)
  unfolding other_assign reads.other_assign
  other_assign_laid c marks p u = laid_if (laid assign_marks marks) (is_mark text (codes "(") u) (paren_assign_laid c marks u)
      (laid_if (laid assign_marks marks) (begins_pattern text u) (pattern_assign_laid c marks p) refl)

  operand_assign_laid : (c : Context) (before : Marks) (u : Token) (x : Parts) (p : ℕ) → NameIs x.name x.base
      → operand_assign text t c before (parts_marks x before) u (chain_of x p) ≡ laid assign_marks before (reads.operand_assign text r c u x p)
  unfolding operand_assign reads.operand_assign
  operand_assign_laid c before u x p named = laid_bind operand_marks before (laid assign_marks before) refl _ (reads.operand_behind text r c u x p) _ _
      (operand_behind_laid text follows functions c before u x p named) (λ y. cond_assign_laid c before y.0 y.1)

  chain_assign_laid : (c : Context) (before : Marks) (p : ℕ) (u : Token) (x : Parts) (q : ℕ) (v : Token) → NameIs x.name x.base
      → chain_assign text t c before (parts_marks x before) p u (chain_of x q) v
      ≡ laid assign_marks before (through (bare_of x) (λ b. reads.target_assign text r c (bare_target b) v) (reads.other_assign text r c p u))
  unfolding chain_assign
  chain_assign_laid c before p u x q v named = bare_through (laid assign_marks before) before (λ m. target_assign text t c m v)
      (λ b. reads.target_assign text r c (bare_target b) v) (λ b. target_assign_laid c before (bare_target b) v) x q _ _ named
      (other_assign_laid c before p u)

  pub assign_behind_laid : (c : Context) (before : Marks) (p : ℕ) (u : Token) (x : Parts) (q : ℕ) → NameIs x.name x.base
      → assign_behind text t c before (parts_marks x before) p u (chain_of x q) ≡ laid assign_marks before (reads.assign_behind text r c p u x q)
  unfolding assign_behind reads.assign_behind
  assign_behind_laid c before p u x q named = seen_bind (laid assign_marks before) refl (token text AtOperator q) _ _ (λ v.
      laid_if (laid assign_marks before) (is_assignment text v) (chain_assign_laid c before p u x q v named) (operand_assign_laid c before u x q named))

  pub plain_assign_laid : (c : Context) (marks : Marks) (p : ℕ) (u : Token)
      → plain_assign text t c marks p u ≡ laid assign_marks marks (reads.plain_assign text r c p u)
  unfolding plain_assign reads.plain_assign
  plain_assign_laid c marks p u = parts_through marks (laid assign_marks marks) _ (read_parts text r c p) _ _ _ _ (parts_named text r c p)
      (parts_laid text follows functions c marks p) (λ x named. assign_behind_laid c marks p u x.0 x.1 named) (other_assign_laid c marks p u)

  async_assign_laid : (c : Context) (marks : Marks) (p : ℕ) (u : Token)
      → async_assign text t c marks p u ≡ laid assign_marks marks (reads.async_assign text r c p u)
  unfolding async_assign reads.async_assign
  async_assign_laid c marks p u = head_through (one u (begin part.Arrow marks)) (laid assign_marks marks) _ (reads.async_head text r c u) _ _ _ _
      (async_head_laid c marks u) (λ h. arrow_assign_laid c marks (Some u) h) (plain_assign_laid c marks p u)

  named_by_laid : (c : Context) (marks : Marks) (p : ℕ) (u v : Token)
      → named_by text t c marks p u v ≡ laid assign_marks marks (reads.named_by text r c p u v)
  unfolding named_by reads.named_by
  named_by_laid c marks p u v = laid_if (laid assign_marks marks) (is_arrow text v)
      (arrow_assign_laid c marks None (reads.head (arrow_params.Name u) v))
      (laid_if (laid assign_marks marks) (is_word text (codes "async") u) (async_assign_laid c marks p u) (plain_assign_laid c marks p u))

  named_assign_laid : (c : Context) (marks : Marks) (p : ℕ) (u : Token)
      → named_assign text t c marks p u ≡ laid assign_marks marks (reads.named_assign text r c p u)
  unfolding named_assign reads.named_assign
  named_assign_laid c marks p u = seen_bind (laid assign_marks marks) refl (token text AtOperator u.end) _ _ (λ v. named_by_laid c marks p u v)

  bracket_assign_laid : (c : Context) (marks : Marks) (p : ℕ) (u : Token)
      → bracket_assign text t c marks p u ≡ laid assign_marks marks (reads.bracket_assign text r c p u)
  unfolding bracket_assign reads.bracket_assign
  bracket_assign_laid c marks p u = head_through (begin part.Arrow marks) (laid assign_marks marks) _
      (reads.list_head text r (in_arrow false c) u) _ _ _ _ (bracket_head_laid c marks u) (λ h. arrow_assign_laid c marks None h)
      (plain_assign_laid c marks p u)

  -- `yield`

  yield_value_laid : (c : Context) (marks : Marks) (u : Token) (star : Option Token) (p : ℕ)
      → t.assign c (opt one star (one u marks)) p ≡ laid assign_marks marks (reads.yield_value r c u star p)
  unfolding reads.yield_value
  yield_value_laid c marks u star p = laid_as assign_marks assign_marks (opt one star (one u marks)) marks _ (r.assign c p)
      (λ x. assign_v.Yield u (Some (reads.yielded star x))) (follows.assign c _ p) (λ x. mark_at (assign-Yield u (Some (reads.yielded star x))) marks)

  yield_by_laid : (c : Context) (marks : Marks) (u v : Token) → yield_by text t c marks u v ≡ laid assign_marks marks (reads.yield_by text r c u v)
  unfolding yield_by reads.yield_by
  yield_by_laid c marks u v = laid_if (laid assign_marks marks) (begins_nothing text v) (law_at (assign-Yield u None) marks (stop u.end block_arrow))
      (laid_if (laid assign_marks marks) (is_mark text (codes "*") v) (yield_value_laid c marks u (Some v) v.end)
      (yield_value_laid c marks u None u.end))

  yield_assign_laid : (c : Context) (marks : Marks) (u : Token) → yield_assign text t c marks u ≡ laid assign_marks marks (reads.yield_assign text r c u)
  unfolding yield_assign reads.yield_assign
  yield_assign_laid c marks u = seen_bind (laid assign_marks marks) refl (token text AtOperand u.end) _ _ (λ v. yield_by_laid c marks u v)

  other_cond_laid : (c : Context) (marks : Marks) (p : ℕ) (u : Token)
      → cond_by text t c marks p u ≡ laid assign_marks marks (reads.other_cond text r c p u)
  unfolding reads.other_cond
  other_cond_laid c marks p u = laid_as cond_marks assign_marks marks marks _ (reads.cond_by text r c p u) (λ x. assign_v.Cond x)
      (cond_by_laid text follows functions c marks p u) (λ x. mark_at (assign-Cond x) marks)

  pub assign_from_laid : (c : Context) (marks : Marks) (p : ℕ) (u : Token)
      → assign_from text t c marks p u ≡ laid assign_marks marks (reads.assign_from text r c p u)
  unfolding assign_from reads.assign_from
  assign_from_laid c marks p u = laid_if (laid assign_marks marks) (is_name text c u) (named_assign_laid c marks p u)
      (laid_if (laid assign_marks marks) (is_mark text (codes "(") u) (bracket_assign_laid c marks p u)
      (laid_if (laid assign_marks marks) (begins_other text c u) (other_cond_laid c marks p u)
      (laid_if (laid assign_marks marks) (is_yield text c u) (yield_assign_laid c marks u) (plain_assign_laid c marks p u))))

  pub assign_laid : (c : Context) → Follows assign_marks (trace_assign text t c) (reads.read_assign text r c)
  unfolding trace_assign reads.read_assign
  assign_laid c marks p = seen_bind (laid assign_marks marks) refl (token text AtOperand p) _ _ (λ u. assign_from_laid c marks p u)
