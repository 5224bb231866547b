-- Operands, operators and conditions are traced as they are read.
use Rattle.std.proofs.Common.{◌≡◌, ℕ, Bool, true, false, ◌&&◌, ◌||◌, List, [], ◌∷◌, ◌++◌, Option, Some, None, codes, refl, ap, ◌∙◌, if◌then◌else◌}
use Rattle.std.specs.List.{list_any}
use Rattle.std.specs.Str.{bytes_eq}
use Rattle.es_tree.specs.declared.tokens.Token.{Token}
use Rattle.es_tree.specs.declared.tokens.Goal.TheVariants.{Operand as AtOperand, Operator as AtOperator}
use Rattle.es_tree.specs.declared.parts.BinaryOf.{BinaryOf}
use Rattle.es_tree.specs.declared.parts.Joined.{Joined}
use Rattle.es_tree.specs.declared.cycle.Operand.{Operand}
use Rattle.es_tree.specs.declared.cycle.Operand.TheVariants as operand_v
use Rattle.es_tree.specs.declared.cycle.Target.{Target}
use Rattle.es_grammar.specs.declared.places.Context.{Context}
use Rattle.es_grammar.specs.declared.places.Stop.{Stop}
use Rattle.es_grammar.specs.Contexts.{bracketed}
use Rattle.es_grammar.specs.Operators.{has_operator}
use Rattle.es_grammar.specs.Reading.{Bytes, spelled}
use Rattle.es_grammar.specs.Semicolons.{expression, postfix, stop}
use Rattle.es_outline.specs.declared.mark.Role.TheVariants as is
use Rattle.es_outline.specs.Outline.{Marks, assign_marks, binary_marks, cond_marks, joined_marks, listed, one, operand_marks, target_marks, told}
use Rattle.es_outline.proofs.Laws.{operand-Await, operand-LHS, operand-Postfix, operand-Prefix, operand-Private, operand-Update}
use Rattle.es_outline.proofs.Rolled.{cond_rolled, lhs_rolled}
use Rattle.es_reader.specs.Basics.{is_mark, mark, token}
use Rattle.es_reader.specs.declared.pieces.Operands.{Operands}
use Rattle.es_reader.specs.declared.pieces.Shape.{Shape}
use Rattle.es_reader.specs.declared.pieces.Shape.TheVariants as shape_v
use Rattle.es_reader.specs.declared.pieces.TurnOf.{TurnOf}
use Rattle.es_reader.specs.Expressions.{Parts, read_parts}
use Rattle.es_reader.specs.Operators as reads
use Rattle.es_reader.specs.Operators.{fits, is_loose, is_operator, is_postfix, joined, operands, through}
use Rattle.es_reader.specs.Readers.{Readers}
use Rattle.es_reader.specs.Shapes.{begins_prefixed, is_await, is_private_kind, is_sign, is_update, shape_of}
use Rattle.es_reader.specs.Targets as targets
use Rattle.es_reader.specs.Targets.{bare_of, bare_target}
use Rattle.es_trace.specs.Basics.{Traced, laid}
use Rattle.es_trace.specs.declared.pieces.Turn.{Turn}
use Rattle.es_trace.specs.declared.pieces.Turn.TheVariants as turn_v
use Rattle.es_trace.specs.declared.pieces_operators.Joins.{Joins}
use Rattle.es_trace.specs.Following.{AreFollowing, Follows, chain_of, parts_marks}
use Rattle.es_trace.specs.Operators.{arms_behind, binary_behind, chain_postfix, cond_behind, cond_by, cond_from, is_coalescing, is_logical, joined_behind, joined_by, joined_ended, joined_turn, joins_behind, listed_from, next_joined, operand_behind, operand_from, other_postfix, paren_postfix, plain_operand, postfix_behind, prefixed_from, suits, trace_cond, trace_operand, trace_prefixed, update_operand, updated}
use Rattle.es_trace.specs.Tracers.{Tracers}
use Rattle.es_trace.proofs.Bare.{NameIs, bare_through, parts_named, parts_through}
use Rattle.es_trace.proofs.Expressions.{FollowFunctions, parts_laid}
use Rattle.es_trace.proofs.Laying.{all_bind, laid_as, laid_bind, laid_if, laid_turn, law_at, mark_at, seen_bind}
use Rattle.es_trace.proofs.Sides.{laid_turns}
use Rattle.es_trace.proofs.Targets.{paren_target_laid, simple_target_laid}

-- What is known of operands and the operators between them

abbrev pub joins_of : Bytes → List (Joined Operand) → Operands → Joins
joins_of text xs s = record {
  at = s.at;
  is_loose = is_loose text s.before;
  shape = s.shape;
  has_coalescing = has_operator text (codes "??" ∷ []) xs;
  has_logical = has_operator text (codes "||" ∷ codes "&&" ∷ []) xs;
}

or_none : (a : Bool) → a ≡ (a || false)
or_none true = refl
or_none false = refl

or_over : (a b c : Bool) {d : Bool} → (b || c) ≡ d → ((a || b) || c) ≡ (a || d)
or_over true b c is = refl
or_over false b c is = is

any_pushed : {X : Type 0} (test : X → Bool) (xs : List X) (x : X) → (list_any test xs || test x) ≡ list_any test (xs ++ x ∷ [])
any_pushed test [] x = or_none (test x)
any_pushed test (y ∷ ys) x = or_over (test y) (list_any test ys) (test x) (any_pushed test ys x)

coalescing_pushed : (text : Bytes) (xs : List (Joined Operand)) (x : Joined Operand)
    → (has_operator text (codes "??" ∷ []) xs || is_coalescing text x.op) ≡ has_operator text (codes "??" ∷ []) (xs ++ x ∷ [])
unfolding is_coalescing
coalescing_pushed text xs x = ap (λ b. has_operator text (codes "??" ∷ []) xs || b) (or_none (bytes_eq (spelled text x.op) (codes "??")))
    ∙ any_pushed (λ (y : Joined Operand). list_any (bytes_eq (spelled text y.op)) (codes "??" ∷ [])) xs x

logical_pushed : (text : Bytes) (xs : List (Joined Operand)) (x : Joined Operand)
    → (has_operator text (codes "||" ∷ codes "&&" ∷ []) xs || is_logical text x.op) ≡ has_operator text (codes "||" ∷ codes "&&" ∷ []) (xs ++ x ∷ [])
unfolding is_logical
logical_pushed text xs x = ap (λ b. has_operator text (codes "||" ∷ codes "&&" ∷ []) xs || (bytes_eq (spelled text x.op) (codes "||") || b))
    (or_none (bytes_eq (spelled text x.op) (codes "&&")))
    ∙ any_pushed (λ (y : Joined Operand). list_any (bytes_eq (spelled text y.op)) (codes "||" ∷ codes "&&" ∷ [])) xs x

abbrev known : Stop → Bool → Shape → Bool → Bool → Joins
known at loose shape coalescing logical = record {
  at = at;
  is_loose = loose;
  shape = shape;
  has_coalescing = coalescing;
  has_logical = logical;
}

both_known : (at : Stop) (loose : Bool) (shape : Shape) {a b a' b' : Bool} → a ≡ a' → b ≡ b' → known at loose shape a b ≡ known at loose shape a' b'
both_known at loose shape coalescing logical = λ i. known at loose shape (coalescing i) (logical i)

-- one more operator and operand
joins_pushed : (text : Bytes) (xs : List (Joined Operand)) (s : Operands) (op : Token) (x : Operand) (at : Stop) (shape : Shape)
    → joins_behind text (joins_of text xs s) op at shape ≡ joins_of text (xs ++ joined op x ∷ []) (operands at (Some op) shape)
joins_pushed text xs s op x at shape = both_known at (is_loose text (Some op)) shape (coalescing_pushed text xs (joined op x))
    (logical_pushed text xs (joined op x))

suits_is : (text : Bytes) (before : Option Token) (shape : Shape) (behind : Option Token)
    → suits text (is_loose text before) shape behind ≡ fits text before shape behind
suits_is text before shape_v.Signed behind = refl
suits_is text before shape_v.Private behind = refl
suits_is text before shape_v.Plain behind = refl

module _ (text : Bytes) {t : Tracers} {r : Readers} (follows : AreFollowing t r) (functions : FollowFunctions text t r) where
  -- Operands

  postfix_behind_laid : (marks : Marks) (x : Target) (p : ℕ)
      → postfix_behind text (target_marks x marks) p ≡ laid operand_marks marks (reads.postfix_behind text x p)
  unfolding postfix_behind reads.postfix_behind
  postfix_behind_laid marks x p = seen_bind (laid operand_marks marks) refl (token text AtOperator p) _ _ (λ u.
      laid_if (laid operand_marks marks) (is_postfix text u) (law_at (operand-Postfix x u) marks (stop u.end postfix)) refl)

  paren_postfix_laid : (c : Context) (marks : Marks) (left : Token)
      → paren_postfix text t c marks left ≡ laid operand_marks marks (reads.paren_postfix text r c left)
  unfolding paren_postfix reads.paren_postfix
  paren_postfix_laid c marks left = laid_bind target_marks marks (laid operand_marks marks) refl _ (targets.read_paren_target text r c left) _ _
      (paren_target_laid text follows functions c marks left) (λ x. postfix_behind_laid marks x.0 x.1)

  pub other_postfix_laid : (c : Context) (marks : Marks) (u : Token)
      → other_postfix text t c marks u ≡ laid operand_marks marks (reads.other_postfix text r c u)
  unfolding other_postfix reads.other_postfix
  other_postfix_laid c marks u = laid_if (laid operand_marks marks) (is_mark text (codes "(") u) (paren_postfix_laid c marks u) refl

  chain_postfix_laid : (c : Context) (before : Marks) (u : Token) (x : Parts) (p : ℕ) (v : Token) → NameIs x.name x.base
      → chain_postfix text t c before (parts_marks x before) u (chain_of x p) v
      ≡ laid operand_marks before (through (bare_of x) (λ b. reads.postfix_of (bare_target b) v) (reads.other_postfix text r c u))
  unfolding chain_postfix
  chain_postfix_laid c before u x p v named = bare_through (laid operand_marks before) before (λ m. Some (updated m v, stop v.end postfix))
      (λ b. reads.postfix_of (bare_target b) v) (λ b. law_at (operand-Postfix (bare_target b) v) before (stop v.end postfix)) x p _ _ named
      (other_postfix_laid c before u)

  pub operand_behind_laid : (c : Context) (before : Marks) (u : Token) (x : Parts) (p : ℕ) → NameIs x.name x.base
      → operand_behind text t c before (parts_marks x before) u (chain_of x p) ≡ laid operand_marks before (reads.operand_behind text r c u x p)
  unfolding operand_behind reads.operand_behind
  operand_behind_laid c before u x p named = seen_bind (laid operand_marks before) refl (token text AtOperator p) _ _ (λ v.
      laid_if (laid operand_marks before) (is_postfix text v) (chain_postfix_laid c before u x p v named)
      (ap (λ m. Some (m, stop p expression)) (mark_at (lhs_rolled (record { base = x.base; suffixes = x.suffixes })) before
      ∙ mark_at (operand-LHS _) before)))

  pub plain_operand_laid : (c : Context) (marks : Marks) (p : ℕ) (u : Token)
      → plain_operand text t c marks p u ≡ laid operand_marks marks (reads.plain_operand text r c p u)
  unfolding plain_operand reads.plain_operand
  plain_operand_laid c marks p u = parts_through marks (laid operand_marks marks) _ (read_parts text r c p) _ _ _ _ (parts_named text r c p)
      (parts_laid text follows functions c marks p) (λ x named. operand_behind_laid c marks u x.0 x.1 named) (other_postfix_laid c marks u)

  operand_from_laid : (c : Context) (marks : Marks) (p : ℕ) (u : Token)
      → operand_from text t c marks p u ≡ laid operand_marks marks (reads.operand_from text r c p u)
  unfolding operand_from reads.operand_from
  operand_from_laid c marks p u = laid_if (laid operand_marks marks) (begins_prefixed text c u) (follows.prefixed c marks p)
      (plain_operand_laid c marks p u)

  pub operand_laid : (c : Context) → Follows operand_marks (trace_operand text t c) (reads.read_operand text r c)
  unfolding trace_operand reads.read_operand
  operand_laid c marks p = seen_bind (laid operand_marks marks) refl (token text AtOperand p) _ _ (λ u. operand_from_laid c marks p u)

  sign_laid : (c : Context) (marks : Marks) (u : Token)
      → trace_operand text t c (told is.Prefix u marks) u.end ≡ laid operand_marks marks (reads.prefix_operand text r c u)
  unfolding reads.prefix_operand
  sign_laid c marks u = laid_as operand_marks operand_marks (told is.Prefix u marks) marks _ (reads.read_operand text r c u.end)
      (λ x. operand_v.Prefix u x) (operand_laid c _ u.end) (λ x. mark_at (operand-Prefix u x) marks)

  await_laid : (c : Context) (marks : Marks) (u : Token)
      → trace_operand text t c (told is.Await u marks) u.end ≡ laid operand_marks marks (reads.await_operand text r c u)
  unfolding reads.await_operand
  await_laid c marks u = laid_as operand_marks operand_marks (told is.Await u marks) marks _ (reads.read_operand text r c u.end)
      (λ x. operand_v.Await u x) (operand_laid c _ u.end) (λ x. mark_at (operand-Await u x) marks)

  update_laid : (c : Context) (marks : Marks) (u : Token) → update_operand text t c marks u ≡ laid operand_marks marks (reads.update_operand text r c u)
  unfolding update_operand reads.update_operand
  update_laid c marks u = laid_bind target_marks (one u marks) (laid operand_marks marks) refl _ (targets.read_simple_target text r c u.end) _ _
      (simple_target_laid text follows functions c _ u.end) (λ x. law_at (operand-Update u x.0) marks (stop x.1 expression))

  prefixed_from_laid : (c : Context) (marks : Marks) (u : Token) → prefixed_from text t c marks u ≡ laid operand_marks marks (reads.prefixed_from text r c u)
  unfolding prefixed_from reads.prefixed_from
  prefixed_from_laid c marks u = laid_if (laid operand_marks marks) (is_sign text u) (sign_laid c marks u)
      (laid_if (laid operand_marks marks) (is_await text c u) (await_laid c marks u)
      (laid_if (laid operand_marks marks) (is_update text u) (update_laid c marks u) refl))

  pub prefixed_laid : (c : Context) → Follows operand_marks (trace_prefixed text t c) (reads.read_prefixed text r c)
  unfolding trace_prefixed reads.read_prefixed
  prefixed_laid c marks p = seen_bind (laid operand_marks marks) refl (token text AtOperand p) _ _ (λ u. prefixed_from_laid c marks u)

  -- Operators

  listed_from_laid : (c : Context) (marks : Marks) (p : ℕ) (u : Token)
      → listed_from text t c marks p u ≡ laid operand_marks marks (reads.listed_from text r c p u)
  unfolding listed_from reads.listed_from
  listed_from_laid c marks p u = laid_if (laid operand_marks marks) (is_private_kind u.kind)
      (law_at (operand-Private u) marks (stop u.end expression)) (operand_from_laid c marks p u)

  module _ (c : Context) (marks : Marks) (found : List (Joined Operand)) (s : Operands) where
    abbrev before : Marks
    before = listed (joined_marks operand_marks) found marks

    abbrev as_turn : Option (TurnOf Operands (Joined Operand)) → Traced (Turn Joins)
    as_turn = laid_turn (joined_marks operand_marks) (joins_of text) found marks

    joined_by_laid : (op u : Token) → joined_by text t c before (joins_of text found s) op u ≡ as_turn (reads.joined_by text r c op u)
    unfolding joined_by reads.joined_by
    joined_by_laid op u = laid_bind operand_marks (one op before) as_turn refl _ (reads.listed_from text r c op.end u) _ _
        (listed_from_laid c (one op before) op.end u) (λ x.
        ap (λ j. Some (operand_marks x.0 (one op before), turn_v.More j)) (joins_pushed text found s op x.0 x.1 (shape_of text c u)))

    next_joined_laid : (op : Token) → next_joined text t c before (joins_of text found s) op ≡ as_turn (reads.next_joined text r c op)
    unfolding next_joined reads.next_joined
    next_joined_laid op = seen_bind as_turn refl (token text AtOperand op.end) _ _ (λ u. joined_by_laid op u)

    joined_behind_laid : (op : Token) → joined_behind text t c before (joins_of text found s) op ≡ as_turn (reads.joined_behind text r c s op)
    unfolding joined_behind reads.joined_behind
    joined_behind_laid op = ap (λ b. if b then next_joined text t c before (joins_of text found s) op else None)
        (suits_is text s.before s.shape (Some op)) ∙ laid_if as_turn (fits text s.before s.shape (Some op)) (next_joined_laid op) refl

    joined_ended_laid : joined_ended text before (joins_of text found s) ≡ as_turn (reads.joined_ended text s)
    unfolding joined_ended reads.joined_ended
    joined_ended_laid = ap (λ b. if b then Some (before, turn_v.Ended (joins_of text found s)) else None) (suits_is text s.before s.shape None)
        ∙ laid_if as_turn (fits text s.before s.shape None) refl refl

    joined_laid : joined_turn text t c before (joins_of text found s) ≡ as_turn (reads.joined_turn text r c s)
    unfolding joined_turn reads.joined_turn
    joined_laid = seen_bind as_turn refl (token text AtOperator s.at.at) _ _ (λ u.
        laid_if as_turn (is_operator text c u) (joined_behind_laid u) joined_ended_laid)

  binary_laid : (c : Context) (marks : Marks) (x : Operand) (shape : Shape) (s : Stop)
      → binary_behind text t c (operand_marks x marks) shape s ≡ laid binary_marks marks (reads.binary_behind text r c x shape s)
  unfolding binary_behind reads.binary_behind
  binary_laid c marks x shape s = all_bind (joined_marks operand_marks) (joins_of text) (operand_marks x marks) (laid binary_marks marks) refl _ _ _ _
      (laid_turns text (joined_marks operand_marks) (joins_of text) (reads.joined_turn text r c) (joined_turn text t c) (operand_marks x marks)
      (λ found z. joined_laid c (operand_marks x marks) found z) (operands s None shape))
      (λ xs. laid_if (laid binary_marks marks) (reads.mixes text xs.0) refl refl)

  -- Conditions

  arms_laid : (c : Context) (marks : Marks) (test : BinaryOf Operand) (question : Token)
      → arms_behind text t c (binary_marks test marks) question ≡ laid cond_marks marks (reads.arms_behind text r c test question)
  unfolding arms_behind reads.arms_behind
  arms_laid c marks test question = laid_bind assign_marks (one question (binary_marks test marks)) (laid cond_marks marks) refl _
      (r.assign (bracketed c) question.end) _ _ (follows.assign (bracketed c) _ question.end) (λ x.
      seen_bind (laid cond_marks marks) refl (mark text AtOperator (codes ":") x.1.at) _ _ (λ colon.
      laid_as assign_marks cond_marks (one colon (assign_marks x.0 (one question (binary_marks test marks)))) marks _ (r.assign c colon.end)
      (λ y. reads.choice test question x.0 colon y) (follows.assign c _ colon.end) (λ y.
      mark_at (cond_rolled (record { test = test; arms = Some (record { question = question; when_true = x.0; colon = colon; when_false = y }) })) marks)))

  cond_behind_laid : (c : Context) (marks : Marks) (test : BinaryOf Operand) (s : Stop)
      → cond_behind text t c (binary_marks test marks) s ≡ laid cond_marks marks (reads.cond_behind text r c test s)
  unfolding cond_behind reads.cond_behind
  cond_behind_laid c marks test s = seen_bind (laid cond_marks marks) refl (token text AtOperator s.at) _ _ (λ u.
      laid_if (laid cond_marks marks) (is_mark text (codes "?") u) (arms_laid c marks test u)
      (law_at (cond_rolled (record { test = test; arms = None })) marks s))

  pub cond_from_laid : (c : Context) (marks : Marks) (shape : Shape) (x : Operand) (s : Stop)
      → cond_from text t c (operand_marks x marks) shape s ≡ laid cond_marks marks (reads.cond_from text r c shape x s)
  unfolding cond_from reads.cond_from
  cond_from_laid c marks shape x s = laid_bind binary_marks marks (laid cond_marks marks) refl _ (reads.binary_behind text r c x shape s) _ _
      (binary_laid c marks x shape s) (λ b. cond_behind_laid c marks b.0 b.1)

  pub cond_by_laid : (c : Context) (marks : Marks) (p : ℕ) (u : Token) → cond_by text t c marks p u ≡ laid cond_marks marks (reads.cond_by text r c p u)
  unfolding cond_by reads.cond_by
  cond_by_laid c marks p u = laid_bind operand_marks marks (laid cond_marks marks) refl _ (reads.listed_from text r c p u) _ _
      (listed_from_laid c marks p u) (λ x. cond_from_laid c marks (shape_of text c u) x.0 x.1)

  pub cond_laid : (c : Context) → Follows cond_marks (trace_cond text t c) (reads.read_cond text r c)
  unfolding trace_cond reads.read_cond
  cond_laid c marks p = seen_bind (laid cond_marks marks) refl (token text AtOperand p) _ _ (λ u. cond_by_laid c marks p u)
