-- What gives way in the readers to a nest gives way in the tracers to it, whatever the marks, and what was traced in vain gives way
-- in the readers.
use Rattle.std.proofs.Common.{◌≡◌, ℕ, Bool, true, false, List, [], ◌∷◌, Option, Some, None, refl, ap, sym, ◌∙◌, if◌then◌else◌}
use Rattle.es_tree.specs.declared.tokens.Token.{Token}
use Rattle.es_tree.specs.declared.tokens.Goal.TheVariants.{Operator as AtOperator}
use Rattle.es_tree.specs.declared.cycle.Base.{Base}
use Rattle.es_grammar.specs.declared.places.Context.{Context}
use Rattle.es_grammar.specs.Contexts.{in_arrow}
use Rattle.es_grammar.specs.Reading.{Bytes}
use Rattle.es_outline.specs.declared.mark.Part.TheVariants as part
use Rattle.es_outline.specs.Outline.{Lays, Marks, assign_marks, begin, one, operand_marks, target_marks}
use Rattle.es_reader.specs.Basics.{◌>>=◌, token}
use Rattle.es_reader.specs.Expressions.{Parts, Suffix, parts, read_parts}
use Rattle.es_reader.specs.declared.pieces.Shape.TheVariants as shape_v
use Rattle.es_reader.specs.Operators as reads
use Rattle.es_reader.specs.Operators.{Head, is_assignment, is_postfix, through}
use Rattle.es_reader.specs.Readers.{Readers}
use Rattle.es_reader.specs.Targets as targets
use Rattle.es_reader.specs.Targets.{Bare, bare_of, end_with_member}
use Rattle.es_reader.specs.Tying.{readers_to}
use Rattle.es_trace.specs.Basics.{Traced, laid}
use Rattle.es_trace.specs.declared.pieces.Chain.{Chain}
use Rattle.es_trace.specs.Expressions.{trace_parts}
use Rattle.es_trace.specs.Following.{AreFollowing, chain_of, laid_parts}
use Rattle.es_trace.specs.Operators.{async_head, bracket_head, cond_from, other_assign, other_postfix, plain_assign, plain_operand}
use Rattle.es_trace.specs.Targets.{is_bare, pattern_alone, trace_bare}
use Rattle.es_trace.specs.Tying.{tracers_to}
use Rattle.es_trace.proofs.Assignments.{async_head_laid, bracket_head_laid, cond_assign_laid, laid_head, other_assign_laid, plain_assign_laid}
use Rattle.es_trace.proofs.Bare.{bare_marks}
use Rattle.es_trace.proofs.Callables.{functions_follow}
use Rattle.es_trace.proofs.Expressions.{FollowFunctions, parts_laid}
use Rattle.es_trace.proofs.Laying.{laid_bind}
use Rattle.es_trace.proofs.Operators.{other_postfix_laid, plain_operand_laid}
use Rattle.es_trace.proofs.Targets.{bare_laid, pattern_alone_laid}
use Rattle.es_trace.proofs.Tying.{tracing_law}

-- Where nothing was traced, nothing was read

laid_none : {X S : Type 0} (f : X → Lays) (marks : Marks) (read : Option (X × S)) → laid f marks read ≡ None → read ≡ None
laid_none f marks None none = refl
laid_none f marks (Some x) none = cc

head_none : (marks : Marks) (read : Option Head) → laid_head marks read ≡ None → read ≡ None
head_none marks None none = refl
head_none marks (Some h) none = cc

parts_none : (marks : Marks) (read : Option (Parts × ℕ)) → laid_parts marks read ≡ None → read ≡ None
parts_none marks None none = refl
parts_none marks (Some x) none = cc

-- what is known of an LHS that was traced
abbrev chain_in : Chain → Traced Chain → Chain
chain_in other None = other
chain_in other (Some x) = x.1

-- What is neither a Name nor a member is no target

member_none : (b : Bool) (x : Bare) → b ≡ false → (if b then Some x else None) ≡ None
member_none true x unlike = cc
member_none false x unlike = refl

no_bare : (base : Base) (n : Option Token) (xs : List Suffix) (p : ℕ) → is_bare (chain_of (parts base n xs) p) ≡ false → bare_of (parts base n xs) ≡ None
unfolding bare_of
no_bare base None [] p unlike = refl
no_bare base (Some u) [] p unlike = cc
no_bare base None (y ∷ ys) p unlike = member_none (end_with_member (y ∷ ys)) _ unlike
no_bare base (Some u) (y ∷ ys) p unlike = member_none (end_with_member (y ∷ ys)) _ unlike

bare_none : (x : Parts) (p : ℕ) → is_bare (chain_of x p) ≡ false → bare_of x ≡ None
bare_none x p unlike = no_bare x.base x.name x.suffixes p unlike

module _ (text : Bytes) (nest : ℕ) (c : Context) (marks : Marks) where
  abbrev r : Readers
  r = readers_to text nest

  follows : AreFollowing (tracers_to text nest) (readers_to text nest)
  follows = tracing_law text nest

  functions : FollowFunctions text (tracers_to text nest) (readers_to text nest)
  functions = functions_follow text follows

  -- Heads of arrows

  pub bracket_gives_way : (u : Token) → reads.list_head text r (in_arrow false c) u ≡ None → bracket_head text (tracers_to text nest) c marks u ≡ None
  bracket_gives_way u none = bracket_head_laid text follows functions c marks u ∙ ap (laid_head (begin part.Arrow marks)) none

  pub bracket_passes : (u : Token) → bracket_head text (tracers_to text nest) c marks u ≡ None → reads.list_head text r (in_arrow false c) u ≡ None
  bracket_passes u none = head_none (begin part.Arrow marks) (reads.list_head text r (in_arrow false c) u)
      (sym (bracket_head_laid text follows functions c marks u) ∙ none)

  pub async_gives_way : (u : Token) → reads.async_head text r c u ≡ None → async_head text (tracers_to text nest) c marks u ≡ None
  async_gives_way u none = async_head_laid text follows functions c marks u ∙ ap (laid_head (one u (begin part.Arrow marks))) none

  pub async_passes : (u : Token) → async_head text (tracers_to text nest) c marks u ≡ None → reads.async_head text r c u ≡ None
  async_passes u none = head_none (one u (begin part.Arrow marks)) (reads.async_head text r c u)
      (sym (async_head_laid text follows functions c marks u) ∙ none)

  -- Targets

  pub bare_gives_way : (p : ℕ) → targets.read_bare text r c p ≡ None → trace_bare text (tracers_to text nest) c marks p ≡ None
  bare_gives_way p none = bare_laid text follows functions c marks p ∙ ap (laid bare_marks marks) none

  pub bare_passes : (p : ℕ) → trace_bare text (tracers_to text nest) c marks p ≡ None → targets.read_bare text r c p ≡ None
  bare_passes p none = laid_none bare_marks marks (targets.read_bare text r c p) (sym (bare_laid text follows functions c marks p) ∙ none)

  pub pattern_gives_way : (p : ℕ) → targets.pattern_alone text r c p ≡ None → pattern_alone text (tracers_to text nest) c marks p ≡ None
  pattern_gives_way p none = pattern_alone_laid text follows functions c marks p ∙ ap (laid target_marks marks) none

  pub pattern_passes : (p : ℕ) → pattern_alone text (tracers_to text nest) c marks p ≡ None → targets.pattern_alone text r c p ≡ None
  pattern_passes p none = laid_none target_marks marks (targets.pattern_alone text r c p)
      (sym (pattern_alone_laid text follows functions c marks p) ∙ none)

  -- Operands and assignments, where no LHS was read

  parts_missing : (p : ℕ) → trace_parts text (tracers_to text nest) c marks p ≡ None → read_parts text r c p ≡ None
  parts_missing p none = parts_none marks (read_parts text r c p) (sym (parts_laid text follows functions c marks p) ∙ none)

  pub operand_gives_way : (p : ℕ) (u : Token) → reads.plain_operand text r c p u ≡ reads.other_postfix text r c u
      → plain_operand text (tracers_to text nest) c marks p u ≡ other_postfix text (tracers_to text nest) c marks u
  operand_gives_way p u same = plain_operand_laid text follows functions c marks p u ∙ ap (laid operand_marks marks) same
      ∙ sym (other_postfix_laid text follows functions c marks u)

  pub operand_missing : (p : ℕ) (u : Token) → trace_parts text (tracers_to text nest) c marks p ≡ None
      → reads.plain_operand text r c p u ≡ reads.other_postfix text r c u
  unfolding reads.plain_operand
  operand_missing p u none = ap (λ o. through o (λ x. reads.operand_behind text r c u x.0 x.1) (reads.other_postfix text r c u)) (parts_missing p none)

  pub assign_gives_way : (p : ℕ) (u : Token) → reads.plain_assign text r c p u ≡ reads.other_assign text r c p u
      → plain_assign text (tracers_to text nest) c marks p u ≡ other_assign text (tracers_to text nest) c marks p u
  assign_gives_way p u same = plain_assign_laid text follows functions c marks p u ∙ ap (laid assign_marks marks) same
      ∙ sym (other_assign_laid text follows functions c marks p u)

  pub assign_missing : (p : ℕ) (u : Token) → trace_parts text (tracers_to text nest) c marks p ≡ None
      → reads.plain_assign text r c p u ≡ reads.other_assign text r c p u
  unfolding reads.plain_assign
  assign_missing p u none = ap (λ o. through o (λ x. reads.assign_behind text r c p u x.0 x.1) (reads.other_assign text r c p u)) (parts_missing p none)

  -- The same where an LHS was read that is no target, by what stands behind it

  operand_by : (u v : Token) (after : Marks) (chain : Chain) (read : Option (Parts × ℕ)) → laid_parts marks read ≡ Some (after, chain)
      → token text AtOperator chain.at ≡ Some v → is_postfix text v ≡ true → is_bare chain ≡ false
      → through read (λ x. reads.operand_behind text r c u x.0 x.1) (reads.other_postfix text r c u) ≡ reads.other_postfix text r c u
  unfolding reads.operand_behind
  operand_by u v after chain None is there update unlike = cc
  operand_by u v after chain (Some x) is there update unlike =
      let same : chain_of x.0 x.1 ≡ chain = ap (chain_in chain) is in
      let behind : token text AtOperator x.1 ≡ Some v = ap (λ (y : Chain). token text AtOperator y.at) same ∙ there in
      let none : bare_of x.0 ≡ None = bare_none x.0 x.1 (ap is_bare same ∙ unlike) in
      rw (behind, update, none) refl

  pub operand_passes : (p : ℕ) (u v : Token) (after : Marks) (chain : Chain) → trace_parts text (tracers_to text nest) c marks p ≡ Some (after, chain)
      → token text AtOperator chain.at ≡ Some v → is_postfix text v ≡ true → is_bare chain ≡ false
      → reads.plain_operand text r c p u ≡ reads.other_postfix text r c u
  unfolding reads.plain_operand
  operand_passes p u v after chain is there update unlike = operand_by u v after chain (read_parts text r c p)
      (sym (parts_laid text follows functions c marks p) ∙ is) there update unlike

  assign_by : (p : ℕ) (u v : Token) (after : Marks) (chain : Chain) (read : Option (Parts × ℕ)) → laid_parts marks read ≡ Some (after, chain)
      → token text AtOperator chain.at ≡ Some v → is_assignment text v ≡ true → is_bare chain ≡ false
      → through read (λ x. reads.assign_behind text r c p u x.0 x.1) (reads.other_assign text r c p u) ≡ reads.other_assign text r c p u
  unfolding reads.assign_behind
  assign_by p u v after chain None is there assigns unlike = cc
  assign_by p u v after chain (Some x) is there assigns unlike =
      let same : chain_of x.0 x.1 ≡ chain = ap (chain_in chain) is in
      let behind : token text AtOperator x.1 ≡ Some v = ap (λ (y : Chain). token text AtOperator y.at) same ∙ there in
      let none : bare_of x.0 ≡ None = bare_none x.0 x.1 (ap is_bare same ∙ unlike) in
      rw (behind, assigns, none) refl

  pub assign_passes : (p : ℕ) (u v : Token) (after : Marks) (chain : Chain) → trace_parts text (tracers_to text nest) c marks p ≡ Some (after, chain)
      → token text AtOperator chain.at ≡ Some v → is_assignment text v ≡ true → is_bare chain ≡ false
      → reads.plain_assign text r c p u ≡ reads.other_assign text r c p u
  unfolding reads.plain_assign
  assign_passes p u v after chain is there assigns unlike = assign_by p u v after chain (read_parts text r c p)
      (sym (parts_laid text follows functions c marks p) ∙ is) there assigns unlike

  -- what is assigned to nothing, but has `++` or `--` behind it
  pub postfix_gives_way : (p : ℕ) (u : Token)
      → reads.plain_assign text r c p u ≡ (reads.other_postfix text r c u >>= λ y. reads.cond_assign text r c y.0 y.1)
      → plain_assign text (tracers_to text nest) c marks p u
      ≡ (other_postfix text (tracers_to text nest) c marks u >>= λ y. cond_from text (tracers_to text nest) c y.0 shape_v.Plain y.1)
  postfix_gives_way p u same = plain_assign_laid text follows functions c marks p u ∙ ap (laid assign_marks marks) same
      ∙ sym (laid_bind operand_marks marks (laid assign_marks marks) refl _ (reads.other_postfix text r c u) _ _
      (other_postfix_laid text follows functions c marks u) (λ y. cond_assign_laid text follows functions c marks y.0 y.1))

  postfix_by : (p : ℕ) (u v : Token) (after : Marks) (chain : Chain) (read : Option (Parts × ℕ)) → laid_parts marks read ≡ Some (after, chain)
      → token text AtOperator chain.at ≡ Some v → is_assignment text v ≡ false → is_postfix text v ≡ true → is_bare chain ≡ false
      → through read (λ x. reads.assign_behind text r c p u x.0 x.1) (reads.other_assign text r c p u)
      ≡ (reads.other_postfix text r c u >>= λ y. reads.cond_assign text r c y.0 y.1)
  unfolding reads.assign_behind reads.operand_assign reads.operand_behind
  postfix_by p u v after chain None is there assigns update unlike = cc
  postfix_by p u v after chain (Some x) is there assigns update unlike =
      let same : chain_of x.0 x.1 ≡ chain = ap (chain_in chain) is in
      let behind : token text AtOperator x.1 ≡ Some v = ap (λ (y : Chain). token text AtOperator y.at) same ∙ there in
      let none : bare_of x.0 ≡ None = bare_none x.0 x.1 (ap is_bare same ∙ unlike) in
      rw (behind, assigns, update, none) refl

  pub postfix_passes : (p : ℕ) (u v : Token) (after : Marks) (chain : Chain) → trace_parts text (tracers_to text nest) c marks p ≡ Some (after, chain)
      → token text AtOperator chain.at ≡ Some v → is_assignment text v ≡ false → is_postfix text v ≡ true → is_bare chain ≡ false
      → reads.plain_assign text r c p u ≡ (reads.other_postfix text r c u >>= λ y. reads.cond_assign text r c y.0 y.1)
  unfolding reads.plain_assign
  postfix_passes p u v after chain is there assigns update unlike = postfix_by p u v after chain (read_parts text r c p)
      (sym (parts_laid text follows functions c marks p) ∙ is) there assigns update unlike
