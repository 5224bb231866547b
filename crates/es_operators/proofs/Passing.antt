-- What gives way at a place gives way at the token that stands there, and what was traced there in vain gives way.
use Rattle.std.proofs.Common.{◌≡◌, ℕ, Some, None, sym, subst, ◌∙◌, true, false}
use Rattle.es_tree.specs.declared.tokens.Token.{Token}
use Rattle.es_tree.specs.declared.tokens.Goal.TheVariants.{Operand as AtOperand, Operator as AtOperator}
use Rattle.es_grammar.specs.declared.places.Context.{Context}
use Rattle.es_grammar.specs.Contexts.{in_arrow}
use Rattle.es_grammar.specs.Reading.{Bytes}
use Rattle.es_outline.specs.Outline.{Marks}
use Rattle.es_reader.specs.Basics.{◌>>=◌, token}
use Rattle.es_reader.specs.Tying.{readers_to}
use Rattle.es_reader.specs.Operators as reads
use Rattle.es_reader.specs.Operators.{is_assignment, is_postfix}
use Rattle.es_trace.specs.declared.pieces.Chain.{Chain}
use Rattle.es_trace.specs.Expressions.{trace_parts}
use Rattle.es_trace.specs.Operators.{async_head, bracket_head, other_assign, other_postfix, plain_assign, plain_operand}
use Rattle.es_trace.specs.Targets.{is_bare}
use Rattle.es_trace.specs.Tying.{tracers_to}
use Rattle.es_cursor.specs.declared.passed.Attempt.{Attempt}
use Rattle.es_cursor.specs.declared.passed.Attempt.TheVariants as attempt
use Rattle.es_cursor.specs.declared.passed.Passed.{Passed}
use Rattle.es_cursor.specs.Giving.{GivesWay}
use Rattle.es_targets.proofs.Passing as passing
use Rattle.es_operators.specs.Giving.{GivesWayAtPostfix, postfix_assign}

same_token : (text : Bytes) (p : ℕ) (t u : Token) → token text AtOperand p ≡ Some t → token text AtOperand p ≡ Some u → t ≡ u
same_token text p t u is there = let e : Some t ≡ Some u = sym is ∙ there in cc

-- the attempt, made there and so
abbrev pub tried : Attempt → ℕ → Context → ℕ → Passed
tried a nest c p = record { attempt = a; nest = nest; context = c; at = p }

module _ (text : Bytes) (nest : ℕ) (c : Context) (p : ℕ) (t : Token) (is : token text AtOperand p ≡ Some t) where
  -- What was traced in vain

  pub list_head_passed : (marks : Marks) → bracket_head text (tracers_to text nest) c marks t ≡ None
      → GivesWay text (tried attempt.ListHead nest (in_arrow false c) p)
  list_head_passed marks none = λ u there. subst (λ x. reads.list_head text (readers_to text nest) (in_arrow false c) x ≡ None)
      (same_token text p t u is there) (passing.bracket_passes text nest c marks t none)

  pub async_head_passed : (marks : Marks) → async_head text (tracers_to text nest) c marks t ≡ None → GivesWay text (tried attempt.AsyncHead nest c p)
  async_head_passed marks none = λ u there. subst (λ x. reads.async_head text (readers_to text nest) c x ≡ None)
      (same_token text p t u is there) (passing.async_passes text nest c marks t none)

  operand_passed : reads.plain_operand text (readers_to text nest) c p t ≡ reads.other_postfix text (readers_to text nest) c t
      → GivesWay text (tried attempt.Operand nest c p)
  operand_passed same = λ u there.
      subst (λ x. reads.plain_operand text (readers_to text nest) c p x ≡ reads.other_postfix text (readers_to text nest) c x)
      (same_token text p t u is there) same

  assign_passed : reads.plain_assign text (readers_to text nest) c p t ≡ reads.other_assign text (readers_to text nest) c p t
      → GivesWay text (tried attempt.Assign nest c p)
  assign_passed same = λ u there.
      subst (λ x. reads.plain_assign text (readers_to text nest) c p x ≡ reads.other_assign text (readers_to text nest) c p x)
      (same_token text p t u is there) same

  pub no_operand : (marks : Marks) → trace_parts text (tracers_to text nest) c marks p ≡ None → GivesWay text (tried attempt.Operand nest c p)
  no_operand marks none = operand_passed (passing.operand_missing text nest c marks p t none)

  pub no_assign : (marks : Marks) → trace_parts text (tracers_to text nest) c marks p ≡ None → GivesWay text (tried attempt.Assign nest c p)
  no_assign marks none = assign_passed (passing.assign_missing text nest c marks p t none)

  -- What was traced and is no target, by what stands behind it

  pub no_operand_behind : (marks after : Marks) (x : Chain) → trace_parts text (tracers_to text nest) c marks p ≡ Some (after, x)
      → GivesWayAtPostfix text x (tried attempt.Operand nest c p)
  no_operand_behind marks after x there = λ v behind update unlike.
      operand_passed (passing.operand_passes text nest c marks p t v after x there behind update unlike)

  pub no_assign_behind : (marks after : Marks) (x : Chain) (v : Token) → trace_parts text (tracers_to text nest) c marks p ≡ Some (after, x)
      → token text AtOperator x.at ≡ Some v → is_assignment text v ≡ true → is_bare x ≡ false → GivesWay text (tried attempt.Assign nest c p)
  no_assign_behind marks after x v there behind assigns unlike =
      assign_passed (passing.assign_passes text nest c marks p t v after x there behind assigns unlike)

  pub no_postfix_behind : (marks after : Marks) (x : Chain) (v : Token) → trace_parts text (tracers_to text nest) c marks p ≡ Some (after, x)
      → token text AtOperator x.at ≡ Some v → is_assignment text v ≡ false → GivesWayAtPostfix text x (tried attempt.Postfix nest c p)
  no_postfix_behind marks after x v there behind assigns = λ w stands update unlike.
      let e : v ≡ w = (let both : Some v ≡ Some w = sym behind ∙ stands in cc) in
      let same = passing.postfix_passes text nest c marks p t v after x there behind assigns (subst (λ y. is_postfix text y ≡ true) (sym e) update) unlike in
      λ u first.
      subst (λ y. reads.plain_assign text (readers_to text nest) c p y
      ≡ (reads.other_postfix text (readers_to text nest) c y >>= λ z. reads.cond_assign text (readers_to text nest) c z.0 z.1))
      (same_token text p t u is first) same

  -- What gives way

  pub list_head_gives_way : (marks : Marks) → GivesWay text (tried attempt.ListHead nest (in_arrow false c) p)
      → bracket_head text (tracers_to text nest) c marks t ≡ None
  list_head_gives_way marks gives = passing.bracket_gives_way text nest c marks t (gives t is)

  pub async_head_gives_way : (marks : Marks) → GivesWay text (tried attempt.AsyncHead nest c p) → async_head text (tracers_to text nest) c marks t ≡ None
  async_head_gives_way marks gives = passing.async_gives_way text nest c marks t (gives t is)

  pub operand_gives_way : (marks : Marks) → GivesWay text (tried attempt.Operand nest c p)
      → plain_operand text (tracers_to text nest) c marks p t ≡ other_postfix text (tracers_to text nest) c marks t
  operand_gives_way marks gives = passing.operand_gives_way text nest c marks p t (gives t is)

  pub assign_gives_way : (marks : Marks) → GivesWay text (tried attempt.Assign nest c p)
      → plain_assign text (tracers_to text nest) c marks p t ≡ other_assign text (tracers_to text nest) c marks p t
  assign_gives_way marks gives = passing.assign_gives_way text nest c marks p t (gives t is)

  pub postfix_gives_way : (marks : Marks) → GivesWay text (tried attempt.Postfix nest c p)
      → plain_assign text (tracers_to text nest) c marks p t
      ≡ postfix_assign text (tracers_to text nest) c marks t
  unfolding postfix_assign
  postfix_gives_way marks gives = passing.postfix_gives_way text nest c marks p t (gives t is)
