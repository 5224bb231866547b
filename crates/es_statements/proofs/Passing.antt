-- Where no expression stands before `;` in a head of `for`, the readers give way to a target, and where they do, so do the tracers.
use Rattle.std.proofs.Common.{◌≡◌, ℕ, Bool, true, false, [], ◌∷◌, Option, Some, None, codes, refl, ap, sym, subst, ◌∙◌, if◌then◌else◌}
use Rattle.std.proofs.lemmas.List.{append_cancel_right}
use Rattle.es_tree.specs.declared.tokens.Token.{Token}
use Rattle.es_tree.specs.declared.tokens.Goal.TheVariants.{Operator}
use Rattle.es_grammar.specs.declared.places.Context.{Context}
use Rattle.es_grammar.specs.declared.places.Stop.{Stop}
use Rattle.es_grammar.specs.Contexts.{without_in}
use Rattle.es_grammar.specs.Expressions.{Expr}
use Rattle.es_grammar.specs.Reading.{Bytes}
use Rattle.es_outline.specs.declared.mark.Mark.TheVariants as mark_v
use Rattle.es_outline.specs.declared.mark.Part.{Part}
use Rattle.es_outline.specs.declared.mark.Part.TheVariants as part
use Rattle.es_outline.specs.Outline.{Marks, begin, one, expr_marks, for_marks}
use Rattle.es_reader.specs.Basics.{◌>>=◌, is_mark, token}
use Rattle.es_reader.specs.Expressions.{read_expr}
use Rattle.es_reader.specs.Semis.{holds}
use Rattle.es_reader.specs.Statements as reads
use Rattle.es_reader.specs.Tying.{readers_to}
use Rattle.es_trace.specs.Basics.{Traced, laid}
use Rattle.es_trace.specs.Expressions.{trace_expr}
use Rattle.es_trace.specs.Statements.{for_expr, for_target, init_expr}
use Rattle.es_trace.specs.Tying.{tracers_to}
use Rattle.es_trace.proofs.Heads.{expr_for_laid, target_for_laid}
use Rattle.es_trace.proofs.Modules.{ended_by}
use Rattle.es_trace.proofs.Tying.{expressions, tracing_law}
use Rattle.es_cursor.specs.declared.passed.Attempt.TheVariants as attempt
use Rattle.es_cursor.specs.declared.passed.Passed.{Passed}
use Rattle.es_cursor.specs.Giving.{GivesWay}
use Rattle.es_statements.specs.Behind.{BehindParen}

-- an expression in a head, tried there and so
abbrev pub tried : ℕ → Context → ℕ → Passed
tried nest c p = record { attempt = attempt.Init; nest = nest; context = c; at = p }

-- Two ways of going on are the same where they are when the part ends

abbrev marks_in : Marks → Traced ℕ → Marks
marks_in other None = other
marks_in other (Some x) = x.0

abbrev place_in : ℕ → Traced ℕ → ℕ
place_in other None = other
place_in other (Some x) = x.1

ended_apart : (which : Part) (x y : Traced ℕ) → (x >>= ended_by which) ≡ (y >>= ended_by which) → x ≡ y
ended_apart which None None same = refl
ended_apart which None (Some y) same = cc
ended_apart which (Some x) None same = cc
ended_apart which (Some x) (Some y) same =
    let marks : x.0 ≡ y.0 = append_cancel_right x.0 y.0 (mark_v.End which ∷ []) (ap (marks_in []) same) in
    let place : x.1 ≡ y.1 = ap (place_in 0) same in
    ap (λ m. Some (m, x.1)) marks ∙ ap (λ p. Some (y.0, p)) place

-- What stands where no `;` does

by_mark : {X Y : Type 0} (m : Bool) (x : X) (a b : Option Y) → (if m then Some x else None) ≡ None → (if m then a else b) ≡ b
by_mark true x a b none = cc
by_mark false x a b none = refl

by_token : {X Y : Type 0} (text : Bytes) (o : Option Token) (x : X) (a b : Option Y)
    → (o >>= λ u. if is_mark text (codes ";") u then Some x else None) ≡ None → (if holds (is_mark text (codes ";")) o then a else b) ≡ b
by_token text None x a b none = refl
by_token text (Some u) x a b none = by_mark (is_mark text (codes ";") u) x a b none

module _ (text : Bytes) (nest : ℕ) (c : Context) where
  -- an expression before `;`
  abbrev before_semicolon : Traced Stop → Traced ℕ
  before_semicolon traced = traced >>= λ x. token text Operator x.1.at >>= λ u. if is_mark text (codes ";") u then Some (x.0, x.1.at) else None

  by_expr : (for_word left : Token) (marks : Marks) (read : Option (Expr × Stop)) (traced : Traced Stop) → traced ≡ laid expr_marks marks read
      → before_semicolon traced ≡ None
      → reads.for_expr_by text (readers_to text nest) c for_word left read ≡ reads.for_target text (readers_to text nest) c for_word left
  by_expr for_word left marks None traced is none = refl
  by_expr for_word left marks (Some x) traced is none =
      by_token text (token text Operator x.1.at) (expr_marks x.0 marks, x.1.at) _ _ (sym (ap before_semicolon is) ∙ none)

  pub init_passed : (marks : Marks) (p : ℕ) → init_expr text (tracers_to text nest) (without_in c) marks p ≡ None → GivesWay text (tried nest c p)
  unfolding init_expr reads.for_expr
  init_passed marks p none = λ for_word left ends.
      let there : before_semicolon (trace_expr text (tracers_to text nest) (without_in c) marks left.end) ≡ None =
      subst (λ q. before_semicolon (trace_expr text (tracers_to text nest) (without_in c) marks q) ≡ None) (sym ends) none in
      by_expr for_word left marks (read_expr text (readers_to text nest) (without_in c) left.end) _
      ((expressions text (tracing_law text nest)).expr (without_in c) marks left.end) there

  pub init_gives_way : (marks : Marks) (p : ℕ) → BehindParen marks p → GivesWay text (tried nest c p)
      → for_expr text (tracers_to text nest) c marks p ≡ for_target text (tracers_to text nest) c marks p
  init_gives_way marks p behind gives =
      let follows = tracing_law text nest in
      let expr = expr_for_laid text follows (expressions text follows) c behind.before behind.for_word behind.left in
      let target = target_for_laid text follows (expressions text follows) c behind.before behind.for_word behind.left in
      let opened : Marks = one behind.left (one behind.for_word (begin part.For behind.before)) in
      let same : for_expr text (tracers_to text nest) c opened behind.left.end ≡ for_target text (tracers_to text nest) c opened behind.left.end =
      ended_apart part.For _ _ (expr ∙ ap (laid for_marks behind.before) (gives behind.for_word behind.left behind.ends) ∙ sym target) in
      subst (λ m. for_expr text (tracers_to text nest) c m p ≡ for_target text (tracers_to text nest) c m p) (sym behind.is)
      (subst (λ q. for_expr text (tracers_to text nest) c opened q ≡ for_target text (tracers_to text nest) c opened q) behind.ends same)
