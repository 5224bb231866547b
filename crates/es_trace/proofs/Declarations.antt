-- Declarations are traced as they are read.
use Rattle.std.proofs.Common.{◌≡◌, ℕ, Bool, true, false, not, ◌&&◌, List, [], ◌∷◌, ◌++◌, Option, Some, None, codes, length, ◌+◌, refl, ap, sym, ◌∙◌, if◌then◌else◌}
use Rattle.es_tree.specs.declared.tokens.Token.{Token}
use Rattle.es_tree.specs.declared.tokens.Goal.TheVariants.{Operand, Operator}
use Rattle.es_tree.specs.declared.parts.LexOf.{LexOf}
use Rattle.es_tree.specs.declared.parts.Separated.{Separated}
use Rattle.es_tree.specs.declared.parts.VarOf.{VarOf}
use Rattle.es_tree.specs.declared.cycle.Bind.{Bind}
use Rattle.es_tree.specs.declared.cycle.Bind.TheVariants as bind_v
use Rattle.es_tree.specs.declared.cycle.Decl.{Decl}
use Rattle.es_grammar.specs.declared.places.Context.{Context}
use Rattle.es_grammar.specs.declared.places.Stop.{Stop}
use Rattle.es_grammar.specs.Reading.{Bytes}
use Rattle.es_grammar.specs.Semicolons.{stop, declared_name}
use Rattle.es_outline.specs.declared.mark.Part.TheVariants as part
use Rattle.es_outline.specs.declared.mark.Role.TheVariants as is
use Rattle.es_outline.specs.Outline.{◌⨾◌, Lays, Marks, begin, end, listed, one, semicolon, told, within, bind_marks, decl_marks, lex_marks, separated_marks, var_marks}
use Rattle.es_outline.proofs.Laws.{bind-Name}
use Rattle.es_outline.proofs.Rolled.{decl_rolled}
use Rattle.es_reader.specs.Basics.{◌>>=◌, token, is_mark, is_name}
use Rattle.es_reader.specs.EndedLists as ended_lists
use Rattle.es_reader.specs.Functions as functions
use Rattle.es_reader.specs.Loops as loops
use Rattle.es_reader.specs.Readers.{Readers}
use Rattle.es_reader.specs.Semis.{read_semi}
use Rattle.es_reader.specs.Statements as reads
use Rattle.es_reader.specs.declared.pieces.TurnOf.{TurnOf}
use Rattle.es_trace.specs.Basics.{Traced, Tracer, Ended, laid}
use Rattle.es_trace.specs.Following.{AreFollowing, Follows}
use Rattle.es_trace.specs.Lists.{comma_or_end, ended_turn, stop_at}
use Rattle.es_trace.specs.Loops.{Turning, all_turns, go_on, repeat}
use Rattle.es_trace.specs.Statements.{semi_behind, declared_by, declared_behind, named_binding, pattern_binding, pattern_declared, trace_binding, trace_declared, trace_decls, lex_behind, var_behind, decls_behind}
use Rattle.es_trace.specs.Tracers.{Tracers}
use Rattle.es_trace.specs.declared.pieces.Turn.{Turn}
use Rattle.es_trace.proofs.Functions.{decl_initialised_laid}
use Rattle.es_trace.proofs.Lists.{at_stop, end_laid, ended_laid}
use Rattle.es_trace.proofs.Laying.{all_bind, laid_all, laid_as, laid_bind, laid_if, laid_known, laid_repeat, laid_turn, law_at, one_more, seen_bind, state_bind}

-- a declared Bind, and whether it is a Name, with where it ends
abbrev pub binding_marks : reads.Binding → Lays
binding_marks x = bind_marks x.0

abbrev pub binding_at : reads.Binding → ℕ → ℕ × Bool
binding_at x p = (p, x.1)

module _ (text : Bytes) {t : Tracers} {r : Readers} (follows : AreFollowing t r) where
  pattern_binding_laid : (c : Context) (marks : Marks) (p : ℕ)
      → pattern_binding t c marks p ≡ laid_known binding_marks binding_at marks (reads.pattern_binding r c p)
  unfolding pattern_binding reads.pattern_binding
  pattern_binding_laid c marks p = laid_bind bind_marks marks (laid_known binding_marks binding_at marks) refl _ (r.bind_pattern c p) _ _
      (follows.bind_pattern c marks p) (λ x. refl)

  pub binding_laid : (c : Context) (marks : Marks) (p : ℕ)
      → trace_binding text t c marks p ≡ laid_known binding_marks binding_at marks (reads.read_binding text r c p)
  unfolding trace_binding reads.read_binding
  binding_laid c marks p = seen_bind (laid_known binding_marks binding_at marks) refl (token text Operand p) _ _ (λ u.
      laid_if (laid_known binding_marks binding_at marks) (is_name text c u)
      (law_at (bind-Name u) marks (u.end, true)) (pattern_binding_laid c marks p))

  pub declared_by_laid : (c : Context) (is_const : Bool) (marks : Marks) (x : reads.Binding) (p : ℕ) (u : Token)
      → declared_by text t c (x.1 && not is_const) (bind_marks x.0 marks) p u ≡ laid decl_marks marks (reads.declared_by text r c is_const x p u)
  unfolding declared_by reads.declared_by
  declared_by_laid c is_const marks x p u = laid_if (laid decl_marks marks) (is_mark text (codes "=") u)
      (decl_initialised_laid text follows c marks x.0 u)
      (laid_if (laid decl_marks marks) (x.1 && not is_const) (law_at (decl_rolled (record { bind = x.0; initial = None })) marks _) refl)

  declared_behind_laid : (c : Context) (is_const : Bool) (marks : Marks) (x : reads.Binding) (p : ℕ)
      → declared_behind text t c (x.1 && not is_const) (bind_marks x.0 marks) p ≡ laid decl_marks marks (reads.declared_behind text r c is_const x p)
  unfolding declared_behind reads.declared_behind
  declared_behind_laid c is_const marks x p = seen_bind (laid decl_marks marks) refl (token text Operator p) _ _
      (λ u. declared_by_laid c is_const marks x p u)

  pub declared_laid : (c : Context) (is_const : Bool) → Follows decl_marks (trace_declared text t c is_const) (reads.read_declared text r c is_const)
  unfolding trace_declared reads.read_declared reads.read_binding pattern_declared reads.pattern_binding
  declared_laid c is_const marks p = by_token (token text Operand p)
    where
      binding_of : Bind × ℕ → Option (reads.Binding × ℕ)
      binding_of x = Some (reads.binding x.0 false, x.1)

      behind : reads.Binding × ℕ → Option (Decl × Stop)
      behind x = reads.declared_behind text r c is_const x.0 x.1

      by_pattern : (came : Option (Bind × ℕ)) (traced : Traced ℕ) → traced ≡ laid bind_marks marks came
          → (traced >>= λ x. declared_behind text t c false x.0 x.1) ≡ laid decl_marks marks ((came >>= binding_of) >>= behind)
      by_pattern None traced e = ap (λ o. o >>= λ x. declared_behind text t c false x.0 x.1) e
      by_pattern (Some x) traced e = ap (λ o. o >>= λ y. declared_behind text t c false y.0 y.1) e
          ∙ declared_behind_laid c is_const marks (reads.binding x.0 false) x.1

      by_name : (u : Token) (b : Bool) → (if b then declared_behind text t c (not is_const) (told is.Bound u marks) u.end
          else (t.bind_pattern c marks p >>= λ x. declared_behind text t c false x.0 x.1))
          ≡ laid decl_marks marks ((if b then Some (reads.binding (bind_v.Name u) true, u.end) else (r.bind_pattern c p >>= binding_of)) >>= behind)
      by_name u true = ap (λ f. declared_behind text t c (not is_const) (f marks) u.end) (sym (bind-Name u))
          ∙ declared_behind_laid c is_const marks (reads.binding (bind_v.Name u) true) u.end
      by_name u false = by_pattern (r.bind_pattern c p) _ (follows.bind_pattern c marks p)

      by_token : (o : Option Token) → (o >>= λ u. if is_name text c u then declared_behind text t c (not is_const) (told is.Bound u marks) u.end
          else (t.bind_pattern c marks p >>= λ x. declared_behind text t c false x.0 x.1))
          ≡ laid decl_marks marks ((o >>= λ u. if is_name text c u then Some (reads.binding (bind_v.Name u) true, u.end)
          else (r.bind_pattern c p >>= binding_of)) >>= behind)
      by_token None = refl
      by_token (Some u) = by_name u (is_name text c u)

  -- lists of declarations are followed, with where they end
  abbrev pub decls_marks : List (Separated Decl) → Lays
  decls_marks = listed (separated_marks decl_marks)

  same_all : (marks : Marks) (came : Option (List (Separated Decl) × Stop))
      → laid_all (separated_marks decl_marks) at_stop marks came ≡ laid decls_marks marks came
  same_all marks None = refl
  same_all marks (Some xs) = refl

  abbrev each_read : Context → Bool → Stop → Option (TurnOf Stop (Separated Decl))
  each_read c is_const = ended_lists.ended_turn text (reads.read_declared text r c is_const)

  abbrev each_traced : Context → Bool → Turning Stop
  each_traced c is_const = ended_turn text (trace_declared text t c is_const)

  each_laid : (c : Context) (is_const : Bool) (marks : Marks) (found : List (Separated Decl)) (s : Stop)
      → each_traced c is_const (decls_marks found marks) s ≡ laid_turn (separated_marks decl_marks) at_stop found marks (each_read c is_const s)
  each_laid c is_const marks found s = ended_laid text decl_marks marks found (trace_declared text t c is_const) (reads.read_declared text r c is_const)
      (declared_laid c is_const) s

  all_laid : (c : Context) (is_const : Bool) (marks : Marks) (n : ℕ) (found : List (Separated Decl)) (s : Stop)
      → repeat (each_traced c is_const) n (decls_marks found marks) s
      ≡ laid_all (separated_marks decl_marks) at_stop marks (loops.repeat (each_read c is_const) n found s)
  all_laid c is_const marks n found s =
      laid_repeat (separated_marks decl_marks) at_stop (each_read c is_const) (each_traced c is_const) marks (each_laid c is_const marks) n found s

  pub decls_laid : (c : Context) (is_const : Bool) (marks : Marks) (p : ℕ)
      → trace_decls text t c is_const marks p ≡ laid decls_marks marks (reads.read_decls text r c is_const p)
  unfolding trace_decls reads.read_decls
  decls_laid c is_const marks p = all_laid c is_const marks (length text + 1) [] (stop_at p)
      ∙ same_all marks (loops.all_turns text (ended_lists.ended_turn text (reads.read_declared text r c is_const)) (stop_at p))

  pub lex_laid : (c : Context) (is_const : Bool) (marks : Marks) (u : Token)
      → lex_behind text t c is_const marks u ≡ laid lex_marks marks (reads.lex_behind text r c is_const u)
  unfolding lex_behind reads.lex_behind semi_behind
  lex_laid c is_const marks u = laid_bind decls_marks (one u (begin part.Declaration marks)) (laid lex_marks marks) refl _
      (reads.read_decls text r c is_const u.end) _ _ (decls_laid c is_const _ u.end)
      (λ xs. seen_bind (laid lex_marks marks) refl (read_semi text xs.1) _ _ (λ s. refl))

  pub var_laid : (c : Context) (marks : Marks) (u : Token) → var_behind text t c marks u ≡ laid var_marks marks (reads.var_behind text r c u)
  unfolding var_behind lex_behind reads.var_behind semi_behind
  var_laid c marks u = laid_bind decls_marks (one u (begin part.Declaration marks)) (laid var_marks marks) refl _
      (reads.read_decls text r c false u.end) _ _ (decls_laid c false _ u.end)
      (λ xs. seen_bind (laid var_marks marks) refl (read_semi text xs.1) _ _ (λ s. refl))

  -- the declarations behind the first Bind
  pub decls_behind_laid : (c : Context) (is_const : Bool) (marks : Marks) (x : reads.Binding) (p : ℕ) (u : Token)
      → decls_behind text t c is_const (bind_marks x.0 marks) (p, x.1) u ≡ laid decls_marks marks (reads.decls_behind text r c is_const x p u)
  unfolding decls_behind reads.decls_behind
  decls_behind_laid c is_const marks x p u = laid_bind decl_marks marks (laid decls_marks marks) refl _ (reads.declared_by text r c is_const x p u) _ _
      (declared_by_laid c is_const marks x p u) (λ y.
      ap (λ o. o >>= λ z. go_on (repeat (each_traced c is_const) (length text + 1)) z.0 z.1) (end_laid text decl_marks marks [] y.0 y.1)
      ∙ one_more (separated_marks decl_marks) at_stop (each_read c is_const) (each_traced c is_const) marks (each_laid c is_const marks)
      (length text + 1) [] y.1 (all_laid c is_const marks (length text + 1)) (ended_lists.comma_or_end text y.0 y.1)
      ∙ same_all marks (ended_lists.comma_or_end text y.0 y.1 >>= loops.go_on [] (loops.repeat (each_read c is_const) (length text + 1))))
