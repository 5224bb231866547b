-- Classes and their elements are traced as they are read.
use Rattle.std.proofs.Common.{◌≡◌, ℕ, Bool, true, false, List, [], ◌∷◌, ◌++◌, Option, Some, None, codes, length, ◌+◌, is_some, refl, ap, sym, subst, ◌∙◌, if◌then◌else◌}
use Rattle.es_tree.specs.declared.tokens.Token.{Token}
use Rattle.es_tree.specs.declared.tokens.TokenKind.{TokenKind}
use Rattle.es_tree.specs.declared.tokens.TokenKind.TheVariants as kind
use Rattle.es_tree.specs.declared.tokens.Goal.TheVariants.{Operand, Operator}
use Rattle.es_tree.specs.declared.parts.Extends.{Extends}
use Rattle.es_tree.specs.declared.parts.KeyOf.{KeyOf}
use Rattle.es_tree.specs.declared.parts.KeyOf.TheVariants as key
use Rattle.es_tree.specs.declared.cycle.Assign.{Assign}
use Rattle.es_tree.specs.declared.cycle.Class.{Class, roll-Class}
use Rattle.es_tree.specs.declared.cycle.Element.{Element}
use Rattle.es_tree.specs.declared.cycle.Element.TheVariants as element_v
use Rattle.es_tree.specs.declared.cycle.LHS.{LHS}
use Rattle.es_grammar.specs.declared.places.Context.{Context}
use Rattle.es_grammar.specs.declared.places.Stop.{Stop}
use Rattle.es_grammar.specs.Contexts.{bracketed, in_class}
use Rattle.es_grammar.specs.Functions.{ending_of_key}
use Rattle.es_grammar.specs.Reading.{Bytes}
use Rattle.es_outline.specs.declared.mark.Role.TheVariants as is
use Rattle.es_outline.specs.declared.mark.Part.TheVariants as part
use Rattle.es_outline.specs.Outline.{◌⨾◌, Lays, Marks, begin, end, listed, named, one, opt, within, assign_marks, body_marks, class_marks, element_marks, extends_marks, initializer_marks, item_marks, key_marks, lhs_marks, method_marks}
use Rattle.es_outline.proofs.Laws.{element-Empty, element-Method, element-Field, element-Static}
use Rattle.es_outline.proofs.Rolled.{class_rolled}
use Rattle.es_reader.specs.Basics.{◌>>=◌, Reader, token, is_mark, is_word, mark, word}
use Rattle.es_reader.specs.Functions as reads
use Rattle.es_reader.specs.Readers.{Readers}
use Rattle.es_reader.specs.Semis.{read_semi}
use Rattle.es_reader.proofs.Steps.{bind_some, chosen, some_is, when, else as otherwise}
use Rattle.es_trace.specs.Basics.{Traced, Tracer, laid}
use Rattle.es_trace.specs.Following.{AreFollowing, Follows}
use Rattle.es_trace.specs.Tracers.{Tracers}
use Rattle.es_trace.specs.Functions.{field_initialised, plain_field, element_by, key_ending, key_behind, keyed_element, element_behind, static_block, static_by, static_element, trace_element, trace_element_key, trace_heritage, class_named, trace_class, stop, method_behind, trace_method}
use Rattle.es_trace.proofs.Functions.{body_laid, element_key_laid, initializer_laid}
use Rattle.es_trace.proofs.Methods.{method_behind_laid, method_laid}
use Rattle.es_trace.proofs.Lists.{at_place, chain_laid}
use Rattle.es_trace.proofs.Laying.{all_bind, known_bind, laid_repeat, laid_as, laid_bind, laid_if, law_at, mark_at, seen_bind}

-- a token is there, or none
data Seen (o : Option Token) : Type 0 where
  there : (u : Token) → o ≡ Some u → Seen o
  not_there : o ≡ None → Seen o

seen_or_not : (o : Option Token) → Seen o
seen_or_not None = not_there refl
seen_or_not (Some u) = there u refl

module _ (text : Bytes) {t : Tracers} {r : Readers} (follows : AreFollowing t r) where
  method_element_laid : (c : Context) (marks : Marks) (static : Option Token) (p : ℕ)
      → trace_method text t c (trace_element_key text t c) (opt one static marks) p ≡ laid element_marks marks (reads.method_element text r c static p)
  unfolding reads.method_element
  method_element_laid c marks static p = laid_as method_marks element_marks (opt one static marks) marks _
      (reads.read_method text r c (reads.read_element_key text r c) p) (λ x. element_v.Method static x)
      (method_laid text follows c (trace_element_key text t c) (reads.read_element_key text r c) (element_key_laid text follows c) _ p)
      (λ x. mark_at (element-Method static x) marks)

  plain_method_laid : (c : Context) (marks : Marks) (static : Option Token) (k : KeyOf Assign) (p : ℕ)
      → method_behind text t c false false (key_marks k (opt one static marks)) p
      ≡ laid element_marks marks (reads.plain_method_element text r c static k p)
  unfolding reads.plain_method_element
  plain_method_laid c marks static k p = laid_as method_marks element_marks (opt one static marks) marks _
      (reads.method_behind text r c None None k p) (λ x. element_v.Method static x)
      (method_behind_laid text follows c (opt one static marks) None None k p) (λ x. mark_at (element-Method static x) marks)

  field_initialised_laid : (c : Context) (marks : Marks) (static : Option Token) (k : KeyOf Assign) (equals : Token)
      → field_initialised text t c (key_marks k (opt one static marks)) equals
      ≡ laid element_marks marks (reads.field_initialised text r c static k equals)
  unfolding field_initialised reads.field_initialised
  field_initialised_laid c marks static k equals = laid_bind (initializer_marks assign_marks) (key_marks k (opt one static marks))
      (laid element_marks marks) refl _ (reads.initializer_behind text r (in_class c) equals) _ _
      (initializer_laid text follows (in_class c) _ equals) (λ i.
      seen_bind (laid element_marks marks) refl (read_semi text i.1) _ _ (λ s. law_at (element-Field static k (Some i.0) s.0) marks s.1))

  plain_field_laid : (marks : Marks) (static : Option Token) (k : KeyOf Assign) (p : ℕ)
      → plain_field text (key_marks k (opt one static marks)) (stop p (ending_of_key text k))
      ≡ laid element_marks marks (reads.plain_field text static k p)
  unfolding plain_field reads.plain_field
  plain_field_laid marks static k p = seen_bind (laid element_marks marks) refl (read_semi text (stop p (ending_of_key text k))) _ _
      (λ s. law_at (element-Field static k None s.0) marks s.1)

  element_by_laid : (c : Context) (marks : Marks) (static : Option Token) (k : KeyOf Assign) (p : ℕ) (u : Token)
      → element_by text t c (key_marks k (opt one static marks)) (stop p (ending_of_key text k)) u
      ≡ laid element_marks marks (reads.element_by text r c static k p u)
  unfolding element_by reads.element_by
  element_by_laid c marks static k p u = laid_if (laid element_marks marks) (is_mark text (codes "(") u) (plain_method_laid c marks static k p)
      (laid_if (laid element_marks marks) (is_mark text (codes "=") u) (field_initialised_laid c marks static k u) (plain_field_laid marks static k p))

  -- what a key ends in, by its first token
  key_ends : (c : Context) (u : Token) (k : TokenKind) (x : KeyOf Assign × ℕ) → reads.read_element_key_by text r c u k ≡ Some x
      → ending_of_key text x.0 ≡ key_ending text u k
  unfolding reads.read_computed_key
  key_ends c u kind.IdName x e = ap (λ y. ending_of_key text y.0) (sym (some_is _ _ e))
  key_ends c u kind.String x e = ap (λ y. ending_of_key text y.0) (sym (some_is _ _ e))
  key_ends c u kind.Number x e = ap (λ y. ending_of_key text y.0) (sym (some_is _ _ e))
  key_ends c u kind.Private x e = ap (λ y. ending_of_key text y.0) (sym (some_is _ _ e))
  key_ends c u kind.Punctuator x e = elim (chosen (is_mark text (codes "[") u) (reads.read_computed_key text r c u) None _ e) [
    | when h f ↦ let v = bind_some (r.assign (bracketed c) u.end) _ _ f in
        let w = bind_some (mark text Operator (codes "]") v.0.1.at) _ _ v.2 in ap (λ y. ending_of_key text y.0) (sym (some_is _ _ w.2))
    | otherwise h f ↦ absurd cc
  ]
  key_ends c u kind.Template x e = absurd cc
  key_ends c u kind.Regex x e = absurd cc
  key_ends c u kind.End x e = absurd cc

  key_is : (c : Context) (p : ℕ) (u : Token) (x : KeyOf Assign × ℕ) → token text Operand p ≡ Some u → reads.read_element_key text r c p ≡ Some x
      → reads.read_element_key_by text r c u u.kind ≡ Some x
  unfolding reads.read_element_key
  key_is c p u x seen is = sym (ap (λ o. o >>= λ v. reads.read_element_key_by text r c v v.kind) seen) ∙ is

  no_key : (c : Context) (static : Option Token) (p : ℕ) → token text Operand p ≡ None → reads.keyed_element text r c static p ≡ None
  unfolding reads.keyed_element reads.read_element_key
  no_key c static p none = ap (λ o. (o >>= λ v. reads.read_element_key_by text r c v v.kind)
      >>= λ k. token text Operator k.1 >>= reads.element_by text r c static k.0 k.1) none

  -- a key at a token that is there
  key_behind_laid : (c : Context) (marks : Marks) (static : Option Token) (p : ℕ) (u : Token) → token text Operand p ≡ Some u
      → key_behind text t c (opt one static marks) p u ≡ laid element_marks marks (reads.keyed_element text r c static p)
  unfolding key_behind reads.keyed_element
  key_behind_laid c marks static p u seen = known_bind key_marks (opt one static marks) (laid element_marks marks) refl _
      (reads.read_element_key text r c p) _ _ (element_key_laid text follows c _ p) (λ k is.
      subst (λ ending. (token text Operator k.1 >>= element_by text t c (key_marks k.0 (opt one static marks)) (stop k.1 ending))
      ≡ laid element_marks marks (token text Operator k.1 >>= reads.element_by text r c static k.0 k.1)) (key_ends c u u.kind k (key_is c p u k seen is))
      (seen_bind (laid element_marks marks) refl (token text Operator k.1) _ _ (λ v. element_by_laid c marks static k.0 k.1 v)))

  keyed_element_laid : (c : Context) (marks : Marks) (static : Option Token) (p : ℕ)
      → keyed_element text t c (opt one static marks) p ≡ laid element_marks marks (reads.keyed_element text r c static p)
  unfolding keyed_element
  keyed_element_laid c marks static p = elim (seen_or_not (token text Operand p)) [
    | there u e ↦ ap (λ o. o >>= key_behind text t c (opt one static marks) p) e ∙ key_behind_laid c marks static p u e
    | not_there e ↦ ap (λ o. o >>= key_behind text t c (opt one static marks) p) e ∙ ap (laid element_marks marks) (sym (no_key c static p e))
  ]

  element_behind_laid : (c : Context) (marks : Marks) (static : Option Token) (p : ℕ) (u : Token)
      → element_behind text t c (opt one static marks) p u ≡ laid element_marks marks (reads.element_behind text r c static p u)
  unfolding element_behind reads.element_behind
  element_behind_laid c marks static p u = laid_if (laid element_marks marks) (reads.begins_method text u) (method_element_laid c marks static p)
      (keyed_element_laid c marks static p)

  static_block_laid : (c : Context) (marks : Marks) (static : Token)
      → static_block text t c marks static ≡ laid element_marks marks (reads.static_block text r c static)
  unfolding static_block reads.static_block
  static_block_laid c marks static = laid_bind (body_marks item_marks) (begin part.StaticBlock (one static marks)) (laid element_marks marks) refl _
      (reads.read_body text r (in_class c) static.end) _ _ (body_laid text follows (in_class c) _ static.end)
      (λ x. law_at (element-Static static x.0) marks x.1)

  static_by_laid : (c : Context) (marks : Marks) (u : Token) (p : ℕ) (v : Token)
      → static_by text t c marks u p v ≡ laid element_marks marks (reads.static_by text r c u p v)
  unfolding static_by reads.static_by
  static_by_laid c marks u p v = laid_if (laid element_marks marks) (is_mark text (codes "{") v) (static_block_laid c marks u)
      (laid_if (laid element_marks marks) (reads.begins_starred_key text v) (element_behind_laid c marks (Some u) u.end v)
      (keyed_element_laid c marks None p))

  static_element_laid : (c : Context) (marks : Marks) (u : Token) (p : ℕ)
      → static_element text t c marks u p ≡ laid element_marks marks (reads.static_element text r c u p)
  unfolding static_element reads.static_element
  static_element_laid c marks u p = seen_bind (laid element_marks marks) refl (token text Operand u.end) _ _ (λ v. static_by_laid c marks u p v)

  element_laid : (c : Context) → Follows element_marks (trace_element text t c) (reads.read_element text r c)
  unfolding trace_element reads.read_element
  element_laid c marks p = seen_bind (laid element_marks marks) refl (token text Operand p) _ _ (λ u.
      laid_if (laid element_marks marks) (is_mark text (codes ";") u) (law_at (element-Empty u) marks u.end)
      (laid_if (laid element_marks marks) (is_word text (codes "static") u) (static_element_laid c marks u p) (element_behind_laid c marks None p u)))

  heritage_behind_laid : (c : Context) (marks : Marks) (u : Token)
      → t.extended c (one u marks) u.end ≡ laid (opt (extends_marks lhs_marks)) marks (reads.heritage_behind r c u)
  unfolding reads.heritage_behind
  heritage_behind_laid c marks u = laid_as lhs_marks (opt (extends_marks lhs_marks)) (one u marks) marks _ (r.extended c u.end)
      (λ x. Some (record { word = u; lhs = x })) (follows.extended c _ u.end) (λ x. refl)

  heritage_laid : (c : Context) → Follows (opt (extends_marks lhs_marks)) (trace_heritage text t c) (reads.read_heritage text r c)
  unfolding trace_heritage reads.read_heritage
  heritage_laid c marks p = seen_bind (laid (opt (extends_marks lhs_marks)) marks) refl (token text Operand p) _ _ (λ u.
      laid_if (laid (opt (extends_marks lhs_marks)) marks) (is_word text (codes "extends") u) (heritage_behind_laid c marks u) refl)

  class_named_laid : (c : Context) (marks : Marks) (word_token : Token) (n : Option Token) (p : ℕ)
      → class_named text t c (named is.ClassName n (one word_token marks)) p ≡ laid class_marks marks (reads.class_named text r c word_token n p)
  unfolding class_named reads.class_named
  class_named_laid c marks word_token n p = laid_bind (opt (extends_marks lhs_marks)) (begin part.Class (named is.ClassName n (one word_token marks)))
      (laid class_marks marks) refl _ (reads.read_heritage text r c p) _ _ (heritage_laid c _ p) (λ h.
      seen_bind (laid class_marks marks) refl (mark text Operator (codes "{") h.1) _ _ (λ left.
      all_bind element_marks at_place _ (laid class_marks marks) refl _ _ _ _
      (laid_repeat element_marks at_place _ _ _ (λ found q. chain_laid text element_marks _ (is_mark text (codes "}")) (trace_element text t c)
      (reads.read_element text r c) (element_laid c) found q) (length text + 1) [] left.end) (λ xs.
      seen_bind (laid class_marks marks) refl (mark text Operand (codes "}") xs.1) _ _ (λ right.
      law_at (class_rolled (record { word = word_token; name = n; extends = h.0; left = left; elements = xs.0; right = right })) marks right.end))))

  pub class_laid : (c : Context) (must : Bool) → Follows class_marks (trace_class text t c must) (reads.read_class text r c must)
  unfolding trace_class reads.read_class
  class_laid c must marks p = seen_bind (laid class_marks marks) refl (word text Operand (codes "class") p) _ _ (λ u.
      seen_bind (laid class_marks marks) refl (reads.read_optional_name text c u.end) _ _ (λ n.
      laid_if (laid class_marks marks) (reads.fits_name must n.0) (class_named_laid c marks u n.0 n.1) refl))
