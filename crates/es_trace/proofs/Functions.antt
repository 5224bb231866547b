-- Bindings, parameters, functions, methods and classes are traced as they are read.
use Rattle.std.proofs.Common.{◌≡◌, ℕ, Bool, true, false, List, [], ◌∷◌, ◌++◌, Option, Some, None, codes, length, ◌+◌, is_some, refl, ap, sym, ◌∙◌, if◌then◌else◌}
use Rattle.es_tree.specs.declared.tokens.Token.{Token}
use Rattle.es_tree.specs.declared.tokens.TokenKind.{TokenKind}
use Rattle.es_tree.specs.declared.tokens.TokenKind.TheVariants as kind
use Rattle.es_tree.specs.declared.tokens.Goal.TheVariants.{Operand, Operator}
use Rattle.es_tree.specs.declared.parts.Initializer.{Initializer}
use Rattle.es_tree.specs.declared.parts.KeyOf.{KeyOf}
use Rattle.es_tree.specs.declared.parts.KeyOf.TheVariants as key
use Rattle.es_tree.specs.declared.parts.PropertyKey.{PropertyKey}
use Rattle.es_tree.specs.declared.parts.Rest.{Rest}
use Rattle.es_tree.specs.declared.parts.Separated.{Separated}
use Rattle.es_tree.specs.declared.cycle.Assign.{Assign}
use Rattle.es_tree.specs.declared.cycle.Bind.{Bind}
use Rattle.es_tree.specs.declared.cycle.Bind.TheVariants as bind_v
use Rattle.es_tree.specs.declared.cycle.BindProperty.{BindProperty, roll-BindProperty}
use Rattle.es_tree.specs.declared.cycle.Decl.{Decl, roll-Decl}
use Rattle.es_tree.specs.declared.cycle.Params.{Params, roll-Params}
use Rattle.es_reader.specs.Semis.{holds}
use Rattle.es_grammar.specs.declared.places.Context.{Context}
use Rattle.es_grammar.specs.declared.places.Stop.{Stop}
use Rattle.es_grammar.specs.Contexts.{bracketed}
use Rattle.es_grammar.specs.Reading.{Bytes}
use Rattle.es_outline.specs.declared.mark.Mark.TheVariants as mark_v
use Rattle.es_outline.specs.declared.mark.Role.TheVariants as is
use Rattle.es_outline.specs.declared.mark.Part.TheVariants as part
use Rattle.es_outline.specs.Outline.{Lays, Marks, begin, end, listed, one, opt, put, told, assign_marks, bind_marks, bind_property_marks, decl_marks, initializer_marks, key_marks, property_key_marks, rest_marks, separated_marks, params_marks, item_marks, body_marks}
use Rattle.es_outline.proofs.Laws.{bind-Name, bind-Array, bind-Object}
use Rattle.es_outline.proofs.Rolled.{bind_property_rolled, decl_rolled, params_rolled}
use Rattle.es_reader.specs.Basics.{◌>>=◌, Reader, token, is_mark, is_name, mark, name}
use Rattle.es_reader.specs.Functions as reads
use Rattle.es_reader.specs.Lists as read_lists
use Rattle.es_reader.specs.Readers.{Readers}
use Rattle.es_trace.specs.Basics.{Traced, Tracer, laid}
use Rattle.es_trace.specs.Following.{AreFollowing, Follows}
use Rattle.es_trace.specs.Tracers.{Tracers}
use Rattle.es_trace.specs.Functions.{initializer_behind, trace_bind, decl_behind, trace_decl, trace_part, trace_computed_key, trace_key_by, trace_key, trace_element_key_by, trace_element_key, trace_property_key, keyed_property, property_initialised, property_by, named_property, trace_bind_property, trace_name_bind, shorthand_name, is_rest, pattern_end, array_with_rest, array_behind, trace_array_bind, object_with_rest, object_behind, trace_object_bind, trace_bind_pattern, params_behind, trace_params, trace_closed_item, body_behind, trace_body}
use Rattle.es_trace.specs.Lists.{rest_behind}
use Rattle.es_trace.proofs.Lists.{elements_laid, list_laid, chain_laid, listed_at, at_place}
use Rattle.es_trace.proofs.Laying.{all_bind, laid_all, laid_repeat, laid_as, laid_bind, laid_if, law_at, mark_at, seen_bind}

module _ (text : Bytes) {t : Tracers} {r : Readers} (follows : AreFollowing t r) where
  pub initializer_laid : (c : Context) (marks : Marks) (equals : Token)
      → initializer_behind t c marks equals ≡ laid (initializer_marks assign_marks) marks (reads.initializer_behind text r c equals)
  unfolding initializer_behind reads.initializer_behind
  initializer_laid c marks equals = laid_as assign_marks (initializer_marks assign_marks) (told is.Initializes equals marks) marks _
      (r.assign c equals.end) (λ x. record { equals = equals; value = x }) (follows.assign c _ equals.end) (λ x. refl)

  pub bind_laid : (c : Context) → Follows bind_marks (trace_bind text t c) (reads.read_bind text r c)
  unfolding trace_bind reads.read_bind
  bind_laid c marks p = seen_bind (laid bind_marks marks) refl (token text Operand p) _ _ (λ u.
      laid_if (laid bind_marks marks) (is_name text c u) (law_at (bind-Name u) marks u.end) (follows.bind_pattern c marks p))

  pub decl_initialised_laid : (c : Context) (marks : Marks) (x : Bind) (equals : Token)
      → initializer_behind t c (bind_marks x marks) equals ≡ laid decl_marks marks (reads.decl_initialised text r c x equals)
  unfolding reads.decl_initialised
  decl_initialised_laid c marks x equals = laid_as (initializer_marks assign_marks) decl_marks (bind_marks x marks) marks _
      (reads.initializer_behind text r c equals) (λ i. reads.decl x (Some i)) (initializer_laid c _ equals)
      (λ i. mark_at (decl_rolled (record { bind = x; initial = Some i })) marks)

  pub decl_behind_laid : (c : Context) (marks : Marks) (x : Bind) (p : ℕ)
      → decl_behind text t c (bind_marks x marks) p ≡ laid decl_marks marks (reads.decl_behind text r c x p)
  unfolding decl_behind reads.decl_behind
  decl_behind_laid c marks x p = seen_bind (laid decl_marks marks) refl (token text Operator p) _ _ (λ u.
      laid_if (laid decl_marks marks) (is_mark text (codes "=") u) (decl_initialised_laid c marks x u)
      (law_at (decl_rolled (record { bind = x; initial = None })) marks _))

  pub decl_laid : (c : Context) → Follows decl_marks (trace_decl text t c) (reads.read_decl text r c)
  unfolding trace_decl reads.read_decl
  decl_laid c marks p = laid_bind bind_marks marks (laid decl_marks marks) refl _ (reads.read_bind text r c p) _ _ (bind_laid c marks p)
      (λ x. decl_behind_laid c marks x.0 x.1)

  pub part_laid : (c : Context) → Follows decl_marks (trace_part text t c) (reads.read_part text r c)
  unfolding trace_part reads.read_part
  part_laid c marks p = laid_bind decl_marks marks (laid decl_marks marks) refl _ (reads.read_decl text r (bracketed c) p) _ _
      (decl_laid (bracketed c) marks p) (λ x. refl)

  computed_key_laid : (c : Context) (marks : Marks) (left : Token)
      → trace_computed_key text t c marks left ≡ laid key_marks marks (reads.read_computed_key text r c left)
  unfolding trace_computed_key reads.read_computed_key
  computed_key_laid c marks left = laid_bind assign_marks (one left marks) (laid key_marks marks) refl _ (r.assign (bracketed c) left.end) _ _
      (follows.assign (bracketed c) _ left.end)
      (λ x. seen_bind (laid key_marks marks) refl (mark text Operator (codes "]") x.1.at) _ _ (λ right. refl))

  key_by_laid : (c : Context) (marks : Marks) (u : Token) (k : TokenKind)
      → trace_key_by text t c marks u k ≡ laid key_marks marks (reads.read_key_by text r c u k)
  key_by_laid c marks u kind.IdName = refl
  key_by_laid c marks u kind.String = refl
  key_by_laid c marks u kind.Number = refl
  key_by_laid c marks u kind.Punctuator = laid_if (laid key_marks marks) (is_mark text (codes "[") u) (computed_key_laid c marks u) refl
  key_by_laid c marks u kind.Private = refl
  key_by_laid c marks u kind.Template = refl
  key_by_laid c marks u kind.Regex = refl
  key_by_laid c marks u kind.End = refl

  pub key_laid : (c : Context) → Follows key_marks (trace_key text t c) (reads.read_key text r c)
  unfolding trace_key reads.read_key
  key_laid c marks p = seen_bind (laid key_marks marks) refl (token text Operand p) _ _ (λ u. key_by_laid c marks u u.kind)

  element_key_by_laid : (c : Context) (marks : Marks) (u : Token) (k : TokenKind)
      → trace_element_key_by text t c marks u k ≡ laid key_marks marks (reads.read_element_key_by text r c u k)
  element_key_by_laid c marks u kind.Private = refl
  element_key_by_laid c marks u kind.IdName = refl
  element_key_by_laid c marks u kind.String = refl
  element_key_by_laid c marks u kind.Number = refl
  element_key_by_laid c marks u kind.Punctuator = key_by_laid c marks u kind.Punctuator
  element_key_by_laid c marks u kind.Template = refl
  element_key_by_laid c marks u kind.Regex = refl
  element_key_by_laid c marks u kind.End = refl

  pub element_key_laid : (c : Context) → Follows key_marks (trace_element_key text t c) (reads.read_element_key text r c)
  unfolding trace_element_key reads.read_element_key
  element_key_laid c marks p = seen_bind (laid key_marks marks) refl (token text Operand p) _ _ (λ u. element_key_by_laid c marks u u.kind)

  pub property_key_laid : (c : Context) → Follows (property_key_marks assign_marks) (trace_property_key text t c) (reads.read_property_key text r c)
  unfolding trace_property_key reads.read_property_key
  property_key_laid c marks p = laid_bind key_marks marks (laid (property_key_marks assign_marks) marks) refl _ (reads.read_key text r c p) _ _
      (key_laid c marks p) (λ k. seen_bind (laid (property_key_marks assign_marks) marks) refl (mark text Operator (codes ":") k.1) _ _ (λ colon. refl))

  property_behind_laid : (c : Context) (marks : Marks) (k : PropertyKey Assign) (p : ℕ)
      → trace_part text t c (property_key_marks assign_marks k marks) p ≡ laid bind_property_marks marks (reads.property_behind text r c k p)
  unfolding reads.property_behind
  property_behind_laid c marks k p = laid_as decl_marks bind_property_marks (property_key_marks assign_marks k marks) marks _
      (reads.read_part text r c p) (λ x. reads.bind_property (Some k) x) (part_laid c _ p)
      (λ x. mark_at (bind_property_rolled (record { key = Some k; decl = x })) marks)

  keyed_property_laid : (c : Context) → Follows bind_property_marks (keyed_property text t c) (reads.keyed_property text r c)
  unfolding keyed_property reads.keyed_property
  keyed_property_laid c marks p = laid_bind (property_key_marks assign_marks) marks (laid bind_property_marks marks) refl _
      (reads.read_property_key text r c p) _ _ (property_key_laid c marks p) (λ k. property_behind_laid c marks k.0 k.1)

  -- a Name that is its own key
  shorthand_is : (u : Token) (initial : Option (Initializer Assign)) (marks : Marks)
      → opt (initializer_marks assign_marks) initial (shorthand_name u marks)
      ≡ bind_property_marks (reads.bind_property None (reads.decl (bind_v.Name u) initial)) marks
  shorthand_is u initial marks = sym (ap (λ f. f marks) (bind_property_rolled (record { key = None; decl = reads.decl (bind_v.Name u) initial }))
      ∙ ap (λ f. f (put mark_v.Shorthand marks)) (decl_rolled (record { bind = bind_v.Name u; initial = initial }))
      ∙ ap (λ f. opt (initializer_marks assign_marks) initial (f (put mark_v.Shorthand marks))) (bind-Name u))

  property_initialised_laid : (c : Context) (marks : Marks) (u equals : Token)
      → property_initialised t c (shorthand_name u marks) equals ≡ laid bind_property_marks marks (reads.property_initialised text r c u equals)
  unfolding property_initialised reads.property_initialised
  property_initialised_laid c marks u equals = laid_bind (initializer_marks assign_marks) (shorthand_name u marks)
      (laid bind_property_marks marks) refl _ (reads.initializer_behind text r (bracketed c) equals) _ _
      (initializer_laid (bracketed c) (shorthand_name u marks) equals) (λ i. ap (λ m. Some (m, i.1.at)) (shorthand_is u (Some i.0) marks))

  property_by_laid : (c : Context) (marks : Marks) (u v : Token)
      → property_by text t c marks u v ≡ laid bind_property_marks marks (reads.property_by text r c u v)
  unfolding property_by reads.property_by
  property_by_laid c marks u v = laid_if (laid bind_property_marks marks) (is_mark text (codes ":") v)
      (property_behind_laid c marks (record { key = key.IdName u; colon = v }) v.end)
      (laid_if (laid bind_property_marks marks) (is_mark text (codes "=") v) (property_initialised_laid c marks u v)
      (ap (λ m. Some (m, u.end)) (shorthand_is u None marks)))

  named_property_laid : (c : Context) (marks : Marks) (u : Token)
      → named_property text t c marks u ≡ laid bind_property_marks marks (reads.named_property text r c u)
  unfolding named_property reads.named_property
  named_property_laid c marks u = seen_bind (laid bind_property_marks marks) refl (token text Operator u.end) _ _ (λ v. property_by_laid c marks u v)

  pub bind_property_laid : (c : Context) → Follows bind_property_marks (trace_bind_property text t c) (reads.read_bind_property text r c)
  unfolding trace_bind_property reads.read_bind_property
  bind_property_laid c marks p = seen_bind (laid bind_property_marks marks) refl (token text Operand p) _ _ (λ u.
      laid_if (laid bind_property_marks marks) (is_name text c u) (named_property_laid c marks u) (keyed_property_laid c marks p))

  name_bind_laid : (c : Context) → Follows bind_marks (trace_name_bind text c) (reads.read_name_bind text c)
  unfolding trace_name_bind reads.read_name_bind
  name_bind_laid c marks p = seen_bind (laid bind_marks marks) refl (name text Operand c p) _ _ (λ u. law_at (bind-Name u) marks u.end)

-- what stands behind `...`
pub rest_laid : {X : Type 0} (f : X → Lays) (trace : Tracer) (read : Reader X) → Follows f trace read → (marks : Marks) (dots : Token)
    → rest_behind trace marks dots ≡ laid (rest_marks f) marks (read_lists.rest_behind read dots)
unfolding rest_behind read_lists.rest_behind
rest_laid f trace read follows marks dots = laid_as f (rest_marks f) (one dots marks) marks _ (read dots.end)
    (λ x. record { dots = dots; item = x }) (follows _ dots.end) (λ x. refl)

pattern_end_laid : {Y : Type 0} (text : Bytes) (closing : List ℕ) (f : Y → Lays) (before marks : Marks) (p : ℕ) (make : Token → Y)
    → ((right : Token) → end part.Pattern (one right before) ≡ f (make right) marks)
    → pattern_end text closing before p ≡ laid f marks (mark text Operator closing p >>= λ right. Some (make right, right.end))
unfolding pattern_end
pattern_end_laid text closing f before marks p make is = seen_bind (laid f marks) refl (mark text Operator closing p) _ _
    (λ right. ap (λ m. Some (m, right.end)) (is right))

module _ (text : Bytes) {t : Tracers} {r : Readers} (follows : AreFollowing t r) where
  -- the marks of an array up to its rest
  abbrev opened : Marks → Token → List (Separated (Option Decl)) → Marks
  opened marks left xs = listed (separated_marks (opt decl_marks)) xs (one left (begin part.Pattern marks))

  array_with_rest_laid : (c : Context) (marks : Marks) (left : Token) (xs : List (Separated (Option Decl))) (dots : Token)
      → array_with_rest text t c (opened marks left xs) dots ≡ laid bind_marks marks (reads.array_with_rest text r c left xs dots)
  unfolding array_with_rest reads.array_with_rest
  array_with_rest_laid c marks left xs dots = laid_bind (rest_marks bind_marks) (opened marks left xs) (laid bind_marks marks) refl _
      (read_lists.rest_behind (reads.read_bind text r c) dots) _ _
      (rest_laid bind_marks (trace_bind text t c) (reads.read_bind text r c) (bind_laid text follows c) _ dots)
      (λ x. pattern_end_laid text (codes "]") bind_marks _ marks x.1 (λ right. bind_v.Array left xs (Some x.0) right)
      (λ right. mark_at (bind-Array left xs (Some x.0) right) marks))

  array_behind_laid : (c : Context) (marks : Marks) (left : Token) (xs : List (Separated (Option Decl))) (p : ℕ)
      → array_behind text t c (opened marks left xs) (listed_at xs p) ≡ laid bind_marks marks (reads.array_behind text r c left xs p)
  unfolding array_behind reads.array_behind reads.array_without_rest
  array_behind_laid c marks left xs p = seen_bind (laid bind_marks marks) refl (token text Operand p) _ _ (λ u.
      laid_if (laid bind_marks marks) (reads.is_rest text xs u) (array_with_rest_laid c marks left xs u)
      (pattern_end_laid text (codes "]") bind_marks _ marks p (λ right. bind_v.Array left xs None right)
      (λ right. mark_at (bind-Array left xs None right) marks)))

  array_bind_laid : (c : Context) (marks : Marks) (left : Token)
      → trace_array_bind text t c marks left ≡ laid bind_marks marks (reads.read_array_bind text r c left)
  unfolding trace_array_bind reads.read_array_bind
  array_bind_laid c marks left = all_bind (separated_marks (opt decl_marks)) listed_at (one left (begin part.Pattern marks))
      (laid bind_marks marks) refl _ _ _ _
      (laid_repeat (separated_marks (opt decl_marks)) listed_at _ _ (one left (begin part.Pattern marks))
      (λ found p. elements_laid text decl_marks (one left (begin part.Pattern marks)) found (reads.ends_parts text (codes "]"))
      (trace_part text t c) (reads.read_part text r c) (part_laid text follows c) p) (length text + 1) [] left.end)
      (λ xs. array_behind_laid c marks left xs.0 xs.1)

  -- the marks of an object up to its rest
  abbrev properties : Marks → Token → List (Separated BindProperty) → Marks
  properties marks left xs = listed (separated_marks bind_property_marks) xs (one left (begin part.Pattern marks))

  object_with_rest_laid : (c : Context) (marks : Marks) (left : Token) (xs : List (Separated BindProperty)) (dots : Token)
      → object_with_rest text c (properties marks left xs) dots ≡ laid bind_marks marks (reads.object_with_rest text c left xs dots)
  unfolding object_with_rest reads.object_with_rest
  object_with_rest_laid c marks left xs dots = laid_bind (rest_marks bind_marks) (properties marks left xs) (laid bind_marks marks) refl _
      (read_lists.rest_behind (reads.read_name_bind text c) dots) _ _
      (rest_laid bind_marks (trace_name_bind text c) (reads.read_name_bind text c) (name_bind_laid text follows c) _ dots)
      (λ x. pattern_end_laid text (codes "}") bind_marks _ marks x.1 (λ right. bind_v.Object left xs (Some x.0) right)
      (λ right. mark_at (bind-Object left xs (Some x.0) right) marks))

  object_behind_laid : (c : Context) (marks : Marks) (left : Token) (xs : List (Separated BindProperty)) (p : ℕ)
      → object_behind text c (properties marks left xs) (listed_at xs p) ≡ laid bind_marks marks (reads.object_behind text c left xs p)
  unfolding object_behind reads.object_behind reads.object_without_rest
  object_behind_laid c marks left xs p = seen_bind (laid bind_marks marks) refl (token text Operand p) _ _ (λ u.
      laid_if (laid bind_marks marks) (reads.is_rest text xs u) (object_with_rest_laid c marks left xs u)
      (pattern_end_laid text (codes "}") bind_marks _ marks p (λ right. bind_v.Object left xs None right)
      (λ right. mark_at (bind-Object left xs None right) marks)))

  object_bind_laid : (c : Context) (marks : Marks) (left : Token)
      → trace_object_bind text t c marks left ≡ laid bind_marks marks (reads.read_object_bind text r c left)
  unfolding trace_object_bind reads.read_object_bind
  object_bind_laid c marks left = all_bind (separated_marks bind_property_marks) listed_at (one left (begin part.Pattern marks))
      (laid bind_marks marks) refl _ _ _ _
      (laid_repeat (separated_marks bind_property_marks) listed_at _ _ (one left (begin part.Pattern marks))
      (λ found p. list_laid text bind_property_marks (one left (begin part.Pattern marks)) found (reads.ends_parts text (codes "}"))
      (trace_bind_property text t c) (reads.read_bind_property text r c) (bind_property_laid text follows c) p) (length text + 1) [] left.end)
      (λ xs. object_behind_laid c marks left xs.0 xs.1)

  pub bind_pattern_laid : (c : Context) → Follows bind_marks (trace_bind_pattern text t c) (reads.read_bind_pattern text r c)
  unfolding trace_bind_pattern reads.read_bind_pattern
  bind_pattern_laid c marks p = seen_bind (laid bind_marks marks) refl (token text Operand p) _ _ (λ u.
      laid_if (laid bind_marks marks) (is_mark text (codes "[") u) (array_bind_laid c marks u)
      (laid_if (laid bind_marks marks) (is_mark text (codes "{") u) (object_bind_laid c marks u) refl))

  -- the marks of parameters up to their rest
  abbrev parameters : Marks → List (Separated Decl) → Marks
  parameters marks xs = listed (separated_marks decl_marks) xs marks

  params_with_rest_laid : (c : Context) (marks : Marks) (xs : List (Separated Decl)) (dots : Token)
      → rest_behind (trace_bind text t c) (parameters marks xs) dots ≡ laid params_marks marks (reads.params_with_rest text r c xs dots)
  unfolding reads.params_with_rest
  params_with_rest_laid c marks xs dots = laid_as (rest_marks bind_marks) params_marks (parameters marks xs) marks _
      (read_lists.rest_behind (reads.read_bind text r c) dots) (λ x. roll-Params (record { list = xs; rest = Some x }))
      (rest_laid bind_marks (trace_bind text t c) (reads.read_bind text r c) (bind_laid text follows c) _ dots)
      (λ x. mark_at (params_rolled (record { list = xs; rest = Some x })) marks)

  params_behind_laid : (c : Context) (marks : Marks) (xs : List (Separated Decl)) (p : ℕ)
      → params_behind text t c (parameters marks xs) (listed_at xs p) ≡ laid params_marks marks (reads.params_behind text r c xs p)
  unfolding params_behind reads.params_behind
  params_behind_laid c marks xs p = seen_bind (laid params_marks marks) refl (token text Operand p) _ _ (λ u.
      laid_if (laid params_marks marks) (reads.is_rest text xs u) (params_with_rest_laid c marks xs u)
      (law_at (params_rolled (record { list = xs; rest = None })) marks p))

  pub params_laid : (c : Context) → Follows params_marks (trace_params text t c) (reads.read_params text r c)
  unfolding trace_params reads.read_params
  params_laid c marks p = all_bind (separated_marks decl_marks) listed_at marks (laid params_marks marks) refl _ _ _ _
      (laid_repeat (separated_marks decl_marks) listed_at _ _ marks
      (λ found q. list_laid text decl_marks marks found (reads.ends_parts text (codes ")")) (trace_part text t c) (reads.read_part text r c)
      (part_laid text follows c) q) (length text + 1) [] p)
      (λ xs. params_behind_laid c marks xs.0 xs.1)

  pub closed_item_laid : (c : Context) → Follows item_marks (trace_closed_item text t c) (reads.read_closed_item text r c)
  unfolding trace_closed_item reads.read_closed_item
  closed_item_laid c marks p = laid_bind item_marks marks (laid item_marks marks) refl _ (r.item c p) _ _ (follows.item c marks p)
      (λ x. laid_if (laid item_marks marks) (holds (reads.belongs text) (token text Operand x.1)) refl refl)

  pub body_behind_laid : (c : Context) (marks : Marks) (left : Token)
      → body_behind text t c marks left ≡ laid (body_marks item_marks) marks (reads.body_behind text r c left)
  unfolding body_behind reads.body_behind
  body_behind_laid c marks left = all_bind item_marks at_place (one left marks) (laid (body_marks item_marks) marks) refl _ _ _ _
      (laid_repeat item_marks at_place _ _ (one left marks)
      (λ found q. chain_laid text item_marks (one left marks) (is_mark text (codes "}")) (trace_closed_item text t c) (reads.read_closed_item text r c)
      (closed_item_laid c) found q) (length text + 1) [] left.end)
      (λ xs. seen_bind (laid (body_marks item_marks) marks) refl (mark text Operand (codes "}") xs.1) _ _ (λ right. refl))

  pub body_laid : (c : Context) → Follows (body_marks item_marks) (trace_body text t c) (reads.read_body text r c)
  unfolding trace_body reads.read_body
  body_laid c marks p = seen_bind (laid (body_marks item_marks) marks) refl (mark text Operand (codes "{") p) _ _ (λ left. body_behind_laid c marks left)
