-- What may be assigned to is traced as it is read.
use Rattle.std.proofs.Common.{◌≡◌, ℕ, zero, suc, Bool, true, false, List, [], ◌∷◌, ◌++◌, Option, Some, None, codes, length, ◌+◌, refl, ap, sym, ◌∙◌}
use Rattle.es_tree.specs.declared.tokens.Token.{Token}
use Rattle.es_tree.specs.declared.tokens.Goal.TheVariants.{Operand, Operator}
use Rattle.es_tree.specs.declared.parts.Initializer.{Initializer}
use Rattle.es_tree.specs.declared.parts.KeyOf.TheVariants as key
use Rattle.es_tree.specs.declared.parts.PropertyKey.{PropertyKey}
use Rattle.es_tree.specs.declared.cycle.Assign.{Assign}
use Rattle.es_tree.specs.declared.cycle.Target.{Target}
use Rattle.es_tree.specs.declared.cycle.Target.TheVariants as target_v
use Rattle.es_tree.specs.declared.cycle.TargetPart.{TargetPart}
use Rattle.es_grammar.specs.declared.places.Context.{Context}
use Rattle.es_grammar.specs.Contexts.{bracketed}
use Rattle.es_grammar.specs.Reading.{Bytes}
use Rattle.es_outline.specs.declared.mark.Mark.TheVariants as mark_v
use Rattle.es_outline.specs.declared.mark.Role.TheVariants as is
use Rattle.es_outline.specs.Outline.{Lays, Marks, assign_marks, initializer_marks, listed, one, opt, part_key, property_key_marks, put, rest_marks, separated_marks, target_marks, target_part_marks, told}
use Rattle.es_outline.proofs.Laws.{array_part_marks, object_part_marks, target-Array, target-Member, target-Name, target-Object, target-ParenMember, target-ParenName}
use Rattle.es_outline.proofs.Rolled.{target_part_rolled}
use Rattle.es_reader.specs.Basics.{◌>>=◌, token, is_mark, is_name, mark}
use Rattle.es_reader.specs.declared.pieces.BareOf.TheVariants as bare_v
use Rattle.es_reader.specs.declared.pieces.InsideOf.TheVariants as inside
use Rattle.es_reader.specs.declared.pieces.TurnOf.{TurnOf}
use Rattle.es_reader.specs.declared.pieces.TurnOf.TheVariants as read_v
use Rattle.es_reader.specs.Expressions.{begins_suffix, read_parts}
use Rattle.es_reader.specs.Functions as read_functions
use Rattle.es_reader.specs.Functions.{ends_parts}
use Rattle.es_reader.specs.Lists as read_lists
use Rattle.es_reader.specs.Loops as loops
use Rattle.es_reader.specs.Readers.{Readers}
use Rattle.es_reader.specs.Targets as reads
use Rattle.es_reader.specs.Targets.{Bare, Inside, bare_target, begins_pattern}
use Rattle.es_trace.specs.Basics.{Traced, laid}
use Rattle.es_trace.specs.declared.pieces.Turn.{Turn}
use Rattle.es_trace.specs.declared.pieces.Turn.TheVariants as turn_v
use Rattle.es_trace.specs.Following.{AreFollowing, Follows}
use Rattle.es_trace.specs.Loops.{go_on, repeat}
use Rattle.es_trace.specs.Targets.{Opened, array_behind, array_turn, array_with_rest, array_without_rest, bare_or_deeper, closing, deeper, keyed_target, named_by, named_target, object_behind, object_turn, object_with_rest, object_without_rest, opened, paren_turn, part_behind, part_by, part_initialised, pattern_alone, trace_array_target, trace_bare, trace_object_target, trace_paren_target, trace_simple_target, trace_target, trace_target_part, trace_target_pattern, trace_target_property}
use Rattle.es_trace.specs.Tracers.{Tracers}
use Rattle.es_trace.proofs.Bare.{bare_behind_laid, bare_marks, parts_bind, parts_named}
use Rattle.es_trace.proofs.Expressions.{FollowFunctions, parts_laid}
use Rattle.es_trace.proofs.Functions.{initializer_laid, property_key_laid, rest_laid}
use Rattle.es_trace.proofs.Laying.{all_bind, laid_as, laid_bind, laid_if, laid_or, law_at, listed_push, mark_at, seen_bind}
use Rattle.es_trace.proofs.Lists.{elements_laid, list_laid, listed_at}
use Rattle.es_trace.proofs.Sides.{laid_turns}

-- Parentheses

-- the marks of what stands in parentheses
paren_is : (lefts : List Token) (b : Bare) (rights : List Token) (marks : Marks)
    → listed (told is.Closes) rights (bare_marks b (listed (told is.Opens) lefts marks)) ≡ target_marks (reads.paren_target lefts b rights) marks
paren_is lefts (bare_v.Name u) rights marks = sym (ap (listed (told is.Closes) rights) (mark_at (target-Name u) (listed (told is.Opens) lefts marks)))
    ∙ mark_at (target-ParenName (reads.parenthesised lefts u rights)) marks
paren_is lefts (bare_v.Member x) rights marks = sym (ap (listed (told is.Closes) rights) (mark_at (target-Member x) (listed (told is.Opens) lefts marks)))
    ∙ mark_at (target-ParenMember (reads.parenthesised lefts x rights)) marks

closing_laid : (text : Bytes) (marks : Marks) (n : ℕ) (rights : List Token) (p : ℕ)
    → closing text n (listed (told is.Closes) rights marks) p ≡ laid (listed (told is.Closes)) marks (reads.closing text n rights p)
unfolding closing reads.closing
closing_laid text marks zero rights p = refl
closing_laid text marks (suc n) rights p = seen_bind (laid (listed (told is.Closes)) marks) refl (mark text Operator (codes ")") p) _ _ (λ u.
    ap (λ m. closing text n m u.end) (sym (listed_push (told is.Closes) rights u marks)) ∙ closing_laid text marks n (rights ++ u ∷ []) u.end)

paren_closed_laid : (text : Bytes) (marks : Marks) (lefts : List Token) (b : Bare) (p : ℕ)
    → closing text (length lefts) (bare_marks b (listed (told is.Opens) lefts marks)) p ≡ laid target_marks marks (reads.paren_closed text lefts b p)
unfolding reads.paren_closed
paren_closed_laid text marks lefts b p = laid_as (listed (told is.Closes)) target_marks (bare_marks b (listed (told is.Opens) lefts marks)) marks _
    (reads.closing text (length lefts) [] p) (λ rights. reads.paren_target lefts b rights) (closing_laid text _ (length lefts) [] p)
    (λ rights. paren_is lefts b rights marks)

length_pushed : (xs : List Token) (x : Token) → suc (length xs) ≡ length (xs ++ x ∷ [])
length_pushed [] x = refl
length_pushed (y ∷ ys) x = ap suc (length_pushed ys x)

-- so many parentheses behind a first one, and what they hold
abbrev inside_laid : Marks → List Token → Inside → Traced Opened
inside_laid marks lefts (inside.Reached p) = None
inside_laid marks lefts (inside.Found b p) = Some (bare_marks b (listed (told is.Opens) lefts marks), opened p (suc (length lefts)))

abbrev all_inside : Marks → Option (List Token × Inside) → Traced Opened
all_inside marks None = None
all_inside marks (Some x) = inside_laid marks x.0 x.1

-- one more parenthesis
abbrev traced_deeper : Marks → ℕ → Token → Traced (Turn Opened)
traced_deeper marks n u = Some (told is.Opens u marks, turn_v.More (opened u.end n))

abbrev read_deeper : Token → Option (TurnOf Inside Token)
read_deeper u = Some (read_v.More u (inside.Reached u.end))

module _ (text : Bytes) {t : Tracers} {r : Readers} (follows : AreFollowing t r) (functions : FollowFunctions text t r) where
  pub bare_laid : (c : Context) → Follows bare_marks (trace_bare text t c) (reads.read_bare text r c)
  unfolding trace_bare reads.read_bare
  bare_laid c marks p = parts_bind marks (laid bare_marks marks) refl _ (read_parts text r c p) _ _ (parts_named text r c p)
      (parts_laid text follows functions c marks p) (λ x named. bare_behind_laid marks x.0 x.1 named)

  pub bare_target_laid : (c : Context) → Follows target_marks (trace_bare text t c) (reads.bare_target_at text r c)
  unfolding reads.bare_target_at
  bare_target_laid c marks p = laid_as bare_marks target_marks marks marks _ (reads.read_bare text r c p) bare_target (bare_laid c marks p) (λ b. refl)

  module _ (c : Context) (marks : Marks) where
    -- all turns but the first
    abbrev Repeats : ℕ → Type 0
    Repeats n = (lefts : List Token) (p : ℕ) → repeat (paren_turn text t c) n (listed (told is.Opens) lefts marks) (opened p (suc (length lefts)))
        ≡ all_inside marks (loops.repeat (reads.paren_turn text r c) n lefts (inside.Reached p))

    deeper_laid : (n : ℕ) → Repeats n → (lefts : List Token) (p : ℕ)
        → (deeper text (listed (told is.Opens) lefts marks) (opened p (suc (length lefts))) >>= λ x. go_on (repeat (paren_turn text t c) n) x.0 x.1)
        ≡ all_inside marks (reads.deeper text p >>= loops.go_on lefts (loops.repeat (reads.paren_turn text r c) n))
    unfolding deeper reads.deeper
    deeper_laid n held lefts p = by_token (mark text Operand (codes "(") p)
      where
        by_token : (o : Option Token)
            → ((o >>= traced_deeper (listed (told is.Opens) lefts marks) (suc (suc (length lefts)))) >>= λ x. go_on (repeat (paren_turn text t c) n) x.0 x.1)
            ≡ all_inside marks ((o >>= read_deeper) >>= loops.go_on lefts (loops.repeat (reads.paren_turn text r c) n))
        by_token None = refl
        by_token (Some u) = ap (λ m. repeat (paren_turn text t c) n m (opened u.end (suc (suc (length lefts))))) (sym (listed_push (told is.Opens) lefts u marks))
            ∙ ap (λ k. repeat (paren_turn text t c) n (listed (told is.Opens) (lefts ++ u ∷ []) marks) (opened u.end (suc k))) (length_pushed lefts u)
            ∙ held (lefts ++ u ∷ []) u.end

    turn_laid : (n : ℕ) → Repeats n → (lefts : List Token) (p : ℕ) (traced : Traced ℕ) (read : Option (Bare × ℕ))
        → traced ≡ laid bare_marks (listed (told is.Opens) lefts marks) read
        → (bare_or_deeper (suc (length lefts)) traced (deeper text (listed (told is.Opens) lefts marks) (opened p (suc (length lefts))))
        >>= λ x. go_on (repeat (paren_turn text t c) n) x.0 x.1)
        ≡ all_inside marks (reads.bare_or_deeper read (reads.deeper text p) >>= loops.go_on lefts (loops.repeat (reads.paren_turn text r c) n))
    turn_laid n held lefts p traced None e = ap (λ o. bare_or_deeper (suc (length lefts)) o (deeper text (listed (told is.Opens) lefts marks)
        (opened p (suc (length lefts)))) >>= λ x. go_on (repeat (paren_turn text t c) n) x.0 x.1) e ∙ deeper_laid n held lefts p
    turn_laid n held lefts p traced (Some b) e = ap (λ o. bare_or_deeper (suc (length lefts)) o (deeper text (listed (told is.Opens) lefts marks)
        (opened p (suc (length lefts)))) >>= λ x. go_on (repeat (paren_turn text t c) n) x.0 x.1) e

    parens_laid : (n : ℕ) → Repeats n
    unfolding repeat loops.repeat paren_turn
    parens_laid zero lefts p = refl
    parens_laid (suc n) lefts p = turn_laid n (parens_laid n) lefts p _ (reads.read_bare text r c p) (bare_laid c _ p)

  paren_behind_laid : (marks : Marks) (left : Token) (traced : Traced Opened) (lefts : List Token) (i : Inside)
      → traced ≡ inside_laid (told is.Opens left marks) lefts i
      → (traced >>= λ x. closing text x.1.count x.0 x.1.at) ≡ laid target_marks marks (reads.paren_inside text (left ∷ lefts) i)
  paren_behind_laid marks left traced lefts (inside.Reached p) e = ap (λ o. o >>= λ x. closing text x.1.count x.0 x.1.at) e
  paren_behind_laid marks left traced lefts (inside.Found b p) e = ap (λ o. o >>= λ x. closing text x.1.count x.0 x.1.at) e
      ∙ paren_closed_laid text marks (left ∷ lefts) b p

  paren_read_laid : (marks : Marks) (left : Token) (traced : Traced Opened) (read : Option (List Token × Inside))
      → traced ≡ all_inside (told is.Opens left marks) read → (traced >>= λ x. closing text x.1.count x.0 x.1.at)
      ≡ laid target_marks marks (read >>= λ xs. reads.paren_inside text (left ∷ xs.0) xs.1)
  paren_read_laid marks left traced None e = ap (λ o. o >>= λ x. closing text x.1.count x.0 x.1.at) e
  paren_read_laid marks left traced (Some x) e = paren_behind_laid marks left traced x.0 x.1 e

  pub paren_target_laid : (c : Context) (marks : Marks) (left : Token)
      → trace_paren_target text t c marks left ≡ laid target_marks marks (reads.read_paren_target text r c left)
  unfolding trace_paren_target reads.read_paren_target
  paren_target_laid c marks left = paren_read_laid marks left _ (loops.all_turns text (reads.paren_turn text r c) (inside.Reached left.end))
      (parens_laid c (told is.Opens left marks) (length text + 1) [] left.end)

  -- Targets

  pub simple_target_laid : (c : Context) → Follows target_marks (trace_simple_target text t c) (reads.read_simple_target text r c)
  unfolding trace_simple_target reads.read_simple_target
  simple_target_laid c marks p = seen_bind (laid target_marks marks) refl (token text Operand p) _ _ (λ u.
      laid_if (laid target_marks marks) (is_mark text (codes "(") u)
      (laid_or target_marks marks _ _ (reads.bare_target_at text r c p) (reads.read_paren_target text r c u) (bare_target_laid c marks p)
      (paren_target_laid c marks u)) (bare_target_laid c marks p))

  pub pattern_alone_laid : (c : Context) → Follows target_marks (pattern_alone text t c) (reads.pattern_alone text r c)
  unfolding pattern_alone reads.pattern_alone
  pattern_alone_laid c marks p = laid_bind target_marks marks (laid target_marks marks) refl _ (r.target_pattern c p) _ _
      (follows.target_pattern c marks p) (λ x. seen_bind (laid target_marks marks) refl (token text Operator x.1) _ _ (λ u.
      laid_if (laid target_marks marks) (begins_suffix text u) refl refl))

  pub target_laid : (c : Context) → Follows target_marks (trace_target text t c) (reads.read_target text r c)
  unfolding trace_target reads.read_target
  target_laid c marks p = seen_bind (laid target_marks marks) refl (token text Operand p) _ _ (λ u.
      laid_if (laid target_marks marks) (begins_pattern text u)
      (laid_or target_marks marks _ _ (reads.pattern_alone text r c p) (reads.bare_target_at text r c p) (pattern_alone_laid c marks p)
      (bare_target_laid c marks p)) (simple_target_laid c marks p))

  -- Parts of patterns, in an object or in an array

  abbrev part_marks : Bool → TargetPart → Lays
  part_marks in_object x = target_part_marks x in_object

  -- the key, with the Target behind it
  abbrev keyed_marks : Bool → Option (PropertyKey Assign) → Target → Lays
  keyed_marks in_object k x marks = target_marks x (part_key in_object assign_marks k marks)

  part_is : (in_object : Bool) (k : Option (PropertyKey Assign)) (x : Target) (initial : Option (Initializer Assign)) (marks : Marks)
      → opt (initializer_marks assign_marks) initial (keyed_marks in_object k x marks) ≡ part_marks in_object (reads.target_part k x initial) marks
  part_is in_object k x initial marks = sym (ap (λ f. f in_object marks) (target_part_rolled (record { key = k; target = x; initial = initial })))

  part_initialised_laid : (in_object : Bool) (c : Context) (marks : Marks) (k : Option (PropertyKey Assign)) (x : Target) (equals : Token)
      → part_initialised t c (keyed_marks in_object k x marks) equals
      ≡ laid (part_marks in_object) marks (reads.part_initialised text r c k x equals)
  unfolding part_initialised reads.part_initialised
  part_initialised_laid in_object c marks k x equals = laid_bind (initializer_marks assign_marks) (keyed_marks in_object k x marks)
      (laid (part_marks in_object) marks) refl _ (read_functions.initializer_behind text r (bracketed c) equals) _ _
      (initializer_laid text follows (bracketed c) _ equals) (λ i. ap (λ m. Some (m, i.1.at)) (part_is in_object k x (Some i.0) marks))

  part_by_laid : (in_object : Bool) (c : Context) (marks : Marks) (k : Option (PropertyKey Assign)) (x : Target) (p : ℕ) (u : Token)
      → part_by text t c (keyed_marks in_object k x marks) p u ≡ laid (part_marks in_object) marks (reads.part_by text r c k x p u)
  unfolding part_by reads.part_by
  part_by_laid in_object c marks k x p u = laid_if (laid (part_marks in_object) marks) (is_mark text (codes "=") u)
      (part_initialised_laid in_object c marks k x u) (ap (λ m. Some (m, p)) (part_is in_object k x None marks))

  part_behind_laid : (in_object : Bool) (c : Context) (marks : Marks) (k : Option (PropertyKey Assign)) (x : Target) (p : ℕ)
      → part_behind text t c (keyed_marks in_object k x marks) p ≡ laid (part_marks in_object) marks (reads.part_behind text r c k x p)
  unfolding part_behind reads.part_behind
  part_behind_laid in_object c marks k x p = seen_bind (laid (part_marks in_object) marks) refl (token text Operator p) _ _ (λ u.
      part_by_laid in_object c marks k x p u)

  target_part_laid : (in_object : Bool) (c : Context) (k : Option (PropertyKey Assign)) (marks : Marks) (p : ℕ)
      → trace_target_part text t c (part_key in_object assign_marks k marks) p
      ≡ laid (part_marks in_object) marks (reads.read_target_part text r c k p)
  unfolding trace_target_part reads.read_target_part
  target_part_laid in_object c k marks p = laid_bind target_marks (part_key in_object assign_marks k marks) (laid (part_marks in_object) marks) refl _
      (reads.read_target text r (bracketed c) p) _ _ (target_laid (bracketed c) _ p) (λ x. part_behind_laid in_object c marks k x.0 x.1)

  keyed_target_laid : (c : Context) → Follows object_part_marks (keyed_target text t c) (reads.keyed_target text r c)
  unfolding keyed_target reads.keyed_target
  keyed_target_laid c marks p = laid_bind (property_key_marks assign_marks) marks (laid object_part_marks marks) refl _
      (read_functions.read_property_key text r c p) _ _ (property_key_laid text follows c marks p) (λ k. target_part_laid true c (Some k.0) marks k.1)

  named_by_laid : (c : Context) (marks : Marks) (u v : Token) → named_by text t c marks u v ≡ laid object_part_marks marks (reads.named_by text r c u v)
  unfolding named_by reads.named_by
  named_by_laid c marks u v = laid_if (laid object_part_marks marks) (is_mark text (codes ":") v)
      (target_part_laid true c (Some (record { key = key.IdName u; colon = v })) marks v.end)
      (ap (λ m. part_by text t c m u.end v) (mark_at (target-Name u) (put mark_v.Shorthand marks))
      ∙ part_by_laid true c marks None (target_v.Name u) u.end v)

  named_target_laid : (c : Context) (marks : Marks) (u : Token) → named_target text t c marks u ≡ laid object_part_marks marks (reads.named_target text r c u)
  unfolding named_target reads.named_target
  named_target_laid c marks u = seen_bind (laid object_part_marks marks) refl (token text Operator u.end) _ _ (λ v. named_by_laid c marks u v)

  target_property_laid : (c : Context) → Follows object_part_marks (trace_target_property text t c) (reads.read_target_property text r c)
  unfolding trace_target_property reads.read_target_property
  target_property_laid c marks p = seen_bind (laid object_part_marks marks) refl (token text Operand p) _ _ (λ u.
      laid_if (laid object_part_marks marks) (is_name text c u) (named_target_laid c marks u) (keyed_target_laid c marks p))

  -- Patterns

  -- the marks of an array up to its rest
  abbrev elements : Marks → Token → reads.Elements → Marks
  elements marks left xs = listed (separated_marks (opt array_part_marks)) xs (one left marks)

  array_with_rest_laid : (c : Context) (marks : Marks) (left : Token) (xs : reads.Elements) (dots : Token)
      → array_with_rest text t c (elements marks left xs) dots ≡ laid target_marks marks (reads.array_with_rest text r c left xs dots)
  unfolding array_with_rest reads.array_with_rest
  array_with_rest_laid c marks left xs dots = laid_bind (rest_marks target_marks) (elements marks left xs) (laid target_marks marks) refl _
      (read_lists.rest_behind (reads.read_target text r (bracketed c)) dots) _ _
      (rest_laid target_marks (trace_target text t (bracketed c)) (reads.read_target text r (bracketed c)) (target_laid (bracketed c)) _ dots)
      (λ x. seen_bind (laid target_marks marks) refl (mark text Operator (codes "]") x.1) _ _ (λ right.
      law_at (target-Array left xs (Some x.0) right) marks right.end))

  array_behind_laid : (c : Context) (marks : Marks) (left : Token) (xs : reads.Elements) (p : ℕ)
      → array_behind text t c (elements marks left xs) (listed_at xs p) ≡ laid target_marks marks (reads.array_behind text r c left xs p)
  unfolding array_behind array_without_rest reads.array_behind reads.array_without_rest
  array_behind_laid c marks left xs p = seen_bind (laid target_marks marks) refl (token text Operand p) _ _ (λ u.
      laid_if (laid target_marks marks) (read_functions.is_rest text xs u) (array_with_rest_laid c marks left xs u)
      (seen_bind (laid target_marks marks) refl (mark text Operator (codes "]") p) _ _ (λ right.
      law_at (target-Array left xs None right) marks right.end)))

  array_target_laid : (c : Context) (marks : Marks) (left : Token)
      → trace_array_target text t c marks left ≡ laid target_marks marks (reads.read_array_target text r c left)
  unfolding trace_array_target array_turn reads.read_array_target
  array_target_laid c marks left = all_bind (separated_marks (opt array_part_marks)) listed_at (one left marks) (laid target_marks marks) refl _ _ _ _
      (laid_turns text (separated_marks (opt array_part_marks)) listed_at _ (array_turn text t c) (one left marks)
      (λ found p. elements_laid text array_part_marks (one left marks) found (ends_parts text (codes "]")) (trace_target_part text t c)
      (reads.read_target_part text r c None) (target_part_laid false c None) p) left.end)
      (λ xs. array_behind_laid c marks left xs.0 xs.1)

  -- the marks of an object up to its rest
  abbrev properties : Marks → Token → reads.Properties → Marks
  properties marks left xs = listed (separated_marks object_part_marks) xs (one left marks)

  object_with_rest_laid : (c : Context) (marks : Marks) (left : Token) (xs : reads.Properties) (dots : Token)
      → object_with_rest text t c (properties marks left xs) dots ≡ laid target_marks marks (reads.object_with_rest text r c left xs dots)
  unfolding object_with_rest reads.object_with_rest
  object_with_rest_laid c marks left xs dots = laid_bind (rest_marks target_marks) (properties marks left xs) (laid target_marks marks) refl _
      (read_lists.rest_behind (reads.read_simple_target text r (bracketed c)) dots) _ _
      (rest_laid target_marks (trace_simple_target text t (bracketed c)) (reads.read_simple_target text r (bracketed c))
      (simple_target_laid (bracketed c)) _ dots)
      (λ x. seen_bind (laid target_marks marks) refl (mark text Operator (codes "}") x.1) _ _ (λ right.
      law_at (target-Object left xs (Some x.0) right) marks right.end))

  object_behind_laid : (c : Context) (marks : Marks) (left : Token) (xs : reads.Properties) (p : ℕ)
      → object_behind text t c (properties marks left xs) (listed_at xs p) ≡ laid target_marks marks (reads.object_behind text r c left xs p)
  unfolding object_behind object_without_rest reads.object_behind reads.object_without_rest
  object_behind_laid c marks left xs p = seen_bind (laid target_marks marks) refl (token text Operand p) _ _ (λ u.
      laid_if (laid target_marks marks) (read_functions.is_rest text xs u) (object_with_rest_laid c marks left xs u)
      (seen_bind (laid target_marks marks) refl (mark text Operator (codes "}") p) _ _ (λ right.
      law_at (target-Object left xs None right) marks right.end)))

  object_target_laid : (c : Context) (marks : Marks) (left : Token)
      → trace_object_target text t c marks left ≡ laid target_marks marks (reads.read_object_target text r c left)
  unfolding trace_object_target object_turn reads.read_object_target
  object_target_laid c marks left = all_bind (separated_marks object_part_marks) listed_at (one left marks) (laid target_marks marks) refl _ _ _ _
      (laid_turns text (separated_marks object_part_marks) listed_at _ (object_turn text t c) (one left marks)
      (λ found p. list_laid text object_part_marks (one left marks) found (ends_parts text (codes "}")) (trace_target_property text t c)
      (reads.read_target_property text r c) (target_property_laid c) p) left.end)
      (λ xs. object_behind_laid c marks left xs.0 xs.1)

  pub target_pattern_laid : (c : Context) → Follows target_marks (trace_target_pattern text t c) (reads.read_target_pattern text r c)
  unfolding trace_target_pattern reads.read_target_pattern
  target_pattern_laid c marks p = seen_bind (laid target_marks marks) refl (token text Operand p) _ _ (λ u.
      laid_if (laid target_marks marks) (is_mark text (codes "[") u) (array_target_laid c marks u)
      (laid_if (laid target_marks marks) (is_mark text (codes "{") u) (object_target_laid c marks u) refl))
