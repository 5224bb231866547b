-- Targets that are read stand in the text by the grammar.
use Rattle.std.proofs.Common.{◌≡◌, ℕ, zero, suc, true, false, List, [], ◌∷◌, ◌++◌, length, Option, Some, None, refl, sym, ap, subst, ◌∙◌, append_assoc}
use Rattle.std.specs.Prelude.{codes}
use Rattle.std.specs.List.{list_any}
use Rattle.std.proofs.lemmas.List.{append-nil}
use Rattle.es_tree.specs.declared.tokens.Token.{Token}
use Rattle.es_tree.specs.declared.tokens.Goal.TheVariants.{Operand, Operator}
use Rattle.es_tree.specs.declared.parts.Initializer.{Initializer}
use Rattle.es_tree.specs.declared.parts.KeyOf.TheVariants as key
use Rattle.es_tree.specs.declared.parts.PropertyKey.{PropertyKey}
use Rattle.es_tree.specs.declared.cycle.Assign.{Assign}
use Rattle.es_tree.specs.declared.cycle.Base.{Base}
use Rattle.es_tree.specs.declared.cycle.LHS.{LHS}
use Rattle.es_tree.specs.declared.cycle.Target.{Target}
use Rattle.es_tree.specs.declared.cycle.Target.TheVariants as target_v
use Rattle.es_tree.specs.declared.cycle.TargetPart.{TargetPart}
use Rattle.es_grammar.specs.declared.places.Context.{Context}
use Rattle.es_grammar.specs.declared.places.Stop.{Stop}
use Rattle.es_grammar.specs.Contexts.{bracketed}
use Rattle.es_grammar.specs.Reading.{Bytes, MarkAt, NameAt}
use Rattle.es_grammar.specs.Lists.{Chain, EachAt, EachElementAt, ElementsAt, ListAt}
use Rattle.es_grammar.specs.Rules.{Rules}
use Rattle.es_grammar.specs.Functions.{InitializerAt, KeyAt, PropertyKeyAt}
use Rattle.es_grammar.specs.Expressions.{LHSAt, SuffixAt, is_optional}
use Rattle.es_grammar.specs.Targets.{ChainedMarkAt, IsMember, ParenthesisedAt, SimpleTargetAt, TargetAt, TargetElementAt, TargetMemberAt, TargetNameAt, TargetPatternAt, TargetPropertyAt, names_member}
use Rattle.es_reader.specs.Basics.{or_else, token, is_mark, is_name, mark}
use Rattle.es_reader.specs.declared.pieces.TurnOf.{TurnOf}
use Rattle.es_reader.specs.Loops.{all_turns}
use Rattle.es_reader.specs.Lists.{elements_turn, list_turn, rest_behind}
use Rattle.es_reader.specs.Readers.{Readers}
use Rattle.es_reader.specs.Functions.{ends_parts, initializer_behind, is_rest, read_property_key}
use Rattle.es_reader.specs.Expressions.{Parts, Suffix, begins_suffix, lhs, lhs_of, name_base, parts, read_parts}
use Rattle.es_reader.specs.Targets.{Bare, Inside, Elements, Properties, end_with_member, bare_by, bare_of, bare_target, read_bare, bare_target_at, deeper, bare_or_deeper, paren_turn, closing, paren_target, paren_closed, paren_inside, read_paren_target, read_simple_target, begins_pattern, pattern_alone, read_target, target_part, part_initialised, part_by, part_behind, read_target_part, keyed_target, named_by, named_target, read_target_property, array_with_rest, array_without_rest, array_behind, read_array_target, object_with_rest, object_without_rest, object_behind, read_object_target, read_target_pattern}
use Rattle.es_reader.specs.Soundness.{AreSound, Sound}
use Rattle.es_reader.proofs.Steps.{bind_some, both, chosen, when, else, given, is_false, just, mark_there, marked, named, some_is}
use Rattle.es_reader.proofs.Lists.{Joins, each_of_elements, each_of_list, elements_sound, list_sound, rest_sound, turns_sound}
use Rattle.es_reader.proofs.Functions.{initializer_behind_sound, property_key_sound}
use Rattle.es_reader.proofs.Primaries.{PartsAt, named_parts, unnamed_parts, parts_sound}
use Rattle.es_reader.specs.declared.pieces.BareOf.TheVariants as bare_v
use Rattle.es_reader.specs.declared.pieces.InsideOf.TheVariants as inside_v

-- Names and members

-- where a Name or a member stands
pub data BareAt (text : Bytes) (g : Rules) (c : Context) : ℕ → Bare → ℕ → Type 0 where
  name : {p : ℕ} (t : Token) → NameAt text Operand c p t → BareAt text g c p (bare_v.Name t) t.end
  member : {p q : ℕ} (x : LHS) → LHSAt text g c p x q → IsMember x → BareAt text g c p (bare_v.Member x) q

abbrev Split : List Suffix → Type 0
Split xs = (before : List Suffix) × (last : Suffix) × (xs ≡ before ++ last ∷ []) × (list_any is_optional before ≡ false) × (names_member last ≡ true)

none_optional : (x : Suffix) (xs : List Suffix) → is_optional x ≡ false → list_any is_optional xs ≡ false → list_any is_optional (x ∷ xs) ≡ false
none_optional x xs e f = rw e f

split_member : (xs : List Suffix) → end_with_member xs ≡ true → Split xs
split_member [] e = absurd cc
split_member (x ∷ []) e = ([], x, refl, refl, e)
split_member (x ∷ y ∷ ys) e =
    let b = both _ _ e in
    let r = split_member (y ∷ ys) b.1 in
    (x ∷ r.0, r.1, ap (λ (zs : List Suffix). x ∷ zs) r.2, none_optional x r.0 (is_false _ b.0) r.3, r.4)

member_is : (x : Base) (xs : List Suffix) → end_with_member xs ≡ true → IsMember (lhs x xs)
member_is x xs e = let r = split_member xs e in subst (λ zs. IsMember (lhs x zs)) (sym r.2) (IsMember.member x r.0 r.1 r.3 r.4)

some_suffixes : (text : Bytes) (g : Rules) (c : Context) (p : ℕ) (x : Parts) (y : Suffix) (ys : List Suffix) (q : ℕ)
    → LHSAt text g c p (lhs x.base (y ∷ ys)) q → x.suffixes ≡ y ∷ ys → (b : Bare) → bare_by x (y ∷ ys) ≡ Some b → BareAt text g c p b q
some_suffixes text g c p x y ys q h same b e =
    elim (chosen (end_with_member (y ∷ ys)) (Some (bare_v.Member (lhs_of x))) None (just b) e) [
      | when i f ↦ subst (λ z. BareAt text g c p z q) (some_is _ _ f)
          (BareAt.member (lhs_of x) (subst (λ zs. LHSAt text g c p (lhs x.base zs) q) (sym same) h)
          (subst (λ zs. IsMember (lhs x.base zs)) (sym same) (member_is x.base (y ∷ ys) i)))
      | else i f ↦ absurd cc
    ]

named_bare : (text : Bytes) (g : Rules) (c : Context) (p : ℕ) (t : Token) (xs : List Suffix) (q : ℕ) → NameAt text Operand c p t
    → Chain (SuffixAt text g c) t.end xs q → LHSAt text g c p (lhs (name_base t) xs) q → (b : Bare)
    → bare_by (parts (name_base t) (Some t) xs) xs ≡ Some b → BareAt text g c p b q
named_bare text g c p t [] _ n Chain.none h b e = subst (λ z. BareAt text g c p z t.end) (some_is _ _ e) (BareAt.name t n)
named_bare text g c p t (y ∷ ys) q n k h b e = some_suffixes text g c p (parts (name_base t) (Some t) (y ∷ ys)) y ys q h refl b e

unnamed_bare : (text : Bytes) (g : Rules) (c : Context) (p : ℕ) (x : Base) (xs : List Suffix) (q : ℕ) → LHSAt text g c p (lhs x xs) q → (b : Bare)
    → bare_by (parts x None xs) xs ≡ Some b → BareAt text g c p b q
unnamed_bare text g c p x [] q h b e = absurd cc
unnamed_bare text g c p x (y ∷ ys) q h b e = some_suffixes text g c p (parts x None (y ∷ ys)) y ys q h refl b e

pub bare_of_sound : (text : Bytes) (g : Rules) (c : Context) (p : ℕ) (x : Parts) (q : ℕ) → PartsAt text g c p x q → (b : Bare) → bare_of x ≡ Some b
    → BareAt text g c p b q
unfolding bare_of
bare_of_sound text g c p _ q (named_parts t xs n k h) b e = named_bare text g c p t xs q n k h b e
bare_of_sound text g c p _ q (unnamed_parts x xs h) b e = unnamed_bare text g c p x xs q h b e

bare_sound : {text : Bytes} {g : Rules} {r : Readers} (s : AreSound text g r) (c : Context) → Sound (BareAt text g c) (read_bare text r c)
unfolding read_bare
bare_sound {text} {g} {r} s c p y e =
    let x = bind_some (read_parts text r c p) _ _ e in
    let b = bind_some (bare_of x.0.0) _ _ x.2 in
    given (BareAt text g c p) _ _ y b.2 (bare_of_sound text g c p _ _ (parts_sound s c p _ x.1) _ b.1)

pub bare_target_is : (text : Bytes) (g : Rules) (c : Context) (p : ℕ) (b : Bare) (q : ℕ) → BareAt text g c p b q → SimpleTargetAt text g c p (bare_target b) q
bare_target_is text g c p _ _ (BareAt.name t n) = SimpleTargetAt.name t n
bare_target_is text g c p _ q (BareAt.member x h m) = SimpleTargetAt.member x h m

bare_target_sound : {text : Bytes} {g : Rules} {r : Readers} (s : AreSound text g r) (c : Context) → Sound (SimpleTargetAt text g c) (bare_target_at text r c)
unfolding bare_target_at
bare_target_sound {text} {g} {r} s c p y e =
    let b = bind_some (read_bare text r c p) _ _ e in
    given (SimpleTargetAt text g c p) _ _ y b.2 (bare_target_is text g c p _ _ (bare_sound s c p _ b.1))

-- Parentheses

abbrev OpensAt : Bytes → ℕ → List Token → ℕ → Type 0
OpensAt text = Chain (ChainedMarkAt text Operand (codes "("))

-- some parentheses, and what they hold
abbrev OpenedAt : Bytes → Rules → Context → Inside → List Token → Inside → Type 0
OpenedAt text g c (inside_v.Reached p) xs (inside_v.Found b q) = (a : ℕ) × OpensAt text p xs a × BareAt text g c a b q
OpenedAt text g c (inside_v.Reached p) xs (inside_v.Reached q) = Unit {0}
OpenedAt text g c (inside_v.Found b p) xs z = Unit {0}

opened_more : (text : Bytes) (g : Rules) (c : Context) (p : ℕ) (t : Token) → MarkAt text Operand (codes "(") p t → (xs : List Token) (z : Inside)
    → OpenedAt text g c (inside_v.Reached t.end) xs z → OpenedAt text g c (inside_v.Reached p) (t ∷ xs) z
opened_more text g c p t m xs (inside_v.Found b q) h = (h.0, Chain.more t xs (ChainedMarkAt.mark t m) h.1, h.2)
opened_more text g c p t m xs (inside_v.Reached q) h = tt

bare_or_deeper_sound : {text : Bytes} {g : Rules} {r : Readers} (s : AreSound text g r) (c : Context) (p : ℕ) (o : Option (Bare × ℕ))
    → read_bare text r c p ≡ o → (u : TurnOf Inside Token) → bare_or_deeper o (deeper text p) ≡ Some u → Joins (OpenedAt text g c) (inside_v.Reached p) u
unfolding deeper
bare_or_deeper_sound {text} {g} {r} s c p (Some b) at u e =
    subst (Joins (OpenedAt text g c) (inside_v.Reached p)) (some_is _ _ e) (p, Chain.none, bare_sound s c p b at)
bare_or_deeper_sound {text} {g} {r} s c p None at u e =
    let t = bind_some (mark text Operand (codes "(") p) _ _ e in
    subst (Joins (OpenedAt text g c) (inside_v.Reached p)) (some_is _ _ t.2) (λ ys z k. opened_more text g c p t.0 (mark_there t.1) ys z k)

paren_turn_sound : {text : Bytes} {g : Rules} {r : Readers} (s : AreSound text g r) (c : Context) (i : Inside) (u : TurnOf Inside Token)
    → paren_turn text r c i ≡ Some u → Joins (OpenedAt text g c) i u
paren_turn_sound {text} {g} {r} s c (inside_v.Reached p) u e = bare_or_deeper_sound s c p (read_bare text r c p) refl u e
paren_turn_sound {text} {g} {r} s c (inside_v.Found b p) u e = absurd cc

abbrev ClosesAt : Bytes → ℕ → List Token → ℕ → Type 0
ClosesAt text = Chain (ChainedMarkAt text Operator (codes ")"))

closing_sound : (text : Bytes) (n : ℕ) (found : List Token) (p : ℕ) (y : List Token × ℕ) → closing text n found p ≡ Some y
    → (ys : List Token) × (y.0 ≡ found ++ ys) × ClosesAt text p ys y.1 × (length ys ≡ n)
unfolding closing
closing_sound text zero found p y e =
    subst (λ (z : List Token × ℕ). (ys : List Token) × (z.0 ≡ found ++ ys) × ClosesAt text p ys z.1 × (length ys ≡ zero)) (some_is _ _ e)
    ([], sym (append-nil found), Chain.none, refl)
closing_sound text (suc n) found p y e =
    let t = bind_some (mark text Operator (codes ")") p) _ _ e in
    let k = closing_sound text n (found ++ t.0 ∷ []) t.0.end y t.2 in
    (t.0 ∷ k.0, k.1 ∙ append_assoc found (t.0 ∷ []) k.0, Chain.more t.0 k.0 (ChainedMarkAt.mark t.0 (mark_there t.1)) k.2, ap suc k.3)

paren_is : (text : Bytes) (g : Rules) (c : Context) (p : ℕ) (left : Token) → MarkAt text Operand (codes "(") p left → (xs : List Token) (a : ℕ)
    → OpensAt text left.end xs a → (b : Bare) (q : ℕ) → BareAt text g c a b q → (ts : List Token) (z : ℕ) → ClosesAt text q ts z
    → length ts ≡ length (left ∷ xs) → SimpleTargetAt text g c p (paren_target (left ∷ xs) b ts) z
paren_is text g c p left m xs a h _ _ (BareAt.name t n) ts z k l =
    SimpleTargetAt.paren_name _ (ParenthesisedAt.parenthesised left xs t ts m h (TargetNameAt.name t n) k l)
paren_is text g c p left m xs a h _ q (BareAt.member x i j) ts z k l =
    SimpleTargetAt.paren_member _ (ParenthesisedAt.parenthesised left xs x ts m h (TargetMemberAt.member x i j) k l)

paren_inside_sound : (text : Bytes) (g : Rules) (c : Context) (p : ℕ) (left : Token) → MarkAt text Operand (codes "(") p left → (xs : List Token) (i : Inside)
    → OpenedAt text g c (inside_v.Reached left.end) xs i → (y : Target × ℕ) → paren_inside text (left ∷ xs) i ≡ Some y → SimpleTargetAt text g c p y.0 y.1
unfolding paren_closed
paren_inside_sound text g c p left m xs (inside_v.Reached q) h y e = absurd cc
paren_inside_sound text g c p left m xs (inside_v.Found b q) h y e =
    let ts = bind_some (closing text (length (left ∷ xs)) [] q) _ _ e in
    let k = closing_sound text _ [] q _ ts.1 in
    given (SimpleTargetAt text g c p) _ _ y ts.2
    (paren_is text g c p left m xs h.0 h.1 b q h.2 _ _ (subst (λ zs. ClosesAt text q zs ts.0.1) (sym k.1) k.2)
    (subst (λ (zs : List Token). length zs ≡ length (left ∷ xs)) (sym k.1) k.3))

pub paren_target_sound : {text : Bytes} {g : Rules} {r : Readers} (s : AreSound text g r) (c : Context) (p : ℕ) (left : Token)
    → MarkAt text Operand (codes "(") p left → (y : Target × ℕ) → read_paren_target text r c left ≡ Some y → SimpleTargetAt text g c p y.0 y.1
unfolding read_paren_target
paren_target_sound {text} {g} {r} s c p left m y e =
    let xs = bind_some (all_turns text (paren_turn text r c) (inside_v.Reached left.end)) _ _ e in
    paren_inside_sound text g c p left m xs.0.0 xs.0.1 (turns_sound text (OpenedAt text g c) _ (paren_turn_sound s c) (inside_v.Reached left.end) _ xs.1) y xs.2

-- Targets

-- which of two was there
data EitherWay {A : Type 0} (x y : Option A) (z : A) : Type 0 where
  one : x ≡ Some z → EitherWay x y z
  other : y ≡ Some z → EitherWay x y z

either_way : {A : Type 0} (x y : Option A) (z : A) → or_else x y ≡ Some z → EitherWay x y z
either_way (Some x) y z e = one e
either_way None y z e = other e

pub simple_target_sound : {text : Bytes} {g : Rules} {r : Readers} (s : AreSound text g r) (c : Context)
    → Sound (SimpleTargetAt text g c) (read_simple_target text r c)
unfolding read_simple_target
simple_target_sound {text} {g} {r} s c p y e =
    let t = bind_some (token text Operand p) _ _ e in
    elim (chosen (is_mark text (codes "(") t.0) (or_else (bare_target_at text r c p) (read_paren_target text r c t.0)) (bare_target_at text r c p) _ t.2) [
      | when h f ↦ elim (either_way (bare_target_at text r c p) (read_paren_target text r c t.0) y f) [
        | one k ↦ bare_target_sound s c p y k
        | other k ↦ paren_target_sound s c p t.0 (marked t.1 h) y k
      ]
      | else h f ↦ bare_target_sound s c p y f
    ]

pattern_alone_sound : {text : Bytes} {g : Rules} {r : Readers} (s : AreSound text g r) (c : Context) → Sound (TargetAt text g c) (pattern_alone text r c)
unfolding pattern_alone
pattern_alone_sound {text} {g} {r} s c p y e =
    let x = bind_some (r.target_pattern c p) _ _ e in
    let u = bind_some (token text Operator x.0.1) _ _ x.2 in
    elim (chosen (begins_suffix text u.0) None (Some x.0) _ u.2) [
      | when h f ↦ absurd cc
      | else h f ↦ given (TargetAt text g c p) _ _ y f (TargetAt.pattern x.0.0 (s.target_pattern c p _ x.1))
    ]

pub target_sound : {text : Bytes} {g : Rules} {r : Readers} (s : AreSound text g r) (c : Context) → Sound (TargetAt text g c) (read_target text r c)
unfolding read_target
target_sound {text} {g} {r} s c p y e =
    let t = bind_some (token text Operand p) _ _ e in
    elim (chosen (begins_pattern text t.0) (or_else (pattern_alone text r c p) (bare_target_at text r c p)) (read_simple_target text r c p) _ t.2) [
      | when h f ↦ elim (either_way (pattern_alone text r c p) (bare_target_at text r c p) y f) [
        | one k ↦ pattern_alone_sound s c p y k
        | other k ↦ TargetAt.simple y.0 (bare_target_sound s c p y k)
      ]
      | else h f ↦ TargetAt.simple y.0 (simple_target_sound s c p y f)
    ]

-- Parts of patterns

-- what stands behind the target of a part
data BehindAt (text : Bytes) (g : Rules) (c : Context) (k : Option (PropertyKey Assign)) (x : Target) (q : ℕ) : TargetPart → ℕ → Type 0 where
  nothing : BehindAt text g c k x q (target_part k x None) q
  initial : {z : Stop} (i : Initializer Assign) → InitializerAt text g (bracketed c) q i z
      → BehindAt text g c k x q (target_part k x (Some i)) z.at

part_by_sound : {text : Bytes} {g : Rules} {r : Readers} (s : AreSound text g r) (c : Context) (k : Option (PropertyKey Assign)) (x : Target) (q : ℕ)
    (u : Token) → token text Operator q ≡ Some u → (y : TargetPart × ℕ) → part_by text r c k x q u ≡ Some y → BehindAt text g c k x q y.0 y.1
unfolding part_by part_initialised
part_by_sound {text} {g} {r} s c k x q u at y e =
    elim (chosen (is_mark text (codes "=") u) (part_initialised text r c k x u) (Some (target_part k x None, q)) _ e) [
      | when h f ↦ let i = bind_some (initializer_behind text r (bracketed c) u) _ _ f in
          given (BehindAt text g c k x q) _ _ y i.2 (BehindAt.initial i.0.0 (initializer_behind_sound s (bracketed c) q u (marked at h) _ i.1))
      | else h f ↦ given (BehindAt text g c k x q) _ _ y f BehindAt.nothing
    ]

element_of : (text : Bytes) (g : Rules) (c : Context) (p : ℕ) (x : Target) (q : ℕ) → TargetAt text g (bracketed c) p x q → (y : TargetPart) (z : ℕ)
    → BehindAt text g c None x q y z → TargetElementAt text g c p y z
element_of text g c p x q h _ _ BehindAt.nothing = TargetElementAt.plain x h
element_of text g c p x q h _ _ (BehindAt.initial i k) = TargetElementAt.initialised x i h k

keyed_of : (text : Bytes) (g : Rules) (c : Context) (p : ℕ) (k : PropertyKey Assign) (a : ℕ) → PropertyKeyAt text g c p k a → (x : Target) (q : ℕ)
    → TargetAt text g (bracketed c) a x q → (y : TargetPart) (z : ℕ) → BehindAt text g c (Some k) x q y z → TargetPropertyAt text g c p y z
keyed_of text g c p k a l x q h _ _ BehindAt.nothing = TargetPropertyAt.keyed k x l h
keyed_of text g c p k a l x q h _ _ (BehindAt.initial i j) = TargetPropertyAt.keyed_initialised k x i l h j

name_of : (text : Bytes) (g : Rules) (c : Context) (p : ℕ) (t : Token) → NameAt text Operand c p t → (y : TargetPart) (z : ℕ)
    → BehindAt text g c None (target_v.Name t) t.end y z → TargetPropertyAt text g c p y z
name_of text g c p t n _ _ BehindAt.nothing = TargetPropertyAt.name t n
name_of text g c p t n _ _ (BehindAt.initial i j) = TargetPropertyAt.name_initialised t i n j

element_sound : {text : Bytes} {g : Rules} {r : Readers} (s : AreSound text g r) (c : Context) → Sound (TargetElementAt text g c) (read_target_part text r c None)
unfolding read_target_part part_behind
element_sound {text} {g} {r} s c p y e =
    let x = bind_some (read_target text r (bracketed c) p) _ _ e in
    let u = bind_some (token text Operator x.0.1) _ _ x.2 in
    element_of text g c p _ _ (target_sound s (bracketed c) p _ x.1) _ _ (part_by_sound s c None x.0.0 x.0.1 u.0 u.1 y u.2)

keyed_part_sound : {text : Bytes} {g : Rules} {r : Readers} (s : AreSound text g r) (c : Context) (p : ℕ) (k : PropertyKey Assign) (a : ℕ)
    → PropertyKeyAt text g c p k a → (y : TargetPart × ℕ) → read_target_part text r c (Some k) a ≡ Some y → TargetPropertyAt text g c p y.0 y.1
unfolding read_target_part part_behind
keyed_part_sound {text} {g} {r} s c p k a h y e =
    let x = bind_some (read_target text r (bracketed c) a) _ _ e in
    let u = bind_some (token text Operator x.0.1) _ _ x.2 in
    keyed_of text g c p k a h _ _ (target_sound s (bracketed c) a _ x.1) _ _ (part_by_sound s c (Some k) x.0.0 x.0.1 u.0 u.1 y u.2)

named_target_sound : {text : Bytes} {g : Rules} {r : Readers} (s : AreSound text g r) (c : Context) (p : ℕ) (t : Token) → NameAt text Operand c p t
    → (y : TargetPart × ℕ) → named_target text r c t ≡ Some y → TargetPropertyAt text g c p y.0 y.1
unfolding named_target named_by
named_target_sound {text} {g} {r} s c p t n y e =
    let u = bind_some (token text Operator t.end) _ _ e in
    elim (chosen (is_mark text (codes ":") u.0) (read_target_part text r c (Some (record { key = key.IdName t; colon = u.0 })) u.0.end) _ _ u.2) [
      | when h f ↦ keyed_part_sound s c p _ _ (PropertyKeyAt.property (key.IdName t) u.0 (KeyAt.id_name t n.is) (marked u.1 h)) y f
      | else h f ↦ name_of text g c p t n _ _ (part_by_sound s c None (target_v.Name t) t.end u.0 u.1 y f)
    ]

property_sound : {text : Bytes} {g : Rules} {r : Readers} (s : AreSound text g r) (c : Context) → Sound (TargetPropertyAt text g c) (read_target_property text r c)
unfolding read_target_property keyed_target
property_sound {text} {g} {r} s c p y e =
    let t = bind_some (token text Operand p) _ _ e in
    elim (chosen (is_name text c t.0) (named_target text r c t.0) (keyed_target text r c p) _ t.2) [
      | when h f ↦ named_target_sound s c p t.0 (named t.1 h) y f
      | else h f ↦ let k = bind_some (read_property_key text r c p) _ _ f in keyed_part_sound s c p _ _ (property_key_sound s c p _ k.1) y k.2
    ]

-- Patterns

array_with_rest_sound : {text : Bytes} {g : Rules} {r : Readers} (s : AreSound text g r) (c : Context) (p : ℕ) (left : Token) (xs : Elements) (a : ℕ)
    (dots : Token) → MarkAt text Operand (codes "[") p left → EachElementAt text (TargetElementAt text g c) left.end xs a
    → MarkAt text Operand (codes "...") a dots
    → (y : Target × ℕ) → array_with_rest text r c left xs dots ≡ Some y → TargetPatternAt text g c p y.0 y.1
unfolding array_with_rest
array_with_rest_sound {text} {g} {r} s c p left xs a dots m each d y e =
    let x = bind_some (rest_behind (read_target text r (bracketed c)) dots) _ _ e in
    let u = bind_some (mark text Operator (codes "]") x.0.1) _ _ x.2 in
    given (TargetPatternAt text g c p) _ _ y u.2
    (TargetPatternAt.array_rest left xs x.0.0 u.0 m each (rest_sound text _ _ (target_sound s (bracketed c)) a dots d _ x.1) (mark_there u.1))

array_behind_sound : {text : Bytes} {g : Rules} {r : Readers} (s : AreSound text g r) (c : Context) (p : ℕ) (left : Token) (xs : Elements) (a : ℕ)
    → MarkAt text Operand (codes "[") p left → ElementsAt text (TargetElementAt text g c) left.end xs a
    → (y : Target × ℕ) → array_behind text r c left xs a ≡ Some y → TargetPatternAt text g c p y.0 y.1
unfolding array_behind array_without_rest
array_behind_sound {text} {g} {r} s c p left xs a m elements y e =
    let t = bind_some (token text Operand a) _ _ e in
    elim (chosen (is_rest text xs t.0) (array_with_rest text r c left xs t.0) (array_without_rest text left xs a) _ t.2) [
      | when h f ↦ let b = both _ _ h in
          array_with_rest_sound s c p left xs a t.0 m (each_of_elements text (TargetElementAt text g c) _ _ _ elements b.1) (marked t.1 b.0) y f
      | else h f ↦ let u = bind_some (mark text Operator (codes "]") a) _ _ f in
          given (TargetPatternAt text g c p) _ _ y u.2 (TargetPatternAt.array left xs u.0 m elements (mark_there u.1))
    ]

array_target_sound : {text : Bytes} {g : Rules} {r : Readers} (s : AreSound text g r) (c : Context) (p : ℕ) (left : Token)
    → MarkAt text Operand (codes "[") p left → (y : Target × ℕ) → read_array_target text r c left ≡ Some y → TargetPatternAt text g c p y.0 y.1
unfolding read_array_target
array_target_sound {text} {g} {r} s c p left m y e =
    let xs = bind_some (all_turns text (elements_turn text (ends_parts text (codes "]")) (read_target_part text r c None)) left.end) _ _ e in
    array_behind_sound s c p left _ _ m (elements_sound text _ _ (TargetElementAt text g c) (element_sound s c) left.end _ xs.1) y xs.2

object_with_rest_sound : {text : Bytes} {g : Rules} {r : Readers} (s : AreSound text g r) (c : Context) (p : ℕ) (left : Token) (xs : Properties) (a : ℕ)
    (dots : Token) → MarkAt text Operand (codes "{") p left → EachAt text (TargetPropertyAt text g c) left.end xs a → MarkAt text Operand (codes "...") a dots
    → (y : Target × ℕ) → object_with_rest text r c left xs dots ≡ Some y → TargetPatternAt text g c p y.0 y.1
unfolding object_with_rest
object_with_rest_sound {text} {g} {r} s c p left xs a dots m each d y e =
    let x = bind_some (rest_behind (read_simple_target text r (bracketed c)) dots) _ _ e in
    let u = bind_some (mark text Operator (codes "}") x.0.1) _ _ x.2 in
    given (TargetPatternAt text g c p) _ _ y u.2
    (TargetPatternAt.object_rest left xs x.0.0 u.0 m each (rest_sound text _ _ (simple_target_sound s (bracketed c)) a dots d _ x.1) (mark_there u.1))

object_behind_sound : {text : Bytes} {g : Rules} {r : Readers} (s : AreSound text g r) (c : Context) (p : ℕ) (left : Token) (xs : Properties) (a : ℕ)
    → MarkAt text Operand (codes "{") p left → ListAt text (TargetPropertyAt text g c) left.end xs a
    → (y : Target × ℕ) → object_behind text r c left xs a ≡ Some y → TargetPatternAt text g c p y.0 y.1
unfolding object_behind object_without_rest
object_behind_sound {text} {g} {r} s c p left xs a m list y e =
    let t = bind_some (token text Operand a) _ _ e in
    elim (chosen (is_rest text xs t.0) (object_with_rest text r c left xs t.0) (object_without_rest text left xs a) _ t.2) [
      | when h f ↦ let b = both _ _ h in
          object_with_rest_sound s c p left xs a t.0 m (each_of_list text (TargetPropertyAt text g c) _ _ _ list b.1) (marked t.1 b.0) y f
      | else h f ↦ let u = bind_some (mark text Operator (codes "}") a) _ _ f in
          given (TargetPatternAt text g c p) _ _ y u.2 (TargetPatternAt.object left xs u.0 m list (mark_there u.1))
    ]

object_target_sound : {text : Bytes} {g : Rules} {r : Readers} (s : AreSound text g r) (c : Context) (p : ℕ) (left : Token)
    → MarkAt text Operand (codes "{") p left → (y : Target × ℕ) → read_object_target text r c left ≡ Some y → TargetPatternAt text g c p y.0 y.1
unfolding read_object_target
object_target_sound {text} {g} {r} s c p left m y e =
    let xs = bind_some (all_turns text (list_turn text (ends_parts text (codes "}")) (read_target_property text r c)) left.end) _ _ e in
    object_behind_sound s c p left _ _ m (list_sound text _ _ (TargetPropertyAt text g c) (property_sound s c) left.end _ xs.1) y xs.2

pub target_pattern_sound : {text : Bytes} {g : Rules} {r : Readers} (s : AreSound text g r) (c : Context)
    → Sound (TargetPatternAt text g c) (read_target_pattern text r c)
unfolding read_target_pattern
target_pattern_sound {text} {g} {r} s c p y e =
    let t = bind_some (token text Operand p) _ _ e in
    elim (chosen (is_mark text (codes "[") t.0) (read_array_target text r c t.0) _ _ t.2) [
      | when h f ↦ array_target_sound s c p t.0 (marked t.1 h) y f
      | else h f ↦ elim (chosen (is_mark text (codes "{") t.0) (read_object_target text r c t.0) None _ f) [
        | when i k ↦ object_target_sound s c p t.0 (marked t.1 i) y k
        | else i k ↦ absurd cc
      ]
    ]
