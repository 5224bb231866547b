-- Whether two pairs of a module and a name are the same, and what two found things are where they join to one.
use Rattle.std.proofs.Common.{◌≡◌, ◌≢◌, ◌⊎◌, inl, inr, ℕ, suc, ◌&&◌, Bool, true, false, true≢false, nat_eq, bytes_eq, cond, List, [], ◌∷◌, length, Contains, refl, sym, ap, subst, ◌∙◌, arith}
use Rattle.std.proofs.lemmas.Bool.Decides.{nat_tests}
use Rattle.std.proofs.lemmas.Slice.Eq.{bytes_eq-Decides}
use Rattle.pk_types.specs.declared.found.Found.{Found}
use Rattle.pk_types.specs.declared.found.Found.TheVariants.{Binding, Namespace, Foreign, Nothing, Ambiguous}
use Rattle.pk_types.specs.Joined.{is_same, joined}
use Rattle.pk_types.specs.Resolving.{Pair}
use Rattle.pk_types.proofs.ListMembers.{same_or_not}
use Rattle.pk_types.proofs.Parts.{Contains-cases, Contains-head, Contains-tail, none_within}

names_or_not : (name other : List ℕ) → (name ≡ other) ⊎ (name ≢ other)
names_or_not name other = told (bytes_eq name other) refl
  where
    told : (b : Bool) → bytes_eq name other ≡ b → (name ≡ other) ⊎ (name ≢ other)
    told true e = inl ((bytes_eq-Decides name other).0 e)
    told false e = inr (λ same. true≢false (sym ((bytes_eq-Decides name other).1 same) ∙ e))

pairs_or_not : (pair other : Pair) → (pair ≡ other) ⊎ (pair ≢ other)
pairs_or_not pair other = decide (same_or_not pair.0 other.0) (names_or_not pair.1 other.1)
  where
    decide : (pair.0 ≡ other.0) ⊎ (pair.0 ≢ other.0) → (pair.1 ≡ other.1) ⊎ (pair.1 ≢ other.1) → (pair ≡ other) ⊎ (pair ≢ other)
    decide (inl e) (inl f) = inl (ap (λ n. (n, pair.1)) e ∙ ap (λ w. (other.0, w)) f)
    decide (inl e) (inr f) = inr (λ same. f (ap (λ p. p.1) same))
    decide (inr e) f = inr (λ same. e (ap (λ p. p.0) same))

-- a pair stands among the others or not
pub among_or_not : (pairs : List Pair) (pair : Pair) → Contains pairs pair ⊎ (¬ Contains pairs pair)
among_or_not [] pair = inr (λ m. none_within pair m)
among_or_not (first ∷ pairs) pair = elim (pairs_or_not first pair) [
  | inl e ↦ inl (subst (Contains (first ∷ pairs)) e (Contains-head first pairs))
  | inr n ↦ elim (among_or_not pairs pair) [
    | inl m ↦ inl (Contains-tail first pairs pair m)
    | inr k ↦ inr (λ m. elim (Contains-cases first pairs pair m) [ inl e ↦ n e | inr h ↦ k h ])
  ]
]

-- the list without one place of the pair
pub without : (pairs : List Pair) (pair : Pair) → Contains pairs pair
    → (rest : List Pair) × (suc (length rest) ≡ length pairs) × ((other : Pair) → Contains pairs other → (pair ≡ other) ⊎ Contains rest other)
without [] pair m = none_within pair m
without (first ∷ pairs) pair m = elim (Contains-cases first pairs pair m) [
  | inl e ↦ (
    pairs,
    refl,
    λ other h. elim (Contains-cases first pairs other h) [ inl f ↦ inl (sym e ∙ f) | inr k ↦ inr k ],
  )
  | inr h ↦ let r = without pairs pair h in (
    first ∷ r.0,
    ap suc r.1,
    λ other k. elim (Contains-cases first pairs other k) [
      | inl f ↦ inr (subst (Contains (first ∷ r.0)) f (Contains-head first r.0))
      | inr w ↦ elim (r.2 other w) [ inl f ↦ inl f | inr v ↦ inr (Contains-tail first r.0 other v) ]
    ],
  )
]

and_both : (a b : Bool) → (a && b) ≡ true → (a ≡ true) × (b ≡ true)
and_both true b e = (refl, e)
and_both false b e = absurd (true≢false (sym e))

to_same : (a b : ℕ) → nat_eq a b ≡ true → a ≡ b
to_same a b e = grind (arith, nat_tests)

same_number : (a : ℕ) → nat_eq a a ≡ true
same_number a = grind (arith, nat_tests)

-- the test of two found things tells that they are the same
pub same_thing : (one two : Found) → is_same one two ≡ true → one ≡ two
same_thing (Binding a b) (Binding c d) e =
    let h = and_both (nat_eq a c) (nat_eq b d) e in ap (λ n. Binding n b) (to_same a c h.0) ∙ ap (λ n. Binding c n) (to_same b d h.1)
same_thing (Namespace a) (Namespace c) e = ap Namespace (to_same a c e)
same_thing (Foreign a v) (Foreign c w) e =
    let h = and_both (nat_eq a c) (bytes_eq v w) e in ap (λ n. Foreign n v) (to_same a c h.0) ∙ ap (λ n. Foreign c n) ((bytes_eq-Decides v w).0 h.1)
same_thing Nothing Nothing e = refl
same_thing Ambiguous Ambiguous e = refl
same_thing (Binding a b) (Namespace c) e = absurd (true≢false (sym e))
same_thing (Binding a b) (Foreign c w) e = absurd (true≢false (sym e))
same_thing (Binding a b) Nothing e = absurd (true≢false (sym e))
same_thing (Binding a b) Ambiguous e = absurd (true≢false (sym e))
same_thing (Namespace a) (Binding c d) e = absurd (true≢false (sym e))
same_thing (Namespace a) (Foreign c w) e = absurd (true≢false (sym e))
same_thing (Namespace a) Nothing e = absurd (true≢false (sym e))
same_thing (Namespace a) Ambiguous e = absurd (true≢false (sym e))
same_thing (Foreign a v) (Binding c d) e = absurd (true≢false (sym e))
same_thing (Foreign a v) (Namespace c) e = absurd (true≢false (sym e))
same_thing (Foreign a v) Nothing e = absurd (true≢false (sym e))
same_thing (Foreign a v) Ambiguous e = absurd (true≢false (sym e))
same_thing Nothing (Binding c d) e = absurd (true≢false (sym e))
same_thing Nothing (Namespace c) e = absurd (true≢false (sym e))
same_thing Nothing (Foreign c w) e = absurd (true≢false (sym e))
same_thing Nothing Ambiguous e = absurd (true≢false (sym e))
same_thing Ambiguous (Binding c d) e = absurd (true≢false (sym e))
same_thing Ambiguous (Namespace c) e = absurd (true≢false (sym e))
same_thing Ambiguous (Foreign c w) e = absurd (true≢false (sym e))
same_thing Ambiguous Nothing e = absurd (true≢false (sym e))

pub itself : (found : Found) → is_same found found ≡ true
itself (Binding a b) = ap (λ t. t && nat_eq b b) (same_number a) ∙ same_number b
itself (Namespace a) = same_number a
itself (Foreign a v) = ap (λ t. t && bytes_eq v v) (same_number a) ∙ (bytes_eq-Decides v v).1 refl
itself Nothing = refl
itself Ambiguous = refl

-- nothing, or this
abbrev pub AtMost : Found → Found → Type 0
AtMost found one = (one ≡ Nothing) ⊎ (one ≡ found)

-- what was joined is each of the two that is something
Sides : Found → Found → Found → Type 0
Sides so_far one both = AtMost both so_far × AtMost both one

by_test : (so_far one : Found) (b : Bool) → is_same so_far one ≡ b → cond b so_far Ambiguous ≢ Ambiguous → Sides so_far one (cond b so_far Ambiguous)
unfolding Sides
by_test so_far one true e n = (inr refl, inr (sym (same_thing so_far one e)))
by_test so_far one false e n = absurd (n refl)

sides_of : (so_far one : Found) → joined so_far one ≢ Ambiguous → Sides so_far one (joined so_far one)
unfolding Sides
sides_of Nothing one n = (inl refl, inr refl)
sides_of (Binding a b) Nothing n = (inr refl, inl refl)
sides_of (Namespace a) Nothing n = (inr refl, inl refl)
sides_of (Foreign a v) Nothing n = (inr refl, inl refl)
sides_of Ambiguous Nothing n = (inr refl, inl refl)
sides_of (Binding a b) (Binding c d) n = by_test (Binding a b) (Binding c d) (is_same (Binding a b) (Binding c d)) refl n
sides_of (Namespace a) (Namespace c) n = by_test (Namespace a) (Namespace c) (is_same (Namespace a) (Namespace c)) refl n
sides_of (Foreign a v) (Foreign c w) n = by_test (Foreign a v) (Foreign c w) (is_same (Foreign a v) (Foreign c w)) refl n
sides_of (Binding a b) (Namespace c) n = absurd (n refl)
sides_of (Binding a b) (Foreign c w) n = absurd (n refl)
sides_of (Binding a b) Ambiguous n = absurd (n refl)
sides_of (Namespace a) (Binding c d) n = absurd (n refl)
sides_of (Namespace a) (Foreign c w) n = absurd (n refl)
sides_of (Namespace a) Ambiguous n = absurd (n refl)
sides_of (Foreign a v) (Binding c d) n = absurd (n refl)
sides_of (Foreign a v) (Namespace c) n = absurd (n refl)
sides_of (Foreign a v) Ambiguous n = absurd (n refl)
sides_of Ambiguous (Binding c d) n = absurd (n refl)
sides_of Ambiguous (Namespace c) n = absurd (n refl)
sides_of Ambiguous (Foreign c w) n = absurd (n refl)
sides_of Ambiguous Ambiguous n = absurd (n refl)

pub joined_sides : (so_far one : Found) → joined so_far one ≢ Ambiguous → AtMost (joined so_far one) so_far × AtMost (joined so_far one) one
unfolding Sides
joined_sides so_far one n = sides_of so_far one n

-- a thing joined with itself is itself
with_itself : (found : Found) → joined found found ≡ found
with_itself Nothing = refl
with_itself (Binding a b) = ap (λ t. cond t (Binding a b) Ambiguous) (itself (Binding a b))
with_itself (Namespace a) = ap (λ t. cond t (Namespace a) Ambiguous) (itself (Namespace a))
with_itself (Foreign a v) = ap (λ t. cond t (Foreign a v) Ambiguous) (itself (Foreign a v))
with_itself Ambiguous = refl

with_nothing : (found : Found) → joined found Nothing ≡ found
with_nothing Nothing = refl
with_nothing (Binding a b) = refl
with_nothing (Namespace a) = refl
with_nothing (Foreign a v) = refl
with_nothing Ambiguous = refl

-- what is joined of nothing and one thing is nothing or that thing
pub joined_at_most : (found so_far one : Found) → AtMost found so_far → AtMost found one → AtMost found (joined so_far one)
joined_at_most found so_far one (inl e) m = subst (λ f. AtMost found (joined f one)) (sym e) m
joined_at_most found so_far one (inr e) (inl f) = inr (ap (joined so_far) f ∙ with_nothing so_far ∙ e)
joined_at_most found so_far one (inr e) (inr f) = inr (ap (joined so_far) (f ∙ sym e) ∙ with_itself so_far ∙ e)

pub at_most_one : (found one : Found) → found ≢ Ambiguous → AtMost found one → one ≢ Ambiguous
at_most_one found one n (inl e) f = let q : Nothing ≡ Ambiguous = sym e ∙ f in absurd (grind arith)
at_most_one found one n (inr e) f = n (sym e ∙ f)
