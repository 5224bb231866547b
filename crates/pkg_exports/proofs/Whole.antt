-- A key has one answer in a map.
use Rattle.std.proofs.Common.{arith, ◌≡◌, ◌≢◌, ℕ, zero, suc, ◌<◌, false, true, List, [], ◌∷◌, ◌++◌, length, length-append, nat_lt, ◌==◌, ◌&&◌, Option, Some, None, Result, codes, refl, sym, ap, subst, ◌∙◌, ◌⊎◌, inl, inr}
use Rattle.std.specs.List.{slice_get}
use Rattle.std.proofs.lemmas.Option.{slice_get_within}
use Rattle.std.proofs.lemmas.Bool.{false≢true, or_left, lt-ltb}
use Rattle.std.proofs.lemmas.Bool.Decides.{nat_tests}
use Rattle.pk_types.specs.declared.form.Form.{Form}
use Rattle.pkg_manifest.specs.declared.value.Json.{Json}
use Rattle.pkg_manifest.specs.declared.value.Member.{Member}
use Rattle.pkg_manifest.specs.Members.{member}
use Rattle.pkg_exports.specs.declared.answer.Table.{Table}
use Rattle.pkg_exports.specs.declared.answer.Target.{Target}
use Rattle.pkg_exports.specs.declared.answer.TargetFault.{TargetFault}
use Rattle.pkg_exports.specs.declared.key.Fit.{Fit}
use Rattle.pkg_exports.specs.Texts.{has}
use Rattle.pkg_exports.specs.Keys.{Fits, equal, pattern, Decides, NoneFits, is_preferred, before_star}
use Rattle.pkg_exports.specs.Choices.{Chosen}
use Rattle.pkg_exports.specs.Meanings.{meaning}
use Rattle.pkg_exports.specs.Answers.{Answers, mixed, not_there, decided, answer_of, sole}
use Rattle.pkg_exports.proofs.Stars.{one_part, other_name, before_whole, before_first}

pub some_one : {A : Type 0} (x y : A) → ◌≡◌ {A = Option A} (Some x) (Some y) → x ≡ y
some_one x y e = cc

order : (i j : ℕ) → (i < j) ⊎ ((i ≡ j) ⊎ (j < i))
order i j = grind (arith, nat_tests)

module _ (es : List (Member Json)) (key : List ℕ) where
  not_before : (m n : Member Json) (p q : List ℕ) (d : Decides es key m p) (e : Decides es key n q) → d.place < e.place → ⊥
  not_before m n p q d e h = false≢true (sym (d.best e.place n q e.stands e.fits) ∙ e.first d.place m p h d.stands d.fits)

  pub one_decides : (m n : Member Json) (p q : List ℕ) → Decides es key m p → Decides es key n q → (m ≡ n) × (p ≡ q)
  one_decides m n p q d e = elim (order d.place e.place) [
    | inl h ↦ absurd (not_before m n p q d e h)
    | inr o ↦ elim o [
      | inl h ↦
          let s : m ≡ n = some_one m n (sym d.stands ∙ ap (slice_get es) h ∙ e.stands) in
          (s, one_part key n.name p q (subst (λ (x : Member Json). Fits key x.name p) s d.fits) e.fits)
      | inr h ↦ absurd (not_before n m q p e d h)
    ]
  ]

  pub chosen_decides : (fit : Fit) (at : Chosen es key (length es) (Some fit)) → Decides es key at.entry fit.part.now
  chosen_decides fit at = record {
    place = fit.place;
    stands = at.stands;
    fits = at.fit_of_it.fits;
    best = λ i n p e f. at.best i n p (slice_get_within es i n e) e f;
    first = at.first;
  }

  pub chosen_none : Chosen es key (length es) None → NoneFits es key
  chosen_none none i n p e f = none i n p (slice_get_within es i n e) e f

pub same_answer : (form : Form) (table : Table) (map : Json) (key : List ℕ) (a b : Result Target TargetFault) → Answers form table map key a → Answers form table map key b → a ≡ b
same_answer form table map key a b (mixed h e) (mixed k f) = e ∙ sym f
same_answer form table map key a b (mixed h e) (not_there k l f) = absurd (false≢true (sym k ∙ h))
same_answer form table map key a b (mixed h e) (decided k m p d f) = absurd (false≢true (sym k ∙ h))
same_answer form table map key a b (not_there k l f) (mixed h e) = absurd (false≢true (sym k ∙ h))
same_answer form table map key a b (not_there k l f) (not_there h i e) = f ∙ sym e
same_answer form table map key a b (not_there k l f) (decided h m p d e) = absurd (l d.place m p d.stands d.fits)
same_answer form table map key a b (decided k m p d f) (mixed h e) = absurd (false≢true (sym k ∙ h))
same_answer form table map key a b (decided h m p d e) (not_there k l f) = absurd (l d.place m p d.stands d.fits)
same_answer form table map key a b (decided h m p d e) (decided k n q g f) =
    let s = one_decides _ key m n p q d g in
    e ∙ ap (λ (x : Member Json). answer_of (meaning form table p x.value)) s.0 ∙ ap (λ x. answer_of (meaning form table x n.value)) s.1 ∙ sym f

-- ---- the value as the entry for `.`

only_one : (j : Json) (i : ℕ) (n : Member Json) → slice_get (sole j) i ≡ Some n → member (codes ".") j ≡ n
only_one j zero n e = some_one (member (codes ".") j) n e
only_one j (suc i) n e = absurd (cc)

pub sole_decides : (j : Json) (key : List ℕ) → key ≡ codes "." → Decides (sole j) key (member (codes ".") j) (42 ∷ [])
sole_decides j key e = record {
  place = 0;
  stands = refl;
  fits = equal refl (sym e) refl;
  best = λ i n p f g. subst (λ (x : Member Json). is_preferred x.name (codes ".") ≡ false) (only_one j i n f) refl;
  first = λ i n p h f g. absurd (omega arith);
}

pub sole_none : (j : Json) (key : List ℕ) → key ≢ codes "." → NoneFits (sole j) key
sole_none j key differs i n p e f = other_name key (codes ".") refl (λ g. differs (sym g)) p (subst (λ (x : Member Json). Fits key x.name p) (sym (only_one j i n e)) f)

-- ---- a name that is equal to the key

longer_before : (key m part a b : List ℕ) → has 42 key ≡ false → has 42 a ≡ false → m ≡ a ++ 42 ∷ b → part ≢ [] → key ≡ a ++ part ++ b → is_preferred key m ≡ true
longer_before key m [] a b plain h e some f = absurd (some refl)
longer_before key m (c ∷ part) a b plain h e some f =
    let whole : length (before_star key) ≡ length key = ap length (before_whole key plain) in
    let first : length (before_star m) ≡ length a = ap length (ap before_star e ∙ before_first a b h) in
    let size : length key ≡ length ((a ++ c ∷ part) ++ b) = ap length f in
    let less : length (before_star m) < length (before_star key) = omega (arith, simp (length-append, length-append) at size) in
    or_left (nat_lt (length (before_star m)) (length (before_star key))) ((length (before_star key) == length (before_star m)) && nat_lt (length m) (length key)) (lt-ltb (length (before_star m)) (length (before_star key)) less)

pub equal_wins : (es : List (Member Json)) (key part : List ℕ) (i : ℕ) (n m : Member Json) → has 42 key ≡ false → slice_get es i ≡ Some n → n.name ≡ key → Decides es key m part → m.name ≡ key
equal_wins es key part i n m plain stands same d = by d.fits
  where
    not_better : is_preferred n.name m.name ≡ false
    not_better = d.best i n (42 ∷ []) stands (equal (ap (has 42) same ∙ plain) same refl)

    by : Fits key m.name part → m.name ≡ key
    by (equal h e f) = e
    by (pattern a b h k e some f) = absurd (false≢true (sym (ap (λ x. is_preferred x m.name) (sym same) ∙ not_better) ∙ longer_before key m.name part a b plain h e some f))
