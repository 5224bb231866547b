-- The best entry, once one more is seen.
use Rattle.std.proofs.Common.{◌≡◌, ℕ, ◌+◌, ◌<◌, Bool, cond, false, true, List, length, Option, Some, None, MatchOption, refl, sym, ap, subst, ◌∙◌, ◌⊎◌, inl, inr, arith}
use Rattle.std.specs.List.{slice_get}
use Rattle.std.proofs.lemmas.Bool.Decides.{nat_tests}
use Rattle.pkg_manifest.specs.declared.value.Json.{Json}
use Rattle.pkg_manifest.specs.declared.value.Member.{Member}
use Rattle.pkg_exports.specs.declared.key.Fit.{Fit}
use Rattle.pkg_exports.specs.Keys.{Fits, before_star, is_longer, is_preferred}
use Rattle.pkg_exports.specs.Choices.{IsFit, Chosen, ChosenAt, better_of}

not_itself : (b n : ℕ) → is_longer b n b n ≡ false
not_itself b n = grind (arith, nat_tests)

-- longer than one that is not shorter than another
longer_than_all : (a b c d e f : ℕ) → is_longer a b c d ≡ true → is_longer e f c d ≡ false → is_longer a b e f ≡ true
longer_than_all a b c d e f h k = grind (arith, nat_tests)

not_longer : (a b c d e f : ℕ) → is_longer a b c d ≡ true → is_longer e f c d ≡ false → is_longer e f a b ≡ false
not_longer a b c d e f h k = grind (arith, nat_tests)

below_or_at : (i n : ℕ) → i < n + 1 → (i < n) ⊎ (i ≡ n)
below_or_at i n h = grind (arith, nat_tests)

module _ (es : List (Member Json)) (key : List ℕ) (bound : ℕ) (m : Member Json) (here : slice_get es bound ≡ Some m) where
  same_entry : (i : ℕ) (n : Member Json) → i ≡ bound → slice_get es i ≡ Some n → n ≡ m
  same_entry i n e f = let g : slice_get es i ≡ slice_get es bound = ap (slice_get es) e in cc

  none_more : Chosen es key bound None → ((p : List ℕ) → ¬ Fits key m.name p) → Chosen es key (bound + 1) None
  none_more none never i n p h f fits =
      elim (below_or_at i bound h) [ inl k ↦ none i n p k f fits | inr e ↦ never p (subst (λ (x : Member Json). Fits key x.name p) (same_entry i n e f) fits) ]

  first_one : Chosen es key bound None → (fit : Fit) → IsFit bound key m.name fit → ChosenAt es key (bound + 1) fit
  first_one none fit is = record {
    entry = m;
    below = let e = is.place_is in omega arith;
    stands = ap (slice_get es) is.place_is ∙ here;
    fit_of_it = record { place_is = refl; before_is = is.before_is; length_is = is.length_is; fits = is.fits };
    best = λ i n p h f fits. elim (below_or_at i bound h) [
      | inl k ↦ absurd (none i n p k f fits)
      | inr e ↦ subst (λ (x : Member Json). is_preferred x.name m.name ≡ false) (sym (same_entry i n e f)) (not_itself (length (before_star m.name)) (length m.name))
    ];
    first = λ i n p h f fits. absurd (none i n p (let e = is.place_is in omega arith) f fits);
  }

  stays : (fit : Fit) (at : ChosenAt es key bound fit) → ((p : List ℕ) → Fits key m.name p → is_preferred m.name at.entry.name ≡ false) → ChosenAt es key (bound + 1) fit
  stays fit at less = record {
    entry = at.entry;
    below = let e = at.below in omega arith;
    stands = at.stands;
    fit_of_it = at.fit_of_it;
    best = λ i n p h f fits. elim (below_or_at i bound h) [
      | inl k ↦ at.best i n p k f fits
      | inr e ↦ let s = same_entry i n e f in
          subst (λ (x : Member Json). is_preferred x.name at.entry.name ≡ false) (sym s) (less p (subst (λ (x : Member Json). Fits key x.name p) s fits))
    ];
    first = at.first;
  }

  takes : (old new : Fit) (at : ChosenAt es key bound old) → IsFit bound key m.name new → is_preferred m.name at.entry.name ≡ true → ChosenAt es key (bound + 1) new
  takes old new at is longer = record {
    entry = m;
    below = let e = is.place_is in omega arith;
    stands = ap (slice_get es) is.place_is ∙ here;
    fit_of_it = record { place_is = refl; before_is = is.before_is; length_is = is.length_is; fits = is.fits };
    best = λ i n p h f fits. elim (below_or_at i bound h) [
      | inl k ↦ not_longer (length (before_star m.name)) (length m.name) (length (before_star at.entry.name)) (length at.entry.name) (length (before_star n.name)) (length n.name) longer (at.best i n p k f fits)
      | inr e ↦ subst (λ (x : Member Json). is_preferred x.name m.name ≡ false) (sym (same_entry i n e f)) (not_itself (length (before_star m.name)) (length m.name))
    ];
    first = λ i n p h f fits.
        longer_than_all (length (before_star m.name)) (length m.name) (length (before_star at.entry.name)) (length at.entry.name) (length (before_star n.name)) (length n.name) longer
        (at.best i n p (let e = is.place_is in omega arith) f fits);
  }

  preferred_is : (old new : Fit) (at : ChosenAt es key bound old) → IsFit bound key m.name new → is_longer new.before new.length old.before old.length ≡ is_preferred m.name at.entry.name
  preferred_is old new at is =
      ap (λ x. is_longer x new.length old.before old.length) is.before_is ∙ ap (λ x. is_longer (length (before_star m.name)) x old.before old.length) is.length_is
      ∙ ap (λ x. is_longer (length (before_star m.name)) (length m.name) x old.length) at.fit_of_it.before_is
      ∙ ap (λ x. is_longer (length (before_star m.name)) (length m.name) (length (before_star at.entry.name)) x) at.fit_of_it.length_is

  pub chosen_more : (best next : Option Fit) → Chosen es key bound best → MatchOption next ((p : List ℕ) → ¬ Fits key m.name p) (λ fit. IsFit bound key m.name fit) → Chosen es key (bound + 1) (better_of best next)
  chosen_more None None old new = none_more old new
  chosen_more None (Some fit) old new = first_one old fit new
  chosen_more (Some fit) None old new = stays fit old (λ p fits. absurd (new p fits))
  chosen_more (Some fit) (Some other) old new = by (is_longer other.before other.length fit.before fit.length) refl
    where
      by : (b : Bool) → is_longer other.before other.length fit.before fit.length ≡ b → Chosen es key (bound + 1) (cond b (Some other) (Some fit))
      by true e = takes fit other old new (sym (preferred_is fit other old new) ∙ e)
      by false e = stays fit old (λ p fits. sym (preferred_is fit other old new) ∙ e)
