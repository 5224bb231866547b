-- Lists of what stands at places, as they grow place by place.
use Rattle.std.proofs.Common.{◌≡◌, ℕ, ◌+◌, ◌<◌, List, [], ◌∷◌, ◌++◌, get_or, sym, subst, ⊎_elim, arith}
use Rattle.std.specs.List.{AllZip, Contains}
use Rattle.std.proofs.lemmas.Bool.{cases_eq}
use Rattle.std.proofs.lemmas.List.Quantifiers.{all_pairs_push}
use Rattle.std.proofs.lemmas.List.Elements.{Contains-get_or, Contains-append_left, Contains-append_right, Contains-append_cases}
use Rattle.pk_types.proofs.ListMembers.{here, one_of, none_in}
use Rattle.es_scope.specs.Listed.{AreThose}
use Rattle.es_sites.specs.Listing.{AreBefore}

zip_more : {A B : Type 0} (R : A → B → Type 0) (xs : List A) (ys : List B) (x : A) (y : B) → AllZip R xs ys → R x y → AllZip R (xs ++ x ∷ []) (ys ++ y ∷ [])
zip_more R [] [] x y h one = (one, tt)
zip_more R [] (other ∷ ys) x y h one = absurd h
zip_more R (other ∷ xs) [] x y h one = absurd h
zip_more R (a ∷ xs) (b ∷ ys) x y h one = (h.0, zip_more R xs ys x y h.1 one)

module _ {A : Type 0} (IsAt : ℕ → A → Type 0) where
  pub none_before : (items : List A) → items ≡ [] → AreBefore IsAt 0 items
  none_before items none = subst (AreBefore IsAt 0) (sym none) (record {
    places = [];
    order = λ i j d before inside. absurd (omega (arith, inside));
    each = tt;
    below = λ place c. absurd (none_in place c);
    all = λ place item before at. absurd (omega (arith, before));
  })

  pub nothing_more : (count : ℕ) (items : List A) → AreBefore IsAt count items → ((item : A) → ¬ IsAt count item) → AreBefore IsAt (count + 1) items
  nothing_more count items so_far none = record {
    places = so_far.places;
    order = so_far.order;
    each = so_far.each;
    below = λ place c. let before = so_far.below place c in omega arith;
    all = λ place item before at. ⊎_elim
        (λ same. absurd (none item (subst (λ (p : ℕ). IsAt p item) same at)))
        (λ apart. so_far.all place item (omega (arith, before, apart)) at)
        (cases_eq place count);
  }

  one_more : (count : ℕ) (items : List A) (item : A) → AreBefore IsAt count items → IsAt count item → AreBefore IsAt (count + 1) (items ++ item ∷ [])
  one_more count items item so_far one = record {
    places = so_far.places ++ count ∷ [];
    order = all_pairs_push (λ place other. place < other) so_far.places count so_far.order
        (λ k d inside. so_far.below (get_or so_far.places k d) (Contains-get_or so_far.places k d inside));
    each = zip_more IsAt so_far.places items count item so_far.each one;
    below = λ place c. ⊎_elim
        (λ old. let before = so_far.below place old in omega arith)
        (λ new. ⊎_elim (λ same. omega arith) (λ no. absurd (none_in place no)) (one_of count [] place new))
        (Contains-append_cases so_far.places (count ∷ []) place c);
    all = λ place other before at. ⊎_elim
        (λ same. Contains-append_right so_far.places (count ∷ []) place (subst (λ (p : ℕ). Contains (count ∷ []) p) (sym same) (here count [])))
        (λ apart. Contains-append_left so_far.places (count ∷ []) place (so_far.all place other (omega (arith, before, apart)) at))
        (cases_eq place count);
  }

  pub pushed : (count : ℕ) (items longer : List A) (item : A) → AreBefore IsAt count items → IsAt count item → longer ≡ items ++ item ∷ [] → AreBefore IsAt (count + 1) longer
  pushed count items longer item so_far one e = subst (AreBefore IsAt (count + 1)) (sym e) (one_more count items item so_far one)

  pub all_before : (count : ℕ) (items : List A) → AreBefore IsAt count items → ((place : ℕ) (item : A) → IsAt place item → place < count) → AreThose IsAt items
  all_before count items so_far inside = record {
    places = so_far.places;
    order = so_far.order;
    each = so_far.each;
    all = λ place item at. so_far.all place item (inside place item at) at;
  }
