-- Lists of what is found at places, and the first place that passes a test.
use Rattle.std.proofs.Common.{◌≡◌, ◌<◌, ◌≤◌, ◌+◌, ◌⊎◌, ⊎_elim, ℕ, zero, suc, Bool, true, false, List, [], ◌∷◌, ◌++◌, Option, Some, None, is_some, AllPairs, length, get_or, option_to_list, refl, sym, ap, subst, ◌∙◌, arith, add-one, true≢false}
use Rattle.std.specs.List.{AllZip, Contains}
use Rattle.std.proofs.lemmas.Bool.{both_ways, cases_lt}
use Rattle.std.proofs.lemmas.List.{append-nil}
use Rattle.std.proofs.lemmas.List.Quantifiers.{all_pairs_push}
use Rattle.std.proofs.lemmas.List.Elements.{Contains-append_cases, Contains-append_left, Contains-append_right}
use Rattle.pk_types.proofs.ListMembers.{here, one_of, none_in}
use Rattle.es_scope.specs.Listed.{AreThose}
use Rattle.es_exports.specs.Exported.{IsFirstPlace}
use Rattle.es_exports.specs.Passing.{those, IsFirstOf}

zip_more : {A B : Type 0} (R : A → B → Type 0) (xs : List A) (ys : List B) (x : A) (y : B) → AllZip R xs ys → R x y → AllZip R (xs ++ x ∷ []) (ys ++ y ∷ [])
zip_more R [] [] x y h r = (r, tt)
zip_more R [] (z ∷ ys) x y h r = absurd h
zip_more R (z ∷ xs) [] x y h r = absurd h
zip_more R (z ∷ xs) (w ∷ ys) x y h r = (h.0, zip_more R xs ys x y h.1 r)

here_or_earlier : (place limit : ℕ) → place < suc limit → (place < limit) ⊎ (limit ≡ place)
here_or_earlier place limit h = grind arith

-- ---- from place to place

pub no_those : {A : Type 0} (found_at : ℕ → Option A) (items : List A) → items ≡ [] → items ≡ those found_at 0
unfolding those
no_those found_at items none = none

pub more_those : {A : Type 0} (found_at : ℕ → Option A) (place : ℕ) (found : Option A) (old new : List A) → old ≡ those found_at place → found ≡ found_at place
    → new ≡ old ++ option_to_list found → new ≡ those found_at (place + 1)
unfolding those
more_those {A = A} found_at place found old new so_far is pushed =
    pushed ∙ ap (λ (l : List A). l ++ option_to_list found) so_far ∙ ap (λ (o : Option A). those found_at place ++ option_to_list o) is
    ∙ ap (those found_at) (sym (add-one place))

pub all_those : {A : Type 0} (found_at : ℕ → Option A) (limit place : ℕ) (items : List A) → limit ≤ place → place ≤ limit → items ≡ those found_at place
    → items ≡ those found_at limit
all_those found_at limit place items most least so_far = so_far ∙ ap (those found_at) (let same : place ≡ limit = omega arith in same)

module _ {A : Type 0} (IsAt : ℕ → A → Type 0) (found_at : ℕ → Option A) (there : (place : ℕ) (item : A) → found_at place ≡ Some item → IsAt place item) where
  record AreBefore (limit : ℕ) (items : List A) : Type 0 where
    places : List ℕ
    order : AllPairs (λ place other. place < other) places
    within : (place : ℕ) → Contains places place → place < limit
    each : AllZip IsAt places items
    all : (place : ℕ) → place < limit → is_some (found_at place) ≡ true → Contains places place

  none_before : AreBefore 0 []
  none_before = record {
    places = [];
    order = λ i j d before inside. absurd (omega arith);
    within = λ place c. absurd (none_in place c);
    each = tt;
    all = λ place before e. absurd (omega arith);
  }

  one_before : (limit : ℕ) (items : List A) (item : A) → found_at limit ≡ Some item → AreBefore limit items → AreBefore (suc limit) (items ++ item ∷ [])
  one_before limit items item e so_far = record {
    places = so_far.places ++ limit ∷ [];
    order = all_pairs_push (λ place other. place < other) so_far.places limit so_far.order
        (λ k d inside. so_far.within (get_or so_far.places k d) (k, inside, same_get so_far.places k d inside));
    within = λ place c. ⊎_elim
        (λ old. let before = so_far.within place old in omega arith)
        (λ last. ⊎_elim (λ same. omega arith) (λ none. absurd (none_in place none)) (one_of limit [] place last))
        (Contains-append_cases so_far.places (limit ∷ []) place c);
    each = zip_more IsAt so_far.places items limit item so_far.each (there limit item e);
    all = λ place before some. ⊎_elim
        (λ earlier. Contains-append_left so_far.places (limit ∷ []) place (so_far.all place earlier some))
        (λ same. subst (λ p. Contains (so_far.places ++ limit ∷ []) p) same (Contains-append_right so_far.places (limit ∷ []) limit (here limit [])))
        (here_or_earlier place limit before);
  }
    where
      same_get : (xs : List ℕ) (k d : ℕ) → k < length xs → get_or xs k (get_or xs k d) ≡ get_or xs k d
      same_get [] k d inside = absurd (omega arith)
      same_get (x ∷ xs) zero d inside = refl
      same_get (x ∷ xs) (suc k) d inside = same_get xs k d (omega arith)

  no_more_before : (limit : ℕ) (items : List A) → found_at limit ≡ None → AreBefore limit items → AreBefore (suc limit) items
  no_more_before limit items e so_far = record {
    places = so_far.places;
    order = so_far.order;
    within = λ place c. let before = so_far.within place c in omega arith;
    each = so_far.each;
    all = λ place before some. ⊎_elim
        (λ earlier. so_far.all place earlier some)
        (λ same. absurd (true≢false (sym some ∙ ap (λ (o : Option A). is_some o) (ap found_at (sym same) ∙ e))))
        (here_or_earlier place limit before);
  }

  more_before : (limit : ℕ) (items : List A) (found : Option A) → found_at limit ≡ found → AreBefore limit items
      → AreBefore (suc limit) (items ++ option_to_list found)
  more_before limit items None e so_far = subst (AreBefore (suc limit)) (sym (append-nil items)) (no_more_before limit items e so_far)
  more_before limit items (Some item) e so_far = one_before limit items item e so_far

  are_before : (limit : ℕ) → AreBefore limit (those found_at limit)
  unfolding those
  are_before zero = none_before
  are_before (suc limit) = more_before limit (those found_at limit) (found_at limit) refl (are_before limit)

  -- the items are those at places, where nothing stands at the limit or behind it
  pub are_those : (limit : ℕ) (items : List A) → ((place : ℕ) (item : A) → IsAt place item → (place < limit) × (is_some (found_at place) ≡ true))
      → items ≡ those found_at limit → AreThose IsAt items
  are_those limit items all e =
      let so_far = are_before limit in
      subst (AreThose IsAt) (sym e) (record {
        places = so_far.places;
        order = so_far.order;
        each = so_far.each;
        all = λ place item h. let found = all place item h in so_far.all place found.0 found.1;
      })

-- ---- the first place

module _ (passes : ℕ → Bool) where
  pub none_earlier : (other : ℕ) → other < 0 → passes other ≡ false
  none_earlier other before = absurd (omega arith)

  pub one_earlier : (place : ℕ) (b : Bool) → b ≡ passes place → b ≡ false → ((other : ℕ) → other < place → passes other ≡ false)
      → (other : ℕ) → other < place + 1 → passes other ≡ false
  one_earlier place b is e so_far other before = ⊎_elim
      (λ earlier. so_far other earlier)
      (λ same. ap passes (sym same) ∙ (sym is ∙ e))
      (here_or_earlier other place (let less : other < suc place = omega arith in less))

  pub first_here : (limit place : ℕ) (b : Bool) → b ≡ passes place → b ≡ true → place < limit → ((other : ℕ) → other < place → passes other ≡ false)
      → IsFirstOf passes limit (Some place)
  first_here limit place b is e inside so_far = IsFirstOf.some place inside (sym is ∙ e) so_far

  pub first_none : (limit place : ℕ) → limit ≤ place → ((other : ℕ) → other < place → passes other ≡ false) → IsFirstOf passes limit None
  first_none limit place most so_far = IsFirstOf.none (λ other before. so_far other (omega arith))

pub first_place : (IsSo : ℕ → Type 0) (passes : ℕ → Bool) (limit : ℕ) (found : Option ℕ) → ((place : ℕ) → passes place ≡ true → IsSo place)
    → ((place : ℕ) → IsSo place → (place < limit) × (passes place ≡ true)) → IsFirstOf passes limit found → IsFirstPlace IsSo found
first_place IsSo passes limit _ so is (IsFirstOf.none none) =
    IsFirstPlace.none (λ place h. let passed = is place h in both_ways (passes place) (none place passed.0) passed.1)
first_place IsSo passes limit _ so is (IsFirstOf.some place inside e before) = IsFirstPlace.some place (so place e) (λ other h. ⊎_elim
    (λ earlier. absurd (both_ways (passes other) (before other earlier) (is other h).1))
    (λ later. later)
    (cases_lt other place))
