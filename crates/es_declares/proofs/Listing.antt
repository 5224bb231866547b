-- Lists of what stands at places, filled from place to place.
use Rattle.std.proofs.Common.{◌≡◌, ◌<◌, ◌≤◌, ◌+◌, ◌⊎◌, ⊎_elim, ℕ, zero, suc, List, [], ◌∷◌, ◌++◌, Option, Some, None, AllPairs, length, get_or, slice_get, refl, sym, subst, arith}
use Rattle.std.specs.List.{AllZip, Contains}
use Rattle.std.specs.Prelude.{IsSomeAnd}
use Rattle.std.proofs.lemmas.List.{length_push}
use Rattle.std.proofs.lemmas.List.Quantifiers.{all_pairs_push}
use Rattle.std.proofs.lemmas.List.Elements.{Contains-append_cases, Contains-append_left, Contains-append_right}
use Rattle.pk_types.proofs.ListMembers.{here, one_of, none_in}
use Rattle.pk_types.proofs.Members.{at_left, at_right}
use Rattle.es_scope.specs.Listed.{AreThose}

zip_more : {A B : Type 0} (R : A → B → Type 0) (xs : List A) (ys : List B) (x : A) (y : B) → AllZip R xs ys → R x y → AllZip R (xs ++ x ∷ []) (ys ++ y ∷ [])
zip_more R [] [] x y h r = (r, tt)
zip_more R [] (z ∷ ys) x y h r = absurd h
zip_more R (z ∷ xs) [] x y h r = absurd h
zip_more R (z ∷ xs) (w ∷ ys) x y h r = (h.0, zip_more R xs ys x y h.1 r)

zip_so : {A B : Type 0} (R S : A → B → Type 0) → ((x : A) (y : B) → R x y → S x y) → (xs : List A) (ys : List B) → AllZip R xs ys → AllZip S xs ys
zip_so R S more [] [] h = tt
zip_so R S more [] (y ∷ ys) h = absurd h
zip_so R S more (x ∷ xs) [] h = absurd h
zip_so R S more (x ∷ xs) (y ∷ ys) h = (more x y h.0, zip_so R S more xs ys h.1)

-- lists of what is the same by another name
pub those_so : {A : Type 0} (IsAt WasAt : ℕ → A → Type 0) → ((place : ℕ) (item : A) → WasAt place item → IsAt place item) → ((place : ℕ) (item : A) → IsAt place item → WasAt place item)
    → (items : List A) → AreThose WasAt items → AreThose IsAt items
those_so IsAt WasAt more less items those = record {
  places = those.places;
  order = those.order;
  each = zip_so WasAt IsAt more those.places items those.each;
  all = λ place item h. those.all place item (less place item h);
}

before_or_at : (place limit : ℕ) → place < limit + 1 → (place < limit) ⊎ (limit ≡ place)
before_or_at place limit h = grind arith

same_get : (xs : List ℕ) (k d : ℕ) → k < length xs → get_or xs k (get_or xs k d) ≡ get_or xs k d
same_get [] k d inside = absurd (omega arith)
same_get (x ∷ xs) zero d inside = refl
same_get (x ∷ xs) (suc k) d inside = same_get xs k d (omega arith)

-- the items are those at places before the limit
pub record AreThoseTo {A : Type 0} (IsAt : ℕ → A → Type 0) (limit : ℕ) (items : List A) : Type 0 where
  pub places : List ℕ
  pub order : AllPairs (λ place other. place < other) places
  pub within : (place : ℕ) → Contains places place → place < limit
  pub each : AllZip IsAt places items
  pub all : (place : ℕ) (item : A) → place < limit → IsAt place item → Contains places place
  pub few : length items ≤ limit

module _ {A : Type 0} (IsAt : ℕ → A → Type 0) where
  pub no_item : AreThoseTo IsAt 0 []
  no_item = record {
    places = [];
    order = λ i j d before inside. absurd (omega arith);
    within = λ place c. absurd (none_in place c);
    each = tt;
    all = λ place item before h. absurd (omega arith);
    few = omega arith;
  }

  pub one_item : (limit : ℕ) (items : List A) (item : A) → IsAt limit item → AreThoseTo IsAt limit items → AreThoseTo IsAt (limit + 1) (items ++ item ∷ [])
  one_item limit items item is so_far = record {
    places = so_far.places ++ limit ∷ [];
    order = all_pairs_push (λ place other. place < other) so_far.places limit so_far.order
        (λ k d inside. so_far.within (get_or so_far.places k d) (k, inside, same_get so_far.places k d inside));
    within = λ place c. ⊎_elim
        (λ old. let before = so_far.within place old in omega arith)
        (λ last. ⊎_elim (λ same. omega arith) (λ none. absurd (none_in place none)) (one_of limit [] place last))
        (Contains-append_cases so_far.places (limit ∷ []) place c);
    each = zip_more IsAt so_far.places items limit item so_far.each is;
    all = λ place other before h. ⊎_elim
        (λ earlier. Contains-append_left so_far.places (limit ∷ []) place (so_far.all place other earlier h))
        (λ same. subst (λ p. Contains (so_far.places ++ limit ∷ []) p) same (Contains-append_right so_far.places (limit ∷ []) limit (here limit [])))
        (before_or_at place limit before);
    few = let one = length_push items item in let fewer = so_far.few in omega arith;
  }

  pub no_more : (limit : ℕ) (items : List A) → ((item : A) → ¬ IsAt limit item) → AreThoseTo IsAt limit items → AreThoseTo IsAt (limit + 1) items
  no_more limit items never so_far = record {
    places = so_far.places;
    order = so_far.order;
    within = λ place c. let before = so_far.within place c in omega arith;
    each = so_far.each;
    all = λ place item before h. ⊎_elim
        (λ earlier. so_far.all place item earlier h)
        (λ same. absurd (never item (subst (λ p. IsAt p item) (sym same) h)))
        (before_or_at place limit before);
    few = let fewer = so_far.few in omega arith;
  }

  pub all_items : (limit count : ℕ) (items : List A) → ((place : ℕ) (item : A) → IsAt place item → place < count) → count ≤ limit → AreThoseTo IsAt limit items → AreThose IsAt items
  all_items limit count items inside most so_far = record {
    places = so_far.places;
    order = so_far.order;
    each = so_far.each;
    all = λ place item h. so_far.all place item (let within = inside place item h in omega arith) h;
  }

-- an item of a list, when one more is put at its end
pub still_there : {A : Type 0} (P : A → Type 0) (items : List A) (item : A) (number : ℕ) → IsSomeAnd (slice_get items number) P → IsSomeAnd (slice_get (items ++ item ∷ []) number) P
still_there {A = A} P items item number h = by (slice_get items number) refl h
  where
    by : (found : Option A) → slice_get items number ≡ found → IsSomeAnd found P → IsSomeAnd (slice_get (items ++ item ∷ []) number) P
    by None e h = absurd h
    by (Some other) e h = subst (λ (found : Option A). IsSomeAnd found P) (sym (at_left items (item ∷ []) number other e)) h

pub last_there : {A : Type 0} (P : A → Type 0) (items : List A) (item : A) → P item → IsSomeAnd (slice_get (items ++ item ∷ []) (length items)) P
last_there {A = A} P items item p =
    let start : 0 + length items ≡ length items = omega arith in
    let at : slice_get (items ++ item ∷ []) (length items) ≡ Some item = subst (λ n. slice_get (items ++ item ∷ []) n ≡ Some item) start (at_right items (item ∷ []) 0 item refl) in
    subst (λ (found : Option A). IsSomeAnd found P) (sym at) p
