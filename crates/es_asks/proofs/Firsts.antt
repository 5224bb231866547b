-- Items that are at places, each once, in the order of their first places: when one place more is passed.
use Rattle.std.proofs.Common.{◌≡◌, ◌⊎◌, ⊎_elim, ◌↔◌, ℕ, zero, suc, ◌+◌, ◌<◌, ◌≤◌, List, [], ◌∷◌, ◌++◌, Some, Contains, slice_get, get_or, refl, sym, subst, arith}
use Rattle.std.specs.List.{AllZip}
use Rattle.std.proofs.lemmas.Option.{none-some, same_Some, slice_get_within, slice_get-get_or, get_or_from_slice_get}
use Rattle.std.proofs.lemmas.List.{length_push}
use Rattle.std.proofs.lemmas.List.Elements.{Contains-append_left, Contains-append_right}
use Rattle.std.proofs.lemmas.List.Quantifiers.{all_pairs_push}
use Rattle.indexmap.proofs.SetLemmas.{AllZip-push}
use Rattle.pk_types.proofs.ListMembers.{here}
use Rattle.pk_types.proofs.Members.{Contains-at, at-Contains}
use Rattle.es_scope.proofs.Placing.{one_placed}
use Rattle.es_scope.specs.Listed.{AreThose}
use Rattle.es_asks.specs.Requested.{Notes}
use Rattle.es_asks.specs.Passing.{IsFirstAt, AreFirstsTo}

-- lists side by side
pub zipped_at : {A B : Type 0} (Q : A → B → Type 0) (xs : List A) (ys : List B) (k : ℕ) (y : B) → AllZip Q xs ys → slice_get ys k ≡ Some y
    → (x : A) × (slice_get xs k ≡ Some x) × Q x y
zipped_at Q [] [] k y zipped e = absurd (none-some y e)
zipped_at Q [] (first ∷ ys) k y zipped e = absurd zipped
zipped_at Q (x ∷ xs) [] k y zipped e = absurd zipped
zipped_at Q (x ∷ xs) (first ∷ ys) zero y zipped e = (x, refl, subst (Q x) (same_Some first y e) zipped.0)
zipped_at Q (x ∷ xs) (first ∷ ys) (suc k) y zipped e = zipped_at Q xs ys k y zipped.1 e

zipped_more : {A B : Type 0} (Q R : A → B → Type 0) → ((x : A) (y : B) → Q x y → R x y) → (xs : List A) (ys : List B) → AllZip Q xs ys → AllZip R xs ys
zipped_more Q R so [] [] zipped = tt
zipped_more Q R so [] (y ∷ ys) zipped = absurd zipped
zipped_more Q R so (x ∷ xs) [] zipped = absurd zipped
zipped_more Q R so (x ∷ xs) (y ∷ ys) zipped = (so x y zipped.0, zipped_more Q R so xs ys zipped.1)

before_or_at : (a b : ℕ) → a < b + 1 → (a < b) ⊎ (a ≡ b)
before_or_at a b h = grind arith

before_or_not : (a b : ℕ) → (a < b) ⊎ (b ≤ a)
before_or_not a b = grind arith

-- the same items by other words
pub those_by : {A : Type 0} (P Q : ℕ → A → Type 0) (items : List A) → ((place : ℕ) (item : A) → P place item ↔ Q place item) → AreThose P items → AreThose Q items
those_by P Q items same those = record {
  places = those.places;
  order = those.order;
  each = zipped_more P Q (λ place item h. (same place item).0 h) those.places items those.each;
  all = λ place item h. those.all place item ((same place item).1 h);
}

module _ {A : Type 0} (IsAt : ℕ → A → Type 0) where
  pub no_firsts : (items : List A) → items ≡ [] → AreFirstsTo IsAt 0 items
  no_firsts items none = subst (AreFirstsTo IsAt 0) (sym none) (record {
    places = [];
    order = λ i j d h inside. absurd (omega arith);
    below = λ k place e. absurd (none-some place e);
    each = tt;
    all = λ place item before h. absurd (omega arith);
    few = omega arith;
  })

  -- nothing is at the place
  pub same_firsts : (limit : ℕ) (items : List A) → ((item : A) → ¬ IsAt limit item) → AreFirstsTo IsAt limit items → AreFirstsTo IsAt (limit + 1) items
  same_firsts limit items nothing so_far = record {
    places = so_far.places;
    order = so_far.order;
    below = λ k place e. let before = so_far.below k place e in omega arith;
    each = so_far.each;
    all = λ place item before h. ⊎_elim (λ below. so_far.all place item below h)
        (λ same. absurd (nothing item (subst (λ p. IsAt p item) same h))) (before_or_at place limit before);
    few = let few = so_far.few in omega arith;
  }

  module _ (limit : ℕ) (items : List A) (item : A) (so_far : AreFirstsTo IsAt limit items) (at : IsAt limit item)
      (once : (other : A) → IsAt limit other → item ≡ other) where
    all_more : (more : List A) → ((other : A) → Contains items other → Contains more other) → Contains more item
        → (place : ℕ) (other : A) → place < limit + 1 → IsAt place other → Contains more other
    all_more more kept has_it place other before h = ⊎_elim (λ below. kept other (so_far.all place other below h))
        (λ same. subst (λ (x : A). Contains more x) (once other (subst (λ p. IsAt p other) same h)) has_it) (before_or_at place limit before)

    known_firsts : Contains items item → AreFirstsTo IsAt (limit + 1) items
    known_firsts c = record {
      places = so_far.places;
      order = so_far.order;
      below = λ k place e. let before = so_far.below k place e in omega arith;
      each = so_far.each;
      all = all_more items (λ other d. d) c;
      few = let few = so_far.few in omega arith;
    }

    below_more : (k place : ℕ) → slice_get (so_far.places ++ limit ∷ []) k ≡ Some place → place < limit + 1
    below_more = one_placed (λ k place. place < limit + 1) so_far.places limit (λ k place e. let before = so_far.below k place e in omega arith) (omega arith)

    is_first : ¬ Contains items item → IsFirstAt IsAt limit item
    is_first new = record {
      at = at;
      first = λ other h. ⊎_elim (λ below. absurd (new (so_far.all other item below h))) (λ above. above) (before_or_not other limit);
    }

    fresh_firsts : ¬ Contains items item → AreFirstsTo IsAt (limit + 1) (items ++ item ∷ [])
    fresh_firsts new = record {
      places = so_far.places ++ limit ∷ [];
      order = all_pairs_push (λ place other. place < other) so_far.places limit so_far.order
          (λ k d inside. so_far.below k (get_or so_far.places k d) (slice_get-get_or so_far.places k d inside));
      below = below_more;
      each = AllZip-push (IsFirstAt IsAt) so_far.places items limit item so_far.each (is_first new);
      all = all_more (items ++ item ∷ []) (λ other c. Contains-append_left items (item ∷ []) other c) (Contains-append_right items (item ∷ []) item (here item []));
      few = let few = so_far.few in let longer = length_push items item in omega arith;
    }

    -- the item at the place is noted
    pub more_firsts : (more : List A) → Notes items item more → AreFirstsTo IsAt (limit + 1) more
    more_firsts _ (Notes.known c) = known_firsts c
    more_firsts _ (Notes.fresh new) = fresh_firsts new

  module _ (limit : ℕ) (items : List A) (firsts : AreFirstsTo IsAt limit items) where
    pub first_of : (k : ℕ) (item : A) → slice_get items k ≡ Some item → (place : ℕ) × (slice_get firsts.places k ≡ Some place) × IsFirstAt IsAt place item
    first_of k item e = zipped_at (IsFirstAt IsAt) firsts.places items k item firsts.each e

    apart : (k m place : ℕ) → slice_get firsts.places k ≡ Some place → slice_get firsts.places m ≡ Some place → ¬ (k < m)
    apart k m place e f less =
        let inside = slice_get_within firsts.places m place f in
        let one = get_or_from_slice_get firsts.places k place place e in
        let two = get_or_from_slice_get firsts.places m place place f in
        let rises = firsts.order k m place less inside in
        omega arith

    -- each item stands at one index
    pub one_index : (k m : ℕ) (item : A) → slice_get items k ≡ Some item → slice_get items m ≡ Some item → k ≡ m
    one_index k m item e f =
        let one = first_of k item e in
        let two = first_of m item f in
        let nearer = one.2.first two.0 two.2.at in
        let further = two.2.first one.0 one.2.at in
        let same : two.0 ≡ one.0 = omega arith in
        let there = subst (λ p. slice_get firsts.places m ≡ Some p) same two.1 in
        let not_less = apart k m one.0 one.1 there in
        let not_more = apart m k one.0 there one.1 in
        by k m not_less not_more
      where
        by : (a b : ℕ) → ¬ (a < b) → ¬ (b < a) → a ≡ b
        by a b h i = ⊎_elim (λ less. absurd (h less)) (λ above. ⊎_elim (λ more. absurd (i more)) (λ below. omega arith) (before_or_not b a)) (before_or_not a b)

    -- those of all places
    pub all_firsts : ((place : ℕ) (item : A) → IsAt place item → place < limit) → AreThose (IsFirstAt IsAt) items
    all_firsts within = record {
      places = firsts.places;
      order = firsts.order;
      each = firsts.each;
      all = λ place item h.
          let c = firsts.all place item (within place item h.at) h.at in
          let found = first_of c.0 item (at-Contains items item c) in
          let nearer = found.2.first place h.at in
          let further = h.first found.0 found.2.at in
          let same : found.0 ≡ place = omega arith in
          Contains-at firsts.places c.0 place (subst (λ p. slice_get firsts.places c.0 ≡ Some p) same found.1);
    }
