-- Lists of what stands at places: what all items are, that they differ, and how many they are.
use Rattle.std.proofs.Common.{◌≡◌, ℕ, zero, suc, ◌<◌, ◌≤◌, Bool, false, List, [], ◌∷◌, Some, length, map, get_or, slice_get, refl, ap, subst, ◌∙◌, arith}
use Rattle.std.specs.List.{All, AllZip, Contains, IsDistinct}
use Rattle.std.specs.Option.{option_map}
use Rattle.std.proofs.lemmas.List.{length-map}
use Rattle.std.proofs.lemmas.Map.Keys.{IsDistinct-from_apart}
use Rattle.std.proofs.lemmas.Option.{slice_get_within, slice_get-get_or, slice_get-map, get_or_from_slice_get}
use Rattle.pk_types.proofs.Members.{Contains-at, at-Contains, element_at, as_long}
use Rattle.es_scope.specs.Listed.{AreThose}
use Rattle.es_asks.proofs.Firsts.{zipped_at}

-- lists side by side are as long
as_many : {A B : Type 0} (Q : A → B → Type 0) (xs : List A) (ys : List B) → AllZip Q xs ys → length ys ≡ length xs
as_many Q [] [] zipped = refl
as_many Q [] (y ∷ ys) zipped = absurd zipped
as_many Q (x ∷ xs) [] zipped = absurd zipped
as_many Q (x ∷ xs) (y ∷ ys) zipped = ap suc (as_many Q xs ys zipped.1)

module _ {A : Type 0} (IsAt : ℕ → A → Type 0) (items : List A) (those : AreThose IsAt items) where
  -- the item at an index stands at the place of this index
  pub item_place : (k : ℕ) (item : A) → slice_get items k ≡ Some item → (place : ℕ) × (slice_get those.places k ≡ Some place) × IsAt place item
  item_place k item e = zipped_at IsAt those.places items k item those.each e

  -- later items stand at later places
  pub later : (k m place other : ℕ) → k < m → slice_get those.places k ≡ Some place → slice_get those.places m ≡ Some other → place < other
  later k m place other less e f =
      let inside = slice_get_within those.places m other f in
      let one = get_or_from_slice_get those.places k place 0 e in
      let two = get_or_from_slice_get those.places m other 0 f in
      let rises = those.order k m 0 less inside in
      omega arith

  -- what is so of an item at a place is so of all
  pub all_items : (Q : A → Type 0) → ((place : ℕ) (item : A) → IsAt place item → Q item) → All Q items
  all_items Q so k d inside =
      let at = item_place k (get_or items k d) (slice_get-get_or items k d inside) in
      so at.0 (get_or items k d) at.2

  -- where none stands at a place there is none
  pub no_items : ((place : ℕ) (item : A) → ¬ IsAt place item) → items ≡ []
  no_items none = by items refl
    where
      by : (l : List A) → items ≡ l → items ≡ []
      by [] e = e
      by (item ∷ rest) e = let at = item_place 0 item (ap (λ (l : List A). slice_get l 0) e) in absurd (none at.0 item at.2)

  -- an item whose place has no other is in the list
  pub item_there : (place : ℕ) (item : A) → IsAt place item → ((other : A) → IsAt place other → other ≡ item) → Contains items item
  item_there place item h one =
      let c = those.all place item h in
      let at = at-Contains those.places place c in
      let found = as_long those.places items c.0 place at (as_many IsAt those.places items those.each) in
      let stands = item_place c.0 found.0 found.1 in
      let same : stands.0 ≡ place = omega (arith, get_or_from_slice_get those.places c.0 place 0 at, get_or_from_slice_get those.places c.0 stands.0 0 stands.1) in
      let is = one found.0 (subst (λ p. IsAt p found.0) same stands.2) in
      Contains-at items c.0 item (found.1 ∙ ap Some is)

  -- two items, the later one at the later place
  two_items : (i j : ℕ) (d : A) → i < j → j < length items
      → (place : ℕ) × (other : ℕ) × (place < other) × IsAt place (get_or items i d) × IsAt other (get_or items j d)
  two_items i j d less inside =
      let one = item_place i (get_or items i d) (slice_get-get_or items i d (omega arith)) in
      let two = item_place j (get_or items j d) (slice_get-get_or items j d inside) in
      (one.0, two.0, later i j one.0 two.0 less one.1 two.1, one.2, two.2)

  -- items that differ at different places
  pub items_differ : (same : A → A → Bool)
      → ((place other : ℕ) (item further : A) → place < other → IsAt place item → IsAt other further → same item further ≡ false) → IsDistinct same items
  items_differ same unlike = IsDistinct-from_apart same items (λ i j d less inside.
      let two = two_items i j d less inside in
      unlike two.0 two.1 (get_or items i d) (get_or items j d) two.2 two.3 two.4)

  -- and the same of their names
  pub names_differ : (name : A → List ℕ) (same : List ℕ → List ℕ → Bool)
      → ((place other : ℕ) (item further : A) → place < other → IsAt place item → IsAt other further → same (name item) (name further) ≡ false)
      → IsDistinct same (map name items)
  names_differ name same unlike = IsDistinct-from_apart same (map name items) apart
    where
      named : (k : ℕ) (item : A) (d : List ℕ) → slice_get items k ≡ Some item → get_or (map name items) k d ≡ name item
      named k item d e = get_or_from_slice_get (map name items) k (name item) d (slice_get-map name items k ∙ ap (option_map name) e)

      apart : (i j : ℕ) (d : List ℕ) → i < j → j < length (map name items) → same (get_or (map name items) i d) (get_or (map name items) j d) ≡ false
      apart i j d less inside =
          let within : j < length items = subst (λ n. j < n) (length-map items name) inside in
          let one = element_at items i (omega arith) in
          let two = element_at items j within in
          let first = item_place i one.0 one.1 in
          let second = item_place j two.0 two.1 in
          ap (λ (n : List ℕ). same n (get_or (map name items) j d)) (named i one.0 d one.1)
          ∙ ap (λ (n : List ℕ). same (name one.0) n) (named j two.0 d two.1)
          ∙ unlike first.0 second.0 one.0 two.0 (later i j first.0 second.0 less first.1 second.1) first.2 second.2

  rising : (k place : ℕ) → slice_get those.places k ≡ Some place → k ≤ place
  rising zero place e = omega arith
  rising (suc k) place e =
      let before = element_at those.places k (omega (arith, slice_get_within those.places (suc k) place e)) in
      let least = rising k before.0 before.1 in
      let less = later k (suc k) before.0 place (omega arith) before.1 e in
      omega arith

  -- no more items than places
  pub few_items : (limit : ℕ) → ((place : ℕ) (item : A) → IsAt place item → place < limit) → length items ≤ limit
  few_items limit within = by (length items) refl
    where
      by : (n : ℕ) → length items ≡ n → length items ≤ limit
      by zero e = omega arith
      by (suc n) e =
          let last = element_at items n (omega arith) in
          let at = item_place n last.0 last.1 in
          let least = rising n at.0 at.1 in
          let below = within at.0 last.0 at.2 in
          omega arith
