-- A number is that of one name.
use Rattle.std.proofs.Common.{◌≡◌, ℕ, suc, ◌+◌, ◌<◌, length, get_or, Bool, true, false, cond, List, [], ◌∷◌, Some, refl, sym, ap, ◌∙◌, arith}
use Rattle.std.specs.List.{position_from}
use Rattle.std.specs.Str.{bytes_eq}
use Rattle.std.specs.Cmp.Lexicographic.{bytes_decides}
use Rattle.std.proofs.lemmas.Option.{none-some, same_Some}
use Rattle.std.proofs.lemmas.Iterator.Adapters.{position_from-zero}
use Rattle.pk_text.specs.Places.{place_of}

-- a place that is found is at or behind the start
place_behind : (names : List (List ℕ)) (name : List ℕ) (start place : ℕ) → position_from (bytes_eq name) start names ≡ Some place → (k : ℕ) × (place ≡ start + k)
place_behind [] name start place e = absurd (none-some place e)
place_behind (first ∷ names) name start place e = by (λ f. place_behind names name (start + 1) place f) (bytes_eq name first) refl
  where
    by : (position_from (bytes_eq name) (start + 1) names ≡ Some place → (k : ℕ) × (place ≡ start + 1 + k)) → (b : Bool) → bytes_eq name first ≡ b → (k : ℕ) × (place ≡ start + k)
    by rest true f = (0, same_Some place start (sym e ∙ ap (λ b. cond b (Some start) (position_from (bytes_eq name) (start + 1) names)) f) ∙ omega arith)
    by rest false f =
        let k = rest (sym (ap (λ b. cond b (Some start) (position_from (bytes_eq name) (start + 1) names)) f) ∙ e) in
        (1 + k.0, omega (arith, k.1))

one_from : (names : List (List ℕ)) (name other : List ℕ) (start place : ℕ) → position_from (bytes_eq name) start names ≡ Some place
    → position_from (bytes_eq other) start names ≡ Some place → name ≡ other
one_from [] name other start place e f = absurd (none-some place e)
one_from (first ∷ names) name other start place e f = by (one_from names name other (start + 1) place) (bytes_eq name first) (bytes_eq other first) refl refl
  where
    later : (one : List ℕ) → bytes_eq one first ≡ false → position_from (bytes_eq one) start (first ∷ names) ≡ Some place → position_from (bytes_eq one) (start + 1) names ≡ Some place
    later one g h = sym (ap (λ b. cond b (Some start) (position_from (bytes_eq one) (start + 1) names)) g) ∙ h

    here : (one : List ℕ) → bytes_eq one first ≡ true → position_from (bytes_eq one) start (first ∷ names) ≡ Some place → place ≡ start
    here one g h = same_Some place start (sym h ∙ ap (λ b. cond b (Some start) (position_from (bytes_eq one) (start + 1) names)) g)

    apart : (one two : List ℕ) → bytes_eq one first ≡ true → bytes_eq two first ≡ false → position_from (bytes_eq one) start (first ∷ names) ≡ Some place
        → position_from (bytes_eq two) start (first ∷ names) ≡ Some place → ⊥
    apart one two g h x y =
        let k = place_behind names two (start + 1) place (later two h y) in
        let at = here one g x in
        omega (arith, k.1, at)

    by : (position_from (bytes_eq name) (start + 1) names ≡ Some place → position_from (bytes_eq other) (start + 1) names ≡ Some place → name ≡ other)
        → (b d : Bool) → bytes_eq name first ≡ b → bytes_eq other first ≡ d → name ≡ other
    by rest true true g h = (bytes_decides name first).0 g ∙ sym ((bytes_decides other first).0 h)
    by rest true false g h = absurd (apart name other g h e f)
    by rest false true g h = absurd (apart other name h g f e)
    by rest false false g h = rest (later name g e) (later other h f)

pub one_name : (names : List (List ℕ)) (name other : List ℕ) (place : ℕ) → place_of names name ≡ Some place → place_of names other ≡ Some place → name ≡ other
one_name names name other place e f =
    one_from names name other 0 place (sym (position_from-zero (bytes_eq name) names) ∙ e) (sym (position_from-zero (bytes_eq other) names) ∙ f)

within_from : (names : List (List ℕ)) (name : List ℕ) (start place : ℕ) → position_from (bytes_eq name) start names ≡ Some place → place < start + length names
within_from [] name start place e = absurd (none-some place e)
within_from (first ∷ names) name start place e = by (λ f. within_from names name (start + 1) place f) (bytes_eq name first) refl
  where
    by : (position_from (bytes_eq name) (start + 1) names ≡ Some place → place < start + 1 + length names) → (b : Bool) → bytes_eq name first ≡ b
        → place < start + length (first ∷ names)
    by rest true f = omega (arith, same_Some place start (sym e ∙ ap (λ b. cond b (Some start) (position_from (bytes_eq name) (start + 1) names)) f))
    by rest false f = omega (arith, rest (sym (ap (λ b. cond b (Some start) (position_from (bytes_eq name) (start + 1) names)) f) ∙ e))

-- a number is a place among the names
pub number_within : (names : List (List ℕ)) (name : List ℕ) (place : ℕ) → place_of names name ≡ Some place → place < length names
number_within names name place e = omega (arith, within_from names name 0 place (sym (position_from-zero (bytes_eq name) names) ∙ e))

name_from : (names : List (List ℕ)) (name : List ℕ) (start place : ℕ) → position_from (bytes_eq name) start names ≡ Some place
    → (k : ℕ) × (place ≡ start + k) × (get_or names k [] ≡ name)
name_from [] name start place e = absurd (none-some place e)
name_from (first ∷ names) name start place e = by (λ f. name_from names name (start + 1) place f) (bytes_eq name first) refl
  where
    by : (position_from (bytes_eq name) (start + 1) names ≡ Some place → (k : ℕ) × (place ≡ start + 1 + k) × (get_or names k [] ≡ name))
        → (b : Bool) → bytes_eq name first ≡ b → (k : ℕ) × (place ≡ start + k) × (get_or (first ∷ names) k [] ≡ name)
    by rest true f = (
      0,
      same_Some place start (sym e ∙ ap (λ b. cond b (Some start) (position_from (bytes_eq name) (start + 1) names)) f) ∙ omega arith,
      sym ((bytes_decides name first).0 f),
    )
    by rest false f =
        let k = rest (sym (ap (λ b. cond b (Some start) (position_from (bytes_eq name) (start + 1) names)) f) ∙ e) in
        (suc k.0, omega (arith, k.1), k.2)

-- at its number stands the name
pub name_at : (names : List (List ℕ)) (name : List ℕ) (place : ℕ) → place_of names name ≡ Some place → get_or names place [] ≡ name
name_at names name place e =
    let k = name_from names name 0 place (sym (position_from-zero (bytes_eq name) names) ∙ e) in
    let same : place ≡ k.0 = omega (arith, k.1) in
    ap (λ n. get_or names n []) same ∙ k.2
