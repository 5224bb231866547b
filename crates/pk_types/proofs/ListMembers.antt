-- Membership in lists, by recursion.
use Rattle.std.proofs.Common.{◌≡◌, ◌≢◌, ◌⊎◌, ℕ, zero, suc, ◌+◌, ◌-◌, ◌<◌, ◌≤◌, ◌&&◌, ◌||◌, Bool, true, false, cond, List, [], ◌∷◌, ◌++◌, length, map, refl, sym, ap, subst, ◌∙◌, arith, inl, inr, ⊎_elim, true≢false, not, nat_eq, nat_lt, filter, take, slice_index_or}
use Rattle.std.specs.List.{Contains, list_any, range_with_len, IsDistinct, AllByRecursion}
use Rattle.std.proofs.lemmas.Map.Views.{list_any-from_Contains, Contains-from_any, exact_unsigned_eq}
use Rattle.std.proofs.lemmas.Bool.{cases_eq, cases_Bool, eq-eqb, lt-ltb}
use Rattle.std.proofs.lemmas.List.Elements.{Contains-append_cases}
use Rattle.std.proofs.lemmas.Cmp.{nat_eq_equiv}
use Rattle.std.proofs.lemmas.List.FromFn.{length-range_with_len, get_or-range_with_len}
use Rattle.std.proofs.lemmas.Map.Keys.{IsDistinct-cons, IsDistinct-tail, IsDistinct-head}
use Rattle.pk_types.specs.Numbers.{has}

pub here : {X : Type 0} (x : X) (xs : List X) → Contains (x ∷ xs) x
here x xs = (0, omega arith, refl)

pub there : {X : Type 0} (x : X) (xs : List X) (y : X) → Contains xs y → Contains (x ∷ xs) y
there x xs y (k, inside, at) = (suc k, omega arith, at)

pub one_of : {X : Type 0} (x : X) (xs : List X) (y : X) → Contains (x ∷ xs) y → (x ≡ y) ⊎ Contains xs y
one_of x xs y (zero, inside, at) = inl at
one_of x xs y (suc k, inside, at) = inr (k, omega arith, at)

pub none_in : {X : Type 0} (y : X) → Contains [] y → ⊥
none_in y (k, inside, at) = omega arith

pub same_or_not : (number other : ℕ) → (number ≡ other) ⊎ (number ≢ other)
same_or_not number other = cases_eq number other

-- a filter keeps just the elements that pass
filtered_one : {X : Type 0} (test : X → Bool) (y : X) (xs kept : List X) (x : X) (b : Bool) → test y ≡ b → test x ≡ true → (Contains xs x → Contains kept x)
    → (y ≡ x) ⊎ Contains xs x → Contains (cond b (y ∷ kept) kept) x
filtered_one test y xs kept x true e passes rest (inl same) = subst (λ z. Contains (z ∷ kept) x) (sym same) (here x kept)
filtered_one test y xs kept x true e passes rest (inr c) = there y kept x (rest c)
filtered_one test y xs kept x false e passes rest (inl same) = absurd (true≢false (sym passes ∙ (ap test (sym same) ∙ e)))
filtered_one test y xs kept x false e passes rest (inr c) = rest c

pub filtered : {X : Type 0} (test : X → Bool) (xs : List X) (x : X) → Contains xs x → test x ≡ true → Contains (filter test xs) x
filtered test [] x c passes = absurd (none_in x c)
filtered test (y ∷ xs) x c passes = filtered_one test y xs (filter test xs) x (test y) refl passes (λ d. filtered test xs x d passes) (one_of y xs x c)

unfiltered_one : {X : Type 0} (test : X → Bool) (y : X) (xs kept : List X) (x : X) (b : Bool) → test y ≡ b → (Contains kept x → Contains xs x × (test x ≡ true))
    → Contains (cond b (y ∷ kept) kept) x → Contains (y ∷ xs) x × (test x ≡ true)
unfiltered_one test y xs kept x true e rest c = ⊎_elim (λ same. (subst (λ z. Contains (z ∷ xs) x) (sym same) (here x xs), ap test (sym same) ∙ e))
    (λ d. (there y xs x (rest d).0, (rest d).1)) (one_of y kept x c)
unfiltered_one test y xs kept x false e rest c = (there y xs x (rest c).0, (rest c).1)

pub unfiltered : {X : Type 0} (test : X → Bool) (xs : List X) (x : X) → Contains (filter test xs) x → Contains xs x × (test x ≡ true)
unfiltered test [] x c = absurd (none_in x c)
unfiltered test (y ∷ xs) x c = unfiltered_one test y xs (filter test xs) x (test y) refl (unfiltered test xs x) c

-- what `has` tells
pub has-true : (numbers : List ℕ) (number : ℕ) → Contains numbers number → has numbers number ≡ true
has-true numbers number c = list_any-from_Contains nat_eq_equiv number numbers c

pub true-has : (numbers : List ℕ) (number : ℕ) → has numbers number ≡ true → Contains numbers number
true-has numbers number e = Contains-from_any exact_unsigned_eq number numbers e

-- the numbers of a range
pub in_range : (from count number : ℕ) → from ≤ number → number < from + count → Contains (range_with_len from count) number
in_range from count number low high =
    let long = length-range_with_len from count in
    let inside : number - from < count = omega arith in
    (number - from, omega arith, get_or-range_with_len from count (number - from) number inside ∙ omega arith)

pub range_of : (from count number : ℕ) → Contains (range_with_len from count) number → (from ≤ number) × (number < from + count)
range_of from count number (k, inside, at) =
    let long = length-range_with_len from count in
    let within : k < count = omega arith in
    let is = get_or-range_with_len from count k number within in
    (omega arith, omega arith)

-- a list made by a function of its elements
pub mapped : {X Y : Type 0} (f : X → Y) (xs : List X) (x : X) → Contains xs x → Contains (map f xs) (f x)
mapped f [] x c = absurd (none_in x c)
mapped f (y ∷ xs) x c = ⊎_elim (λ same. subst (λ z. Contains (f z ∷ map f xs) (f x)) (sym same) (here (f x) (map f xs))) (λ d. there (f y) (map f xs) (f x) (mapped f xs x d)) (one_of y xs x c)

pub unmapped : {X Y : Type 0} (f : X → Y) (xs : List X) (y : Y) → Contains (map f xs) y → (x : X) × Contains xs x × (f x ≡ y)
unmapped f [] y c = absurd (none_in y c)
unmapped f (x ∷ xs) y c = ⊎_elim (λ same. (x, here x xs, same)) (λ d. let found = unmapped f xs y d in (found.0, there x xs found.0 found.1, found.2)) (one_of (f x) (map f xs) y c)

-- some element passes a test
pub or_first : (b rest : Bool) → b ≡ true → (b || rest) ≡ true
or_first true rest e = refl
or_first false rest e = absurd (true≢false (sym e))

pub or_second : (b rest : Bool) → rest ≡ true → (b || rest) ≡ true
or_second true rest e = refl
or_second false rest e = e

pub or_one : (b rest : Bool) → (b || rest) ≡ true → (b ≡ true) ⊎ (rest ≡ true)
or_one true rest e = inl refl
or_one false rest e = inr e

pub any_true : {X : Type 0} (test : X → Bool) (xs : List X) (x : X) → Contains xs x → test x ≡ true → list_any test xs ≡ true
any_true test [] x c passes = absurd (none_in x c)
any_true test (y ∷ xs) x c passes = ⊎_elim (λ same. or_first (test y) (list_any test xs) (ap test same ∙ passes))
    (λ d. or_second (test y) (list_any test xs) (any_true test xs x d passes)) (one_of y xs x c)

pub true-any : {X : Type 0} (test : X → Bool) (xs : List X) → list_any test xs ≡ true → (x : X) × Contains xs x × (test x ≡ true)
true-any test [] e = absurd (true≢false (sym e))
true-any test (y ∷ xs) e = ⊎_elim (λ first. (y, here y xs, first))
    (λ rest. let found = true-any test xs rest in (found.0, there y xs found.0 found.1, found.2)) (or_one (test y) (list_any test xs) e)

-- a list without doubles
unlike : (x : ℕ) (xs : List ℕ) → ¬ Contains xs x → AllByRecursion (λ y. nat_eq x y ≡ false) xs
unlike x [] none = tt
unlike x (y ∷ xs) none = (
  ⊎_elim (λ same. absurd (none (subst (λ z. Contains (y ∷ xs) z) (sym (exact_unsigned_eq x y same)) (here y xs)))) (λ differs. differs) (cases_Bool (nat_eq x y)),
  unlike x xs (λ c. none (there y xs x c)),
)

liked : (x : ℕ) (xs : List ℕ) → AllByRecursion (λ y. nat_eq x y ≡ false) xs → ¬ Contains xs x
liked x [] all c = none_in x c
liked x (y ∷ xs) all c = ⊎_elim (λ same. true≢false (sym (eq-eqb x y (sym same)) ∙ all.0)) (λ d. liked x xs all.1 d) (one_of y xs x c)

pub distinct_nil : IsDistinct nat_eq []
unfolding IsDistinct
distinct_nil = tt

pub distinct_cons : (x : ℕ) (xs : List ℕ) → ¬ Contains xs x → IsDistinct nat_eq xs → IsDistinct nat_eq (x ∷ xs)
distinct_cons x xs none distinct = IsDistinct-cons nat_eq x xs (unlike x xs none) distinct

pub distinct_append : (xs ys : List ℕ) → IsDistinct nat_eq xs → IsDistinct nat_eq ys → ((n : ℕ) → Contains xs n → ¬ Contains ys n) → IsDistinct nat_eq (xs ++ ys)
distinct_append [] ys one other apart = other
distinct_append (x ∷ xs) ys one other apart = distinct_cons x (xs ++ ys)
    (λ c. ⊎_elim (λ l. liked x xs (IsDistinct-head nat_eq x xs one) l) (λ r. apart x (here x xs) r) (Contains-append_cases xs ys x c))
    (distinct_append xs ys (IsDistinct-tail nat_eq x xs one) other (λ n c. apart n (there x xs n c)))

-- an item stands in the part of the list that reaches beyond its place
pub within_take : {X : Type 0} (xs : List X) (place count : ℕ) (d : X) → place < count → count ≤ length xs → Contains (take count xs) (slice_index_or xs place d)
within_take [] place count d before short = absurd (omega arith)
within_take (x ∷ xs) place zero d before short = absurd (omega arith)
within_take (x ∷ xs) zero (suc count) d before short = here x (take count xs)
within_take (x ∷ xs) (suc place) (suc count) d before short = there x (take count xs) (slice_index_or xs place d) (within_take xs place count d (omega arith) (omega arith))

-- a list with an item has items
pub has_some : {X : Type 0} (xs : List X) (x : X) → Contains xs x → nat_lt 0 (length xs) ≡ true
has_some xs x (k, inside, at) = lt-ltb 0 (length xs) (omega arith)

pub some_of : {X : Type 0} (xs : List X) → 0 < length xs → (x : X) × Contains xs x
some_of [] some = absurd (omega arith)
some_of (x ∷ xs) some = (x, here x xs)

pub both : (b c : Bool) → b ≡ true → c ≡ true → (b && c) ≡ true
both true c e f = f
both false c e f = e

pub first_so : (b c : Bool) → (b && c) ≡ true → b ≡ true
first_so true c e = refl
first_so false c e = e

pub second_so : (b c : Bool) → (b && c) ≡ true → c ≡ true
second_so true c e = e
second_so false c e = absurd (true≢false (sym e))

pub not_so : (b : Bool) → not b ≡ true → b ≡ false
not_so true e = absurd (true≢false (sym e))
not_so false e = refl

pub so_not : (b : Bool) → b ≡ false → not b ≡ true
so_not true e = absurd (true≢false e)
so_not false e = refl

-- a number stands in a list, or it doesn't
pub in_or_not : (numbers : List ℕ) (number : ℕ) → Contains numbers number ⊎ (¬ Contains numbers number)
in_or_not numbers number = ⊎_elim (λ yes. inl (true-has numbers number yes)) (λ no. inr (λ c. true≢false (sym (has-true numbers number c) ∙ no))) (cases_Bool (has numbers number))

pub absent : (numbers : List ℕ) (number : ℕ) → ¬ Contains numbers number → has numbers number ≡ false
absent numbers number none = ⊎_elim (λ yes. absurd (none (true-has numbers number yes))) (λ no. no) (cases_Bool (has numbers number))

-- rows of a list of lists
pub in_row : {X : Type 0} (rows : List (List X)) (place : ℕ) (x : X) → Contains (slice_index_or rows place []) x → place < length rows
in_row [] place x c = absurd (none_in x c)
in_row (row ∷ rows) zero x c = omega arith
in_row (row ∷ rows) (suc place) x c = let rest = in_row rows place x c in omega arith

pub of_mapped_row : {X Y : Type 0} (f : List X → List Y) (rows : List (List X)) (place : ℕ) (y : Y) → Contains (slice_index_or (map f rows) place []) y → Contains (f (slice_index_or rows place [])) y
of_mapped_row f [] place y c = absurd (none_in y c)
of_mapped_row f (row ∷ rows) zero y c = c
of_mapped_row f (row ∷ rows) (suc place) y c = of_mapped_row f rows place y c

pub in_mapped_row : {X Y : Type 0} (f : List X → List Y) (rows : List (List X)) (place : ℕ) (y : Y) → place < length rows → Contains (f (slice_index_or rows place [])) y → Contains (slice_index_or (map f rows) place []) y
in_mapped_row f [] place y inside c = absurd (omega arith)
in_mapped_row f (row ∷ rows) zero y inside c = c
in_mapped_row f (row ∷ rows) (suc place) y inside c = in_mapped_row f rows place y (omega arith) c
