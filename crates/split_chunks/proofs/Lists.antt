-- Lists, and numbers of ranges that pass.
use Rattle.std.proofs.Common.{◌≡◌, ℕ, suc, ◌+◌, ◌<◌, ◌&&◌, ◌||◌, Bool, true, false, cond, List, [], ◌∷◌, ◌++◌, length, map, filter, take, get_or, refl, sym, ap, ◌∙◌, arith}
use Rattle.std.specs.List.{All, Contains, list_any, range_with_len}
use Rattle.std.proofs.lemmas.List.{append-nil, map-append, map-id, take_more}
use Rattle.std.proofs.lemmas.List.Elements.{filter-append, Contains-get_or}
use Rattle.std.proofs.lemmas.List.FromFn.{map-range_with_len_more}
use Rattle.std.proofs.lemmas.List.Folds.{list_any-append}

pub or_false : (b : Bool) → (b || false) ≡ b
or_false true = refl
or_false false = refl

pub same_so : (b c : Bool) → (b ≡ true → c ≡ true) → (c ≡ true → b ≡ true) → b ≡ c
same_so true true one other = refl
same_so true false one other = sym (one refl)
same_so false true one other = other refl
same_so false false one other = refl

pub range_more : (n : ℕ) → range_with_len 0 (n + 1) ≡ range_with_len 0 n ++ n ∷ []
range_more n = sym (map-id (range_with_len 0 (n + 1))) ∙ map-range_with_len_more (λ k. k) 0 n n (omega arith) ∙ ap (λ l. l ++ n ∷ []) (map-id (range_with_len 0 n))

pub passes_more : (test : ℕ → Bool) (n : ℕ) → test n ≡ true → filter test (range_with_len 0 (n + 1)) ≡ filter test (range_with_len 0 n) ++ n ∷ []
passes_more test n e = ap (filter test) (range_more n) ∙ filter-append test (range_with_len 0 n) (n ∷ []) ∙ ap (λ b. filter test (range_with_len 0 n) ++ cond b (n ∷ []) []) e

pub fails_more : (test : ℕ → Bool) (n : ℕ) → test n ≡ false → filter test (range_with_len 0 (n + 1)) ≡ filter test (range_with_len 0 n)
fails_more test n e = ap (filter test) (range_more n) ∙ filter-append test (range_with_len 0 n) (n ∷ []) ∙ ap (λ b. filter test (range_with_len 0 n) ++ cond b (n ∷ []) []) e ∙ append-nil (filter test (range_with_len 0 n))

pub any_more : {X : Type 0} (test : X → Bool) (xs : List X) (at : ℕ) (d : X) → at < length xs → list_any test (take (at + 1) xs) ≡ (list_any test (take at xs) || test (get_or xs at d))
any_more test xs at d inside = ap (list_any test) (take_more xs at d inside) ∙ list_any-append test (take at xs) (get_or xs at d ∷ []) ∙ ap (λ b. list_any test (take at xs) || b) (or_false (test (get_or xs at d)))

pub map_more : {X Y : Type 0} (f : X → Y) (xs : List X) (at : ℕ) (d : X) → at < length xs → map f (take (at + 1) xs) ≡ map f (take at xs) ++ f (get_or xs at d) ∷ []
map_more f xs at d inside = ap (map f) (take_more xs at d inside) ∙ map-append f (take at xs) (get_or xs at d ∷ [])

-- what passes two tests
both_pass : {X : Type 0} (x : X) (xs ys : List X) (b c : Bool) (p : X → Bool) → p x ≡ b → filter p ys ≡ xs → filter p (cond c (x ∷ ys) ys) ≡ cond (b && c) (x ∷ xs) xs
both_pass x xs ys true true p e rest = ap (λ b. cond b (x ∷ filter p ys) (filter p ys)) e ∙ ap (λ l. x ∷ l) rest
both_pass x xs ys false true p e rest = ap (λ b. cond b (x ∷ filter p ys) (filter p ys)) e ∙ rest
both_pass x xs ys true false p e rest = rest
both_pass x xs ys false false p e rest = rest

pub filter_twice : {X : Type 0} (p q : X → Bool) (xs : List X) → filter p (filter q xs) ≡ filter (λ x. p x && q x) xs
filter_twice p q [] = refl
filter_twice p q (x ∷ xs) = both_pass x (filter (λ x. p x && q x) xs) (filter q xs) (p x) (q x) p refl (filter_twice p q xs)

-- tests that agree on a list
pub filter_same : {X : Type 0} (p q : X → Bool) (xs : List X) → ((x : X) → Contains xs x → p x ≡ q x) → filter p xs ≡ filter q xs
filter_same p q [] same = refl
filter_same p q (x ∷ xs) same = ap (λ b. cond b (x ∷ filter p xs) (filter p xs)) (same x (0, omega arith, refl))
    ∙ ap (λ l. cond (q x) (x ∷ l) l) (filter_same p q xs (λ y c. same y (suc c.0, omega (arith, c.1), c.2)))

pub list_any_same : {X : Type 0} (p q : X → Bool) (xs : List X) → ((x : X) → p x ≡ q x) → list_any p xs ≡ list_any q xs
list_any_same p q [] same = refl
list_any_same p q (x ∷ xs) same = ap (λ b. b || list_any p xs) (same x) ∙ ap (λ b. q x || b) (list_any_same p q xs same)

-- all of a list
pub all_of : (P : ℕ → Type 0) (xs : List ℕ) → ((x : ℕ) → Contains xs x → P x) → All P xs
all_of P xs each = λ k d inside. each (get_or xs k d) (Contains-get_or xs k d inside)
