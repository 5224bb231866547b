-- How many pairs a search has not gone through.
use Rattle.std.proofs.Common.{◌≡◌, ℕ, zero, suc, ◌+◌, ◌<◌, ◌≤◌, ◌⊎◌, inl, inr, ⊎_elim, ◌||◌, Bool, true, false, cond, List, [], ◌∷◌, ◌++◌, refl, sym, ap, subst, ◌∙◌, arith}
use Rattle.std.specs.List.{list_any}
use Rattle.std.specs.Str.{bytes_eq}
use Rattle.std.specs.Cmp.Lexicographic.{bytes_decides}
use Rattle.std.proofs.lemmas.Bool.{true≢false, cases_lt}
use Rattle.std.proofs.lemmas.List.Folds.{list_any-append}
use Rattle.pk_types.specs.Resolving.{Pair}
use Rattle.export_names.specs.Searching.{same_pair, left_names, unvisited}

one : (before more : List Pair) (pair : Pair) → cond (list_any (same_pair pair) (before ++ more)) 0 1 ≤ cond (list_any (same_pair pair) before) 0 1
one before more pair = subst (λ b. cond b 0 1 ≤ cond (list_any (same_pair pair) before) 0 1) (sym (list_any-append (same_pair pair) before more)) (by (list_any (same_pair pair) before) (list_any (same_pair pair) more))
  where
    by : (a b : Bool) → cond (a || b) 0 1 ≤ cond a 0 1
    by true b = omega arith
    by false true = omega arith
    by false false = omega arith

one_less : (before : List Pair) (pair : Pair) → same_pair pair pair ≡ true → list_any (same_pair pair) before ≡ false → cond (list_any (same_pair pair) (before ++ pair ∷ [])) 0 1 < cond (list_any (same_pair pair) before) 0 1
one_less before pair same new =
    let now : list_any (same_pair pair) (before ++ pair ∷ []) ≡ true = list_any-append (same_pair pair) before (pair ∷ []) ∙ ap (λ b. b || (same_pair pair pair || false)) new ∙ ap (λ b. b || false) same in
    let then_zero : ◌≡◌ {A = ℕ} (cond (list_any (same_pair pair) (before ++ pair ∷ [])) 0 1) 0 = ap (λ b. cond b 0 1) now in
    let was_one : ◌≡◌ {A = ℕ} (cond (list_any (same_pair pair) before) 0 1) 1 = ap (λ b. cond b 0 1) new in
    omega (arith, then_zero, was_one)

names_no_more : (before more : List Pair) (number : ℕ) (names : List (List ℕ)) → left_names (before ++ more) number names ≤ left_names before number names
names_no_more before more number [] = omega arith
names_no_more before more number (name ∷ names) = omega (arith, one before more (number, name), names_no_more before more number names)

pub no_more : (before more : List Pair) (count : ℕ) (names : List (List ℕ)) → unvisited (before ++ more) count names ≤ unvisited before count names
no_more before more zero names = omega arith
no_more before more (suc number) names = omega (arith, names_no_more before more number names, no_more before more number names)

names_fewer : (before : List Pair) (number : ℕ) (name : List ℕ) (names : List (List ℕ)) → same_pair (number, name) (number, name) ≡ true → list_any (same_pair (number, name)) before ≡ false
    → list_any (bytes_eq name) names ≡ true → left_names (before ++ (number, name) ∷ []) number names < left_names before number names
names_fewer before number name [] same new within = absurd (true≢false (sym within))
names_fewer before number name (x ∷ names) same new within = by (names_fewer before number name names same new) (bytes_eq name x) refl
  where
    by : (list_any (bytes_eq name) names ≡ true → left_names (before ++ (number, name) ∷ []) number names < left_names before number names) → (b : Bool) → bytes_eq name x ≡ b
        → cond (list_any (same_pair (number, x)) (before ++ (number, name) ∷ [])) 0 1 + left_names (before ++ (number, name) ∷ []) number names < cond (list_any (same_pair (number, x)) before) 0 1 + left_names before number names
    by rest true e =
        let here : cond (list_any (same_pair (number, x)) (before ++ (number, name) ∷ [])) 0 1 < cond (list_any (same_pair (number, x)) before) 0 1 =
        subst (λ n. cond (list_any (same_pair (number, n)) (before ++ (number, name) ∷ [])) 0 1 < cond (list_any (same_pair (number, n)) before) 0 1) ((bytes_decides name x).0 e) (one_less before (number, name) same new) in
        omega (arith, here, names_no_more before ((number, name) ∷ []) number names)
    by rest false e =
        let further : left_names (before ++ (number, name) ∷ []) number names < left_names before number names = rest (sym (ap (λ b. b || list_any (bytes_eq name) names) e) ∙ within) in
        omega (arith, further, one before ((number, name) ∷ []) (number, x))

-- a pair that a search may come to, and has now gone through
pub fewer : (before : List Pair) (number : ℕ) (name : List ℕ) (names : List (List ℕ)) (count : ℕ) → same_pair (number, name) (number, name) ≡ true → list_any (same_pair (number, name)) before ≡ false
    → list_any (bytes_eq name) names ≡ true → number < count → unvisited (before ++ (number, name) ∷ []) count names < unvisited before count names
fewer before number name names zero same new within h = absurd (omega arith)
fewer before number name names (suc count) same new within h = ⊎_elim (λ k. earlier (fewer before number name names count same new within k)) last (split number count h)
  where
    split : (n c : ℕ) → n < suc c → (n < c) ⊎ (n ≡ c)
    split n c k = ⊎_elim (λ h. inl h) (λ h. inr (omega (arith, h, k))) (cases_lt n c)

    earlier : unvisited (before ++ (number, name) ∷ []) count names < unvisited before count names → left_names (before ++ (number, name) ∷ []) count names + unvisited (before ++ (number, name) ∷ []) count names < left_names before count names + unvisited before count names
    earlier k = omega (arith, k, names_no_more before ((number, name) ∷ []) count names)

    last : number ≡ count → left_names (before ++ (number, name) ∷ []) count names + unvisited (before ++ (number, name) ∷ []) count names < left_names before count names + unvisited before count names
    last e =
        let here : left_names (before ++ (number, name) ∷ []) count names < left_names before count names =
        subst (λ n. left_names (before ++ (number, name) ∷ []) n names < left_names before n names) e (names_fewer before number name names same new within) in
        omega (arith, here, no_more before ((number, name) ∷ []) count names)
