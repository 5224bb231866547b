-- A search along edges: the modules that were met so far, and those of them whose edges were gone through.
use Rattle.std.proofs.Common.{◌≡◌, ◌↔◌, ℕ, suc, ◌+◌, ◌<◌, ◌≤◌, ◌⊎◌, inl, inr, ⊎_elim, Bool, true, false, cond, nat_eq, List, [], ◌∷◌, ◌++◌, length, get_or, refl, sym, ap, subst, ◌∙◌, arith}
use Rattle.std.specs.List.{All, Contains, IsDistinct, list_any}
use Rattle.std.proofs.lemmas.Bool.{cases_eq}
use Rattle.std.proofs.lemmas.List.{append-nil, append_assoc, length-append, get_or_append_left, get_or_default}
use Rattle.std.proofs.lemmas.List.Elements.{All-get_or, All-contains, Contains-get_or, Contains-append_left, Contains-append_cases, Contains-push_cases}
use Rattle.std.proofs.lemmas.Map.Steps.{length-le_from_distinct_below}
use Rattle.std.proofs.lemmas.Map.Views.{Contains-from_any, exact_unsigned_eq}
use Rattle.indexmap.specs.IndexSet.{insert_key, insert_all}
use Rattle.indexmap.proofs.CallerLemmas.{Contains-insert_key}
use Rattle.edge_search.specs.Reached.{IsReached}
use Rattle.edge_search.specs.Reached.IsReached.{itself, along}

-- ---- what is inserted goes behind what was there

one_grows : (known : List ℕ) (number : ℕ) → (more : List ℕ) × (insert_key nat_eq known number ≡ known ++ more)
one_grows known number = by (list_any (nat_eq number) known) refl
  where
    by : (b : Bool) → list_any (nat_eq number) known ≡ b → (more : List ℕ) × (insert_key nat_eq known number ≡ known ++ more)
    by true e = ([], ap (λ t. cond t known (known ++ number ∷ [])) e ∙ sym (append-nil known))
    by false e = (number ∷ [], ap (λ t. cond t known (known ++ number ∷ [])) e)

grows : (numbers known : List ℕ) → (more : List ℕ) × (insert_all nat_eq known numbers ≡ known ++ more)
grows [] known = ([], sym (append-nil known))
grows (number ∷ numbers) known =
    let here = one_grows known number in
    let rest = grows numbers (insert_key nat_eq known number) in
    (here.0 ++ rest.0, rest.1 ∙ ap (λ l. l ++ rest.0) here.1 ∙ append_assoc known here.0 rest.0)

stays : (numbers known : List ℕ) (number : ℕ) → Contains known number → Contains (insert_all nat_eq known numbers) number
stays numbers known number there = let g = grows numbers known in subst (λ l. Contains l number) (sym g.1) (Contains-append_left known g.0 number there)

only : (x y : ℕ) → Contains (x ∷ []) y → x ≡ y
only x y there = ⊎_elim (λ none. absurd (omega (arith, none.1))) (λ e. e) (Contains-push_cases [] x y there)

inserted : (numbers known : List ℕ) (number : ℕ) → Contains numbers number → Contains (insert_all nat_eq known numbers) number
inserted [] known number there = absurd (omega (arith, there.1))
inserted (first ∷ numbers) known number there = ⊎_elim
    (λ here. stays numbers (insert_key nat_eq known first) number (subst (λ n. Contains (insert_key nat_eq known first) n) (only first number here) (Contains-insert_key nat_eq exact_unsigned_eq known first)))
    (λ behind. inserted numbers (insert_key nat_eq known first) number behind)
    (Contains-append_cases (first ∷ []) numbers number there)

one_came : (known : List ℕ) (first number : ℕ) → Contains (insert_key nat_eq known first) number → Contains known number ⊎ (first ≡ number)
one_came known first number = by (list_any (nat_eq first) known) refl
  where
    by : (b : Bool) → list_any (nat_eq first) known ≡ b → Contains (insert_key nat_eq known first) number → Contains known number ⊎ (first ≡ number)
    by true e there = inl (subst (λ l. Contains l number) (ap (λ t. cond t known (known ++ first ∷ [])) e) there)
    by false e there = Contains-push_cases known first number (subst (λ l. Contains l number) (ap (λ t. cond t known (known ++ first ∷ [])) e) there)

came : (numbers known : List ℕ) (number : ℕ) → Contains (insert_all nat_eq known numbers) number → Contains known number ⊎ Contains numbers number
came [] known number there = inl there
came (first ∷ numbers) known number there = ⊎_elim
    (λ one. ⊎_elim (λ old. inl old) (λ e. inr (subst (λ n. Contains (first ∷ numbers) n) e (0, omega arith, refl))) (one_came known first number one))
    (λ behind. inr (Contains-behind behind))
    (came numbers (insert_key nat_eq known first) number there)
  where
    Contains-behind : Contains numbers number → Contains (first ∷ numbers) number
    Contains-behind at = (suc at.0, omega (arith, at.1), at.2)

-- ---- the search

pub record IsSearch (edges : List (List ℕ)) (from : ℕ) (known : List ℕ) (place : ℕ) : Type 0 where
  pub first : Contains known from
  pub sound : (number : ℕ) → Contains known number → IsReached edges from number
  pub closed : (k target : ℕ) → k < place → Contains (get_or edges (get_or known k 0) []) target → Contains known target
  pub within : place ≤ length known

pub begins : (edges : List (List ℕ)) (from : ℕ) → IsSearch edges from (from ∷ []) 0
begins edges from = record {
  first = (0, omega arith, refl);
  sound = λ number there. subst (IsReached edges from) (only from number there) itself;
  closed = λ k target h there. absurd (omega arith);
  within = omega arith;
}

pub goes_on : (edges : List (List ℕ)) (from : ℕ) (known : List ℕ) (place : ℕ) → IsSearch edges from known place → place < length known
    → IsSearch edges from (insert_all nat_eq known (get_or edges (get_or known place 0) [])) (place + 1)
goes_on edges from known place so_far at = record {
  first = stays targets known from so_far.first;
  sound = λ number there. ⊎_elim (so_far.sound number)
      (λ edge. along here number (so_far.sound here (Contains-get_or known place 0 at)) edge)
      (came targets known number there);
  closed = λ k target h edge. ⊎_elim
      (λ before. stays targets known target (so_far.closed k target before (subst (λ n. Contains (get_or edges n []) target) (same k (omega arith)) edge)))
      (λ e. inserted targets known target (subst (λ n. Contains (get_or edges n []) target) (same k (omega arith) ∙ ap (λ i. get_or known i 0) e) edge))
      (up_to k h);
  within = omega (arith, ap length (grows targets known).1, length-append known (grows targets known).0);
}
  where
    here : ℕ
    here = get_or known place 0

    targets : List ℕ
    targets = get_or edges (get_or known place 0) []

    same : (k : ℕ) → k < length known → get_or (insert_all nat_eq known (get_or edges (get_or known place 0) [])) k 0 ≡ get_or known k 0
    same k h = ap (λ l. get_or l k 0) (grows (get_or edges (get_or known place 0) []) known).1 ∙ get_or_append_left known (grows (get_or edges (get_or known place 0) []) known).0 0 k h

    up_to : (k : ℕ) → k < place + 1 → (k < place) ⊎ (k ≡ place)
    up_to k h = ⊎_elim (λ e. inr e) (λ ne. inl (omega arith)) (cases_eq k place)

-- every module that is reached was met once the edges of all were gone through
meets : (edges : List (List ℕ)) (from : ℕ) (known : List ℕ) (place : ℕ) → IsSearch edges from known place → length known ≤ place
    → (number : ℕ) → IsReached edges from number → Contains known number
meets edges from known place so_far done number itself = so_far.first
meets edges from known place so_far done other (along number target reaches edge) =
    let there = meets edges from known place so_far done number reaches in
    so_far.closed there.0 target (omega (arith, there.1)) (subst (λ n. Contains (get_or edges n []) target) (sym (get_or_default known there.0 0 number there.1 ∙ there.2)) edge)

pub ends : (edges : List (List ℕ)) (from : ℕ) (known : List ℕ) (place : ℕ) → IsSearch edges from known place → length known ≤ place
    → (number : ℕ) → Contains known number ↔ IsReached edges from number
ends edges from known place so_far done number = (so_far.sound number, meets edges from known place so_far done number)

-- ---- the numbers that the code reads

pub below : (edges : List (List ℕ)) (from : ℕ) → from < length edges → All (λ targets. All (λ target. target < length edges) targets) edges
    → (number : ℕ) → IsReached edges from number → number < length edges
below edges from first all number itself = first
below edges from first all other (along number target reaches edge) =
    All-contains (λ target. target < length edges) (get_or edges number []) target
    (All-get_or (λ targets. All (λ target. target < length edges) targets) edges number [] (below edges from first all number reaches) all) edge

pub number_within : (edges : List (List ℕ)) (from : ℕ) (known : List ℕ) (place : ℕ) → from < length edges → All (λ targets. All (λ target. target < length edges) targets) edges
    → IsSearch edges from known place → place < length known → get_or known place 0 < length edges
number_within edges from known place first all so_far at = below edges from first all (get_or known place 0) (so_far.sound (get_or known place 0) (Contains-get_or known place 0 at))

-- no more modules are met than there are
pub place_within : (edges : List (List ℕ)) (from : ℕ) (known : List ℕ) (place : ℕ) → from < length edges → All (λ targets. All (λ target. target < length edges) targets) edges
    → IsSearch edges from known place → IsDistinct nat_eq known → place < length known → place < length edges
place_within edges from known place first all so_far distinct at =
    omega (arith, length-le_from_distinct_below known (length edges) distinct (λ q h. below edges from first all q (so_far.sound q (Contains-from_any exact_unsigned_eq q known h))))

-- ---- other edges that are the same wherever the search comes

pub same_reached : (edges others : List (List ℕ)) (from : ℕ) → ((number : ℕ) → IsReached edges from number → get_or edges number [] ≡ get_or others number [])
    → (number : ℕ) → IsReached edges from number → IsReached others from number
same_reached edges others from same number itself = itself
same_reached edges others from same other (along number target reaches edge) =
    along number target (same_reached edges others from same number reaches) (subst (λ l. Contains l target) (same number reaches) edge)

pub reached_same : (edges others : List (List ℕ)) (from : ℕ) → ((number : ℕ) → IsReached edges from number → get_or edges number [] ≡ get_or others number [])
    → (number : ℕ) → IsReached others from number → IsReached edges from number
reached_same edges others from same number itself = itself
reached_same edges others from same other (along number target reaches edge) =
    let before = reached_same edges others from same number reaches in
    along number target before (subst (λ l. Contains l target) (sym (same number before)) edge)
