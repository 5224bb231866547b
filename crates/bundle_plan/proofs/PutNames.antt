-- Lists of names that are put in their places, from the last one on.
use Rattle.std.proofs.Common.{◌≡◌, ◌≢◌, ◌+◌, ◌-◌, ◌<◌, ◌≤◌, ℕ, suc, List, [], ◌∷◌, ◌++◌, ◌==◌, slice_index, length, get_or, set, map, refl, sym, ap, ap₂, subst, ◌∙◌, ⊎_elim, arith, Contains, length-append}
use Rattle.std.specs.List.{range_with_len}
use Rattle.std.specs.List.Sorted.{IsStrictlyIncreasing}
use Rattle.std.proofs.lemmas.Bool.{cases_eq, eqb-true}
use Rattle.std.proofs.lemmas.List.{get_or-set_same, get_or-set_other, get_or_append_left, get_or-append_right, length-set, length-map}
use Rattle.std.proofs.lemmas.List.Elements.{Contains-get_or}
use Rattle.std.proofs.lemmas.List.Kept.{AllPairs-from_increasing, IsStrictlyIncreasing-filter}
use Rattle.pk_types.proofs.ListMembers.{here, there, unfiltered}
use Rattle.pk_types.specs.declared.graph.Graph.{Graph}
use Rattle.pk_types.specs.GivenNames.{own_names, GivesNames}
use Rattle.pk_types.specs.HoistSets.{set_of}
use Rattle.pk_text.proofs.Ranges.{range_rises}

-- Of these lists the last ones were put where their modules stand, and the first ones are left.
pub record ArePut (members : List ℕ) (first given now left : List (List (List ℕ))) : Type 0 where
  pub long : length now ≡ length first
  pub rest : (k : ℕ) → k < length left → get_or left k [] ≡ get_or given k []
  pub few : length left ≤ length members
  pub put : (k : ℕ) → length left ≤ k → k < length members → get_or now (get_or members k 0) [] ≡ get_or given k []
  pub others : (n : ℕ) → ¬ Contains members n → get_or now n [] ≡ get_or first n []

-- the modules of a later place differ
pub later_differs : (xs : List ℕ) → IsStrictlyIncreasing xs → (i j : ℕ) → i < j → j < length xs → get_or xs j 0 ≢ get_or xs i 0
later_differs xs up i j less h e = omega (arith, AllPairs-from_increasing xs up i j 0 less h, e)

pub none_put : (members : List ℕ) (first given : List (List (List ℕ))) → length given ≡ length members → ArePut members first given first given
none_put members first given each = record {
  long = refl;
  rest = λ k h. refl;
  few = omega (arith, each);
  put = λ k low h. absurd (omega (arith, each, low, h));
  others = λ n out. refl;
}

pub one_put : (members : List ℕ) (first given now left rest : List (List (List ℕ))) (list : List (List ℕ)) → IsStrictlyIncreasing members
    → ((k : ℕ) → k < length members → get_or members k 0 < length first) → left ≡ rest ++ list ∷ [] → ArePut members first given now left
    → ArePut members first given (set now (get_or members (length rest) 0) list) rest
one_put members first given now left rest list up within is are = record {
  long = length-set now member list ∙ are.long;
  rest = λ k h. sym (get_or_append_left rest (list ∷ []) [] k h) ∙ ap (λ l. get_or l k []) (sym is) ∙ are.rest k (omega (arith, h, long));
  few = omega (arith, are.few, long);
  put = λ k low h. ⊎_elim (λ e. here_put k e) (λ ne. get_or-set_other now member (get_or members k 0) list [] (later_differs members up (length rest) k (omega (arith, low, ne)) h)
      ∙ are.put k (omega (arith, low, ne, long)) h) (cases_eq k (length rest));
  others = λ n out. get_or-set_other now member n list [] (λ e. out (subst (Contains members) (sym e) (Contains-get_or members (length rest) 0 inside))) ∙ are.others n out;
}
  where
    member : ℕ
    member = get_or members (length rest) 0

    long : length left ≡ length rest + 1
    long = ap length is ∙ length-append rest (list ∷ [])

    inside : length rest < length members
    inside = omega (arith, are.few, long)

    last : get_or left (length rest) [] ≡ list
    last = ap (λ l. get_or l (length rest) []) is ∙ get_or-append_right rest (list ∷ []) (length rest) (length rest) [] refl (omega arith)
        ∙ ap (λ k. get_or (list ∷ []) k []) (none (length rest))
      where
        none : (n : ℕ) → n - n ≡ 0
        none n = omega arith

    here_put : (k : ℕ) → k ≡ length rest → get_or (set now (get_or members (length rest) 0) list) (get_or members k 0) [] ≡ get_or given k []
    here_put k e = ap (λ j. get_or (set now (get_or members (length rest) 0) list) (get_or members j 0) []) e
        ∙ get_or-set_same now (get_or members (length rest) 0) list [] (omega (arith, within (length rest) inside, are.long))
        ∙ sym last ∙ are.rest (length rest) (omega (arith, long)) ∙ ap (λ j. get_or given j []) (sym e)

-- ---- names at the modules of sets

-- what stands at each place is the list
pub read_back : {X : Type 0} (members : List ℕ) (given : List X) (f : ℕ → X) (d : X) → length given ≡ length members
    → ((k : ℕ) → k < length members → f (get_or members k 0) ≡ get_or given k d) → map f members ≡ given
read_back [] [] f d e h = refl
read_back [] (x ∷ given) f d e h = absurd (omega (arith, e))
read_back (m ∷ members) [] f d e h = absurd (omega (arith, e))
read_back (m ∷ members) (x ∷ given) f d e h = ap₂ (λ y l. y ∷ l) (h 0 (omega arith)) (read_back members given f d (omega (arith, e)) (λ k below. h (suc k) (omega (arith, below))))

-- two that agree at each module
pub maps_agree : {X : Type 0} (members : List ℕ) (f g : ℕ → X) → ((m : ℕ) → Contains members m → f m ≡ g m) → map f members ≡ map g members
maps_agree [] f g same = refl
maps_agree (m ∷ members) f g same = ap₂ (λ y l. y ∷ l) (same m (here m members)) (maps_agree members f g (λ n c. same n (there m members n c)))

root_of : (roots : List ℕ) (root m : ℕ) → Contains (set_of roots root) m → slice_index roots m ≡ root
root_of roots root m c = eqb-true (slice_index roots m) root (unfiltered (λ k. slice_index roots k == root) (range_with_len 0 (length roots)) m c).1

-- the members of a set stand by number
pub set_rises : (roots : List ℕ) (root : ℕ) → IsStrictlyIncreasing (set_of roots root)
set_rises roots root = IsStrictlyIncreasing-filter (λ k. slice_index roots k == root) (range_with_len 0 (length roots)) (range_rises (length roots))

-- there are as many lists as modules
pub as_many : (graph : Graph) (members : List ℕ) (given : List (List (List ℕ))) → GivesNames graph members given → length given ≡ length members
as_many graph members given gives = sym (length-map given (λ names. length names)) ∙ ap length gives.counts ∙ length-map members (λ member. length (own_names graph member))

-- where the names of one more set were put
pub names_more : (graph : Graph) (roots : List ℕ) (index : ℕ) (old now given : List (List (List ℕ))) → GivesNames graph (set_of roots index) given
    → ((k : ℕ) → k < length (set_of roots index) → get_or now (get_or (set_of roots index) k 0) [] ≡ get_or given k [])
    → ((n : ℕ) → ¬ Contains (set_of roots index) n → get_or now n [] ≡ get_or old n [])
    → ((root : ℕ) → root < index → GivesNames graph (set_of roots root) (map (λ m. get_or old m []) (set_of roots root)))
    → (root : ℕ) → root < index + 1 → GivesNames graph (set_of roots root) (map (λ m. get_or now m []) (set_of roots root))
names_more graph roots index old now given gives put others so_far root below = ⊎_elim same other (cases_eq root index)
  where
    same : root ≡ index → GivesNames graph (set_of roots root) (map (λ m. get_or now m []) (set_of roots root))
    same e = subst (λ r. GivesNames graph (set_of roots r) (map (λ m. get_or now m []) (set_of roots r))) (sym e)
        (subst (GivesNames graph (set_of roots index)) (sym (read_back (set_of roots index) given (λ m. get_or now m []) [] (as_many graph (set_of roots index) given gives) put)) gives)

    other : root ≢ index → GivesNames graph (set_of roots root) (map (λ m. get_or now m []) (set_of roots root))
    other ne = subst (GivesNames graph (set_of roots root))
        (maps_agree (set_of roots root) (λ m. get_or old m []) (λ m. get_or now m [])
        (λ m c. sym (others m (λ d. ne (sym (root_of roots root m c) ∙ root_of roots index m d)))))
        (so_far root (omega (arith, below, ne)))
