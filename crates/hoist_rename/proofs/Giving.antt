-- Names that are given one after another.
use Rattle.std.proofs.Common.{◌≡◌, ℕ, zero, suc, ◌+◌, ◌-◌, ◌<◌, ◌≤◌, List, [], ◌∷◌, ◌++◌, length, map, flat_map, take, get_or, ap₂, refl, sym, ap, subst, ◌∙◌, arith, ⊎_elim, length-append, append_assoc}
use Rattle.std.specs.List.{Contains}
use Rattle.std.proofs.lemmas.Bool.{cases_lt}
use Rattle.std.proofs.lemmas.List.{get_or_append_left, get_or-append_right, take-append-le, append-nil, take_more, map-append}
use Rattle.std.proofs.lemmas.List.Elements.{Contains-append_left, Contains-append_right, Contains-append_cases}
use Rattle.std.proofs.lemmas.Grind.{flat_map-append}
use Rattle.pk_types.specs.declared.graph.Graph.{Graph}
use Rattle.pk_types.specs.GivenNames.{own_names, numbered_name, IsGivenFor, unchanged, renamed, GivesInOrder}
use Rattle.hoist_rename.specs.Kept.{IsNext, HaveSame}

-- only which names are taken matters
pub given_same : (taken other : List (List ℕ)) (name given : List ℕ) → HaveSame taken other → IsGivenFor taken name given → IsGivenFor other name given
given_same taken other name given same (unchanged free) = unchanged (λ c. free ((same name).1 c))
given_same taken other name given same (renamed number needed above free first) =
    renamed number ((same name).0 needed) above (λ c. free ((same (numbered_name name number)).1 c)) (λ fewer low high. (same (numbered_name name fewer)).0 (first fewer low high))

-- a taken name gives way to the next free one
pub given_next : (taken : List (List ℕ)) (name : List ℕ) (number : ℕ) (text : List ℕ) → Contains taken name → IsNext taken name number text → IsGivenFor taken name text
given_next taken name number text needed next =
    subst (IsGivenFor taken name) (sym next.text_is) (renamed number needed next.above (λ c. next.free (subst (Contains taken) (sym next.text_is) c)) next.first)

both_same : (avoided others given : List (List ℕ)) → HaveSame avoided others → HaveSame (avoided ++ given) (others ++ given)
both_same avoided others given same = λ name. (
  λ c. ⊎_elim (λ l. Contains-append_left others given name ((same name).0 l)) (λ r. Contains-append_right others given name r) (Contains-append_cases avoided given name c),
  λ c. ⊎_elim (λ l. Contains-append_left avoided given name ((same name).1 l)) (λ r. Contains-append_right avoided given name r) (Contains-append_cases others given name c),
)

pub gives_same : (avoided others names given : List (List ℕ)) → HaveSame avoided others → GivesInOrder avoided names given → GivesInOrder others names given
gives_same avoided others names given same gives = record {
  each = gives.each;
  next = λ place inside. given_same (avoided ++ take place given) (others ++ take place given) (get_or names place []) (get_or given place [])
      (both_same avoided others (take place given) same) (gives.next place inside);
}

pub gives_none : (avoided : List (List ℕ)) → GivesInOrder avoided [] []
gives_none avoided = record { each = refl; next = λ place inside. absurd (omega arith) }

-- a name more
pub gives_one : (avoided : List (List ℕ)) (name given : List ℕ) → IsGivenFor avoided name given → GivesInOrder avoided (name ∷ []) (given ∷ [])
gives_one avoided name given is = record {
  each = refl;
  next = λ place inside.
      let here : 0 ≡ place = omega arith in
      subst (λ k. IsGivenFor (avoided ++ take k (given ∷ [])) (get_or (name ∷ []) k []) (get_or (given ∷ []) k [])) here
      (subst (λ taken. IsGivenFor taken name given) (sym (append-nil avoided)) is);
}

take_behind : (xs ys : List (List ℕ)) (n : ℕ) → length xs ≤ n → take n (xs ++ ys) ≡ xs ++ take (n - length xs) ys
take_behind [] ys n h = let e : n ≡ n - 0 = omega arith in ap (λ m. take m ys) e
take_behind (x ∷ xs) ys zero h = absurd (omega arith)
take_behind (x ∷ xs) ys (suc n) h =
    let e : n - length xs ≡ suc n - suc (length xs) = omega arith in
    ap (λ l. x ∷ l) (take_behind xs ys n (omega arith) ∙ ap (λ m. xs ++ take m ys) e)

-- names behind others
pub gives_more : (avoided names given more others : List (List ℕ)) → GivesInOrder avoided names given → GivesInOrder (avoided ++ given) more others
    → GivesInOrder avoided (names ++ more) (given ++ others)
gives_more avoided names given more others one two = record {
  each = omega (arith, one.each, two.each, length-append names more, length-append given others);
  next = λ place inside. ⊎_elim (λ before. early place before) (λ after. late place after (omega (arith, length-append names more))) (cases_lt place (length names));
}
  where
    early : (place : ℕ) → place < length names → IsGivenFor (avoided ++ take place (given ++ others)) (get_or (names ++ more) place []) (get_or (given ++ others) place [])
    early place before = subst (λ l. IsGivenFor (avoided ++ l) (get_or (names ++ more) place []) (get_or (given ++ others) place []))
        (sym (take-append-le place given others (omega (arith, one.each))))
        (subst (λ name. IsGivenFor (avoided ++ take place given) name (get_or (given ++ others) place [])) (sym (get_or_append_left names more [] place before))
        (subst (IsGivenFor (avoided ++ take place given) (get_or names place [])) (sym (get_or_append_left given others [] place (omega (arith, one.each)))) (one.next place before)))

    late : (place : ℕ) → length names ≤ place → place < length names + length more
        → IsGivenFor (avoided ++ take place (given ++ others)) (get_or (names ++ more) place []) (get_or (given ++ others) place [])
    late place after inside =
        let given_at : get_or (given ++ others) place [] ≡ get_or others (place - length names) [] = get_or-append_right given others (length names) place [] one.each after in
        let name_at : get_or (names ++ more) place [] ≡ get_or more (place - length names) [] = get_or-append_right names more (length names) place [] refl after in
        let taken : avoided ++ take place (given ++ others) ≡ (avoided ++ given) ++ take (place - length names) others =
        ap (λ l. avoided ++ l) (take_behind given others place (omega (arith, one.each)) ∙ ap (λ n. given ++ take (place - n) others) one.each) ∙ sym (append_assoc avoided given (take (place - length names) others)) in
        subst (λ l. IsGivenFor l (get_or (names ++ more) place []) (get_or (given ++ others) place [])) (sym taken)
        (subst (λ name. IsGivenFor ((avoided ++ given) ++ take (place - length names) others) name (get_or (given ++ others) place [])) (sym name_at)
        (subst (IsGivenFor ((avoided ++ given) ++ take (place - length names) others) (get_or more (place - length names) [])) (sym given_at) (two.next (place - length names) (omega arith))))

-- ---- lists of names, member by member

pub flat_push : {X A : Type 0} (f : X → List A) (xs : List X) (x : X) → flat_map f (xs ++ x ∷ []) ≡ flat_map f xs ++ f x
flat_push f xs x = flat_map-append f xs (x ∷ []) ∙ ap (λ l. flat_map f xs ++ l) (append-nil (f x))

pub flat_more : {X A : Type 0} (f : X → List A) (xs : List X) (place : ℕ) (d : X) → place < length xs
    → flat_map f (take (place + 1) xs) ≡ flat_map f (take place xs) ++ f (get_or xs place d)
flat_more f xs place d inside = ap (flat_map f) (take_more xs place d inside) ∙ flat_push f (take place xs) (get_or xs place d)

module _ (graph : Graph) (members : List ℕ) (place : ℕ) (inside : place < length members) (first keys next : List (List ℕ)) (lists : List (List (List ℕ))) (given : List (List ℕ)) where
  pub counts_more : map (λ list. length list) lists ≡ map (λ member. length (own_names graph member)) (take place members) → length given ≡ length (own_names graph (get_or members place 0))
      → map (λ list. length list) (lists ++ given ∷ []) ≡ map (λ member. length (own_names graph member)) (take (place + 1) members)
  counts_more counts count = map-append (λ (list : List (List ℕ)). length list) lists (given ∷ [])
      ∙ ap₂ (λ l n. l ++ n ∷ []) counts count
      ∙ sym (ap (map (λ member. length (own_names graph member))) (take_more members place 0 inside) ∙ map-append (λ member. length (own_names graph member)) (take place members) (get_or members place 0 ∷ []))

  pub names_more : GivesInOrder first (flat_map (own_names graph) (take place members)) (flat_map (λ list. list) lists) → keys ≡ first ++ flat_map (λ list. list) lists
      → GivesInOrder keys (own_names graph (get_or members place 0)) given
      → GivesInOrder first (flat_map (own_names graph) (take (place + 1) members)) (flat_map (λ list. list) (lists ++ given ∷ []))
  names_more gives is more =
      subst (λ names. GivesInOrder first names (flat_map (λ list. list) (lists ++ given ∷ []))) (sym (flat_more (own_names graph) members place 0 inside))
      (subst (GivesInOrder first (flat_map (own_names graph) (take place members) ++ own_names graph (get_or members place 0))) (sym (flat_push (λ (list : List (List ℕ)). list) lists given))
      (gives_more first (flat_map (own_names graph) (take place members)) (flat_map (λ list. list) lists) (own_names graph (get_or members place 0)) given gives
      (subst (λ taken. GivesInOrder taken (own_names graph (get_or members place 0)) given) is more)))

  pub keys_more : keys ≡ first ++ flat_map (λ list. list) lists → next ≡ keys ++ given → next ≡ first ++ flat_map (λ list. list) (lists ++ given ∷ [])
  keys_more is more = more ∙ ap (λ l. l ++ given) is ∙ append_assoc first (flat_map (λ list. list) lists) given ∙ ap (λ l. first ++ l) (sym (flat_push (λ (list : List (List ℕ)). list) lists given))
