-- A member that comes last in an object, once repeated names are merged.
use Rattle.std.proofs.Common.{◌≡◌, ℕ, Bool, true, false, cond, not, map, List, [], ◌∷◌, ◌++◌, inl, inr, refl, sym, ap, ◌∙◌}
use Rattle.std.proofs.lemmas.Bool.{cases_Bool}
use Rattle.std.specs.Str.{bytes_eq}
use Rattle.std.specs.Cmp.Lexicographic.{bytes_decides, nat_list_eq_equiv}
use Rattle.indexmap.specs.IndexMap.{insert_entry}
use Rattle.pkg_manifest.specs.declared.value.Member.{Member}
use Rattle.pkg_manifest.specs.Members.{member, entry_member, last_value, without, merged}

same : (x y : List ℕ) → bytes_eq x y ≡ true → x ≡ y
same x y e = (bytes_decides x y).0 e

module _ {V : Type 0} where
  abbrev insert_member : List (Member V) → List ℕ → V → List (Member V)
  insert_member [] k v = member k v ∷ []
  insert_member (m ∷ ms) k v = cond (bytes_eq k m.name) (member m.name v ∷ ms) (m ∷ insert_member ms k v)

  inserted : (es : List (List ℕ × V)) (k : List ℕ) (v : V) → map entry_member (insert_entry bytes_eq es k v) ≡ insert_member (map entry_member es) k v
  inserted [] k v = refl
  inserted (e ∷ es) k v = by (bytes_eq k e.0) (inserted es k v)
    where
      by : (b : Bool) → map entry_member (insert_entry bytes_eq es k v) ≡ insert_member (map entry_member es) k v
          → map entry_member (cond b ((e.0, v) ∷ es) (e ∷ insert_entry bytes_eq es k v)) ≡ cond b (member e.0 v ∷ map entry_member es) (entry_member e ∷ insert_member (map entry_member es) k v)
      by true ih = refl
      by false ih = ap (λ l. entry_member e ∷ l) ih

  last_value-more : (n : List ℕ) (w : V) (ms : List (Member V)) (k : List ℕ) (v : V) → last_value n w (ms ++ member k v ∷ []) ≡ cond (bytes_eq n k) v (last_value n w ms)
  last_value-more n w [] k v = refl
  last_value-more n w (m ∷ ms) k v = last_value-more n (cond (bytes_eq n m.name) m.value w) ms k v

  without-step : (n : List ℕ) (m : Member V) (ms : List (Member V)) (b : Bool) → bytes_eq n m.name ≡ b → without n (m ∷ ms) ≡ cond b (without n ms) (m ∷ without n ms)
  without-step n m ms true e = ap (λ b. cond (not b) (m ∷ without n ms) (without n ms)) e
  without-step n m ms false e = ap (λ b. cond (not b) (m ∷ without n ms) (without n ms)) e

  insert-step : (m : Member V) (ms : List (Member V)) (k : List ℕ) (v : V) (b : Bool) → bytes_eq k m.name ≡ b → insert_member (m ∷ ms) k v ≡ cond b (member m.name v ∷ ms) (m ∷ insert_member ms k v)
  insert-step m ms k v b e = ap (λ b. cond b (member m.name v ∷ ms) (m ∷ insert_member ms k v)) e

  -- a member of the name that is left out
  without-same : (n : List ℕ) (ms : List (Member V)) (k : List ℕ) (v : V) → bytes_eq n k ≡ true → without n (insert_member ms k v) ≡ without n ms
  without-same n [] k v e = without-step n (member k v) [] true e
  without-same n (m ∷ ms) k v e = elim (cases_Bool (bytes_eq k m.name)) [
    | inl t ↦
        let here : bytes_eq n m.name ≡ true = ap (λ x. bytes_eq x m.name) (same n k e) ∙ t in
        ap (without n) (insert-step m ms k v true t) ∙ without-step n (member m.name v) ms true here ∙ sym (without-step n m ms true here)
    | inr f ↦
        ap (without n) (insert-step m ms k v false f)
        ∙ elim (cases_Bool (bytes_eq n m.name)) [
          | inl t ↦ without-step n m (insert_member ms k v) true t ∙ without-same n ms k v e ∙ sym (without-step n m ms true t)
          | inr g ↦ without-step n m (insert_member ms k v) false g ∙ ap (λ l. m ∷ l) (without-same n ms k v e) ∙ sym (without-step n m ms false g)
        ]
  ]

  -- a member of another name
  without-other : (n : List ℕ) (ms : List (Member V)) (k : List ℕ) (v : V) → bytes_eq n k ≡ false → without n (insert_member ms k v) ≡ insert_member (without n ms) k v
  without-other n [] k v e = without-step n (member k v) [] false e
  without-other n (m ∷ ms) k v e = elim (cases_Bool (bytes_eq k m.name)) [
    | inl t ↦
        let here : bytes_eq n m.name ≡ false = ap (bytes_eq n) (sym (same k m.name t)) ∙ e in
        ap (without n) (insert-step m ms k v true t) ∙ without-step n (member m.name v) ms false here ∙ sym (ap (λ l. insert_member l k v) (without-step n m ms false here) ∙ insert-step m (without n ms) k v true t)
    | inr f ↦
        ap (without n) (insert-step m ms k v false f)
        ∙ elim (cases_Bool (bytes_eq n m.name)) [
          | inl t ↦ without-step n m (insert_member ms k v) true t ∙ without-other n ms k v e ∙ sym (ap (λ l. insert_member l k v) (without-step n m ms true t))
          | inr g ↦
              without-step n m (insert_member ms k v) false g ∙ ap (λ l. m ∷ l) (without-other n ms k v e)
              ∙ sym (ap (λ l. insert_member l k v) (without-step n m ms false g) ∙ insert-step m (without n ms) k v false f)
        ]
  ]

  merged_last : (ms : List (Member V)) (k : List ℕ) (v : V) → merged (ms ++ member k v ∷ []) ≡ insert_member (merged ms) k v
  merged_last [] k v = refl
  merged_last (m ∷ ms) k v =
      let value = last_value-more m.name m.value ms k v in
      let rest = merged_last ms k v in
      let first = member m.name (last_value m.name m.value ms) in
      (λ i. member m.name (value i) ∷ without m.name (rest i))
      ∙ elim (cases_Bool (bytes_eq m.name k)) [
        | inl t ↦
            let back : bytes_eq k m.name ≡ true = nat_list_eq_equiv.symm k m.name ∙ t in
            (λ i. member m.name (cond (t i) v (last_value m.name m.value ms)) ∷ without-same m.name (merged ms) k v t i) ∙ sym (insert-step first (without m.name (merged ms)) k v true back)
        | inr f ↦
            let back : bytes_eq k m.name ≡ false = nat_list_eq_equiv.symm k m.name ∙ f in
            (λ i. member m.name (cond (f i) v (last_value m.name m.value ms)) ∷ without-other m.name (merged ms) k v f i) ∙ sym (insert-step first (without m.name (merged ms)) k v false back)
      ]

  pub merged_more : (es : List (List ℕ × V)) (before : List (Member V)) (k : List ℕ) (v : V) → map entry_member es ≡ merged before → map entry_member (insert_entry bytes_eq es k v) ≡ merged (before ++ member k v ∷ [])
  merged_more es before k v e = inserted es k v ∙ ap (λ l. insert_member l k v) e ∙ sym (merged_last before k v)
