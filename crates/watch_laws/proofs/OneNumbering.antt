-- Modules that are followed one after another have one numbering alone: two of them agree as far as both go.
use Rattle.std.proofs.Common.{◌≡◌, ℕ, zero, suc, ◌+◌, ◌<◌, ◌≤◌, not, Bool, true, false, cond, inl, inr, ◌⊎◌, List, [], ◌∷◌, length, Option, None, Some, slice_get, refl, sym, ap, subst, ◌∙◌, arith}
use Rattle.std.specs.List.{list_any}
use Rattle.std.specs.Option.{option_map}
use Rattle.std.specs.Str.{bytes_eq}
use Rattle.std.proofs.lemmas.Bool.{cases_lt, cases_order}
use Rattle.std.proofs.lemmas.Option.{same_Some, none-some, slice_get_within}
use Rattle.pk_types.specs.declared.graph.Graph.{Graph}
use Rattle.module_graph.specs.Addresses.{target_of}
use Rattle.module_graph.specs.Known.{number_in}
use Rattle.module_graph.specs.ModuleOrder.{IsModuleOrder}
use Rattle.module_graph.proofs.Sights.{at_number, same}
use Rattle.watch_laws.proofs.FirstSights.{IsEarlier, IsFirstSight, earlier_cases, first_sight}

-- the module of a number has a path, which leads to known paths, and its targets are their numbers
pub record IsNumberedAt (Leads : List ℕ → List (List ℕ) → Type 0) (graph : Graph) (known : List (List ℕ)) (m : ℕ) : Type 0 where
  pub path : List ℕ
  pub targets : List (List ℕ)
  pub here : slice_get known m ≡ Some path
  pub leads : Leads path targets
  pub are_known : (i : ℕ) (target : List ℕ) → slice_get targets i ≡ Some target → list_any (bytes_eq target) known ≡ true
  pub numbers : (i : ℕ) → target_of graph m i ≡ option_map (number_in known) (slice_get targets i)

-- The known modules stand in order, that of the entry first, and so many of them were followed.
pub record IsNumbered (Leads : List ℕ → List (List ℕ) → Type 0) (entry : List ℕ) (graph : Graph) (known : List (List ℕ)) (rows : ℕ) : Type 0 where
  pub first : slice_get known 0 ≡ Some entry
  pub entries : graph.entries ≡ 0 ∷ []
  pub order : IsModuleOrder graph
  pub count : length graph.rows ≡ length known
  pub ends : (m i n : ℕ) → target_of graph m i ≡ Some n → m < rows
  pub each : (m : ℕ) → m < rows → IsNumberedAt Leads graph known m

-- a path's number is that of its first place
number_at_most : (known : List (List ℕ)) (i : ℕ) (path : List ℕ) → slice_get known i ≡ Some path → number_in known path ≤ i
number_at_most [] i path e = absurd (none-some path e)
number_at_most (x ∷ xs) zero path e =
    let f : bytes_eq path x ≡ true = subst (λ p. bytes_eq path p ≡ true) (sym (same_Some x path e)) (same path) in
    subst (λ n. n ≤ 0) (sym (ap (λ b. cond (not b) (1 + number_in xs path) 0) f)) (omega arith)
number_at_most (x ∷ xs) (suc i) path e = by (bytes_eq path x) (number_at_most xs i path e)
  where
    by : (b : Bool) → number_in xs path ≤ i → cond (not b) (1 + number_in xs path) 0 ≤ suc i
    by true h = omega arith
    by false h = omega arith

mapped : {A B : Type 0} (f : A → B) (o : Option A) (y : B) → option_map f o ≡ Some y → (x : A) × (o ≡ Some x) × (f x ≡ y)
mapped f None y e = absurd (none-some y e)
mapped f (Some x) y e = (x, refl, same_Some (f x) y e)

module _ (Leads : List ℕ → List (List ℕ) → Type 0) (entry : List ℕ) where
  abbrev Numbered : Graph → List (List ℕ) → ℕ → Type 0
  Numbered graph known rows = IsNumbered Leads entry graph known rows

  -- the target of a request is the number of its path
  seen_path : (graph : Graph) (known : List (List ℕ)) (m i n : ℕ) (at : IsNumberedAt Leads graph known m) → target_of graph m i ≡ Some n
      → (target : List ℕ) × (slice_get at.targets i ≡ Some target) × (number_in known target ≡ n) × (slice_get known n ≡ Some target)
  seen_path graph known m i n at t =
      let r = mapped (number_in known) (slice_get at.targets i) n (sym (at.numbers i) ∙ t) in
      (r.0, r.1, r.2, subst (λ k. slice_get known k ≡ Some r.0) r.2 (at_number known r.0 (at.are_known i r.0 r.1)))

  -- no path is known twice: a second place would be no path's number
  pub one_place : (graph : Graph) (known : List (List ℕ)) (rows : ℕ) → Numbered graph known rows → (i j : ℕ) (path : List ℕ) → i < j → slice_get known i ≡ Some path → slice_get known j ≡ Some path → ⊥
  one_place graph known rows a i j path h e f =
      let count : length graph.rows ≡ length known = a.count in
      let s = first_sight graph a.order a.entries j (omega arith) (omega (arith, slice_get_within known j path f)) in
      let seen = seen_path graph known s.0 s.1 j (a.each s.0 (a.ends s.0 s.1 j s.2.leads)) s.2.leads in
      let path_is : seen.0 ≡ path = same_Some seen.0 path (sym seen.3 ∙ f) in
      let number : number_in known path ≡ j = subst (λ p. number_in known p ≡ j) path_is seen.2 in
      omega (arith, number_at_most known i path e)

  module _ (functional : (path : List ℕ) (xs ys : List (List ℕ)) → Leads path xs → Leads path ys → xs ≡ ys) where
    -- a module that was followed in both leads to the same paths
    same_targets : (graph other : Graph) (known others : List (List ℕ)) (m : ℕ) (a : IsNumberedAt Leads graph known m) (b : IsNumberedAt Leads other others m) → slice_get known m ≡ slice_get others m → a.targets ≡ b.targets
    same_targets graph other known others m a b e =
        let path : a.path ≡ b.path = same_Some a.path b.path (sym a.here ∙ e ∙ b.here) in
        functional b.path a.targets b.targets (subst (λ p. Leads p a.targets) path a.leads) b.leads

    -- a number is that of one path where the one numbering sees it no later than the other one
    one_way : (graph other : Graph) (known others : List (List ℕ)) (rows more : ℕ) → Numbered graph known rows → Numbered other others more → (n : ℕ)
        → ((j : ℕ) → j < n → slice_get known j ≡ slice_get others j) → (m i k j : ℕ) → IsFirstSight graph n m i → IsFirstSight other n k j → (IsEarlier k j m i → ⊥)
        → slice_get known n ≡ slice_get others n
    one_way graph other known others rows more a b n below m i k j s r never =
        let under : m < n = s.below in
        let reached : k < more = b.ends k j n r.leads in
        let within : m < more = elim (cases_lt k m) [ inl earlier ↦ absurd (never (inl earlier)) | inr later ↦ omega arith ] in
        let x = a.each m (a.ends m i n s.leads) in
        let y = b.each m within in
        let seen = seen_path graph known m i n x s.leads in
        let same_list : x.targets ≡ y.targets = same_targets graph other known others m x y (below m under) in
        let there : slice_get y.targets i ≡ Some seen.0 = subst (λ l. slice_get l i ≡ Some seen.0) same_list seen.1 in
        let place : slice_get others (number_in others seen.0) ≡ Some seen.0 = at_number others seen.0 (y.are_known i seen.0 there) in
        by seen.0 (number_in others seen.0) seen.3 place (y.numbers i ∙ ap (option_map (number_in others)) there) (cases_order (number_in others seen.0) n)
      where
        by : (path : List ℕ) (number : ℕ) → slice_get known n ≡ Some path → slice_get others number ≡ Some path → target_of other m i ≡ Some number → (number ≡ n) ⊎ ((number < n) ⊎ (n < number)) → slice_get known n ≡ slice_get others n
        by path number here place t (inl equal) = here ∙ sym (subst (λ l. slice_get others l ≡ Some path) equal place)
        by path number here place t (inr (inl smaller)) = absurd (one_place graph known rows a number n path smaller (below number smaller ∙ place) here)
        by path number here place t (inr (inr greater)) =
            let count : length other.rows ≡ length others = b.count in
            absurd (never (r.next m i number t greater (omega (arith, slice_get_within others number path place))))

    agree_at : (graph other : Graph) (known others : List (List ℕ)) (rows more : ℕ) → Numbered graph known rows → Numbered other others more → (n : ℕ)
        → ((j : ℕ) → j < n → slice_get known j ≡ slice_get others j) → n < length known → n < length others → slice_get known n ≡ slice_get others n
    agree_at graph other known others rows more a b zero below h l = a.first ∙ sym b.first
    agree_at graph other known others rows more a b (suc n) below h l =
        let count : length graph.rows ≡ length known = a.count in
        let count_other : length other.rows ≡ length others = b.count in
        let s = first_sight graph a.order a.entries (suc n) (omega arith) (omega arith) in
        let r = first_sight other b.order b.entries (suc n) (omega arith) (omega arith) in
        elim (cases_earlier r.0 r.1 s.0 s.1) [
          | inl earlier ↦ sym (one_way other graph others known more rows b a (suc n) (λ j k. sym (below j k)) r.0 r.1 s.0 s.1 r.2 s.2 earlier)
          | inr never ↦ one_way graph other known others rows more a b (suc n) below s.0 s.1 r.0 r.1 s.2 r.2 never
        ]
      where
        cases_earlier : (m i k j : ℕ) → (IsEarlier k j m i → ⊥) ⊎ (IsEarlier m i k j → ⊥)
        cases_earlier m i k j = elim (earlier_cases m i k j) [
          | inl earlier ↦ inl (not_both m i k j earlier)
          | inr other ↦ elim other [
            | inl equal ↦ inl (λ later. not_equal k j m i (sym equal.0) (sym equal.1) later)
            | inr later ↦ inr (not_both k j m i later)
          ]
        ]
          where
            not_both : (m i k j : ℕ) → IsEarlier m i k j → IsEarlier k j m i → ⊥
            not_both m i k j (inl h) (inl l) = omega arith
            not_both m i k j (inl h) (inr l) = let e : k ≡ m = l.0 in omega arith
            not_both m i k j (inr h) (inl l) = let e : m ≡ k = h.0 in omega arith
            not_both m i k j (inr h) (inr l) = let below : i < j = h.1 in let above : j < i = l.1 in omega arith

            not_equal : (k j m i : ℕ) → k ≡ m → j ≡ i → IsEarlier k j m i → ⊥
            not_equal k j m i e f (inl h) = omega arith
            not_equal k j m i e f (inr h) = let below : j < i = h.1 in omega arith

    module _ (graph other : Graph) (known others : List (List ℕ)) (rows more : ℕ) (a : Numbered graph known rows) (b : Numbered other others more) where
      agree_below : (bound n : ℕ) → n < bound → n < length known → n < length others → slice_get known n ≡ slice_get others n
      agree_below zero n h l k = absurd (omega arith)
      agree_below (suc bound) n h l k = agree_at graph other known others rows more a b n (λ j below. agree_below bound j (omega arith) (omega arith) (omega arith)) l k

      pub agree : (n : ℕ) → n < length known → n < length others → slice_get known n ≡ slice_get others n
      agree n h l = agree_below (suc n) n (omega arith) h l

      -- what is known in both has one number
      pub same_number : (path : List ℕ) → list_any (bytes_eq path) known ≡ true → list_any (bytes_eq path) others ≡ true → number_in known path ≡ number_in others path
      same_number path h l =
          let e = at_number known path h in
          let f = at_number others path l in
          let below : number_in known path < length known = slice_get_within known (number_in known path) path e in
          let under : number_in others path < length others = slice_get_within others (number_in others path) path f in
          elim (cases_order (number_in known path) (number_in others path)) [
            | inl equal ↦ equal
            | inr apart ↦ elim apart [
              | inl smaller ↦ absurd (one_place other others more b (number_in known path) (number_in others path) path smaller (sym (agree (number_in known path) below (omega arith)) ∙ e) f)
              | inr greater ↦ absurd (one_place graph known rows a (number_in others path) (number_in known path) path greater (agree (number_in others path) (omega arith) under ∙ f) e)
            ]
          ]

      -- the one knows no more where the other one followed each module that it did
      pub no_more : ((m : ℕ) → m < more → m < length known → m < rows) → length others ≤ length known
      no_more all = elim (cases_lt (length known) (length others)) [
        | inl fewer ↦
            let positive : 0 < length known = slice_get_within known 0 entry a.first in
            let count : length other.rows ≡ length others = b.count in
            let s = first_sight other b.order b.entries (length known) positive (omega arith) in
            let under : s.0 < length known = s.2.below in
            let reached : s.0 < more = b.ends s.0 s.1 (length known) s.2.leads in
            let x = a.each s.0 (all s.0 reached under) in
            let y = b.each s.0 reached in
            let seen = seen_path other others s.0 s.1 (length known) y s.2.leads in
            let same_list : x.targets ≡ y.targets = same_targets graph other known others s.0 x y (agree s.0 under (omega arith)) in
            let place : slice_get known (number_in known seen.0) ≡ Some seen.0 = at_number known seen.0 (x.are_known s.1 seen.0 (subst (λ l. slice_get l s.1 ≡ Some seen.0) (sym same_list) seen.1)) in
            let within : number_in known seen.0 < length known = slice_get_within known (number_in known seen.0) seen.0 place in
            absurd (one_place other others more b (number_in known seen.0) (length known) seen.0 within (sym (agree (number_in known seen.0) within (omega arith)) ∙ place) seen.3)
        | inr enough ↦ omega arith
      ]
