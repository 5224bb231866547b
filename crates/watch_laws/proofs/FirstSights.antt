-- Where modules stand in the order of their least addresses, each is numbered as it is first seen.
use Rattle.std.proofs.Common.{◌≡◌, ℕ, zero, suc, ◌<◌, ◌≤◌, inl, inr, ◌⊎◌, List, [], ◌∷◌, ◌++◌, length, Some, slice_get, refl, sym, ap, subst, ◌∙◌, arith}
use Rattle.std.specs.Option.{option_and_then}
use Rattle.std.proofs.lemmas.Bool.{cases_lt, cases_order}
use Rattle.std.proofs.lemmas.List.{length_push}
use Rattle.std.proofs.lemmas.Option.{same_Some, none-some, option_and_then_some, slice_get_within}
use Rattle.pk_types.specs.declared.graph.Graph.{Graph}
use Rattle.module_graph.specs.Addresses.{target_of, followed, HasAddress}
use Rattle.module_graph.specs.ModuleOrder.{IsLeastAddress, IsModuleOrder}
use Rattle.module_graph.specs.Shortlex.{IsSmaller, ComesBefore, IsAtMost}
use Rattle.module_graph.proofs.Shortlex.{before_trans, before_push, before_last, at_most_before, before_at_most, at_most_push}

not_smaller : (xs : List ℕ) → IsSmaller xs xs → ⊥
not_smaller [] h = h
not_smaller (x ∷ xs) (inl h) = omega arith
not_smaller (x ∷ xs) (inr h) = not_smaller xs h.1

not_before : (xs : List ℕ) → ComesBefore xs xs → ⊥
not_before xs (inl h) = omega arith
not_before xs (inr h) = not_smaller xs h.1

-- a request of a module comes before another one
abbrev pub IsEarlier : ℕ → ℕ → ℕ → ℕ → Type 0
IsEarlier m i n j = (m < n) ⊎ ((m ≡ n) × (i < j))

-- The module of a number is first seen by a request of a module before it, and those of greater numbers later.
pub record IsFirstSight (graph : Graph) (number m i : ℕ) : Type 0 where
  pub below : m < number
  pub leads : target_of graph m i ≡ Some number
  pub first : (k j : ℕ) → target_of graph k j ≡ Some number → IsEarlier k j m i → ⊥
  pub next : (k j after : ℕ) → target_of graph k j ≡ Some after → number < after → after < length graph.rows → IsEarlier m i k j

pub earlier_cases : (m i n j : ℕ) → IsEarlier m i n j ⊎ (((m ≡ n) × (i ≡ j)) ⊎ IsEarlier n j m i)
earlier_cases m i n j = elim (cases_order m n) [
  | inl same ↦ elim (cases_order i j) [
    | inl equal ↦ inr (inl (same, equal))
    | inr apart ↦ elim apart [ inl below ↦ inl (inr (same, below)) | inr above ↦ inr (inr (inr (sym same, above))) ]
  ]
  | inr apart ↦ elim apart [ inl below ↦ inl (inl below) | inr above ↦ inr (inr (inl above)) ]
]

module _ (graph : Graph) where
  -- the last request of an address
  record Last (from number request : ℕ) (requests : List ℕ) : Type 0 where
    front : List ℕ
    m : ℕ
    i : ℕ
    before : followed graph from front ≡ Some m
    leads : target_of graph m i ≡ Some number
    is : request ∷ requests ≡ front ++ i ∷ []

  last_of : (requests : List ℕ) (from number request : ℕ) → followed graph from (request ∷ requests) ≡ Some number → Last from number request requests
  last_of [] from number request h = option_and_then_some (λ next. followed graph next []) (target_of graph from request) number h
      (λ next t g. record { front = []; m = from; i = request; before = refl; leads = t ∙ g; is = refl })
  last_of (other ∷ requests) from number request h = option_and_then_some (λ next. followed graph next (other ∷ requests)) (target_of graph from request) number h
      (λ next t g.
      let r = last_of requests next number other g in
      record {
        front = request ∷ r.front;
        m = r.m;
        i = r.i;
        before = ap (λ o. option_and_then (λ n. followed graph n r.front) o) t ∙ r.before;
        leads = r.leads;
        is = ap (λ l. request ∷ l) r.is;
      })

  followed_on : (requests : List ℕ) (from m i number : ℕ) → followed graph from requests ≡ Some m → target_of graph m i ≡ Some number → followed graph from (requests ++ i ∷ []) ≡ Some number
  followed_on [] from m i number h t = ap (λ o. option_and_then (λ n. followed graph n []) o) (subst (λ k. target_of graph k i ≡ Some number) (sym (same_Some from m h)) t)
  followed_on (request ∷ requests) from m i number h t = option_and_then_some (λ next. followed graph next requests) (target_of graph from request) m h
      (λ next e g. ap (λ o. option_and_then (λ n. followed graph n (requests ++ i ∷ [])) o) e ∙ followed_on requests next m i number g t)

  has_on : (address : List ℕ) (m i number : ℕ) → HasAddress graph m address → target_of graph m i ≡ Some number → HasAddress graph number (address ++ i ∷ [])
  has_on [] m i number h t = absurd (none-some m h)
  has_on (entry ∷ requests) m i number h t = option_and_then_some (λ first. followed graph first requests) (slice_get graph.entries entry) m h
      (λ first e g. ap (λ o. option_and_then (λ n. followed graph n (requests ++ i ∷ [])) o) e ∙ followed_on requests first m i number g t)

  within : (m i number : ℕ) → target_of graph m i ≡ Some number → m < length graph.rows
  within m i number h = option_and_then_some (λ row. slice_get row.targets i) (slice_get graph.rows m) number h (λ row e g. slice_get_within graph.rows m row e)

  -- an earlier request comes before in the order of addresses
  pushed : IsModuleOrder graph → (m i n j : ℕ) (a b : List ℕ) → n < length graph.rows → IsLeastAddress graph m a → IsLeastAddress graph n b → IsEarlier m i n j → ComesBefore (a ++ i ∷ []) (b ++ j ∷ [])
  pushed order m i n j a b h least other (inl below) = before_push a b i j (order.ascending m n a b below h least other)
  pushed order m i n j a b h least other (inr same) =
      at_most_before (a ++ i ∷ []) (b ++ i ∷ []) (b ++ j ∷ []) (at_most_push a b i (least.least b (subst (λ k. HasAddress graph k b) (sym same.0) other.has))) (before_last b i j same.1)

  -- The least address goes on by a request from a least address.
  record GoesOn (number : ℕ) (address : List ℕ) : Type 0 where
    m : ℕ
    i : ℕ
    above : List ℕ
    least : IsLeastAddress graph m above
    leads : target_of graph m i ≡ Some number
    is : IsAtMost (above ++ i ∷ []) address

  module _ (order : IsModuleOrder graph) where
    goes_on : (first number request : ℕ) (requests : List ℕ) (entry : ℕ) → slice_get graph.entries entry ≡ Some first → followed graph first (request ∷ requests) ≡ Some number → GoesOn number (entry ∷ request ∷ requests)
    goes_on first number request requests entry e h =
        let l = last_of requests first number request h in
        let there : HasAddress graph l.m (entry ∷ l.front) = ap (λ o. option_and_then (λ n. followed graph n l.front) o) e ∙ l.before in
        let least = order.addressed l.m (within l.m l.i number l.leads) in
        record {
          m = l.m;
          i = l.i;
          above = least.0;
          least = least.1;
          leads = l.leads;
          is = subst (λ r. IsAtMost (least.0 ++ l.i ∷ []) (entry ∷ r)) (sym l.is) (at_most_push least.0 (entry ∷ l.front) l.i (least.1.least (entry ∷ l.front) there));
        }

    -- where the entries are the first module alone, the least address of another one goes on from one
    comes_from : graph.entries ≡ 0 ∷ [] → (address : List ℕ) (number : ℕ) → 0 < number → HasAddress graph number address → GoesOn number address
    comes_from entries [] number h e = absurd (none-some number e)
    comes_from entries (entry ∷ []) number h e = absurd (first entry (subst (λ l. option_and_then (λ n. Some n) (slice_get l entry) ≡ Some number) entries e))
      where
        first : (entry : ℕ) → option_and_then (λ n. Some n) (slice_get (0 ∷ []) entry) ≡ Some number → ⊥
        first zero e = let z : 0 ≡ number = same_Some 0 number e in omega arith
        first (suc entry) e = none-some number e
    comes_from entries (entry ∷ request ∷ requests) number h e = option_and_then_some (λ first. followed graph first (request ∷ requests)) (slice_get graph.entries entry) number e
        (λ first f g. goes_on first number request requests entry f g)

    module _ (number : ℕ) (known : number < length graph.rows) (address : List ℕ) (least : IsLeastAddress graph number address) (g : GoesOn number address) where
      -- what an earlier request leads to has no greater number
      no_later : (k j after : ℕ) → target_of graph k j ≡ Some after → after < length graph.rows → IsEarlier k j g.m g.i → number ≤ after → ⊥
      no_later k j after t h earlier l =
          let a = order.addressed k (within k j after t) in
          let b = order.addressed after h in
          let step : ComesBefore (a.0 ++ j ∷ []) (g.above ++ g.i ∷ []) = pushed order k j g.m g.i a.0 g.above (within g.m g.i number g.leads) a.1 g.least earlier in
          let under : ComesBefore (a.0 ++ j ∷ []) address = before_at_most (a.0 ++ j ∷ []) (g.above ++ g.i ∷ []) address step g.is in
          let least_after : IsAtMost b.0 (a.0 ++ j ∷ []) = b.1.least (a.0 ++ j ∷ []) (has_on a.0 k j after a.1.has t) in
          let before : ComesBefore b.0 address = at_most_before b.0 (a.0 ++ j ∷ []) address least_after under in
          elim (cases_lt number after) [
            | inl below ↦ not_before address (before_trans address b.0 address (order.ascending number after address b.0 below h least b.1) before)
            | inr other ↦
                let same : after ≡ number = omega arith in
                not_before address (at_most_before address b.0 address (least.least b.0 (subst (λ n. HasAddress graph n b.0) same b.1.has)) before)
          ]

      -- it goes on from a smaller number
      from_below : g.m < number
      from_below = elim (cases_lt g.m number) [
        | inl below ↦ below
        | inr above ↦ absurd (by above (cases_order number g.m))
      ]
        where
          by : number ≤ g.m → (number ≡ g.m) ⊎ ((number < g.m) ⊎ (g.m < number)) → ⊥
          by above (inl same) = not_before address (at_most_before address g.above address (least.least g.above (subst (λ n. HasAddress graph n g.above) (sym same) g.least.has)) longer)
            where
              longer : ComesBefore g.above address
              longer = before_at_most g.above (g.above ++ g.i ∷ []) address (inl (omega (arith, length_push g.above g.i))) g.is
          by above (inr (inl below)) = not_before address (before_trans address g.above address (order.ascending number g.m address g.above below (within g.m g.i number g.leads) least g.least) longer)
            where
              longer : ComesBefore g.above address
              longer = before_at_most g.above (g.above ++ g.i ∷ []) address (inl (omega (arith, length_push g.above g.i))) g.is
          by above (inr (inr other)) = omega arith

      sight : (m : ℕ) × (i : ℕ) × IsFirstSight graph number m i
      sight = (
        g.m,
        g.i,
        record {
          below = from_below;
          leads = g.leads;
          first = λ k j t earlier. no_later k j number t known earlier (omega arith);
          next = λ k j after t l h. elim (earlier_cases g.m g.i k j) [
            | inl earlier ↦ earlier
            | inr other ↦ elim other [
              | inl same ↦
                  let e : Some number ≡ Some after = sym g.leads ∙ ap (λ n. target_of graph n g.i) same.0 ∙ ap (target_of graph k) same.1 ∙ t in
                  let equal : number ≡ after = same_Some number after e in
                  absurd (omega arith)
              | inr later ↦ absurd (no_later k j after t h later (omega arith))
            ]
          ];
        },
      )

-- each module but the first
pub first_sight : (graph : Graph) → IsModuleOrder graph → graph.entries ≡ 0 ∷ [] → (number : ℕ) → 0 < number → number < length graph.rows → (m : ℕ) × (i : ℕ) × IsFirstSight graph number m i
first_sight graph order entries number h known =
    let a = order.addressed number known in
    sight graph order number known a.0 a.1 (comes_from graph order entries a.0 number h a.1.has)
