-- The plan of a graph of one entry.
use Rattle.std.proofs.Common.{◌≡◌, ◌↔◌, ℕ, zero, suc, ◌+◌, ◌<◌, ◌&&◌, ◌||◌, Bool, true, false, cond, nat_eq, count_by, ⊎_elim, List, [], ◌∷◌, length, get_or, map, replicate, refl, sym, ap, subst, ◌∙◌, arith}
use Rattle.std.specs.Prelude.{slice_index}
use Rattle.std.specs.List.{AllZip, Contains, list_any, range_with_len}
use Rattle.std.specs.List.Sorted.{IsStrictlyIncreasing}
use Rattle.std.specs.Cmp.{nat_eq_equiv}
use Rattle.std.proofs.lemmas.Bool.{cases_lt, false≢true}
use Rattle.std.proofs.lemmas.List.{get_or_default, get_or_past}
use Rattle.std.proofs.lemmas.List.Elements.{All-get_or}
use Rattle.std.proofs.lemmas.List.FromFn.{length-range_with_len, length-map-range_with_len, get_or-range_with_len, get_or-map-range_with_len, fill_by_all}
use Rattle.std.proofs.lemmas.List.Kept.{IsStrictlyIncreasing-filter}
use Rattle.std.proofs.lemmas.List.Sums.{sum_by-append}
use Rattle.std.proofs.lemmas.Map.Views.{any-filter_same, exact_unsigned_eq, Contains-from_any, list_any-from_Contains}
use Rattle.pk_types.specs.declared.graph.Graph.{Graph}
use Rattle.pk_types.specs.declared.plan.Active.{Active}
use Rattle.pk_types.specs.declared.plan.Chunks.{Chunks}
use Rattle.pk_types.specs.declared.plan.Groups.{Groups}
use Rattle.pk_types.specs.declared.plan.Hoists.{Hoists}
use Rattle.pk_types.specs.declared.plan.Ids.{Ids}
use Rattle.pk_types.specs.declared.plan.Used.{Used}
use Rattle.pk_types.specs.Fitting.{Fits}
use Rattle.plan_core.specs.Edges.{declared_edges, edges_where, active_edges}
use Rattle.plan_core.specs.Closure.{IsReached, IsClosure, known_below, known_flags}
use Rattle.plan_core.specs.Scopes.{AreOwnScopes}
use Rattle.plan_core.specs.NaturalIds.{is_placed, natural_id, natural_ids}
use Rattle.plan_core.specs.Plans.{IsActive, AreNoNames, IsPlan}
use Rattle.plan_core.proofs.Ranges.{range_more}
use Rattle.plan_core.proofs.Search.{same_reached, reached_same}
use Rattle.plan_core.proofs.Within.{edges_below, count_of_edges, reached_below}

range_ascends : (count : ℕ) → IsStrictlyIncreasing (range_with_len 0 count)
range_ascends count = λ k h.
    let short : k + 1 < count = omega (arith, length-range_with_len 0 count) in
    omega (arith, get_or-range_with_len 0 count k 0 (omega arith), get_or-range_with_len 0 count (k + 1) 0 short)

range_has : (count number : ℕ) → number < count → list_any (nat_eq number) (range_with_len 0 count) ≡ true
range_has count number h = list_any-from_Contains nat_eq_equiv number (range_with_len 0 count)
    (number, omega (arith, length-range_with_len 0 count), get_or-range_with_len 0 count number number h ∙ omega arith)

module _ (keys : List ℕ) (count : ℕ) where
  abbrev has : ℕ → Bool
  has number = list_any (nat_eq number) keys

  listed : (number : ℕ) → list_any (nat_eq number) (known_below keys count) ≡ (list_any (nat_eq number) keys && list_any (nat_eq number) (range_with_len 0 count))
  listed number = any-filter_same (nat_eq number) has (has number) (λ k h. ap (λ n. list_any (nat_eq n) keys) (sym (exact_unsigned_eq number k h))) (range_with_len 0 count)

  listed_below : (number : ℕ) → number < count → list_any (nat_eq number) (known_below keys count) ≡ list_any (nat_eq number) keys
  listed_below number h = listed number ∙ ap (λ b. has number && b) (range_has count number h) ∙ and_true (list_any (nat_eq number) keys)
    where
      and_true : (b : Bool) → (b && true) ≡ b
      and_true true = refl
      and_true false = refl

  -- the modules of a search, by number
  pub is_closure : (edges : List (List ℕ)) (from : ℕ) → ((number : ℕ) → Contains keys number ↔ IsReached edges from number)
      → ((number : ℕ) → IsReached edges from number → number < count)
      → IsClosure edges from (known_below keys count)
  is_closure edges from reaches within = record {
    ascending = IsStrictlyIncreasing-filter (λ number. list_any (nat_eq number) keys) (range_with_len 0 count) (range_ascends count);
    reached = λ number. (
      λ there. (reaches number).0 (Contains-from_any exact_unsigned_eq number keys (left (has number) (list_any (nat_eq number) (range_with_len 0 count)) (sym (listed number) ∙ list_any-from_Contains nat_eq_equiv number (known_below keys count) there))),
      λ path. Contains-from_any exact_unsigned_eq number (known_below keys count) (listed_below number (within number path) ∙ list_any-from_Contains nat_eq_equiv number keys ((reaches number).1 path)),
    );
  }
    where
      left : (a b : Bool) → (a && b) ≡ true → a ≡ true
      left true b e = refl
      left false b e = e

-- ---- ids by the same modules in another order

count_same : (p q : ℕ → Bool) (n : ℕ) → ((k : ℕ) → k < n → p k ≡ q k) → count_by p (range_with_len 0 n) ≡ count_by q (range_with_len 0 n)
count_same p q zero same = refl
count_same p q (suc n) same =
    let next : suc n ≡ n + 1 = omega arith in
    ap (λ m. count_by p (range_with_len 0 m)) next ∙ ap (count_by p) (range_more n) ∙ sum_by-append (λ x. cond (p x) 1 0) (range_with_len 0 n) (n ∷ [])
    ∙ ap (λ s. s + (0 + cond (p n) 1 0)) (count_same p q n (λ k h. same k (omega arith)))
    ∙ ap (λ b. count_by q (range_with_len 0 n) + (0 + cond b 1 0)) (same n (omega arith))
    ∙ sym (ap (λ m. count_by q (range_with_len 0 m)) next ∙ ap (count_by q) (range_more n) ∙ sum_by-append (λ x. cond (q x) 1 0) (range_with_len 0 n) (n ∷ []))

same_ids : (xs ys : List ℕ) (n : ℕ) → ((k : ℕ) → k < n → list_any (nat_eq k) xs ≡ list_any (nat_eq k) ys) → natural_ids (xs ∷ []) n ≡ natural_ids (ys ∷ []) n
same_ids xs ys n same = fill_by_all (natural_id (ys ∷ [])) (natural_ids (xs ∷ []) n) n 0 (length-map-range_with_len (natural_id (xs ∷ [])) 0 n)
    (λ k h. get_or-map-range_with_len (natural_id (xs ∷ [])) 0 n k k 0 h (omega arith)
    ∙ ap (λ b. cond (b || false) (count_by (is_placed (xs ∷ [])) (range_with_len 0 k)) 0) (same k h)
    ∙ ap (λ m. cond (list_any (nat_eq k) ys || false) m 0) (count_same (is_placed (xs ∷ [])) (is_placed (ys ∷ [])) k (λ j l. ap (λ b. b || false) (same j (omega arith)))))

-- ---- the plan

the_only : (entries : List ℕ) → length entries ≡ 1 → entries ≡ slice_index entries 0 ∷ []
the_only [] e = absurd (omega arith)
the_only (entry ∷ []) e = refl
the_only (entry ∷ other ∷ entries) e = absurd (omega arith)

module _ (graph : Graph) (fits : Fits graph) (one : length graph.entries ≡ 1) (keys : List ℕ)
    (reaches : (number : ℕ) → Contains keys number ↔ IsReached (declared_edges graph) (slice_index graph.entries 0) number) where
  abbrev entry : ℕ
  entry = slice_index graph.entries 0

  abbrev declared : List (List ℕ)
  declared = declared_edges graph

  abbrev flags : List Bool
  flags = known_flags keys (length (declared_edges graph))

  abbrev edges : List (List ℕ)
  edges = active_edges (known_flags keys (length (declared_edges graph))) (declared_edges graph)

  within : (number : ℕ) → IsReached (declared_edges graph) (slice_index graph.entries 0) number → number < length (declared_edges graph)
  within number path = omega (arith, count_of_edges graph, reached_below (length graph.rows) declared (count_of_edges graph) (edges_below graph fits) entry number (All-get_or (λ entry. entry < length graph.rows) graph.entries 0 0 (omega arith) fits.entries) path)

  flag_at : (number : ℕ) → number < length (declared_edges graph) → get_or (known_flags keys (length (declared_edges graph))) number false ≡ list_any (nat_eq number) keys
  flag_at number h = get_or-map-range_with_len (λ k. list_any (nat_eq k) keys) 0 (length declared) number number false h (omega arith)

  flagged : (number : ℕ) → IsReached (declared_edges graph) (slice_index graph.entries 0) number → get_or (known_flags keys (length (declared_edges graph))) number false ≡ true
  flagged number path = flag_at number (within number path) ∙ list_any-from_Contains nat_eq_equiv number keys ((reaches number).1 path)

  sound : (number : ℕ) → get_or (known_flags keys (length (declared_edges graph))) number false ≡ true → IsReached (declared_edges graph) (slice_index graph.entries 0) number
  sound number flag = ⊎_elim
      (λ h. (reaches number).0 (Contains-from_any exact_unsigned_eq number keys (sym (flag_at number h) ∙ flag)))
      (λ h. absurd (false≢true (sym (get_or_past flags number false (omega (arith, length-map-range_with_len (λ k. list_any (nat_eq k) keys) 0 (length declared)))) ∙ flag)))
      (cases_lt number (length declared))

  is_active : IsActive graph (record { edges = active_edges (known_flags keys (length (declared_edges graph))) (declared_edges graph); reached = known_flags keys (length (declared_edges graph)) })
  is_active = record {
    each = length-map-range_with_len (λ k. list_any (nat_eq k) keys) 0 (length declared) ∙ count_of_edges graph;
    reached = λ number. (
      λ flag. (0, entry, omega arith, get_or_default graph.entries 0 entry 0 (omega arith), sound number flag),
      λ some. flagged number (subst (λ from. IsReached declared from number) (only some.0 some.1 some.2 some.3) some.4),
    );
    edges = refl;
  }
    where
      only : (k from : ℕ) → k < length graph.entries → get_or graph.entries k from ≡ from → from ≡ slice_index graph.entries 0
      only k from h is = let first : k ≡ 0 = omega arith in sym is ∙ get_or_default graph.entries k from 0 h ∙ ap (λ i. get_or graph.entries i 0) first

  -- where the entry leads, active edges are those that are declared
  same : (number : ℕ) → IsReached (declared_edges graph) (slice_index graph.entries 0) number
      → get_or (declared_edges graph) number [] ≡ get_or (active_edges (known_flags keys (length (declared_edges graph))) (declared_edges graph)) number []
  same number path = sym (get_or-map-range_with_len (edges_where flags declared) 0 (length declared) number number [] (within number path) (omega arith)
      ∙ ap (λ b. cond b (get_or declared number []) []) (flagged number path))

  closed : IsClosure (active_edges (known_flags keys (length (declared_edges graph))) (declared_edges graph)) (slice_index graph.entries 0) (known_below keys (length (declared_edges graph)))
  closed = is_closure keys (length declared) edges entry
      (λ number. (λ there. same_reached declared edges entry same number ((reaches number).0 there), λ path. (reaches number).1 (reached_same declared edges entry same number path)))
      (λ number path. within number (reached_same declared edges entry same number path))

  pub is_plan : (active : Active) (used : Used) (groups : Groups) (chunks : Chunks) (hoists : Hoists) (names : List (List (List ℕ))) (ids : Ids)
      → active ≡ record { edges = active_edges (known_flags keys (length (declared_edges graph))) (declared_edges graph); reached = known_flags keys (length (declared_edges graph)) }
      → used ≡ record { names = replicate (length graph.rows) []; whole = replicate (length graph.rows) false }
      → groups ≡ record { targets = slice_index graph.entries 0 ∷ []; entries = 1; closures = known_below keys (length (declared_edges graph)) ∷ []; leads = [] ∷ [] }
      → chunks ≡ record { modules = known_below keys (length (declared_edges graph)) ∷ []; entries = 1; lists = [] ∷ [] }
      → AreOwnScopes active.edges hoists
      → AreNoNames graph names
      → ids ≡ record { modules = natural_ids (keys ∷ []) (length (declared_edges graph)); chunks = [] }
      → IsPlan graph (record { active = active; used = used; groups = groups; chunks = chunks; hoists = hoists; names = names; ids = ids })
  is_plan active used groups chunks hoists names ids a u g k scopes no_names i =
      let only = sym (the_only graph.entries one) in
      record {
        active = subst (IsActive graph) (sym a) is_active;
        used = record { names = ap (λ used. used.names) u; whole = ap (λ used. used.whole) u };
        groups = record {
          targets = ap (λ groups. groups.targets) g ∙ only;
          entries = ap (λ groups. groups.entries) g ∙ sym one;
          closures = subst (λ (groups : Groups). AllZip (IsClosure active.edges) groups.targets groups.closures) (sym g)
              (subst (λ (active : Active). IsClosure active.edges (slice_index graph.entries 0) (known_below keys (length (declared_edges graph)))) (sym a) closed, tt);
          leads = ap (λ groups. groups.leads) g ∙ ap (map (λ _. [])) only;
        };
        chunks = record {
          modules = ap (λ chunks. chunks.modules) k ∙ sym (ap (λ groups. groups.closures) g);
          entries = ap (λ chunks. chunks.entries) k ∙ sym (ap (λ groups. groups.entries) g);
          lists = ap (λ chunks. chunks.lists) k ∙ sym (ap (λ (groups : Groups). map (λ _. []) groups.targets) g);
        };
        hoists = scopes;
        names = no_names;
        ids = record {
          modules = ap (λ ids. ids.modules) i ∙ same_ids keys (known_below keys (length declared)) (length declared) (λ n h. sym (listed_below keys (length declared) n h))
              ∙ ap (natural_ids (known_below keys (length declared) ∷ [])) (count_of_edges graph) ∙ ap (λ l. natural_ids l (length graph.rows)) (sym (ap (λ chunks. chunks.modules) k));
          chunks = ap (λ ids. ids.chunks) i;
        };
      }
