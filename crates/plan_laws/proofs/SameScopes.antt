-- Where nothing is concatenated, each module evaluates the targets of its edges but itself, and then runs.
use Rattle.std.proofs.Common.{◌≡◌, ℕ, ◌<◌, ◌==◌, not, Bool, true, false, true≢false, cond, inl, inr, List, [], ◌∷◌, ◌++◌, length, map, get_or, Contains, Some, slice_get, refl, sym, ap, subst, ◌∙◌, arith, slice_index}
use Rattle.std.specs.List.{filter}
use Rattle.std.proofs.lemmas.Bool.{eq-eqb, ne_eqb}
use Rattle.std.proofs.lemmas.Option.{slice_get_within, get_or_from_slice_get}
use Rattle.std.proofs.lemmas.List.{length-map}
use Rattle.std.proofs.lemmas.List.Elements.{All-get_or, All-map, Contains-append_left, Contains-append_cases}
use Rattle.std.proofs.lemmas.List.FromFn.{length-range_with_len, length-map-range_with_len, get_or-map-range_with_len}
use Rattle.pk_types.specs.declared.graph.Graph.{Graph}
use Rattle.pk_types.specs.declared.plan.Active.{Active}
use Rattle.pk_types.specs.declared.plan.Hoists.{Hoists}
use Rattle.pk_types.specs.declared.plan.Item.{Item}
use Rattle.pk_types.specs.declared.plan.Item.TheVariants.{Evaluate}
use Rattle.pk_types.specs.HoistSets.{Scene, IsRoot, AreHoistSets, edges_at, set_of}
use Rattle.pk_types.specs.HoistItems.{Visits, Follows, AreItems, AreHoists}
use Rattle.pk_text.specs.FirstPlaces.{first_places}
use Rattle.plan_core.specs.Edges.{declared_targets, edges_of, declared_edges, edges_where}
use Rattle.plan_core.specs.Plans.{IsActive}
use Rattle.plan_core.specs.Scopes.{items_along, scope_items, AreOwnScopes}
use Rattle.pk_types.proofs.ListMembers.{same_or_not, unfiltered}
use Rattle.pk_types.proofs.Parts.{Contains-one, one_only, Contains-head, Contains-tail, within_filter}
use Rattle.plan_laws.proofs.SameEdges.{at, each_edges}
use Rattle.plan_laws.proofs.SingleSets.{range_at, one_member}

-- each number stands once
abbrev Differ : List ℕ → Type 0
Differ [] = Unit {0}
Differ (number ∷ numbers) = (¬ Contains numbers number) × Differ numbers

still_differ : (test : ℕ → Bool) (numbers : List ℕ) → Differ numbers → Differ (filter test numbers)
still_differ test [] d = tt
still_differ test (number ∷ numbers) d = by (still_differ test numbers d.1) (test number)
  where
    by : Differ (filter test numbers) → (b : Bool) → Differ (cond b (number ∷ filter test numbers) (filter test numbers))
    by rest true = (λ c. d.0 (within_filter test numbers number c), rest)
    by rest false = rest

first_places_differ : (numbers : List ℕ) → Differ (first_places numbers)
first_places_differ [] = tt
first_places_differ (number ∷ numbers) = (
  λ c. absurd (true≢false (sym (unfiltered (λ other. not (other == number)) (first_places numbers) number c).1 ∙ ap not (eq-eqb number number refl))),
  still_differ (λ other. not (other == number)) (first_places numbers) (first_places_differ numbers),
)

module _ (active : Active) (root : ℕ) where
  abbrev others : List ℕ → List ℕ
  others targets = filter (λ target. not (target == root)) targets

  -- all targets but the root are new, and each is noted
  follows : (before targets : List ℕ) → Contains before root → Differ targets → ((target : ℕ) → Contains targets target → Contains before target → target ≡ root)
      → (after : List ℕ) × Follows active (root ∷ []) before targets (map Evaluate (filter (λ target. not (target == root)) targets)) after
  follows before [] r d known = (before, Follows.ended before)
  follows before (target ∷ targets) r d known = elim (same_or_not target root) [
    | inl e ↦
        let rest = follows before targets r d.1 (λ other c b. known other (Contains-tail target targets other c) b) in
        let items = ap (λ b. map Evaluate (cond (not b) (target ∷ others targets) (others targets))) (eq-eqb target root e) in (
          rest.0,
          subst (λ items. Follows active (root ∷ []) before (target ∷ targets) items rest.0) (sym items)
              (Follows.passed before rest.0 target targets (map Evaluate (others targets)) (subst (Contains before) (sym e) r) rest.1),
        )
    | inr e ↦
        let rest = follows (before ++ target ∷ []) targets (Contains-append_left before (target ∷ []) root r) d.1 (later e) in
        let items = ap (λ b. map Evaluate (cond (not b) (target ∷ others targets) (others targets))) (ne_eqb target root e) in (
          rest.0,
          subst (λ items. Follows active (root ∷ []) before (target ∷ targets) items rest.0) (sym items)
              (Follows.noted before rest.0 target targets (map Evaluate (others targets)) (λ c. e (known target (Contains-head target targets) c)) (λ c. e (sym (one_only root target c))) rest.1),
        )
  ]
    where
      later : (target ≡ root → ⊥) → (other : ℕ) → Contains targets other → Contains (before ++ target ∷ []) other → other ≡ root
      later e other c b = elim (Contains-append_cases before (target ∷ []) other b) [
        | inl l ↦ known other (Contains-tail target targets other c) l
        | inr l ↦ absurd (d.0 (subst (Contains targets) (sym (one_only target other l)) c))
      ]

  visits : Differ (edges_at active root) → AreItems active (root ∷ []) root (items_along (edges_at active root) root)
  visits d =
      let walk = follows (root ∷ []) (edges_at active root) (Contains-one root) d (λ target c b. sym (one_only root target b)) in
      (walk.0, Visits.visit [] walk.0 root (map Evaluate (others (edges_at active root))) walk.1)

module _ (graph : Graph) (active : Active) (planned : IsActive graph active) where
  edges_differ : (number : ℕ) → number < length graph.rows → Differ (edges_at active number)
  edges_differ number within =
      subst Differ (sym (get_or_from_slice_get active.edges number (edges_where active.reached (declared_edges graph) number) [] (at graph active planned number within)))
      (by (get_or active.reached number false))
    where
      by : (b : Bool) → Differ (cond b (get_or (declared_edges graph) number []) [])
      by true = All-get_or Differ (declared_edges graph) number [] (omega (arith, within, length-map graph.rows edges_of))
          (All-map Differ edges_of graph.rows (λ k d h. first_places_differ (declared_targets (get_or graph.rows k d))))
      by false = tt

module _ (scene : Scene) (planned : IsActive scene.graph scene.active) (hoists : Hoists) (own : AreOwnScopes scene.active.edges hoists) where
  abbrev count : ℕ
  count = length scene.active.edges

  long : length hoists.root ≡ length scene.active.edges
  long = ap length own.root ∙ length-range_with_len 0 (length scene.active.edges)

  long_items : length hoists.items ≡ length scene.active.edges
  long_items = ap length own.items ∙ length-map-range_with_len (scope_items scene.active.edges) 0 (length scene.active.edges)

  root_at : (member : ℕ) → member < length scene.active.edges → slice_index hoists.root member ≡ member
  root_at member within = ap (λ l. slice_index l member) own.root ∙ range_at count member within

  alone : (root : ℕ) → root < length scene.active.edges → set_of hoists.root root ≡ root ∷ []
  alone root within = ap (λ l. set_of l root) own.root ∙ one_member count root within

  is_root : (root : ℕ) → root < length scene.active.edges → IsRoot scene false hoists.root root
  is_root root within = record {
    itself = root_at root within;
    shared = λ may. absurd (true≢false (sym may.concatenates));
    alone = λ _. alone root within;
  }

  sets : AreHoistSets scene false hoists.root
  sets = record {
    each = long ∙ each_edges scene.graph scene.active planned;
    rooted = λ member h. let within : member < length scene.active.edges = omega (arith, h, long) in
        subst (IsRoot scene false hoists.root) (sym (root_at member within)) (is_root member within);
    in_order = λ member h. omega (arith, root_at member (omega (arith, h, long)));
  }

  scope : (root : ℕ) (items : List Item) → slice_get hoists.items root ≡ Some items → AreItems scene.active (set_of hoists.root root) root items
  scope root items e =
      let within : root < length scene.active.edges = omega (arith, slice_get_within hoists.items root items e, long_items) in
      let same = sym (ap (λ l. get_or l root []) own.items ∙ get_or-map-range_with_len (scope_items scene.active.edges) 0 count root root [] within (omega arith))
      ∙ get_or_from_slice_get hoists.items root items [] e in
      subst (λ members. AreItems scene.active members root items) (sym (alone root within))
      (subst (AreItems scene.active (root ∷ []) root) same
      (visits scene.active root (edges_differ scene.graph scene.active planned root (omega (arith, within, each_edges scene.graph scene.active planned)))))

  pub are_hoists : AreHoists scene false hoists
  are_hoists = record {
    sets = sets;
    each = long_items ∙ sym long;
    items = λ root items e _. scope root items e;
    others = λ member items e apart. absurd (apart (root_at member (omega (arith, slice_get_within hoists.items member items e, long_items))));
  }
