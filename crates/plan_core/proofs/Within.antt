-- The numbers in a plan of a graph that fits are those of its modules.
use Rattle.std.proofs.Common.{◌≡◌, ℕ, ◌<◌, Bool, true, false, cond, not, ◌==◌, List, [], ◌∷◌, length, map, sym, ap, subst, ◌∙◌, get_or, arith}
use Rattle.std.specs.Prelude.{slice_index}
use Rattle.std.specs.List.{All, AllZip, filter, range_with_len}
use Rattle.std.proofs.lemmas.List.{length-map}
use Rattle.std.proofs.lemmas.List.Elements.{All-nil, All-cons, All-head, All-tail, All-append, All-map, All-filter, All-get_or, All-weaker, All-same, Contains-get_or}
use Rattle.std.proofs.lemmas.List.FromFn.{length-range_with_len, length-map-range_with_len, get_or-range_with_len}
use Rattle.pk_types.specs.declared.graph.Graph.{Graph}
use Rattle.pk_types.specs.declared.graph.Row.{Row}
use Rattle.pk_types.specs.declared.plan.Item.TheVariants.{Segment, Evaluate}
use Rattle.pk_types.specs.declared.plan.Plan.{Plan}
use Rattle.pk_types.specs.Fitting.{RowFits, Fits}
use Rattle.pk_types.specs.Places.{ArePlacesIn}
use Rattle.emit_chunk.specs.Ranges.{module_of, AreBelow, InRange}
use Rattle.pk_text.specs.FirstPlaces.{first_places}
use Rattle.plan_core.specs.Edges.{declared_targets, edges_of, declared_edges, edges_where, active_edges}
use Rattle.plan_core.specs.Closure.{IsReached, IsClosure}
use Rattle.plan_core.specs.Scopes.{items_along, scope_items}
use Rattle.plan_core.specs.Plans.{IsPlan}
use Rattle.plan_core.proofs.Search.{below}

-- ---- edges

in_targets : (graph : Graph) (row : Row) → RowFits graph row → ArePlacesIn row.targets row.facts.order
in_targets graph row fits = λ k d h. subst (λ count. get_or row.facts.order k d < count) (sym fits.each) (fits.facts.places.order k d h)

-- each declaration of a module has a target
pub order_in_targets : (graph : Graph) (number : ℕ) (default : Row) → number < length graph.rows → Fits graph
    → ArePlacesIn (get_or graph.rows number default).targets (get_or graph.rows number default).facts.order
order_in_targets graph number default within fits =
    in_targets graph (get_or graph.rows number default) (All-get_or (RowFits graph) graph.rows number default within fits.rows)

first_places_below : (count : ℕ) (numbers : List ℕ) → AreBelow count numbers → AreBelow count (first_places numbers)
first_places_below count [] all = All-nil (λ number. number < count)
first_places_below count (number ∷ numbers) all =
    All-cons (λ other. other < count) number (filter (λ other. not (other == number)) (first_places numbers)) (All-head (λ other. other < count) number numbers all)
    (All-filter (λ other. not (other == number)) (λ other. other < count) (first_places numbers) (first_places_below count numbers (All-tail (λ other. other < count) number numbers all)))

row_below : (graph : Graph) (row : Row) → RowFits graph row → AreBelow (length graph.rows) (edges_of row)
row_below graph row fits = first_places_below (length graph.rows) (declared_targets row)
    (All-map (λ target. target < length graph.rows) (slice_index row.targets) row.facts.order
    (All-weaker (λ request. request < length row.targets) (λ request. slice_index row.targets request < length graph.rows)
    (λ request h. All-get_or (λ target. target < length graph.rows) row.targets request 0 h fits.targets) row.facts.order (in_targets graph row fits)))

pub edges_below : (graph : Graph) → Fits graph → All (AreBelow (length graph.rows)) (declared_edges graph)
edges_below graph fits = All-map (AreBelow (length graph.rows)) edges_of graph.rows
    (All-weaker (RowFits graph) (λ row. AreBelow (length graph.rows) (edges_of row)) (row_below graph) graph.rows fits.rows)

pub count_of_edges : (graph : Graph) → length (declared_edges graph) ≡ length graph.rows
count_of_edges graph = length-map graph.rows edges_of

-- the same by the number of lists of edges
pub edges_within : (graph : Graph) → Fits graph → All (AreBelow (length (declared_edges graph))) (declared_edges graph)
edges_within graph fits = subst (λ count. All (AreBelow count) (declared_edges graph)) (sym (count_of_edges graph)) (edges_below graph fits)

range_below : (count : ℕ) → AreBelow count (range_with_len 0 count)
range_below count = λ k d h.
    let short : k < count = omega (arith, length-range_with_len 0 count) in
    omega (arith, get_or-range_with_len 0 count k d short)

where_below : (count : ℕ) (reached : Bool) (targets : List ℕ) → AreBelow count targets → AreBelow count (cond reached targets [])
where_below count true targets all = all
where_below count false targets all = All-nil (λ number. number < count)

active_below : (count : ℕ) (reached : List Bool) (edges : List (List ℕ)) → All (AreBelow count) edges → All (AreBelow count) (active_edges reached edges)
active_below count reached edges all = All-map (AreBelow count) (edges_where reached edges) (range_with_len 0 (length edges))
    (All-weaker (λ number. number < length edges) (λ number. AreBelow count (edges_where reached edges number))
    (λ number h. where_below count (get_or reached number false) (get_or edges number []) (All-get_or (AreBelow count) edges number [] h all))
    (range_with_len 0 (length edges)) (range_below (length edges)))

pub count_of_active : (graph : Graph) (reached : List Bool) → length (active_edges reached (declared_edges graph)) ≡ length graph.rows
count_of_active graph reached = length-map-range_with_len (edges_where reached (declared_edges graph)) 0 (length (declared_edges graph)) ∙ count_of_edges graph

-- the modules that are reached from one are below the count
pub reached_below : (count : ℕ) (edges : List (List ℕ)) → length edges ≡ count → All (AreBelow count) edges → (from number : ℕ) → from < count → IsReached edges from number → number < count
reached_below count edges each all from number within path =
    subst (λ n. number < n) each (below edges from (omega (arith, each)) (subst (λ n. All (AreBelow n) edges) (sym each) all) number path)

-- ---- plans

items_below : (count number : ℕ) (targets : List ℕ) → number < count → AreBelow count targets → All (λ item. module_of item < count) (items_along targets number)
items_below count number targets within all =
    All-append (λ item. module_of item < count) (map Evaluate (filter (λ target. not (target == number)) targets)) (Segment number ∷ [])
    (All-map (λ item. module_of item < count) Evaluate (filter (λ target. not (target == number)) targets) (All-filter (λ target. not (target == number)) (λ target. target < count) targets all))
    (All-cons (λ item. module_of item < count) (Segment number) [] within (All-nil (λ item. module_of item < count)))

closures_below : (count : ℕ) (edges : List (List ℕ)) → length edges ≡ count → All (AreBelow count) edges → (targets : List ℕ) (closures : List (List ℕ)) → AreBelow count targets
    → AllZip (IsClosure edges) targets closures → All (AreBelow count) closures
closures_below count edges each all [] [] within zip = All-nil (AreBelow count)
closures_below count edges each all [] (closure ∷ closures) within zip = absurd zip
closures_below count edges each all (target ∷ targets) [] within zip = absurd zip
closures_below count edges each all (target ∷ targets) (closure ∷ closures) within zip =
    All-cons (AreBelow count) closure closures
    (λ k d h. reached_below count edges each all target (get_or closure k d) (All-head (λ number. number < count) target targets within) ((zip.0.reached (get_or closure k d)).0 (Contains-get_or closure k d h)))
    (closures_below count edges each all targets closures (All-tail (λ number. number < count) target targets within) zip.1)

module _ (graph : Graph) (plan : Plan) (fits : Fits graph) (planned : IsPlan graph plan) where
  edges_each : length plan.active.edges ≡ length graph.rows
  edges_each = ap length planned.active.edges ∙ count_of_active graph plan.active.reached

  edges_in : All (AreBelow (length graph.rows)) plan.active.edges
  edges_in = All-same (AreBelow (length graph.rows)) plan.active.edges (active_edges plan.active.reached (declared_edges graph)) planned.active.edges
      (active_below (length graph.rows) plan.active.reached (declared_edges graph) (edges_below graph fits))

  targets_in : AreBelow (length graph.rows) plan.groups.targets
  targets_in = All-same (λ number. number < length graph.rows) plan.groups.targets graph.entries planned.groups.targets fits.entries

  modules_in : All (AreBelow (length graph.rows)) plan.chunks.modules
  modules_in = All-same (AreBelow (length graph.rows)) plan.chunks.modules plan.groups.closures planned.chunks.modules
      (closures_below (length graph.rows) plan.active.edges edges_each edges_in plan.groups.targets plan.groups.closures targets_in planned.groups.closures)

  items_in : All (All (λ item. module_of item < length graph.rows)) plan.hoists.items
  items_in = All-same (All (λ item. module_of item < length graph.rows)) plan.hoists.items (map (scope_items plan.active.edges) (range_with_len 0 (length plan.active.edges))) planned.hoists.items
      (All-map (All (λ item. module_of item < length graph.rows)) (scope_items plan.active.edges) (range_with_len 0 (length plan.active.edges))
      (All-weaker (λ number. number < length plan.active.edges) (λ number. All (λ item. module_of item < length graph.rows) (scope_items plan.active.edges number))
      (λ number h. items_below (length graph.rows) number (get_or plan.active.edges number []) (omega (arith, edges_each)) (All-get_or (AreBelow (length graph.rows)) plan.active.edges number [] h edges_in))
      (range_with_len 0 (length plan.active.edges)) (range_below (length plan.active.edges))))

  lists_in : All (AreBelow (length plan.ids.chunks)) plan.chunks.lists
  lists_in = All-same (AreBelow (length plan.ids.chunks)) plan.chunks.lists (map (λ _. []) plan.groups.targets) planned.chunks.lists
      (All-map (AreBelow (length plan.ids.chunks)) (λ _. []) plan.groups.targets (λ k d h. All-nil (λ number. number < length plan.ids.chunks)))

  -- a plan of a graph that fits is in range
  pub in_range : InRange graph plan
  in_range = record {
    targets = targets_in;
    modules = modules_in;
    lists = lists_in;
    roots = ap length planned.hoists.root ∙ length-range_with_len 0 (length plan.active.edges) ∙ edges_each;
    scopes = ap length planned.hoists.items ∙ length-map-range_with_len (scope_items plan.active.edges) 0 (length plan.active.edges) ∙ edges_each;
    items = items_in;
    ids = ap length planned.ids.modules ∙ length-map-range_with_len _ 0 (length graph.rows);
  }
