-- In a bare graph without flags the active edges are those that declarations lead to.
use Rattle.std.proofs.Common.{◌≡◌, ℕ, ◌<◌, true, false, true≢false, cond, inl, inr, List, [], ◌∷◌, length, map, get_or, Any, Contains, Some, slice_get, option_map, refl, sym, ap, subst, ◌∙◌, arith}
use Rattle.std.specs.List.{All, AllZip, concat}
use Rattle.std.proofs.lemmas.Bool.{cases_lt}
use Rattle.std.proofs.lemmas.Option.{same_Some, slice_get_within, slice_get-get_or, get_or_from_slice_get, slice_get-map}
use Rattle.std.proofs.lemmas.List.{length-map, length-replicate, get_or-replicate, get_or_past}
use Rattle.std.proofs.lemmas.List.Elements.{All-head, All-tail, All-contains}
use Rattle.std.proofs.lemmas.List.FromFn.{length-map-range_with_len, get_or-map-range_with_len}
use Rattle.pk_types.specs.declared.graph.Graph.{Graph}
use Rattle.pk_types.specs.declared.graph.Row.{Row}
use Rattle.pk_types.specs.declared.plan.Active.{Active}
use Rattle.pk_types.specs.declared.plan.Used.{Used}
use Rattle.pk_types.specs.Fitting.{Fits, RowFits}
use Rattle.pk_types.specs.Requests.{flag_of}
use Rattle.pk_types.specs.ActiveEdges as general
use Rattle.pk_types.specs.ActiveEdges.{GivesEdges, HasEdges, IsLedTo}
use Rattle.pk_text.specs.FirstPlaces.{first_places}
use Rattle.emit_chunk.specs.Bare.{IsBare}
use Rattle.plan_core.specs.Edges.{edges_of, declared_edges, edges_where}
use Rattle.plan_core.specs.Closure.{IsReached}
use Rattle.plan_core.specs.Plans.{IsActive, IsUnused}
use Rattle.pk_types.proofs.Members.{element_at, Contains-at}
use Rattle.pk_types.proofs.ListMembers.{in_row}
use Rattle.plan_laws.proofs.Unused.{no_require, no_import}

ones_joined : (f : ℕ → ℕ) (numbers : List ℕ) → concat (map (λ number. f number ∷ []) numbers) ≡ map f numbers
ones_joined f [] = refl
ones_joined f (number ∷ numbers) = ap (λ l. f number ∷ l) (ones_joined f numbers)

module _ (graph : Graph) (fits : Fits graph) (unflagged : All (λ row. row.flagged ≡ false) graph.rows) where
  flag_at : (target : ℕ) → target < length graph.rows → flag_of graph target ≡ Some false
  flag_at target within =
      let row = element_at graph.rows target within in
      ap (option_map (λ row. row.flagged)) row.1 ∙ ap Some (All-contains (λ row. row.flagged ≡ false) graph.rows row.0 unflagged (Contains-at graph.rows target row.0 row.1))

  -- each request is kept
  gives : (number : ℕ) (row : Row) → All (λ target. target < length graph.rows) row.targets → (requests : List ℕ) → All (λ request. request < length row.targets) requests
      → AllZip (GivesEdges graph number row []) requests (map (λ request. get_or row.targets request 0 ∷ []) requests)
  gives number row targets [] all = tt
  gives number row targets (request ∷ requests) all =
      let within = All-head (λ request. request < length row.targets) request requests all in
      let at = slice_get-get_or row.targets request 0 within in (
        GivesEdges.kept request (get_or row.targets request 0) at
            (flag_at (get_or row.targets request 0) (All-contains (λ target. target < length graph.rows) row.targets (get_or row.targets request 0) targets (Contains-at row.targets request (get_or row.targets request 0) at))),
        gives number row targets requests (All-tail (λ request. request < length row.targets) request requests all),
      )

  has_edges : (number : ℕ) (row : Row) → slice_get graph.rows number ≡ Some row → HasEdges graph number row [] (edges_of row)
  has_edges number row at =
      let row_fits = All-contains (RowFits graph) graph.rows row fits.rows (Contains-at graph.rows number row at) in (
        map (λ request. get_or row.targets request 0 ∷ []) row.facts.order,
        gives number row row_fits.targets row.facts.order (subst (λ count. All (λ request. request < count) row.facts.order) (sym row_fits.each) row_fits.facts.places.order),
        ap first_places (sym (ones_joined (λ request. get_or row.targets request 0) row.facts.order)),
      )

  edges_at_row : (number : ℕ) (row : Row) → slice_get graph.rows number ≡ Some row → get_or (declared_edges graph) number [] ≡ edges_of row
  edges_at_row number row at =
      get_or_from_slice_get (declared_edges graph) number (edges_of row) [] (slice_get-map edges_of graph.rows number ∙ ap (option_map edges_of) at)

module _ (graph : Graph) (active : Active) (planned : IsActive graph active) where
  count_of_edges : length (declared_edges graph) ≡ length graph.rows
  count_of_edges = length-map graph.rows edges_of

  pub each_edges : length active.edges ≡ length graph.rows
  each_edges = ap length planned.edges ∙ length-map-range_with_len (edges_where active.reached (declared_edges graph)) 0 (length (declared_edges graph)) ∙ length-map graph.rows edges_of

  marked : (number : ℕ) → get_or active.reached number false ≡ true → slice_get active.reached number ≡ Some true
  marked number flag = elim (cases_lt number (length active.reached)) [
    | inl h ↦ slice_get-get_or active.reached number false h ∙ ap Some flag
    | inr h ↦ absurd (true≢false (sym flag ∙ get_or_past active.reached number false (omega (arith, h))))
  ]

  pub at : (number : ℕ) → number < length graph.rows → slice_get active.edges number ≡ Some (edges_where active.reached (declared_edges graph) number)
  at number within =
      let short : number < length (declared_edges graph) = omega (arith, length-map graph.rows edges_of) in
      slice_get-get_or active.edges number [] (omega (arith, each_edges))
      ∙ ap Some (ap (λ l. get_or l number []) planned.edges ∙ get_or-map-range_with_len (edges_where active.reached (declared_edges graph)) 0 (length (declared_edges graph)) number number [] short (omega arith))

  pub kept : (number : ℕ) → number < length graph.rows → get_or active.reached number false ≡ true → slice_get active.edges number ≡ Some (get_or (declared_edges graph) number [])
  kept number within flag = at number within ∙ ap (λ b. Some (cond b (get_or (declared_edges graph) number []) [])) flag

  dropped : (number : ℕ) → slice_get active.reached number ≡ Some false → slice_get active.edges number ≡ Some []
  dropped number e =
      at number (omega (arith, slice_get_within active.reached number false e, planned.each))
      ∙ ap (λ b. Some (cond b (get_or (declared_edges graph) number []) [])) (get_or_from_slice_get active.reached number false false e)

  -- what an entry reaches is led to
  to_led : (from number : ℕ) → Contains graph.entries from → IsReached (declared_edges graph) from number → IsLedTo graph active.edges number
  to_led from _ c IsReached.itself = IsLedTo.entry from c
  to_led from _ c (IsReached.along number target path m) =
      let within : number < length graph.rows = omega (arith, in_row (declared_edges graph) number target m, length-map graph.rows edges_of) in
      IsLedTo.along number target (get_or (declared_edges graph) number []) (to_led from number c path)
      (kept number within ((planned.reached number).1 (c.0, from, c.1, c.2, path))) m

  module _ (bare : IsBare graph) where
    from_led : (number : ℕ) → IsLedTo graph active.edges number → Any (λ entry. IsReached (declared_edges graph) entry number) graph.entries
    from_led _ (IsLedTo.entry number c) = (c.0, number, c.1, c.2, IsReached.itself)
    from_led _ (IsLedTo.required number target l c) = absurd (no_require graph bare number target c)
    from_led _ (IsLedTo.imported number target l c) = absurd (no_import graph bare number target c)
    from_led _ (IsLedTo.along number target targets l e m) =
        let some = from_led number l in
        let within : number < length graph.rows = omega (arith, slice_get_within active.edges number targets e, each_edges) in
        let same = same_Some targets (get_or (declared_edges graph) number []) (sym e ∙ kept number within ((planned.reached number).1 some)) in
        (some.0, some.1, some.2, some.3, IsReached.along number target some.4 (subst (λ l. Contains l target) same m))

    pub is_active : (used : Used) → IsUnused graph used → Fits graph → All (λ row. row.flagged ≡ false) graph.rows → general.IsActive graph used active
    is_active used unused fits unflagged = record {
      each_edges = each_edges;
      each_reached = planned.each;
      reached = λ number. (
        λ e. let some = (planned.reached number).0 (get_or_from_slice_get active.reached number true false e) in to_led some.1 number (some.0, some.2, some.3) some.4,
        λ led. marked number ((planned.reached number).1 (from_led number led)),
      );
      edges = λ number row edges e row_at edges_at.
          let within = slice_get_within graph.rows number row row_at in
          let same = same_Some edges (get_or (declared_edges graph) number []) (sym edges_at ∙ kept number within (get_or_from_slice_get active.reached number true false e)) in (
            [],
            slice_get-get_or used.names number [] (omega (arith, within, ap length unused.names, length-replicate {A = List (List ℕ)} (length graph.rows) []))
                ∙ ap Some (ap (λ l. get_or l number []) unused.names ∙ get_or-replicate (length graph.rows) number [] [] within),
            subst (HasEdges graph number row []) (sym (same ∙ edges_at_row graph fits unflagged number row row_at)) (has_edges graph fits unflagged number row row_at),
          );
      others = dropped;
    }
