-- Active edges lead to exactly the modules that are reached: that a stop is also taken where the namespace is used adds no module, since what lies
-- behind a module whose namespace is used is reached through it.
use Rattle.std.proofs.Common.{◌≡◌, ◌⊎◌, inl, inr, ℕ, true, false, true≢false, List, [], ◌∷◌, Contains, Some, slice_get, sym, ap, subst, ◌∙◌}
use Rattle.std.specs.List.{concat}
use Rattle.std.proofs.lemmas.Option.{same_Some}
use Rattle.std.proofs.lemmas.List.Elements.{All-contains}
use Rattle.pk_types.specs.declared.facts.Facts.{Facts}
use Rattle.pk_types.specs.declared.facts.Kind.{Kind}
use Rattle.pk_types.specs.declared.facts.Kind.TheVariants.{Es}
use Rattle.pk_types.specs.declared.facts.Origin.{Origin}
use Rattle.pk_types.specs.declared.facts.Origin.TheVariants.{Other, Space}
use Rattle.pk_types.specs.declared.graph.Graph.{Graph}
use Rattle.pk_types.specs.declared.graph.Row.{Row}
use Rattle.pk_types.specs.declared.plan.Active.{Active}
use Rattle.pk_types.specs.declared.plan.Used.{Used}
use Rattle.pk_types.specs.Fitting.{Fits, RowFits}
use Rattle.pk_types.specs.Lawful.{IsLawfulAs, IsLawfulEs, AreOrdered}
use Rattle.pk_types.specs.Origins.{origin_requests}
use Rattle.pk_types.specs.Resolving.{origin_of}
use Rattle.pk_types.specs.Requests.{flag_of, Declares, NamesAtSite, UsesSpaceAtSite}
use Rattle.pk_types.specs.Reexports.{PassesOn, ExportsSpace}
use Rattle.pk_types.specs.Stops.{IsStopOf}
use Rattle.pk_types.specs.StopSearch.{HasStops}
use Rattle.pk_types.specs.Use.{IsReached, IsUsed, IsUsedThrough, IsWholeThrough, HasUse}
use Rattle.pk_types.specs.ActiveEdges.{GoesThrough, SpaceGoesThrough, GivesEdges, HasEdges, IsLedTo, IsActive}
use Rattle.pk_types.proofs.Members.{as_long, Contains-at}
use Rattle.pk_types.proofs.Parts.{Contains-one, one_only, within_first_places, first_places_has, within_parts, part_of, export_of}
use Rattle.pk_types.proofs.Stops.{found_is_stop, stop_is_found}

module _ (graph : Graph) (used : Used) (active : Active) (use_ : HasUse graph used) (right : IsActive graph used active) where
  -- a module that the entries lead to, with what is known of it
  record Known (number : ℕ) (row : Row) : Type 0 where
    led : IsLedTo graph active.edges number
    at : slice_get graph.rows number ≡ Some row
    names : List (List ℕ)
    used_at : slice_get used.names number ≡ Some names
    edges : List ℕ
    edges_at : slice_get active.edges number ≡ Some edges
    has : HasEdges graph number row names edges

  known : (number : ℕ) (row : Row) → IsLedTo graph active.edges number → slice_get graph.rows number ≡ Some row → Known number row
  known number row led at =
      let e = as_long graph.rows active.edges number row at right.each_edges in
      let h = right.edges number row e.0 ((right.reached number).1 led) at e.1 in
      record { led = led; at = at; names = h.0; used_at = h.1; edges = e.0; edges_at = e.1; has = h.2 }

  used_through : (number request : ℕ) (name : List ℕ) (row : Row) (k : Known number row) → IsReached graph number → GoesThrough graph number row k.names request name
      → IsUsedThrough graph number request name
  used_through number _ _ row k r (GoesThrough.at_site request name s) = IsUsedThrough.at_site number request name row r k.at s
  used_through number _ _ row k r (GoesThrough.passed_on request exported name c p) =
      IsUsedThrough.passed_on number request exported name row ((use_.names number k.names k.used_at exported).0 c) k.at p

  whole_through : (number request : ℕ) (row : Row) (k : Known number row) → IsReached graph number → SpaceGoesThrough row k.names request
      → IsWholeThrough graph number request
  whole_through number _ row k r (SpaceGoesThrough.at_site request s) = IsWholeThrough.space_at_site number request row r k.at s
  whole_through number _ row k r (SpaceGoesThrough.exported request name c e) =
      IsWholeThrough.space_exported number request name row ((use_.names number k.names k.used_at name).0 c) k.at e

  reached_by : (number request : ℕ) (row : Row) (part : List ℕ) (k : Known number row) → IsReached graph number → Contains row.facts.order request
      → GivesEdges graph number row k.names request part → (target : ℕ) → Contains part target → IsReached graph target
  reached_by number _ row _ k r c (GivesEdges.kept request target t f) other m =
      subst (IsReached graph) (one_only target other m) (IsReached.declared number request target r (row, k.at, c, t) f)
  reached_by number _ row _ k r c (GivesEdges.whole request target t f s) other m =
      subst (IsReached graph) (one_only target other m) (IsReached.declared_whole number request target r (row, k.at, c, t) (whole_through number request row k r s))
  reached_by number _ row _ k r c (GivesEdges.replaced request target names stops t f n a z) other m =
      let p = within_parts (HasStops graph target) names stops other z m in
      IsReached.stopped number request target other p.0 r (row, k.at, c, t) (used_through number request p.0 row k r ((a.each p.0).0 p.2))
      (found_is_stop graph [] p.3.0 target p.0 p.1 p.3.1 other p.4)

  reached_along : (number target : ℕ) (row : Row) (k : Known number row) → IsReached graph number → Contains k.edges target → IsReached graph target
  reached_along number target row k r m =
      let parts : List (List ℕ) = k.has.0 in
      let p = within_parts (GivesEdges graph number row k.names) row.facts.order parts target k.has.1
      (within_first_places (concat parts) target (subst (λ l. Contains l target) k.has.2 m)) in
      reached_by number p.0 row p.1 k r p.2 p.3 target p.4

  row_at : (number : ℕ) (targets : List ℕ) → slice_get active.edges number ≡ Some targets → (row : Row) × (slice_get graph.rows number ≡ Some row)
  row_at number targets e = as_long active.edges graph.rows number targets e (sym right.each_edges)

  -- what the edges lead to is reached
  pub led_is_reached : (number : ℕ) → IsLedTo graph active.edges number → IsReached graph number
  led_is_reached _ (IsLedTo.entry number c) = IsReached.entry number c
  led_is_reached _ (IsLedTo.required number target l c) = IsReached.required number target (led_is_reached number l) c
  led_is_reached _ (IsLedTo.imported number target l c) = IsReached.imported number target (led_is_reached number l) c
  led_is_reached _ (IsLedTo.along number target targets l e m) =
      let r = row_at number targets e in
      let k = known number r.0 l r.1 in
      reached_along number target r.0 k (led_is_reached number l) (subst (λ t. Contains t target) (same_Some targets k.edges (sym e ∙ k.edges_at)) m)

  -- a request of a declaration gives its part of the edges, and the entries lead to what stands there
  given : (number request : ℕ) (row : Row) (k : Known number row) → Contains row.facts.order request
      → (part : List ℕ) × GivesEdges graph number row k.names request part × ((target : ℕ) → Contains part target → IsLedTo graph active.edges target)
  given number request row k c =
      let parts : List (List ℕ) = k.has.0 in
      let p = part_of (GivesEdges graph number row k.names) row.facts.order parts request k.has.1 c in (
        p.0,
        p.1,
        λ target m. IsLedTo.along number target k.edges k.led k.edges_at
            (subst (λ l. Contains l target) (sym k.has.2) (first_places_has (concat parts) target (p.2 target m))),
      )

  to_through : (number request : ℕ) (name : List ℕ) (row : Row) (k : Known number row) → IsUsedThrough graph number request name
      → GoesThrough graph number row k.names request name
  to_through number request name row k (IsUsedThrough.at_site _ _ _ other r e s) =
      GoesThrough.at_site request name (subst (λ w. NamesAtSite w request name) (same_Some other row (sym e ∙ k.at)) s)
  to_through number request name row k (IsUsedThrough.passed_on _ _ exported _ other u e p) =
      GoesThrough.passed_on request exported name ((use_.names number k.names k.used_at exported).1 u)
      (subst (λ w. PassesOn graph number w exported request name) (same_Some other row (sym e ∙ k.at)) p)

  to_whole : (number request : ℕ) (row : Row) (k : Known number row) → IsWholeThrough graph number request → SpaceGoesThrough row k.names request
  to_whole number request row k (IsWholeThrough.space_at_site _ _ other r e s) =
      SpaceGoesThrough.at_site request (subst (λ w. UsesSpaceAtSite w request) (same_Some other row (sym e ∙ k.at)) s)
  to_whole number request row k (IsWholeThrough.space_exported _ _ name other u e s) =
      SpaceGoesThrough.exported request name ((use_.names number k.names k.used_at name).1 u)
      (subst (λ w. ExportsSpace w name request) (same_Some other row (sym e ∙ k.at)) s)

  -- a target that may have side effects, or whose namespace is used, is an edge
  edge_by_flag : (number request target : ℕ) (row : Row) (k : Known number row) → Contains row.facts.order request → slice_get row.targets request ≡ Some target
      → (flag_of graph target ≡ Some false) ⊎ SpaceGoesThrough row k.names request → Contains k.edges target
  edge_by_flag number request target row k c t either =
      let parts : List (List ℕ) = k.has.0 in
      let p = part_of (GivesEdges graph number row k.names) row.facts.order parts request k.has.1 c in
      at_part request p.0 p.1 t either (λ other m. subst (λ l. Contains l other) (sym k.has.2) (first_places_has (concat parts) other (p.2 other m)))
    where
      at_part : (request : ℕ) (part : List ℕ) → GivesEdges graph number row k.names request part → slice_get row.targets request ≡ Some target
          → (flag_of graph target ≡ Some false) ⊎ SpaceGoesThrough row k.names request
          → ((other : ℕ) → Contains part other → Contains k.edges other) → Contains k.edges target
      at_part _ _ (GivesEdges.kept request there u f) t either edge = edge target (subst (Contains (there ∷ [])) (same_Some there target (sym u ∙ t)) (Contains-one there))
      at_part _ _ (GivesEdges.whole request there u f s) t either edge = edge target (subst (Contains (there ∷ [])) (same_Some there target (sym u ∙ t)) (Contains-one there))
      at_part _ _ (GivesEdges.replaced request there names stops u f n a z) t (inl e) edge =
          absurd (true≢false (same_Some true false (sym f ∙ ap (flag_of graph) (same_Some there target (sym u ∙ t)) ∙ e)))
      at_part _ _ (GivesEdges.replaced request there names stops u f n a z) t (inr s) edge = absurd (n s)

  pub unflagged_is_edge : (number request target : ℕ) (edges : List ℕ) → IsLedTo graph active.edges number → Declares graph number request target
      → flag_of graph target ≡ Some false → slice_get active.edges number ≡ Some edges → Contains edges target
  unflagged_is_edge number request target edges l d f e =
      let k = known number d.0 l d.1 in
      subst (λ t. Contains t target) (same_Some k.edges edges (sym k.edges_at ∙ e)) (edge_by_flag number request target d.0 k d.2 d.3 (inl f))

  pub whole_is_edge : (number request target : ℕ) (edges : List ℕ) → IsLedTo graph active.edges number → Declares graph number request target
      → IsWholeThrough graph number request → slice_get active.edges number ≡ Some edges → Contains edges target
  whole_is_edge number request target edges l d w e =
      let k = known number d.0 l d.1 in
      subst (λ t. Contains t target) (same_Some k.edges edges (sym k.edges_at ∙ e)) (edge_by_flag number request target d.0 k d.2 d.3 (inr (to_whole number request d.0 k w)))

  -- and so it is led to
  led_by_flag : (number request target : ℕ) (row : Row) (k : Known number row) → Contains row.facts.order request → slice_get row.targets request ≡ Some target
      → (flag_of graph target ≡ Some false) ⊎ SpaceGoesThrough row k.names request → IsLedTo graph active.edges target
  led_by_flag number request target row k c t either = IsLedTo.along number target k.edges k.led k.edges_at (edge_by_flag number request target row k c t either)

  lawful_as : (kind : Kind) (facts : Facts) → kind ≡ Es → IsLawfulAs kind facts → IsLawfulEs facts
  lawful_as kind facts e l = subst (λ k. IsLawfulAs k facts) e l

  module _ (fits : Fits graph) where
    lawful_at : (number : ℕ) (row : Row) → slice_get graph.rows number ≡ Some row → row.facts.kind ≡ Es → IsLawfulEs row.facts
    lawful_at number row at kind =
        let r = All-contains (RowFits graph) graph.rows row fits.rows (Contains-at graph.rows number row at) in
        lawful_as row.facts.kind row.facts kind r.facts.lawful.kind

    ordered_export : (row : Row) (name : List ℕ) (origin : Origin) (request : ℕ) → IsLawfulEs row.facts → origin_of row.facts name ≡ Some origin
        → Contains (origin_requests origin) request → Contains row.facts.order request
    ordered_export row name origin request l e m =
        let x = export_of row.facts name origin e in
        All-contains (Contains row.facts.order) (origin_requests x.0.origin) request
        (All-contains (λ entry. AreOrdered row.facts (origin_requests entry.origin)) row.facts.exports x.0 l.exports x.1)
        (subst (λ o. Contains (origin_requests o) request) (sym x.2) m)

    -- from a used name through a request to a stop, where the target is led to or skipped
    led_through : (number request target stop : ℕ) (name : List ℕ) (row : Row) (k : Known number row) → Contains row.facts.order request
        → slice_get row.targets request ≡ Some target → IsUsedThrough graph number request name → IsStopOf graph target name stop
        → (IsLedTo graph active.edges target → IsLedTo graph active.edges stop) → IsLedTo graph active.edges stop
    led_through number request target stop name row k c t u d later =
        at_part request (given number request row k c).0 (given number request row k c).1 t u (given number request row k c).2
      where
        at_part : (request : ℕ) (part : List ℕ) → GivesEdges graph number row k.names request part → slice_get row.targets request ≡ Some target
            → IsUsedThrough graph number request name → ((other : ℕ) → Contains part other → IsLedTo graph active.edges other) → IsLedTo graph active.edges stop
        at_part _ _ (GivesEdges.kept request there u f) t w leads =
            later (leads target (subst (Contains (there ∷ [])) (same_Some there target (sym u ∙ t)) (Contains-one there)))
        at_part _ _ (GivesEdges.whole request there u f s) t w leads =
            later (leads target (subst (Contains (there ∷ [])) (same_Some there target (sym u ∙ t)) (Contains-one there)))
        at_part _ _ (GivesEdges.replaced request there names stops u f n a z) t w leads =
            let p = part_of (HasStops graph there) names stops name z ((a.each name).1 (to_through number request name row k w)) in
            leads stop (p.2 stop (stop_is_found graph there name p.0 stop p.1 (subst (λ m. IsStopOf graph m name stop) (same_Some target there (sym t ∙ u)) d)))

    -- from a module that is led to and a name of it that is used, the name's stops are led to
    stop_is_led : (number : ℕ) (name : List ℕ) (stop : ℕ) → IsStopOf graph number name stop → IsLedTo graph active.edges number → IsUsed graph number name
        → IsLedTo graph active.edges stop
    stop_is_led _ _ _ (IsStopOf.here number name row found at finds e) l u = l
    stop_is_led _ _ _ (IsStopOf.namespace number name row request target p o t) l u =
        let k = known number row l p.at in
        let c = ordered_export row name (Space request) request (lawful_at number row p.at p.kind) o (Contains-one request) in
        led_by_flag number request target row k c t (inr (to_whole number request row k (IsWholeThrough.space_exported number request name row u p.at o)))
    stop_is_led _ _ _ (IsStopOf.by_name number name row request target other stop p o t d) l u =
        let k = known number row l p.at in
        let c = ordered_export row name (Other request other) request (lawful_at number row p.at p.kind) o (Contains-one request) in
        let w : IsUsedThrough graph number request other = IsUsedThrough.passed_on number request name other row u p.at (PassesOn.by_name request other o) in
        led_through number request target stop other row k c t w d
        (λ h. stop_is_led target other stop d h (IsUsed.by_request number request target other row w p.at t))
    stop_is_led _ _ _ (IsStopOf.by_star number name row star target stop p f t d) l u =
        let k = known number row l p.at in
        let c = All-contains (Contains row.facts.order) row.facts.stars star (lawful_at number row p.at p.kind).stars f.among in
        let w : IsUsedThrough graph number star name = IsUsedThrough.passed_on number star name name row u p.at (PassesOn.by_star star f) in
        led_through number star target stop name row k c t w d
        (λ h. stop_is_led target name stop d h (IsUsed.by_request number star target name row w p.at t))

    -- what is reached is led to
    pub reached_is_led : (number : ℕ) → IsReached graph number → IsLedTo graph active.edges number
    reached_is_led _ (IsReached.entry number c) = IsLedTo.entry number c
    reached_is_led _ (IsReached.required number target r c) = IsLedTo.required number target (reached_is_led number r) c
    reached_is_led _ (IsReached.imported number target r c) = IsLedTo.imported number target (reached_is_led number r) c
    reached_is_led _ (IsReached.declared number request target r d f) =
        led_by_flag number request target d.0 (known number d.0 (reached_is_led number r) d.1) d.2 d.3 (inl f)
    reached_is_led _ (IsReached.declared_whole number request target r d w) =
        let k = known number d.0 (reached_is_led number r) d.1 in
        led_by_flag number request target d.0 k d.2 d.3 (inr (to_whole number request d.0 k w))
    reached_is_led _ (IsReached.stopped number request target stop name r d w s) =
        led_through number request target stop name d.0 (known number d.0 (reached_is_led number r) d.1) d.2 d.3 w s
        (λ l. stop_is_led target name stop s l (IsUsed.by_request number request target name d.0 w d.1 d.3))
