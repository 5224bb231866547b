-- The search from the entries: the modules that were met so far, and those of them that were gone through.
use Rattle.std.proofs.Common.{◌≡◌, ◌⊎◌, inl, inr, ⊎_elim, ℕ, ◌+◌, ◌<◌, ◌≤◌, Bool, true, false, nat_eq, List, [], ◌∷◌, length, get_or, Contains, Some, slice_get, refl, sym, ap, subst, ◌∙◌, eq-eqb, length-append, arith}
use Rattle.std.proofs.Math.ListN.{set, length-set}
use Rattle.std.specs.List.{IsDistinct, list_any}
use Rattle.std.proofs.lemmas.Bool.{cases_eq, true≢false}
use Rattle.std.proofs.lemmas.Cmp.{nat_eq_equiv}
use Rattle.std.proofs.lemmas.List.{get_or-set_same, get_or-set_other, get_or_default, get_or_append_left}
use Rattle.std.proofs.lemmas.List.Elements.{All-contains, Contains-get_or}
use Rattle.std.proofs.lemmas.Map.Keys.{apart_from_distinct}
use Rattle.std.proofs.lemmas.Map.Steps.{length-le_from_distinct_below}
use Rattle.std.proofs.lemmas.Map.Views.{Contains-from_any, list_any-from_Contains, exact_unsigned_eq}
use Rattle.std.proofs.lemmas.Option.{same_Some, slice_get-get_or, slice_get_within, get_or_from_slice_get}
use Rattle.pk_types.specs.declared.facts.SiteKind.{SiteKind}
use Rattle.pk_types.specs.declared.facts.SiteKind.TheVariants.{Init, Read, Write, Member, Space, Require, Import}
use Rattle.pk_types.specs.declared.graph.Graph.{Graph}
use Rattle.pk_types.specs.declared.graph.Row.{Row}
use Rattle.pk_types.specs.declared.plan.Used.{Used}
use Rattle.pk_types.specs.ActiveEdges.{HasEdges, IsLedTo, IsActive}
use Rattle.pk_types.specs.Fitting.{Fits}
use Rattle.pk_types.specs.Requests.{site_kinds, CallsRequire, CallsImport}
use Rattle.pk_types.specs.Sites.{called_requests}
use Rattle.pk_types.proofs.Parts.{none_within}
use Rattle.prune_graph.specs.Meeting.{Meets, IsCalled, IsGoneThrough}
use Rattle.prune_graph.proofs.EdgeParts.{edges_within, called_within}

-- ---- calls

module _ (graph : Graph) (number : ℕ) (row : Row) (at : slice_get graph.rows number ≡ Some row) where
  calls_by : (kind : SiteKind) (request target : ℕ) → Contains (site_kinds row) kind → called_requests kind ≡ request ∷ [] → slice_get row.targets request ≡ Some target
      → CallsRequire graph number target ⊎ CallsImport graph number target
  calls_by (Init binding) request target m e t = cc
  calls_by (Read named) request target m e t = cc
  calls_by (Write named) request target m e t = cc
  calls_by (Member place name) request target m e t = cc
  calls_by (Space place) request target m e t = cc
  calls_by (Require place) request target m e t =
      let same : place ≡ request = cc in
      inl (row, request, at, subst (λ p. Contains (site_kinds row) (Require p)) same m, t)
  calls_by (Import place) request target m e t =
      let same : place ≡ request = cc in
      inr (row, request, at, subst (λ p. Contains (site_kinds row) (Import p)) same m, t)

  pub calls : (target : ℕ) → IsCalled row target → CallsRequire graph number target ⊎ CallsImport graph number target
  calls target called = calls_by called.0 called.1 target called.2 called.3 called.4

  pub requires : (target : ℕ) → CallsRequire graph number target → IsCalled row target
  requires target c =
      let same = same_Some c.0 row (sym c.2 ∙ at) in
      (Require c.1, c.1, subst (λ w. Contains (site_kinds w) (Require c.1)) same c.3, refl, subst (λ w. slice_get w.targets c.1 ≡ Some target) same c.4)

  pub imports : (target : ℕ) → CallsImport graph number target → IsCalled row target
  imports target c =
      let same = same_Some c.0 row (sym c.2 ∙ at) in
      (Import c.1, c.1, subst (λ w. Contains (site_kinds w) (Import c.1)) same c.3, refl, subst (λ w. slice_get w.targets c.1 ≡ Some target) same c.4)

-- ---- the search

-- the module has its edges, and what it leads to is known
pub record IsDone (graph : Graph) (used : Used) (edges : List (List ℕ)) (known : List ℕ) (number : ℕ) : Type 0 where
  pub row : Row
  pub at : slice_get graph.rows number ≡ Some row
  pub names : List (List ℕ)
  pub used_at : slice_get used.names number ≡ Some names
  pub has : HasEdges graph number row names (get_or edges number [])
  pub along : (target : ℕ) → Contains (get_or edges number []) target → Contains known target
  pub called : (target : ℕ) → IsCalled row target → Contains known target

pub record IsLed (graph : Graph) (used : Used) (edges : List (List ℕ)) (known : List ℕ) (place : ℕ) : Type 0 where
  pub each : length edges ≡ length graph.rows
  pub entries : (number : ℕ) → Contains graph.entries number → Contains known number
  pub sound : (number : ℕ) → Contains known number → IsLedTo graph edges number
  pub below : (number : ℕ) → Contains known number → number < length graph.rows
  pub done : (k : ℕ) → k < place → IsDone graph used edges known (get_or known k 0)
  pub others : (number : ℕ) → ((k : ℕ) → k < place → ¬ (get_or known k 0 ≡ number)) → get_or edges number [] ≡ []
  pub within : place ≤ length known

module _ (graph : Graph) (used : Used) (fits : Fits graph) where
  pub begins : (edges : List (List ℕ)) (before known : List ℕ) → before ≡ [] → length edges ≡ length graph.rows → ((number : ℕ) → get_or edges number [] ≡ [])
      → Meets before (Contains graph.entries) known → IsLed graph used edges known 0
  begins edges before known empty each none meets = record {
    each = each;
    entries = λ number m. (meets.each number).1 (inr m);
    sound = λ number m. IsLedTo.entry number (first number m);
    below = λ number m. All-contains (λ n. n < length graph.rows) graph.entries number fits.entries (first number m);
    done = λ k h. absurd (omega (arith, h));
    others = λ number _. none number;
    within = omega arith;
  }
    where
      first : (number : ℕ) → Contains known number → Contains graph.entries number
      first number m = ⊎_elim (λ old. none_within number (subst (λ l. Contains l number) empty old)) (λ entry. entry) ((meets.each number).0 m)

  module _ (edges : List (List ℕ)) (known : List ℕ) (place : ℕ) (led : IsLed graph used edges known place) where
    pub number_within : place < length known → get_or known place 0 < length graph.rows
    number_within at = led.below (get_or known place 0) (Contains-get_or known place 0 at)

    pub place_within : IsDistinct nat_eq known → place < length known → place < length graph.rows
    place_within distinct at =
        omega (arith, length-le_from_distinct_below known (length graph.rows) distinct (λ q h. led.below q (Contains-from_any exact_unsigned_eq q known h)))

    module _ (distinct : IsDistinct nat_eq known) (at : place < length known) (new after : List ℕ)
        (gone : IsGoneThrough graph used (get_or known place 0) new known after) where
      abbrev now : List (List ℕ)
      now = set edges (get_or known place 0) new

      here_within : get_or known place 0 < length edges
      here_within = omega (arith, led.each, number_within at)

      apart : (k : ℕ) → k < place → ¬ (get_or known k 0 ≡ get_or known place 0)
      apart k h e = true≢false (sym (eq-eqb (get_or known k 0) (get_or known place 0) e) ∙ apart_from_distinct nat_eq known k place 0 distinct h at)

      was_empty : get_or edges (get_or known place 0) [] ≡ []
      was_empty = led.others (get_or known place 0) apart

      is_here : get_or (set edges (get_or known place 0) new) (get_or known place 0) [] ≡ new
      is_here = get_or-set_same edges (get_or known place 0) new [] here_within

      is_there : (number : ℕ) → ¬ (number ≡ get_or known place 0) → get_or (set edges (get_or known place 0) new) number [] ≡ get_or edges number []
      is_there number other = get_or-set_other edges (get_or known place 0) number new [] other

      as_many : length (set edges (get_or known place 0) new) ≡ length edges
      as_many = length-set edges (get_or known place 0) new

      still : (number : ℕ) → IsLedTo graph edges number → IsLedTo graph (set edges (get_or known place 0) new) number
      still _ (IsLedTo.entry number c) = IsLedTo.entry number c
      still _ (IsLedTo.required number target l c) = IsLedTo.required number target (still number l) c
      still _ (IsLedTo.imported number target l c) = IsLedTo.imported number target (still number l) c
      still _ (IsLedTo.along number target targets l e m) = ⊎_elim
          (λ same. none_within target (subst (λ t. Contains t target)
          (sym (get_or_from_slice_get edges number targets [] e) ∙ ap (λ n. get_or edges n []) same ∙ was_empty) m))
          (λ other. IsLedTo.along number target targets (still number l)
          (slice_get-get_or now number [] (omega (arith, as_many, slice_get_within edges number targets e)) ∙ ap Some (is_there number other ∙ get_or_from_slice_get edges number targets [] e)) m)
          (cases_eq number (get_or known place 0))

      grown : (number : ℕ) → Contains known number → Contains after number
      grown number m = (gone.meets.each number).1 (inl m)

      same : (k : ℕ) → k < length known → get_or after k 0 ≡ get_or known k 0
      same k h = ap (λ l. get_or l k 0) gone.meets.behind ∙ get_or_append_left known gone.meets.more 0 k h

      led_here : IsLedTo graph (set edges (get_or known place 0) new) (get_or known place 0)
      led_here = still (get_or known place 0) (led.sound (get_or known place 0) (Contains-get_or known place 0 at))

      here_read : slice_get (set edges (get_or known place 0) new) (get_or known place 0) ≡ Some new
      here_read = slice_get-get_or now (get_or known place 0) [] (omega (arith, as_many, here_within)) ∙ ap Some is_here

      new_led : (number : ℕ) → Contains new number ⊎ IsCalled gone.row number → IsLedTo graph (set edges (get_or known place 0) new) number
      new_led number either = ⊎_elim
          (λ edge. IsLedTo.along (get_or known place 0) number new led_here here_read edge)
          (λ called. ⊎_elim (λ c. IsLedTo.required (get_or known place 0) number led_here c) (λ c. IsLedTo.imported (get_or known place 0) number led_here c)
          (calls graph (get_or known place 0) gone.row gone.at number called))
          either

      new_below : (number : ℕ) → Contains new number ⊎ IsCalled gone.row number → number < length graph.rows
      new_below number either = ⊎_elim
          (λ edge. edges_within graph fits (get_or known place 0) gone.row gone.at gone.names new gone.has number edge)
          (λ called. called_within graph fits (get_or known place 0) gone.row gone.at gone.names called.1 number called.4)
          either

      done_here : IsDone graph used (set edges (get_or known place 0) new) after (get_or known place 0)
      done_here = record {
        row = gone.row;
        at = gone.at;
        names = gone.names;
        used_at = gone.used_at;
        has = subst (HasEdges graph (get_or known place 0) gone.row gone.names) (sym is_here) gone.has;
        along = λ target m. (gone.meets.each target).1 (inr (inl (subst (λ l. Contains l target) is_here m)));
        called = λ target c. (gone.meets.each target).1 (inr (inr c));
      }

      done_there : (number : ℕ) → ¬ (number ≡ get_or known place 0) → IsDone graph used edges known number
          → IsDone graph used (set edges (get_or known place 0) new) after number
      done_there number other done = record {
        row = done.row;
        at = done.at;
        names = done.names;
        used_at = done.used_at;
        has = subst (HasEdges graph number done.row done.names) (sym (is_there number other)) done.has;
        along = λ target m. grown target (done.along target (subst (λ l. Contains l target) (is_there number other) m));
        called = λ target c. grown target (done.called target c);
      }

      pub goes_on : IsLed graph used (set edges (get_or known place 0) new) after (place + 1)
      goes_on = record {
        each = as_many ∙ led.each;
        entries = λ number m. grown number (led.entries number m);
        sound = λ number m. ⊎_elim (λ old. still number (led.sound number old)) (λ met. new_led number met) ((gone.meets.each number).0 m);
        below = λ number m. ⊎_elim (λ old. led.below number old) (λ met. new_below number met) ((gone.meets.each number).0 m);
        done = λ k h. ⊎_elim
            (λ e. subst (IsDone graph used now after) (sym (same k (omega (arith, at, e)) ∙ ap (λ i. get_or known i 0) e)) done_here)
            (λ ne.
            let before : k < place = omega (arith, h, ne) in
            subst (IsDone graph used now after) (sym (same k (omega (arith, before, at)))) (done_there (get_or known k 0) (apart k before) (led.done k before)))
            (cases_eq k place);
        others = λ number away.
            is_there number (λ e. away place (omega arith) (same place at ∙ sym e))
            ∙ led.others number (λ k h e. away k (omega (arith, h)) (same k (omega (arith, h, at)) ∙ e));
        within = omega (arith, at, ap length gone.meets.behind, length-append known gone.meets.more);
      }

    -- ---- the end

    module _ (done : length known ≤ place) where
      done_at : (number : ℕ) → Contains known number → IsDone graph used edges known number
      done_at number m =
          subst (IsDone graph used edges known) (get_or_default known m.0 0 number m.1 ∙ m.2) (led.done m.0 (omega (arith, m.1, done)))

      all_known : (number : ℕ) → IsLedTo graph edges number → Contains known number
      all_known _ (IsLedTo.entry number c) = led.entries number c
      all_known _ (IsLedTo.along number target targets l e m) =
          (done_at number (all_known number l)).along target (subst (λ t. Contains t target) (sym (get_or_from_slice_get edges number targets [] e)) m)
      all_known _ (IsLedTo.required number target l c) =
          let d = done_at number (all_known number l) in
          d.called target (requires graph number d.row d.at target c)
      all_known _ (IsLedTo.imported number target l c) =
          let d = done_at number (all_known number l) in
          d.called target (imports graph number d.row d.at target c)

      pub is_active : (marks : List Bool) → length marks ≡ length graph.rows
          → ((number : ℕ) → number < length graph.rows → get_or marks number false ≡ list_any (nat_eq number) known)
          → IsActive graph used (record { edges = edges; reached = marks })
      is_active marks each marked = record {
        each_edges = led.each;
        each_reached = each;
        reached = λ number. (
          λ e. led.sound number (met number e),
          λ l.
              let m = all_known number l in
              let within = led.below number m in
              slice_get-get_or marks number false (omega (arith, each, within)) ∙ ap Some (marked number within ∙ list_any-from_Contains nat_eq_equiv number known m),
        );
        edges = λ number row list e at r.
            let d = done_at number (met number e) in
            let same = same_Some d.row row (sym d.at ∙ at) in (
              d.names,
              d.used_at,
              subst (λ w. HasEdges graph number w d.names list) same (subst (HasEdges graph number d.row d.names) (get_or_from_slice_get edges number list [] r) d.has),
            );
        others = λ number e.
            let within = slice_get_within marks number false e in
            let unmarked : list_any (nat_eq number) known ≡ false =
            sym (marked number (omega (arith, each, within))) ∙ get_or_from_slice_get marks number false false e in
            slice_get-get_or edges number [] (omega (arith, each, within, led.each))
            ∙ ap Some (led.others number (λ k h q. true≢false
            (sym (list_any-from_Contains nat_eq_equiv number known (subst (Contains known) q (Contains-get_or known k 0 (omega (arith, h, led.within))))) ∙ unmarked)));
      }
        where
          met : (number : ℕ) → slice_get marks number ≡ Some true → Contains known number
          met number e =
              let within = slice_get_within marks number true e in
              Contains-from_any exact_unsigned_eq number known
              (sym (marked number (omega (arith, each, within))) ∙ get_or_from_slice_get marks number true false e)
