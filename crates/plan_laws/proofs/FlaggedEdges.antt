-- In a bare graph no edge leads to a module without side effects.
use Rattle.std.proofs.Common.{◌≡◌, ◌≢◌, ℕ, Bool, true, false, true≢false, List, [], Contains, Some, slice_get, sym, ap, subst, ◌∙◌}
use Rattle.std.specs.List.{concat}
use Rattle.std.proofs.lemmas.Option.{same_Some}
use Rattle.pk_types.specs.declared.facts.SiteKind.TheVariants as site
use Rattle.pk_types.specs.declared.graph.Graph.{Graph}
use Rattle.pk_types.specs.declared.graph.Row.{Row}
use Rattle.pk_types.specs.declared.plan.Active.{Active}
use Rattle.pk_types.specs.declared.plan.Used.{Used}
use Rattle.pk_types.specs.Requests.{flag_of}
use Rattle.pk_types.specs.StopSearch.{HasStops}
use Rattle.pk_types.specs.Use.{HasUse}
use Rattle.pk_types.specs.ActiveEdges.{GoesThrough, SpaceGoesThrough, GivesEdges, IsActive}
use Rattle.emit_chunk.specs.Bare.{IsBare}
use Rattle.pk_types.proofs.Members.{as_long}
use Rattle.pk_types.proofs.Parts.{one_only, none_within, within_first_places, within_parts}
use Rattle.plan_laws.proofs.Unused.{no_sites, no_name, none_used}

module _ (graph : Graph) (bare : IsBare graph) where
  module _ (number : ℕ) (row : Row) (at : slice_get graph.rows number ≡ Some row) (names : List (List ℕ)) (none : (name : List ℕ) → Contains names name → ⊥) where
    nothing_through : (request : ℕ) (name : List ℕ) → GoesThrough graph number row names request name → ⊥
    nothing_through _ _ (GoesThrough.at_site request name s) = no_name graph bare number row at request name s
    nothing_through _ _ (GoesThrough.passed_on request exported name c p) = none exported c

    no_space : (request : ℕ) → SpaceGoesThrough row names request → ⊥
    no_space _ (SpaceGoesThrough.at_site request s) = no_sites graph bare number row at (site.Space request) s
    no_space _ (SpaceGoesThrough.exported request name c e) = none name c

    part_unflagged : (request : ℕ) (part : List ℕ) → GivesEdges graph number row names request part → (other : ℕ) → Contains part other → flag_of graph other ≢ Some true
    part_unflagged _ _ (GivesEdges.kept request target t f) other m flag =
        true≢false (same_Some true false (sym flag ∙ ap (flag_of graph) (sym (one_only target other m)) ∙ f))
    part_unflagged _ _ (GivesEdges.whole request target t f s) other m flag = no_space request s
    part_unflagged _ _ (GivesEdges.replaced request target through stops t f n a z) other m flag =
        let p = within_parts (HasStops graph target) through stops other z m in
        nothing_through request p.0 ((a.each p.0).0 p.2)

  pub none_flagged : (used : Used) (active : Active) → HasUse graph used → IsActive graph used active → (number target : ℕ) (targets : List ℕ)
      → slice_get active.edges number ≡ Some targets → Contains targets target → flag_of graph target ≢ Some true
  none_flagged used active use_ right number target targets e m =
      let mark = as_long active.edges active.reached number targets e (right.each_reached ∙ sym right.each_edges) in
      let row = as_long active.edges graph.rows number targets e (sym right.each_edges) in
      by row.0 row.1 mark.0 mark.1
    where
      by : (row : Row) → slice_get graph.rows number ≡ Some row → (b : Bool) → slice_get active.reached number ≡ Some b → flag_of graph target ≢ Some true
      by row at false r = none_within target (subst (λ l. Contains l target) (same_Some targets [] (sym e ∙ right.others number r)) m)
      by row at true r =
          let has = right.edges number row targets r at e in
          let p = within_parts (GivesEdges graph number row has.0) row.facts.order has.2.0 target has.2.1
          (within_first_places (concat has.2.0) target (subst (λ l. Contains l target) has.2.2 m)) in
          part_unflagged number row at has.0 (λ name c. none_used graph bare number name ((use_.names number has.0 has.1 name).0 c)) p.0 p.1 p.3 target p.4
