-- The modules that stars lead to have the names that a module exports.
use Rattle.std.proofs.Common.{◌≡◌, ◌↔◌, ℕ, zero, suc, ◌<◌, ◌⊎◌, inl, inr, ⊎_elim, List, [], ◌∷◌, Some, length, get_or, map, slice_get, refl, sym, ap, subst, ◌∙◌, arith}
use Rattle.std.specs.Prelude.{slice_index}
use Rattle.std.specs.List.{Contains}
use Rattle.std.proofs.lemmas.List.{length-map}
use Rattle.std.proofs.lemmas.List.Elements.{Contains-get_or}
use Rattle.std.proofs.lemmas.Option.{slice_get-get_or, slice_get_within, get_or_from_slice_get}
use Rattle.pk_types.specs.declared.graph.Graph.{Graph}
use Rattle.pk_types.specs.declared.graph.Row.{Row}
use Rattle.pk_types.specs.Fitting.{Fits}
use Rattle.pk_types.specs.ExportedNames.{ExportsItself, StarLeadsTo, IsStarred, IsExported}
use Rattle.pk_types.specs.ExportedNames.IsStarred.{here, further}
use Rattle.export_names.specs.Starred.{star_targets, star_edges, IsReached}
use Rattle.export_names.specs.Starred.IsReached.{itself, along}
use Rattle.export_names.specs.Collected.{IsCollected}
use Rattle.export_names.proofs.StarSearch.{below}
use Rattle.export_names.proofs.StarEdges.{stars_in_targets, row_read, edges_read, count_of_edges, edges_within}

row_at : (rows : List Row) (number : ℕ) → number < length rows → (row : Row) × (slice_get rows number ≡ Some row)
row_at [] number h = absurd (omega (arith, h))
row_at (row ∷ rows) zero h = (row, refl)
row_at (row ∷ rows) (suc number) h = row_at rows number (omega (arith, h))

map_at : (f : ℕ → ℕ) (numbers : List ℕ) (k default : ℕ) → k < length numbers → get_or (map f numbers) k default ≡ f (get_or numbers k 0)
map_at f [] k default h = absurd (omega (arith, h))
map_at f (number ∷ numbers) zero default h = refl
map_at f (number ∷ numbers) (suc k) default h = map_at f numbers k default (omega (arith, h))

edge_leads : (graph : Graph) (number target : ℕ) → Fits graph → number < length graph.rows → Contains (get_or (star_edges graph) number []) target → StarLeadsTo graph number target
edge_leads graph number target fits within edge =
    let found = row_at graph.rows number within in
    let row = found.0 in
    let read = sym (get_or_from_slice_get graph.rows number row row found.1) in
    let among : Contains (star_targets row) target = subst (λ l. Contains l target) (sym (edges_read graph number row within read)) edge in
    let place : among.0 < length row.facts.stars = omega (arith, among.1, length-map row.facts.stars (slice_index row.targets)) in
    let star = get_or row.facts.stars among.0 0 in
    let in_targets : star < length row.targets = stars_in_targets graph row (row_read graph number row fits within read) among.0 0 place in (
      row,
      star,
      found.1,
      Contains-get_or row.facts.stars among.0 0 place,
      slice_get-get_or row.targets star 0 in_targets ∙ ap Some (sym (map_at (slice_index row.targets) row.facts.stars among.0 target place) ∙ among.2),
    )

leads_edge : (graph : Graph) (number target : ℕ) → StarLeadsTo graph number target → Contains (get_or (star_edges graph) number []) target
leads_edge graph number target leads =
    let row = leads.0 in
    let star = leads.1 in
    let there = leads.3 in
    let within = slice_get_within graph.rows number row leads.2 in
    subst (λ l. Contains l target) (edges_read graph number row within (sym (get_or_from_slice_get graph.rows number row row leads.2))) (
      there.0,
      omega (arith, there.1, length-map row.facts.stars (slice_index row.targets)),
      map_at (slice_index row.targets) row.facts.stars there.0 target there.1 ∙ ap (slice_index row.targets) (same row.facts.stars there.0 star there.1 there.2)
          ∙ get_or_from_slice_get row.targets star target 0 leads.4,
    )
  where
    same : (numbers : List ℕ) (k number : ℕ) → k < length numbers → get_or numbers k number ≡ number → get_or numbers k 0 ≡ number
    same [] k number h e = absurd (omega (arith, h))
    same (first ∷ numbers) zero number h e = e
    same (first ∷ numbers) (suc k) number h e = same numbers k number (omega (arith, h)) e

module _ (graph : Graph) (from : ℕ) (fits : Fits graph) (first : from < length graph.rows) where
  pub reached_within : (number : ℕ) → IsReached (star_edges graph) from number → number < length graph.rows
  reached_within number reaches =
      omega (arith, count_of_edges graph, below (star_edges graph) from (omega (arith, first, count_of_edges graph)) (edges_within graph fits) number reaches)

  -- what is starred from a module that is reached is starred from the first
  carried : (number : ℕ) (name : List ℕ) → IsReached (star_edges graph) from number → IsStarred graph number name → IsStarred graph from name
  carried number name itself starred = starred
  carried other name (along number target reaches edge) starred =
      carried number name reaches (further number target name (edge_leads graph number target fits (reached_within number reaches) edge) starred)

  starred_by : (number : ℕ) (name : List ℕ) → IsReached (star_edges graph) from number → ExportsItself graph number name → ExportsItself graph from name ⊎ IsStarred graph from name
  starred_by number name itself exports = inl exports
  starred_by other name (along number target reaches edge) exports =
      inr (carried number name reaches (here number target name (edge_leads graph number target fits (reached_within number reaches) edge) exports))

  ends_at : (number : ℕ) (name : List ℕ) → IsStarred graph number name → IsReached (star_edges graph) from number
      → (target : ℕ) × IsReached (star_edges graph) from target × ExportsItself graph target name
  ends_at number name (here at target named leads exports) reaches = (target, along at target reaches (leads_edge graph at target leads), exports)
  ends_at number name (further at target named leads starred) reaches = ends_at target named starred (along at target reaches (leads_edge graph at target leads))

  pub collected_exported : (modules : List ℕ) → ((number : ℕ) → Contains modules number ↔ IsReached (star_edges graph) from number)
      → (name : List ℕ) → IsCollected graph from modules name ↔ IsExported graph from name
  collected_exported modules each name = (
    λ one. ⊎_elim
        (λ own. inl (subst (λ n. ExportsItself graph n name) own one.2))
        (λ other. ⊎_elim (λ own. inl own) (λ starred. inr (other, starred)) (starred_by one.0 name ((each one.0).0 one.1) one.2))
        one.3,
    λ one. ⊎_elim
        (λ own. (from, (each from).1 itself, own, inl refl))
        (λ other. let found = ends_at from name other.1 itself in (found.0, (each found.0).1 found.1, found.2, inr other.0))
        one,
  )
