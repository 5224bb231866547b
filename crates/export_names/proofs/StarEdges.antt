-- The stars of a graph that fits lead to its modules.
use Rattle.std.proofs.Common.{◌≡◌, ℕ, zero, suc, refl, ◌<◌, List, [], ◌∷◌, length, map, get_or, sym, ap, subst, ◌∙◌, arith}
use Rattle.std.specs.Prelude.{slice_index}
use Rattle.std.specs.List.{All}
use Rattle.std.proofs.lemmas.List.{length-map}
use Rattle.std.proofs.lemmas.List.Elements.{All-map, All-get_or, All-weaker}
use Rattle.pk_types.specs.declared.graph.Graph.{Graph}
use Rattle.pk_types.specs.declared.graph.Row.{Row}
use Rattle.pk_types.specs.Fitting.{RowFits, Fits}
use Rattle.pk_types.specs.Places.{ArePlacesIn}
use Rattle.export_names.specs.Starred.{star_targets, star_edges}

pub stars_in_targets : (graph : Graph) (row : Row) → RowFits graph row → ArePlacesIn row.targets row.facts.stars
stars_in_targets graph row fits = λ k d h. subst (λ count. get_or row.facts.stars k d < count) (sym fits.each) (fits.facts.places.stars k d h)

row_below : (graph : Graph) (row : Row) → RowFits graph row → All (λ target. target < length graph.rows) (star_targets row)
row_below graph row fits = All-map (λ target. target < length graph.rows) (slice_index row.targets) row.facts.stars
    (All-weaker (λ request. request < length row.targets) (λ request. slice_index row.targets request < length graph.rows)
    (λ request h. All-get_or (λ target. target < length graph.rows) row.targets request 0 h fits.targets) row.facts.stars (stars_in_targets graph row fits))

pub count_of_edges : (graph : Graph) → length (star_edges graph) ≡ length graph.rows
count_of_edges graph = length-map graph.rows star_targets

pub edges_within : (graph : Graph) → Fits graph → All (λ targets. All (λ target. target < length (star_edges graph)) targets) (star_edges graph)
edges_within graph fits = subst (λ count. All (λ targets. All (λ target. target < count) targets) (star_edges graph)) (sym (count_of_edges graph))
    (All-map (λ targets. All (λ target. target < length graph.rows) targets) star_targets graph.rows
    (All-weaker (RowFits graph) (λ row. All (λ target. target < length graph.rows) (star_targets row)) (row_below graph) graph.rows fits.rows))

pub edges_at : (rows : List Row) (number : ℕ) (default : Row) → number < length rows → get_or (map star_targets rows) number [] ≡ star_targets (get_or rows number default)
edges_at [] number default h = absurd (omega (arith, h))
edges_at (row ∷ rows) zero default h = refl
edges_at (row ∷ rows) (suc number) default h = edges_at rows number default (omega (arith, h))

-- a row that was read by its number
pub row_read : (graph : Graph) (number : ℕ) (row : Row) → Fits graph → number < length graph.rows → row ≡ get_or graph.rows number row → RowFits graph row
row_read graph number row fits within is = subst (RowFits graph) (sym is) (All-get_or (RowFits graph) graph.rows number row within fits.rows)

pub edges_read : (graph : Graph) (number : ℕ) (row : Row) → number < length graph.rows → row ≡ get_or graph.rows number row → star_targets row ≡ get_or (star_edges graph) number []
edges_read graph number row within is = ap star_targets is ∙ sym (edges_at graph.rows number row within)
