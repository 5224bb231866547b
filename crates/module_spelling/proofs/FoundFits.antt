-- What a name stands for is there, where the graph fits.
use Rattle.std.proofs.Common.{◌≡◌, ◌<◌, ℕ, List, [], ◌∷◌, ◌++◌, Bool, true, false, if◌then◌else◌, Option, Some, None, length, slice_get, option_map, Contains, refl, subst}
use Rattle.std.proofs.lemmas.List.Elements.{All-contains, All-head}
use Rattle.std.proofs.lemmas.Option.{none-some, slice_get_within, get_or_from_slice_get}
use Rattle.pk_types.specs.declared.facts.ExportEntry.{ExportEntry}
use Rattle.pk_types.specs.declared.facts.Kind.{Kind}
use Rattle.pk_types.specs.declared.facts.Origin.TheVariants.{Own}
use Rattle.pk_types.specs.declared.graph.Graph.{Graph}
use Rattle.pk_types.specs.declared.graph.Row.{Row}
use Rattle.pk_types.specs.declared.found.Found.{Found}
use Rattle.pk_types.specs.declared.found.Found.TheVariants.{Binding, Namespace, Foreign, Nothing, Ambiguous}
use Rattle.pk_types.specs.Fitting.{Fits, RowFits}
use Rattle.pk_types.specs.Joined.{joined, is_same}
use Rattle.pk_types.specs.Origins.{origin_bindings}
use Rattle.pk_types.specs.Places.{ArePlacesIn}
use Rattle.pk_types.specs.Resolving.{Pair, origin_of, kind_at, ResolvesTo, StarsLeadTo}
use Rattle.pk_types.proofs.Parts.{export_of}
use Rattle.module_spelling.specs.Layout.{FoundFits}

-- a module of a kind is there
kind_within : (row : Option Row) (kind : Kind) → option_map (λ r. r.facts.kind) row ≡ Some kind → (r : Row) × (row ≡ Some r)
kind_within None kind e = absurd (none-some kind e)
kind_within (Some row) kind e = (row, refl)

pub at_get : {X : Type 0} (xs : List X) (place : ℕ) (x : X) → slice_get xs place ≡ Some x → Contains xs x
at_get xs place x e = (place, slice_get_within xs place x e, get_or_from_slice_get xs place x x e)

-- the row at a place fits
pub row_fits : (graph : Graph) → Fits graph → (number : ℕ) (row : Row) → slice_get graph.rows number ≡ Some row → RowFits graph row
row_fits graph fits number row e = All-contains (RowFits graph) graph.rows row fits.rows (at_get graph.rows number row e)

module _ (graph : Graph) (fits : Fits graph) where
  one_of : (b : Bool) (found other : Found) → FoundFits graph found → FoundFits graph (if b then found else Ambiguous)
  one_of true found other f = f
  one_of false found other f = tt

  joined_fits : (so_far found : Found) → FoundFits graph so_far → FoundFits graph found → FoundFits graph (joined so_far found)
  joined_fits Nothing found f g = g
  joined_fits (Binding owner binding) Nothing f g = f
  joined_fits (Binding owner binding) (Binding other bound) f g = one_of (is_same (Binding owner binding) (Binding other bound)) (Binding owner binding) Nothing f
  joined_fits (Binding owner binding) (Namespace number) f g = tt
  joined_fits (Binding owner binding) (Foreign number name) f g = tt
  joined_fits (Binding owner binding) Ambiguous f g = tt
  joined_fits (Namespace number) Nothing f g = f
  joined_fits (Namespace number) (Binding other bound) f g = tt
  joined_fits (Namespace number) (Namespace other) f g = one_of (is_same (Namespace number) (Namespace other)) (Namespace number) Nothing f
  joined_fits (Namespace number) (Foreign other name) f g = tt
  joined_fits (Namespace number) Ambiguous f g = tt
  joined_fits (Foreign number name) Nothing f g = f
  joined_fits (Foreign number name) (Binding other bound) f g = tt
  joined_fits (Foreign number name) (Namespace other) f g = tt
  joined_fits (Foreign number name) (Foreign other named) f g = one_of (is_same (Foreign number name) (Foreign other named)) (Foreign number name) Nothing f
  joined_fits (Foreign number name) Ambiguous f g = tt
  joined_fits Ambiguous Nothing f g = f
  joined_fits Ambiguous (Binding other bound) f g = tt
  joined_fits Ambiguous (Namespace number) f g = tt
  joined_fits Ambiguous (Foreign number name) f g = tt
  joined_fits Ambiguous Ambiguous f g = tt

  kind_place : (number : ℕ) (kind : Kind) → kind_at graph number ≡ Some kind → number < length graph.rows
  kind_place number kind e = let r = kind_within (slice_get graph.rows number) kind e in slice_get_within graph.rows number r.0 r.1

  -- an own export names a binding that is there
  own_place : (number : ℕ) (name : List ℕ) (row : Row) (binding : ℕ) → slice_get graph.rows number ≡ Some row → origin_of row.facts name ≡ Some (Own binding)
      → binding < length row.facts.bindings
  own_place number name row binding at o =
      let found = export_of row.facts name (Own binding) o in
      let places = (row_fits graph fits number row at).facts.places.export_bindings in
      All-head (λ n. n < length row.facts.bindings) binding []
      (subst (λ origin. ArePlacesIn row.facts.bindings (origin_bindings origin)) found.2
      (All-contains (λ (entry : ExportEntry). ArePlacesIn row.facts.bindings (origin_bindings entry.origin)) row.facts.exports found.0 places found.1))

  target_place : (number : ℕ) (row : Row) (request target : ℕ) → slice_get graph.rows number ≡ Some row → slice_get row.targets request ≡ Some target
      → target < length graph.rows
  target_place number row request target at t =
      All-contains (λ n. n < length graph.rows) row.targets target (row_fits graph fits number row at).targets (at_get row.targets request target t)

  mutual
    pub resolved_fits : (before : List Pair) (number : ℕ) (name : List ℕ) (found : Found) (after : List Pair) → ResolvesTo graph before number name found after
        → FoundFits graph found
    resolved_fits _ _ _ _ _ (ResolvesTo.foreign before number name kind e n) = kind_place number kind e
    resolved_fits _ _ _ _ _ (ResolvesTo.circular before number name e c) = tt
    resolved_fits _ _ _ _ _ (ResolvesTo.own before number name row binding f o) = (row, f.at, own_place number name row binding f.at o)
    resolved_fits _ _ _ _ _ (ResolvesTo.space before number name row request target f o t) = target_place number row request target f.at t
    resolved_fits _ _ _ _ _ (ResolvesTo.indirect before number name row request target other found after f o t d) =
        resolved_fits (before ++ (number, name) ∷ []) target other found after d
    resolved_fits _ _ _ _ _ (ResolvesTo.no_default before number name row f o e) = tt
    resolved_fits _ _ _ _ _ (ResolvesTo.by_stars before number name row found after f o n d) =
        stars_fit (before ++ (number, name) ∷ []) row.targets name row.facts.stars Nothing found after tt d

    stars_fit : (before : List Pair) (targets name stars : List ℕ) (so_far found : Found) (after : List Pair) → FoundFits graph so_far
        → StarsLeadTo graph before targets name stars so_far found after → FoundFits graph found
    stars_fit _ _ _ _ _ _ _ g (StarsLeadTo.ended before targets name found) = g
    stars_fit _ _ _ _ _ _ _ g (StarsLeadTo.passed before targets name star target stars so_far found after kind t k n d) =
        stars_fit before targets name stars so_far found after g d
    stars_fit _ _ _ _ _ _ _ g (StarsLeadTo.joins before between targets name star target stars so_far one found after t k r n d) =
        stars_fit between targets name stars (joined so_far one) found after
        (joined_fits so_far one g (resolved_fits before target name one between r)) d
    stars_fit _ _ _ _ _ _ _ g (StarsLeadTo.conflicts before after targets name star target stars so_far one t k r n) = tt
