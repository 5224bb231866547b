-- The numbers that are written are those of modules.
use Rattle.std.proofs.Common.{ℕ, ◌<◌, List, [], ◌∷◌, length, map, sym, subst, get_or}
use Rattle.std.proofs.lemmas.List.Elements.{All-nil, All-cons, All-head, All-tail, All-get_or, All-filter, All-append}
use Rattle.std.specs.List.{All, concat, filter}
use Rattle.pk_text.specs.FirstPlaces.{first_places}
use Rattle.pk_types.specs.declared.facts.Site.{Site}
use Rattle.pk_types.specs.declared.facts.SiteKind.{SiteKind}
use Rattle.pk_types.specs.declared.facts.SiteKind.TheVariants.{Init, Read, Write, Member, Space, Require, Import}
use Rattle.pk_types.specs.declared.graph.Row.{Row}
use Rattle.pk_types.specs.declared.graph.Graph.{Graph}
use Rattle.pk_types.specs.declared.plan.Plan.{Plan}
use Rattle.pk_types.specs.declared.plan.Item.{Item}
use Rattle.pk_types.specs.declared.plan.Item.TheVariants.{Segment, Evaluate}
use Rattle.pk_types.specs.Places.{ArePlacesIn}
use Rattle.pk_types.specs.Sites.{called_requests}
use Rattle.pk_types.specs.Fitting.{RowFits}
use Rattle.emit_chunk.specs.Entry.{is_root}
use Rattle.emit_chunk.specs.Factories.{evaluated}
use Rattle.emit_chunk.specs.Ranges.{AreBelow, module_of}
use Rattle.chunk_files.specs.Factories.{required_at, required_of}

pub evaluated_below : (count : ℕ) (items : List Item) → All (λ item. module_of item < count) items → AreBelow count (evaluated items)
evaluated_below count [] all = All-nil (λ number. number < count)
evaluated_below count (Segment number ∷ items) all =
    evaluated_below count items (All-tail (λ item. module_of item < count) (Segment number) items all)
evaluated_below count (Evaluate number ∷ items) all =
    All-cons (λ number. number < count) number (evaluated items) (All-head (λ item. module_of item < count) (Evaluate number) items all) (evaluated_below count items (All-tail (λ item. module_of item < count) (Evaluate number) items all))

pub roots_below : (plan : Plan) (count : ℕ) (modules : List ℕ) → AreBelow count modules → AreBelow count (filter (is_root plan) modules)
roots_below plan count modules below = All-filter (is_root plan) (λ number. number < count) modules below

abbrev pub CallsWithin : Row → Type 0
CallsWithin row = All (λ site. ArePlacesIn row.targets (called_requests site.kind)) row.facts.sites

-- the calls of a row that fits have targets
pub calls_within : (graph : Graph) (row : Row) → RowFits graph row → CallsWithin row
calls_within graph row fits =
    subst (λ count. All (λ site. All (λ number. number < count) (called_requests site.kind)) row.facts.sites) (sym fits.each) fits.facts.places.site_calls

required_at_below : (count : ℕ) (row : Row) (kind : SiteKind) → AreBelow count row.targets → ArePlacesIn row.targets (called_requests kind) → AreBelow count (required_at row kind)
required_at_below count row (Init binding) below all = All-nil (λ number. number < count)
required_at_below count row (Read named) below all = All-nil (λ number. number < count)
required_at_below count row (Write named) below all = All-nil (λ number. number < count)
required_at_below count row (Member request name) below all = All-nil (λ number. number < count)
required_at_below count row (Space request) below all = All-nil (λ number. number < count)
required_at_below count row (Require request) below all =
    All-cons (λ number. number < count) (get_or row.targets request 0) []
    (All-get_or (λ number. number < count) row.targets request 0 (All-head (λ number. number < length row.targets) request [] all) below)
    (All-nil (λ number. number < count))
required_at_below count row (Import request) below all = All-nil (λ number. number < count)

required_each_below : (count : ℕ) (row : Row) (sites : List Site) → AreBelow count row.targets → All (λ site. ArePlacesIn row.targets (called_requests site.kind)) sites
    → AreBelow count (concat (map (λ site. required_at row site.kind) sites))
required_each_below count row [] below all = All-nil (λ number. number < count)
required_each_below count row (site ∷ sites) below all =
    All-append (λ number. number < count) (required_at row site.kind) (concat (map (λ s. required_at row s.kind) sites))
    (required_at_below count row site.kind below (All-head (λ s. ArePlacesIn row.targets (called_requests s.kind)) site sites all))
    (required_each_below count row sites below (All-tail (λ s. ArePlacesIn row.targets (called_requests s.kind)) site sites all))

firsts_below : (count : ℕ) (numbers : List ℕ) → AreBelow count numbers → AreBelow count (first_places numbers)
firsts_below count [] all = all
firsts_below count (number ∷ numbers) all =
    All-cons (λ n. n < count) number _ (All-head (λ n. n < count) number numbers all)
    (All-filter _ (λ n. n < count) (first_places numbers) (firsts_below count numbers (All-tail (λ n. n < count) number numbers all)))

-- what a module requires are modules
pub required_below : (graph : Graph) (row : Row) → RowFits graph row → AreBelow (length graph.rows) (required_of row)
required_below graph row fits =
    firsts_below (length graph.rows) _ (required_each_below (length graph.rows) row row.facts.sites fits.targets (calls_within graph row fits))
