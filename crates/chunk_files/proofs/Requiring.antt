-- What a module requires, site by site.
use Rattle.std.proofs.Common.{◌≡◌, ℕ, ◌+◌, ◌<◌, List, [], ◌∷◌, ◌++◌, length, map, take, get_or, refl, sym, ap, subst, ◌∙◌}
use Rattle.std.proofs.lemmas.List.{append-nil, map-append, take_more}
use Rattle.std.proofs.lemmas.List.Elements.{All-get_or, All-head}
use Rattle.std.proofs.lemmas.List.Folds.{concat-append}
use Rattle.std.specs.Prelude.{slice_index, nat_eq}
use Rattle.std.specs.List.{concat}
use Rattle.indexmap.specs.IndexSet.{insert_key}
use Rattle.pk_text.specs.FirstPlaces.{first_places}
use Rattle.pk_types.specs.declared.facts.Site.{Site}
use Rattle.pk_types.specs.declared.facts.SiteKind.{SiteKind}
use Rattle.pk_types.specs.declared.facts.SiteKind.TheVariants.{Init, Read, Write, Member, Space, Require, Import}
use Rattle.pk_types.specs.declared.graph.Row.{Row}
use Rattle.pk_types.specs.Places.{ArePlacesIn}
use Rattle.pk_types.specs.Sites.{called_requests}
use Rattle.chunk_files.specs.Factories.{required_at}
use Rattle.chunk_files.proofs.FirstPlaces.{one_more}
use Rattle.chunk_files.proofs.Within.{CallsWithin}

-- the request of a `require` has a target
pub request_within : (row : Row) (place : ℕ) (site : Site) (request : ℕ) → CallsWithin row → place < length row.facts.sites → site ≡ get_or row.facts.sites place site
    → site.kind ≡ Require request → request < length row.targets
request_within row place site request calls within at is =
    let here : ArePlacesIn row.targets (called_requests (get_or row.facts.sites place site).kind) =
    All-get_or (λ s. ArePlacesIn row.targets (called_requests s.kind)) row.facts.sites place site within calls in
    All-head (λ n. n < length row.targets) request []
    (subst (λ kind. ArePlacesIn row.targets (called_requests kind)) is (subst (λ s. ArePlacesIn row.targets (called_requests s.kind)) (sym at) here))

module _ (row : Row) where
  abbrev pub required_before : ℕ → List ℕ
  required_before place = concat (map (λ site. required_at row site.kind) (take place row.facts.sites))

  one_site_more : (place : ℕ) (site : Site) → place < length row.facts.sites → site ≡ get_or row.facts.sites place site
      → required_before (place + 1) ≡ required_before place ++ required_at row site.kind
  one_site_more place site within at =
      ap (λ l. concat (map (λ s. required_at row s.kind) l)) (take_more row.facts.sites place site within ∙ ap (λ s. take place row.facts.sites ++ s ∷ []) (sym at))
      ∙ ap concat (map-append (λ s. required_at row s.kind) (take place row.facts.sites) (site ∷ []))
      ∙ concat-append (map (λ s. required_at row s.kind) (take place row.facts.sites)) (required_at row site.kind ∷ [])
      ∙ ap (λ l. required_before place ++ l) (append-nil (required_at row site.kind))

  -- a `require` more
  pub one_required : (place : ℕ) (site : Site) (request : ℕ) → place < length row.facts.sites → site ≡ get_or row.facts.sites place site → site.kind ≡ Require request
      → insert_key nat_eq (first_places (required_before place)) (slice_index row.targets request) ≡ first_places (required_before (place + 1))
  one_required place site request within at is =
      sym (ap first_places (one_site_more place site within at ∙ ap (λ kind. required_before place ++ required_at row kind) is)
      ∙ one_more (required_before place) (slice_index row.targets request))

  none_at : (kind : SiteKind) → ((request : ℕ) → kind ≡ Require request → ⊥) → required_at row kind ≡ []
  none_at (Init binding) never = refl
  none_at (Read named) never = refl
  none_at (Write named) never = refl
  none_at (Member request name) never = refl
  none_at (Space request) never = refl
  none_at (Require request) never = absurd (never request refl)
  none_at (Import request) never = refl

  -- a site that is no `require`
  pub none_required : (place : ℕ) (site : Site) → place < length row.facts.sites → site ≡ get_or row.facts.sites place site
      → ((request : ℕ) → site.kind ≡ Require request → ⊥) → first_places (required_before place) ≡ first_places (required_before (place + 1))
  none_required place site within at never =
      sym (ap first_places (one_site_more place site within at ∙ ap (λ l. required_before place ++ l) (none_at site.kind never) ∙ append-nil (required_before place)))
