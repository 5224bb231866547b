-- The numbers in the facts of a text are places in the lists that they name.
use Rattle.std.proofs.Common.{◌≡◌, ℕ, ◌<◌, List, [], ◌∷◌, slice_get, length, refl, sym, subst}
use Rattle.std.specs.Prelude.{IsSomeAnd}
use Rattle.std.specs.List.{All}
use Rattle.std.proofs.lemmas.List.Elements.{All-nil, All-cons}
use Rattle.std.proofs.lemmas.Option.{slice_get_within}
use Rattle.pk_types.specs.declared.facts.Facts.{Facts}
use Rattle.pk_types.specs.declared.facts.Origin.{Origin}
use Rattle.pk_types.specs.declared.facts.Ref.{Ref}
use Rattle.pk_types.specs.declared.facts.Ref.TheVariants as ref
use Rattle.pk_types.specs.declared.facts.SiteKind.{SiteKind}
use Rattle.pk_types.specs.declared.facts.SiteKind.TheVariants as site
use Rattle.pk_types.specs.Origins.{origin_requests, origin_bindings}
use Rattle.pk_types.specs.Places.{ArePlacesIn, HasPlaces}
use Rattle.pk_types.specs.Sites.{ref_bindings, ref_imports, site_bindings, site_imports, space_requests, called_requests}
use Rattle.es_scope.specs.Source.{Source}
use Rattle.es_scope.specs.Known.{Known, known_of}
use Rattle.es_scope.specs.Exporting.{Exportable, ComesFrom, IsExport}
use Rattle.es_scope.specs.Declaring.{IsImport}
use Rattle.es_scope.specs.SiteRules.{RefersTo, Does, CallsFor}
use Rattle.es_scope.specs.FactsOf.{IsOrdered, IsStar, AreFacts}
use Rattle.facts_laws.proofs.Listing.{all_items}
use Rattle.facts_laws.proofs.Marks.{some_so}
use Rattle.facts_laws.proofs.Sites.{all_sites}

-- a number where something stands is a place
is_place : {A : Type 0} (items : List A) (P : A → Type 0) (number : ℕ) → IsSomeAnd (slice_get items number) P → number < length items
is_place items P number h = let found = some_so P (slice_get items number) h in slice_get_within items number found.0 found.1

no_number : {A : Type 0} (items : List A) → ArePlacesIn items []
no_number items = All-nil (λ number. number < length items)

one_place : {A : Type 0} (items : List A) (P : A → Type 0) (number : ℕ) → IsSomeAnd (slice_get items number) P → ArePlacesIn items (number ∷ [])
one_place items P number h = All-cons (λ other. other < length items) number [] (is_place items P number h) (no_number items)

module _ (source : Source) (known : Known) where
  -- exports
  requests_there : (place : ℕ) (what : Exportable) (origin : Origin) → ComesFrom source known place what origin
      → ArePlacesIn known.requests (origin_requests origin)
  requests_there place _ _ (ComesFrom.own declaration number not_imported named) = no_number known.requests
  requests_there place _ _ (ComesFrom.imported declaration said request name imports of) = one_place known.requests _ request of
  requests_there place _ _ (ComesFrom.imported_space declaration said request imports of) = one_place known.requests _ request of
  requests_there place _ _ (ComesFrom.foreign request name of) = one_place known.requests _ request of
  requests_there place _ _ (ComesFrom.space request of) = one_place known.requests _ request of
  requests_there place _ _ (ComesFrom.unnamed number named) = no_number known.requests

  bindings_there : (place : ℕ) (what : Exportable) (origin : Origin) → ComesFrom source known place what origin
      → ArePlacesIn known.bindings (origin_bindings origin)
  bindings_there place _ _ (ComesFrom.own declaration number not_imported named) = one_place known.bindings _ number named
  bindings_there place _ _ (ComesFrom.imported declaration said request name imports of) = no_number known.bindings
  bindings_there place _ _ (ComesFrom.imported_space declaration said request imports of) = no_number known.bindings
  bindings_there place _ _ (ComesFrom.foreign request name of) = no_number known.bindings
  bindings_there place _ _ (ComesFrom.space request of) = no_number known.bindings
  bindings_there place _ _ (ComesFrom.unnamed number named) = one_place known.bindings _ number named

  -- what an occurrence refers to
  own_there : (place : ℕ) (to : Ref) → RefersTo source known place to → ArePlacesIn known.bindings (ref_bindings to)
  own_there place _ (RefersTo.own declaration number manner how refers declared kind named) = one_place known.bindings _ number named
  own_there place _ (RefersTo.imported declaration said number name refers imports import) = no_number known.bindings

  imported_there : (place : ℕ) (to : Ref) → RefersTo source known place to → ArePlacesIn known.imports (ref_imports to)
  imported_there place _ (RefersTo.own declaration number manner how refers declared kind named) = no_number known.imports
  imported_there place _ (RefersTo.imported declaration said number name refers imports import) = one_place known.imports _ number import

  -- the numbers that a site names
  pub record ArePlaced (what : SiteKind) : Type 0 where
    pub bindings : ArePlacesIn known.bindings (site_bindings what)
    pub imports : ArePlacesIn known.imports (site_imports what)
    pub spaces : ArePlacesIn known.requests (space_requests what)
    pub calls : ArePlacesIn known.requests (called_requests what)

  refers_placed : (place : ℕ) (to : Ref) (what : SiteKind) → RefersTo source known place to → site_bindings what ≡ ref_bindings to
      → site_imports what ≡ ref_imports to → space_requests what ≡ [] → called_requests what ≡ [] → ArePlaced what
  refers_placed place to what h own imported no_space no_call = record {
    bindings = subst (ArePlacesIn known.bindings) (sym own) (own_there place to h);
    imports = subst (ArePlacesIn known.imports) (sym imported) (imported_there place to h);
    spaces = subst (ArePlacesIn known.requests) (sym no_space) (no_number known.requests);
    calls = subst (ArePlacesIn known.requests) (sym no_call) (no_number known.requests);
  }

  does_placed : (place first last : ℕ) (what : SiteKind) → Does source known place first last what → ArePlaced what
  does_placed _ _ _ _ (Does.begins place binding how declared initial refers) = refers_placed place (ref.Own binding) (site.Init binding) refers refl refl refl refl
  does_placed _ _ _ _ (Does.begins_unnamed place binding how binds other named) = record {
    bindings = one_place known.bindings _ binding named;
    imports = no_number known.imports;
    spaces = no_number known.requests;
    calls = no_number known.requests;
  }
  does_placed _ _ _ _ (Does.gives place to declared given refers) = refers_placed place to (site.Write to) refers refl refl refl refl
  does_placed _ _ _ _ (Does.reads place to role kept refers) = refers_placed place to (site.Read to) refers refl refl refl refl
  does_placed _ _ _ _ (Does.writes place to role assigned refers) = refers_placed place to (site.Write to) refers refl refl refl refl
  does_placed _ _ _ _ (Does.member place request member refers) = record {
    bindings = no_number known.bindings;
    imports = no_number known.imports;
    spaces = one_place known.requests _ request refers.request;
    calls = no_number known.requests;
  }
  does_placed _ _ _ _ (Does.space place request role alone refers) = record {
    bindings = no_number known.bindings;
    imports = no_number known.imports;
    spaces = one_place known.requests _ request refers.request;
    calls = no_number known.requests;
  }

  calls_placed : (place last : ℕ) (what : SiteKind) → CallsFor source known place last what → ArePlaced what
  calls_placed _ _ _ (CallsFor.import place request right value imports of) = record {
    bindings = no_number known.bindings;
    imports = no_number known.imports;
    spaces = no_number known.requests;
    calls = one_place known.requests _ request of;
  }
  calls_placed _ _ _ (CallsFor.require place request right value script calls of) = record {
    bindings = no_number known.bindings;
    imports = no_number known.imports;
    spaces = no_number known.requests;
    calls = one_place known.requests _ request of;
  }

module _ (source : Source) (facts : Facts) (are : AreFacts source facts) where
  sites_placed : All (λ site. ArePlaced source (known_of facts) site.kind) facts.sites
  sites_placed = all_sites source (known_of facts) (ArePlaced source (known_of facts))
      (λ place first last what goal h. does_placed source (known_of facts) place first last what h)
      (λ place last what h. calls_placed source (known_of facts) place last what h) facts.sites are.sites

  -- all numbers of the facts
  pub has_places : HasPlaces facts
  has_places = record {
    order = all_items (IsOrdered source facts.requests) facts.order are.order (λ number. number < length facts.requests)
        (λ place number h. slice_get_within facts.requests number h.request h.has_number);
    stars = all_items (IsStar source (known_of facts)) facts.stars are.stars (λ number. number < length facts.requests)
        (λ place number h. is_place facts.requests _ number h.request);
    imports = all_items (IsImport source (known_of facts)) facts.imports are.imports (λ entry. entry.request < length facts.requests)
        (λ place entry h. is_place facts.requests _ entry.request h.request);
    export_requests = all_items (IsExport source (known_of facts)) facts.exports are.exports (λ entry. ArePlacesIn facts.requests (origin_requests entry.origin))
        (λ place entry h. requests_there source (known_of facts) place h.what entry.origin h.origin);
    export_bindings = all_items (IsExport source (known_of facts)) facts.exports are.exports (λ entry. ArePlacesIn facts.bindings (origin_bindings entry.origin))
        (λ place entry h. bindings_there source (known_of facts) place h.what entry.origin h.origin);
    site_bindings = λ k d inside. (sites_placed k d inside).bindings;
    site_imports = λ k d inside. (sites_placed k d inside).imports;
    site_spaces = λ k d inside. (sites_placed k d inside).spaces;
    site_calls = λ k d inside. (sites_placed k d inside).calls;
  }
