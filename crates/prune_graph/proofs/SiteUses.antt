-- What sites use, one after the other.
use Rattle.std.proofs.Common.{◌≡◌, ◌⊎◌, inl, inr, ⊎_elim, ℕ, ◌<◌, List, [], ◌∷◌, ◌++◌, length, Contains, Some, slice_get, refl, sym, ap, subst, subst₂, ◌∙◌}
use Rattle.std.proofs.lemmas.Option.{same_Some}
use Rattle.std.proofs.lemmas.List.Elements.{All-contains, All-head, All-map, Contains-append_left, Contains-append_cases, Contains-push}
use Rattle.pk_types.specs.declared.facts.ImportEntry.{ImportEntry}
use Rattle.pk_types.specs.declared.facts.Ref.{Ref}
use Rattle.pk_types.specs.declared.facts.Ref.TheVariants as ref
use Rattle.pk_types.specs.declared.facts.SiteKind.{SiteKind}
use Rattle.pk_types.specs.declared.facts.SiteKind.TheVariants.{Init, Read, Write, Member, Space, Require, Import}
use Rattle.pk_types.specs.declared.graph.Row.{Row}
use Rattle.pk_types.specs.Places.{ArePlacesIn, HasPlaces}
use Rattle.pk_types.specs.Requests.{site_kinds, AsksFor, NamesAtSite, UsesSpaceAtSite}
use Rattle.pk_types.specs.Sites.{site_imports, space_requests}
use Rattle.pk_types.proofs.Parts.{one_only, none_within}
use Rattle.prune_graph.specs.declared.through.Through.{Through}
use Rattle.prune_graph.specs.AtSites.{AsksBy, UsesName, UsesSpace, OneUsesName, OneUsesSpace}
use Rattle.prune_graph.specs.Gathering.{Gains, IsTheName, IsNoSpace}
use Rattle.prune_graph.proofs.Gaining.{gains_none, gains_same, gains_then}

-- ---- places

module _ (row : Row) (places : HasPlaces row.facts) (kind : SiteKind) (among : Contains (site_kinds row) kind) where
  pub import_places : (numbers : List ℕ) → site_imports kind ≡ numbers → ArePlacesIn row.facts.imports numbers
  import_places numbers is = subst (ArePlacesIn row.facts.imports) is
      (All-contains (λ kind. ArePlacesIn row.facts.imports (site_imports kind)) (site_kinds row) kind
      (All-map (λ kind. ArePlacesIn row.facts.imports (site_imports kind)) (λ site. site.kind) row.facts.sites places.site_imports) among)

  pub space_place : (request : ℕ) → space_requests kind ≡ request ∷ [] → request < length row.facts.requests
  space_place request is = All-head (λ number. number < length row.facts.requests) request [] (subst (ArePlacesIn row.facts.requests) is
      (All-contains (λ kind. ArePlacesIn row.facts.requests (space_requests kind)) (site_kinds row) kind
      (All-map (λ kind. ArePlacesIn row.facts.requests (space_requests kind)) (λ site. site.kind) row.facts.sites places.site_spaces) among))

-- ---- an import

module _ (row : Row) (place : ℕ) (entry : ImportEntry) (at : slice_get row.facts.imports place ≡ Some entry) (old new : Through) where
  pub asks : (named : List ℕ) → entry.name ≡ Some named → Gains old (IsTheName entry.request named) IsNoSpace new → Gains old (AsksFor row place) IsNoSpace new
  asks named has gains = gains_same old new (IsTheName entry.request named) (AsksFor row place) IsNoSpace IsNoSpace gains
      (λ request name. (
        λ one. (entry, at, one.0, has ∙ ap Some one.1),
        λ a.
            let same = same_Some entry a.0 (sym at ∙ a.1) in
            (ap (λ e. e.request) same ∙ a.2, same_Some named name (sym has ∙ ap (λ e. e.name) same ∙ a.3)),
      ))
      (λ request. (λ none. none, λ none. none))

  pub asks_nothing : ((named : List ℕ) → entry.name ≡ Some named → ⊥) → Gains old (AsksFor row place) IsNoSpace old
  asks_nothing lacks = gains_none old (AsksFor row place) IsNoSpace
      (λ request name a. lacks name (ap (λ e. e.name) (same_Some entry a.0 (sym at ∙ a.1)) ∙ a.3)) (λ request none. none)

-- ---- all

module _ (row : Row) where
  pub used_by_none : (through : Through) → Gains through (OneUsesName row []) (OneUsesSpace []) through
  used_by_none through = gains_none through (OneUsesName row []) (OneUsesSpace []) (λ request name one. none_within one.0 one.1) (λ request one. none_within one.0 one.1)

  pub used_by_more : (old between new : Through) (kinds more : List SiteKind) (kind : SiteKind) → more ≡ kinds ++ kind ∷ []
      → Gains old (OneUsesName row kinds) (OneUsesSpace kinds) between → Gains between (UsesName row kind) (UsesSpace kind) new
      → Gains old (OneUsesName row more) (OneUsesSpace more) new
  used_by_more old between new kinds more kind is first second = gains_same old new
      (λ request name. OneUsesName row kinds request name ⊎ UsesName row kind request name) (OneUsesName row more)
      (λ request. OneUsesSpace kinds request ⊎ UsesSpace kind request) (OneUsesSpace more)
      (gains_then old between new (OneUsesName row kinds) (UsesName row kind) (OneUsesSpace kinds) (UsesSpace kind) first second)
      (λ request name. (
        λ either. ⊎_elim (λ one. (one.0, old_one one.0 one.1, one.2)) (λ now. (kind, new_one, now)) either,
        λ one. ⊎_elim (λ before. inl (one.0, before, one.2)) (λ same. inr (subst (λ k. UsesName row k request name) same one.2)) (cases one.0 one.1),
      ))
      (λ request. (
        λ either. ⊎_elim (λ one. (one.0, old_one one.0 one.1, one.2)) (λ now. (kind, new_one, now)) either,
        λ one. ⊎_elim (λ before. inl (one.0, before, one.2)) (λ same. inr (subst (λ k. UsesSpace k request) same one.2)) (cases one.0 one.1),
      ))
    where
      old_one : (one : SiteKind) → Contains kinds one → Contains more one
      old_one one m = subst (λ l. Contains l one) (sym is) (Contains-append_left kinds (kind ∷ []) one m)

      new_one : Contains more kind
      new_one = subst (λ l. Contains l kind) (sym is) (Contains-push kinds kind)

      cases : (one : SiteKind) → Contains more one → Contains kinds one ⊎ (one ≡ kind)
      cases one m = ⊎_elim (λ before. inl before) (λ last. inr (sym (one_only kind one last))) (Contains-append_cases kinds (kind ∷ []) one (subst (λ l. Contains l one) is m))

  asked_read : (request : ℕ) (name : List ℕ) (named : Ref) → Contains (site_kinds row) (Read named) → AsksBy row named request name → NamesAtSite row request name
  asked_read request name (ref.Own binding) m u = absurd u
  asked_read request name (ref.Imported place) m u = NamesAtSite.reads place request name m u

  asked_write : (request : ℕ) (name : List ℕ) (named : Ref) → Contains (site_kinds row) (Write named) → AsksBy row named request name → NamesAtSite row request name
  asked_write request name (ref.Own binding) m u = absurd u
  asked_write request name (ref.Imported place) m u = NamesAtSite.writes place request name m u

  named_at_site : (request : ℕ) (name : List ℕ) (kind : SiteKind) → Contains (site_kinds row) kind → UsesName row kind request name → NamesAtSite row request name
  named_at_site request name (Init binding) m u = absurd u
  named_at_site request name (Read named) m u = asked_read request name named m u
  named_at_site request name (Write named) m u = asked_write request name named m u
  named_at_site request name (Member place named) m u = NamesAtSite.member request name (subst₂ (λ p n. Contains (site_kinds row) (Member p n)) u.0 u.1 m)
  named_at_site request name (Space place) m u = absurd u
  named_at_site request name (Require place) m u = absurd u
  named_at_site request name (Import place) m u = absurd u

  site_names : (request : ℕ) (name : List ℕ) → NamesAtSite row request name → OneUsesName row (site_kinds row) request name
  site_names _ _ (NamesAtSite.reads place request name m a) = (Read (ref.Imported place), m, a)
  site_names _ _ (NamesAtSite.writes place request name m a) = (Write (ref.Imported place), m, a)
  site_names _ _ (NamesAtSite.member request name m) = (Member request name, m, (refl, refl))

  spaced_at_site : (request : ℕ) (kind : SiteKind) → Contains (site_kinds row) kind → UsesSpace kind request → UsesSpaceAtSite row request
  spaced_at_site request (Init binding) m u = absurd u
  spaced_at_site request (Read named) m u = absurd u
  spaced_at_site request (Write named) m u = absurd u
  spaced_at_site request (Member place named) m u = absurd u
  spaced_at_site request (Space place) m u = subst (λ p. Contains (site_kinds row) (Space p)) u m
  spaced_at_site request (Require place) m u = absurd u
  spaced_at_site request (Import place) m u = absurd u

  pub used_at_sites : (old new : Through) → Gains old (OneUsesName row (site_kinds row)) (OneUsesSpace (site_kinds row)) new
      → Gains old (NamesAtSite row) (UsesSpaceAtSite row) new
  used_at_sites old new gains = gains_same old new (OneUsesName row (site_kinds row)) (NamesAtSite row) (OneUsesSpace (site_kinds row)) (UsesSpaceAtSite row) gains
      (λ request name. (λ one. named_at_site request name one.0 one.1 one.2, site_names request name))
      (λ request. (λ one. spaced_at_site request one.0 one.1 one.2, λ m. (Space request, m, refl)))
