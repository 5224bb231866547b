-- The site that is told of a place stands there, and each that stands there is told.
use Rattle.std.proofs.Common.{◌≡◌, ℕ, ◌+◌, ◌<◌, List, [], ◌∷◌, ◌++◌, Option, Some, None, length, slice_get, refl, sym, ap, subst, ◌∙◌}
use Rattle.std.proofs.lemmas.Option.{none-some, same_Some, slice_get_within}
use Rattle.es_tree.specs.declared.tokens.Token.{Token}
use Rattle.es_outline.specs.declared.mark.Mark.{Mark}
use Rattle.es_outline.specs.declared.mark.Mark.TheVariants as mark
use Rattle.es_outline.specs.declared.mark.Role.{Role}
use Rattle.pk_types.specs.declared.facts.Site.{Site}
use Rattle.pk_types.specs.declared.facts.SiteKind.{SiteKind}
use Rattle.es_scope.specs.Source.{Source, token_of}
use Rattle.es_scope.specs.Known.{Known}
use Rattle.es_scope.specs.SiteRules.{IsSite, Covers}
use Rattle.es_sites.specs.declared.done.Done.{Done}
use Rattle.es_sites.specs.Marks.{token_at}
use Rattle.es_sites.specs.Tables.{Tables, AreTables, known}
use Rattle.es_sites.specs.Done.{kind_of, spanned, site_of, done_with, done_at, site_at}
use Rattle.es_sites.specs.Listing.{AreBefore}
use Rattle.es_sites.proofs.Listing.{nothing_more, pushed}
use Rattle.es_sites.proofs.DoneSound.{IsDoing, done_does}
use Rattle.es_sites.proofs.DoneWhole.{IsSpanned, does_spanned, calls_spanned}

token_there : (found : Option Mark) (token : Token) → token_of found ≡ Some token → (role : Role) × (found ≡ Some (mark.Token role token))
token_there (Some (mark.Token role other)) token e = (role, ap (λ (t : Token). Some (mark.Token role t)) (same_Some other token e))
token_there _ token e = absurd (none-some token e)

covers : (source : Source) (one : Done) (one_site : Site) (first last : Option Token) → token_at source one.first ≡ first → token_at source one.last ≡ last
    → spanned (kind_of source one) first last ≡ Some one_site → Covers source one.first one.last (kind_of source one) one_site
covers source one one_site (Some first) (Some last) f l e =
    let same = same_Some {A = Site} (record { kind = kind_of source one; start = first.start; end = last.end }) one_site e in
    let starts = token_there (slice_get source.marks one.first) first f in
    let ends = token_there (slice_get source.marks one.last) last l in
    record {
      does = sym (ap (λ (s : Site). s.kind) same);
      starts = (starts.0, first, starts.1, sym (ap (λ (s : Site). s.start) same));
      ends = (ends.0, last, ends.1, sym (ap (λ (s : Site). s.end) same));
    }
covers source one one_site None last f l e = absurd (none-some one_site e)
covers source one one_site (Some first) None f l e = absurd (none-some one_site e)

site_by : (source : Source) (k : Known) (place : ℕ) (one : Done) (one_site : Site) → IsDoing source k place one → Covers source one.first one.last (kind_of source one) one_site
    → IsSite source k place one_site
site_by source k place one one_site (IsDoing.does_it g d) c = IsSite.does one.first one.last (kind_of source one) g d c
site_by source k place one one_site (IsDoing.calls_it e d) c =
    IsSite.calls one.last (kind_of source one) d (subst (λ (first : ℕ). Covers source first one.last (kind_of source one) one_site) e c)

spanned_some : (kind : SiteKind) (first last : Option Token) (one other : Token) → first ≡ Some one → last ≡ Some other → (one_site : Site) × (spanned kind first last ≡ Some one_site)
spanned_some kind first last one other f l = (
  record { kind = kind; start = one.start; end = other.end },
  ap (λ (t : Option Token). spanned kind t last) f ∙ ap (λ (t : Option Token). spanned kind (Some one) t) l,
)

site_some : (source : Source) (told : Option Done) → IsSpanned source told → (one_site : Site) × (site_of source told ≡ Some one_site)
site_some source told h =
    let some = spanned_some (kind_of source h.one) (token_at source h.one.first) (token_at source h.one.last) h.starts.token h.ends.token h.starts.at h.ends.at in
    (some.0, ap (site_of source) h.is ∙ some.1)

module _ (tables : Tables) (are : AreTables tables) (place : ℕ) where
  by_done : (one_site : Site) (told : Option Done) → done_at tables place ≡ told → site_of tables.source told ≡ Some one_site → IsSite tables.source (known tables) place one_site
  by_done one_site None d e = absurd (none-some one_site e)
  by_done one_site (Some one) d e =
      site_by tables.source (known tables) place one one_site (done_does tables are place one d)
      (covers tables.source one one_site (token_at tables.source one.first) (token_at tables.source one.last) refl refl e)

  pub site_stands : (one_site : Site) → site_at tables place ≡ Some one_site → IsSite tables.source (known tables) place one_site
  unfolding site_at
  site_stands one_site e = by_done one_site (done_at tables place) refl e

  site_spanned : (one_site : Site) → IsSite tables.source (known tables) place one_site → IsSpanned tables.source (done_at tables place)
  site_spanned one_site (IsSite.does first last what g d c) =
      does_spanned tables are place first last what g d (c.starts.0, (c.starts.1, c.starts.2)) (record { token = c.ends.1; at = ap token_of c.ends.2 })
  site_spanned one_site (IsSite.calls last what d c) = calls_spanned tables are place last what d (record { token = c.ends.1; at = ap token_of c.ends.2 })

  pub site_told : (one_site : Site) → IsSite tables.source (known tables) place one_site → (other : Site) × (site_at tables place ≡ Some other)
  unfolding site_at
  site_told one_site h = site_some tables.source (done_at tables place) (site_spanned one_site h)

  -- a place where a site stands is one of a mark
  marked : (found : Option Mark) → slice_get tables.source.marks place ≡ found → (one_site : Site) → site_at tables place ≡ Some one_site → place < length tables.source.marks
  unfolding site_at done_at
  marked (Some one_mark) e one_site h = slice_get_within tables.source.marks place one_mark e
  marked None e one_site h =
      absurd (none-some one_site (sym (ap (λ (m : Option Mark). site_of tables.source (done_with tables place m)) e) ∙ h))

  pub site_within : (one_site : Site) → IsSite tables.source (known tables) place one_site → place < length tables.source.marks
  site_within one_site h = let told = site_told one_site h in marked (slice_get tables.source.marks place) refl told.0 told.1

  pub site_pushed : (items longer : List Site) (one_site : Site) → AreBefore (IsSite tables.source (known tables)) place items → Some one_site ≡ site_at tables place
      → longer ≡ items ++ one_site ∷ [] → AreBefore (IsSite tables.source (known tables)) (place + 1) longer
  site_pushed items longer one_site so_far e more = pushed (IsSite tables.source (known tables)) place items longer one_site so_far (site_stands one_site (sym e)) more

  pub no_site : (items : List Site) → AreBefore (IsSite tables.source (known tables)) place items → None ≡ site_at tables place
      → AreBefore (IsSite tables.source (known tables)) (place + 1) items
  no_site items so_far e =
      nothing_more (IsSite tables.source (known tables)) place items so_far (λ one_site h. let told = site_told one_site h in none-some told.0 (e ∙ told.1))
