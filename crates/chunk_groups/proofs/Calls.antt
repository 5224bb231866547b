-- A site that calls for a module, or does not.
use Rattle.std.proofs.Common.{◌≡◌, ◌↔◌, ℕ, ◌<◌, List, length, get_or, [], ◌∷◌, ◌++◌, ◌+◌, sym, ap, subst, ◌∙◌, arith, Some, slice_get}
use Rattle.std.proofs.lemmas.Option.{same_Some, slice_get-get_or}
use Rattle.std.specs.List.{All, Contains}
use Rattle.pk_types.specs.declared.facts.Site.{Site}
use Rattle.pk_types.specs.declared.facts.SiteKind.{SiteKind}
use Rattle.pk_types.specs.declared.facts.SiteKind.TheVariants.{Require, Import}
use Rattle.pk_types.specs.declared.graph.Row.{Row}
use Rattle.pk_types.specs.Requests.{site_kinds}
use Rattle.pk_types.proofs.Members.{Contains-at, at-Contains}
use Rattle.pk_types.proofs.ListMembers.{mapped, unmapped}
use Rattle.pk_types.specs.Places.{ArePlacesIn}
use Rattle.pk_types.specs.Sites.{called_requests}
use Rattle.chunk_groups.specs.Gathered.{IsGathered, CallsAt}
use Rattle.chunk_groups.proofs.Gathering.{passes, pushes}

pub same_require : (a b : ℕ) → Require a ≡ Require b → a ≡ b
same_require a b e = cc

pub same_import : (a b : ℕ) → Import a ≡ Import b → a ≡ b
same_import a b e = cc

module _ (kind : ℕ → SiteKind) (same : (a b : ℕ) → kind a ≡ kind b → a ≡ b) (row : Row) (place : ℕ) (site : Site) (at : slice_get row.facts.sites place ≡ Some site) where
  -- a call leads to one target
  pub one_call : (request target : ℕ) → site.kind ≡ kind request → slice_get row.targets request ≡ Some target
      → (number : ℕ) → CallsAt kind row place number ↔ (target ≡ number)
  one_call request target is to number = (
    λ calls.
        let other = same_Some site calls.0 (sym at ∙ calls.2) in
        let requests = same request calls.1 (sym is ∙ ap (λ s. s.kind) other ∙ calls.3) in
        same_Some target number (sym to ∙ ap (slice_get row.targets) requests ∙ calls.4),
    λ e. (site, request, at, is, to ∙ ap Some e),
  )

  pub no_call : ((request : ℕ) → site.kind ≡ kind request → ⊥) → (number : ℕ) → ¬ CallsAt kind row place number
  no_call other number calls = other calls.1 (ap (λ s. s.kind) (same_Some site calls.0 (sym at ∙ calls.2)) ∙ calls.3)

-- some site calls
pub some_call : (kind : ℕ → SiteKind) (row : Row) (target : ℕ) → ((place : ℕ) × (place < length row.facts.sites) × CallsAt kind row place target)
    ↔ ((request : ℕ) × Contains (site_kinds row) (kind request) × (slice_get row.targets request ≡ Some target))
some_call kind row target = (
  λ some.
      let calls = some.2 in
      (calls.1, subst (λ k. Contains (site_kinds row) k) calls.3 (mapped (λ site. site.kind) row.facts.sites calls.0 (Contains-at row.facts.sites some.0 calls.0 calls.2)), calls.4),
  λ one.
      let site = unmapped (λ site. site.kind) row.facts.sites (kind one.0) one.1 in
      let at = at-Contains row.facts.sites site.0 site.1 in
      (site.1.0, site.1.1, (site.0, one.0, at, site.2, one.2)),
)

-- a request that a site calls for has a target
pub call_within : (targets : List ℕ) (sites : List Site) (place : ℕ) (site : Site) (request : ℕ) → All (λ site. ArePlacesIn targets (called_requests site.kind)) sites
    → place < length sites → site ≡ get_or sites place site → called_requests site.kind ≡ request ∷ [] → request < length targets
call_within targets sites place site request all h is one =
    subst (λ requests. ArePlacesIn targets requests) one (subst (λ s. ArePlacesIn targets (called_requests s.kind)) (sym is) (all place site h)) 0 0 (omega arith)

module _ (kind : ℕ → SiteKind) (same : (a b : ℕ) → kind a ≡ kind b → a ≡ b) (row : Row) (before numbers more : List ℕ) (place : ℕ) (site : Site)
    (so_far : IsGathered before (CallsAt kind row) place numbers) (h : place < length row.facts.sites) (is : site ≡ get_or row.facts.sites place site) where
  at : slice_get row.facts.sites place ≡ Some site
  at = slice_get-get_or row.facts.sites place site h ∙ ap Some (sym is)

  pub with_call : (request : ℕ) (targets : List ℕ) → site.kind ≡ kind request → targets ≡ row.targets → request < length row.targets
      → more ≡ numbers ++ get_or targets request 0 ∷ [] → IsGathered before (CallsAt kind row) (place + 1) more
  with_call request targets calls read within e =
      let to = slice_get-get_or row.targets request 0 within ∙ ap (λ l. Some (get_or l request 0)) (sym read) in
      subst (IsGathered before (CallsAt kind row) (place + 1)) (sym e)
      (pushes before (CallsAt kind row) place numbers so_far (get_or targets request 0) (one_call kind same row place site at request (get_or targets request 0) calls to))

  pub without_call : ((request : ℕ) → site.kind ≡ kind request → ⊥) → more ≡ numbers → IsGathered before (CallsAt kind row) (place + 1) more
  without_call other e = subst (IsGathered before (CallsAt kind row) (place + 1)) (sym e)
      (passes before (CallsAt kind row) place numbers so_far (no_call kind same row place site at other))
