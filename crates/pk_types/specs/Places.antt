-- The numbers in a module's facts are places in the lists that they name.
use Rattle.std.specs.Prelude.{ℕ, ◌<◌, ◌^◌, List, length}
use Rattle.std.specs.List.{All}
use Rattle.pk_types.specs.declared.facts.Facts.{Facts}
use Rattle.pk_types.specs.Origins.{origin_requests, origin_bindings}
use Rattle.pk_types.specs.Sites.{site_bindings, site_imports, space_requests, called_requests}

-- each number is a place in the list
abbrev pub ArePlacesIn : {A : Type 0} → List A → List ℕ → Type 0
ArePlacesIn items numbers = All (λ number. number < length items) numbers

-- each number in the facts that names an item is a place in that item's list
pub record HasPlaces (facts : Facts) : Type 0 where
  pub order : ArePlacesIn facts.requests facts.order
  pub stars : ArePlacesIn facts.requests facts.stars
  pub imports : All (λ entry. entry.request < length facts.requests) facts.imports
  pub export_requests : All (λ entry. ArePlacesIn facts.requests (origin_requests entry.origin)) facts.exports
  pub export_bindings : All (λ entry. ArePlacesIn facts.bindings (origin_bindings entry.origin)) facts.exports
  pub site_bindings : All (λ site. ArePlacesIn facts.bindings (site_bindings site.kind)) facts.sites
  pub site_imports : All (λ site. ArePlacesIn facts.imports (site_imports site.kind)) facts.sites
  pub site_spaces : All (λ site. ArePlacesIn facts.requests (space_requests site.kind)) facts.sites
  pub site_calls : All (λ site. ArePlacesIn facts.requests (called_requests site.kind)) facts.sites

-- a list whose places 32 bits can number
abbrev pub IsShort : {A : Type 0} → List A → Type 0
IsShort items = length items < 2 ^ 32

-- each list of the facts has fewer than 2^32 items
pub record HasShortLists (facts : Facts) : Type 0 where
  pub requests : IsShort facts.requests
  pub order : IsShort facts.order
  pub imports : IsShort facts.imports
  pub exports : IsShort facts.exports
  pub stars : IsShort facts.stars
  pub bindings : IsShort facts.bindings
  pub sites : IsShort facts.sites
  pub free : IsShort facts.free
  pub inner : IsShort facts.inner
