-- What is known of requests where the marks before a place have been passed.
use Rattle.std.specs.Prelude.{◌≡◌, ◌<◌, ◌≤◌, ℕ, List, Option, Some, None, AllPairs, length, slice_get, unwrap_or, if◌then◌else◌}
use Rattle.std.specs.List.{AllZip, Contains}
use Rattle.pk_types.specs.declared.facts.Request.{Request}
use Rattle.es_outline.specs.declared.mark.Role.TheVariants as is
use Rattle.es_scope.specs.Source.{Source, HasRole}
use Rattle.es_scope.specs.Asking.{AsksFor}
use Rattle.es_asks.specs.Asked.{is_request}
use Rattle.es_asks.specs.Numbering.{IsNumber}

-- the item is at the place, and at none before it
pub record IsFirstAt {A : Type 0} (IsAt : ℕ → A → Type 0) (place : ℕ) (item : A) : Type 0 where
  pub at : IsAt place item
  pub first : (other : ℕ) → IsAt other item → place ≤ other

-- the items are those that are at places before the limit, each once, in the order of their first places
pub record AreFirstsTo {A : Type 0} (IsAt : ℕ → A → Type 0) (limit : ℕ) (items : List A) : Type 0 where
  pub places : List ℕ
  pub order : AllPairs (λ place other. place < other) places
  pub below : (k place : ℕ) → slice_get places k ≡ Some place → place < limit
  pub each : AllZip (IsFirstAt IsAt) places items
  pub all : (place : ℕ) (item : A) → place < limit → IsAt place item → Contains items item
  pub few : length items ≤ limit

-- the requests of the places before the limit, and of each of these the number
pub record AreAskedTo (source : Source) (limit : ℕ) (requests : List Request) (numbers : List (Option ℕ)) : Type 0 where
  pub firsts : AreFirstsTo (AsksFor source) limit requests
  pub whole : length numbers ≡ limit
  pub each : (place : ℕ) (number : Option ℕ) → slice_get numbers place ≡ Some number → IsNumber source requests place number

-- a place asks for one request at most
abbrev pub AsksOnce : Source → Type 0
AsksOnce source = (place : ℕ) (request other : Request) → AsksFor source place request → AsksFor source place other → request ≡ other

-- the number of the request of a declaration that stands at the place
abbrev pub order_at : Source → List (Option ℕ) → ℕ → Option ℕ
order_at source numbers place = if is_request (slice_get source.marks place) then unwrap_or (slice_get numbers place) None else None

-- a declaration asks at the place for the request of this number
pub record IsOrderAt (source : Source) (requests : List Request) (place number : ℕ) : Type 0 where
  pub request : Request
  pub has_number : slice_get requests number ≡ Some request
  pub is_request : HasRole source place is.Request
  pub asks : AsksFor source place request
