-- What is noted of parts: for some of them a place that stands directly in the part and is of some kind.
use Rattle.std.specs.Prelude.{◌≡◌, ◌≢◌, ◌<◌, ◌+◌, ◌&&◌, ℕ, if◌then◌else◌, Option, Some, None, is_some, length, slice_get}
use Rattle.es_exports.specs.Entries.{Entries, at}
use Rattle.es_exports.specs.declared.inside.Inside.{Inside}
use Rattle.es_exports.specs.Seeing.{Seen, role_at, begun_at, part_at, number_at, is_request, is_unnamed, is_unit, default_of}

-- a place before the limit is noted of the part, or none is of it
pub data IsNoted (part_of : ℕ → Option ℕ) (limit part : ℕ) : Option ℕ → Type 0 where
  none : ((place : ℕ) → place < limit → part_of place ≢ Some part) → IsNoted part_of limit part None
  some : (place : ℕ) → part_of place ≡ Some part → IsNoted part_of limit part (Some place)

abbrev pub AreNoted : (ℕ → Option ℕ) → ℕ → Entries → Type 0
AreNoted part_of limit entries = (part : ℕ) → IsNoted part_of limit part (at entries part)

-- the part that a request stands directly in, a request with a number, and the mark that the function or class of an
-- `export default` has no name
abbrev pub of_request : Seen → ℕ → Option ℕ
of_request seen place = if is_request (role_at seen.source place) then part_at seen place else None

abbrev pub of_numbered : Seen → ℕ → Option ℕ
of_numbered seen place = if is_request (role_at seen.source place) && is_some (number_at seen place) then part_at seen place else None

abbrev pub of_unnamed : Seen → ℕ → Option ℕ
of_unnamed seen place =
    if is_unnamed (slice_get seen.source.marks place) && is_unit (begun_at seen.source (place + 1)) then default_of seen.source (part_at seen place) else None

pub record AreInside (seen : Seen) (inside : Inside) : Type 0 where
  pub requests : AreNoted (of_request seen) (length seen.source.marks) inside.requests
  pub numbered : AreNoted (of_numbered seen) (length seen.source.marks) inside.numbered
  pub unnamed : AreNoted (of_unnamed seen) (length seen.source.marks) inside.unnamed
