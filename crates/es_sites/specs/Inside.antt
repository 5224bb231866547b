-- What stands directly in parts, as tables by the places where these begin.
use Rattle.std.specs.Prelude.{◌≡◌, ◌+◌, ℕ, cond, ◌&&◌, List, Option, Some, None, IsSomeAnd, length, set, slice_get, unwrap_or}
use Rattle.es_outline.specs.declared.mark.Mark.TheVariants as mark
use Rattle.es_outline.specs.declared.mark.Role.{Role}
use Rattle.es_outline.specs.declared.mark.Role.TheVariants as is
use Rattle.es_outline.specs.declared.mark.Part.{Part}
use Rattle.es_outline.specs.declared.mark.Part.TheVariants as part
use Rattle.es_outline.specs.Outline.{Marks}
use Rattle.pk_types.specs.declared.facts.Request.{Request}
use Rattle.es_scope.specs.Parts.{IsDirectlyIn}
use Rattle.es_scope.specs.Source.{Source, IsMark, HasRole}
use Rattle.es_scope.specs.Asking.{AsksFor}
use Rattle.es_sites.specs.Marks.{role_of, is_unnamed, begins_class}
use Rattle.es_sites.specs.declared.inside.Inside.{Inside}

-- an item of a place that stands directly in the part, or that none does
pub data IsIn (marks : Marks) (IsAt : ℕ → ℕ → Type 0) (opening : ℕ) : Option ℕ → Type 0 where
  none : ((place item : ℕ) (which : Part) → IsDirectlyIn marks place which opening → ¬ IsAt place item) → IsIn marks IsAt opening None
  some : (place item : ℕ) (which : Part) → IsDirectlyIn marks place which opening → IsAt place item → IsIn marks IsAt opening (Some item)

pub record AreIn (marks : Marks) (IsAt : ℕ → ℕ → Type 0) (table : List (Option ℕ)) : Type 0 where
  pub whole : length table ≡ length marks
  pub each : (opening : ℕ) (found : Option ℕ) → slice_get table opening ≡ Some found → IsIn marks IsAt opening found

-- the request of a declaration stands at the place, and has the number
pub record IsRequest (source : Source) (requests : List Request) (place number : ℕ) : Type 0 where
  pub role : HasRole source place is.Request
  pub asks : IsSomeAnd (slice_get requests number) (AsksFor source place)

-- the mark that a class has no name stands at the place
pub record IsUnnamedClass (source : Source) (place item : ℕ) : Type 0 where
  pub same : place ≡ item
  pub unnamed : IsMark source place mark.Unnamed
  pub behind : IsMark source (place + 1) (mark.Begin part.Class)

pub record AreInside (source : Source) (asked : List Request) (inside : Inside) : Type 0 where
  pub requests : AreIn source.marks (IsRequest source asked) inside.requests.items
  pub classes : AreIn source.marks (IsUnnamedClass source) inside.classes.items

-- the table with the item of a place in this part
abbrev pub noted : Option ℕ → Option ℕ → List (Option ℕ) → List (Option ℕ)
noted (Some opening) (Some item) table = set table opening (Some item)
noted _ _ table = table

abbrev pub requested : Option Role → Option ℕ → Option ℕ
requested (Some is.Request) number = number
requested _ number = None

-- the number of the request of a declaration that stands at the place
abbrev pub request_at : Source → List (Option ℕ) → ℕ → Option ℕ
request_at source numbers place = requested (role_of (slice_get source.marks place)) (unwrap_or (slice_get numbers place) None)

-- the place, where the mark that a class has no name stands there
abbrev pub class_by : Marks → ℕ → Option ℕ
class_by marks place = cond (is_unnamed (slice_get marks place) && begins_class (slice_get marks (place + 1))) (Some place) None
