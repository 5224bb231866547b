-- What stands directly in which parts: requests, and functions and classes without a name.
use Rattle.std.specs.Prelude.{◌≡◌, ℕ, ◌+◌, Bool, true, false, ◌&&◌, List, Option, Some, None, IsSomeAnd, is_some, length, slice_get, slice_set, unwrap_or}
use Rattle.es_outline.specs.declared.mark.Mark.{Mark}
use Rattle.es_outline.specs.declared.mark.Mark.TheVariants as mark
use Rattle.es_outline.specs.declared.mark.Role.TheVariants as is
use Rattle.es_outline.specs.declared.mark.Part.{Part}
use Rattle.es_outline.specs.declared.mark.Part.TheVariants as part
use Rattle.es_outline.specs.Outline.{Marks}
use Rattle.pk_types.specs.declared.facts.Request.{Request}
use Rattle.pk_types.specs.declared.facts.BindKind.{BindKind}
use Rattle.pk_types.specs.declared.facts.BindKind.TheVariants as bind
use Rattle.es_scope.specs.Parts.{IsDirectlyIn}
use Rattle.es_scope.specs.Source.{Source, IsMark, HasRole}
use Rattle.es_scope.specs.Asking.{AsksFor, RequestOf}

-- in the part that begins at the opening such a place stands directly, or none does
pub data IsInside (IsSo : ℕ → Type 0) (marks : Marks) (opening : ℕ) : Option ℕ → Type 0 where
  none : ((which : Part) (place : ℕ) → IsSo place → ¬ IsDirectlyIn marks place which opening) → IsInside IsSo marks opening None
  some : (which : Part) (place : ℕ) → IsSo place → IsDirectlyIn marks place which opening → IsInside IsSo marks opening (Some place)

pub record AreInside (IsSo : ℕ → Type 0) (marks : Marks) (table : List (Option ℕ)) : Type 0 where
  pub whole : length table ≡ length marks
  pub each : (opening : ℕ) (place : Option ℕ) → slice_get table opening ≡ Some place → IsInside IsSo marks opening place

-- the table once a place is noted of the part
abbrev pub noted : Option ℕ → Bool → ℕ → List (Option ℕ) → List (Option ℕ)
noted (Some opening) true place table = slice_set table opening (Some place)
noted part is_so place table = table

-- the place that is noted of the part that begins at the opening
abbrev pub told_in : List (Option ℕ) → ℕ → Option ℕ
told_in table opening = unwrap_or (slice_get table opening) None

abbrev pub IsRequest : Source → ℕ → Type 0
IsRequest source place = HasRole source place is.Request

-- a request that asks for something
pub record IsAsking (source : Source) (place : ℕ) : Type 0 where
  pub is_request : HasRole source place is.Request
  pub request : Request
  pub asks : AsksFor source place request

-- what the function or the class is bound as that begins by the mark
abbrev pub kind_begun : Option Mark → Option BindKind
kind_begun (Some (mark.Begin part.Class)) = Some bind.Class
kind_begun (Some (mark.Begin part.Function)) = Some bind.Function
kind_begun _ = None

-- a function or a class has no name
pub record IsNameless (source : Source) (place : ℕ) : Type 0 where
  pub stands : IsMark source place mark.Unnamed
  pub kind : BindKind
  pub begins : kind_begun (slice_get source.marks (place + 1)) ≡ Some kind

-- the same of marks, as they are looked at
abbrev pub is_request : Option Mark → Bool
is_request (Some (mark.Token is.Request token)) = true
is_request _ = false

abbrev pub is_asking : Option Mark → Option ℕ → Bool
is_asking one_mark number = is_request one_mark && is_some number

abbrev pub is_unnamed : Option Mark → Bool
is_unnamed (Some mark.Unnamed) = true
is_unnamed _ = false

abbrev pub is_nameless : Option Mark → Option Mark → Bool
is_nameless one_mark next = is_unnamed one_mark && is_some (kind_begun next)

-- of each part where it begins: a request in it, one that asks for something, and where a function or a class has no name
pub record Standing : Type 0 where
  pub requests : List (Option ℕ)
  pub asking : List (Option ℕ)
  pub nameless : List (Option ℕ)

pub record AreStanding (source : Source) (standing : Standing) : Type 0 where
  pub requests : AreInside (IsRequest source) source.marks standing.requests
  pub asking : AreInside (IsAsking source) source.marks standing.asking
  pub nameless : AreInside (IsNameless source) source.marks standing.nameless

-- the declaration at the place has the request of this number, or none
pub data IsRequestNumber (source : Source) (requests : List Request) (place : ℕ) : Option ℕ → Type 0 where
  none : ((number : ℕ) → ¬ IsSomeAnd (slice_get requests number) (RequestOf source place)) → IsRequestNumber source requests place None
  some : (number : ℕ) → IsSomeAnd (slice_get requests number) (RequestOf source place) → IsRequestNumber source requests place (Some number)

-- the number at a place that is told, if one is
abbrev pub number_at : List (Option ℕ) → Option ℕ → Option ℕ
number_at numbers (Some at) = told_in numbers at
number_at numbers None = None

-- the request of what stands in the part
abbrev pub request_by : List (Option ℕ) → List (Option ℕ) → Option ℕ → Option ℕ
request_by asking numbers (Some opening) = number_at numbers (told_in asking opening)
request_by asking numbers None = None
