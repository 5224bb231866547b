-- Names in export lists that are names of another module.
use Rattle.std.specs.Prelude.{◌↔◌, ℕ, Bool, true, false, if◌then◌else◌, List, Option, Some, None, slice_get}
use Rattle.std.specs.List.{Contains}
use Rattle.pk_types.specs.Numbers.{has}
use Rattle.es_outline.specs.declared.mark.Mark.{Mark}
use Rattle.es_outline.specs.declared.mark.Mark.TheVariants as mark
use Rattle.es_outline.specs.declared.mark.Role.TheVariants as is
use Rattle.es_outline.specs.declared.mark.Part.TheVariants as part
use Rattle.es_scope.specs.Parts.{IsDirectlyIn}
use Rattle.es_scope.specs.Source.{Source, HasRole}
use Rattle.es_scope.specs.Occurrences.{ExportsFrom}

-- a name of another module stands at the place
abbrev pub IsForwarded : Source → ℕ → Type 0
IsForwarded source place = HasRole source place is.Exported × ExportsFrom source place

-- the places where one stands
abbrev pub AreForwarded : Source → List ℕ → Type 0
AreForwarded source places = (place : ℕ) → Contains places place ↔ IsForwarded source place

-- the export list that begins at `opening` has its request at the place
abbrev pub IsRequestIn : Source → ℕ → ℕ → Type 0
IsRequestIn source place opening = HasRole source place is.Request × IsDirectlyIn source.marks place part.ExportList opening

-- those that have one
abbrev pub HaveRequests : Source → List ℕ → Type 0
HaveRequests source openings = (opening : ℕ) → Contains openings opening ↔ ((place : ℕ) × IsRequestIn source place opening)

abbrev pub is_list_mark : Option Mark → Bool
is_list_mark (Some (mark.Begin part.ExportList)) = true
is_list_mark _ = false

-- the part that begins here, if it is an export list
abbrev pub list_of : Source → Option ℕ → Option ℕ
list_of source None = None
list_of source (Some opening) = if is_list_mark (slice_get source.marks opening) then Some opening else None

-- what a mark tells within the export list that begins here, or in none: that it has a request
abbrev pub request_in : Option Mark → Option ℕ → Option ℕ
request_in (Some (mark.Token is.Request token)) list = list
request_in _ list = None

-- or that a name at the place is forwarded, where these lists have requests
abbrev pub in_list : List ℕ → ℕ → Option ℕ → Option ℕ
in_list lists place None = None
in_list lists place (Some opening) = if has lists opening then Some place else None

abbrev pub forwarded_in : List ℕ → ℕ → Option Mark → Option ℕ → Option ℕ
forwarded_in lists place (Some (mark.Token is.Exported token)) list = in_list lists place list
forwarded_in lists place _ list = None

abbrev pub is_exported : Mark → Bool
is_exported (mark.Token is.Exported token) = true
is_exported _ = false
