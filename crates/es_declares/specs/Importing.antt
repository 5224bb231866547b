-- What a place imports, as it is looked up.
use Rattle.std.specs.Prelude.{◌≡◌, ℕ, ◌-◌, nat_le, Bool, true, false, if◌then◌else◌, List, [], ◌∷◌, ◌++◌, Option, Some, None, IsSomeAnd, length, slice_get}
use Rattle.es_outline.specs.declared.mark.Mark.{Mark}
use Rattle.es_outline.specs.declared.mark.Mark.TheVariants as mark
use Rattle.es_outline.specs.declared.mark.Role.{Role}
use Rattle.es_outline.specs.declared.mark.Role.TheVariants as is
use Rattle.pk_types.specs.declared.facts.Request.{Request}
use Rattle.pk_types.specs.declared.facts.ImportEntry.{ImportEntry}
use Rattle.es_scope.specs.Source.{Source, name_at}
use Rattle.es_scope.specs.Listed.{AreThose}
use Rattle.es_scope.specs.Known.{Known}
use Rattle.es_scope.specs.Declaring.{IsImport, default}
use Rattle.es_declares.specs.declared.imported.Wanted.{Wanted}
use Rattle.es_declares.specs.declared.imported.Wanted.TheVariants as wanted

abbrev pub is_shorthand : Option Mark → Bool
is_shorthand (Some mark.Shorthand) = true
is_shorthand _ = false

abbrev pub is_outer : Option Mark → Bool
is_outer (Some (mark.Token is.Outer token)) = true
is_outer _ = false

-- the place so many before this one
abbrev pub before : ℕ → ℕ → Option ℕ
before count place = if nat_le count place then Some (place - count) else None

abbrev pub is_shorthand_at : Source → Option ℕ → Bool
is_shorthand_at source (Some place) = is_shorthand (slice_get source.marks place)
is_shorthand_at source None = false

abbrev pub outer_at : Source → Option ℕ → Option Wanted
outer_at source (Some place) = if is_outer (slice_get source.marks place) then Some (wanted.Named place) else None
outer_at source None = None

abbrev pub space_at : Option ℕ → Option Wanted
space_at (Some star) = Some (wanted.Space star)
space_at None = None

abbrev pub role_wants : Source → ℕ → Role → Option Wanted
role_wants source place is.Imported = if is_shorthand_at source (before 1 place) then Some (wanted.Named place) else outer_at source (before 2 place)
role_wants source place is.ImportedDefault = Some (wanted.Default place)
role_wants source place is.ImportedSpace = space_at (before 2 place)
role_wants source place _ = None

abbrev pub mark_wants : Source → ℕ → Option Mark → Option Wanted
mark_wants source place (Some (mark.Token role token)) = role_wants source place role
mark_wants source place _ = None

abbrev pub wanted_at : Source → ℕ → Option Wanted
wanted_at source place = mark_wants source place (slice_get source.marks place)

-- where it is said what is imported, and its name
abbrev pub said_at : Wanted → ℕ
said_at (wanted.Named place) = place
said_at (wanted.Default place) = place
said_at (wanted.Space star) = star

abbrev pub name_of : Source → Wanted → Option (List ℕ)
name_of source (wanted.Named place) = Some (name_at source place)
name_of source (wanted.Default place) = Some default
name_of source (wanted.Space star) = None

abbrev pub start_of : Option Mark → Option ℕ
start_of (Some (mark.Token role token)) = Some token.start
start_of _ = None

abbrev pub entry_from : Source → Wanted → ℕ → Option ℕ → Option ImportEntry
entry_from source what request (Some start) = Some (record { request = request; name = name_of source what; place = start })
entry_from source what request None = None

-- the entry of what is wanted by the request
abbrev pub entry_of : Source → Option Wanted → Option ℕ → Option ImportEntry
entry_of source (Some what) (Some request) = entry_from source what request (start_of (slice_get source.marks (said_at what)))
entry_of source what request = None

-- imports by requests alone
abbrev pub known_requests : List Request → Known
known_requests requests = record { requests = requests; imports = []; bindings = [] }

abbrev pub IsImportBy : Source → List Request → ℕ → ImportEntry → Type 0
IsImportBy source requests place entry = IsImport source (known_requests requests) place entry

-- entries, and of each place the number of its own
pub record Gathered : Type 0 where
  pub entries : List ImportEntry
  pub numbers : List (Option ℕ)

abbrev pub with_entry : Gathered → Option ImportEntry → Gathered
with_entry gathered (Some entry) = record { entries = gathered.entries ++ entry ∷ []; numbers = gathered.numbers ++ Some (length gathered.entries) ∷ [] }
with_entry gathered None = record { entries = gathered.entries; numbers = gathered.numbers ++ None ∷ [] }

-- the place has the item of this number, or none
pub data IsNumberIn {A : Type 0} (IsAt : ℕ → A → Type 0) (items : List A) (place : ℕ) : Option ℕ → Type 0 where
  none : ((item : A) → ¬ IsAt place item) → IsNumberIn IsAt items place None
  some : (number : ℕ) → IsSomeAnd (slice_get items number) (IsAt place) → IsNumberIn IsAt items place (Some number)

-- the imports of a text, with their numbers
pub record AreGathered (source : Source) (requests : List Request) (gathered : Gathered) : Type 0 where
  pub those : AreThose (IsImportBy source requests) gathered.entries
  pub whole : length gathered.numbers ≡ length source.marks
  pub numbers : (place : ℕ) (number : Option ℕ) → slice_get gathered.numbers place ≡ Some number
      → IsNumberIn (IsImportBy source requests) gathered.entries place number
