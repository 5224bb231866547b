-- The first early error of a text, if there is one.
use Rattle.std.specs.Prelude.{ℕ, nat_lt, if◌then◌else◌, List, Option, Some, None, slice_get}
use Rattle.es_outline.specs.declared.mark.Mark.{Mark}
use Rattle.es_outline.specs.declared.mark.Mark.TheVariants as mark
use Rattle.es_scope.specs.declared.kinds.EarlyError.{EarlyError}
use Rattle.es_scope.specs.declared.kinds.EarlyError.TheVariants.{DeclaredTwice, ExportedTwice, ExportsUndeclared}
use Rattle.es_scope.specs.Declaring.{default}
use Rattle.es_scope.specs.Exporting.{ExportsName}
use Rattle.es_scope.specs.Source.{Source, name_at}
use Rattle.es_scope.specs.Faults.{IsEarly, IsFirstEarly}

pub data IsFirstError (source : Source) : Option (ℕ × EarlyError) → Type 0 where
  none : ((place : ℕ) (error : EarlyError) → ¬ IsEarly source place error) → IsFirstError source None
  some : (place : ℕ) (error : EarlyError) → IsFirstEarly source place error → IsFirstError source (Some (place, error))

-- the one of two errors at the lesser place, or the first of two at one place
abbrev pub earlier : Option (ℕ × EarlyError) → Option ℕ → EarlyError → Option (ℕ × EarlyError)
earlier None (Some place) further = Some (place, further)
earlier (Some first) (Some place) further = if nat_lt place first.0 then Some (place, further) else Some first
earlier error None further = error

abbrev pub first_error : Option ℕ → Option ℕ → Option ℕ → Option (ℕ × EarlyError)
first_error declared exported undeclared = earlier (earlier (earlier None declared DeclaredTwice) exported ExportedTwice) undeclared ExportsUndeclared

abbrev pub start_of : Option Mark → ℕ
start_of (Some (mark.Token role token)) = token.start
start_of _ = 0

-- the early error at the place speaks of this name: the one that is declared there, by which is exported, or that is exported in vain
pub data SpeaksOf (source : Source) (place : ℕ) : EarlyError → List ℕ → Type 0 where
  declared : SpeaksOf source place DeclaredTwice (name_at source place)
  exported : (name : List ℕ) → ExportsName source place name → SpeaksOf source place ExportedTwice name
  undeclared : SpeaksOf source place ExportsUndeclared (name_at source place)

-- a name of what the place exports stands at this place; it is `default` where none does
abbrev pub said_at : Source → Option ℕ → List ℕ
said_at source (Some place) = name_at source place
said_at source None = default

-- the byte at which the token at the place starts; 0 where a mark of another kind stands
abbrev pub start_at : Source → ℕ → ℕ
start_at source place = start_of (slice_get source.marks place)
