-- The names that a text uses freely, and those that it declares within, as scopes tell of them.
use Rattle.std.specs.Prelude.{◌≡◌, ◌↔◌, ◌<◌, ◌-◌, ℕ, ◌+◌, Bool, true, false, ◌||◌, not, if◌then◌else◌, nat_lt, nat_eq, List, Option, Some, None, is_some, slice_get}
use Rattle.std.specs.List.{Contains}
use Rattle.pk_text.specs.declared.text.Key.{Key as Borrowed}
use Rattle.pk_text.specs.Places.{place_of}
use Rattle.export_names.specs.Collected.{key_names, HasMore}
use Rattle.es_outline.specs.declared.mark.Mark.{Mark}
use Rattle.es_outline.specs.declared.mark.Mark.TheVariants as mark
use Rattle.es_outline.specs.declared.mark.Role.TheVariants as is
use Rattle.es_outline.specs.declared.mark.Part.TheVariants as part
use Rattle.es_scope.specs.declared.found.Declared.{Declared}
use Rattle.es_scope.specs.Firsts.{Key}
use Rattle.es_scope.specs.Scopes.{arguments}
use Rattle.es_scope.specs.Source.{Source}
use Rattle.es_scope.specs.Telling.{Told, declared_by}

-- the number of the name of the mark at the place, where it is a Reference that refers to nothing
abbrev pub free_number : Told → ℕ → Option Mark → Option ℕ
free_number told place (Some (mark.Token is.Reference token)) = if is_some (declared_by told place) then None else slice_get told.numbers place
free_number told place _ = None

-- the mark is the name of a class, which this is told of, and which belongs to the top
abbrev pub is_top_name : Option Mark → Option Declared → Bool
is_top_name (Some (mark.Token is.ClassName token)) (Some declared) = nat_eq declared.scope 0
is_top_name _ _ = false

abbrev pub is_top_class : Source → Told → ℕ → Bool
is_top_class source told scope = if nat_lt scope 2 then false else is_top_name (slice_get source.marks (scope - 2)) (declared_by told (scope - 2))

-- the number of the name of a first declaration, where its scope is an inner one
abbrev pub inner_number : Source → Told → Key × ℕ → Option ℕ
inner_number source told entry = if nat_eq entry.0.0 0 || is_top_class source told entry.0.0 then None else Some entry.0.1

abbrev pub inner_number_at : Source → Told → Option (Key × ℕ) → Option ℕ
inner_number_at source told (Some entry) = inner_number source told entry
inner_number_at source told None = None

-- the mark at the place begins a function that declares `arguments` in an inner scope
abbrev pub gives_arguments : Source → Told → ℕ → Option Mark → Bool
gives_arguments source told place (Some (mark.Begin part.Function)) = not (is_top_class source told (place + 1))
gives_arguments source told place _ = false

abbrev pub HasArguments : Source → Told → Type 0
HasArguments source told = (place : ℕ) × (gives_arguments source told place (slice_get source.marks place) ≡ true)

abbrev pub IsArgumentsIf : Bool → List ℕ → Type 0
IsArgumentsIf is_given name = (is_given ≡ true) × (arguments ≡ name)

-- the names are the same
abbrev pub HasSame : List (List ℕ) → List (List ℕ) → Type 0
HasSame names others = (name : List ℕ) → Contains others name ↔ Contains names name

-- the new names come to those of a set
abbrev pub Gains : List Borrowed → (List ℕ → Type 0) → List Borrowed → Type 0
Gains keys IsNew more = HasMore (key_names keys) IsNew (key_names more)

-- the name of this number
abbrev pub IsNumbered : Told → Option ℕ → List ℕ → Type 0
IsNumbered told number name = (given : ℕ) × (number ≡ Some given) × (place_of told.texts name ≡ Some given)

-- the names are those that one of so many places gives
abbrev pub AreGiven : (ℕ → List ℕ → Type 0) → ℕ → List (List ℕ) → Type 0
AreGiven IsGiven count names = (name : List ℕ) → Contains names name ↔ ((place : ℕ) × (place < count) × IsGiven place name)

-- the name that the mark at the place uses freely
abbrev pub GivesFree : Source → Told → ℕ → List ℕ → Type 0
GivesFree source told place name = IsNumbered told (free_number told place (slice_get source.marks place)) name

-- the name that the first declaration at the index declares within
abbrev pub GivesInner : Source → Told → ℕ → List ℕ → Type 0
GivesInner source told index name = IsNumbered told (inner_number_at source told (slice_get told.firsts index)) name
