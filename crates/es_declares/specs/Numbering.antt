-- The imports and bindings of a text, and which of them places and names are.
use Rattle.std.specs.Prelude.{◌≡◌, ℕ, List, Option, Some, None, IsSomeAnd, length, slice_get}
use Rattle.pk_text.specs.Places.{place_of}
use Rattle.pk_types.specs.declared.facts.Request.{Request}
use Rattle.pk_types.specs.declared.facts.ImportEntry.{ImportEntry}
use Rattle.es_scope.specs.Source.{Source}
use Rattle.es_scope.specs.Listed.{AreThose}
use Rattle.es_scope.specs.Known.{Known, IsBindingNamed}
use Rattle.es_scope.specs.Declaring.{IsImport, IsBinding, default_binding}
use Rattle.es_declares.specs.declared.declarations.Declarations.{Declarations}

abbrev pub known_by : List Request → Declarations → Known
known_by requests declarations = record { requests = requests; imports = declarations.imports; bindings = declarations.bindings }

-- the place declares the import of this number, or none
pub data IsImportNumber (source : Source) (known : Known) (place : ℕ) : Option ℕ → Type 0 where
  none : ((entry : ImportEntry) → ¬ IsImport source known place entry) → IsImportNumber source known place None
  some : (number : ℕ) → IsSomeAnd (slice_get known.imports number) (IsImport source known place) → IsImportNumber source known place (Some number)

-- the name is that of the binding of this number, or of none
pub data IsBindingNumber (known : Known) (name : List ℕ) : Option ℕ → Type 0 where
  none : ((number : ℕ) → ¬ IsBindingNamed known number name) → IsBindingNumber known name None
  some : (number : ℕ) → IsBindingNamed known number name → IsBindingNumber known name (Some number)

pub record AreDeclarations (source : Source) (requests : List Request) (texts : List (List ℕ)) (declarations : Declarations) : Type 0 where
  pub imports : AreThose (IsImport source (known_by requests declarations)) declarations.imports
  pub bindings : AreThose (IsBinding source) declarations.bindings
  pub import_whole : length declarations.import_at.items ≡ length source.marks
  pub import_numbers : (place : ℕ) (number : Option ℕ) → slice_get declarations.import_at.items place ≡ Some number
      → IsImportNumber source (known_by requests declarations) place number
  pub binding_whole : length declarations.binding_of.items ≡ length texts
  pub binding_numbers : (at : ℕ) (name : List ℕ) (number : Option ℕ) → place_of texts name ≡ Some at
      → slice_get declarations.binding_of.items at ≡ Some number → IsBindingNumber (known_by requests declarations) name number
  pub default_number : IsBindingNumber (known_by requests declarations) default_binding declarations.default_binding
