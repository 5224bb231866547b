-- The imports and the bindings that are gathered are the declarations of the text.
use Rattle.std.proofs.Common.{◌≡◌, ℕ, List, Option, Some, length, slice_get, sym, ap, subst, ◌∙◌}
use Rattle.std.specs.Prelude.{IsSomeAnd}
use Rattle.pk_types.specs.declared.facts.Request.{Request}
use Rattle.pk_types.specs.declared.facts.ImportEntry.{ImportEntry}
use Rattle.pk_types.specs.declared.facts.Binding.{Binding}
use Rattle.es_scope.specs.Source.{Source}
use Rattle.es_scope.specs.Listed.{AreThose}
use Rattle.es_scope.specs.Declaring.{IsImport, IsBinding, default_binding}
use Rattle.es_declares.specs.declared.declarations.Declarations.{Declarations}
use Rattle.es_declares.specs.Numbering.{known_by, IsImportNumber, IsBindingNumber, AreDeclarations}
use Rattle.es_declares.specs.Importing.{IsImportBy, IsNumberIn, Gathered, AreGathered}
use Rattle.es_declares.specs.Binds.{Bound, AreBound, known_bindings}
use Rattle.es_declares.proofs.RequestLaws.{so_of}
use Rattle.es_declares.proofs.Listing.{those_so}

module _ (source : Source) (requests : List Request) (texts : List (List ℕ)) (declarations : Declarations) where
  import_is : (place : ℕ) (entry : ImportEntry) → IsImportBy source requests place entry → IsImport source (known_by requests declarations) place entry
  import_is place entry h = record { said = h.said; imports = h.imports; starts = h.starts; request = h.request }

  import_was : (place : ℕ) (entry : ImportEntry) → IsImport source (known_by requests declarations) place entry → IsImportBy source requests place entry
  import_was place entry h = record { said = h.said; imports = h.imports; starts = h.starts; request = h.request }

  import_number : (entries : List ImportEntry) → declarations.imports ≡ entries → (place : ℕ) (number : Option ℕ) → IsNumberIn (IsImportBy source requests) entries place number
      → IsImportNumber source (known_by requests declarations) place number
  import_number entries e place _ (IsNumberIn.none never) = IsImportNumber.none (λ entry h. never entry (import_was place entry h))
  import_number entries e place _ (IsNumberIn.some number there) = IsImportNumber.some number
      (subst (λ (items : List ImportEntry). IsSomeAnd (slice_get items number) (IsImport source (known_by requests declarations) place)) (sym e)
      (so_of (IsImportBy source requests place) (IsImport source (known_by requests declarations) place) (slice_get entries number) (import_is place) there))

  binding_number : (items : List Binding) → declarations.bindings ≡ items → (name : List ℕ) (number : Option ℕ) → IsBindingNumber (known_bindings items) name number
      → IsBindingNumber (known_by requests declarations) name number
  binding_number items e name _ (IsBindingNumber.none never) = IsBindingNumber.none (λ number h. never number
      (subst (λ (some : List Binding). IsSomeAnd (slice_get some number) (λ binding. binding.name ≡ name)) e h))
  binding_number items e name _ (IsBindingNumber.some number there) = IsBindingNumber.some number
      (subst (λ (some : List Binding). IsSomeAnd (slice_get some number) (λ binding. binding.name ≡ name)) (sym e) there)

  pub joined_are : (gathered : Gathered) (bound : Bound) → AreGathered source requests gathered → AreBound source texts bound → declarations.imports ≡ gathered.entries
      → declarations.import_at.items ≡ gathered.numbers → declarations.bindings ≡ bound.items → declarations.binding_of.items ≡ bound.numbers
      → declarations.default_binding ≡ bound.default → AreDeclarations source requests texts declarations
  joined_are gathered bound imports bindings entries_are numbers_are items_are names_are default_is = record {
    imports = subst (λ (items : List ImportEntry). AreThose (IsImport source (known_by requests declarations)) items) (sym entries_are)
        (those_so (IsImport source (known_by requests declarations)) (IsImportBy source requests) import_is import_was gathered.entries imports.those);
    bindings = subst (λ (items : List Binding). AreThose (IsBinding source) items) (sym items_are) bindings.those;
    import_whole = ap length numbers_are ∙ imports.whole;
    import_numbers = λ place number told. import_number gathered.entries entries_are place number
        (imports.numbers place number (subst (λ (numbers : List (Option ℕ)). slice_get numbers place ≡ Some number) numbers_are told));
    binding_whole = ap length names_are ∙ bindings.whole;
    binding_numbers = λ at name number named told. binding_number bound.items items_are name number
        (bindings.numbers at name number named (subst (λ (numbers : List (Option ℕ)). slice_get numbers at ≡ Some number) names_are told));
    default_number = binding_number bound.items items_are default_binding declarations.default_binding
        (subst (IsBindingNumber (known_bindings bound.items) default_binding) (sym default_is) bindings.default);
  }
