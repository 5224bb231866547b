-- The bindings of a text have different names.
use Rattle.std.proofs.Common.{◌≢◌, ℕ, ◌<◌, List, map, refl, sym, subst, arith}
use Rattle.std.specs.List.{IsDistinct}
use Rattle.std.specs.Str.{bytes_eq}
use Rattle.pk_types.specs.declared.facts.Binding.{Binding}
use Rattle.pk_types.specs.declared.facts.BindKind.{BindKind}
use Rattle.es_scope.specs.Source.{Source, name_at}
use Rattle.es_scope.specs.Listed.{AreThose}
use Rattle.es_scope.specs.Occurrences.{IsOccurrence}
use Rattle.es_scope.specs.Scopes.{Declares}
use Rattle.es_scope.specs.Declaring.{IsBinding, IsDefault, DeclaresOwn, BindsUnnamed, default, default_binding}
use Rattle.es_scope.specs.Exporting.{ExportsName, IsExportedTwice}
use Rattle.es_scope.specs.Refused.{IsReservedName}
use Rattle.facts_laws.proofs.Listing.{names_differ}
use Rattle.facts_laws.proofs.Marks.{unlike}

-- what has no name is what an `export default` exports
pub unnamed_default : (source : Source) (place : ℕ) (how : BindKind) → BindsUnnamed source place how → (opening : ℕ) × IsDefault source opening place
unnamed_default source place _ (BindsUnnamed.value opening default value) = (opening, default)
unnamed_default source place _ (BindsUnnamed.class opening at default unnamed begins) = (opening, default)
unnamed_default source place _ (BindsUnnamed.function opening at default unnamed begins) = (opening, default)

module _ (source : Source) (once : (place : ℕ) → ¬ IsExportedTwice source place)
    (no_reserved : (place : ℕ) → IsOccurrence source place → ¬ IsReservedName (name_at source place)) where
  -- a name that is declared is none of those that bundles use
  declared_name : (place : ℕ) (how : BindKind) → DeclaresOwn source place how → name_at source place ≢ default_binding
  declared_name place how own same =
      no_reserved place (IsOccurrence.declared own.manner own.declared) (subst IsReservedName (sym same) refl)

  two_bindings : (place other : ℕ) (binding further : Binding) → place < other → IsBinding source place binding → IsBinding source other further
      → binding.name ≢ further.name
  two_bindings place other _ _ less (IsBinding.named how own) (IsBinding.named way further) same =
      let not_before = further.first place (Declares.named place own.belongs same) in
      omega arith
  two_bindings place other _ _ less (IsBinding.named how own) (IsBinding.unnamed way further) same = declared_name place how own same
  two_bindings place other _ _ less (IsBinding.unnamed how own) (IsBinding.named way further) same = declared_name other way further (sym same)
  two_bindings place other _ _ less (IsBinding.unnamed how own) (IsBinding.unnamed way further) same =
      let one = unnamed_default source place how own in
      let two = unnamed_default source other way further in
      once other (record {
        earlier = place;
        name = default;
        before = less;
        here = ExportsName.by_default two.0 two.1;
        there = ExportsName.by_default one.0 one.1;
      })

  pub bindings_differ : (bindings : List Binding) → AreThose (IsBinding source) bindings → IsDistinct bytes_eq (map (λ binding. binding.name) bindings)
  bindings_differ bindings those = names_differ (IsBinding source) bindings those (λ binding. binding.name) bytes_eq
      (λ place other binding further less h i. unlike binding.name further.name (two_bindings place other binding further less h i))
