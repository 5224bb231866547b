-- Names of the top, and names of its classes within these.
use Rattle.std.proofs.Common.{◌≡◌, ℕ, ◌+◌, Bool, true, false, ◌&&◌, cond, nat_eq, List, Option, Some, None, slice_get, unwrap_or, option_and_then, refl, sym, ap, subst, ◌∙◌, arith, true≢false}
use Rattle.std.proofs.lemmas.Bool.{eqb-true, eq-eqb}
use Rattle.std.proofs.lemmas.Option.{none-some, same_Some}
use Rattle.pk_text.specs.Places.{place_of}
use Rattle.pk_types.proofs.Members.{element_at, as_long}
use Rattle.pk_types.specs.declared.facts.Binding.{Binding}
use Rattle.es_outline.specs.declared.mark.Role.TheVariants as is
use Rattle.es_scope.specs.declared.found.Declared.{Declared}
use Rattle.es_scope.specs.declared.kinds.DeclarationKind.TheVariants as kind
use Rattle.es_scope.specs.Source.{Source, HasRole, name_at}
use Rattle.es_scope.specs.Occurrences.{IsDeclared, IsOccurrence}
use Rattle.es_scope.specs.Refers.{Refers}
use Rattle.es_scope.specs.Found.{IsFound}
use Rattle.es_scope.specs.Telling.{declared_by}
use Rattle.es_scope.proofs.FirstPlaces.{place_within}
use Rattle.es_scope.proofs.FoundTable.{occurrence_named, named_mark}
use Rattle.es_scope.proofs.LookingUp.{found_one}
use Rattle.es_scope.proofs.ScopesTold.{declared_is}
use Rattle.es_sites.specs.Tables.{entry}
use Rattle.es_sites.proofs.InsideLaws.{both_true}
use Rattle.es_sites.proofs.AroundLaws.{and_true}
use Rattle.es_touches.specs.Touches.{IsOwn, IsWithinClass}
use Rattle.es_touches.specs.Told.{IsNumber, Tables, AreTables, number_of, own_by, own_at, within_by, within_class, is_class_name}
use Rattle.es_touches.proofs.Basics.{cond_some, some_cond, class_token}

-- the binding of the top that the name at the place refers to, or that it refers to none
pub data IsOwnNumber (source : Source) (bindings : List Binding) (place : ℕ) : Option ℕ → Type 0 where
  none : ((number : ℕ) → ¬ IsOwn source bindings place number) → IsOwnNumber source bindings place None
  some : (number : ℕ) → IsOwn source bindings place number → IsOwnNumber source bindings place (Some number)

pub own_there : (source : Source) (bindings : List Binding) (place number : ℕ) (found : Option ℕ) → IsOwnNumber source bindings place found → found ≡ Some number
    → IsOwn source bindings place number
own_there source bindings place number _ (IsOwnNumber.none never) e = absurd (none-some number e)
own_there source bindings place number _ (IsOwnNumber.some other own) e = subst (IsOwn source bindings place) (same_Some other number e) own

pub own_some : (source : Source) (bindings : List Binding) (place number : ℕ) (found : Option ℕ) → IsOwnNumber source bindings place found
    → IsOwn source bindings place number → (other : ℕ) × (found ≡ Some other)
own_some source bindings place number _ (IsOwnNumber.none never) own = absurd (never number own)
own_some source bindings place number _ (IsOwnNumber.some other own) h = (other, refl)

module _ (tables : Tables) (are : AreTables tables) (place : ℕ) (occurs : IsOccurrence tables.source place) where
  found : IsFound tables.source place (declared_by tables.told place)
  found = declared_is tables.source tables.told are.scopes place occurs

  binding_number : IsNumber tables.bindings (name_at tables.source place) (number_of tables place)
  binding_number =
      let named = occurrence_named tables.source place occurs in
      let at = named_mark (slice_get tables.source.marks place) named in
      let number = as_long tables.source.marks tables.told.numbers place at.0 at.1 are.scopes.numbered.whole in
      let name : place_of tables.told.texts (name_at tables.source place) ≡ Some number.0 = sym (are.scopes.numbered.each place named) ∙ number.1 in
      let low = place_within tables.told.texts (name_at tables.source place) number.0 name in
      let there = element_at tables.numbers number.0 (omega (arith, low, are.numbers.whole)) in
      subst (λ (n : Option ℕ). IsNumber tables.bindings (name_at tables.source place) (option_and_then (entry tables.numbers) n)) (sym number.1)
      (subst (λ (n : Option (Option ℕ)). IsNumber tables.bindings (name_at tables.source place) (unwrap_or n None)) (sym there.1)
      (are.numbers.each number.0 (name_at tables.source place) there.0 name there.1))

  with_number : (declaration : ℕ) → Refers tables.source place 0 declaration → (number : Option ℕ) → IsNumber tables.bindings (name_at tables.source place) number
      → IsOwnNumber tables.source tables.bindings place number
  with_number declaration r _ (IsNumber.none never) = IsOwnNumber.none (λ number own. never number own.named)
  with_number declaration r _ (IsNumber.some number named) = IsOwnNumber.some number (record { declaration = declaration; refers = r; named = named })

  told_as : (declared : Declared) → Refers tables.source place declared.scope declared.place → declared_by tables.told place ≡ Some declared
  told_as declared r = found_one tables.source place (declared_by tables.told place) (Some declared) found (IsFound.refers declared r)

  by_scope : (declared : Declared) → Refers tables.source place declared.scope declared.place → (b : Bool) → nat_eq declared.scope 0 ≡ b
      → IsOwnNumber tables.source tables.bindings place (cond b (number_of tables place) None)
  by_scope declared r true e =
      with_number declared.place (subst (λ (s : ℕ). Refers tables.source place s declared.place) (eqb-true declared.scope 0 e) r) (number_of tables place) binding_number
  by_scope declared r false e = IsOwnNumber.none (λ number own.
      let top : Declared = record { scope = 0; place = own.declaration } in
      let same = same_Some declared top (sym (told_as declared r) ∙ told_as top own.refers) in
      true≢false (sym (eq-eqb declared.scope 0 (ap (λ (d : Declared). d.scope) same)) ∙ e))

  by_found : (declared : Option Declared) → IsFound tables.source place declared → IsOwnNumber tables.source tables.bindings place (own_by tables place declared)
  by_found _ (IsFound.refers declared r) = by_scope declared r (nat_eq declared.scope 0) refl
  by_found _ (IsFound.free free) = IsOwnNumber.none (λ number own. free.undeclared 0 own.declaration own.refers.within own.refers.declares)

  pub own_is : IsOwnNumber tables.source tables.bindings place (own_at tables place)
  own_is = by_found (declared_by tables.told place) found

-- ---- within classes

class_occurs : (source : Source) (class : ℕ) → HasRole source class is.ClassName → IsOccurrence source class
class_occurs source class t = IsOccurrence.declared kind.Class (IsDeclared.class t)

pub record IsWithin (source : Source) (bindings : List Binding) (place number : ℕ) : Type 0 where
  pub class : ℕ
  pub within : IsWithinClass source place class
  pub own : IsOwn source bindings class number

module _ (tables : Tables) (are : AreTables tables) (place : ℕ) (reference : HasRole tables.source place is.Reference) where
  within_declared : (declared : Option Declared) → IsFound tables.source place declared → (number : ℕ) → within_by tables declared ≡ Some number
      → IsWithin tables.source tables.bindings place number
  within_declared _ (IsFound.free free) number e = absurd (none-some number e)
  within_declared _ (IsFound.refers declared r) number e =
      let is_class = nat_eq declared.scope (declared.place + 2) && is_class_name (slice_get tables.source.marks declared.place) in
      let parts = cond_some is_class (own_at tables declared.place) number e in
      let sides = both_true (nat_eq declared.scope (declared.place + 2)) (is_class_name (slice_get tables.source.marks declared.place)) parts.0 in
      let name = class_token (slice_get tables.source.marks declared.place) sides.1 in
      record {
        class = declared.place;
        within = record {
          reference = reference;
          refers = subst (λ (s : ℕ). Refers tables.source place s declared.place) (eqb-true declared.scope (declared.place + 2) sides.0) r;
          name = name;
        };
        own = own_there tables.source tables.bindings declared.place number (own_at tables declared.place)
            (own_is tables are declared.place (class_occurs tables.source declared.place name)) parts.1;
      }

  pub within_there : (number : ℕ) → within_class tables place ≡ Some number → IsWithin tables.source tables.bindings place number
  within_there number e =
      within_declared (declared_by tables.told place) (declared_is tables.source tables.told are.scopes place (IsOccurrence.referred reference)) number e

  pub within_told : (class number : ℕ) → IsWithinClass tables.source place class → IsOwn tables.source tables.bindings class number
      → (other : ℕ) × (within_class tables place ≡ Some other)
  within_told class number within own =
      let one : Declared = record { scope = class + 2; place = class } in
      let other = own_some tables.source tables.bindings class number (own_at tables class) (own_is tables are class (class_occurs tables.source class within.name)) own in
      let same : declared_by tables.told place ≡ Some one = told_as tables are place (IsOccurrence.referred reference) one within.refers in (
        other.0,
        ap (within_by tables) same
            ∙ some_cond (nat_eq (class + 2) (class + 2) && is_class_name (slice_get tables.source.marks class)) (own_at tables class) other.0
            (and_true (nat_eq (class + 2) (class + 2)) (is_class_name (slice_get tables.source.marks class)) (eq-eqb (class + 2) (class + 2) refl) (ap is_class_name within.name.1))
            other.1,
      )
