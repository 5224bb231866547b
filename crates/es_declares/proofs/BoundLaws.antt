-- The bindings of a text, gathered from place to place.
use Rattle.std.proofs.Common.{◌≡◌, ◌≢◌, ◌<◌, ◌≤◌, ◌+◌, ◌-◌, ◌⊎◌, ⊎_elim, inl, inr, ℕ, zero, suc, Bool, true, false, cond, List, [], ◌∷◌, ◌++◌, Option, Some, None, length, slice_get, slice_set, replicate, refl, sym, ap, subst, ◌∙◌, arith}
use Rattle.std.specs.Prelude.{IsSomeAnd}
use Rattle.std.specs.Str.{bytes_eq}
use Rattle.std.proofs.lemmas.Bool.{false≢true}
use Rattle.std.proofs.lemmas.Option.{none-some, same_Some, slice_get_within}
use Rattle.std.proofs.lemmas.Slice.Eq.{bytes_eq-Decides}
use Rattle.std.proofs.lemmas.List.{length-set, length-replicate}
use Rattle.pk_text.specs.Places.{place_of}
use Rattle.pk_types.proofs.Members.{at_front, at_append}
use Rattle.es_outline.specs.declared.mark.Mark.TheVariants as mark
use Rattle.es_outline.specs.declared.mark.Part.TheVariants as part
use Rattle.pk_types.specs.declared.facts.Binding.{Binding}
use Rattle.pk_types.specs.declared.facts.BindKind.{BindKind}
use Rattle.es_scope.specs.Source.{Source}
use Rattle.es_scope.specs.Occurrences.{IsOccurrence}
use Rattle.es_scope.specs.Known.{IsBindingNamed}
use Rattle.es_scope.specs.Declaring.{IsBinding, BindsUnnamed, DeclaresOwn, default_binding}
use Rattle.es_scope.proofs.FirstPlaces.{same_name}
use Rattle.es_scope.proofs.FoundTable.{occurrence_named, named_mark}
use Rattle.es_declares.specs.Found.{IsItemAt}
use Rattle.es_declares.specs.Numbering.{IsBindingNumber}
use Rattle.es_declares.specs.Binds.{Bound, AreBound, put_at, with_binding, known_bindings}
use Rattle.es_declares.proofs.InsideLaws.{put_same, put_other, all_none}
use Rattle.es_declares.proofs.Listing.{AreThoseTo, no_item, one_item, no_more, all_items, still_there, last_there}

abbrev IsNamed : List Binding → ℕ → List ℕ → Type 0
IsNamed items number name = IsBindingNamed (known_bindings items) number name

-- the binding of a name, once one more binding is there
was_or_last : (items : List Binding) (item : Binding) (number : ℕ) (name : List ℕ) (found : Option Binding) → slice_get (items ++ item ∷ []) number ≡ found
    → IsSomeAnd found (λ binding. binding.name ≡ name) → IsNamed items number name ⊎ (item.name ≡ name)
was_or_last items item number name None e h = absurd h
was_or_last items item number name (Some binding) e h = ⊎_elim
    (λ below. inl (subst (λ (found : Option Binding). IsSomeAnd found (λ b. b.name ≡ name)) (sym (at_front items (item ∷ []) number binding e below)) h))
    (λ above. inr (last (number - length items) (at_append items (item ∷ []) number binding e above)))
    (below_or (number) (length items))
  where
    below_or : (a b : ℕ) → (a < b) ⊎ (b ≤ a)
    below_or a b = grind arith

    last : (k : ℕ) → slice_get (item ∷ []) k ≡ Some binding → item.name ≡ name
    last zero e = ap (λ b. b.name) (same_Some item binding e) ∙ h
    last (suc k) e = absurd (none-some binding e)

still_number : (items : List Binding) (item : Binding) (name : List ℕ) (number : Option ℕ) → item.name ≢ name → IsBindingNumber (known_bindings items) name number
    → IsBindingNumber (known_bindings (items ++ item ∷ [])) name number
still_number items item name _ other (IsBindingNumber.none never) = IsBindingNumber.none (λ number h.
    ⊎_elim (λ was. never number was) (λ same. other same) (was_or_last items item number name (slice_get (items ++ item ∷ []) number) refl h))
still_number items item name _ other (IsBindingNumber.some number named) =
    IsBindingNumber.some number (still_there (λ binding. binding.name ≡ name) items item number named)

last_number : (items : List Binding) (item : Binding) (name : List ℕ) → item.name ≡ name → IsBindingNumber (known_bindings (items ++ item ∷ [])) name (Some (length items))
last_number items item name same = IsBindingNumber.some (length items) (last_there (λ binding. binding.name ≡ name) items item same)

-- those of the places before the limit
pub record AreBoundTo (source : Source) (texts : List (List ℕ)) (limit : ℕ) (bound : Bound) : Type 0 where
  pub those : AreThoseTo (IsBinding source) limit bound.items
  pub whole : length bound.numbers ≡ length texts
  pub numbers : (at : ℕ) (name : List ℕ) (number : Option ℕ) → place_of texts name ≡ Some at → slice_get bound.numbers at ≡ Some number
      → IsBindingNumber (known_bindings bound.items) name number
  pub default : IsBindingNumber (known_bindings bound.items) default_binding bound.default

no_bound : (name : List ℕ) → IsBindingNumber (known_bindings []) name None
no_bound name = IsBindingNumber.none (λ number h. h)

module _ (source : Source) (texts : List (List ℕ)) where
  pub none_bound : (count : ℕ) (bound : Bound) → count ≡ length texts → bound ≡ record { items = []; numbers = replicate count None; default = None } → AreBoundTo source texts 0 bound
  none_bound count bound long e = subst (AreBoundTo source texts 0) (sym e) (record {
    those = no_item (IsBinding source);
    whole = length-replicate {A = Option ℕ} count None ∙ long;
    numbers = λ at name number named told. subst (IsBindingNumber (known_bindings []) name) (all_none count at number told) (no_bound name);
    default = no_bound default_binding;
  })

  put_whole : (key number : Option ℕ) (numbers : List (Option ℕ)) → length (put_at key number numbers) ≡ length numbers
  put_whole (Some at) number numbers = length-set numbers at number
  put_whole None number numbers = refl

  same_at : (a b : ℕ) → (a ≡ b) ⊎ (a ≢ b)
  same_at a b = grind arith

  put_told : (bound : Bound) (binding : Binding) (limit : ℕ) → AreBoundTo source texts limit bound → (key : Option ℕ) → place_of texts binding.name ≡ key → (at : ℕ) (name : List ℕ)
      (number : Option ℕ) → place_of texts name ≡ Some at → slice_get (put_at key (Some (length bound.items)) bound.numbers) at ≡ Some number
      → IsBindingNumber (known_bindings (bound.items ++ binding ∷ [])) name number
  put_told bound binding limit so_far None k at name number named told =
      still_number bound.items binding name number (λ same. none-some at (sym k ∙ ap (place_of texts) same ∙ named)) (so_far.numbers at name number named told)
  put_told bound binding limit so_far (Some put) k at name number named told = ⊎_elim
      (λ same.
      let number_is = put_same bound.numbers put (Some (length bound.items)) number (subst (λ a. slice_get (slice_set bound.numbers put (Some (length bound.items))) a ≡ Some number) same told) in
      subst (IsBindingNumber (known_bindings (bound.items ++ binding ∷ [])) name) number_is
      (last_number bound.items binding name (same_name texts binding.name name put k (named ∙ ap Some same))))
      (λ apart. still_number bound.items binding name number
      (λ same. apart (same_Some at put (sym named ∙ ap (place_of texts) (sym same) ∙ k)))
      (so_far.numbers at name number named (put_other bound.numbers put at (Some (length bound.items)) number apart told)))
      (same_at at put)

  default_told : (bound : Bound) (binding : Binding) (limit : ℕ) → AreBoundTo source texts limit bound → (b : Bool) → bytes_eq binding.name default_binding ≡ b
      → IsBindingNumber (known_bindings (bound.items ++ binding ∷ [])) default_binding (cond b (Some (length bound.items)) bound.default)
  default_told bound binding limit so_far true b = last_number bound.items binding default_binding ((bytes_eq-Decides binding.name default_binding).0 b)
  default_told bound binding limit so_far false b =
      still_number bound.items binding default_binding bound.default (λ same. false≢true (sym b ∙ (bytes_eq-Decides binding.name default_binding).1 same)) so_far.default

  one_binding : (limit : ℕ) (bound : Bound) (binding : Option Binding) → AreBoundTo source texts limit bound → IsItemAt (IsBinding source) limit binding
      → AreBoundTo source texts (limit + 1) (with_binding texts bound binding)
  one_binding limit bound _ so_far (IsItemAt.none never) = record {
    those = no_more (IsBinding source) limit bound.items never so_far.those;
    whole = so_far.whole;
    numbers = so_far.numbers;
    default = so_far.default;
  }
  one_binding limit bound _ so_far (IsItemAt.some binding is) = record {
    those = one_item (IsBinding source) limit bound.items binding is so_far.those;
    whole = put_whole (place_of texts binding.name) (Some (length bound.items)) bound.numbers ∙ so_far.whole;
    numbers = put_told bound binding limit so_far (place_of texts binding.name) refl;
    default = default_told bound binding limit so_far (bytes_eq binding.name default_binding) refl;
  }

  pub one_bound : (limit : ℕ) (bound more : Bound) (binding : Option Binding) → AreBoundTo source texts limit bound → IsItemAt (IsBinding source) limit binding
      → more ≡ with_binding texts bound binding → AreBoundTo source texts (limit + 1) more
  one_bound limit bound more binding so_far found e = subst (AreBoundTo source texts (limit + 1)) (sym e) (one_binding limit bound binding so_far found)

  own_within : (place : ℕ) (how : BindKind) → DeclaresOwn source place how → place < length source.marks
  own_within place how own =
      let stands = named_mark (slice_get source.marks place) (occurrence_named source place (IsOccurrence.declared own.manner own.declared)) in
      slice_get_within source.marks place stands.0 stands.1

  -- what has no name stands within the marks
  unnamed_within : (place : ℕ) (how : BindKind) → BindsUnnamed source place how → place < length source.marks
  unnamed_within place _ (BindsUnnamed.value opening d v) =
      let inside = slice_get_within source.marks (opening + 3) (mark.Begin part.ExportedValue) v in let at = d.place_is in omega arith
  unnamed_within place _ (BindsUnnamed.class opening at d u b) =
      let inside = slice_get_within source.marks (at + 1) (mark.Begin part.Class) b in let where_is = d.place_is in let before = u.within.encloses.before in omega arith
  unnamed_within place _ (BindsUnnamed.function opening at d u b) =
      let inside = slice_get_within source.marks (at + 1) (mark.Begin part.Function) b in let where_is = d.place_is in let before = u.within.encloses.before in omega arith

  binding_within : (place : ℕ) (binding : Binding) → IsBinding source place binding → place < length source.marks
  binding_within place _ (IsBinding.named how own) = own_within place how own
  binding_within place _ (IsBinding.unnamed how binds) = unnamed_within place how binds

  pub all_bound : (limit : ℕ) (bound : Bound) → length source.marks ≡ limit → AreBoundTo source texts limit bound → AreBound source texts bound
  all_bound limit bound same so_far = record {
    those = all_items (IsBinding source) limit (length source.marks) bound.items binding_within (omega arith) so_far.those;
    whole = so_far.whole;
    numbers = so_far.numbers;
    default = so_far.default;
  }
