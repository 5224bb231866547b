-- The numbers of bindings, as these are gone through.
use Rattle.std.proofs.Common.{◌≡◌, ◌≢◌, ⊎_elim, ℕ, ◌+◌, ◌<◌, ◌≤◌, Bool, true, false, List, Option, Some, None, length, slice_get, slice_set, replicate, sym, ap, subst, ◌∙◌, arith}
use Rattle.std.specs.Str.{bytes_eq}
use Rattle.std.proofs.lemmas.Bool.{cases_eq, false≢true}
use Rattle.std.proofs.lemmas.Option.{none-some, same_Some, slice_get_within}
use Rattle.std.proofs.lemmas.Slice.Eq.{bytes_eq-Decides}
use Rattle.std.proofs.lemmas.List.{length-set, length-replicate}
use Rattle.pk_text.specs.Places.{place_of}
use Rattle.pk_types.specs.declared.facts.Binding.{Binding}
use Rattle.es_scope.proofs.FirstPlaces.{same_name, place_within}
use Rattle.es_declares.proofs.InsideLaws.{put_same, put_other, all_none}
use Rattle.es_sites.proofs.InsideLaws.{some_with, with_some}
use Rattle.es_touches.specs.Touches.{IsNamed}
use Rattle.es_touches.specs.Told.{IsNumber, AreNumbers, noted, IsWithin}

-- the same of the bindings before a limit
pub data IsNumberTo (bindings : List Binding) (limit : ℕ) (name : List ℕ) : Option ℕ → Type 0 where
  none : ((number : ℕ) → number < limit → ¬ IsNamed bindings number name) → IsNumberTo bindings limit name None
  some : (number : ℕ) → IsNamed bindings number name → IsNumberTo bindings limit name (Some number)

pub record AreNumbersTo (texts : List (List ℕ)) (bindings : List Binding) (limit : ℕ) (table : List (Option ℕ)) : Type 0 where
  pub whole : length table ≡ length texts
  pub each : (at : ℕ) (name : List ℕ) (number : Option ℕ) → place_of texts name ≡ Some at → slice_get table at ≡ Some number → IsNumberTo bindings limit name number

pub named_within : (bindings : List Binding) (number : ℕ) (name : List ℕ) → IsNamed bindings number name → number < length bindings
named_within bindings number name h =
    let found = some_with (slice_get bindings number) (λ binding. binding.name ≡ name) h in slice_get_within bindings number found.0 found.1

module _ (texts : List (List ℕ)) (bindings : List Binding) where
  pub none_numbered : (count : ℕ) (table : List (Option ℕ)) → table ≡ replicate count None → count ≡ length texts → AreNumbersTo texts bindings 0 table
  none_numbered count table e long = subst (AreNumbersTo texts bindings 0) (sym e) (record {
    whole = length-replicate {A = Option ℕ} count None ∙ long;
    each = λ at name number named told. subst (IsNumberTo bindings 0 name) (all_none count at number told)
        (IsNumberTo.none (λ k below h. absurd (omega (arith, below))));
  })

  module _ (limit : ℕ) (binding : Binding) (at : slice_get bindings limit ≡ Some binding) where
    further : (name : List ℕ) (number : Option ℕ) → binding.name ≢ name → IsNumberTo bindings limit name number → IsNumberTo bindings (limit + 1) name number
    further name _ other (IsNumberTo.some number h) = IsNumberTo.some number h
    further name _ other (IsNumberTo.none never) = IsNumberTo.none (λ number below h. ⊎_elim
        (λ same.
        let found = some_with (slice_get bindings number) (λ b. b.name ≡ name) h in
        let one : binding ≡ found.0 = same_Some binding found.0 (sym at ∙ ap (slice_get bindings) (sym same) ∙ found.1) in
        other (ap (λ (b : Binding). b.name) one ∙ found.2))
        (λ apart. never number (omega (arith, below, apart)) h)
        (cases_eq number limit))

    here : (name : List ℕ) → binding.name ≡ name → IsNumberTo bindings (limit + 1) name (Some limit)
    here name same = IsNumberTo.some limit (with_some (slice_get bindings limit) (λ b. b.name ≡ name) binding at same)

    module _ (table : List (Option ℕ)) (so_far : AreNumbersTo texts bindings limit table) where
      told : (put : Option ℕ) → place_of texts binding.name ≡ put → (key : ℕ) (name : List ℕ) (number : Option ℕ) → place_of texts name ≡ Some key
          → slice_get (noted put limit table) key ≡ Some number → IsNumberTo bindings (limit + 1) name number
      told None k key name number named e =
          further name number (λ same. none-some key (sym k ∙ ap (place_of texts) same ∙ named)) (so_far.each key name number named e)
      told (Some put) k key name number named e = ⊎_elim
          (λ same.
          let number_is = put_same table put (Some limit) number (subst (λ a. slice_get (slice_set table put (Some limit)) a ≡ Some number) same e) in
          subst (IsNumberTo bindings (limit + 1) name) number_is (here name (same_name texts binding.name name put k (named ∙ ap Some same))))
          (λ apart. further name number (λ same. apart (same_Some key put (sym named ∙ ap (place_of texts) (sym same) ∙ k)))
          (so_far.each key name number named (put_other table put key (Some limit) number apart e)))
          (cases_eq key put)

      long : (put : Option ℕ) → length (noted put limit table) ≡ length texts
      long None = so_far.whole
      long (Some put) = length-set table put (Some limit) ∙ so_far.whole

      pub one_numbered : (put : Option ℕ) (more : List (Option ℕ)) → put ≡ place_of texts binding.name → more ≡ noted put limit table
          → AreNumbersTo texts bindings (limit + 1) more
      one_numbered put more is e = subst (AreNumbersTo texts bindings (limit + 1)) (sym e) (record { whole = long put; each = told put (sym is) })

  whole_number : (limit : ℕ) (name : List ℕ) (number : Option ℕ) → length bindings ≤ limit → IsNumberTo bindings limit name number → IsNumber bindings name number
  whole_number limit name _ most (IsNumberTo.some number h) = IsNumber.some number h
  whole_number limit name _ most (IsNumberTo.none never) =
      IsNumber.none (λ number h. let within = named_within bindings number name h in never number (omega (arith, most, within)) h)

  pub all_numbered : (limit : ℕ) (table : List (Option ℕ)) → length bindings ≤ limit → AreNumbersTo texts bindings limit table → AreNumbers texts bindings table
  all_numbered limit table most so_far =
      record { whole = so_far.whole; each = λ at name number named e. whole_number limit name number most (so_far.each at name number named e) }

  pub put_within : (name : List ℕ) (put : Option ℕ) (table : List (Option ℕ)) → put ≡ place_of texts name → length table ≡ length texts → IsWithin put (length table)
  put_within name None table is whole = tt
  put_within name (Some at) table is whole = let low = place_within texts name at (sym is) in omega (arith, low, whole)

-- ---- the first binding of a name

module _ (bindings : List Binding) (limit : ℕ) (name : List ℕ) where
  module _ (binding : Binding) (spelled : List ℕ) (same : Bool) (at : slice_get bindings limit ≡ Some binding) (is : spelled ≡ binding.name)
      (told : same ≡ bytes_eq spelled name) where
    pub found_here : same ≡ true → IsNumber bindings name (Some limit)
    found_here e = IsNumber.some limit (with_some (slice_get bindings limit) (λ b. b.name ≡ name) binding at
        (sym is ∙ (bytes_eq-Decides spelled name).0 (sym told ∙ e)))

    pub not_yet : same ≡ false → ((number : ℕ) → number < limit → ¬ IsNamed bindings number name) → (number : ℕ) → number < limit + 1 → ¬ IsNamed bindings number name
    not_yet e never number below h = ⊎_elim
        (λ same_place.
        let found = some_with (slice_get bindings number) (λ b. b.name ≡ name) h in
        let one : binding ≡ found.0 = same_Some binding found.0 (sym at ∙ ap (slice_get bindings) (sym same_place) ∙ found.1) in
        false≢true (sym e ∙ told ∙ (bytes_eq-Decides spelled name).1 (is ∙ ap (λ (b : Binding). b.name) one ∙ found.2)))
        (λ apart. never number (omega (arith, below, apart)) h)
        (cases_eq number limit)

  pub none_named : length bindings ≤ limit → ((number : ℕ) → number < limit → ¬ IsNamed bindings number name) → IsNumber bindings name None
  none_named most never = IsNumber.none (λ number h. let within = named_within bindings number name h in never number (omega (arith, most, within)) h)
