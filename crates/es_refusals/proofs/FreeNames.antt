-- The names that a text uses freely, as scopes tell of them.
use Rattle.std.proofs.Common.{◌≡◌, ◌↔◌, ℕ, ◌+◌, ◌<◌, true, cond, List, Option, Some, None, is_some, length, slice_get, refl, sym, ap, subst, ◌∙◌, arith}
use Rattle.std.specs.Prelude.{IfSome}
use Rattle.std.specs.List.{Contains}
use Rattle.std.specs.Str.{bytes_eq}
use Rattle.std.proofs.lemmas.Option.{none-some, slice_get_within}
use Rattle.std.proofs.lemmas.List.Quantifiers.{position-Some}
use Rattle.pk_text.specs.Places.{place_of}
use Rattle.pk_types.proofs.Members.{as_long}
use Rattle.export_names.specs.Collected.{HasMore}
use Rattle.es_outline.specs.declared.mark.Mark.{Mark}
use Rattle.es_outline.specs.declared.mark.Mark.TheVariants as mark
use Rattle.es_outline.specs.declared.mark.Role.TheVariants as is
use Rattle.es_scope.specs.declared.found.Declared.{Declared}
use Rattle.es_scope.specs.FactsOf.{IsUsedFree}
use Rattle.es_scope.specs.Found.{IsFound}
use Rattle.es_scope.specs.Occurrences.{IsOccurrence}
use Rattle.es_scope.specs.Refers.{IsFree}
use Rattle.es_scope.specs.Source.{Source, HasRole, name_at}
use Rattle.es_scope.specs.Named.{names_it}
use Rattle.es_scope.specs.Telling.{Told, AreScopes, declared_by}
use Rattle.es_scope.proofs.FirstPlaces.{same_name}
use Rattle.es_scope.proofs.FoundTable.{named_mark}
use Rattle.es_scope.proofs.ScopesTold.{declared_is}
use Rattle.es_refusals.specs.Names.{free_number, IsNumbered, GivesFree, AreGiven}
use Rattle.es_refusals.proofs.Gathered.{more_given}

-- the number of a name is one of those that names have
pub number_below : (texts : List (List ℕ)) (name : List ℕ) (number : ℕ) → place_of texts name ≡ Some number → number < length texts
number_below texts name number is = (position-Some (bytes_eq name) texts number name is).0

-- an occurrence is free where nothing is told of it
pub found_free : (source : Source) (place : ℕ) (told : Option Declared) → IsFound source place told → told ≡ None → IsFree source place
found_free source place _ (IsFound.refers declared r) e = absurd (none-some declared (sym e))
found_free source place _ (IsFound.free f) e = f

pub free_found : (source : Source) (place : ℕ) (told : Option Declared) → IsFound source place told → IsFree source place → told ≡ None
free_found source place _ (IsFound.refers declared r) f = absurd (f.undeclared declared.scope declared.place r.within r.declares)
free_found source place _ (IsFound.free f) g = refl

module _ (source : Source) (told : Told) (are : AreScopes source told) where
  -- a name at a place has a number
  pub has_number : (place : ℕ) → names_it (slice_get source.marks place) ≡ true
      → (number : ℕ) × (slice_get told.numbers place ≡ Some number) × (place_of told.texts (name_at source place) ≡ Some number)
  has_number place named =
      let one_mark = named_mark (slice_get source.marks place) named in
      let there = as_long source.marks told.numbers place one_mark.0 one_mark.1 are.numbered.whole in
      (there.0, there.1, sym (are.numbered.each place named) ∙ there.1)

  -- what a number that is told says
  record IsFreeNumber (place given : ℕ) : Type 0 where
    role : HasRole source place is.Reference
    free : declared_by told place ≡ None
    number : slice_get told.numbers place ≡ Some given

  free_so : (place given : ℕ) → HasRole source place is.Reference → (declared : Option Declared) → declared_by told place ≡ declared
      → cond (is_some declared) None (slice_get told.numbers place) ≡ Some given → IsFreeNumber place given
  free_so place given t None d e = record { role = t; free = d; number = e }
  free_so place given t (Some declared) d e = absurd (none-some given e)

  free_is : (place given : ℕ) (found : Option Mark) → slice_get source.marks place ≡ found → free_number told place found ≡ Some given → IsFreeNumber place given
  free_is place given (Some (mark.Token is.Reference token)) m e = free_so place given (token, m) (declared_by told place) refl e
  free_is place given _ m e = absurd (none-some given e)

  free_below : (place : ℕ) (number : Option ℕ) → free_number told place (slice_get source.marks place) ≡ number → IfSome number (λ number. number < length told.texts)
  free_below place None e = tt
  free_below place (Some given) e =
      let f = free_is place given (slice_get source.marks place) refl e in
      let known = has_number place (ap names_it f.role.1) in
      number_below told.texts (name_at source place) given (known.2 ∙ sym known.1 ∙ f.number)

  pub free_number_below : (place : ℕ) (found : Mark) (number : Option ℕ) → slice_get source.marks place ≡ Some found → number ≡ free_number told place (Some found)
      → IfSome number (λ number. number < length told.texts)
  free_number_below place found number m e = free_below place number (ap (free_number told place) m ∙ sym e)

  -- a name that a place gives is used freely there
  gives_used : (place : ℕ) (name : List ℕ) → GivesFree source told place name → IsUsedFree source name
  gives_used place name given =
      let f = free_is place given.0 (slice_get source.marks place) refl given.1 in
      let known = has_number place (ap names_it f.role.1) in
      let found = declared_is source told are place (IsOccurrence.referred f.role) in
      let same = same_name told.texts (name_at source place) name given.0 (known.2 ∙ sym known.1 ∙ f.number) given.2 in
      (place, f.role, (found_free source place (declared_by told place) found f.free, same))

  used_gives : (name : List ℕ) → IsUsedFree source name → (place : ℕ) × (place < length source.marks) × GivesFree source told place name
  used_gives name used =
      let place = used.0 in
      let t = used.1 in
      let known = has_number place (ap names_it t.1) in
      let found = declared_is source told are place (IsOccurrence.referred t) in
      let none = free_found source place (declared_by told place) found used.2.0 in
      let number : free_number told place (slice_get source.marks place) ≡ Some known.0 =
      ap (free_number told place) t.1 ∙ ap (λ (d : Option Declared). cond (is_some d) None (slice_get told.numbers place)) none ∙ known.1 in
      (place, slice_get_within source.marks place (mark.Token is.Reference t.0) t.1, (known.0, number, sym (ap (place_of told.texts) used.2.1) ∙ known.2))

  pub all_free : (count : ℕ) (names : List (List ℕ)) → count ≡ length source.marks → AreGiven (GivesFree source told) count names
      → (name : List ℕ) → Contains names name ↔ IsUsedFree source name
  all_free count names all given name = (
    λ c. let one = (given name).0 c in gives_used one.0 name one.2,
    λ used. let one = used_gives name used in (given name).1 (one.0, (let below = one.1 in omega arith), one.2),
  )

-- the names with those of one place more
pub free_more : (source : Source) (told : Told) (place : ℕ) (number : Option ℕ) (one_mark : Mark) (before after : List (List ℕ)) → slice_get source.marks place ≡ Some one_mark
    → number ≡ free_number told place (Some one_mark) → AreGiven (GivesFree source told) place before → HasMore before (IsNumbered told number) after
    → AreGiven (GivesFree source told) (place + 1) after
free_more source told place number one_mark before after m e so_far more = more_given (GivesFree source told) place before after so_far
    (subst (λ (n : Option ℕ). HasMore before (IsNumbered told n) after) (e ∙ ap (free_number told place) (sym m)) more)
