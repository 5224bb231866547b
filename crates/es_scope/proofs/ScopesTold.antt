-- What is told of scopes, as those above read it: by occurrences, and by the index of a first declaration.
use Rattle.std.proofs.Common.{◌≡◌, ℕ, zero, suc, Bool, true, false, cond, [], ◌∷◌, Option, Some, None, IsSome, slice_get, unwrap_or, refl, sym, ap, subst, ◌∙◌}
use Rattle.std.specs.Prelude.{IfSome}
use Rattle.std.proofs.lemmas.Option.{none-some, same_Some}
use Rattle.pk_types.proofs.Members.{as_long}
use Rattle.es_scope.specs.declared.found.Declared.{Declared}
use Rattle.es_scope.specs.Source.{Source}
use Rattle.es_scope.specs.Occurrences.{IsOccurrence}
use Rattle.es_scope.specs.Firsts.{Key, is_key, Entries, told}
use Rattle.es_scope.specs.Found.{IsFound}
use Rattle.es_scope.specs.Telling.{Told, AreScopes, declared_by}
use Rattle.es_scope.proofs.FirstTold.{same_key}
use Rattle.es_scope.proofs.FirstPlaces.{is_key_itself}
use Rattle.es_scope.proofs.FoundTable.{occurrence_named, named_mark}

-- an occurrence refers to what is told of it
pub declared_is : (source : Source) (told_of : Told) → AreScopes source told_of → (place : ℕ) → IsOccurrence source place → IsFound source place (declared_by told_of place)
declared_is source told_of are place occurs =
    let mark = named_mark (slice_get source.marks place) (occurrence_named source place occurs) in
    let there = as_long source.marks told_of.table place mark.0 mark.1 are.found.whole in
    let found : IfSome (Some there.0) (IsFound source place) =
    subst (λ (answer : Option (Option Declared)). IfSome answer (IsFound source place)) there.1 (are.found.each place occurs) in
    subst (λ (answer : Option (Option Declared)). IsFound source place (unwrap_or answer None)) (sym there.1) found

-- what stands at an index is told
first_or : (given : Bool) (place : ℕ) (further : Option ℕ) → IsSome further → IsSome (cond given (Some place) further)
first_or true place further some = refl
first_or false place further some = some

pub entry_told : (entries : Entries) (index : ℕ) (entry : Key × ℕ) → slice_get entries index ≡ Some entry → IsSome (told entries entry.0.0 entry.0.1)
entry_told [] index entry at = absurd (none-some entry at)
entry_told (first ∷ entries) zero entry at =
    subst (λ (e : Key × ℕ). IsSome (told (first ∷ entries) e.0.0 e.0.1)) (same_Some first entry at)
    (subst (λ b. IsSome (cond b (Some first.1) (told entries first.0.0 first.0.1))) (sym (is_key_itself first.0)) refl)
entry_told (first ∷ entries) (suc index) entry at = first_or (is_key entry.0 first.0) first.1 (told entries entry.0.0 entry.0.1) (entry_told entries index entry at)

-- what is told stands at an index
pub told_entry : (entries : Entries) (scope number place : ℕ) → told entries scope number ≡ Some place
    → (index : ℕ) × (slice_get entries index ≡ Some ((scope, number), place))
told_entry [] scope number place is = absurd (none-some place is)
told_entry (first ∷ entries) scope number place is = by (is_key (scope, number) first.0) refl (told_entry entries scope number place)
  where
    by : (b : Bool) → is_key (scope, number) first.0 ≡ b
        → (told entries scope number ≡ Some place → (index : ℕ) × (slice_get entries index ≡ Some ((scope, number), place)))
        → (index : ℕ) × (slice_get (first ∷ entries) index ≡ Some ((scope, number), place))
    by true e further =
        let same = same_key (scope, number) first.0 e in
        let at : first.1 ≡ place = same_Some first.1 place (sym (ap (λ b. cond b (Some first.1) (told entries scope number)) e) ∙ is) in
        (0, ap (λ (s : ℕ). Some ((s, first.0.1), first.1)) (sym same.0) ∙ ap (λ (n : ℕ). Some ((scope, n), first.1)) (sym same.1) ∙ ap (λ (p : ℕ). Some ((scope, number), p)) at)
    by false e further =
        let rest = further (sym (ap (λ b. cond b (Some first.1) (told entries scope number)) e) ∙ is) in (suc rest.0, rest.1)
