-- What stands at places: one role at each, and none behind the marks.
use Rattle.std.proofs.Common.{◌≡◌, ◌≢◌, ℕ, ◌<◌, true, false, List, Option, Some, None, slice_get, length, refl, sym, ap, ◌∙◌, true≢false}
use Rattle.std.specs.Prelude.{IsSomeAnd}
use Rattle.std.specs.Str.{bytes_eq}
use Rattle.std.proofs.lemmas.Bool.{false_from_ne_true}
use Rattle.std.proofs.lemmas.Option.{slice_get_within}
use Rattle.std.proofs.lemmas.Slice.Eq.{bytes_eq-Decides}
use Rattle.es_outline.specs.declared.mark.Mark.{Mark}
use Rattle.es_outline.specs.declared.mark.Mark.TheVariants as mark
use Rattle.es_outline.specs.declared.mark.Role.{Role}
use Rattle.es_outline.specs.declared.mark.Role.TheVariants as is
use Rattle.es_scope.specs.Source.{Source, IsMark, HasRole}
use Rattle.es_scope.specs.Named.{is_naming, names_it}
use Rattle.es_scope.specs.Occurrences.{IsOccurrence, is_import}
use Rattle.es_scope.specs.Declaring.{StartsAt, Imports}
use Rattle.es_scope.proofs.FoundTable.{named_mark, occurrence_named}

-- what some option holds
pub some_so : {A : Type 0} (P : A → Type 0) (found : Option A) → IsSomeAnd found P → (item : A) × (found ≡ Some item) × P item
some_so P (Some item) h = (item, refl, h)
some_so P None h = absurd h

-- texts that differ
pub unlike : (text other : List ℕ) → text ≢ other → bytes_eq text other ≡ false
unlike text other differ = false_from_ne_true (bytes_eq text other) (λ e. differ ((bytes_eq-Decides text other).0 e))

module _ (source : Source) (place : ℕ) where
  pub mark_within : (one_mark : Mark) → IsMark source place one_mark → place < length source.marks
  mark_within one_mark e = slice_get_within source.marks place one_mark e

  pub role_within : (role : Role) → HasRole source place role → place < length source.marks
  role_within role h = mark_within (mark.Token role h.0) h.1

  pub start_within : (start : ℕ) → StartsAt source place start → place < length source.marks
  start_within start h = mark_within (mark.Token h.0 h.1) h.2

  abbrev role_or : Role → Option Mark → Role
  role_or other (Some (mark.Token role token)) = role
  role_or other _ = other

  pub one_role : (role other : Role) → HasRole source place role → HasRole source place other → role ≡ other
  one_role role other h i = sym (ap (role_or other) h.1) ∙ ap (role_or other) i.1

  pub occurrence_within : IsOccurrence source place → place < length source.marks
  occurrence_within occurs =
      let found = named_mark (slice_get source.marks place) (occurrence_named source place occurs) in
      mark_within found.0 found.1

  -- what is imported is told so
  pub imported_role : (said : ℕ) (name : Option (List ℕ)) → Imports source place name said → (role : Role) × (is_import role ≡ true) × HasRole source place role
  imported_role _ _ (Imports.same before next role short) = (is.Imported, refl, role)
  imported_role _ _ (Imports.renamed outer next role also) = (is.Imported, refl, role)
  imported_role _ _ (Imports.by_default role) = (is.ImportedDefault, refl, role)
  imported_role _ _ (Imports.space star next role) = (is.ImportedSpace, refl, role)

  -- no name stands where a token is another thing
  pub no_name : (role : Role) → is_naming role ≡ false → HasRole source place role → ¬ IsOccurrence source place
  no_name role other h occurs = true≢false (sym (occurrence_named source place occurs) ∙ ap names_it h.1 ∙ other)
