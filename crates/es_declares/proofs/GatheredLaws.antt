-- The imports of a text, gathered from place to place.
use Rattle.std.proofs.Common.{◌≡◌, ◌<◌, ◌+◌, ℕ, List, [], ◌∷◌, ◌++◌, Option, Some, None, length, refl, sym, subst, ◌∙◌, arith}
use Rattle.std.proofs.lemmas.Option.{slice_get_within}
use Rattle.es_outline.specs.declared.mark.Mark.TheVariants as mark
use Rattle.es_outline.specs.declared.mark.Role.TheVariants as is
use Rattle.pk_types.specs.declared.facts.Request.{Request}
use Rattle.pk_types.specs.declared.facts.ImportEntry.{ImportEntry}
use Rattle.es_scope.specs.Source.{Source}
use Rattle.es_scope.specs.Declaring.{Imports}
use Rattle.es_parts.proofs.Following.{AreTo, none_told, one_told}
use Rattle.es_declares.specs.Found.{IsItemAt}
use Rattle.es_declares.specs.Importing.{IsNumberIn, IsImportBy, Gathered, AreGathered, with_entry}
use Rattle.es_declares.proofs.Listing.{AreThoseTo, no_item, one_item, no_more, all_items, still_there, last_there}

grown : {A : Type 0} (IsAt : ℕ → A → Type 0) (items : List A) (item : A) (place : ℕ) (number : Option ℕ) → IsNumberIn IsAt items place number
    → IsNumberIn IsAt (items ++ item ∷ []) place number
grown IsAt items item place _ (IsNumberIn.none never) = IsNumberIn.none never
grown IsAt items item place _ (IsNumberIn.some number there) = IsNumberIn.some number (still_there (IsAt place) items item number there)

-- those of the places before the limit
pub record AreGatheredTo (source : Source) (requests : List Request) (limit : ℕ) (gathered : Gathered) : Type 0 where
  pub those : AreThoseTo (IsImportBy source requests) limit gathered.entries
  pub numbers : AreTo (IsNumberIn (IsImportBy source requests) gathered.entries) limit gathered.numbers

module _ (source : Source) (requests : List Request) where
  pub none_gathered : (gathered : Gathered) → gathered ≡ record { entries = []; numbers = [] } → AreGatheredTo source requests 0 gathered
  none_gathered gathered e = subst (AreGatheredTo source requests 0) (sym e) (record {
    those = no_item (IsImportBy source requests);
    numbers = none_told (IsNumberIn (IsImportBy source requests) []) [] refl;
  })

  one_entry : (limit : ℕ) (gathered : Gathered) (entry : Option ImportEntry) → AreGatheredTo source requests limit gathered → IsItemAt (IsImportBy source requests) limit entry
      → AreGatheredTo source requests (limit + 1) (with_entry gathered entry)
  one_entry limit gathered _ so_far (IsItemAt.none never) = record {
    those = no_more (IsImportBy source requests) limit gathered.entries never so_far.those;
    numbers = one_told (IsNumberIn (IsImportBy source requests) gathered.entries) limit gathered.numbers (gathered.numbers ++ None ∷ []) None so_far.numbers (IsNumberIn.none never) refl;
  }
  one_entry limit gathered _ so_far (IsItemAt.some entry is) = record {
    those = one_item (IsImportBy source requests) limit gathered.entries entry is so_far.those;
    numbers = one_told (IsNumberIn (IsImportBy source requests) (gathered.entries ++ entry ∷ [])) limit gathered.numbers (gathered.numbers ++ Some (length gathered.entries) ∷ [])
        (Some (length gathered.entries))
        (record { whole = so_far.numbers.whole; each = λ place number e. grown (IsImportBy source requests) gathered.entries entry place number (so_far.numbers.each place number e) })
        (IsNumberIn.some (length gathered.entries) (last_there (IsImportBy source requests limit) gathered.entries entry is)) refl;
  }

  pub one_gathered : (limit : ℕ) (gathered more : Gathered) (entry : Option ImportEntry) → AreGatheredTo source requests limit gathered
      → IsItemAt (IsImportBy source requests) limit entry → more ≡ with_entry gathered entry → AreGatheredTo source requests (limit + 1) more
  one_gathered limit gathered more entry so_far found e = subst (AreGatheredTo source requests (limit + 1)) (sym e) (one_entry limit gathered entry so_far found)

  imports_within : (place : ℕ) (name : Option (List ℕ)) (said : ℕ) → Imports source place name said → place < length source.marks
  imports_within place _ _ (Imports.same before e t short) = slice_get_within source.marks place (mark.Token is.Imported t.0) t.1
  imports_within place _ _ (Imports.renamed outer e t o) = slice_get_within source.marks place (mark.Token is.Imported t.0) t.1
  imports_within place _ _ (Imports.by_default t) = slice_get_within source.marks place (mark.Token is.ImportedDefault t.0) t.1
  imports_within place _ _ (Imports.space star e t) = slice_get_within source.marks place (mark.Token is.ImportedSpace t.0) t.1

  pub all_gathered : (limit : ℕ) (gathered : Gathered) → length source.marks ≡ limit → AreGatheredTo source requests limit gathered → AreGathered source requests gathered
  all_gathered limit gathered same so_far = record {
    those = all_items (IsImportBy source requests) limit (length source.marks) gathered.entries (λ place entry h. imports_within place entry.name h.said h.imports) (omega arith) so_far.those;
    whole = so_far.numbers.whole ∙ sym same;
    numbers = so_far.numbers.each;
  }
