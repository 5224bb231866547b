-- What the names of a text refer to, as a table by places.
use Rattle.std.proofs.Common.{◌≡◌, ℕ, ◌+◌, ◌≤◌, true, List, [], ◌∷◌, ◌++◌, Option, Some, None, length, slice_get, slice_index, refl, sym, ap, subst, ◌∙◌, arith}
use Rattle.std.specs.Prelude.{IfSome}
use Rattle.std.proofs.lemmas.Bool.{false≢true}
use Rattle.std.proofs.lemmas.List.{length_push}
use Rattle.es_outline.specs.declared.mark.Mark.{Mark}
use Rattle.es_outline.specs.declared.mark.Role.{Role}
use Rattle.es_outline.specs.declared.mark.Role.TheVariants as is
use Rattle.es_outline.specs.Outline.{Marks}
use Rattle.es_scope.specs.declared.kinds.DeclarationKind.{DeclarationKind}
use Rattle.es_scope.specs.declared.found.Declared.{Declared}
use Rattle.es_scope.specs.declared.frame.Frame.{Frame}
use Rattle.es_scope.specs.Source.{Source}
use Rattle.es_scope.specs.Occurrences.{IsDeclared, IsOccurrence, is_import}
use Rattle.es_scope.specs.Frames.{frames_at, scopes_of, scopes_at}
use Rattle.es_scope.specs.Named.{is_naming, names_it, AreNumbered}
use Rattle.es_scope.specs.Firsts.{AreFirst}
use Rattle.es_scope.specs.Found.{AreFound, IsFound, found}
use Rattle.es_scope.proofs.LookingUp.{looked_up_by_number}
use Rattle.es_scope.proofs.FirstPlaces.{numbered_name}
use Rattle.es_scope.proofs.Placing.{ArePlaced, none_placed, one_placed}

-- a name is a mark
pub named_mark : (found : Option Mark) → names_it found ≡ true → (one_mark : Mark) × (found ≡ Some one_mark)
named_mark (Some one_mark) e = (one_mark, refl)
named_mark None e = absurd (false≢true e)

-- an occurrence is a name
import_named : (role : Role) → is_import role ≡ true → is_naming role ≡ true
import_named is.Imported e = refl
import_named is.ImportedDefault e = refl
import_named is.ImportedSpace e = refl
import_named _ e = cc

declared_named : (source : Source) (place : ℕ) (how : DeclarationKind) → IsDeclared source place how → names_it (slice_get source.marks place) ≡ true
declared_named source place _ (IsDeclared.by_word how opening t b w) = ap names_it t.1
declared_named source place _ (IsDeclared.parameter opening t b) = ap names_it t.1
declared_named source place _ (IsDeclared.arrow_parameter opening t b) = ap names_it t.1
declared_named source place _ (IsDeclared.caught opening t b) = ap names_it t.1
declared_named source place _ (IsDeclared.function t) = ap names_it t.1
declared_named source place _ (IsDeclared.class t) = ap names_it t.1
declared_named source place _ (IsDeclared.imported role r t) = ap names_it t.1 ∙ import_named role r

pub occurrence_named : (source : Source) (place : ℕ) → IsOccurrence source place → names_it (slice_get source.marks place) ≡ true
occurrence_named source place (IsOccurrence.declared how d) = declared_named source place how d
occurrence_named source place (IsOccurrence.referred t) = ap names_it t.1
occurrence_named source place (IsOccurrence.exported t own) = ap names_it t.1

module _ (source : Source) (texts : List (List ℕ)) (numbers : List ℕ) (told : ℕ → ℕ → Option ℕ) where
  -- the answer is what is found for the name at the place
  abbrev pub IsAnswerAt : ℕ → Option Declared → Type 0
  IsAnswerAt place answer = names_it (slice_get source.marks place) ≡ true → answer ≡ found (λ scope. told scope (slice_index numbers place)) (scopes_at source place)

  -- those for the first marks
  pub record AreAnswersTo (count : ℕ) (table : List (Option Declared)) : Type 0 where
    pub whole : length table ≡ count
    pub each : ArePlaced IsAnswerAt table

  pub no_answer : (table : List (Option Declared)) → table ≡ [] → AreAnswersTo 0 table
  no_answer table none = subst (AreAnswersTo 0) (sym none) (record { whole = refl; each = none_placed IsAnswerAt })

  pub one_answer : (count : ℕ) (table longer : List (Option Declared)) (answer : Option Declared) (one_mark : Mark) (frames : List Frame) → AreAnswersTo count table
      → slice_get source.marks count ≡ Some one_mark → frames ≡ frames_at source.marks count
      → (names_it (Some one_mark) ≡ true → answer ≡ found (λ scope. told scope (slice_index numbers count)) (scopes_of frames))
      → longer ≡ table ++ answer ∷ [] → AreAnswersTo (count + 1) longer
  one_answer count table longer answer one_mark frames so_far at are is pushed = subst (AreAnswersTo (count + 1)) (sym pushed) (record {
    whole = length_push table answer ∙ ap (λ n. n + 1) so_far.whole;
    each = one_placed IsAnswerAt table answer so_far.each (subst (λ n. IsAnswerAt n answer) (sym so_far.whole)
        (λ named. is (sym (ap names_it at) ∙ named) ∙ ap (λ (around : List Frame). found (λ scope. told scope (slice_index numbers count)) (scopes_of around)) are));
  })

  answered : AreNumbered source texts numbers → AreFirst source texts (length source.marks) told → (table : List (Option Declared)) → ArePlaced IsAnswerAt table
      → (place : ℕ) → IsOccurrence source place → (answer : Option (Option Declared)) → slice_get table place ≡ answer → IfSome answer (IsFound source place)
  answered are first table each place occurs None e = tt
  answered are first table each place occurs (Some answer) e =
      let named = occurrence_named source place occurs in
      subst (IsFound source place) (sym (each place answer e named))
      (looked_up_by_number source texts place (slice_index numbers place) told first (numbered_name source texts numbers place are named) occurs)

  pub all_answers : AreNumbered source texts numbers → AreFirst source texts (length source.marks) told → (table : List (Option Declared)) (marks : Marks) (count : ℕ)
      → marks ≡ source.marks → length marks ≤ count → count ≤ length marks → AreAnswersTo count table → AreFound source table
  all_answers are first table marks count same most least so_far = record {
    whole = so_far.whole ∙ omega (arith, ap length same);
    each = λ place occurs. answered are first table so_far.each place occurs (slice_get table place) refl;
  }
