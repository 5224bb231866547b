-- The numbers of names, when those of one mark more are known.
use Rattle.std.proofs.Common.{◌≡◌, ℕ, ◌+◌, ◌≤◌, true, List, [], ◌∷◌, ◌++◌, length, Option, Some, None, slice_get, refl, sym, ap, subst, ◌∙◌, arith}
use Rattle.std.proofs.lemmas.Bool.{false≢true}
use Rattle.std.proofs.lemmas.List.{length_push}
use Rattle.pk_types.proofs.Members.{as_long}
use Rattle.pk_text.specs.Places.{place_of}
use Rattle.es_outline.specs.declared.mark.Mark.{Mark}
use Rattle.es_outline.specs.Outline.{Marks}
use Rattle.es_scope.specs.Source.{Source, name_at}
use Rattle.es_scope.specs.Named.{names_it, AreNumbered, Keeps, IsNumberOf}
use Rattle.es_scope.proofs.Placing.{ArePlaced, none_placed, one_placed}

-- this is the number at the place
abbrev pub IsNumberAt : Source → List (List ℕ) → ℕ → ℕ → Type 0
IsNumberAt source texts place number = IsNumberOf source texts (slice_get source.marks place) number

-- the first marks have these numbers
pub record AreNumberedTo (source : Source) (texts : List (List ℕ)) (count : ℕ) (numbers : List ℕ) : Type 0 where
  pub whole : length numbers ≡ count
  pub each : ArePlaced (IsNumberAt source texts) numbers

pub no_number : (source : Source) (texts : List (List ℕ)) → AreNumberedTo source texts 0 []
no_number source texts = record { whole = refl; each = none_placed (IsNumberAt source texts) }

kept_at : (source : Source) (texts more : List (List ℕ)) → Keeps texts more → (place number : ℕ) → IsNumberAt source texts place number → IsNumberAt source more place number
kept_at source texts more keeps place number is named = keeps (name_at source place) number (is named)

pub one_number : (source : Source) (texts more : List (List ℕ)) (count number : ℕ) (numbers longer : List ℕ) (found : Mark) → AreNumberedTo source texts count numbers
    → slice_get source.marks count ≡ Some found → Keeps texts more → IsNumberOf source more (Some found) number → longer ≡ numbers ++ number ∷ []
    → AreNumberedTo source more (count + 1) longer
one_number source texts more count number numbers longer found so_far at keeps is pushed = subst (AreNumberedTo source more (count + 1)) (sym pushed) (record {
  whole = length_push numbers number ∙ ap (λ n. n + 1) so_far.whole;
  each = one_placed (IsNumberAt source more) numbers number (λ place other e. kept_at source texts more keeps place other (so_far.each place other e))
      (subst (λ n. IsNumberAt source more n number) (sym so_far.whole) (subst (λ (m : Option Mark). IsNumberOf source more m number) (sym at) is));
})

module _ (source : Source) (texts : List (List ℕ)) (numbers : List ℕ) where
  numbers_of_all : AreNumberedTo source texts (length source.marks) numbers → AreNumbered source texts numbers
  numbers_of_all all = record { whole = all.whole; each = λ place named. by place named (slice_get source.marks place) refl }
    where
      by : (place : ℕ) → names_it (slice_get source.marks place) ≡ true → (found : Option Mark) → slice_get source.marks place ≡ found
          → slice_get numbers place ≡ place_of texts (name_at source place)
      by place named None e = absurd (false≢true (sym (ap names_it e) ∙ named))
      by place named (Some one_mark) e =
          let there = as_long source.marks numbers place one_mark e all.whole in
          there.1 ∙ sym (all.each place there.0 there.1 named)

  pub all_numbers : (marks : Marks) (count : ℕ) → marks ≡ source.marks → length marks ≤ count → count ≤ length marks → AreNumberedTo source texts count numbers
      → AreNumbered source texts numbers
  all_numbers marks count same most least so_far =
      let n : count ≡ length source.marks = omega (arith, ap length same) in
      numbers_of_all (subst (λ k. AreNumberedTo source texts k numbers) n so_far)
