-- The frames of open parts, followed from mark to mark, and tables with an item for each mark.
use Rattle.std.proofs.Common.{◌≡◌, ℕ, suc, ◌+◌, ◌≤◌, List, [], ◌∷◌, ◌++◌, Option, Some, length, slice_get, refl, sym, ap, subst, ◌∙◌, add-one, arith}
use Rattle.std.proofs.lemmas.List.{length_push}
use Rattle.es_outline.specs.declared.mark.Mark.{Mark}
use Rattle.es_outline.specs.Outline.{Marks}
use Rattle.es_scope.proofs.Placing.{ArePlaced, none_placed, one_placed}
use Rattle.es_parts.specs.declared.enclosing.Surroundings.{Surroundings}
use Rattle.es_parts.specs.declared.frame.Frame.{Frame}
use Rattle.es_scope.specs.Occurrences.{is_binder}
use Rattle.es_parts.specs.Around.{IsInnermost, IsAround, AreAround}
use Rattle.es_parts.specs.Binding.{AreBinders}
use Rattle.es_parts.specs.Frames.{frames_at, innermost, behind, behind_any}
use Rattle.es_parts.proofs.OpenFrames.{around_at, binder_at}

pub none_open : (marks : Marks) (frames : List Frame) → frames ≡ [] → frames ≡ frames_at marks 0
unfolding frames_at
none_open marks frames none = none

followed : (marks : Marks) (place : ℕ) → frames_at marks (suc place) ≡ behind_any (slice_get marks place) place (frames_at marks place)
unfolding frames_at
followed marks place = refl

pub one_passed : (marks : Marks) (place : ℕ) (one_mark : Mark) (frames more : List Frame) → frames ≡ frames_at marks place → slice_get marks place ≡ Some one_mark
    → more ≡ behind one_mark place frames → more ≡ frames_at marks (place + 1)
one_passed marks place one_mark frames more are at passed =
    passed ∙ ap (behind one_mark place) are ∙ ap (λ (found : Option Mark). behind_any found place (frames_at marks place)) (sym at)
    ∙ sym (followed marks place) ∙ ap (frames_at marks) (sym (add-one place))

-- the first marks have items that are so
pub record AreTo {A : Type 0} (P : ℕ → A → Type 0) (count : ℕ) (table : List A) : Type 0 where
  pub whole : length table ≡ count
  pub each : ArePlaced P table

module _ {A : Type 0} (P : ℕ → A → Type 0) where
  pub none_told : (table : List A) → table ≡ [] → AreTo P 0 table
  none_told table none = subst (AreTo P 0) (sym none) (record { whole = refl; each = none_placed P })

  pub one_told : (count : ℕ) (table longer : List A) (item : A) → AreTo P count table → P count item → longer ≡ table ++ item ∷ [] → AreTo P (count + 1) longer
  one_told count table longer item so_far here pushed = subst (AreTo P (count + 1)) (sym pushed) (record {
    whole = length_push table item ∙ ap (λ n. n + 1) so_far.whole;
    each = one_placed P table item so_far.each (subst (λ n. P n item) (sym so_far.whole) here);
  })

  pub all_told : (marks : Marks) (count : ℕ) (table : List A) → length marks ≤ count → count ≤ length marks → AreTo P count table → AreTo P (length marks) table
  all_told marks count table most least so_far = subst (λ n. AreTo P n table) (omega arith) so_far

-- what is around a place, by the parts that are open there
pub around_here : (marks : Marks) (place : ℕ) (frames : List Frame) (frame : Frame) → frames ≡ frames_at marks place → frame ≡ innermost frames → IsAround marks place frame.around
around_here marks place frames frame are is = subst (λ (f : Frame). IsAround marks place f.around) (sym (is ∙ ap innermost are)) (around_at marks place)

pub all_around : (marks : Marks) (count : ℕ) (table : List Surroundings) → length marks ≤ count → count ≤ length marks → AreTo (IsAround marks) count table → AreAround marks table
all_around marks count table most least so_far =
    let all = all_told (IsAround marks) marks count table most least so_far in record { whole = all.whole; each = all.each }

-- which part binds there
pub binder_here : (marks : Marks) (place : ℕ) (frames : List Frame) (frame : Frame) → frames ≡ frames_at marks place → frame ≡ innermost frames
    → IsInnermost is_binder marks place frame.binder
binder_here marks place frames frame are is = subst (λ (f : Frame). IsInnermost is_binder marks place f.binder) (sym (is ∙ ap innermost are)) (binder_at marks place)

pub all_binders : (marks : Marks) (count : ℕ) (table : List (Option ℕ)) → length marks ≤ count → count ≤ length marks → AreTo (IsInnermost is_binder marks) count table
    → AreBinders marks table
all_binders marks count table most least so_far =
    let all = all_told (IsInnermost is_binder marks) marks count table most least so_far in record { whole = all.whole; each = all.each }
