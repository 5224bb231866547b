-- The frames of open parts, followed from mark to mark.
use Rattle.std.proofs.Common.{◌≡◌, ℕ, suc, ◌+◌, List, [], Option, Some, slice_get, refl, sym, ap, ◌∙◌, add-one}
use Rattle.es_outline.specs.declared.mark.Mark.{Mark}
use Rattle.es_outline.specs.Outline.{Marks}
use Rattle.es_scope.specs.declared.frame.Frame.{Frame}
use Rattle.es_scope.specs.Frames.{frames_at, behind, behind_any}

pub none_open : (marks : Marks) (frames : List Frame) → frames ≡ [] → frames ≡ frames_at marks 0
unfolding frames_at
none_open marks frames none = none

followed : (marks : Marks) (place : ℕ) → frames_at marks (suc place) ≡ behind_any (slice_get marks place) place (frames_at marks place)
unfolding frames_at
followed marks place = refl

pub one_passed : (marks : Marks) (place : ℕ) (one_mark : Mark) (frames more : List Frame) → frames ≡ frames_at marks place → slice_get marks place ≡ Some one_mark
    → more ≡ behind one_mark place frames → more ≡ frames_at marks (place + 1)
one_passed marks place one_mark frames more are at passed =
    passed ∙ ap (behind one_mark place) are ∙ ap (λ (found : Option Mark). behind_any found place (frames_at marks place)) (sym at)
    ∙ sym (followed marks place) ∙ ap (frames_at marks) (sym (add-one place))
