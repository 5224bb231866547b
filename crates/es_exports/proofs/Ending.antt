-- The parts around places, also behind the last mark.
use Rattle.std.proofs.Common.{◌≡◌, ◌<◌, ◌≤◌, ◌⊎◌, inl, inr, ℕ, zero, suc, List, [], ◌∷◌, Option, Some, None, length, slice_get, nat_lt, option_and_then, refl, sym, ap, subst, ◌∙◌, arith}
use Rattle.std.specs.Prelude.{⊤}
use Rattle.std.proofs.lemmas.Bool.{cases_lt, lt-ltb, le-ltb, cond-true, cond-false}
use Rattle.std.proofs.lemmas.Option.{slice_get_past}
use Rattle.es_outline.specs.declared.mark.Mark.{Mark}
use Rattle.es_outline.specs.declared.mark.Mark.TheVariants as mark
use Rattle.es_outline.specs.Outline.{Marks}
use Rattle.es_scope.specs.Known.{Known}
use Rattle.es_parts.specs.declared.frame.Frame.{Frame}
use Rattle.es_parts.specs.Frames.{innermost, left, behind_any, frames_at}
use Rattle.es_parts.specs.Around.{IsInnermost, is_any}
use Rattle.es_parts.proofs.OpenFrames.{begins_first, around_at}
use Rattle.es_exports.specs.Seeing.{Seen, part_in, part_at, back, open_by, end_of, end_part, part_around}
use Rattle.es_exports.proofs.Marks.{some_there, back_is}
use Rattle.es_exports.proofs.Facts.{AreSeen, innermost_there}

-- where the innermost of the parts begins
abbrev part_of : List Frame → Option ℕ
part_of frames = (innermost frames).around.part

-- behind each part are those that were open where it begins
abbrev AreNested : Marks → List Frame → Type 0
AreNested marks [] = ⊤
AreNested marks (frame ∷ frames) = (opening : ℕ) × (frame.around.part ≡ Some opening) × (frames ≡ frames_at marks opening) × AreNested marks frames

nested_left : (marks : Marks) (frames : List Frame) → AreNested marks frames → AreNested marks (left frames)
nested_left marks [] h = tt
nested_left marks (frame ∷ frames) h = h.3

nested_behind : (marks : Marks) (place : ℕ) → AreNested marks (frames_at marks place) → (there : Option Mark)
    → AreNested marks (behind_any there place (frames_at marks place))
nested_behind marks place h (Some (mark.Begin which)) = (place, refl, refl, h)
nested_behind marks place h (Some (mark.End which)) = nested_left marks (frames_at marks place) h
nested_behind marks place h _ = h

followed : (marks : Marks) (place : ℕ) → frames_at marks (suc place) ≡ behind_any (slice_get marks place) place (frames_at marks place)
unfolding frames_at
followed marks place = refl

none_open : (marks : Marks) → AreNested marks (frames_at marks 0)
unfolding frames_at
none_open marks = tt

no_part : (marks : Marks) → None ≡ part_of (frames_at marks 0)
unfolding frames_at
no_part marks = refl

nested : (marks : Marks) (place : ℕ) → AreNested marks (frames_at marks place)
nested marks zero = none_open marks
nested marks (suc place) = subst (AreNested marks) (sym (followed marks place)) (nested_behind marks place (nested marks place) (slice_get marks place))

-- behind the last mark nothing changes
past : (marks : Marks) (place : ℕ) → length marks ≤ place → frames_at marks (suc place) ≡ frames_at marks place
past marks place most =
    followed marks place ∙ ap (λ (there : Option Mark). behind_any there place (frames_at marks place)) (slice_get_past marks place most)

past_by : (marks : Marks) (place : ℕ) → length marks ≤ suc place → (place < length marks) ⊎ (length marks ≤ place)
    → (length marks ≤ place → frames_at marks place ≡ frames_at marks (length marks)) → frames_at marks (suc place) ≡ frames_at marks (length marks)
past_by marks place most (inl less) rest = ap (frames_at marks) (let same : suc place ≡ length marks = omega arith in same)
past_by marks place most (inr more) rest = past marks place more ∙ rest more

all_past : (marks : Marks) (place : ℕ) → length marks ≤ place → frames_at marks place ≡ frames_at marks (length marks)
all_past marks zero most = ap (frames_at marks) (let same : 0 ≡ length marks = omega arith in same)
all_past marks (suc place) most = past_by marks place most (cases_lt place (length marks)) (all_past marks place)

module _ (known : Known) (seen : Seen) (are : AreSeen known seen) where
  part_is : (place : ℕ) → place < length seen.source.marks → part_at seen place ≡ part_of (frames_at seen.source.marks place)
  part_is place inside =
      let there = some_there seen.around place (let long = are.around.whole in omega arith) in
      ap part_in there.1 ∙ begins_first is_any seen.source.marks place there.0.part (are.around.each place there.0 there.1).part
      ∙ sym (begins_first is_any seen.source.marks place (part_of (frames_at seen.source.marks place)) (around_at seen.source.marks place).part)

  -- a part begins before the place
  below : (place opening : ℕ) → part_of (frames_at seen.source.marks place) ≡ Some opening → opening < place
  below place opening e =
      let there = innermost_there is_any seen.source.marks place opening (part_of (frames_at seen.source.marks place)) (around_at seen.source.marks place).part e in
      there.1.encloses.before

  ended : (last : ℕ) (frames : List Frame) → last < length seen.source.marks → frames_at seen.source.marks last ≡ frames → AreNested seen.source.marks frames
      → option_and_then (part_at seen) (part_of frames) ≡ part_of (left frames)
  ended last [] inside e h = refl
  ended last (frame ∷ frames) inside e h =
      let before = below last h.0 (ap part_of e ∙ h.1) in
      ap (option_and_then (part_at seen)) h.1 ∙ (part_is h.0 (omega arith) ∙ ap part_of (sym h.2))

  open_is : (last : ℕ) (there : Option Mark) → last < length seen.source.marks
      → open_by seen last there ≡ part_of (behind_any there last (frames_at seen.source.marks last))
  open_is last (Some (mark.Begin which)) inside = refl
  open_is last (Some (mark.End which)) inside =
      ap (option_and_then (part_at seen)) (part_is last inside)
      ∙ ended last (frames_at seen.source.marks last) inside refl (nested seen.source.marks last)
  open_is last _ inside = part_is last inside

  end_by : (count : ℕ) → count ≡ length seen.source.marks → end_of seen (back 1 count) ≡ part_of (frames_at seen.source.marks count)
  end_by zero e = no_part seen.source.marks
  end_by (suc last) e =
      ap (end_of seen) (back_is 1 (suc last) last (omega arith)) ∙ open_is last (slice_get seen.source.marks last) (omega arith)
      ∙ ap part_of (sym (followed seen.source.marks last))

  end_is : (place : ℕ) → length seen.source.marks ≤ place → end_part seen ≡ part_of (frames_at seen.source.marks place)
  end_is place most = end_by (length seen.source.marks) refl ∙ ap part_of (sym (all_past seen.source.marks place most))

  around_is : (place : ℕ) → part_around seen place ≡ part_of (frames_at seen.source.marks place)
  around_is place = by (cases_lt place (length seen.source.marks))
    where
      by : (place < length seen.source.marks) ⊎ (length seen.source.marks ≤ place) → part_around seen place ≡ part_of (frames_at seen.source.marks place)
      by (inl less) =
          cond-true (nat_lt place (length seen.source.marks)) (part_at seen place) (end_part seen) (lt-ltb place (length seen.source.marks) less)
          ∙ part_is place less
      by (inr most) =
          cond-false (nat_lt place (length seen.source.marks)) (part_at seen place) (end_part seen) (le-ltb place (length seen.source.marks) most)
          ∙ end_is place most

  pub innermost_around : (place : ℕ) → IsInnermost is_any seen.source.marks place (part_around seen place)
  innermost_around place = subst (IsInnermost is_any seen.source.marks place) (sym (around_is place)) (around_at seen.source.marks place).part
