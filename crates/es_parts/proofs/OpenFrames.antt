-- The frames that are followed from mark to mark tell the parts around a place as they are defined.
use Rattle.std.proofs.Common.{◌≡◌, ℕ, zero, suc, ◌||◌, Bool, true, false, cond, List, [], ◌∷◌, Option, Some, None, is_some, slice_get, refl, sym, ap, subst, ◌∙◌, arith}
use Rattle.std.specs.Prelude.{◌↔◌, IsTrue}
use Rattle.std.proofs.lemmas.Bool.{false≢true}
use Rattle.es_outline.specs.declared.mark.Mark.{Mark}
use Rattle.es_outline.specs.declared.mark.Mark.TheVariants as mark
use Rattle.es_outline.specs.declared.mark.Part.{Part}
use Rattle.es_outline.specs.Outline.{Marks}
use Rattle.es_scope.specs.Occurrences.{is_binder}
use Rattle.es_scope.specs.Parts.{Encloses}
use Rattle.es_scope.specs.Refused.{is_function}
use Rattle.es_scope.proofs.Enclosing.{Opened, outer, opened_behind, open_at, enclosing, enclosing_listed}
use Rattle.es_scope.proofs.Nearest.{falls_at, first_of, first_found, within, highest, nearest_part}
use Rattle.es_parts.specs.declared.frame.Frame.{Frame}
use Rattle.es_parts.specs.Around.{IsInnermost, IsInFunction, IsAround, is_any, is_pattern}
use Rattle.es_parts.specs.Frames.{entered, left, behind_any, innermost, frames_at, frame_at}

abbrev frames_of : List Opened → List Frame
frames_of [] = []
frames_of (one ∷ others) = entered one.0 one.1 (frames_of others)

left_of : (parts : List Opened) → left (frames_of parts) ≡ frames_of (outer parts)
left_of [] = refl
left_of (one ∷ others) = refl

frames_behind : (place : ℕ) (parts : List Opened) (one_mark : Option Mark) → behind_any one_mark place (frames_of parts) ≡ frames_of (opened_behind one_mark place parts)
frames_behind place parts None = refl
frames_behind place parts (Some (mark.Begin which)) = refl
frames_behind place parts (Some (mark.End which)) = left_of parts
frames_behind place parts (Some _) = refl

frames_are : (marks : Marks) (place : ℕ) → frames_at marks place ≡ frames_of (open_at marks place)
unfolding frames_at open_at
frames_are marks zero = refl
frames_are marks (suc place) = ap (behind_any (slice_get marks place) place) (frames_are marks place) ∙ frames_behind place (open_at marks place) (slice_get marks place)

-- where it begins
abbrev pub begins_of : Option Opened → Option ℕ
begins_of None = None
begins_of (Some one) = Some one.1

-- a frame tells the first part of some kinds
chosen : (is_kind : Bool) (one : Opened) (further : Option ℕ) (found : Option Opened) → further ≡ begins_of found
    → cond is_kind (Some one.1) further ≡ begins_of (cond is_kind (Some one) found)
chosen true one further found e = refl
chosen false one further found e = e

part_of : (parts : List Opened) → (innermost (frames_of parts)).around.part ≡ begins_of (first_of is_any parts)
part_of [] = refl
part_of (one ∷ others) = refl

pattern_of : (parts : List Opened) → (innermost (frames_of parts)).around.pattern ≡ begins_of (first_of is_pattern parts)
pattern_of [] = refl
pattern_of (one ∷ others) = chosen (is_pattern one.0) one (innermost (frames_of others)).around.pattern (first_of is_pattern others) (pattern_of others)

binder_of : (parts : List Opened) → (innermost (frames_of parts)).binder ≡ begins_of (first_of is_binder parts)
binder_of [] = refl
binder_of (one ∷ others) = chosen (is_binder one.0) one (innermost (frames_of others)).binder (first_of is_binder others) (binder_of others)

-- whether there is one
any_of : (is_kind : Bool) (one : Opened) (further : Bool) (found : Option Opened) → further ≡ is_some found → (is_kind || further) ≡ is_some (cond is_kind (Some one) found)
any_of true one further found e = refl
any_of false one further found e = e

function_of : (parts : List Opened) → (innermost (frames_of parts)).around.in_function ≡ is_some (first_of is_function parts)
function_of [] = refl
function_of (one ∷ others) = any_of (is_function one.0) one (innermost (frames_of others)).around.in_function (first_of is_function others) (function_of others)

-- the first in the list of those that are open is the innermost
none_reaches : (kinds : Part → Bool) (marks : Marks) (place opening : ℕ) (which : Part) → first_of kinds (open_at marks place) ≡ None → kinds which ≡ true
    → ¬ Encloses marks which opening place
none_reaches kinds marks place opening which none kind h =
    let far = highest kinds place (open_at marks place) (which, opening) (falls_at marks place) (enclosing_listed marks place opening which h) kind in
    let reach : within (first_of kinds (open_at marks place)) ≡ 0 = ap within none in omega arith

innermost_first : (kinds : Part → Bool) (marks : Marks) (place : ℕ) (found : Option Opened) → first_of kinds (open_at marks place) ≡ found
    → IsInnermost kinds marks place (begins_of found)
innermost_first kinds marks place None e = IsInnermost.none (λ which opening kind h. none_reaches kinds marks place opening which e kind h)
innermost_first kinds marks place (Some one) e = IsInnermost.some one.0 one.1 ((nearest_part kinds marks place one.0 one.1).1 e)

innermost_told : (kinds : Part → Bool) (marks : Marks) (place : ℕ) (told : Option ℕ) → told ≡ begins_of (first_of kinds (open_at marks place)) → IsInnermost kinds marks place told
innermost_told kinds marks place told e =
    subst (λ o. IsInnermost kinds marks place o) (sym e) (innermost_first kinds marks place (first_of kinds (open_at marks place)) refl)

-- and the innermost is the first in the list
none_first : (kinds : Part → Bool) (marks : Marks) (place : ℕ) → ((which : Part) (opening : ℕ) → kinds which ≡ true → ¬ Encloses marks which opening place)
    → (found : Option Opened) → first_of kinds (open_at marks place) ≡ found → None ≡ begins_of found
none_first kinds marks place none None e = refl
none_first kinds marks place none (Some one) e =
    let there = first_found kinds (open_at marks place) one e in absurd (none one.0 one.1 there.1 (enclosing marks place one.1 one.0 there.0))

pub begins_first : (kinds : Part → Bool) (marks : Marks) (place : ℕ) (told : Option ℕ) → IsInnermost kinds marks place told → told ≡ begins_of (first_of kinds (open_at marks place))
begins_first kinds marks place _ (IsInnermost.none none) = none_first kinds marks place none (first_of kinds (open_at marks place)) refl
begins_first kinds marks place _ (IsInnermost.some which opening h) = sym (ap begins_of ((nearest_part kinds marks place which opening).0 h))

-- a function encloses the place if one is in the list
function_there : (marks : Marks) (place : ℕ) (found : Option Opened) → first_of is_function (open_at marks place) ≡ found → IsTrue (is_some found) → IsInFunction marks place
function_there marks place None e some = absurd (false≢true some)
function_there marks place (Some one) e some =
    let there = first_found is_function (open_at marks place) one e in (one.0, one.1, there.1, enclosing marks place one.1 one.0 there.0)

function_told : (marks : Marks) (place : ℕ) (found : Option Opened) → first_of is_function (open_at marks place) ≡ found → IsInFunction marks place → IsTrue (is_some found)
function_told marks place None e (which, opening, kind, h) = absurd (none_reaches is_function marks place opening which e kind h)
function_told marks place (Some one) e h = refl

function_is : (marks : Marks) (place : ℕ) (told : Bool) → told ≡ is_some (first_of is_function (open_at marks place)) → IsTrue told ↔ IsInFunction marks place
function_is marks place told e = (
  λ h. function_there marks place (first_of is_function (open_at marks place)) refl (subst IsTrue e h),
  λ h. subst IsTrue (sym e) (function_told marks place (first_of is_function (open_at marks place)) refl h),
)

-- what the frame at a place tells
pub around_at : (marks : Marks) (place : ℕ) → IsAround marks place (frame_at marks place).around
around_at marks place = record {
  part = innermost_told is_any marks place (frame_at marks place).around.part (ap (λ frames. (innermost frames).around.part) (frames_are marks place) ∙ part_of (open_at marks place));
  pattern = innermost_told is_pattern marks place (frame_at marks place).around.pattern (ap (λ frames. (innermost frames).around.pattern) (frames_are marks place) ∙ pattern_of (open_at marks place));
  function = function_is marks place (frame_at marks place).around.in_function (ap (λ frames. (innermost frames).around.in_function) (frames_are marks place) ∙ function_of (open_at marks place));
}

pub binder_at : (marks : Marks) (place : ℕ) → IsInnermost is_binder marks place (frame_at marks place).binder
binder_at marks place =
    innermost_told is_binder marks place (frame_at marks place).binder (ap (λ frames. (innermost frames).binder) (frames_are marks place) ∙ binder_of (open_at marks place))
