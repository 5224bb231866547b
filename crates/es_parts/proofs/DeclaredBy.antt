-- How a place declares a name, told by the part that binds there.
use Rattle.std.proofs.Common.{◌≡◌, ℕ, ◌↔◌, Option, Some, None, slice_get, refl, sym, ap, ◌∙◌}
use Rattle.es_outline.specs.declared.mark.Mark.{Mark}
use Rattle.es_outline.specs.declared.mark.Mark.TheVariants as mark
use Rattle.es_outline.specs.declared.mark.Role.{Role}
use Rattle.es_outline.specs.declared.mark.Role.TheVariants as is
use Rattle.es_outline.specs.declared.mark.Part.{Part}
use Rattle.es_outline.specs.declared.mark.Part.TheVariants as part
use Rattle.es_scope.specs.declared.kinds.DeclarationKind.{DeclarationKind}
use Rattle.es_scope.specs.Source.{Source}
use Rattle.es_scope.specs.Occurrences.{IsDeclared, is_binder}
use Rattle.es_scope.specs.Frames as told
use Rattle.es_scope.proofs.Enclosing.{Opened, open_at, enclosing}
use Rattle.es_scope.proofs.Nearest.{first_of, first_found}
use Rattle.es_scope.proofs.OpenFrames as open_frames
use Rattle.es_scope.proofs.Agreeing.{declared_as}
use Rattle.es_parts.specs.Around.{IsInnermost}
use Rattle.es_parts.specs.Binding.{bound_in, bound_by, role_declares, mark_declares}
use Rattle.es_parts.proofs.OpenFrames.{begins_of, begins_first}

-- what a part binds, by its frame
same_bound : (source : Source) (which : Part) (opening : ℕ) → bound_in source opening (Some (mark.Begin which)) ≡ told.bound_by source (told.binder_in which opening told.outermost.binder)
same_bound source part.Declaration opening = refl
same_bound source part.Function opening = refl
same_bound source part.Arrow opening = refl
same_bound source part.Catch opening = refl
same_bound source _ opening = refl

first_bound : (source : Source) (place : ℕ) (found : Option Opened) → first_of is_binder (open_at source.marks place) ≡ found
    → bound_by source (begins_of found) ≡ told.bound_by source (open_frames.bound_in found)
first_bound source place None e = refl
first_bound source place (Some one) e =
    let there = first_found is_binder (open_at source.marks place) one e in
    ap (bound_in source one.1) (enclosing source.marks place one.1 one.0 there.0).begins ∙ same_bound source one.0 one.1

binder_told : (source : Source) (place : ℕ) (binder : Option ℕ) → IsInnermost is_binder source.marks place binder
    → bound_by source binder ≡ told.bound_by source (told.frame_at source place).binder
binder_told source place binder h =
    ap (bound_by source) (begins_first is_binder source.marks place binder h) ∙ first_bound source place (first_of is_binder (open_at source.marks place)) refl
    ∙ ap (told.bound_by source) (sym (ap (λ frames. (told.innermost frames).binder) (open_frames.frames_are source.marks place) ∙ open_frames.binder_of (open_at source.marks place)))

role_told : (source : Source) (place : ℕ) (binder : Option ℕ) → IsInnermost is_binder source.marks place binder → (role : Role)
    → role_declares source role binder ≡ told.role_declares source role (told.frame_at source place)
role_told source place binder h is.Bound = binder_told source place binder h
role_told source place binder h is.FunctionName = refl
role_told source place binder h is.ClassName = refl
role_told source place binder h is.Imported = refl
role_told source place binder h is.ImportedDefault = refl
role_told source place binder h is.ImportedSpace = refl
role_told source place binder h _ = refl

mark_told : (source : Source) (place : ℕ) (binder : Option ℕ) → IsInnermost is_binder source.marks place binder → (found : Option Mark)
    → mark_declares source found binder ≡ told.mark_declares source found (told.frame_at source place)
mark_told source place binder h (Some (mark.Token role token)) = role_told source place binder h role
mark_told source place binder h _ = refl

-- the name at the place is declared as is told of its mark
pub declared_so : (source : Source) (place : ℕ) (binder : Option ℕ) (one_mark : Mark) (answer : Option DeclarationKind) → IsInnermost is_binder source.marks place binder
    → answer ≡ mark_declares source (Some one_mark) binder → slice_get source.marks place ≡ Some one_mark → (how : DeclarationKind)
    → (answer ≡ Some how) ↔ IsDeclared source place how
declared_so source place binder one_mark answer h is there how =
    let same : answer ≡ told.declared_at source place =
    is ∙ mark_told source place binder h (Some one_mark) ∙ ap (λ (found : Option Mark). told.mark_declares source found (told.frame_at source place)) (sym there) in (
      λ e. (declared_as source place how).1 (sym same ∙ e),
      λ d. same ∙ (declared_as source place how).0 d,
    )
