-- The parts that are open at a place, and those that are open where the innermost of them begins.
use Rattle.std.proofs.Common.{◌≡◌, ℕ, zero, suc, ◌<◌, true, false, List, [], ◌∷◌, Option, Some, None, length, slice_get, refl, sym, ap, subst, ◌∙◌, arith, true≢false}
use Rattle.std.proofs.lemmas.Option.{none-some, same_Some}
use Rattle.pk_types.proofs.Members.{element_at}
use Rattle.es_outline.specs.declared.mark.Mark.{Mark}
use Rattle.es_outline.specs.declared.mark.Mark.TheVariants as mark
use Rattle.es_outline.specs.declared.mark.Part.{Part}
use Rattle.es_outline.specs.declared.mark.Part.TheVariants as part
use Rattle.es_outline.specs.Outline.{Marks}
use Rattle.es_scope.specs.declared.frame.Frame.{Frame}
use Rattle.es_scope.specs.declared.frame.Binder.{Binder}
use Rattle.es_scope.specs.declared.frame.Binder.TheVariants as binder
use Rattle.es_scope.specs.Parts.{Encloses, NearestPart}
use Rattle.es_scope.specs.Source.{Source}
use Rattle.es_scope.specs.Occurrences.{BoundBy, is_binder}
use Rattle.es_scope.specs.Frames.{frame_at, innermost, binder_in}
use Rattle.es_scope.proofs.Enclosing.{Opened, outer, opened_behind, open_at, enclosing}
use Rattle.es_scope.proofs.Nearest.{first_of, first_found, nearest_part}
use Rattle.es_scope.proofs.OpenFrames.{frames_of, frames_are, bound_in, binder_of}
use Rattle.es_parts.specs.declared.enclosing.Surroundings.{Surroundings}
use Rattle.es_parts.specs.Around.{AreAround, IsInnermost, is_any}
use Rattle.es_sites.specs.Marks.{begins_declaration, begins_binder}
use Rattle.es_sites.specs.Tables.{part_of, part_around, opening_of, declaration_around}

-- behind each stand those that are open where it begins
abbrev IsChained : Marks → List Opened → Type 0
IsChained marks [] = Unit {0}
IsChained marks (one ∷ others) = (others ≡ open_at marks one.1) × IsChained marks others

chained_outer : (marks : Marks) (parts : List Opened) → IsChained marks parts → IsChained marks (outer parts)
chained_outer marks [] h = tt
chained_outer marks (one ∷ others) h = h.1

chained_behind : (marks : Marks) (place : ℕ) (there : Option Mark) → IsChained marks (open_at marks place) → IsChained marks (opened_behind there place (open_at marks place))
chained_behind marks place (Some (mark.Begin which)) h = (refl, h)
chained_behind marks place (Some (mark.End which)) h = chained_outer marks (open_at marks place) h
chained_behind marks place _ h = h

chained : (marks : Marks) (place : ℕ) → IsChained marks (open_at marks place)
unfolding open_at
chained marks zero = tt
chained marks (suc place) = chained_behind marks place (slice_get marks place) (chained marks place)

first_any : (marks : Marks) (parts : List Opened) (one : Opened) → IsChained marks parts → first_of is_any parts ≡ Some one → parts ≡ one ∷ open_at marks one.1
first_any marks [] one h e = absurd (none-some one e)
first_any marks (first ∷ others) one h e = ap (λ (more : List Opened). first ∷ more) h.0 ∙ ap (λ (o : Opened). o ∷ open_at marks o.1) (same_Some first one e)

pub directly_open : (marks : Marks) (place opening : ℕ) (which : Part) → NearestPart is_any marks place which opening
    → open_at marks place ≡ (which, opening) ∷ open_at marks opening
directly_open marks place opening which h =
    first_any marks (open_at marks place) (which, opening) (chained marks place) ((nearest_part is_any marks place which opening).0 h)

-- what binds at a place, by the innermost part
binder_at : (source : Source) (place : ℕ) → (frame_at source place).binder ≡ (innermost (frames_of (open_at source.marks place))).binder
binder_at source place = ap (λ (frames : List Frame). (innermost frames).binder) (frames_are source.marks place)

binder_step : (source : Source) (place opening : ℕ) (which : Part) → NearestPart is_any source.marks place which opening
    → (frame_at source place).binder ≡ binder_in which opening (frame_at source opening).binder
binder_step source place opening which h =
    binder_at source place ∙ ap (λ (parts : List Opened). (innermost (frames_of parts)).binder) (directly_open source.marks place opening which h)
    ∙ ap (binder_in which opening) (sym (binder_at source opening))

-- what the table of parts tells
record IsPartAround (marks : Marks) (place opening : ℕ) : Type 0 where
  which : Part
  nearest : NearestPart is_any marks place which opening

innermost_some : (marks : Marks) (place opening : ℕ) (found : Option ℕ) → IsInnermost is_any marks place found → found ≡ Some opening → IsPartAround marks place opening
innermost_some marks place opening _ (IsInnermost.none none) e = absurd (none-some opening e)
innermost_some marks place opening _ (IsInnermost.some which other h) e =
    record { which = which; nearest = subst (λ o. NearestPart is_any marks place which o) (same_Some other opening e) h }

found_part : (marks : Marks) (table : List Surroundings) (place opening : ℕ) (found : Option Surroundings) → AreAround marks table → slice_get table place ≡ found
    → part_of found ≡ Some opening → IsPartAround marks place opening
found_part marks table place opening None are at e = absurd (none-some opening e)
found_part marks table place opening (Some around) are at e = innermost_some marks place opening around.part (are.each place around at).part e

pub part_is : (marks : Marks) (table : List Surroundings) (place opening : ℕ) → AreAround marks table → part_around table place ≡ Some opening
    → (which : Part) × NearestPart is_any marks place which opening
part_is marks table place opening are e =
    let found = found_part marks table place opening (slice_get table place) are refl e in (found.which, found.nearest)

innermost_none : (marks : Marks) (place : ℕ) (found : Option ℕ) → IsInnermost is_any marks place found → found ≡ None
    → (which : Part) (opening : ℕ) → ¬ Encloses marks which opening place
innermost_none marks place _ (IsInnermost.none none) e which opening h = none which opening refl h
innermost_none marks place _ (IsInnermost.some other o h) e which opening encloses = none-some o (sym e)

pub no_part : (marks : Marks) (table : List Surroundings) (place : ℕ) → AreAround marks table → place < length marks → part_around table place ≡ None
    → (which : Part) (opening : ℕ) → ¬ Encloses marks which opening place
no_part marks table place are inside e =
    let there = element_at table place (omega (arith, are.whole)) in
    innermost_none marks place there.0.part (are.each place there.0 there.1).part (sym (ap part_of there.1) ∙ e)

-- the first of the parts, and where it begins, or what is around it
by_declaration : (which : Part) (opening : ℕ) (outer : Binder) → begins_declaration (Some (mark.Begin which)) ≡ true
    → opening_of (binder_in which opening outer) ≡ Some opening
by_declaration part.Declaration opening outer e = refl
by_declaration _ opening outer e = absurd (true≢false (sym e))

by_binder : (which : Part) (opening : ℕ) (outer : Binder) → begins_binder (Some (mark.Begin which)) ≡ true → opening_of (binder_in which opening outer) ≡ None
by_binder part.Function opening outer e = refl
by_binder part.Arrow opening outer e = refl
by_binder part.Catch opening outer e = refl
by_binder _ opening outer e = absurd (true≢false (sym e))

by_neither : (which : Part) (opening : ℕ) (outer : Binder) → begins_declaration (Some (mark.Begin which)) ≡ false → begins_binder (Some (mark.Begin which)) ≡ false
    → opening_of (binder_in which opening outer) ≡ opening_of outer
by_neither part.Declaration opening outer e f = absurd (true≢false e)
by_neither part.Function opening outer e f = absurd (true≢false f)
by_neither part.Arrow opening outer e f = absurd (true≢false f)
by_neither part.Catch opening outer e f = absurd (true≢false f)
by_neither _ opening outer e f = refl

module _ (source : Source) (table : List Surroundings) (are : AreAround source.marks table) (place opening : ℕ) (around : part_around table place ≡ Some opening) where
  pub opens_before : opening < place
  opens_before = (part_is source.marks table place opening are around).1.encloses.before

  pub declaration_here : begins_declaration (slice_get source.marks opening) ≡ true → declaration_around source place ≡ Some opening
  declaration_here e =
      let found = part_is source.marks table place opening are around in
      ap opening_of (binder_step source place opening found.0 found.1)
      ∙ by_declaration found.0 opening (frame_at source opening).binder (sym (ap begins_declaration found.1.encloses.begins) ∙ e)

  pub other_binder : begins_binder (slice_get source.marks opening) ≡ true → declaration_around source place ≡ None
  other_binder e =
      let found = part_is source.marks table place opening are around in
      ap opening_of (binder_step source place opening found.0 found.1)
      ∙ by_binder found.0 opening (frame_at source opening).binder (sym (ap begins_binder found.1.encloses.begins) ∙ e)

  pub declaration_further : begins_declaration (slice_get source.marks opening) ≡ false → begins_binder (slice_get source.marks opening) ≡ false
      → declaration_around source opening ≡ declaration_around source place
  declaration_further e f =
      let found = part_is source.marks table place opening are around in
      sym (ap opening_of (binder_step source place opening found.0 found.1)
      ∙ by_neither found.0 opening (frame_at source opening).binder (sym (ap begins_declaration found.1.encloses.begins) ∙ e)
      (sym (ap begins_binder found.1.encloses.begins) ∙ f))

none_bound : (source : Source) (place : ℕ) → ((which : Part) (opening : ℕ) → ¬ Encloses source.marks which opening place) → (parts : List Opened)
    → open_at source.marks place ≡ parts → (innermost (frames_of parts)).binder ≡ binder.None
none_bound source place none [] e = refl
none_bound source place none (one ∷ others) e =
    let first : first_of is_any (open_at source.marks place) ≡ Some one = ap (first_of is_any) e in
    absurd (none one.0 one.1 (enclosing source.marks place one.1 one.0 (first_found is_any (open_at source.marks place) one first).0))

pub no_declaration : (source : Source) (table : List Surroundings) (place : ℕ) → AreAround source.marks table → place < length source.marks
    → part_around table place ≡ None → declaration_around source place ≡ None
no_declaration source table place are inside e =
    ap opening_of (binder_at source place ∙ none_bound source place (no_part source.marks table place are inside e) (open_at source.marks place) refl)

-- the declaration is what binds at the place
first_binds : (source : Source) (place : ℕ) → (frame_at source place).binder ≡ bound_in (first_of is_binder (open_at source.marks place))
first_binds source place = binder_at source place ∙ binder_of (open_at source.marks place)

pub bound_around : (source : Source) (place opening : ℕ) → BoundBy source place part.Declaration opening → declaration_around source place ≡ Some opening
bound_around source place opening h =
    ap opening_of (first_binds source place ∙ ap bound_in ((nearest_part is_binder source.marks place part.Declaration opening).0 h))

one_bound : (source : Source) (place opening : ℕ) (which : Part) (at : ℕ) → first_of is_binder (open_at source.marks place) ≡ Some (which, at)
    → opening_of (bound_in (Some (which, at))) ≡ Some opening → BoundBy source place part.Declaration opening
one_bound source place opening part.Declaration at f e =
    (nearest_part is_binder source.marks place part.Declaration opening).1 (f ∙ ap (λ o. Some (part.Declaration, o)) (same_Some at opening e))
one_bound source place opening part.Function at f e = absurd (none-some opening e)
one_bound source place opening part.Arrow at f e = absurd (none-some opening e)
one_bound source place opening part.Catch at f e = absurd (none-some opening e)
one_bound source place opening _ at f e = absurd (none-some opening e)

first_bound : (source : Source) (place opening : ℕ) (found : Option Opened) → first_of is_binder (open_at source.marks place) ≡ found
    → opening_of (bound_in found) ≡ Some opening → BoundBy source place part.Declaration opening
first_bound source place opening None f e = absurd (none-some opening e)
first_bound source place opening (Some one) f e = one_bound source place opening one.0 one.1 f e

pub around_bound : (source : Source) (place opening : ℕ) → declaration_around source place ≡ Some opening → BoundBy source place part.Declaration opening
around_bound source place opening e =
    first_bound source place opening (first_of is_binder (open_at source.marks place)) refl (sym (ap opening_of (first_binds source place)) ∙ e)
