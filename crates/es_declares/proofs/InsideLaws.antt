-- Tables of what stands directly in parts, filled from mark to mark.
use Rattle.std.proofs.Common.{◌≡◌, ◌≢◌, ◌⊎◌, ⊎_elim, ◌↔◌, ℕ, ◌+◌, ◌<◌, ◌≤◌, Bool, true, false, List, Option, Some, None, length, slice_get, slice_set, replicate, refl, sym, ap, subst, ◌∙◌, arith}
use Rattle.std.proofs.lemmas.Bool.{false≢true}
use Rattle.std.proofs.lemmas.Option.{slice_get_within, slice_get-get_or, get_or_from_slice_get}
use Rattle.std.proofs.lemmas.List.{get_or-set_other, get_or-set_same, get_or-replicate, length-set, length-replicate}
use Rattle.es_outline.specs.declared.mark.Part.{Part}
use Rattle.es_outline.specs.Outline.{Marks}
use Rattle.es_scope.specs.Parts.{NearestPart, IsDirectlyIn}
use Rattle.es_parts.specs.Around.{IsInnermost, is_any}
use Rattle.es_declares.specs.Inside.{IsInside, AreInside, noted}

-- what is read where an item was put
pub put_same : {A : Type 0} (xs : List A) (k : ℕ) (x y : A) → slice_get (slice_set xs k x) k ≡ Some y → x ≡ y
put_same xs k x y e =
    let within = slice_get_within (slice_set xs k x) k y e in
    let long = length-set xs k x in
    sym (get_or-set_same xs k x y (omega arith)) ∙ get_or_from_slice_get (slice_set xs k x) k y y e

pub put_other : {A : Type 0} (xs : List A) (k j : ℕ) (x y : A) → j ≢ k → slice_get (slice_set xs k x) j ≡ Some y → slice_get xs j ≡ Some y
put_other xs k j x y apart e =
    let within = slice_get_within (slice_set xs k x) j y e in
    let long = length-set xs k x in
    slice_get-get_or xs j y (omega arith) ∙ ap Some (sym (get_or-set_other xs k j x y apart) ∙ get_or_from_slice_get (slice_set xs k x) j y y e)

pub all_none : (count place : ℕ) (told : Option ℕ) → slice_get (replicate count None) place ≡ Some told → None ≡ told
all_none count place told e =
    let within = slice_get_within (replicate count None) place told e in
    let long = length-replicate {A = Option ℕ} count None in
    sym (get_or-replicate count place None told (omega arith)) ∙ get_or_from_slice_get (replicate count None) place told told e

-- parts are innermost at one place alone
pub same_nearest : (kinds : Part → Bool) (marks : Marks) (place opening further : ℕ) (which other : Part) → NearestPart kinds marks place which opening
    → NearestPart kinds marks place other further → opening ≡ further
same_nearest kinds marks place opening further which other one two =
    let above = one.nearest other further two.kind two.encloses in let below = two.nearest which opening one.kind one.encloses in omega arith

-- such a place before the limit stands directly in the part, or none does
pub data IsInsideTo (IsSo : ℕ → Type 0) (marks : Marks) (limit opening : ℕ) : Option ℕ → Type 0 where
  none : ((which : Part) (place : ℕ) → place < limit → IsSo place → ¬ IsDirectlyIn marks place which opening) → IsInsideTo IsSo marks limit opening None
  some : (which : Part) (place : ℕ) → IsSo place → IsDirectlyIn marks place which opening → IsInsideTo IsSo marks limit opening (Some place)

pub record AreInsideTo (IsSo : ℕ → Type 0) (marks : Marks) (limit : ℕ) (table : List (Option ℕ)) : Type 0 where
  pub whole : length table ≡ length marks
  pub each : (opening : ℕ) (told : Option ℕ) → slice_get table opening ≡ Some told → IsInsideTo IsSo marks limit opening told

before_or_at : (place limit : ℕ) → place < limit + 1 → (place < limit) ⊎ (limit ≡ place)
before_or_at place limit h = grind arith

same_or_apart : (place other : ℕ) → (place ≡ other) ⊎ (place ≢ other)
same_or_apart place other = grind arith

module _ (IsSo : ℕ → Type 0) (marks : Marks) where
  pub none_inside : (table : List (Option ℕ)) → table ≡ replicate (length marks) None → AreInsideTo IsSo marks 0 table
  none_inside table empty = subst (AreInsideTo IsSo marks 0) (sym empty) (record {
    whole = length-replicate (length marks) None;
    each = λ opening told e. subst (IsInsideTo IsSo marks 0 opening) (all_none (length marks) opening told e) (IsInsideTo.none (λ which place before so direct. omega (arith, before)));
  })

  -- nothing comes to the part at the limit
  goes_on : (limit opening : ℕ) (told : Option ℕ) → ((which : Part) → IsSo limit → ¬ IsDirectlyIn marks limit which opening) → IsInsideTo IsSo marks limit opening told
      → IsInsideTo IsSo marks (limit + 1) opening told
  goes_on limit opening _ here (IsInsideTo.some which place so direct) = IsInsideTo.some which place so direct
  goes_on limit opening _ here (IsInsideTo.none never) = IsInsideTo.none (λ which place before so direct. ⊎_elim
      (λ earlier. never which place earlier so direct)
      (λ now. here which (subst IsSo (sym now) so) (subst (λ p. IsDirectlyIn marks p which opening) (sym now) direct)) (before_or_at place limit before))

  goes_all_on : (limit : ℕ) (table : List (Option ℕ)) → ((opening : ℕ) (which : Part) → IsSo limit → ¬ IsDirectlyIn marks limit which opening) → AreInsideTo IsSo marks limit table
      → AreInsideTo IsSo marks (limit + 1) table
  goes_all_on limit table here so_far = record {
    whole = so_far.whole;
    each = λ opening told e. goes_on limit opening told (here opening) (so_far.each opening told e);
  }

  put_in : (limit opening : ℕ) (which : Part) (table : List (Option ℕ)) → NearestPart is_any marks limit which opening → IsSo limit → AreInsideTo IsSo marks limit table
      → AreInsideTo IsSo marks (limit + 1) (slice_set table opening (Some limit))
  put_in limit opening which table near so so_far = record {
    whole = length-set table opening (Some limit) ∙ so_far.whole;
    each = λ other told e. ⊎_elim
        (λ same. subst (IsInsideTo IsSo marks (limit + 1) other) (put_same table opening (Some limit) told (subst (λ o. slice_get (slice_set table opening (Some limit)) o ≡ Some told) same e))
        (IsInsideTo.some which limit so (subst (λ o. IsDirectlyIn marks limit which o) (sym same) near)))
        (λ apart. goes_on limit other told (λ one now direct. apart (same_nearest is_any marks limit other opening one which direct near))
        (so_far.each other told (put_other table opening other (Some limit) told apart e)))
        (same_or_apart other opening);
  }

  one_inside : (limit : ℕ) (part : Option ℕ) (is_so : Bool) (table : List (Option ℕ)) → IsInnermost is_any marks limit part → (is_so ≡ true → IsSo limit)
      → (IsSo limit → is_so ≡ true) → AreInsideTo IsSo marks limit table → AreInsideTo IsSo marks (limit + 1) (noted part is_so limit table)
  one_inside limit _ true table (IsInnermost.some which opening near) there so so_far = put_in limit opening which table near (there refl) so_far
  one_inside limit _ true table (IsInnermost.none never) there so so_far =
      goes_all_on limit table (λ opening which now direct. never which opening refl direct.encloses) so_far
  one_inside limit (Some opening) false table inner there so so_far = goes_all_on limit table (λ o which now direct. false≢true (so now)) so_far
  one_inside limit None false table inner there so so_far = goes_all_on limit table (λ o which now direct. false≢true (so now)) so_far

  pub one_noted : (limit : ℕ) (part : Option ℕ) (is_so : Bool) (table more : List (Option ℕ)) → IsInnermost is_any marks limit part → (is_so ≡ true) ↔ IsSo limit
      → more ≡ noted part is_so limit table → AreInsideTo IsSo marks limit table → AreInsideTo IsSo marks (limit + 1) more
  one_noted limit part is_so table more inner told is so_far = subst (AreInsideTo IsSo marks (limit + 1)) (sym is) (one_inside limit part is_so table inner told.0 told.1 so_far)

  whole_inside : (limit opening : ℕ) (told : Option ℕ) → ((place : ℕ) → IsSo place → place < limit) → IsInsideTo IsSo marks limit opening told → IsInside IsSo marks opening told
  whole_inside limit opening _ within (IsInsideTo.some which place so direct) = IsInside.some which place so direct
  whole_inside limit opening _ within (IsInsideTo.none never) = IsInside.none (λ which place so direct. never which place (within place so) so direct)

  pub all_inside : (limit : ℕ) (table : List (Option ℕ)) → ((place : ℕ) → IsSo place → place < length marks) → length marks ≤ limit → AreInsideTo IsSo marks limit table
      → AreInside IsSo marks table
  all_inside limit table within most so_far = record {
    whole = so_far.whole;
    each = λ opening told e. whole_inside limit opening told (λ place so. let b = within place so in omega arith) (so_far.each opening told e);
  }
