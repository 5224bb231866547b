-- What marks tell of export lists with requests, and of the names in them.
use Rattle.std.proofs.Common.{◌≡◌, ◌↔◌, ℕ, ◌≤◌, true, false, cond, List, [], Option, Some, None, Contains, slice_get, length, refl, sym, ap, subst, ◌∙◌, arith, true≢false}
use Rattle.std.proofs.lemmas.Option.{none-some, same_Some, slice_get_within}
use Rattle.std.specs.List.{list_any}
use Rattle.pk_types.specs.Numbers.{has}
use Rattle.pk_types.proofs.ListMembers.{true-has, has-true, none_in, any_true}
use Rattle.pk_types.proofs.Members.{Contains-at}
use Rattle.es_tree.specs.declared.tokens.Token.{Token}
use Rattle.es_outline.specs.declared.mark.Mark.{Mark}
use Rattle.es_outline.specs.declared.mark.Mark.TheVariants as mark
use Rattle.es_outline.specs.declared.mark.Role.TheVariants as is
use Rattle.es_outline.specs.declared.mark.Part.{Part}
use Rattle.es_outline.specs.declared.mark.Part.TheVariants as part
use Rattle.es_outline.specs.Outline.{Marks}
use Rattle.es_scope.specs.Parts.{IsDirectlyIn}
use Rattle.es_scope.specs.Source.{Source}
use Rattle.es_parts.specs.declared.enclosing.Surroundings.{Surroundings}
use Rattle.es_parts.specs.Around.{IsInnermost, IsAround, AreAround, is_any}
use Rattle.es_asks.specs.Gathering.{IsTold, AreGathered}
use Rattle.es_asks.specs.Forwarding.{IsForwarded, AreForwarded, IsRequestIn, HaveRequests, is_list_mark, list_of, request_in, in_list, forwarded_in, is_exported}
use Rattle.es_asks.proofs.TextLaws.{guarded}
use Rattle.es_asks.proofs.Gathering.{all_gathered}

list_begins : (which : Part) → is_list_mark (Some (mark.Begin which)) ≡ true → which ≡ part.ExportList
list_begins part.ExportList e = refl
list_begins _ e = absurd (true≢false (sym e))

-- the export list around a place
list_by : (source : Source) (place opening : ℕ) (found : Option ℕ) → IsInnermost is_any source.marks place found
    → IsDirectlyIn source.marks place part.ExportList opening → list_of source found ≡ Some opening
list_by source place opening _ (IsInnermost.none none) h = absurd (none part.ExportList opening refl h.encloses)
list_by source place opening _ (IsInnermost.some which begun near) h =
    let further = near.nearest part.ExportList opening refl h.encloses in
    let nearer = h.nearest which begun refl near.encloses in
    let same : begun ≡ opening = omega arith in
    ap (λ p. cond (is_list_mark (slice_get source.marks p)) (Some p) None) same
    ∙ ap (λ (there : Option Mark). cond (is_list_mark there) (Some opening) None) h.encloses.begins

by_list : (source : Source) (place opening : ℕ) (found : Option ℕ) → IsInnermost is_any source.marks place found
    → list_of source found ≡ Some opening → IsDirectlyIn source.marks place part.ExportList opening
by_list source place opening _ (IsInnermost.none none) e = absurd (none-some opening e)
by_list source place opening _ (IsInnermost.some which begun near) e =
    let found = guarded (is_list_mark (slice_get source.marks begun)) (Some begun) opening e in
    let kind : which ≡ part.ExportList = list_begins which (sym (ap is_list_mark near.encloses.begins) ∙ found.0) in
    subst (λ (w : Part). IsDirectlyIn source.marks place w opening) kind
    (subst (λ o. IsDirectlyIn source.marks place which o) (same_Some begun opening found.1) near)

pub list_told : (source : Source) (place opening : ℕ) (around : Surroundings) → IsAround source.marks place around
    → IsDirectlyIn source.marks place part.ExportList opening ↔ (list_of source around.part ≡ Some opening)
list_told source place opening around h =
    (λ near. list_by source place opening around.part h.part near, λ e. by_list source place opening around.part h.part e)

-- requests
request_by : (one_mark : Mark) (list : Option ℕ) (opening : ℕ) → request_in (Some one_mark) list ≡ Some opening
    → ((token : Token) × (one_mark ≡ mark.Token is.Request token)) × (list ≡ Some opening)
request_by (mark.Token is.Request token) list opening e = ((token, refl), e)
request_by _ list opening e = absurd (none-some opening e)

module _ (source : Source) (table : List Surroundings) (are : AreAround source.marks table) (place : ℕ) (one_mark : Mark) (around : Surroundings)
    (at : slice_get source.marks place ≡ Some one_mark) (is_around : slice_get table place ≡ Some around) where
  pub request_told : (list found : Option ℕ) → list ≡ list_of source around.part → found ≡ request_in (Some one_mark) list → IsTold (IsRequestIn source place) found
  request_told list found same told opening = (
    λ h. told ∙ ap (λ (there : Option Mark). request_in there list) (sym at ∙ h.0.1)
        ∙ same ∙ (list_told source place opening around (are.each place around is_around)).0 h.1,
    λ e. let found_one = request_by one_mark list opening (sym told ∙ e) in (
      (found_one.0.0, at ∙ ap (λ (m : Mark). Some m) found_one.0.1),
      (list_told source place opening around (are.each place around is_around)).1 (sym same ∙ found_one.1),
    ),
  )

-- names in lists
exported_by : (lists : List ℕ) (place : ℕ) (one_mark : Mark) (list : Option ℕ) (number : ℕ) → forwarded_in lists place (Some one_mark) list ≡ Some number
    → ((token : Token) × (one_mark ≡ mark.Token is.Exported token)) × (in_list lists place list ≡ Some number)
exported_by lists place (mark.Token is.Exported token) list number e = ((token, refl), e)
exported_by lists place _ list number e = absurd (none-some number e)

listed_by : (lists : List ℕ) (place number : ℕ) (list : Option ℕ) → in_list lists place list ≡ Some number
    → (opening : ℕ) × (list ≡ Some opening) × Contains lists opening × (number ≡ place)
listed_by lists place number None e = absurd (none-some number e)
listed_by lists place number (Some opening) e =
    let found = guarded (has lists opening) (Some place) number e in
    (opening, refl, true-has lists opening found.0, sym (same_Some place number found.1))

-- at its own place
abbrev pub IsForwardedAt : Source → ℕ → ℕ → Type 0
IsForwardedAt source place number = (number ≡ place) × IsForwarded source place

module _ (source : Source) (table : List Surroundings) (are : AreAround source.marks table) (place : ℕ) (one_mark : Mark) (around : Surroundings)
    (at : slice_get source.marks place ≡ Some one_mark) (is_around : slice_get table place ≡ Some around) where
  pub forwarded_told : (lists : List ℕ) (list found : Option ℕ) → HaveRequests source lists → list ≡ list_of source around.part
      → found ≡ forwarded_in lists place (Some one_mark) list → IsTold (IsForwardedAt source place) found
  forwarded_told lists list found have same told number = (
    λ h. let from = h.1.1 in
        let within = same ∙ (list_told source place from.opening around (are.each place around is_around)).0 from.here in
        let has_one = has-true lists from.opening ((have from.opening).1 (from.request, (from.is_request, from.there))) in
        told ∙ ap (λ (there : Option Mark). forwarded_in lists place there list) (sym at ∙ h.1.0.1)
        ∙ ap (in_list lists place) within
        ∙ ap (λ b. cond b (Some place) None) has_one
        ∙ ap (λ (p : ℕ). Some p) (sym h.0),
    λ e. let exported = exported_by lists place one_mark list number (sym told ∙ e) in
        let listed = listed_by lists place number list exported.1 in
        let request = (have listed.0).0 listed.2 in (
          listed.3,
          (
            (exported.0.0, at ∙ ap (λ (m : Mark). Some m) exported.0.1),
            record {
              opening = listed.0;
              request = request.0;
              here = (list_told source place listed.0 around (are.each place around is_around)).1 (sym same ∙ listed.1);
              there = request.1.1;
              is_request = request.1.0;
            },
          ),
        ),
  )

-- of all places
pub all_requests : (source : Source) (marks : Marks) (limit : ℕ) (lists : List ℕ) → marks ≡ source.marks → length marks ≤ limit
    → AreGathered (IsRequestIn source) limit lists → HaveRequests source lists
all_requests source marks limit lists same most so_far =
    all_gathered (IsRequestIn source) source.marks limit lists (λ place opening h. slice_get_within source.marks place _ h.0.1)
    (subst (λ (m : Marks). length m ≤ limit) same most) so_far

pub all_forwarded : (source : Source) (marks : Marks) (limit : ℕ) (places : List ℕ) → marks ≡ source.marks → length marks ≤ limit
    → AreGathered (IsForwardedAt source) limit places → AreForwarded source places
all_forwarded source marks limit places same most so_far place =
    let all = all_gathered (IsForwardedAt source) source.marks limit places (λ p number h. slice_get_within source.marks p _ h.1.0.1)
    (subst (λ (m : Marks). length m ≤ limit) same most) so_far place in (
      λ c. let found = all.0 c in subst (IsForwarded source) (sym found.1.0) found.1.1,
      λ h. all.1 (place, (refl, h)),
    )

-- where no name is exported
pub nothing_forwarded : (source : Source) (places : List ℕ) → list_any is_exported source.marks ≡ false → places ≡ [] → AreForwarded source places
nothing_forwarded source places none empty place = (
  λ c. absurd (none_in place (subst (λ (l : List ℕ). Contains l place) empty c)),
  λ h. absurd (true≢false (sym (any_true is_exported source.marks _ (Contains-at source.marks place _ h.0.1) refl) ∙ none)),
)
