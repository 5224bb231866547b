-- What stands directly in parts, noted place by place.
use Rattle.std.proofs.Common.{◌≡◌, ◌≢◌, ℕ, ◌+◌, ◌<◌, Bool, true, false, ◌&&◌, cond, List, Option, Some, None, length, get_or, set, replicate, slice_get, unwrap_or, refl, sym, ap, subst, ◌∙◌, ⊎_elim, arith, true≢false}
use Rattle.std.specs.Prelude.{IsSomeAnd, IfSome}
use Rattle.std.proofs.lemmas.Bool.{cases_eq}
use Rattle.std.proofs.lemmas.List.{length-set, get_or-set_same, get_or-set_other, get_or-replicate, length-replicate}
use Rattle.std.proofs.lemmas.Option.{none-some, same_Some, slice_get_within, slice_get-get_or, get_or_from_slice_get}
use Rattle.pk_types.proofs.Members.{element_at}
use Rattle.es_tree.specs.declared.tokens.Token.{Token}
use Rattle.es_outline.specs.declared.mark.Mark.{Mark}
use Rattle.es_outline.specs.declared.mark.Mark.TheVariants as mark
use Rattle.es_outline.specs.declared.mark.Role.{Role}
use Rattle.es_outline.specs.declared.mark.Role.TheVariants as is
use Rattle.es_outline.specs.declared.mark.Part.{Part}
use Rattle.es_outline.specs.declared.mark.Part.TheVariants as part
use Rattle.es_outline.specs.Outline.{Marks}
use Rattle.pk_types.specs.declared.facts.Request.{Request}
use Rattle.es_scope.specs.Parts.{IsDirectlyIn}
use Rattle.es_scope.specs.Source.{Source, IsMark, HasRole}
use Rattle.es_scope.specs.Asking.{AsksFor}
use Rattle.es_parts.specs.Around.{AreAround, IsInnermost, is_any}
use Rattle.es_parts.specs.declared.enclosing.Surroundings.{Surroundings}
use Rattle.es_asks.specs.Numbering.{AreAsked, IsNumber}
use Rattle.es_asks.specs.declared.asked.Asked.{Asked}
use Rattle.es_sites.specs.Marks.{role_of, is_unnamed, begins_class}
use Rattle.es_sites.specs.Tables.{part_of, part_around}
use Rattle.es_sites.specs.Inside.{IsIn, AreIn, IsRequest, IsUnnamedClass, noted, requested, request_at, class_by}

-- ---- tests of marks

pub role_token : (found : Option Mark) (role : Role) → role_of found ≡ Some role → (token : Token) × (found ≡ Some (mark.Token role token))
role_token (Some (mark.Token other token)) role e = (token, ap (λ r. Some (mark.Token r token)) (same_Some other role e))
role_token _ role e = absurd (none-some role e)

pub has_role : (source : Source) (place : ℕ) (role : Role) → role_of (slice_get source.marks place) ≡ Some role → HasRole source place role
has_role source place role e = role_token (slice_get source.marks place) role e

pub both_true : (a b : Bool) → (a && b) ≡ true → (a ≡ true) × (b ≡ true)
both_true true b e = (refl, e)
both_true false b e = absurd (true≢false (sym e))

pub some_with : {A : Type 0} (o : Option A) (P : A → Type 0) → IsSomeAnd o P → (x : A) × (o ≡ Some x) × P x
some_with None P h = absurd h
some_with (Some x) P h = (x, refl, h)

pub with_some : {A : Type 0} (o : Option A) (P : A → Type 0) (x : A) → o ≡ Some x → P x → IsSomeAnd o P
with_some o P x e h = subst (λ o. IsSomeAnd o P) (sym e) h

pub one_part : (marks : Marks) (place opening further : ℕ) (which other : Part) → IsDirectlyIn marks place which opening → IsDirectlyIn marks place other further
    → opening ≡ further
one_part marks place opening further which other h k =
    let below = h.nearest other further refl k.encloses in let above = k.nearest which opening refl h.encloses in omega arith

-- ---- the table

set_there : (table : List (Option ℕ)) (opening other : ℕ) (item found : Option ℕ) → slice_get (set table opening item) other ≡ Some found → other ≡ opening → found ≡ item
set_there table opening other item found e same =
    let inside = slice_get_within (set table opening item) other found e in
    let short : opening < length table = omega (arith, inside, same, length-set table opening item) in
    sym (get_or_from_slice_get (set table opening item) other found found e) ∙ ap (λ (k : ℕ). get_or (set table opening item) k found) same
    ∙ get_or-set_same table opening item found short

set_elsewhere : (table : List (Option ℕ)) (opening other : ℕ) (item found : Option ℕ) → slice_get (set table opening item) other ≡ Some found → other ≢ opening
    → slice_get table other ≡ Some found
set_elsewhere table opening other item found e apart =
    let inside = slice_get_within (set table opening item) other found e in
    let short : other < length table = omega (arith, inside, length-set table opening item) in
    slice_get-get_or table other found short
    ∙ ap (λ (x : Option ℕ). Some x) (sym (get_or-set_other table opening other item found apart) ∙ get_or_from_slice_get (set table opening item) other found found e)

-- an item of a place before that stands directly in the part, or that none does
pub data IsInTo (marks : Marks) (IsAt : ℕ → ℕ → Type 0) (count opening : ℕ) : Option ℕ → Type 0 where
  none : ((place item : ℕ) (which : Part) → place < count → IsDirectlyIn marks place which opening → ¬ IsAt place item) → IsInTo marks IsAt count opening None
  some : (place item : ℕ) (which : Part) → IsDirectlyIn marks place which opening → IsAt place item → IsInTo marks IsAt count opening (Some item)

pub record AreInTo (marks : Marks) (IsAt : ℕ → ℕ → Type 0) (count : ℕ) (table : List (Option ℕ)) : Type 0 where
  pub whole : length table ≡ length marks
  pub each : (opening : ℕ) (found : Option ℕ) → slice_get table opening ≡ Some found → IsInTo marks IsAt count opening found

-- the item of a place, or that it has none
pub data IsItem (IsAt : ℕ → ℕ → Type 0) (place : ℕ) : Option ℕ → Type 0 where
  none : ((item : ℕ) → ¬ IsAt place item) → IsItem IsAt place None
  some : (item : ℕ) → IsAt place item → IsItem IsAt place (Some item)

module _ (marks : Marks) (IsAt : ℕ → ℕ → Type 0) where
  pub nothing_in : (table : List (Option ℕ)) → length table ≡ length marks → ((k : ℕ) (found : Option ℕ) → slice_get table k ≡ Some found → found ≡ None) → AreInTo marks IsAt 0 table
  nothing_in table whole nowhere = record {
    whole = whole;
    each = λ opening found at. subst (IsInTo marks IsAt 0 opening) (sym (nowhere opening found at)) (IsInTo.none (λ place item which before direct h. omega (arith, before)));
  }

  module _ (count : ℕ) (table : List (Option ℕ)) (so_far : AreInTo marks IsAt count table) where
    in_kept : ((item opening : ℕ) (which : Part) → IsDirectlyIn marks count which opening → ¬ IsAt count item) → (opening : ℕ) (found : Option ℕ)
        → IsInTo marks IsAt count opening found → IsInTo marks IsAt (count + 1) opening found
    in_kept nowhere opening _ (IsInTo.none old) = IsInTo.none (λ place item which before direct at. ⊎_elim
        (λ same. nowhere item opening which (subst (λ (p : ℕ). IsDirectlyIn marks p which opening) same direct) (subst (λ (p : ℕ). IsAt p item) same at))
        (λ apart. old place item which (omega (arith, before, apart)) direct at)
        (cases_eq place count))
    in_kept nowhere opening _ (IsInTo.some place item which direct at) = IsInTo.some place item which direct at

    kept : ((item opening : ℕ) (which : Part) → IsDirectlyIn marks count which opening → ¬ IsAt count item) → AreInTo marks IsAt (count + 1) table
    kept nowhere = record { whole = so_far.whole; each = λ opening found at. in_kept nowhere opening found (so_far.each opening found at) }

    in_other : (opening other : ℕ) (which : Part) → IsDirectlyIn marks count which opening → other ≢ opening → (found : Option ℕ)
        → IsInTo marks IsAt count other found → IsInTo marks IsAt (count + 1) other found
    in_other opening other which here apart _ (IsInTo.none old) = IsInTo.none (λ place item also before direct at. ⊎_elim
        (λ same. apart (one_part marks count other opening also which (subst (λ (p : ℕ). IsDirectlyIn marks p also other) same direct) here))
        (λ unlike. old place item also (omega (arith, before, unlike)) direct at)
        (cases_eq place count))
    in_other opening other which here apart _ (IsInTo.some place item also direct at) = IsInTo.some place item also direct at

    put : (opening item : ℕ) (which : Part) → IsDirectlyIn marks count which opening → IsAt count item → AreInTo marks IsAt (count + 1) (set table opening (Some item))
    put opening item which here at = record {
      whole = length-set table opening (Some item) ∙ so_far.whole;
      each = λ other found e. ⊎_elim
          (λ same. subst (IsInTo marks IsAt (count + 1) other) (sym (set_there table opening other (Some item) found e same))
          (IsInTo.some count item which (subst (λ (o : ℕ). IsDirectlyIn marks count which o) (sym same) here) at))
          (λ apart. in_other opening other which here apart found (so_far.each other found (set_elsewhere table opening other (Some item) found e apart)))
          (cases_eq other opening);
    }

    pub noted_more : (around item : Option ℕ) → IsInnermost is_any marks count around → IsItem IsAt count item → AreInTo marks IsAt (count + 1) (noted around item table)
    noted_more _ _ (IsInnermost.none nowhere) (IsItem.none absent) = kept (λ item opening which direct. absent item)
    noted_more _ _ (IsInnermost.none nowhere) (IsItem.some item at) = kept (λ other opening which direct. absurd (nowhere which opening refl direct.encloses))
    noted_more _ _ (IsInnermost.some which opening h) (IsItem.none absent) = kept (λ item other also direct. absent item)
    noted_more _ _ (IsInnermost.some which opening h) (IsItem.some item at) = put opening item which h at

  pub all_in : (count : ℕ) (table : List (Option ℕ)) → ((place item : ℕ) → IsAt place item → place < count) → AreInTo marks IsAt count table → AreIn marks IsAt table
  all_in count table inside so_far = record { whole = so_far.whole; each = λ opening found at. in_all opening found (so_far.each opening found at) }
    where
      in_all : (opening : ℕ) (found : Option ℕ) → IsInTo marks IsAt count opening found → IsIn marks IsAt opening found
      in_all opening _ (IsInTo.none old) = IsIn.none (λ place item which direct at. old place item which (inside place item at) direct at)
      in_all opening _ (IsInTo.some place item which direct at) = IsIn.some place item which direct at

-- ---- requests

module _ (source : Source) (asked : Asked) (are : AreAsked source asked) (place : ℕ) where
  number_item : (number : Option ℕ) → HasRole source place is.Request → IsNumber source asked.requests place number → IsItem (IsRequest source asked.requests) place number
  number_item _ role (IsNumber.none nowhere) =
      IsItem.none (λ item h. let found = some_with (slice_get asked.requests item) (AsksFor source place) h.asks in nowhere found.0 found.2)
  number_item _ role (IsNumber.some number asks) = IsItem.some number (record { role = role; asks = asks })

  no_request : ¬ HasRole source place is.Request → IsItem (IsRequest source asked.requests) place None
  no_request nowhere = IsItem.none (λ item h. nowhere h.role)

  other_role : (role : Role) (token : Token) (number : Option ℕ) → IsMark source place (mark.Token role token) → IsNumber source asked.requests place number
      → IsItem (IsRequest source asked.requests) place (requested (Some role) number)
  other_role is.Request token number at h = number_item number (token, at) h
  other_role _ token number at h = no_request (λ has. let same : Some (mark.Token is.Request has.0) ≡ Some (mark.Token _ token) = sym has.1 ∙ at in absurd (cc))

  mark_item : (found : Option Mark) (number : Option ℕ) → slice_get source.marks place ≡ found → IsNumber source asked.requests place number
      → IsItem (IsRequest source asked.requests) place (requested (role_of found) number)
  mark_item (Some (mark.Token role token)) number at h = other_role role token number at h
  mark_item _ number at h = no_request (λ has. let same = sym has.1 ∙ at in absurd (cc))

  pub request_item : place < length source.marks → IsItem (IsRequest source asked.requests) place (request_at source asked.numbers.items place)
  request_item inside =
      let there = element_at asked.numbers.items place (omega (arith, inside, are.whole)) in
      subst (λ (n : Option (Option ℕ)). IsItem (IsRequest source asked.requests) place (requested (role_of (slice_get source.marks place)) (unwrap_or n None))) (sym there.1)
      (mark_item (slice_get source.marks place) there.0 refl (are.numbers place there.0 there.1))

-- ---- classes without a name

unnamed_mark : (found : Option Mark) → is_unnamed found ≡ true → found ≡ Some mark.Unnamed
unnamed_mark (Some mark.Unnamed) e = refl
unnamed_mark _ e = absurd (true≢false (sym e))

class_mark : (found : Option Mark) → begins_class found ≡ true → found ≡ Some (mark.Begin part.Class)
class_mark (Some (mark.Begin part.Class)) e = refl
class_mark _ e = absurd (true≢false (sym e))

pub class_item : (source : Source) (place : ℕ) → IsItem (IsUnnamedClass source) place (class_by source.marks place)
class_item source place = by (is_unnamed (slice_get source.marks place) && begins_class (slice_get source.marks (place + 1))) refl
  where
    by : (b : Bool) → (is_unnamed (slice_get source.marks place) && begins_class (slice_get source.marks (place + 1))) ≡ b → IsItem (IsUnnamedClass source) place (cond b (Some place) None)
    by true e =
        let parts = both_true (is_unnamed (slice_get source.marks place)) (begins_class (slice_get source.marks (place + 1))) e in
        IsItem.some place (record {
          same = refl;
          unnamed = unnamed_mark (slice_get source.marks place) parts.0;
          behind = class_mark (slice_get source.marks (place + 1)) parts.1;
        })
    by false e = IsItem.none (λ item h. true≢false (sym (ap (λ (m : Option Mark). is_unnamed m && begins_class (slice_get source.marks (place + 1))) h.unnamed
        ∙ ap begins_class h.behind) ∙ e))

-- ---- the part around a place

pub around_innermost : (marks : Marks) (table : List Surroundings) (place : ℕ) → AreAround marks table → place < length marks
    → IsInnermost is_any marks place (part_around table place)
around_innermost marks table place are inside =
    let there = element_at table place (omega (arith, inside, are.whole)) in
    subst (λ (found : Option Surroundings). IsInnermost is_any marks place (part_of found)) (sym there.1) (are.each place there.0 there.1).part

-- a table of nothing
pub none_there : (count k : ℕ) (table : List (Option ℕ)) (found : Option ℕ) → table ≡ replicate count None → slice_get table k ≡ Some found → found ≡ None
none_there count k table found same at =
    let inside = slice_get_within table k found at in
    let empty : Option ℕ = None in
    let short : k < count = omega (arith, inside, ap length same, length-replicate count empty) in
    sym (get_or_from_slice_get table k found found at) ∙ ap (λ (list : List (Option ℕ)). get_or list k found) same ∙ get_or-replicate count k None found short

-- the innermost part around a place begins within the marks
pub opening_within : (marks : Marks) (around : List Surroundings) (place : ℕ) (table : List (Option ℕ)) (found : Option ℕ) → AreAround marks around
    → place < length marks → found ≡ part_around around place → length table ≡ length marks → IfSome found (λ opening. opening < length table)
opening_within marks around place table found are inside told whole =
    subst (λ (f : Option ℕ). IfSome f (λ opening. opening < length table)) (sym told) (by (part_around around place) (around_innermost marks around place are inside))
  where
    by : (f : Option ℕ) → IsInnermost is_any marks place f → IfSome f (λ opening. opening < length table)
    by _ (IsInnermost.none nowhere) = tt
    by _ (IsInnermost.some which opening h) = omega (arith, whole, slice_get_within marks opening (mark.Begin which) h.encloses.begins)

-- the same as the code comes to know it
pub noted_so : (marks : Marks) (IsAt : ℕ → ℕ → Type 0) (around : List Surroundings) (place : ℕ) (old new : List (Option ℕ)) (found item : Option ℕ) → AreAround marks around
    → place < length marks → found ≡ part_around around place → AreInTo marks IsAt place old → IsItem IsAt place item → new ≡ noted found item old
    → AreInTo marks IsAt (place + 1) new
noted_so marks IsAt around place old new found item are inside told so_far is e =
    subst (AreInTo marks IsAt (place + 1)) (sym e)
    (noted_more marks IsAt place old so_far found item (subst (λ (f : Option ℕ). IsInnermost is_any marks place f) (sym told) (around_innermost marks around place are inside)) is)

pub request_within : (source : Source) (requests : List Request) (place item : ℕ) → IsRequest source requests place item → place < length source.marks
request_within source requests place item h = slice_get_within source.marks place (mark.Token is.Request h.role.0) h.role.1

pub class_within : (source : Source) (place item : ℕ) → IsUnnamedClass source place item → place < length source.marks
class_within source place item h = slice_get_within source.marks place mark.Unnamed h.unnamed

pub nothing_so : (marks : Marks) (IsAt : ℕ → ℕ → Type 0) (table : List (Option ℕ)) (count : ℕ) → table ≡ replicate count None → count ≡ length marks → AreInTo marks IsAt 0 table
nothing_so marks IsAt table count same whole =
    let empty : Option ℕ = None in
    nothing_in marks IsAt table (ap length same ∙ length-replicate count empty ∙ whole) (λ k found at. none_there count k table found same at)
