-- What is known of a text that was told of, and the parts and requests around its places.
use Rattle.std.proofs.Common.{◌≡◌, ◌<◌, ℕ, Bool, true, List, Option, Some, None, is_some, length, slice_get, unwrap_or, refl, sym, ap, subst, ◌∙◌, arith}
use Rattle.std.specs.Prelude.{IsSomeAnd}
use Rattle.std.proofs.lemmas.Option.{none-some, same_Some}
use Rattle.pk_text.specs.Places.{place_of}
use Rattle.es_outline.specs.declared.mark.Part.{Part}
use Rattle.es_outline.specs.Outline.{Marks}
use Rattle.pk_types.specs.declared.facts.Request.{Request}
use Rattle.es_scope.specs.Parts.{NearestPart, IsDirectlyIn}
use Rattle.es_scope.specs.Telling.{AreScopes}
use Rattle.es_scope.specs.Asking.{AsksFor}
use Rattle.es_scope.specs.Known.{Known}
use Rattle.es_scope.specs.Declaring.{default_binding}
use Rattle.es_parts.specs.declared.enclosing.Surroundings.{Surroundings}
use Rattle.es_parts.specs.Around.{IsInnermost, AreAround, is_any}
use Rattle.es_parts.specs.Binding.{AreBinders}
use Rattle.es_asks.specs.Numbering.{IsNumber}
use Rattle.es_declares.specs.Numbering.{IsBindingNumber}
use Rattle.es_exports.specs.Seeing.{Seen, part_in, part_at, number_at, begun_at}
use Rattle.es_exports.proofs.Marks.{some_there, begun_here}

-- what is seen is that of the source, where these facts are known
pub record AreSeen (known : Known) (seen : Seen) : Type 0 where
  pub scopes : AreScopes seen.source seen.told
  pub around : AreAround seen.source.marks seen.around
  pub binders : AreBinders seen.source.marks seen.binders
  pub whole : length seen.numbers ≡ length seen.source.marks
  pub numbers : (place : ℕ) (number : Option ℕ) → slice_get seen.numbers place ≡ Some number → IsNumber seen.source known.requests place number
  pub binding_whole : length seen.binding_of ≡ length seen.told.texts
  pub binding_numbers : (at : ℕ) (name : List ℕ) (number : Option ℕ) → place_of seen.told.texts name ≡ Some at → slice_get seen.binding_of at ≡ Some number
      → IsBindingNumber known name number
  pub default_number : IsBindingNumber known default_binding seen.default_binding

-- ---- what holds of some item

pub some_so : {A : Type 0} (P : A → Type 0) (found : Option A) → IsSomeAnd found P → (item : A) × (found ≡ Some item) × P item
some_so P None h = absurd h
some_so P (Some item) h = (item, refl, h)

pub so_some : {A : Type 0} (P : A → Type 0) (found : Option A) (item : A) → found ≡ Some item → P item → IsSomeAnd found P
so_some P found item e h = subst (λ o. IsSomeAnd o P) (sym e) h

-- ---- innermost parts

pub innermost_there : (kinds : Part → Bool) (marks : Marks) (place opening : ℕ) (found : Option ℕ) → IsInnermost kinds marks place found → found ≡ Some opening
    → (which : Part) × NearestPart kinds marks place which opening
innermost_there kinds marks place opening _ (IsInnermost.none none) e = absurd (none-some opening e)
innermost_there kinds marks place opening _ (IsInnermost.some which at near) e =
    (which, subst (λ o. NearestPart kinds marks place which o) (same_Some at opening e) near)

pub innermost_here : (kinds : Part → Bool) (marks : Marks) (place opening : ℕ) (which : Part) (found : Option ℕ) → IsInnermost kinds marks place found
    → NearestPart kinds marks place which opening → found ≡ Some opening
innermost_here kinds marks place opening which _ (IsInnermost.none none) near = absurd (none which opening near.kind near.encloses)
innermost_here kinds marks place opening which _ (IsInnermost.some other at also) near =
    let above = near.nearest other at also.kind also.encloses in
    let below = also.nearest which opening near.kind near.encloses in
    ap (λ (o : ℕ). Some o) (let same : at ≡ opening = omega arith in same)

abbrev number_in : Option (Option ℕ) → Option ℕ
number_in found = unwrap_or found None

module _ (known : Known) (seen : Seen) (facts : AreSeen known seen) where
  part_by : (place opening : ℕ) (found : Option Surroundings) → slice_get seen.around place ≡ found → part_in found ≡ Some opening
      → (which : Part) × IsDirectlyIn seen.source.marks place which opening
  part_by place opening None g e = absurd (none-some opening e)
  part_by place opening (Some around) g e = innermost_there is_any seen.source.marks place opening around.part (facts.around.each place around g).part e

  pub part_there : (place opening : ℕ) → part_at seen place ≡ Some opening → (which : Part) × IsDirectlyIn seen.source.marks place which opening
  part_there place opening e = part_by place opening (slice_get seen.around place) refl e

  pub part_here : (place opening : ℕ) (which : Part) → place < length seen.source.marks → IsDirectlyIn seen.source.marks place which opening
      → part_at seen place ≡ Some opening
  part_here place opening which inside h =
      let there = some_there seen.around place (let long = facts.around.whole in omega arith) in
      ap part_in there.1 ∙ innermost_here is_any seen.source.marks place opening which there.0.part (facts.around.each place there.0 there.1).part h

  -- a part of this kind
  pub directly_there : (place opening : ℕ) (which : Part) → part_at seen place ≡ Some opening → begun_at seen.source opening ≡ Some which
      → IsDirectlyIn seen.source.marks place which opening
  directly_there place opening which e b =
      let there = part_there place opening e in
      let same : there.0 ≡ which = same_Some there.0 which (sym (begun_here seen.source opening there.0 there.1.encloses.begins) ∙ b) in
      subst (λ w. IsDirectlyIn seen.source.marks place w opening) same there.1

  pub directly_begun : (place opening : ℕ) (which : Part) → IsDirectlyIn seen.source.marks place which opening → begun_at seen.source opening ≡ Some which
  directly_begun place opening which h = begun_here seen.source opening which h.encloses.begins

  -- ---- numbers of requests

  asks_by : (place : ℕ) (number : ℕ) (found : Option ℕ) → IsNumber seen.source known.requests place found → found ≡ Some number
      → IsSomeAnd (slice_get known.requests number) (AsksFor seen.source place)
  asks_by place number _ (IsNumber.none none) e = absurd (none-some number e)
  asks_by place number _ (IsNumber.some other h) e =
      subst (λ n. IsSomeAnd (slice_get known.requests n) (AsksFor seen.source place)) (same_Some other number e) h

  number_by : (place number : ℕ) (found : Option (Option ℕ)) → slice_get seen.numbers place ≡ found → number_in found ≡ Some number
      → IsSomeAnd (slice_get known.requests number) (AsksFor seen.source place)
  number_by place number None g e = absurd (none-some number e)
  number_by place number (Some found) g e = asks_by place number found (facts.numbers place found g) e

  pub number_there : (place number : ℕ) → number_at seen place ≡ Some number → IsSomeAnd (slice_get known.requests number) (AsksFor seen.source place)
  number_there place number e = number_by place number (slice_get seen.numbers place) refl e

  numbered_by : (place : ℕ) (request : Request) (found : Option ℕ) → IsNumber seen.source known.requests place found → AsksFor seen.source place request
      → is_some found ≡ true
  numbered_by place request _ (IsNumber.none none) asks = absurd (none request asks)
  numbered_by place request _ (IsNumber.some number h) asks = refl

  pub number_here : (place : ℕ) (request : Request) → place < length seen.source.marks → AsksFor seen.source place request
      → is_some (number_at seen place) ≡ true
  number_here place request inside asks =
      let there = some_there seen.numbers place (let long = facts.whole in omega arith) in
      ap (λ (o : Option (Option ℕ)). is_some (number_in o)) there.1 ∙ numbered_by place request there.0 (facts.numbers place there.0 there.1) asks
