-- The request of the declaration that a place stands in, by the tables of what stands in parts.
use Rattle.std.proofs.Common.{◌≡◌, ℕ, List, Option, Some, None, unwrap_or, slice_get, refl, sym, ap, subst, ◌∙◌}
use Rattle.std.specs.Prelude.{IsSomeAnd}
use Rattle.pk_types.proofs.Members.{as_long}
use Rattle.es_outline.specs.declared.mark.Mark.TheVariants as mark
use Rattle.es_outline.specs.declared.mark.Role.TheVariants as is
use Rattle.es_outline.specs.declared.mark.Part.{Part}
use Rattle.es_outline.specs.Outline.{Marks}
use Rattle.es_scope.specs.Source.{Source}
use Rattle.es_scope.specs.Parts.{IsDirectlyIn}
use Rattle.es_scope.specs.Asking.{AsksFor, RequestOf}
use Rattle.es_parts.specs.Around.{IsInnermost, is_any}
use Rattle.es_asks.specs.declared.asked.Asked.{Asked}
use Rattle.es_asks.specs.Numbering.{IsNumber, AreAsked}
use Rattle.es_declares.specs.Inside.{IsInside, AreInside, told_in, IsAsking, IsRequestNumber, number_at, request_by}
use Rattle.es_declares.proofs.InsideLaws.{same_nearest}
use Rattle.es_declares.proofs.StandingLaws.{told_number}

-- what is told of a part
pub told_inside : (IsSo : ℕ → Type 0) (marks : Marks) (table : List (Option ℕ)) → AreInside IsSo marks table → (opening : ℕ) (which : Part)
    → slice_get marks opening ≡ Some (mark.Begin which) → IsInside IsSo marks opening (told_in table opening)
told_inside IsSo marks table are opening which begins =
    let there = as_long marks table opening (mark.Begin which) begins are.whole in
    subst (IsInside IsSo marks opening) (sym (ap (λ (found : Option (Option ℕ)). unwrap_or found None) there.1)) (are.each opening there.0 there.1)

pub so_of : {A : Type 0} (P Q : A → Type 0) (found : Option A) → ((item : A) → P item → Q item) → IsSomeAnd found P → IsSomeAnd found Q
so_of P Q None more none = absurd none
so_of P Q (Some item) more so = more item so

there_is : {A : Type 0} (P : A → Type 0) (found : Option A) → IsSomeAnd found P → (item : A) × P item
there_is P None none = absurd none
there_is P (Some item) so = (item, so)

module _ (source : Source) (asked : Asked) (are : AreAsked source asked) (place : ℕ) where
  -- a request that stands in the same part
  by_number : (which other : Part) (opening at : ℕ) (asking : IsAsking source at) → IsDirectlyIn source.marks place which opening → IsDirectlyIn source.marks at other opening
      → (told : Option ℕ) → IsNumber source asked.requests at told → IsRequestNumber source asked.requests place told
  by_number which other opening at asking here there _ (IsNumber.none never) = absurd (never asking.request asking.asks)
  by_number which other opening at asking here there _ (IsNumber.some number known) =
      let begins : Some (mark.Begin which) ≡ Some (mark.Begin other) = sym here.encloses.begins ∙ there.encloses.begins in
      let same : which ≡ other = cc in
      IsRequestNumber.some number (so_of (AsksFor source at) (RequestOf source place) (slice_get asked.requests number) (λ request asks. record {
        which = other;
        opening = opening;
        at = at;
        here = subst (λ w. IsDirectlyIn source.marks place w opening) same here;
        there = there;
        is_request = asking.is_request;
        asks = asks;
      }) known)

  by_inside : (asking : List (Option ℕ)) (which : Part) (opening : ℕ) → IsDirectlyIn source.marks place which opening → (told : Option ℕ)
      → IsInside (IsAsking source) source.marks opening told → IsRequestNumber source asked.requests place (number_at asked.numbers.items told)
  by_inside asking which opening here _ (IsInside.some other at so there) =
      by_number which other opening at so here there (told_in asked.numbers.items at) (told_number source asked are at (mark.Token is.Request so.is_request.0) so.is_request.1)
  by_inside asking which opening here _ (IsInside.none never) = IsRequestNumber.none (λ number h.
      let of = (there_is (RequestOf source place) (slice_get asked.requests number) h).1 in
      let same = same_nearest is_any source.marks place of.opening opening of.which which of.here here in
      never of.which of.at (record { is_request = of.is_request; request = (there_is (RequestOf source place) (slice_get asked.requests number) h).0; asks = of.asks })
      (subst (λ o. IsDirectlyIn source.marks of.at of.which o) same of.there))

  pub request_is : (asking : List (Option ℕ)) → AreInside (IsAsking source) source.marks asking → (part : Option ℕ) → IsInnermost is_any source.marks place part
      → IsRequestNumber source asked.requests place (request_by asking asked.numbers.items part)
  request_is asking inside _ (IsInnermost.some which opening here) =
      by_inside asking which opening here (told_in asking opening) (told_inside (IsAsking source) source.marks asking inside opening which here.encloses.begins)
  request_is asking inside _ (IsInnermost.none never) = IsRequestNumber.none (λ number h.
      let of = (there_is (RequestOf source place) (slice_get asked.requests number) h).1 in never of.which of.opening refl of.here.encloses)
