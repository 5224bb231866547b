-- What stands in the parts of a text, by what is looked at at a place.
use Rattle.std.proofs.Common.{◌≡◌, ◌↔◌, ℕ, ◌+◌, ◌<◌, Bool, true, List, Option, Some, None, is_some, unwrap_or, length, slice_get, refl, sym, ap, subst, ◌∙◌}
use Rattle.std.specs.Prelude.{IfSome, IsSomeAnd}
use Rattle.std.proofs.lemmas.Bool.{false≢true}
use Rattle.std.proofs.lemmas.Option.{none-some, same_Some, slice_get_within}
use Rattle.pk_types.proofs.ListMembers.{both, first_so, second_so}
use Rattle.pk_types.proofs.Members.{as_long}
use Rattle.es_tree.specs.declared.tokens.Token.{Token}
use Rattle.es_outline.specs.declared.mark.Mark.{Mark}
use Rattle.es_outline.specs.declared.mark.Mark.TheVariants as mark
use Rattle.es_outline.specs.declared.mark.Role.TheVariants as is
use Rattle.es_outline.specs.declared.mark.Part.{Part}
use Rattle.es_outline.specs.Outline.{Marks}
use Rattle.pk_types.specs.declared.facts.Request.{Request}
use Rattle.pk_types.specs.declared.facts.BindKind.{BindKind}
use Rattle.es_scope.specs.Source.{Source}
use Rattle.es_scope.specs.Asking.{AsksFor}
use Rattle.es_parts.specs.declared.enclosing.Surroundings.{Surroundings}
use Rattle.es_parts.specs.Around.{IsInnermost, AreAround, is_any}
use Rattle.es_asks.specs.declared.asked.Asked.{Asked}
use Rattle.es_asks.specs.Numbering.{IsNumber, AreAsked}
use Rattle.es_declares.specs.Inside.{is_request, is_asking, is_unnamed, is_nameless, kind_begun, told_in, IsRequest, IsAsking, IsNameless}

-- what is innermost begins at a mark
inside_marks : (kinds : Part → Bool) (marks : Marks) (place : ℕ) (found : Option ℕ) → IsInnermost kinds marks place found → IfSome found (λ opening. opening < length marks)
inside_marks kinds marks place _ (IsInnermost.none never) = tt
inside_marks kinds marks place _ (IsInnermost.some which opening near) = slice_get_within marks opening (mark.Begin which) near.encloses.begins

pub part_within : (marks : Marks) (table : List Surroundings) (place count : ℕ) (around : Surroundings) → AreAround marks table → slice_get table place ≡ Some around
    → count ≡ length marks → IfSome around.part (λ opening. opening < count)
part_within marks table place count around are at long =
    subst (λ n. IfSome around.part (λ opening. opening < n)) (sym long) (inside_marks is_any marks place around.part (are.each place around at).part)

-- requests
request_token : (found : Option Mark) → is_request found ≡ true → (token : Token) × (found ≡ Some (mark.Token is.Request token))
request_token (Some (mark.Token is.Request token)) e = (token, refl)
request_token _ e = absurd (false≢true e)

pub request_told : (source : Source) (place : ℕ) (told : Bool) → told ≡ is_request (slice_get source.marks place) → (told ≡ true) ↔ IsRequest source place
request_told source place told is_so = (
  λ e. request_token (slice_get source.marks place) (sym is_so ∙ e),
  λ h. is_so ∙ ap is_request h.1,
)

-- those that ask for something
some_number : (found : Option ℕ) → is_some found ≡ true → (number : ℕ) × (found ≡ Some number)
some_number None e = absurd (false≢true e)
some_number (Some number) e = (number, refl)

number_asks : (source : Source) (requests : List Request) (place : ℕ) (told : Option ℕ) → IsNumber source requests place told → (number : ℕ) → told ≡ Some number
    → IsSomeAnd (slice_get requests number) (AsksFor source place)
number_asks source requests place _ (IsNumber.none never) number e = absurd (none-some number e)
number_asks source requests place _ (IsNumber.some other asks) number e =
    subst (λ n. IsSomeAnd (slice_get requests n) (AsksFor source place)) (same_Some other number e) asks

asks_number : (source : Source) (requests : List Request) (place : ℕ) (told : Option ℕ) → IsNumber source requests place told → (request : Request) → AsksFor source place request
    → is_some told ≡ true
asks_number source requests place _ (IsNumber.none never) request asks = absurd (never request asks)
asks_number source requests place _ (IsNumber.some other known) request asks = refl

request_there : (source : Source) (place : ℕ) (found : Option Request) → IsSomeAnd found (AsksFor source place) → (request : Request) × (found ≡ Some request) × AsksFor source place request
request_there source place None none = absurd none
request_there source place (Some request) asks = (request, refl, asks)

-- what is told of a place of the text
pub told_number : (source : Source) (asked : Asked) → AreAsked source asked → (place : ℕ) (one_mark : Mark) → slice_get source.marks place ≡ Some one_mark
    → IsNumber source asked.requests place (told_in asked.numbers.items place)
told_number source asked are place one_mark at =
    let there = as_long source.marks asked.numbers.items place one_mark at are.whole in
    subst (IsNumber source asked.requests place) (sym (ap (λ (found : Option (Option ℕ)). unwrap_or found None) there.1)) (are.numbers place there.0 there.1)

pub asking_told : (source : Source) (asked : Asked) → AreAsked source asked → (place : ℕ) (told : Bool) (number : Option ℕ) → number ≡ told_in asked.numbers.items place
    → told ≡ is_asking (slice_get source.marks place) number → (told ≡ true) ↔ IsAsking source place
asking_told source asked are place told number number_is told_is = (
  λ e. let so : is_asking (slice_get source.marks place) number ≡ true = sym told_is ∙ e in
      let token = request_token (slice_get source.marks place) (first_so (is_request (slice_get source.marks place)) (is_some number) so) in
      let some = some_number number (second_so (is_request (slice_get source.marks place)) (is_some number) so) in
      let there = told_number source asked are place (mark.Token is.Request token.0) token.1 in
      let known = number_asks source asked.requests place (told_in asked.numbers.items place) there some.0 (sym number_is ∙ some.1) in
      let found = request_there source place (slice_get asked.requests some.0) known in
      record { is_request = token; request = found.0; asks = found.2 },
  λ h. let there = told_number source asked are place (mark.Token is.Request h.is_request.0) h.is_request.1 in
      told_is ∙ both (is_request (slice_get source.marks place)) (is_some number) (ap is_request h.is_request.1)
      (ap is_some number_is ∙ asks_number source asked.requests place (told_in asked.numbers.items place) there h.request h.asks),
)

-- functions and classes without a name
unnamed_mark : (found : Option Mark) → is_unnamed found ≡ true → found ≡ Some mark.Unnamed
unnamed_mark (Some mark.Unnamed) e = refl
unnamed_mark _ e = absurd (false≢true e)

some_kind : (found : Option BindKind) → is_some found ≡ true → (kind : BindKind) × (found ≡ Some kind)
some_kind None e = absurd (false≢true e)
some_kind (Some kind) e = (kind, refl)

pub nameless_told : (source : Source) (place : ℕ) (told : Bool) → told ≡ is_nameless (slice_get source.marks place) (slice_get source.marks (place + 1))
    → (told ≡ true) ↔ IsNameless source place
nameless_told source place told is_so = (
  λ e. let so : is_nameless (slice_get source.marks place) (slice_get source.marks (place + 1)) ≡ true = sym is_so ∙ e in
      let kind = some_kind (kind_begun (slice_get source.marks (place + 1)))
      (second_so (is_unnamed (slice_get source.marks place)) (is_some (kind_begun (slice_get source.marks (place + 1)))) so) in
      record {
        stands = unnamed_mark (slice_get source.marks place) (first_so (is_unnamed (slice_get source.marks place)) (is_some (kind_begun (slice_get source.marks (place + 1)))) so);
        kind = kind.0;
        begins = kind.1;
      },
  λ h. is_so ∙ both (is_unnamed (slice_get source.marks place)) (is_some (kind_begun (slice_get source.marks (place + 1)))) (ap is_unnamed h.stands) (ap is_some h.begins),
)

-- each of these stands at a mark
pub request_within : (source : Source) (place : ℕ) → IsRequest source place → place < length source.marks
request_within source place h = slice_get_within source.marks place (mark.Token is.Request h.0) h.1

pub asking_within : (source : Source) (place : ℕ) → IsAsking source place → place < length source.marks
asking_within source place h = request_within source place h.is_request

pub nameless_within : (source : Source) (place : ℕ) → IsNameless source place → place < length source.marks
nameless_within source place h = slice_get_within source.marks place mark.Unnamed h.stands
