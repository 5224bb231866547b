-- The requests of a text and their numbers, when one mark more is passed; and the order of those of declarations.
use Rattle.std.proofs.Common.{◌≡◌, ◌⊎◌, ⊎_elim, ◌↔◌, ℕ, ◌+◌, ◌<◌, ◌≤◌, Bool, true, false, cond, List, [], ◌∷◌, ◌++◌, Option, Some, None, slice_get, length, refl, sym, ap, subst, ◌∙◌, arith, true≢false}
use Rattle.std.specs.Prelude.{IsSomeAnd, unwrap_or}
use Rattle.std.proofs.lemmas.Option.{none-some, same_Some, slice_get_within}
use Rattle.std.proofs.lemmas.List.{length_push}
use Rattle.pk_types.specs.Numbers.{has}
use Rattle.pk_types.specs.declared.facts.Request.{Request}
use Rattle.pk_types.proofs.ListMembers.{true-has, has-true}
use Rattle.pk_types.proofs.Members.{at_left, element_at}
use Rattle.es_outline.specs.declared.mark.Mark.{Mark}
use Rattle.es_outline.specs.declared.mark.Role.TheVariants as is
use Rattle.es_scope.specs.Source.{Source, HasRole}
use Rattle.es_scope.specs.Asking.{AsksFor, AsksFirst}
use Rattle.es_scope.specs.FactsOf.{IsOrdered}
use Rattle.es_scope.specs.Listed.{AreThose}
use Rattle.es_scope.proofs.Placing.{none_placed, one_placed}
use Rattle.es_scope.proofs.FoundTable.{occurrence_named, named_mark}
use Rattle.es_asks.specs.Gathering.{noted}
use Rattle.es_asks.specs.Requested.{Notes}
use Rattle.es_asks.specs.Asked.{Passes, is_request}
use Rattle.es_asks.specs.declared.asked.Asked.{Asked}
use Rattle.es_asks.specs.Numbering.{IsNumber, AreAsked}
use Rattle.es_asks.specs.Passing.{IsFirstAt, AreFirstsTo, AreAskedTo, AsksOnce, order_at, IsOrderAt}
use Rattle.es_asks.proofs.AskedLaws.{request_role}
use Rattle.es_asks.proofs.Firsts.{no_firsts, same_firsts, more_firsts, one_index, all_firsts, those_by}

-- a request that some option holds
some_and : {A : Type 0} (P : A → Type 0) (found : Option A) → IsSomeAnd found P → (x : A) × (found ≡ Some x) × P x
some_and P (Some x) h = (x, refl, h)
some_and P None h = absurd h

and_some : {A : Type 0} (P : A → Type 0) (found : Option A) (x : A) → found ≡ Some x → P x → IsSomeAnd found P
and_some P found x e h = subst (λ o. IsSomeAnd o P) (sym e) h

-- numbers stay when a request is noted
kept : (requests more : List Request) (request other : Request) (number : ℕ) → Notes requests request more → slice_get requests number ≡ Some other
    → slice_get more number ≡ Some other
kept requests _ request other number (Notes.known c) e = e
kept requests _ request other number (Notes.fresh new) e = at_left requests (request ∷ []) number other e

number_kept : (source : Source) (requests more : List Request) (request : Request) → Notes requests request more → (place : ℕ) (number : Option ℕ)
    → IsNumber source requests place number → IsNumber source more place number
number_kept source requests more request notes place _ (IsNumber.none none) = IsNumber.none none
number_kept source requests more request notes place _ (IsNumber.some number h) =
    let found = some_and (AsksFor source place) (slice_get requests number) h in
    IsNumber.some number (and_some (AsksFor source place) (slice_get more number) found.0 (kept requests more request found.0 number notes found.1) found.2)

module _ (source : Source) where
  pub none_asked : (requests : List Request) (numbers : List (Option ℕ)) → requests ≡ [] → numbers ≡ [] → AreAskedTo source 0 requests numbers
  none_asked requests numbers none empty = record {
    firsts = no_firsts (AsksFor source) requests none;
    whole = ap length empty;
    each = subst (λ (l : List (Option ℕ)). (place : ℕ) (number : Option ℕ) → slice_get l place ≡ Some number → IsNumber source requests place number) (sym empty)
        (none_placed (IsNumber source requests));
  }

  module _ (once : AsksOnce source) (limit : ℕ) (requests : List Request) (numbers longer : List (Option ℕ)) (so_far : AreAskedTo source limit requests numbers) where
    passed : (more : List Request) (number : Option ℕ) → Passes source limit requests more number → longer ≡ numbers ++ number ∷ [] → AreAskedTo source (limit + 1) more longer
    passed _ _ (Passes.none none) pushed = subst (AreAskedTo source (limit + 1) requests) (sym pushed) (record {
      firsts = same_firsts (AsksFor source) limit requests none so_far.firsts;
      whole = length_push numbers None ∙ ap (λ n. n + 1) so_far.whole;
      each = one_placed (IsNumber source requests) numbers None so_far.each (IsNumber.none (subst (λ p. (request : Request) → ¬ AsksFor source p request) (sym so_far.whole) none));
    })
    passed _ _ (Passes.some more request number asks takes) pushed = subst (AreAskedTo source (limit + 1) more) (sym pushed) (record {
      firsts = more_firsts (AsksFor source) limit requests request so_far.firsts asks (λ other h. once limit request other asks h) more takes.notes;
      whole = length_push numbers (Some number) ∙ ap (λ n. n + 1) so_far.whole;
      each = one_placed (IsNumber source more) numbers (Some number)
          (λ place other e. number_kept source requests more request takes.notes place other (so_far.each place other e))
          (subst (λ p. IsNumber source more p (Some number)) (sym so_far.whole)
          (IsNumber.some number (and_some (AsksFor source limit) (slice_get more number) request takes.stands asks)));
    })

    pub one_passed : (more : List Request) (number : Option ℕ) → Passes source limit requests more number → longer ≡ numbers ++ number ∷ []
        → AreAskedTo source (limit + 1) more longer
    one_passed more number passes pushed = passed more number passes pushed

  -- the order of requests of declarations
  module _ (once : AsksOnce source) (limit : ℕ) (requests : List Request) (numbers : List (Option ℕ)) (asked : AreAskedTo source limit requests numbers) where
    order_by : (place : ℕ) (number : Option ℕ) (found : ℕ) → IsNumber source requests place number → HasRole source place is.Request → number ≡ Some found
        → IsOrderAt source requests place found
    order_by place _ found (IsNumber.none none) role e = absurd (none-some found e)
    order_by place _ found (IsNumber.some number h) role e =
        let one = some_and (AsksFor source place) (slice_get requests number) h in
        record {
          request = one.0;
          has_number = subst (λ n. slice_get requests n ≡ Some one.0) (same_Some number found e) one.1;
          is_request = role;
          asks = one.2;
        }

    by_order : (place : ℕ) (number : Option ℕ) (found : ℕ) → IsNumber source requests place number → IsOrderAt source requests place found → number ≡ Some found
    by_order place _ found (IsNumber.none none) h = absurd (none h.request h.asks)
    by_order place _ found (IsNumber.some number h) order =
        let one = some_and (AsksFor source place) (slice_get requests number) h in
        let same = once place one.0 order.request one.2 order.asks in
        ap (λ (n : ℕ). Some n) (one_index (AsksFor source) limit requests asked.firsts number found order.request
        (one.1 ∙ ap (λ (r : Request). Some r) same) order.has_number)

    there_order : (place found : ℕ) → place < limit → IsOrderAt source requests place found → order_at source numbers place ≡ Some found
    there_order place found inside h =
        let number = number_there numbers place (omega (arith, asked.whole)) in
        ap (λ (there : Option Mark). cond (is_request there) (unwrap_or (slice_get numbers place) None) None) h.is_request.1
        ∙ ap (λ (o : Option (Option ℕ)). unwrap_or o None) number.1
        ∙ by_order place number.0 found (asked.each place number.0 number.1) h
      where
        number_there : (l : List (Option ℕ)) (k : ℕ) → k < length l → (x : Option ℕ) × (slice_get l k ≡ Some x)
        number_there l k within = element_at l k within

    order_there : (place found : ℕ) (b : Bool) (number : Option (Option ℕ)) → is_request (slice_get source.marks place) ≡ b → slice_get numbers place ≡ number
        → cond b (unwrap_or number None) None ≡ Some found → IsOrderAt source requests place found
    order_there place found false number e f is = absurd (none-some found is)
    order_there place found true None e f is = absurd (none-some found is)
    order_there place found true (Some number) e f is =
        order_by place number found (asked.each place number f) (request_role source place (slice_get source.marks place) refl e) is

    noted_by : (order : List ℕ) (number : ℕ) (b : Bool) → has order number ≡ b → Notes order number (cond b order (order ++ number ∷ []))
    noted_by order number true e = Notes.known (true-has order number e)
    noted_by order number false e = Notes.fresh (λ c. true≢false (sym (has-true order number c) ∙ e))

    order_step : (place : ℕ) (order : List ℕ) (told : Option ℕ) → order_at source numbers place ≡ told → place < limit
        → AreFirstsTo (IsOrderAt source requests) place order → AreFirstsTo (IsOrderAt source requests) (place + 1) (noted order told)
    order_step place order None e inside so_far =
        same_firsts (IsOrderAt source requests) place order (λ found h. none-some found (sym e ∙ there_order place found inside h)) so_far
    order_step place order (Some number) e inside so_far =
        more_firsts (IsOrderAt source requests) place order number so_far (order_there place number _ _ refl refl e)
        (λ other h. same_Some number other (sym e ∙ there_order place other inside h))
        (noted order (Some number)) (noted_by order number (has order number) refl)

    pub one_ordered : (place : ℕ) (order more : List ℕ) (told : Option ℕ) → told ≡ order_at source numbers place → place < limit
        → more ≡ noted order told → AreFirstsTo (IsOrderAt source requests) place order → AreFirstsTo (IsOrderAt source requests) (place + 1) more
    one_ordered place order more told e inside same so_far =
        subst (AreFirstsTo (IsOrderAt source requests) (place + 1)) (sym same) (order_step place order told (sym e) inside so_far)

    ordered_is : (place number : ℕ) → IsFirstAt (IsOrderAt source requests) place number ↔ IsOrdered source requests place number
    ordered_is place number = (
      λ h. record {
        request = h.at.request;
        has_number = h.at.has_number;
        is_request = h.at.is_request;
        asks = h.at.asks;
        first = λ other role asks. h.first other (record { request = h.at.request; has_number = h.at.has_number; is_request = role; asks = asks });
      },
      λ h. record {
        at = record { request = h.request; has_number = h.has_number; is_request = h.is_request; asks = h.asks };
        first = λ other at. h.first other at.is_request
            (subst (AsksFor source other) (same_Some at.request h.request (sym at.has_number ∙ h.has_number)) at.asks);
      },
    )

    pub all_ordered : (place : ℕ) (order : List ℕ) → length source.marks ≤ place → AreFirstsTo (IsOrderAt source requests) place order
        → AreThose (IsOrdered source requests) order
    all_ordered place order most so_far =
        those_by (IsFirstAt (IsOrderAt source requests)) (IsOrdered source requests) order ordered_is
        (all_firsts (IsOrderAt source requests) place order so_far
        (λ other number h. let inside = slice_get_within source.marks other _ h.is_request.1 in omega arith))

-- the place of what asks is that of a mark
asks_within : (source : Source) (place : ℕ) (request : Request) → AsksFor source place request → place < length source.marks
asks_within source place _ (AsksFor.declared value role s not_json) = slice_get_within source.marks place _ role.1
asks_within source place _ (AsksFor.json value role s is_json) = slice_get_within source.marks place _ role.1
asks_within source place _ (AsksFor.imported value right h) = slice_get_within source.marks place _ h.word.1
asks_within source place _ (AsksFor.required value right goal h) =
    let there = named_mark (slice_get source.marks place) (occurrence_named source place h.free.0.occurs) in slice_get_within source.marks place there.0 there.1

at_or_before : (a b : ℕ) → a ≤ b → (a < b) ⊎ (a ≡ b)
at_or_before a b h = grind arith

asks_first : (source : Source) (place : ℕ) (request : Request) → IsFirstAt (AsksFor source) place request ↔ AsksFirst source place request
asks_first source place request = (
  λ h. record { asks = h.at; first = λ other asks. at_or_before place other (h.first other asks) },
  λ h. record { at = h.asks; first = λ other asks. ⊎_elim (λ below. omega arith) (λ same. omega arith) (h.first other asks) },
)

pub all_asked : (source : Source) (limit : ℕ) (requests : List Request) (numbers : List (Option ℕ)) → length source.marks ≤ limit
    → AreAskedTo source limit requests numbers → AreThose (AsksFirst source) requests
all_asked source limit requests numbers most asked =
    those_by (IsFirstAt (AsksFor source)) (AsksFirst source) requests (asks_first source)
    (all_firsts (AsksFor source) limit requests asked.firsts (λ place request h. let inside = asks_within source place request h in omega arith))

-- all that is told of a text
pub all_told : (source : Source) (asked : Asked) (requests : List Request) (seen : List (Option ℕ)) → asked.requests ≡ requests → seen ≡ asked.numbers.items
    → AsksOnce source → AreAskedTo source (length source.marks) requests asked.numbers.items
    → ((others : List Request) → AsksOnce source → AreAskedTo source (length source.marks) others seen → AreThose (IsOrdered source others) asked.order)
    → AreAsked source asked
all_told source asked requests seen same is_seen once told order =
    let here = subst (λ (l : List Request). AreAskedTo source (length source.marks) l asked.numbers.items) (sym same) told in
    record {
      requests = all_asked source (length source.marks) asked.requests asked.numbers.items (omega arith) here;
      order = order asked.requests once (subst (λ (l : List (Option ℕ)). AreAskedTo source (length source.marks) asked.requests l) (sym is_seen) here);
      whole = here.whole;
      numbers = here.each;
    }
