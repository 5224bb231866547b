-- The requests of declarations around places, and lists whose names are those of another module.
use Rattle.std.proofs.Common.{◌≡◌, ◌<◌, ◌&&◌, ℕ, true, Option, Some, None, is_some, length, slice_get, option_and_then, refl, ap, ◌∙◌}
use Rattle.std.proofs.lemmas.Bool.{and_parts, and_from, cond-true}
use Rattle.std.proofs.lemmas.Option.{none-some}
use Rattle.es_outline.specs.declared.mark.Role.TheVariants as is
use Rattle.es_outline.specs.declared.mark.Part.{Part}
use Rattle.es_outline.specs.declared.mark.Part.TheVariants as part
use Rattle.es_scope.specs.Parts.{IsDirectlyIn}
use Rattle.es_scope.specs.Source.{HasRole}
use Rattle.es_scope.specs.Occurrences.{ExportsFrom}
use Rattle.es_scope.specs.Asking.{AsksFor, RequestOf}
use Rattle.es_scope.specs.Known.{Known}
use Rattle.es_scope.specs.Declaring.{IsRequestOf}
use Rattle.es_exports.specs.declared.inside.Inside.{Inside}
use Rattle.es_exports.specs.Seeing.{Seen, role_at, begun_at, part_at, number_at, is_request, is_list}
use Rattle.es_exports.specs.Entries.{at}
use Rattle.es_exports.specs.Noting.{of_request, of_numbered, AreInside}
use Rattle.es_exports.specs.Origins.{request_in, request_of, is_from, exports_from}
use Rattle.es_exports.proofs.Marks.{chosen, is_there, request_here, request_there, role_within, list_is, begun_here}
use Rattle.es_exports.proofs.Facts.{AreSeen, some_so, so_some}
use Rattle.es_exports.proofs.Facts as facts
use Rattle.es_exports.proofs.Entries as entries

module _ (known : Known) (seen : Seen) (inside : Inside) (are : AreSeen known seen) (tables : AreInside seen inside) where
  -- a request with a number, directly in the part
  record IsNumbered (place opening : ℕ) : Type 0 where
    request : HasRole seen.source place is.Request
    number : is_some (number_at seen place) ≡ true
    within : part_at seen place ≡ Some opening

  numbered_there : (place opening : ℕ) → of_numbered seen place ≡ Some opening → IsNumbered place opening
  numbered_there place opening e =
      let taken = chosen (is_request (role_at seen.source place) && is_some (number_at seen place)) (part_at seen place) opening e in
      let both = and_parts (is_request (role_at seen.source place)) (is_some (number_at seen place)) taken.0 in
      record { request = request_there seen.source place both.0; number = both.1; within = taken.1 }

  numbered_here : (place opening : ℕ) → IsNumbered place opening → of_numbered seen place ≡ Some opening
  numbered_here place opening h =
      cond-true (is_request (role_at seen.source place) && is_some (number_at seen place)) (part_at seen place) None
      (and_from (is_request (role_at seen.source place)) (is_some (number_at seen place)) (request_here seen.source place h.request) h.number) ∙ h.within

  request_by : (place number opening request : ℕ) → (which : Part) × IsDirectlyIn seen.source.marks place which opening
      → at inside.numbered opening ≡ Some request → number_at seen request ≡ Some number → IsRequestOf seen.source known place number
  request_by place number opening request here a n =
      let noted = numbered_there request opening (entries.noted_there (of_numbered seen) (length seen.source.marks) opening request inside.numbered tables.numbered a) in
      let asked = some_so (AsksFor seen.source request) (slice_get known.requests number) (facts.number_there known seen are request number n) in
      so_some (RequestOf seen.source place) (slice_get known.requests number) asked.0 asked.1 (record {
        which = here.0;
        opening = opening;
        at = request;
        here = here.1;
        there = facts.directly_there known seen are request opening here.0 noted.within (begun_here seen.source opening here.0 here.1.encloses.begins);
        is_request = noted.request;
        asks = asked.2;
      })

  request_at : (place number opening : ℕ) (found : Option ℕ) → (which : Part) × IsDirectlyIn seen.source.marks place which opening
      → at inside.numbered opening ≡ found → option_and_then (number_at seen) found ≡ Some number → IsRequestOf seen.source known place number
  request_at place number opening None here a e = absurd (none-some number e)
  request_at place number opening (Some request) here a e = request_by place number opening request here a e

  pub request_in_there : (place number : ℕ) (found : Option ℕ)
      → ((opening : ℕ) → found ≡ Some opening → (which : Part) × IsDirectlyIn seen.source.marks place which opening)
      → request_in seen inside found ≡ Some number → IsRequestOf seen.source known place number
  request_in_there place number None near e = absurd (none-some number e)
  request_in_there place number (Some opening) near e = request_at place number opening (at inside.numbered opening) (near opening refl) refl e

  pub request_of_there : (place number : ℕ) → request_of seen inside place ≡ Some number → IsRequestOf seen.source known place number
  request_of_there place number e = request_in_there place number (part_at seen place) (facts.part_there known seen are place) e

  pub request_in_here : (place number : ℕ) (found : Option ℕ)
      → ((which : Part) (opening : ℕ) → IsDirectlyIn seen.source.marks place which opening → found ≡ Some opening) → IsRequestOf seen.source known place number
      → (other : ℕ) × (request_in seen inside found ≡ Some other)
  request_in_here place number around far h =
      let asked = some_so (RequestOf seen.source place) (slice_get known.requests number) h in
      let of = asked.2 in
      let stands = role_within seen.source of.at is.Request of.is_request in
      let here = far of.which of.opening of.here in
      let there = facts.part_here known seen are of.at of.opening of.which stands of.there in
      let found = entries.noted_here (of_numbered seen) (length seen.source.marks) of.opening of.at inside.numbered tables.numbered stands
      (numbered_here of.at of.opening (record { request = of.is_request; number = facts.number_here known seen are of.at asked.0 stands of.asks; within = there })) in
      let noted = numbered_there found.0 of.opening
      (entries.noted_there (of_numbered seen) (length seen.source.marks) of.opening found.0 inside.numbered tables.numbered found.1) in
      let numbered = is_there (number_at seen found.0) noted.number in
      (numbered.0, ap (request_in seen inside) here ∙ (ap (option_and_then (number_at seen)) found.1 ∙ numbered.1))

  pub request_of_here : (place number : ℕ) → place < length seen.source.marks → IsRequestOf seen.source known place number
      → (other : ℕ) × (request_of seen inside place ≡ Some other)
  request_of_here place number before h =
      request_in_here place number (part_at seen place) (λ which opening d. facts.part_here known seen are place opening which before d) h

  -- ---- lists with a request

  requested_there : (place opening : ℕ) → of_request seen place ≡ Some opening → HasRole seen.source place is.Request × (part_at seen place ≡ Some opening)
  requested_there place opening e =
      let taken = chosen (is_request (role_at seen.source place)) (part_at seen place) opening e in (request_there seen.source place taken.0, taken.1)

  requested_here : (place opening : ℕ) → HasRole seen.source place is.Request → part_at seen place ≡ Some opening → of_request seen place ≡ Some opening
  requested_here place opening t e = cond-true (is_request (role_at seen.source place)) (part_at seen place) None (request_here seen.source place t) ∙ e

  from_by : (place : ℕ) (found : Option ℕ) → part_at seen place ≡ found → is_from seen inside found ≡ true → ExportsFrom seen.source place
  from_by place None p e = cc
  from_by place (Some opening) p e =
      let both = and_parts (is_list (begun_at seen.source opening)) (is_some (at inside.requests opening)) e in
      let begun = list_is (begun_at seen.source opening) both.0 in
      let request = is_there (at inside.requests opening) both.1 in
      let noted = requested_there request.0 opening
      (entries.noted_there (of_request seen) (length seen.source.marks) opening request.0 inside.requests tables.requests request.1) in
      record {
        opening = opening;
        request = request.0;
        here = facts.directly_there known seen are place opening part.ExportList p begun;
        there = facts.directly_there known seen are request.0 opening part.ExportList noted.1 begun;
        is_request = noted.0;
      }

  pub from_there : (place : ℕ) → exports_from seen inside place ≡ true → ExportsFrom seen.source place
  from_there place e = from_by place (part_at seen place) refl e

  pub from_here : (place : ℕ) → place < length seen.source.marks → ExportsFrom seen.source place → exports_from seen inside place ≡ true
  from_here place before h =
      let stands = role_within seen.source h.request is.Request h.is_request in
      let here = facts.part_here known seen are place h.opening part.ExportList before h.here in
      let there = facts.part_here known seen are h.request h.opening part.ExportList stands h.there in
      let found = entries.noted_here (of_request seen) (length seen.source.marks) h.opening h.request inside.requests tables.requests stands
      (requested_here h.request h.opening h.is_request there) in
      ap (is_from seen inside) here
      ∙ and_from (is_list (begun_at seen.source h.opening)) (is_some (at inside.requests h.opening))
      (ap is_list (facts.directly_begun known seen are h.request h.opening part.ExportList h.there)) (ap is_some found.1)
