-- The requests of declarations: each stands in the order, once, and is an `import`.
use Rattle.std.proofs.Common.{◌≡◌, ◌≢◌, ◌⊎◌, ⊎_elim, ℕ, zero, suc, ◌<◌, ◌≤◌, true, false, List, Some, slice_get, nat_eq, refl, sym, ap, subst, ◌∙◌, arith}
use Rattle.std.specs.Prelude.{IfSome}
use Rattle.std.specs.List.{All, Contains, IsDistinct}
use Rattle.std.proofs.lemmas.Bool.{false_from_ne_true}
use Rattle.std.proofs.lemmas.Map.Views.{exact_unsigned_eq}
use Rattle.std.proofs.lemmas.Option.{same_Some}
use Rattle.pk_types.proofs.ListMembers.{in_or_not}
use Rattle.es_outline.specs.declared.mark.Role.TheVariants as is
use Rattle.pk_types.specs.declared.form.Form.TheVariants as form
use Rattle.pk_types.specs.declared.facts.Request.{Request}
use Rattle.es_scope.specs.Source.{Source, HasRole}
use Rattle.es_scope.specs.Listed.{AreThose}
use Rattle.es_scope.specs.Asking.{AsksFor, AsksFirst, IsString, RequestOf}
use Rattle.es_scope.specs.FactsOf.{IsOrdered}
use Rattle.es_asks.proofs.TextLaws.{string_there}
use Rattle.facts_laws.proofs.Listing.{item_place, later, item_there, items_differ, all_items}
use Rattle.facts_laws.proofs.Marks.{one_role, no_name}

module _ (source : Source) where
  -- what a declaration asks for
  same_text : (place : ℕ) (value other : List ℕ) → IsString source place value → IsString source place other → value ≡ other
  same_text place value other h i = sym (string_there source place value h).1 ∙ (string_there source place other i).1

  no_call : (place : ℕ) → HasRole source place is.Request → ¬ HasRole source place is.ImportCall
  no_call place role call = let same = one_role source place is.Request is.ImportCall role call in cc

  declared_form : (place : ℕ) (request : Request) → HasRole source place is.Request → AsksFor source place request → request.form ≡ form.Import
  declared_form place _ role (AsksFor.declared value h s not_json) = refl
  declared_form place _ role (AsksFor.json value h s json) = refl
  declared_form place _ role (AsksFor.imported value right h) = refl
  declared_form place _ role (AsksFor.required value right script h) = absurd (no_name source place is.Request refl role h.free.0.occurs)

  -- a declaration asks for one request
  one_declared : (place : ℕ) (request other : Request) → HasRole source place is.Request → AsksFor source place request → AsksFor source place other
      → request ≡ other
  one_declared place _ _ role (AsksFor.declared value h s not_json) (AsksFor.declared further i t not_also) =
      ap (λ (text : List ℕ). record { text = text; form = form.Import; json = false }) (same_text place value further s t)
  one_declared place _ _ role (AsksFor.declared value h s not_json) (AsksFor.json further i t json) = absurd (not_json json)
  one_declared place _ _ role (AsksFor.json value h s json) (AsksFor.declared further i t not_json) = absurd (not_json json)
  one_declared place _ _ role (AsksFor.json value h s json) (AsksFor.json further i t also) =
      ap (λ (text : List ℕ). record { text = text; form = form.Import; json = true }) (same_text place value further s t)
  one_declared place _ _ role (AsksFor.imported value right h) _ = absurd (no_call place role h.word)
  one_declared place _ _ role _ (AsksFor.imported value right h) = absurd (no_call place role h.word)
  one_declared place _ _ role (AsksFor.required value right script h) _ = absurd (no_name source place is.Request refl role h.free.0.occurs)
  one_declared place _ _ role _ (AsksFor.required value right script h) = absurd (no_name source place is.Request refl role h.free.0.occurs)

  module _ (requests : List Request) (those : AreThose (AsksFirst source) requests) where
    -- of two numbers of a request neither is less
    not_less : (number other : ℕ) (request : Request) → slice_get requests number ≡ Some request → slice_get requests other ≡ Some request → ¬ (number < other)
    not_less number other request e f less =
        let one = item_place (AsksFirst source) requests those number request e in
        let two = item_place (AsksFirst source) requests those other request f in
        let before = later (AsksFirst source) requests those number other one.0 two.0 less one.1 two.1 in
        let first = two.2.first one.0 one.2.asks in
        ⊎_elim (λ (less : two.0 < one.0). omega arith) (λ (same : two.0 ≡ one.0). omega arith) first

    -- a request has one number
    pub one_number : (number other : ℕ) (request : Request) → slice_get requests number ≡ Some request → slice_get requests other ≡ Some request → number ≡ other
    one_number number other request e f = by number other (not_less number other request e f) (not_less other number request f e)
      where
        cases : (a b : ℕ) → (a < b) ⊎ ((b < a) ⊎ (a ≡ b))
        cases a b = grind arith

        by : (a b : ℕ) → ¬ (a < b) → ¬ (b < a) → a ≡ b
        by a b h i = ⊎_elim (λ less. absurd (h less)) (λ rest. ⊎_elim (λ more. absurd (i more)) (λ same. same) rest) (cases a b)

    -- one declaration stands first for one number
    one_ordered : (place number other : ℕ) → IsOrdered source requests place number → IsOrdered source requests place other → other ≡ number
    one_ordered place number other h i =
        let same = one_declared place i.request h.request h.is_request i.asks h.asks in
        one_number other number h.request (i.has_number ∙ ap (λ (r : Request). Some r) same) h.has_number

    module _ (order : List ℕ) (ordered : AreThose (IsOrdered source requests) order) where
      -- where a request is not in the order, no declaration asks for it
      none_below : (limit number place : ℕ) (request : Request) → slice_get requests number ≡ Some request → ¬ Contains order number → place < limit
          → HasRole source place is.Request → ¬ AsksFor source place request
      none_below zero number place request e absent less role asks = omega arith
      none_below (suc limit) number place request e absent less role asks =
          let first : IsOrdered source requests place number = record {
            request = request;
            has_number = e;
            is_request = role;
            asks = asks;
            first = λ other also further. ⊎_elim (λ before. absurd (none_below limit number other request e absent (omega arith) also further))
                (λ not_before. not_before) (cases other place);
          } in
          absent (item_there (IsOrdered source requests) order ordered place number first (λ other h. one_ordered place number other first h))
        where
          cases : (a b : ℕ) → (a < b) ⊎ (b ≤ a)
          cases a b = grind arith

      -- the request of a declaration is in the order
      pub is_ordered : (place number : ℕ) (request : Request) → slice_get requests number ≡ Some request → RequestOf source place request → Contains order number
      is_ordered place number request e h = ⊎_elim (λ there. there)
          (λ absent. absurd (none_below (suc h.at) number h.at request e absent (omega arith) h.is_request h.asks)) (in_or_not order number)

      -- no number is in it twice
      twice : (place other number further : ℕ) → place < other → IsOrdered source requests place number → IsOrdered source requests other further
          → number ≢ further
      twice place other number further less h i same =
          let one = same_Some h.request i.request (sym h.has_number ∙ ap (slice_get requests) same ∙ i.has_number) in
          let not_after = i.first place h.is_request (subst (AsksFor source place) one h.asks) in
          omega arith

      pub order_differs : IsDistinct nat_eq order
      order_differs = items_differ (IsOrdered source requests) order ordered nat_eq
          (λ place other number further less h i.
          false_from_ne_true (nat_eq number further) (λ e. twice place other number further less h i (exact_unsigned_eq number further e)))

      -- and each is an `import`
      pub order_imported : All (λ number. IfSome (slice_get requests number) (λ request. request.form ≡ form.Import)) order
      order_imported = all_items (IsOrdered source requests) order ordered (λ number. IfSome (slice_get requests number) (λ request. request.form ≡ form.Import))
          (λ place number h. subst (λ found. IfSome found (λ (request : Request). request.form ≡ form.Import)) (sym h.has_number)
          (declared_form place h.request h.is_request h.asks))
