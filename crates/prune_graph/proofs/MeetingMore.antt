-- What is met, one after the other.
use Rattle.std.proofs.Common.{◌≡◌, ◌↔◌, ◌⊎◌, inl, inr, ⊎_elim, ℕ, ◌<◌, Bool, true, false, cond, nat_eq, List, [], ◌∷◌, ◌++◌, length, get_or, Contains, Some, slice_get, refl, sym, ap, subst, ◌∙◌, append-nil, append_assoc, arith}
use Rattle.std.specs.List.{All, list_any}
use Rattle.std.proofs.lemmas.Option.{same_Some}
use Rattle.std.proofs.lemmas.List.Elements.{Contains-append_left, Contains-push, Contains-push_cases}
use Rattle.std.proofs.lemmas.Map.Views.{Contains-from_any, exact_unsigned_eq}
use Rattle.indexmap.specs.IndexSet.{insert_key, insert_all}
use Rattle.pk_types.specs.declared.facts.Site.{Site}
use Rattle.pk_types.specs.declared.facts.SiteKind.{SiteKind}
use Rattle.pk_types.specs.declared.graph.Graph.{Graph}
use Rattle.pk_types.specs.declared.graph.Row.{Row}
use Rattle.pk_types.specs.Fitting.{RowFits}
use Rattle.pk_types.specs.Places.{ArePlacesIn}
use Rattle.pk_types.specs.Sites.{called_requests}
use Rattle.pk_types.proofs.Parts.{none_within, Contains-head, Contains-tail, Contains-cases}
use Rattle.prune_graph.specs.Meeting.{Meets, OneCalls}

pub meets_none : (known : List ℕ) (IsMet : ℕ → Type 0) → ((number : ℕ) → ¬ IsMet number) → Meets known IsMet known
meets_none known IsMet none = record {
  more = [];
  behind = sym (append-nil known);
  each = λ number. (λ m. inl m, λ either. ⊎_elim (λ m. m) (λ met. absurd (none number met)) either);
}

pub meets_same : (old new : List ℕ) (IsMet IsSeen : ℕ → Type 0) → Meets old IsMet new → ((number : ℕ) → IsMet number ↔ IsSeen number) → Meets old IsSeen new
meets_same old new IsMet IsSeen meets same = record {
  more = meets.more;
  behind = meets.behind;
  each = λ number. (
    λ m. ⊎_elim (λ was. inl was) (λ met. inr ((same number).0 met)) ((meets.each number).0 m),
    λ either. (meets.each number).1 (⊎_elim (λ was. inl was) (λ seen. inr ((same number).1 seen)) either),
  );
}

pub meets_then : (old between new : List ℕ) (IsMet IsSeen : ℕ → Type 0) → Meets old IsMet between → Meets between IsSeen new
    → Meets old (λ number. IsMet number ⊎ IsSeen number) new
meets_then old between new IsMet IsSeen first second = record {
  more = first.more ++ second.more;
  behind = second.behind ∙ ap (λ l. l ++ second.more) first.behind ∙ append_assoc old first.more second.more;
  each = λ number. (
    λ m. ⊎_elim (λ b. ⊎_elim (λ was. inl was) (λ met. inr (inl met)) ((first.each number).0 b)) (λ seen. inr (inr seen)) ((second.each number).0 m),
    λ either. (second.each number).1 (⊎_elim (λ was. inl ((first.each number).1 (inl was)))
        (λ one. ⊎_elim (λ met. inl ((first.each number).1 (inr met))) (λ seen. inr seen) one) either),
  );
}

pub meets_one : (known : List ℕ) (one : ℕ) → Meets known (λ number. one ≡ number) (insert_key nat_eq known one)
meets_one known one = by (list_any (nat_eq one) known) refl
  where
    by : (b : Bool) → list_any (nat_eq one) known ≡ b → Meets known (λ number. one ≡ number) (insert_key nat_eq known one)
    by true e = subst (Meets known (λ number. one ≡ number)) (sym (ap (λ b. cond b known (known ++ one ∷ [])) e)) (record {
      more = [];
      behind = sym (append-nil known);
      each = λ number. (
        λ m. inl m,
        λ either. ⊎_elim (λ m. m) (λ same. subst (Contains known) same (Contains-from_any exact_unsigned_eq one known e)) either,
      );
    })
    by false e = subst (Meets known (λ number. one ≡ number)) (sym (ap (λ b. cond b known (known ++ one ∷ [])) e)) (record {
      more = one ∷ [];
      behind = refl;
      each = λ number. (
        λ m. Contains-push_cases known one number m,
        λ either. ⊎_elim (λ m. Contains-append_left known (one ∷ []) number m) (λ same. subst (Contains (known ++ one ∷ [])) same (Contains-push known one)) either,
      );
    })

pub meets_all : (numbers known : List ℕ) → Meets known (Contains numbers) (insert_all nat_eq known numbers)
meets_all [] known = meets_none known (Contains []) (λ number m. none_within number m)
meets_all (first ∷ numbers) known = meets_same known (insert_all nat_eq known (first ∷ numbers)) (λ number. (first ≡ number) ⊎ Contains numbers number) (Contains (first ∷ numbers))
    (meets_then known (insert_key nat_eq known first) (insert_all nat_eq known (first ∷ numbers)) (λ number. first ≡ number) (Contains numbers) (meets_one known first)
    (meets_all numbers (insert_key nat_eq known first)))
    (λ number. (
      λ either. ⊎_elim (λ same. subst (Contains (first ∷ numbers)) same (Contains-head first numbers)) (λ m. Contains-tail first numbers number m) either,
      λ m. Contains-cases first numbers number m,
    ))

-- ---- calls

-- a request that a site calls for has a target
pub call_within : (targets : List ℕ) (sites : List Site) (place : ℕ) (site : Site) (request : ℕ) → All (λ site. ArePlacesIn targets (called_requests site.kind)) sites
    → place < length sites → site ≡ get_or sites place site → called_requests site.kind ≡ request ∷ [] → request < length targets
call_within targets sites place site request all h is one =
    subst (λ requests. ArePlacesIn targets requests) one (subst (λ s. ArePlacesIn targets (called_requests s.kind)) (sym is) (all place site h)) 0 0 (omega arith)

pub calls_have_targets : (graph : Graph) (row : Row) → RowFits graph row → All (λ site. ArePlacesIn row.targets (called_requests site.kind)) row.facts.sites
calls_have_targets graph row fits = λ k d h j e within. subst (λ count. get_or (called_requests (get_or row.facts.sites k d).kind) j e < count) (sym fits.each)
    (fits.facts.places.site_calls k d h j e within)

pub meets_no_calls : (known targets : List ℕ) → Meets known (OneCalls targets []) known
meets_no_calls known targets = meets_none known (OneCalls targets []) (λ number one. none_within one.0 one.2)

module _ (targets : List ℕ) (kinds more : List SiteKind) (kind : SiteKind) (is : more ≡ kinds ++ kind ∷ []) where
  before_or : (one : SiteKind) → Contains more one → Contains kinds one ⊎ (kind ≡ one)
  before_or one m = Contains-push_cases kinds kind one (subst (λ l. Contains l one) is m)

  before : (one : SiteKind) → Contains kinds one → Contains more one
  before one m = subst (λ l. Contains l one) (sym is) (Contains-append_left kinds (kind ∷ []) one m)

  pub one_call_more : (old between new : List ℕ) (request target : ℕ) → called_requests kind ≡ request ∷ [] → slice_get targets request ≡ Some target
      → Meets old (OneCalls targets kinds) between → new ≡ insert_key nat_eq between target → Meets old (OneCalls targets more) new
  one_call_more old between new request target calls t meets put = meets_same old new (λ number. OneCalls targets kinds number ⊎ (target ≡ number)) (OneCalls targets more)
      (meets_then old between new (OneCalls targets kinds) (λ number. target ≡ number) meets (subst (Meets between (λ number. target ≡ number)) (sym put) (meets_one between target)))
      (λ number. (
        λ either. ⊎_elim (λ one. (one.0, one.1, before one.0 one.2, one.3, one.4))
            (λ same. (kind, request, subst (λ l. Contains l kind) (sym is) (Contains-push kinds kind), calls, t ∙ ap Some same)) either,
        λ one. ⊎_elim (λ was. inl (one.0, one.1, was, one.3, one.4))
            (λ same.
            let requests : request ≡ one.1 = same_request request one.1 (sym calls ∙ ap called_requests same ∙ one.3) in
            inr (same_Some target number (sym t ∙ ap (slice_get targets) requests ∙ one.4)))
            (before_or one.0 one.2),
      ))
    where
      same_request : (a b : ℕ) → a ∷ [] ≡ b ∷ [] → a ≡ b
      same_request a b e = cc

  pub no_call_more : (old new : List ℕ) → called_requests kind ≡ [] → Meets old (OneCalls targets kinds) new → Meets old (OneCalls targets more) new
  no_call_more old new none meets = meets_same old new (OneCalls targets kinds) (OneCalls targets more) meets
      (λ number. (
        λ one. (one.0, one.1, before one.0 one.2, one.3, one.4),
        λ one. ⊎_elim (λ was. (one.0, one.1, was, one.3, one.4))
            (λ same. absurd (no_request one.1 (sym none ∙ ap called_requests same ∙ one.3)))
            (before_or one.0 one.2),
      ))
    where
      no_request : (a : ℕ) → [] ≡ a ∷ [] → ⊥
      no_request a e = cc
