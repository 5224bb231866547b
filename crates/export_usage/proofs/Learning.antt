-- What is known, once more is.
use Rattle.std.proofs.Common.{◌≡◌, ◌↔◌, ◌⊎◌, inl, inr, ⊎_elim, ℕ, List, [], ◌∷◌, ◌++◌, Contains, Some, refl, sym, ap, subst, ◌∙◌, append-nil, append_assoc}
use Rattle.std.proofs.lemmas.List.Elements.{Contains-append_left, Contains-push, Contains-push_cases}
use Rattle.pk_text.specs.Places.{place_of}
use Rattle.pk_types.specs.declared.graph.Graph.{Graph}
use Rattle.pk_types.proofs.Parts.{none_within}
use Rattle.export_usage.specs.declared.facts.Fact.{Fact}
use Rattle.export_usage.specs.declared.facts.Fact.TheVariants.{Reached, Exposed, Space, Used}
use Rattle.export_usage.specs.declared.facts.Facts.{Facts}
use Rattle.export_usage.specs.Claims.{Claim, KnowsOf, Knows, Holds, HoldsAt, Grows, Learns, IsTheClaim}
use Rattle.export_usage.specs.Putting.{IsPut, Names}
use Rattle.export_usage.specs.Steps.{Each}

-- ---- what is known stays known

pub grows_none : (facts : Facts) → Grows facts facts
grows_none facts = record { more = []; behind = sym (append-nil facts.known.keys); names = λ name place e. e }

pub grows_then : (old between new : Facts) → Grows old between → Grows between new → Grows old new
grows_then old between new first second = record {
  more = first.more ++ second.more;
  behind = second.behind ∙ ap (λ l. l ++ second.more) first.behind ∙ append_assoc old.known.keys first.more second.more;
  names = λ name place e. second.names name place (first.names name place e);
}

module _ (old new : Facts) (grows : Grows old new) where
  pub fact_stays : (fact : Fact) → KnowsOf old fact → KnowsOf new fact
  fact_stays fact m = subst (λ l. Contains l fact) (sym grows.behind) (Contains-append_left old.known.keys grows.more fact m)

  pub claim_stays : (claim : Claim) → Knows old claim → Knows new claim
  claim_stays (Claim.is_reached number) k = fact_stays (Reached number) k
  claim_stays (Claim.is_exposed number) k = fact_stays (Exposed number) k
  claim_stays (Claim.is_space number) k = fact_stays (Space number) k
  claim_stays (Claim.is_used number name) k = (k.0, grows.names name k.0 k.1, fact_stays (Used number k.0) k.2)

-- what a fact says is the same where names keep their numbers
pub still_holds : (graph : Graph) (names more : List (List ℕ)) → ((name : List ℕ) (place : ℕ) → place_of names name ≡ Some place → place_of more name ≡ Some place)
    → (fact : Fact) → HoldsAt graph names fact → HoldsAt graph more fact
still_holds graph names more kept (Reached number) h = h
still_holds graph names more kept (Exposed number) h = h
still_holds graph names more kept (Space number) h = h
still_holds graph names more kept (Used number place) h = (h.0, kept h.0 place h.1, h.2)

-- ---- in turn

pub learns_none : (facts : Facts) (IsClaim : Claim → Type 0) → ((claim : Claim) → ¬ IsClaim claim) → Learns facts IsClaim facts
learns_none facts IsClaim none = record {
  grows = grows_none facts;
  knows = λ claim c. absurd (none claim c);
  truth = λ graph are holds. are;
}

pub learns_same : (old new : Facts) (IsClaim IsOther : Claim → Type 0) → Learns old IsClaim new → ((claim : Claim) → IsClaim claim ↔ IsOther claim) → Learns old IsOther new
learns_same old new IsClaim IsOther learns same = record {
  grows = learns.grows;
  knows = λ claim c. learns.knows claim ((same claim).1 c);
  truth = λ graph are holds. learns.truth graph are (λ claim c. holds claim ((same claim).0 c));
}

pub learns_then : (old between new : Facts) (IsClaim IsOther : Claim → Type 0) → Learns old IsClaim between → Learns between IsOther new
    → Learns old (λ claim. IsClaim claim ⊎ IsOther claim) new
learns_then old between new IsClaim IsOther first second = record {
  grows = grows_then old between new first.grows second.grows;
  knows = λ claim either. ⊎_elim (λ c. claim_stays between new second.grows claim (first.knows claim c)) (λ c. second.knows claim c) either;
  truth = λ graph are holds. second.truth graph (first.truth graph are (λ claim c. holds claim (inl c))) (λ claim c. holds claim (inr c));
}

-- ---- one fact

pub learns_one : (old new : Facts) (fact : Fact) (claim : Claim) → IsPut old fact new → Knows new claim → ((graph : Graph) → Holds graph claim → HoldsAt graph new.names fact)
    → Learns old (IsTheClaim claim) new
learns_one old new fact claim put known says = record {
  grows = record { more = put.more; behind = put.behind; names = λ name place e. subst (λ l. place_of l name ≡ Some place) (sym put.names) e };
  knows = λ other same. subst (Knows new) same known;
  truth = λ graph are holds other m. ⊎_elim
      (λ was. subst (λ l. HoldsAt graph l other) (sym put.names) (are other was))
      (λ same. subst (HoldsAt graph new.names) same (says graph (holds claim refl)))
      (put.only other m);
}

pub learns_used : (old between new : Facts) (number : ℕ) (name : List ℕ) (place : ℕ) → Names old name between place → IsPut between (Used number place) new
    → Learns old (IsTheClaim (Claim.is_used number name)) new
learns_used old between new number name place named put = record {
  grows = record {
    more = put.more;
    behind = put.behind ∙ ap (λ set. set.keys ++ put.more) named.known;
    names = kept;
  };
  knows = λ other same. subst (Knows new) same (place, subst (λ l. place_of l name ≡ Some place) (sym put.names) named.named, put.known);
  truth = λ graph are holds other m. ⊎_elim
      (λ was. still_holds graph old.names new.names kept other (are other (subst (λ set. Contains set.keys other) named.known was)))
      (λ same. subst (HoldsAt graph new.names) same
      (name, subst (λ l. place_of l name ≡ Some place) (sym put.names) named.named, holds (Claim.is_used number name) refl))
      (put.only other m);
}
  where
    kept : (other : List ℕ) (at : ℕ) → place_of old.names other ≡ Some at → place_of new.names other ≡ Some at
    kept other at e = subst (λ l. place_of l other ≡ Some at) (sym put.names) (named.kept other at e)

-- ---- one of a list after the other

module _ {A : Type 0} (Says : A → Claim → Type 0) where
  pub each_none : (facts : Facts) → Learns facts (Each Says []) facts
  each_none facts = learns_none facts (Each Says []) (λ claim one. none_within one.0 one.1)

  pub each_more : (old between new : Facts) (items more : List A) (item : A) → more ≡ items ++ item ∷ [] → Learns old (Each Says items) between
      → Learns between (Says item) new → Learns old (Each Says more) new
  each_more old between new items more item is first second = learns_same old new (λ claim. Each Says items claim ⊎ Says item claim) (Each Says more)
      (learns_then old between new (Each Says items) (Says item) first second)
      (λ claim. (
        λ either. ⊎_elim (λ one. (one.0, subst (λ l. Contains l one.0) (sym is) (Contains-append_left items (item ∷ []) one.0 one.1), one.2))
            (λ says. (item, subst (λ l. Contains l item) (sym is) (Contains-push items item), says)) either,
        λ one. ⊎_elim (λ was. inl (one.0, was, one.2)) (λ same. inr (subst (λ k. Says k claim) (sym same) one.2))
            (Contains-push_cases items item one.0 (subst (λ l. Contains l one.0) is one.1)),
      ))
