-- What is known, once what follows from a fact is known too.
use Rattle.std.proofs.Common.{◌≡◌, ⊎_elim, ℕ, ◌+◌, ◌<◌, ◌≤◌, List, [], ◌++◌, length, Contains, Some, slice_get, refl, sym, ap, subst, ◌∙◌, length-append, arith}
use Rattle.std.proofs.lemmas.Bool.{cases_eq}
use Rattle.std.proofs.lemmas.Option.{same_Some}
use Rattle.std.proofs.lemmas.List.Elements.{All-contains}
use Rattle.pk_text.specs.Places.{place_of}
use Rattle.pk_types.specs.declared.graph.Graph.{Graph}
use Rattle.pk_types.specs.declared.graph.Row.{Row}
use Rattle.pk_types.specs.Fitting.{Fits}
use Rattle.pk_types.specs.Use.{IsReached}
use Rattle.pk_types.proofs.Members.{element_at, at-Contains, at_front}
use Rattle.pk_types.proofs.Parts.{none_within}
use Rattle.export_usage.specs.declared.facts.Fact.{Fact}
use Rattle.export_usage.specs.declared.facts.Fact.TheVariants.{Reached, Exposed, Space, Used}
use Rattle.export_usage.specs.declared.facts.Facts.{Facts}
use Rattle.export_usage.specs.Claims.{Claim, KnowsOf, Holds, AreReached, AreTrue, Grows, Learns}
use Rattle.export_usage.specs.Rules.{FollowsReached, FollowsUsed, FollowsExposed, FollowsSpace, IsFollowed}
use Rattle.export_usage.specs.Spreading.{Spreads, IsAll}
use Rattle.export_usage.proofs.Learning.{fact_stays, claim_stays}
use Rattle.export_usage.proofs.OneName.{one_name, number_within}
use Rattle.export_usage.proofs.Truth.{reached_true, used_true, exposed_true, space_true}

module _ (graph : Graph) (fits : Fits graph) (old new : Facts) (are : AreTrue graph old) where
  pub spreads_reached : (number : ℕ) → KnowsOf old (Reached number) → ((row : Row) → slice_get graph.rows number ≡ Some row → Learns old (FollowsReached graph number row) new)
      → Spreads graph old (Reached number) new
  spreads_reached number known learns =
      let h = are (Reached number) known in
      let r = element_at graph.rows number h.0 in
      let l = learns r.0 r.1 in
      record { grows = l.grows; truth = l.truth graph are (reached_true graph fits number r.0 r.1 h.1); followed = (r.0, r.1, l.knows) }

  pub spreads_exposed : (number : ℕ) → KnowsOf old (Exposed number) → Learns old (FollowsExposed graph number) new → Spreads graph old (Exposed number) new
  spreads_exposed number known l =
      let h = are (Exposed number) known in
      record { grows = l.grows; truth = l.truth graph are (exposed_true graph fits number h.0 h.1); followed = l.knows }

  pub spreads_space : (number : ℕ) → KnowsOf old (Space number) → Learns old (FollowsSpace number) new → Spreads graph old (Space number) new
  spreads_space number known l =
      let h = are (Space number) known in
      record { grows = l.grows; truth = l.truth graph are (space_true graph fits number h.0 h.1); followed = l.knows }

  pub spreads_used : (number place : ℕ) (name : List ℕ) → KnowsOf old (Used number place) → place_of old.names name ≡ Some place
      → ((row : Row) → slice_get graph.rows number ≡ Some row → Learns old (FollowsUsed graph number row name) new) → Spreads graph old (Used number place) new
  spreads_used number place name known named learns =
      let h = are (Used number place) known in
      let r = element_at graph.rows number h.2.0 in
      let l = learns r.0 r.1 in
      let same = one_name old.names h.0 name place h.1 named in
      record {
        grows = l.grows;
        truth = l.truth graph are (used_true graph fits number r.0 r.1 name (subst (λ n. (Holds graph (Claim.is_used number n))) same h.2).1);
        followed = (name, r.0, l.grows.names name place named, r.1, l.knows);
      }

-- a name that is known to be used has a number
pub used_within : (graph : Graph) (facts : Facts) (number place : ℕ) → AreTrue graph facts → KnowsOf facts (Used number place) → place < length facts.names
used_within graph facts number place are known = let h = are (Used number place) known in number_within facts.names h.0 place h.1

pub still_followed : (graph : Graph) (old new : Facts) → Grows old new → (fact : Fact) → IsFollowed graph old fact → IsFollowed graph new fact
still_followed graph old new grows (Reached number) f = (f.0, f.1, λ claim follows. claim_stays old new grows claim (f.2 claim follows))
still_followed graph old new grows (Exposed number) f = λ claim follows. claim_stays old new grows claim (f claim follows)
still_followed graph old new grows (Space number) f = λ claim follows. claim_stays old new grows claim (f claim follows)
still_followed graph old new grows (Used number place) f =
    (f.0, f.1, grows.names f.0 place f.2, f.3, λ claim follows. claim_stays old new grows claim (f.4 claim follows))

-- ---- one fact after the other

pub record AreSpread (graph : Graph) (facts : Facts) (place : ℕ) : Type 0 where
  pub truth : AreTrue graph facts
  pub entries : (number : ℕ) → Contains graph.entries number → KnowsOf facts (Reached number)
  pub followed : (k : ℕ) (fact : Fact) → k < place → slice_get facts.known.keys k ≡ Some fact → IsFollowed graph facts fact
  pub within : place ≤ length facts.known.keys

module _ (graph : Graph) where
  pub begins : Fits graph → (none facts : Facts) → none.known.keys ≡ [] → Learns none (AreReached graph.entries) facts → AreSpread graph facts 0
  begins fits none facts empty learns = record {
    truth = learns.truth graph (λ fact m. none_within fact (subst (λ l. Contains l fact) empty m)) entry;
    entries = λ number m. learns.knows (Claim.is_reached number) (number, m, refl);
    followed = λ k fact h e. absurd (omega (arith, h));
    within = omega arith;
  }
    where
      entry : (claim : Claim) → AreReached graph.entries claim → Holds graph claim
      entry claim one = subst (Holds graph) one.2 (All-contains (λ n. n < length graph.rows) graph.entries one.0 fits.entries one.1, IsReached.entry one.0 one.1)

  module _ (facts : Facts) (place : ℕ) (are : AreSpread graph facts place) where
    pub goes_on : (new : Facts) (fact : Fact) → slice_get facts.known.keys place ≡ Some fact → place < length facts.known.keys → Spreads graph facts fact new
        → AreSpread graph new (place + 1)
    goes_on new fact at h spreads = record {
      truth = spreads.truth;
      entries = λ number m. fact_stays facts new spreads.grows (Reached number) (are.entries number m);
      followed = λ k other less e.
          let is : slice_get (facts.known.keys ++ spreads.grows.more) k ≡ Some other = subst (λ l. slice_get l k ≡ Some other) spreads.grows.behind e in
          let here : slice_get facts.known.keys k ≡ Some other = at_front facts.known.keys spreads.grows.more k other is (omega (arith, less, h)) in
          ⊎_elim
          (λ same. subst (IsFollowed graph new) (same_Some fact other (sym at ∙ ap (slice_get facts.known.keys) (sym same) ∙ here)) spreads.followed)
          (λ ne. still_followed graph facts new spreads.grows other (are.followed k other (omega (arith, less, ne)) here))
          (cases_eq k place);
      within = omega (arith, h, ap length spreads.grows.behind, length-append facts.known.keys spreads.grows.more);
    }

    pub is_all : length facts.known.keys ≤ place → IsAll graph facts
    is_all done = record {
      truth = are.truth;
      entries = are.entries;
      followed = λ fact m. are.followed m.0 fact (omega (arith, m.1, done)) (at-Contains facts.known.keys fact m);
    }
