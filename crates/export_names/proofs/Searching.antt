-- A search, step by step.
use Rattle.std.proofs.Common.{◌≡◌, ℕ, ◌<◌, ◌+◌, ◌*◌, ◌^◌, inl, inr, ⊎_elim, Some, Bor, List, [], ◌∷◌, ◌++◌, length, refl, sym, ap, subst, ◌∙◌, arith}
use Rattle.std.specs.List.{All}
use Rattle.std.proofs.lemmas.List.Elements.{All-nil, All-pop}
use Rattle.std.proofs.lemmas.List.Sums.{sum_by-append}
use Rattle.pk_types.specs.declared.graph.Graph.{Graph}
use Rattle.pk_types.specs.declared.found.Found.{Found}
use Rattle.pk_types.specs.Resolving.{Pair, ResolvesTo}
use Rattle.export_names.specs.declared.step.Stars.{Stars}
use Rattle.export_names.specs.declared.step.Step.{Step}
use Rattle.export_names.specs.declared.step.Step.TheVariants as steps
use Rattle.export_names.specs.Searching.{StarsFit, IsWithin, unvisited, names_within, step_weight, AnswerLeadsTo, Asks, Returns, Yields, IsReady, waiting_weight, GoesOn, Joins}
use Rattle.export_names.proofs.PassedNames.{begins}
use Rattle.export_names.proofs.Returning.{first_last}

-- what is left of a search
abbrev pub left_over : Graph → List ℕ → List Pair → Step → List Stars → ℕ
left_over graph first before step waiting = unvisited before (length graph.rows) (names_within graph first) * 2 ^ 34 + step_weight step + waiting_weight waiting

-- where the step and those that wait lead to an answer, the search does
pub record IsSearch (graph : Graph) (number : ℕ) (first : List ℕ) (before : List Pair) (step : Step) (waiting : List Stars) : Type 0 where
  pub ready : IsReady graph first step waiting
  pub leads : (found : Found) (after : List Pair) → Yields graph before step waiting found after → ResolvesTo graph [] number first found after

pub starts : (graph : Graph) (number : ℕ) (name : Bor (List ℕ)) (first : List ℕ) (before : List Pair) (waiting : List Stars) → number < length graph.rows → name.now ≡ first → before ≡ [] → waiting ≡ []
    → IsSearch graph number first before (steps.Ask number name) waiting
starts graph number name first before waiting inside same none empty = record {
  ready = record {
    fits = inside;
    within = subst (λ n. IsWithin graph first n) (sym same) (begins graph first);
    waiting_fit = subst (All (StarsFit graph)) (sym empty) (All-nil (StarsFit graph));
    waiting_within = subst (All (λ s. IsWithin graph first (s.name.now))) (sym empty) (All-nil (λ s. IsWithin graph first (s.name.now)));
  };
  leads = λ found after yields.
      let returned : Returns graph (yields.1) (yields.0) [] found after = subst (λ l. Returns graph (yields.1) (yields.0) l found after) empty yields.3 in
      subst (λ a. ResolvesTo graph [] number first found a) returned.1
      (subst (λ f. ResolvesTo graph [] number first f (yields.1)) returned.0
      (subst (λ b. ResolvesTo graph b number first (yields.0) (yields.1)) none
      (subst (λ n. ResolvesTo graph before number n (yields.0) (yields.1)) same yields.2)));
}

module _ (graph : Graph) (number : ℕ) (first : List ℕ) (before : List Pair) where
  pub ends : (found : Found) (waiting : List Stars) → waiting ≡ [] → IsSearch graph number first before (steps.Answer found) waiting → ResolvesTo graph [] number first found before
  ends found waiting empty search = search.leads found before (found, before, (refl, refl), subst (λ l. Returns graph before found l found before) (sym empty) (refl, refl))

  module _ (waiting : List Stars) (asked : ℕ) (name : Bor (List ℕ)) (after : List Pair) (next : Step) (search : IsSearch graph number first before (steps.Ask asked name) waiting)
      (asks : Asks graph before asked (name.now) after next) where
    pub ask_on : IsSearch graph number first after next waiting
    ask_on = record {
      ready = record {
        fits = asks.fits;
        within = asks.within first search.ready.within;
        waiting_fit = search.ready.waiting_fit;
        waiting_within = search.ready.waiting_within;
      };
      leads = λ found last yields. search.leads found last (yields.0, yields.1, asks.leads yields.0 yields.1 yields.2, yields.3);
    }

    pub ask_less : left_over graph first after next waiting < left_over graph first before (steps.Ask asked name) waiting
    ask_less = omega (arith, asks.lighter first search.ready.within)

  module _ (old new : List Stars) (stars : Stars) (next : Step) (search : IsSearch graph number first before (steps.Stars stars) old) (goes : GoesOn graph stars old new next) where
    pub stars_on : IsSearch graph number first before next new
    stars_on = record {
      ready = goes.ready first search.ready;
      leads = λ found last yields. search.leads found last (goes.leads before found last yields);
    }

    pub stars_less : left_over graph first before next new < left_over graph first before (steps.Stars stars) old
    stars_less = omega (arith, goes.lighter)

  module _ (old new : List Stars) (stars : Stars) (found : Found) (next : Step) (popped : old ≡ new ++ stars ∷ []) (search : IsSearch graph number first before (steps.Answer found) old)
      (joins : Joins stars found next) where
    fits_all : All (StarsFit graph) new × StarsFit graph stars
    fits_all = All-pop (StarsFit graph) old new (Some stars) popped search.ready.waiting_fit

    within_all : All (λ s. IsWithin graph first (s.name.now)) new × IsWithin graph first (stars.name.now)
    within_all = All-pop (λ s. IsWithin graph first (s.name.now)) old new (Some stars) popped search.ready.waiting_within

    back : (value : Found) (last : List Pair) → (one : Found) × (between : List Pair) × AnswerLeadsTo graph before stars found one between × Returns graph between one new value last
        → ResolvesTo graph [] number first value last
    back value last h = search.leads value last (found, before, (refl, refl), subst (λ l. Returns graph before found l value last) (sym popped) (first_last graph new stars before found value last h))

    pub answer_on : IsSearch graph number first before next new
    answer_on = ⊎_elim
        (λ conflict. subst (λ n. IsSearch graph number first before n new) (sym conflict.1) (record {
          ready = record { fits = tt; within = tt; waiting_fit = fits_all.0; waiting_within = within_all.0 };
          leads = λ value last yields. let is = yields.2 in back value last (yields.0, yields.1, inl (conflict.0, sym is.0, is.1), yields.3);
        }))
        (λ agree. subst (λ n. IsSearch graph number first before n new) (sym agree.1) (record {
          ready = record {
            fits = record { places = fits_all.1.places; targets = fits_all.1.targets; few = fits_all.1.few };
            within = within_all.1;
            waiting_fit = fits_all.0;
            waiting_within = within_all.0;
          };
          leads = λ value last yields. back value last (yields.0, yields.1, inr (agree.0, yields.2), yields.3);
        }))
        joins

    weight_is : waiting_weight old ≡ waiting_weight new + (0 + (3 * length stars.stars.now + 2))
    weight_is = ap waiting_weight popped ∙ sum_by-append (λ s. 3 * length s.stars.now + 2) new (stars ∷ [])

    pub answer_less : left_over graph first before next new < left_over graph first before (steps.Answer found) old
    answer_less = ⊎_elim
        (λ conflict. omega (arith, ap step_weight conflict.1, weight_is))
        (λ agree. omega (arith, ap step_weight agree.1, weight_is))
        joins
