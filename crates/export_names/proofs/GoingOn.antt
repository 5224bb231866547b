-- The stars of a module are asked one by one.
use Rattle.std.proofs.Common.{Bor, ◌≡◌, ◌≢◌, ℕ, ◌<◌, ◌+◌, ◌*◌, inl, inr, List, [], ◌∷◌, ◌++◌, length, Some, slice_get, get_or, refl, sym, ap, subst, arith}
use Rattle.std.specs.List.{All}
use Rattle.std.proofs.lemmas.Option.{slice_get-get_or}
use Rattle.std.proofs.lemmas.List.Elements.{All-head, All-tail, All-get_or, All-push}
use Rattle.std.proofs.lemmas.List.Sums.{sum_by-append}
use Rattle.pk_types.specs.declared.facts.Kind.{Kind}
use Rattle.pk_types.specs.declared.facts.Kind.TheVariants.{Es}
use Rattle.pk_types.specs.declared.graph.Graph.{Graph}
use Rattle.pk_types.specs.declared.found.Found.{Found}
use Rattle.pk_types.specs.Places.{ArePlacesIn}
use Rattle.pk_types.specs.Resolving.{Pair, kind_at, ResolvesTo, StarsLeadTo, ended, passed, joins, conflicts}
use Rattle.export_names.specs.declared.step.Stars.{Stars}
use Rattle.export_names.specs.declared.step.Step.TheVariants as steps
use Rattle.export_names.specs.Searching.{StarsFit, IsWithin, AnswerLeadsTo, Returns, waiting_weight, GoesOn}
use Rattle.export_names.proofs.Returning.{last_first}

-- the same, but for what is left of the stars
abbrev pub left_of : Stars → Bor (List ℕ) → Stars
left_of stars rest = record { targets = stars.targets; name = stars.name; stars = rest; so_far = stars.so_far }

empty : {A : Type 0} (items : List A) → length items ≡ 0 → items ≡ []
empty [] none = refl
empty (item ∷ items) none = absurd (omega (arith, none))

module _ (graph : Graph) (stars : Stars) (old : List Stars) where
  pub goes_end : length stars.stars.now ≡ 0 → GoesOn graph stars old old (steps.Answer stars.so_far)
  goes_end none = record {
    leads = λ before found after yields.
        let same = yields.2 in (
          yields.0,
          yields.1,
          subst (λ l. StarsLeadTo graph before (stars.targets.now) (stars.name.now) l stars.so_far yields.0 yields.1) (sym (empty (stars.stars.now) none))
              (subst (λ a. StarsLeadTo graph before (stars.targets.now) (stars.name.now) [] stars.so_far yields.0 a) same.1
              (subst (λ f. StarsLeadTo graph before (stars.targets.now) (stars.name.now) [] stars.so_far f before) same.0 (ended before (stars.targets.now) (stars.name.now) stars.so_far))),
          yields.3,
        );
    ready = λ first ready. record { fits = tt; within = tt; waiting_fit = ready.waiting_fit; waiting_within = ready.waiting_within };
    lighter = omega arith;
  }

  module _ (star : ℕ) (rest : Bor (List ℕ)) (cut : stars.stars.now ≡ star ∷ rest.now) (fits : StarsFit graph stars) where
    star_within : star < length stars.targets.now
    star_within = All-head (λ s. s < length stars.targets.now) star (rest.now) (subst (ArePlacesIn (stars.targets.now)) cut fits.places)

    pub target_within : get_or (stars.targets.now) star 0 < length graph.rows
    target_within = All-get_or (λ target. target < length graph.rows) (stars.targets.now) star 0 star_within fits.targets

    target_at : slice_get (stars.targets.now) star ≡ Some (get_or (stars.targets.now) star 0)
    target_at = slice_get-get_or (stars.targets.now) star 0 star_within

    left_fits : StarsFit graph (left_of stars rest)
    left_fits = record {
      places = All-tail (λ s. s < length stars.targets.now) star (rest.now) (subst (ArePlacesIn (stars.targets.now)) cut fits.places);
      targets = fits.targets;
      few = omega (arith, ap length cut, fits.few);
    }

    pub goes_past : (kind : Kind) → kind_at graph (get_or (stars.targets.now) star 0) ≡ Some kind → kind ≢ Es → GoesOn graph stars old old (steps.Stars (left_of stars rest))
    goes_past kind at not_es = record {
      leads = λ before found after yields. (
        yields.0,
        yields.1,
        subst (λ l. StarsLeadTo graph before (stars.targets.now) (stars.name.now) l stars.so_far yields.0 yields.1) (sym cut)
            (passed before (stars.targets.now) (stars.name.now) star (get_or (stars.targets.now) star 0) (rest.now) stars.so_far yields.0 yields.1 kind target_at at not_es yields.2),
        yields.3,
      );
      ready = λ first ready. record { fits = left_fits; within = ready.within; waiting_fit = ready.waiting_fit; waiting_within = ready.waiting_within };
      lighter = omega (arith, ap length cut);
    }

    asked : (before : List Pair) (one found : Found) (between after : List Pair) → kind_at graph (get_or (stars.targets.now) star 0) ≡ Some Es
        → ResolvesTo graph before (get_or (stars.targets.now) star 0) (stars.name.now) one between → AnswerLeadsTo graph between (left_of stars rest) one found after
        → StarsLeadTo graph before (stars.targets.now) (stars.name.now) (star ∷ rest.now) stars.so_far found after
    asked before one found between after at resolves (inl (conflict, ambiguous, same)) =
        subst (λ a. StarsLeadTo graph before (stars.targets.now) (stars.name.now) (star ∷ rest.now) stars.so_far found a) same
        (subst (λ f. StarsLeadTo graph before (stars.targets.now) (stars.name.now) (star ∷ rest.now) stars.so_far f between) (sym ambiguous)
        (conflicts before between (stars.targets.now) (stars.name.now) star (get_or (stars.targets.now) star 0) (rest.now) stars.so_far one target_at at resolves conflict))
    asked before one found between after at resolves (inr (agree, further)) =
        joins before between (stars.targets.now) (stars.name.now) star (get_or (stars.targets.now) star 0) (rest.now) stars.so_far one found after target_at at resolves agree further

    pub goes_in : (new : List Stars) → kind_at graph (get_or (stars.targets.now) star 0) ≡ Some Es → new ≡ old ++ left_of stars rest ∷ []
        → GoesOn graph stars old new (steps.Ask (get_or (stars.targets.now) star 0) stars.name)
    goes_in new at pushed = record {
      leads = λ before found after yields.
          let split = last_first graph old (left_of stars rest) (yields.1) (yields.0) found after (subst (λ l. Returns graph (yields.1) (yields.0) l found after) pushed yields.3) in (
            split.0,
            split.1,
            subst (λ l. StarsLeadTo graph before (stars.targets.now) (stars.name.now) l stars.so_far split.0 split.1) (sym cut)
                (asked before (yields.0) (split.0) (yields.1) (split.1) at yields.2 split.2),
            split.3,
          );
      ready = λ first ready. record {
        fits = target_within;
        within = ready.within;
        waiting_fit = subst (All (StarsFit graph)) (sym pushed) (All-push (StarsFit graph) old (left_of stars rest) ready.waiting_fit left_fits);
        waiting_within = subst (All (λ s. IsWithin graph first (s.name.now))) (sym pushed) (All-push (λ s. IsWithin graph first (s.name.now)) old (left_of stars rest) ready.waiting_within ready.within);
      };
      lighter = omega (arith, ap length cut, ap waiting_weight pushed, sum_by-append (λ s. 3 * length s.stars.now + 2) old (left_of stars rest ∷ []));
    }
