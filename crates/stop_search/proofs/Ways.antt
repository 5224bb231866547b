-- What the way of a name from a module comes to: the stops that were found, and what waits.
use Rattle.std.proofs.Common.{◌≡◌, ◌<◌, inl, inr, ℕ, List, [], ◌∷◌, ◌++◌, length, Contains, Some, slice_get, slice_index, get_or, option_map, sym, ap, subst, ◌∙◌, append-nil, arith}
use Rattle.std.specs.List.{All}
use Rattle.std.proofs.lemmas.Option.{same_Some, none-some, slice_get-get_or, slice_get_within, get_or_from_slice_get}
use Rattle.std.proofs.lemmas.List.Elements.{All-nil, All-cons, All-push, All-get_or, All-from_get_or, Contains-get_or}
use Rattle.pk_types.specs.declared.facts.Kind.TheVariants.{Es}
use Rattle.pk_types.specs.declared.facts.Origin.TheVariants.{Other}
use Rattle.pk_types.specs.declared.found.Found.{Found}
use Rattle.pk_types.specs.declared.graph.Graph.{Graph}
use Rattle.pk_types.specs.declared.graph.Row.{Row}
use Rattle.pk_types.specs.Places.{ArePlacesIn, IsShort}
use Rattle.pk_types.specs.Resolving.{Pair, origin_of, Resolves}
use Rattle.pk_types.specs.Reexports.{FindsOne, IsFoundThrough}
use Rattle.pk_types.specs.Stops.{IsPassed}
use Rattle.pk_types.specs.StopSearch.{StopsAt, AreFoundThrough}
use Rattle.pk_types.proofs.OneAnswer.{resolves_once}
use Rattle.pk_types.proofs.Stops.{own_other, other_space, same_other}
use Rattle.pk_types.proofs.Parts.{Contains-head, Contains-tail}
use Rattle.graph_laws.proofs.FoundWays.{LeadsOn, leads_on, finds_there}
use Rattle.export_names.specs.Searching.{IsWithin}
use Rattle.export_names.proofs.PassedNames.{passed_on}
use Rattle.stop_search.specs.Ways.{IsSkipped, IsOpen, GoesTo, GoesOn}
use Rattle.stop_search.specs.Searching.{stack_of, IsAsked, Follows}
use Rattle.stop_search.proofs.Waiting.{stars_of_stack, count_of_stack, pending_one}

module _ (graph : Graph) (found : Found) where
  -- the name leads to the same thing behind a module that passes it on by name
  behind_name : (row : Row) (request target : ℕ) (other : List ℕ) (number : ℕ) (name : List ℕ) → IsSkipped graph number row
      → origin_of row.facts name ≡ Some (Other request other) → slice_get row.targets request ≡ Some target → LeadsOn graph found number name
      → FindsOne graph target other found
  behind_name row request target other _ _ s o t (LeadsOn.foreign number name kind f k n e) =
      absurd (n (same_Some kind Es (sym k ∙ ap (option_map (λ r. r.facts.kind)) s.at ∙ ap Some s.kind)))
  behind_name row request target other _ _ s o t (LeadsOn.own number name also binding f r p e) =
      absurd (own_other binding request other o (ap (λ w. origin_of w.facts name) (same_Some row also (sym s.at ∙ r.at)) ∙ p))
  behind_name row request target other _ _ s o t (LeadsOn.space number name also place there f r p u e) =
      absurd (other_space place request other (ap (λ w. origin_of w.facts name) (same_Some row also (sym s.at ∙ r.at)) ∙ p) o)
  behind_name row request target other _ _ s o t (LeadsOn.by_name number name also place there named f r p u l) =
      let same = same_Some row also (sym s.at ∙ r.at) in
      let q = same_other place request named other (ap (λ w. origin_of w.facts name) same ∙ p) o in
      let to : there ≡ target = same_Some there target (sym u ∙ ap (slice_get also.targets) q.0 ∙ ap (λ w. slice_get w.targets request) (sym same) ∙ t) in
      subst (λ k. FindsOne graph k other found) to (subst (λ w. FindsOne graph there w found) q.1 (finds_there graph found there named l))
  behind_name row request target other _ _ s o t (LeadsOn.by_star number name also star there f r g u l) =
      absurd (none-some (Other request other) (sym g.none ∙ ap (λ w. origin_of w.facts name) (sym (same_Some row also (sym s.at ∙ r.at))) ∙ o))

  -- those that wait for the stars through which the name is found
  ready_stack : (first : List ℕ) (number : ℕ) (row : Row) (name : List ℕ) (stars : List ℕ) → ArePlacesIn graph.rows row.targets → IsWithin graph first name
      → FindsOne graph number name found → ((star : ℕ) → Contains stars star → IsFoundThrough graph number row name star)
      → All (IsAsked graph found first) (stack_of row.targets name stars)
  ready_stack first number row name [] inside within finds each = All-nil (IsAsked graph found first)
  ready_stack first number row name (star ∷ stars) inside within finds each =
      let f = each star (Contains-head star stars) in
      let to = sym (get_or_from_slice_get row.targets star f.target 0 f.leads) in
      All-push (IsAsked graph found first) (stack_of row.targets name stars) ((slice_index row.targets star, name))
      (ready_stack first number row name stars inside within finds (λ other m. each other (Contains-tail star stars other m)))
      (record {
        number_within = All-get_or (λ k. k < length graph.rows) row.targets star 0 (slice_get_within row.targets star f.target f.leads) inside;
        finds = record {
          resolves = subst (λ k. Resolves graph k name found) to
              (subst (Resolves graph f.target name) (resolves_once graph number name f.found found f.here.resolves finds.resolves) f.there);
          something = finds.something;
          one = finds.one;
        };
        within = within;
      })

  pub places_of_stars : (number : ℕ) (row : Row) (name stars : List ℕ) → AreFoundThrough graph number row name stars → ArePlacesIn row.targets stars
  places_of_stars number row name stars through =
      All-from_get_or (λ k. k < length row.targets) stars 0
      (λ i h. let f = (through.each (get_or stars i 0)).0 (Contains-get_or stars i 0 h) in slice_get_within row.targets (get_or stars i 0) f.target f.leads)

  leads_to : (number : ℕ) (row : Row) (name : List ℕ) (star : ℕ) → IsFoundThrough graph number row name star
      → slice_get row.targets star ≡ Some (slice_index row.targets star)
  leads_to number row name star f = slice_get-get_or row.targets star 0 (slice_get_within row.targets star f.target f.leads)

module _ (graph : Graph) (found : Found) (asked : Pair) (old : List Pair) (stops : List ℕ) (finds : FindsOne graph asked.0 asked.1 found) where
  is_passed : (row : Row) → IsSkipped graph asked.0 row → IsPassed graph asked.0 asked.1 row
  is_passed row skipped = record { at = skipped.at; found = found; finds = finds; flagged = skipped.flagged; kind = skipped.kind }

  -- the name has a stop here
  pub ends_there : (stop : ℕ) (new : List Pair) (more : List ℕ) → new ≡ old → more ≡ stops ++ stop ∷ [] → GoesTo graph asked.0 asked.1 stop
      → Follows graph found asked old new stops more
  ends_there stop new more w s goes = record {
    pushed = [];
    waiting = w ∙ sym (append-nil old);
    done = stop ∷ [];
    stops_are = s;
    leads = λ before fresh rest after p.
        subst (StopsAt graph before asked.0 asked.1 (stop ∷ rest)) p.1
        (subst (λ l. StopsAt graph before asked.0 asked.1 (stop ∷ l) (before ++ asked ∷ [])) (sym p.0)
        (elim goes.2 [
          | inl e ↦ subst (λ k. StopsAt graph before asked.0 asked.1 (k ∷ []) (before ++ asked ∷ [])) e.1
              (StopsAt.here before asked.0 asked.1 goes.0 found fresh goes.1 finds e.0)
          | inr h ↦ StopsAt.namespace before asked.0 asked.1 goes.0 h.1.0 stop fresh (is_passed goes.0 h.0) h.1.1 h.1.2
        ]));
    ready = λ first h. All-nil (IsAsked graph found first);
    few = omega arith;
  }

  pub goes_on : (behind : Pair) (new : List Pair) (more : List ℕ) → new ≡ old ++ behind ∷ [] → more ≡ stops → behind.0 < length graph.rows
      → GoesOn graph asked.0 asked.1 behind.0 behind.1 → Follows graph found asked old new stops more
  goes_on behind new more w s inside goes = record {
    pushed = behind ∷ [];
    waiting = w;
    done = [];
    stops_are = s ∙ sym (append-nil stops);
    leads = λ before fresh rest after p.
        StopsAt.by_name before asked.0 asked.1 goes.0 goes.2.0 behind.0 behind.1 rest after fresh (is_passed goes.0 goes.1) goes.2.1 goes.2.2
        (pending_one graph (before ++ asked ∷ []) behind rest after p);
    ready = λ first h. All-cons (IsAsked graph found first) behind []
        (record {
          number_within = inside;
          finds = behind_name graph found goes.0 goes.2.0 behind.0 behind.1 asked.0 asked.1 goes.1 goes.2.1 goes.2.2 (leads_on graph asked.0 asked.1 found finds);
          within = passed_on graph asked.0 goes.2.0 behind.1 asked.1 goes.0 goes.1.at goes.2.1 first;
        })
        (All-nil (IsAsked graph found first));
    few = omega arith;
  }

  pub by_stars : (stars : List ℕ) (new : List Pair) (more : List ℕ) (bare : IsOpen graph asked.0 asked.1) → new ≡ old ++ stack_of bare.0.targets asked.1 stars
      → more ≡ stops → ArePlacesIn graph.rows bare.0.targets → AreFoundThrough graph asked.0 bare.0 asked.1 stars → IsShort stars
      → Follows graph found asked old new stops more
  by_stars stars new more bare w s inside through few = record {
    pushed = stack_of bare.0.targets asked.1 stars;
    waiting = w;
    done = [];
    stops_are = s ∙ sym (append-nil stops);
    leads = λ before fresh rest after p.
        StopsAt.by_stars before asked.0 asked.1 bare.0 stars rest after fresh (is_passed bare.0 bare.1) bare.2 through
        (stars_of_stack graph bare.0.targets asked.1 stars (before ++ asked ∷ []) rest after
        (λ star m. leads_to graph found asked.0 bare.0 asked.1 star ((through.each star).0 m)) p);
    ready = λ first h. ready_stack graph found first asked.0 bare.0 asked.1 stars inside h finds (λ star m. (through.each star).0 m);
    few = omega (arith, few, count_of_stack bare.0.targets asked.1 stars);
  }
