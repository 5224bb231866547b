-- The search for the stops of a name finds exactly its stops.
use Rattle.std.proofs.Common.{◌≡◌, ◌⊎◌, inl, inr, ℕ, true≢false, true, List, [], ◌∷◌, ◌++◌, Contains, Option, Some, slice_get, refl, sym, ap, subst, subst₂, ◌∙◌, arith}
use Rattle.std.proofs.lemmas.Option.{none-some, same_Some}
use Rattle.std.proofs.lemmas.List.Elements.{Contains-append_left, Contains-append_right, Contains-append_cases, Contains-push, Contains-push_cases}
use Rattle.pk_types.specs.declared.facts.Kind.TheVariants.{Es}
use Rattle.pk_types.specs.declared.facts.Origin.{Origin}
use Rattle.pk_types.specs.declared.facts.Origin.TheVariants.{Own, Other, Space}
use Rattle.pk_types.specs.declared.graph.Graph.{Graph}
use Rattle.pk_types.specs.declared.graph.Row.{Row}
use Rattle.pk_types.specs.declared.found.Found.{Found}
use Rattle.pk_types.specs.declared.found.Found.TheVariants.{Nothing, Ambiguous}
use Rattle.pk_types.specs.Resolving.{Pair, origin_of, Resolves}
use Rattle.pk_types.specs.Reexports.{FindsOne, IsFoundThrough}
use Rattle.pk_types.specs.Stops.{EndsAt, IsStopOf}
use Rattle.pk_types.specs.StopSearch.{StopsAt, StarsStopAt, HasStops}
use Rattle.pk_types.proofs.OneAnswer.{resolves_once}
use Rattle.pk_types.proofs.Parts.{Contains-one, one_only, none_within}

-- an origin is one alone
pub own_other : {o : Option Origin} (binding request : ℕ) (name : List ℕ) → o ≡ Some (Other request name) → o ≡ Some (Own binding) → ⊥
own_other binding request name e f = grind arith

pub own_space : {o : Option Origin} (binding request : ℕ) → o ≡ Some (Space request) → o ≡ Some (Own binding) → ⊥
own_space binding request e f = grind arith

pub other_space : {o : Option Origin} (request place : ℕ) (name : List ℕ) → o ≡ Some (Space request) → o ≡ Some (Other place name) → ⊥
other_space request place name e f = grind arith

pub same_space : {o : Option Origin} (request place : ℕ) → o ≡ Some (Space request) → o ≡ Some (Space place) → request ≡ place
same_space request place e f = grind arith

pub same_other : {o : Option Origin} (request place : ℕ) (name other : List ℕ) → o ≡ Some (Other request name) → o ≡ Some (Other place other)
    → (request ≡ place) × (name ≡ other)
same_other request place name other e f = grind arith

-- a module that is skipped is no end
pub not_end : (row : Row) (name : List ℕ) → row.flagged ≡ true → row.facts.kind ≡ Es → ((binding : ℕ) → origin_of row.facts name ≡ Some (Own binding) → ⊥)
    → EndsAt row name → ⊥
not_end row name flagged kind lacks (inl e) = absurd (true≢false (sym flagged ∙ e))
not_end row name flagged kind lacks (inr (inl e)) = absurd (e kind)
not_end row name flagged kind lacks (inr (inr o)) = lacks o.0 o.1

module _ (graph : Graph) where
  mutual
    -- what the search finds is a stop
    pub found_is_stop : (before after : List Pair) (number : ℕ) (name stops : List ℕ) → StopsAt graph before number name stops after
        → (stop : ℕ) → Contains stops stop → IsStopOf graph number name stop
    found_is_stop _ _ _ _ _ (StopsAt.gone before number name c) stop m = none_within stop m
    found_is_stop _ _ _ _ _ (StopsAt.lost before number name found first r l) stop m = none_within stop m
    found_is_stop _ _ _ _ _ (StopsAt.here before number name row found first at finds e) stop m =
        subst (IsStopOf graph number name) (one_only number stop m) (IsStopOf.here number name row found at finds e)
    found_is_stop _ _ _ _ _ (StopsAt.namespace before number name row request target first p o t) stop m =
        subst (IsStopOf graph number name) (one_only target stop m) (IsStopOf.namespace number name row request target p o t)
    found_is_stop _ _ _ _ _ (StopsAt.by_name before number name row request target other stops after first p o t d) stop m =
        IsStopOf.by_name number name row request target other stop p o t
        (found_is_stop (before ++ (number, name) ∷ []) after target other stops d stop m)
    found_is_stop _ _ _ _ _ (StopsAt.by_stars before number name row stars stops after first p o a d) stop m =
        let f = found_by_star (before ++ (number, name) ∷ []) after row.targets name stars stops d stop m in
        IsStopOf.by_star number name row f.0 f.1 stop p ((a.each f.0).0 f.2) f.3 f.4

    found_by_star : (before after : List Pair) (targets name stars stops : List ℕ) → StarsStopAt graph before targets name stars stops after
        → (stop : ℕ) → Contains stops stop
        → (star : ℕ) × (target : ℕ) × Contains stars star × (slice_get targets star ≡ Some target) × IsStopOf graph target name stop
    found_by_star _ _ _ _ _ _ (StarsStopAt.ended before targets name) stop m = none_within stop m
    found_by_star _ _ _ _ _ _ (StarsStopAt.next before between after targets name star target stars stops more t d e) stop m =
        elim (Contains-append_cases stops more stop m) [
          | inl c ↦ (star, target, (0, omega arith, refl), t, found_is_stop before between target name stops d stop c)
          | inr c ↦ let f = found_by_star between after targets name stars more e stop c in
              (f.0, f.1, Contains-append_right (star ∷ []) stars f.0 f.2, f.3, f.4)
        ]

  -- what follows from a pair that was gone through, where its module has this row: its stops are found, and so are the pairs behind it gone through
  record SettledAt (stops : List ℕ) (after : List Pair) (number : ℕ) (name : List ℕ) (row : Row) : Type 0 where
    ends : EndsAt row name → Contains stops number
    space : (request target : ℕ) → row.flagged ≡ true → row.facts.kind ≡ Es → origin_of row.facts name ≡ Some (Space request)
        → slice_get row.targets request ≡ Some target → Contains stops target
    named : (request target : ℕ) (other : List ℕ) → row.flagged ≡ true → row.facts.kind ≡ Es → origin_of row.facts name ≡ Some (Other request other)
        → slice_get row.targets request ≡ Some target → Contains after (target, other)
    starred : (star target : ℕ) → row.flagged ≡ true → row.facts.kind ≡ Es → IsFoundThrough graph number row name star
        → slice_get row.targets star ≡ Some target → Contains after (target, name)

  abbrev Settled : List ℕ → List Pair → ℕ → List ℕ → Type 0
  Settled stops after number name = (row : Row) (found : Found) → slice_get graph.rows number ≡ Some row → FindsOne graph number name found
      → SettledAt stops after number name row

  record Covers (before : List Pair) (stops : List ℕ) (after : List Pair) : Type 0 where
    grows : (number : ℕ) (name : List ℕ) → Contains before (number, name) → Contains after (number, name)
    each : (number : ℕ) (name : List ℕ) → Contains after (number, name) → Contains before (number, name) ⊎ Settled stops after number name

  more_settled : (stops more : List ℕ) (between after : List Pair) (number : ℕ) (name : List ℕ)
      → ((stop : ℕ) → Contains stops stop → Contains more stop)
      → ((other : ℕ) (named : List ℕ) → Contains between (other, named) → Contains after (other, named))
      → Settled stops between number name → Settled more after number name
  more_settled stops more between after number name wider longer settled row found e f =
      let s = settled row found e f in
      record {
        ends = λ h. wider number (s.ends h);
        space = λ request target a b o t. wider target (s.space request target a b o t);
        named = λ request target other a b o t. longer target other (s.named request target other a b o t);
        starred = λ star target a b o t. longer target name (s.starred star target a b o t);
      }

  -- one more pair that is settled
  one_more : (before : List Pair) (number : ℕ) (name stops : List ℕ) (after : List Pair) → Covers (before ++ (number, name) ∷ []) stops after
      → Settled stops after number name → Covers before stops after
  one_more before number name stops after covers settled = record {
    grows = λ other named m. covers.grows other named (Contains-append_left before ((number, name) ∷ []) (other, named) m);
    each = λ other named m. split other named (covers.each other named m);
  }
    where
      last : (other : ℕ) (named : List ℕ) → Contains before (other, named) ⊎ (◌≡◌ {A = Pair} (number, name) (other, named)) → Contains before (other, named) ⊎ Settled stops after other named
      last other named (inl m) = inl m
      last other named (inr e) = inr (subst (λ p. Settled stops after p.0 p.1) e settled)

      split : (other : ℕ) (named : List ℕ) → Contains (before ++ (number, name) ∷ []) (other, named) ⊎ Settled stops after other named
          → Contains before (other, named) ⊎ Settled stops after other named
      split other named (inl m) = last other named (Contains-push_cases before (number, name) (other, named) m)
      split other named (inr s) = inr s

  -- nothing is gone through but the pair
  alone : (before : List Pair) (number : ℕ) (name stops : List ℕ) → Settled stops (before ++ (number, name) ∷ []) number name
      → Covers before stops (before ++ (number, name) ∷ [])
  alone before number name stops settled =
      one_more before number name stops (before ++ (number, name) ∷ [])
      (record { grows = λ other named m. m; each = λ other named m. inl m }) settled

  in_turn : (before between after : List Pair) (stops more : List ℕ) → Covers before stops between → Covers between more after → Covers before (stops ++ more) after
  in_turn before between after stops more one two = record {
    grows = λ number name m. two.grows number name (one.grows number name m);
    each = λ number name m. split number name (two.each number name m);
  }
    where
      first : (number : ℕ) (name : List ℕ) → Contains before (number, name) ⊎ Settled stops between number name
          → Contains before (number, name) ⊎ Settled (stops ++ more) after number name
      first number name (inl m) = inl m
      first number name (inr s) = inr (more_settled stops (stops ++ more) between after number name (λ stop. Contains-append_left stops more stop) two.grows s)

      split : (number : ℕ) (name : List ℕ) → Contains between (number, name) ⊎ Settled more after number name
          → Contains before (number, name) ⊎ Settled (stops ++ more) after number name
      split number name (inl m) = first number name (one.each number name m)
      split number name (inr s) = inr (more_settled more (stops ++ more) after after number name (λ stop. Contains-append_right stops more stop) (λ other named m. m) s)

  same_row : (number : ℕ) (row other : Row) → slice_get graph.rows number ≡ Some row → slice_get graph.rows number ≡ Some other → row ≡ other
  same_row number row other e f = same_Some row other (sym e ∙ f)

  -- a pair is settled for its one row
  settled_at : (stops : List ℕ) (after : List Pair) (number : ℕ) (name : List ℕ) (row : Row) → slice_get graph.rows number ≡ Some row
      → SettledAt stops after number name row → Settled stops after number name
  settled_at stops after number name row e s other found f finds = subst (SettledAt stops after number name) (same_row number row other e f) s

  lost_settled : (stops : List ℕ) (after : List Pair) (number : ℕ) (name : List ℕ) (found : Found) → Resolves graph number name found
      → (found ≡ Nothing) ⊎ (found ≡ Ambiguous) → Settled stops after number name
  lost_settled stops after number name found r (inl e) row other at finds = absurd (finds.something (sym (resolves_once graph number name found other r finds.resolves) ∙ e))
  lost_settled stops after number name found r (inr e) row other at finds = absurd (finds.one (sym (resolves_once graph number name found other r finds.resolves) ∙ e))

  mutual
    covers : (before after : List Pair) (number : ℕ) (name stops : List ℕ) → StopsAt graph before number name stops after
        → Covers before stops after × Contains after (number, name)
    covers _ _ _ _ _ (StopsAt.gone before number name c) = (record { grows = λ other named m. m; each = λ other named m. inl m }, c)
    covers _ _ _ _ _ (StopsAt.lost before number name found first r l) =
        (alone before number name [] (lost_settled [] (before ++ (number, name) ∷ []) number name found r l), Contains-push before (number, name))
    covers _ _ _ _ _ (StopsAt.here before number name row found first at finds e) = (
      alone before number name (number ∷ []) (settled_at (number ∷ []) (before ++ (number, name) ∷ []) number name row at (record {
        ends = λ h. Contains-one number;
        space = λ request target a b o t. absurd (not_end row name a b (λ binding f. own_space binding request o f) e);
        named = λ request target other a b o t. absurd (not_end row name a b (λ binding f. own_other binding request other o f) e);
        starred = λ star target a b o t. absurd (not_end row name a b (λ binding f. none-some (Own binding) (sym o.none ∙ f)) e);
      })),
      Contains-push before (number, name),
    )
    covers _ _ _ _ _ (StopsAt.namespace before number name row request target first s o t) = (
      alone before number name (target ∷ []) (settled_at (target ∷ []) (before ++ (number, name) ∷ []) number name row s.at (record {
        ends = λ h. absurd (not_end row name s.flagged s.kind (λ binding f. own_space binding request o f) h);
        space = λ place other a b p u.
            let q : target ≡ other = same_Some target other (sym t ∙ ap (slice_get row.targets) (same_space request place o p) ∙ u) in
            subst (Contains (target ∷ [])) q (Contains-one target);
        named = λ place other named a b p u. absurd (other_space request place named o p);
        starred = λ star other a b p u. absurd (none-some (Space request) (sym p.none ∙ o));
      })),
      Contains-push before (number, name),
    )
    covers _ _ _ _ _ (StopsAt.by_name before number name row request target other stops after first s o t d) =
        let c = covers (before ++ (number, name) ∷ []) after target other stops d in (
          one_more before number name stops after c.0 (settled_at stops after number name row s.at (record {
            ends = λ h. absurd (not_end row name s.flagged s.kind (λ binding f. own_other binding request other o f) h);
            space = λ place there a b p u. absurd (other_space place request other p o);
            named = λ place there named a b p u.
                let q = same_other request place other named o p in
                let w : target ≡ there = same_Some target there (sym t ∙ ap (slice_get row.targets) q.0 ∙ u) in
                subst₂ (λ m n. Contains after (m, n)) w q.1 c.1;
            starred = λ star there a b p u. absurd (none-some (Other request other) (sym p.none ∙ o));
          })),
          c.0.grows number name (Contains-push before (number, name)),
        )
    covers _ _ _ _ _ (StopsAt.by_stars before number name row stars stops after first s o a d) =
        let c = covers_stars (before ++ (number, name) ∷ []) after row.targets name stars stops d in (
          one_more before number name stops after c.0 (settled_at stops after number name row s.at (record {
            ends = λ h. absurd (not_end row name s.flagged s.kind (λ binding f. none-some (Own binding) (sym o ∙ f)) h);
            space = λ place there x y p u. absurd (none-some (Space place) (sym o ∙ p));
            named = λ place there named x y p u. absurd (none-some (Other place named) (sym o ∙ p));
            starred = λ star there x y p u. c.1 star there ((a.each star).1 p) u;
          })),
          c.0.grows number name (Contains-push before (number, name)),
        )

    covers_stars : (before after : List Pair) (targets name stars stops : List ℕ) → StarsStopAt graph before targets name stars stops after
        → Covers before stops after × ((star target : ℕ) → Contains stars star → slice_get targets star ≡ Some target → Contains after (target, name))
    covers_stars _ _ _ _ _ _ (StarsStopAt.ended before targets name) =
        (record { grows = λ other named m. m; each = λ other named m. inl m }, λ star target m t. none_within star m)
    covers_stars _ _ _ _ _ _ (StarsStopAt.next before between after targets name star target stars stops more t d e) =
        let c = covers before between target name stops d in
        let r = covers_stars between after targets name stars more e in (
          in_turn before between after stops more c.0 r.0,
          λ other there m u. elim (Contains-append_cases (star ∷ []) stars other m) [
            | inl h ↦ let q : target ≡ there = same_Some target there (sym t ∙ ap (slice_get targets) (one_only star other h) ∙ u) in
                subst (λ n. Contains after (n, name)) q (r.0.grows target name c.1)
            | inr h ↦ r.1 other there h u
          ],
        )

  -- what is settled with its pairs has all its stops
  settled_stop : (stops : List ℕ) (after : List Pair) → Covers [] stops after → (number : ℕ) (name : List ℕ) (stop : ℕ) → IsStopOf graph number name stop
      → Contains after (number, name) → Contains stops stop
  settled_stop stops after c _ _ _ (IsStopOf.here number name row found at finds e) m =
      elim (c.each number name m) [ inl x ↦ none_within (number, name) x | inr s ↦ (s row found at finds).ends e ]
  settled_stop stops after c _ _ _ (IsStopOf.namespace number name row request target p o t) m =
      elim (c.each number name m) [ inl x ↦ none_within (number, name) x | inr s ↦ (s row p.found p.at p.finds).space request target p.flagged p.kind o t ]
  settled_stop stops after c _ _ _ (IsStopOf.by_name number name row request target other stop p o t d) m =
      elim (c.each number name m) [
        | inl x ↦ none_within (number, name) x
        | inr s ↦ settled_stop stops after c target other stop d ((s row p.found p.at p.finds).named request target other p.flagged p.kind o t)
      ]
  settled_stop stops after c _ _ _ (IsStopOf.by_star number name row star target stop p f t d) m =
      elim (c.each number name m) [
        | inl x ↦ none_within (number, name) x
        | inr s ↦ settled_stop stops after c target name stop d ((s row p.found p.at p.finds).starred star target p.flagged p.kind f t)
      ]

  -- and each stop is found
  pub stop_is_found : (number : ℕ) (name stops : List ℕ) (stop : ℕ) → HasStops graph number name stops → IsStopOf graph number name stop → Contains stops stop
  stop_is_found number name stops stop h d =
      let c = covers [] h.0 number name stops h.1 in
      settled_stop stops h.0 c.0 number name stop d c.1
