-- A search for stops, step by step.
use Rattle.std.proofs.Common.{◌≡◌, ℕ, ◌<◌, ◌+◌, ◌*◌, ◌^◌, Some, Bool, true, false, not, cond, List, [], ◌∷◌, ◌++◌, length, Contains, refl, sym, ap, subst, ◌∙◌, append-nil, append_assoc, length-append, arith}
use Rattle.std.specs.List.{All, list_any}
use Rattle.std.proofs.lemmas.Bool.{true≢false}
use Rattle.indexmap.specs.IndexSet.{insert_key}
use Rattle.indexmap.proofs.CallerLemmas.{Contains-list_any}
use Rattle.std.proofs.lemmas.List.Elements.{All-nil, All-cons, All-append, All-pop}
use Rattle.pk_types.specs.declared.found.Found.{Found}
use Rattle.pk_types.specs.declared.graph.Graph.{Graph}
use Rattle.pk_types.specs.Resolving.{Pair}
use Rattle.pk_types.specs.Reexports.{FindsOne}
use Rattle.pk_types.specs.StopSearch.{StopsAt}
use Rattle.export_names.specs.Searching.{same_pair, IsWithin, unvisited, names_within}
use Rattle.export_names.proofs.Asking.{same_exact, any_from}
use Rattle.export_names.proofs.PassedNames.{begins}
use Rattle.stop_search.specs.Searching.{Pending, IsAsked, Follows}
use Rattle.stop_search.proofs.Waiting.{split, join, one_pending, pending_one}

-- what is left of a search
abbrev pub left_over : Graph → List ℕ → List Pair → List Pair → ℕ
left_over graph first visited waiting = unvisited visited (length graph.rows) (names_within graph first) * 2 ^ 33 + length waiting

-- where those that wait have the other stops, the name has all of them
pub record IsSearch (graph : Graph) (found : Found) (number : ℕ) (first : List ℕ) (visited : List Pair) (waiting : List Pair) (stops : List ℕ) : Type 0 where
  pub ready : All (IsAsked graph found first) waiting
  pub leads : (rest : List ℕ) (after : List Pair) → Pending graph visited waiting rest after → StopsAt graph [] number first (stops ++ rest) after

module _ (graph : Graph) (found : Found) (number : ℕ) (first : List ℕ) where
  pub starts : (asked : Pair) (visited : List Pair) (waiting : List Pair) (stops : List ℕ) → asked.0 ≡ number → asked.1 ≡ first → visited ≡ []
      → waiting ≡ asked ∷ [] → stops ≡ [] → number < length graph.rows → FindsOne graph number first found → IsSearch graph found number first visited waiting stops
  starts asked visited waiting stops n w v a s inside finds = record {
    ready = subst (All (IsAsked graph found first)) (sym a) (All-cons (IsAsked graph found first) asked []
        (record {
          number_within = subst (λ k. k < length graph.rows) (sym n) inside;
          finds = subst (λ k. FindsOne graph k asked.1 found) (sym n) (subst (λ k. FindsOne graph number k found) (sym w) finds);
          within = subst (IsWithin graph first) (sym w) (begins graph first);
        })
        (All-nil (IsAsked graph found first)));
    leads = λ rest after p.
        subst (λ l. StopsAt graph [] number first (l ++ rest) after) (sym s)
        (subst (λ k. StopsAt graph [] number k rest after) w
        (subst (λ k. StopsAt graph [] k asked.1 rest after) n
        (pending_one graph [] asked rest after (subst (λ b. Pending graph b (asked ∷ []) rest after) v (subst (λ l. Pending graph visited l rest after) a p)))));
  }

  module _ (visited : List Pair) (old left : List Pair) (asked : Pair) (stops : List ℕ) (popped : old ≡ left ++ asked ∷ [])
      (search : IsSearch graph found number first visited old stops) where
    pub both : All (IsAsked graph found first) left × IsAsked graph found first asked
    both = All-pop (IsAsked graph found first) old left (Some asked) popped search.ready

    -- the pair was gone through
    pub again : Contains visited asked → IsSearch graph found number first visited left stops
    again there = record {
      ready = both.0;
      leads = λ rest after p.
          search.leads rest after (subst (λ l. Pending graph visited l rest after) (sym popped)
          (join graph left (asked ∷ []) visited visited [] rest after
          (one_pending graph visited asked [] visited (StopsAt.gone visited asked.0 asked.1 there)) p));
    }

    -- it is gone through now
    pub onward : (new : List Pair) (more : List ℕ) → ¬ Contains visited asked → Follows graph found asked left new stops more
        → IsSearch graph found number first (visited ++ asked ∷ []) new more
    onward new more fresh f = record {
      ready = subst (All (IsAsked graph found first)) (sym f.waiting) (All-append (IsAsked graph found first) left f.pushed both.0 (f.ready first both.1.within));
      leads = λ rest after p.
          let r = split graph left f.pushed (visited ++ asked ∷ []) rest after
          (subst (λ l. Pending graph (visited ++ asked ∷ []) l rest after) f.waiting p) in
          let here = one_pending graph visited asked (f.done ++ r.0) r.1 (f.leads visited fresh r.0 r.1 r.3) in
          let all = join graph left (asked ∷ []) visited r.1 (f.done ++ r.0) r.2 after here r.4 in
          subst (λ l. StopsAt graph [] number first l after)
          (ap (λ l. stops ++ l) (append_assoc f.done r.0 r.2) ∙ sym (append_assoc stops f.done (r.0 ++ r.2)) ∙ ap (λ l. l ++ (r.0 ++ r.2)) (sym f.stops_are) ∙ ap (λ l. more ++ l) (sym r.5))
          (search.leads ((f.done ++ r.0) ++ r.2) after (subst (λ l. Pending graph visited l ((f.done ++ r.0) ++ r.2) after) (sym popped) all));
    }

    pub again_less : left_over graph first visited left < left_over graph first visited old
    again_less = omega (arith, ap length popped, length-append left (asked ∷ []))

    pub onward_less : (new : List Pair) (more : List ℕ) → Follows graph found asked left new stops more
        → unvisited (visited ++ asked ∷ []) (length graph.rows) (names_within graph first) < unvisited visited (length graph.rows) (names_within graph first)
        → left_over graph first (visited ++ asked ∷ []) new < left_over graph first visited old
    onward_less new more f fewer = omega (arith, fewer, f.few, ap length f.waiting, length-append left f.pushed, ap length popped, length-append left (asked ∷ []))

  -- nothing waits
  pub ends : (visited : List Pair) (waiting : List Pair) (stops : List ℕ) → waiting ≡ [] → IsSearch graph found number first visited waiting stops
      → StopsAt graph [] number first stops visited
  ends visited waiting stops none search =
      subst (λ l. StopsAt graph [] number first l visited) (append-nil stops)
      (search.leads [] visited (subst (λ l. Pending graph visited l [] visited) (sym none) (refl, refl)))

-- a pair that was put into a set is new there
pub fresh_pair : (before after : List Pair) (pair : Pair) → not (list_any (same_pair pair) before) ≡ true → after ≡ insert_key same_pair before pair
    → (list_any (same_pair pair) before ≡ false) × (¬ Contains before pair) × (after ≡ before ++ pair ∷ [])
fresh_pair before after pair new inserted = told (list_any (same_pair pair) before) refl
  where
    told : (b : Bool) → list_any (same_pair pair) before ≡ b → (list_any (same_pair pair) before ≡ false) × (¬ Contains before pair) × (after ≡ before ++ pair ∷ [])
    told true e = absurd (true≢false (sym (sym (ap not e) ∙ new)))
    told false e = (
      e,
      λ there. true≢false (sym (any_from before pair there) ∙ e),
      inserted ∙ ap (λ b. cond b before (before ++ pair ∷ [])) e,
    )

-- or it was there before
pub old_pair : (before after : List Pair) (pair : Pair) → not (list_any (same_pair pair) before) ≡ false → after ≡ insert_key same_pair before pair
    → Contains before pair × (after ≡ before)
old_pair before after pair old inserted = told (list_any (same_pair pair) before) refl
  where
    told : (b : Bool) → list_any (same_pair pair) before ≡ b → Contains before pair × (after ≡ before)
    told true e = (Contains-list_any same_pair same_exact before pair e, inserted ∙ ap (λ b. cond b before (before ++ pair ∷ [])) e)
    told false e = absurd (true≢false (sym (ap not e) ∙ old))
