-- What a module leads to that is asked for a name.
use Rattle.std.proofs.Common.{◌≡◌, ◌≢◌, ℕ, ◌<◌, ◌||◌, ◌&&◌, ⊎_elim, Bool, true, false, not, cond, nat_eq, List, [], ◌∷◌, ◌++◌, length, Some, slice_get, option_map, refl, sym, ap, subst, ◌∙◌, arith, eq-eqb}
use Rattle.std.specs.List.{Contains, list_any}
use Rattle.std.specs.Str.{bytes_eq}
use Rattle.std.specs.Cmp.Lexicographic.{bytes_decides}
use Rattle.std.proofs.lemmas.List.{map-append}
use Rattle.std.proofs.lemmas.Option.{same_Some}
use Rattle.std.proofs.lemmas.Bool.{true≢false}
use Rattle.std.proofs.lemmas.List.Elements.{Contains-append_cases, Contains-push_cases}
use Rattle.std.proofs.lemmas.Map.Views.{exact_unsigned_eq}
use Rattle.indexmap.specs.IndexSet.{insert_key}
use Rattle.indexmap.proofs.CallerLemmas.{Contains-list_any}
use Rattle.pk_types.proofs.Members.{element_at}
use Rattle.pk_types.specs.declared.facts.Kind.{Kind}
use Rattle.pk_types.specs.declared.facts.Kind.TheVariants.{Es}
use Rattle.pk_types.specs.declared.graph.Graph.{Graph}
use Rattle.pk_types.specs.declared.graph.Row.{Row}
use Rattle.pk_text.specs.declared.text.Key.{Key}
use Rattle.pk_types.specs.declared.found.Found.TheVariants.{Foreign, Nothing}
use Rattle.pk_types.specs.Resolving.{Pair, kind_at, IsFirst, ResolvesTo, foreign, circular}
use Rattle.export_names.specs.declared.step.Step.{Step}
use Rattle.export_names.specs.declared.step.Step.TheVariants as steps
use Rattle.export_names.specs.Searching.{same_pair, pairs, unvisited, names_within, StepLeadsTo, Opens, Asks}
use Rattle.export_names.proofs.Unvisited.{fewer}

or_true : (b : Bool) → (b || true) ≡ true
or_true true = refl
or_true false = refl

self_eq : (n : ℕ) → nat_eq n n ≡ true
self_eq n = eq-eqb n n refl

pub same_self : (pair : Pair) → same_pair pair pair ≡ true
same_self pair = ap (λ b. b && bytes_eq pair.1 pair.1) (self_eq pair.0) ∙ (bytes_decides pair.1 pair.1).1 refl

pub same_exact : (pair other : Pair) → same_pair pair other ≡ true → pair ≡ other
same_exact pair other same = by (nat_eq pair.0 other.0) refl
  where
    by : (b : Bool) → nat_eq pair.0 other.0 ≡ b → pair ≡ other
    by false e = absurd (true≢false (sym same ∙ ap (λ b. b && bytes_eq pair.1 other.1) e))
    by true e =
        let number = exact_unsigned_eq pair.0 other.0 e in
        let name = (bytes_decides pair.1 other.1).0 (sym (ap (λ b. b && bytes_eq pair.1 other.1) e) ∙ same) in
        λ j. (number j, name j)

not_false : (b : Bool) → not b ≡ false → b ≡ true
not_false true e = refl
not_false false e = absurd (true≢false e)

not_true : (b : Bool) → not b ≡ true → b ≡ false
not_true false e = refl
not_true true e = absurd (true≢false (sym e))

only : (pair other : Pair) → Contains (pair ∷ []) other → pair ≡ other
only pair other there = ⊎_elim (λ none. absurd (omega (arith, none.1))) (λ e. e) (Contains-push_cases [] pair other there)

pub any_from : (pairs : List Pair) (pair : Pair) → Contains pairs pair → list_any (same_pair pair) pairs ≡ true
any_from [] pair there = absurd (omega (arith, there.1))
any_from (first ∷ pairs) pair there = ⊎_elim
    (λ one. ap (λ b. b || list_any (same_pair pair) pairs) (subst (λ p. same_pair pair p ≡ true) (sym (only first pair one)) (same_self pair)))
    (λ behind. ap (λ b. same_pair pair first || b) (any_from pairs pair behind) ∙ or_true (same_pair pair first))
    (Contains-append_cases (first ∷ []) pairs pair there)

-- ---- pairs in a set

pub any_pair : (key : ℕ × Key) (keys : List (ℕ × Key)) → list_any (λ (other : ℕ × Key). nat_eq key.0 other.0 && bytes_eq key.1.0.now other.1.0.now) keys ≡ list_any (same_pair (key.0, key.1.0.now)) (pairs keys)
any_pair key [] = refl
any_pair key (other ∷ keys) = ap (λ b. (nat_eq key.0 other.0 && bytes_eq key.1.0.now other.1.0.now) || b) (any_pair key keys)

pub pairs_inserted : (keys : List (ℕ × Key)) (key : ℕ × Key) → pairs (insert_key (λ (key other : ℕ × Key). nat_eq key.0 other.0 && bytes_eq key.1.0.now other.1.0.now) keys key) ≡ insert_key same_pair (pairs keys) (key.0, key.1.0.now)
pairs_inserted keys key = by (list_any (λ (other : ℕ × Key). nat_eq key.0 other.0 && bytes_eq key.1.0.now other.1.0.now) keys) refl
  where
    by : (b : Bool) → list_any (λ (other : ℕ × Key). nat_eq key.0 other.0 && bytes_eq key.1.0.now other.1.0.now) keys ≡ b
        → pairs (insert_key (λ (key other : ℕ × Key). nat_eq key.0 other.0 && bytes_eq key.1.0.now other.1.0.now) keys key) ≡ insert_key same_pair (pairs keys) (key.0, key.1.0.now)
    by true e = ap (λ b. pairs (cond b keys (keys ++ key ∷ []))) e ∙ sym (ap (λ b. cond b (pairs keys) (pairs keys ++ (key.0, key.1.0.now) ∷ [])) (sym (any_pair key keys) ∙ e))
    by false e =
        ap (λ b. pairs (cond b keys (keys ++ key ∷ []))) e ∙ map-append (λ (key : ℕ × Key). (key.0, key.1.0.now)) keys (key ∷ [])
        ∙ sym (ap (λ b. cond b (pairs keys) (pairs keys ++ (key.0, key.1.0.now) ∷ [])) (sym (any_pair key keys) ∙ e))

-- a number that is in range is that of a row
pub row_there : (graph : Graph) (number : ℕ) → number < length graph.rows → (row : Row) × (slice_get graph.rows number ≡ Some row)
row_there graph number inside = element_at graph.rows number inside

module _ (graph : Graph) (before : List Pair) (number : ℕ) (name given : List ℕ) (same : given ≡ name) where
  pub asks_foreign : (kind : Kind) → kind_at graph number ≡ Some kind → kind ≢ Es → Asks graph before number name before (steps.Answer (Foreign number given))
  asks_foreign kind at not_es = record {
    leads = λ found last is.
        subst (λ a. ResolvesTo graph before number name found a) is.1
        (subst (λ f. ResolvesTo graph before number name f before) is.0
        (subst (λ n. ResolvesTo graph before number name (Foreign number n) before) (sym same) (foreign before number name kind at not_es)));
    fits = tt;
    within = λ first h. tt;
    lighter = λ first h. omega arith;
  }

  pub asks_again : (after : List Pair) → kind_at graph number ≡ Some Es → not (list_any (same_pair (number, given)) before) ≡ false → after ≡ insert_key same_pair before (number, given)
      → Asks graph before number name after (steps.Answer Nothing)
  asks_again after at not_new inserted =
      let seen : list_any (same_pair (number, given)) before ≡ true = not_false (list_any (same_pair (number, given)) before) not_new in
      let old : after ≡ before = inserted ∙ ap (λ b. cond b before (before ++ (number, given) ∷ [])) seen in
      let there : Contains before (number, name) = subst (λ n. Contains before (number, n)) same (Contains-list_any same_pair same_exact before (number, given) seen) in
      record {
        leads = λ found last is.
            subst (λ a. ResolvesTo graph before number name found a) (sym old ∙ is.1)
            (subst (λ f. ResolvesTo graph before number name f before) is.0 (circular before number name at there));
        fits = tt;
        within = λ first h. tt;
        lighter = λ first h. omega (arith, ap (λ a. unvisited a (length graph.rows) (names_within graph first)) old);
      }

  pub asks_first : (after : List Pair) (row : Row) (step : Step) → slice_get graph.rows number ≡ Some row → row.facts.kind ≡ Es → number < length graph.rows
      → list_any (same_pair (number, given)) before ≡ false → after ≡ insert_key same_pair before (number, given) → Opens graph number name step
      → Asks graph before number name after step
  asks_first after row step at kind inside unseen inserted opens =
      let new_is : after ≡ before ++ (number, name) ∷ [] =
      inserted ∙ ap (λ b. cond b before (before ++ (number, given) ∷ [])) unseen ∙ ap (λ n. before ++ (number, n) ∷ []) same in
      let not_seen : list_any (same_pair (number, name)) before ≡ false = subst (λ n. list_any (same_pair (number, n)) before ≡ false) same unseen in
      let first_time : IsFirst graph before number name row =
      record { at = at; kind = kind; first = λ there. true≢false (sym (any_from before (number, name) there) ∙ not_seen) } in
      record {
        leads = λ found last rest. opens.leads before row found last first_time (subst (λ b. StepLeadsTo graph b step found last) new_is rest);
        fits = opens.fits;
        within = opens.within;
        lighter = λ first h.
            let less : unvisited (before ++ (number, name) ∷ []) (length graph.rows) (names_within graph first) < unvisited before (length graph.rows) (names_within graph first) =
            fewer before number name (names_within graph first) (length graph.rows) (same_self (number, name)) not_seen h inside in
            omega (arith, opens.light, less, ap (λ a. unvisited a (length graph.rows) (names_within graph first)) new_is);
      }

  pub asks_first_there : (after : List Pair) (step : Step) → number < length graph.rows → kind_at graph number ≡ Some Es
      → not (list_any (same_pair (number, given)) before) ≡ true → after ≡ insert_key same_pair before (number, given) → Opens graph number name step
      → Asks graph before number name after step
  asks_first_there after step inside es new inserted opens =
      let found = row_there graph number inside in
      asks_first after found.0 step found.1 (same_Some (found.0).facts.kind Es (sym (ap (option_map (λ (row : Row). row.facts.kind)) found.1) ∙ es)) inside
      (not_true (list_any (same_pair (number, given)) before) new) inserted opens
