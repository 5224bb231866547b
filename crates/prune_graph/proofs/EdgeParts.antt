-- Edges that are added in turn.
use Rattle.std.proofs.Common.{◌≡◌, ℕ, ◌<◌, ◌||◌, ◌&&◌, Bool, true, false, not, cond, nat_eq, List, [], ◌∷◌, ◌++◌, length, Contains, Some, slice_get, refl, sym, ap, subst, ◌∙◌, append-nil, append_assoc}
use Rattle.std.specs.List.{AllZip, concat, filter, list_any}
use Rattle.std.proofs.lemmas.List.Folds.{list_any-append}
use Rattle.std.proofs.lemmas.Map.Views.{exact_unsigned_eq}
use Rattle.std.proofs.lemmas.Option.{slice_get_within}
use Rattle.std.proofs.lemmas.List.Elements.{All-contains}
use Rattle.indexmap.specs.IndexSet.{insert_key, insert_all}
use Rattle.pk_text.specs.FirstPlaces.{first_places}
use Rattle.pk_types.specs.declared.graph.Graph.{Graph}
use Rattle.pk_types.specs.declared.graph.Row.{Row}
use Rattle.pk_types.specs.ActiveEdges.{GivesEdges, HasEdges}
use Rattle.pk_types.specs.Fitting.{Fits, RowFits}
use Rattle.pk_types.specs.StopSearch.{HasStops}
use Rattle.pk_types.specs.Stops.{IsStopOf}
use Rattle.pk_types.proofs.Members.{Contains-at}
use Rattle.pk_types.proofs.Parts.{one_only, within_first_places, within_parts}
use Rattle.pk_types.proofs.Stops.{found_is_stop}
use Rattle.prune_graph.specs.RowEdges.{AddsEach}

-- ---- first places

filter_both : (p q r : ℕ → Bool) → ((number : ℕ) → r number ≡ (q number && p number)) → (numbers : List ℕ) → filter p (filter q numbers) ≡ filter r numbers
filter_both p q r same [] = refl
filter_both p q r same (number ∷ numbers) = by (filter_both p q r same numbers) (q number) refl
  where
    by : filter p (filter q numbers) ≡ filter r numbers → (b : Bool) → q number ≡ b → filter p (filter q (number ∷ numbers)) ≡ filter r (number ∷ numbers)
    by rest true e = ap (λ b. filter p (cond b (number ∷ filter q numbers) (filter q numbers))) e
        ∙ ap (λ l. cond (p number) (number ∷ l) l) rest
        ∙ ap (λ b. cond b (number ∷ filter r numbers) (filter r numbers)) (sym (same number ∙ ap (λ b. b && p number) e))
    by rest false e = ap (λ b. filter p (cond b (number ∷ filter q numbers) (filter q numbers))) e ∙ rest
        ∙ ap (λ b. cond b (number ∷ filter r numbers) (filter r numbers)) (sym (same number ∙ ap (λ b. b && p number) e))

abbrev is_new : List ℕ → ℕ → Bool
is_new known number = not (list_any (nat_eq number) known)

neither : (a b : Bool) → not (a || (b || false)) ≡ (not b && not a)
neither true true = refl
neither true false = refl
neither false true = refl
neither false false = refl

-- a number that is known is no other one that is new
still_new : (known : List ℕ) (first number : ℕ) → list_any (nat_eq first) known ≡ true → is_new known number ≡ (not (nat_eq number first) && is_new known number)
still_new known first number there = by (nat_eq number first) refl
  where
    by : (b : Bool) → nat_eq number first ≡ b → is_new known number ≡ (not (nat_eq number first) && is_new known number)
    by true e =
        let old : is_new known number ≡ false = ap not (ap (λ n. list_any (nat_eq n) known) (exact_unsigned_eq number first e) ∙ there) in
        old ∙ sym (ap (λ b. not b && is_new known number) e)
    by false e = sym (ap (λ b. not b && is_new known number) e)

new_behind : (known : List ℕ) (first number : ℕ) → is_new (known ++ first ∷ []) number ≡ (not (nat_eq number first) && is_new known number)
new_behind known first number = ap not (list_any-append (nat_eq number) known (first ∷ [])) ∙ neither (list_any (nat_eq number) known) (nat_eq number first)

behind : (numbers known : List ℕ) → insert_all nat_eq known numbers ≡ known ++ filter (is_new known) (first_places numbers)
behind [] known = sym (append-nil known)
behind (first ∷ numbers) known = by (behind numbers) (list_any (nat_eq first) known) refl
  where
    others : List ℕ
    others = filter (λ other. not (nat_eq other first)) (first_places numbers)

    by : ((known : List ℕ) → insert_all nat_eq known numbers ≡ known ++ filter (is_new known) (first_places numbers))
        → (b : Bool) → list_any (nat_eq first) known ≡ b → insert_all nat_eq known (first ∷ numbers) ≡ known ++ filter (is_new known) (first_places (first ∷ numbers))
    by rest true e = ap (λ b. insert_all nat_eq (cond b known (known ++ first ∷ [])) numbers) e ∙ rest known
        ∙ ap (λ l. known ++ l) (sym (ap (λ b. cond (not b) (first ∷ filter (is_new known) others) (filter (is_new known) others)) e
        ∙ filter_both (is_new known) (λ other. not (nat_eq other first)) (is_new known) (λ number. still_new known first number e) (first_places numbers)))
    by rest false e = ap (λ b. insert_all nat_eq (cond b known (known ++ first ∷ [])) numbers) e ∙ rest (known ++ first ∷ [])
        ∙ append_assoc known (first ∷ []) (filter (is_new (known ++ first ∷ [])) (first_places numbers))
        ∙ ap (λ l. known ++ l) (sym (ap (λ b. cond (not b) (first ∷ filter (is_new known) others) (filter (is_new known) others)) e
        ∙ ap (λ l. first ∷ l) (filter_both (is_new known) (λ other. not (nat_eq other first)) (is_new (known ++ first ∷ [])) (new_behind known first) (first_places numbers))))

all_new : (numbers : List ℕ) → filter (is_new []) numbers ≡ numbers
all_new [] = refl
all_new (number ∷ numbers) = ap (λ l. number ∷ l) (all_new numbers)

pub inserted_first : (numbers : List ℕ) → insert_all nat_eq [] numbers ≡ first_places numbers
inserted_first numbers = behind numbers [] ∙ all_new (first_places numbers)

-- ---- parts

insert_twice : (known numbers more : List ℕ) → insert_all nat_eq known (numbers ++ more) ≡ insert_all nat_eq (insert_all nat_eq known numbers) more
insert_twice known [] more = refl
insert_twice known (number ∷ numbers) more = insert_twice (insert_key nat_eq known number) numbers more

concat_more : (parts : List (List ℕ)) (part : List ℕ) → concat (parts ++ part ∷ []) ≡ concat parts ++ part
concat_more [] part = append-nil part
concat_more (first ∷ parts) part = ap (λ l. first ++ l) (concat_more parts part) ∙ sym (append_assoc first (concat parts) part)

module _ {A : Type 0} (IsPart : A → List ℕ → Type 0) where
  zip_more : (items : List A) (parts : List (List ℕ)) (item : A) (part : List ℕ) → AllZip IsPart items parts → IsPart item part
      → AllZip IsPart (items ++ item ∷ []) (parts ++ part ∷ [])
  zip_more [] [] item part zip is = (is, tt)
  zip_more [] (first ∷ parts) item part zip is = absurd zip
  zip_more (first ∷ items) [] item part zip is = absurd zip
  zip_more (first ∷ items) (other ∷ parts) item part zip is = (zip.0, zip_more items parts item part zip.1 is)

  pub adds_none : (before : List ℕ) → AddsEach IsPart [] before before
  adds_none before = ([], tt, refl)

  pub adds_more : (items more : List A) (item : A) (before between after part : List ℕ) → more ≡ items ++ item ∷ [] → AddsEach IsPart items before between
      → IsPart item part → after ≡ insert_all nat_eq between part → AddsEach IsPart more before after
  adds_more items more item before between after part is adds has put = (
    adds.0 ++ part ∷ [],
    subst (λ l. AllZip IsPart l (adds.0 ++ part ∷ [])) (sym is) (zip_more items adds.0 item part adds.1 has),
    put ∙ ap (λ l. insert_all nat_eq l part) adds.2 ∙ sym (insert_twice before (concat adds.0) part)
        ∙ ap (insert_all nat_eq before) (sym (concat_more adds.0 part)),
  )

pub has_edges : (graph : Graph) (number : ℕ) (row : Row) (used : List (List ℕ)) (edges : List ℕ)
    → AddsEach (GivesEdges graph number row used) row.facts.order [] edges → HasEdges graph number row used edges
has_edges graph number row used edges adds = (adds.0, adds.1, adds.2 ∙ inserted_first (concat adds.0))

-- ---- edges lead to modules

module _ (graph : Graph) (fits : Fits graph) where
  pub target_within : (number : ℕ) (row : Row) (request target : ℕ) → slice_get graph.rows number ≡ Some row → slice_get row.targets request ≡ Some target
      → target < length graph.rows
  target_within number row request target at t = All-contains (λ place. place < length graph.rows) row.targets target
      (All-contains (RowFits graph) graph.rows row fits.rows (Contains-at graph.rows number row at)).targets (Contains-at row.targets request target t)

  pub stop_within : (number : ℕ) (name : List ℕ) (stop : ℕ) → IsStopOf graph number name stop → stop < length graph.rows
  stop_within _ _ _ (IsStopOf.here number name row found at finds e) = slice_get_within graph.rows number row at
  stop_within _ _ _ (IsStopOf.namespace number name row request target p o t) = target_within number row request target p.at t
  stop_within _ _ _ (IsStopOf.by_name number name row request target other stop p o t d) = stop_within target other stop d
  stop_within _ _ _ (IsStopOf.by_star number name row star target stop p f t d) = stop_within target name stop d

  module _ (number : ℕ) (row : Row) (at : slice_get graph.rows number ≡ Some row) (used : List (List ℕ)) where
    given_within : (request : ℕ) (part : List ℕ) → GivesEdges graph number row used request part → (target : ℕ) → Contains part target → target < length graph.rows
    given_within _ _ (GivesEdges.kept request target t f) other m =
        subst (λ k. k < length graph.rows) (one_only target other m) (target_within number row request target at t)
    given_within _ _ (GivesEdges.whole request target t f s) other m =
        subst (λ k. k < length graph.rows) (one_only target other m) (target_within number row request target at t)
    given_within _ _ (GivesEdges.replaced request target names stops t f n a z) other m =
        let p = within_parts (HasStops graph target) names stops other z m in
        stop_within target p.0 other (found_is_stop graph [] p.3.0 target p.0 p.1 p.3.1 other p.4)

    pub edges_within : (edges : List ℕ) → HasEdges graph number row used edges → (target : ℕ) → Contains edges target → target < length graph.rows
    edges_within edges has target m =
        let p = within_parts (GivesEdges graph number row used) row.facts.order has.0 target has.1
        (within_first_places (concat has.0) target (subst (λ l. Contains l target) has.2 m)) in
        given_within p.0 p.1 p.3 target p.4

    pub called_within : (request target : ℕ) → slice_get row.targets request ≡ Some target → target < length graph.rows
    called_within request target t = target_within number row request target at t
