-- The sets that were taken are those of the scene.
use Rattle.std.proofs.Common.{◌≡◌, ◌≢◌, ◌↔◌, inl, inr, ⊎_elim, ℕ, zero, suc, ◌+◌, ◌<◌, ◌≤◌, ◌==◌, Bool, true, false, cond, Some, List, [], ◌∷◌, length, filter, get_or, refl, sym, ap, subst, ◌∙◌, arith, nat_lt, slice_get}
use Rattle.std.specs.Prelude.{slice_index}
use Rattle.std.specs.List.{All, Contains, range_with_len}
use Rattle.std.specs.Option.{option_map}
use Rattle.std.proofs.lemmas.Bool.{cases_eq, cases_lt, eq-eqb, ne_eqb, ltb-true, lt-ltb}
use Rattle.std.proofs.lemmas.Option.{none-some, slice_get_past}
use Rattle.pk_types.specs.declared.facts.Kind.TheVariants.{Es}
use Rattle.pk_types.specs.declared.graph.Row.{Row}
use Rattle.pk_types.specs.Resolving.{kind_at}
use Rattle.pk_types.specs.HoistSets.{Scene, IsInChunk, IsHoistSet, IsGreatestSet, MayShare, IsRoot, AreHoistSets, set_of, taken_before}
use Rattle.pk_types.proofs.ListMembers.{filtered, unfiltered, in_range, range_of, in_row}
use Rattle.pk_types.proofs.OneHoist.{in_set, of_set}
use Rattle.pk_types.proofs.OneOrder.{same_all}
use Rattle.chunk_groups.proofs.Gathering.{all_same}
use Rattle.std.proofs.lemmas.List.Elements.{All-contains, All-from_get_or, All-get_or, Contains-get_or}
use Rattle.pk_types.specs.declared.graph.Graph.{Graph}
use Rattle.pk_types.specs.declared.plan.Active.{Active}
use Rattle.pk_types.specs.Fitting.{Fits, RowFits}
use Rattle.pk_types.specs.Places.{ArePlacesIn}
use Rattle.pk_types.proofs.Members.{Contains-at}
use Rattle.chunk_groups.specs.ActiveGraphs.{AreOfGraph}
use Rattle.std.proofs.Common.{◌++◌, slice_index_or}
use Rattle.std.proofs.lemmas.Option.{slice_get_within, get_or_from_slice_get}
use Rattle.std.proofs.lemmas.List.{length_push, get_or_push, get_or_append_left}
use Rattle.pk_types.specs.declared.plan.Item.{Item}
use Rattle.pk_types.specs.HoistItems.{AreItems, AreHoists}
use Rattle.scope_hoist.specs.Walks.{IsWalked, AreItemsOfAll}
use Rattle.scope_hoist.specs.Scopes.{AreRequests, AreHomes, IsBarred, AreSharing}
use Rattle.scope_hoist.specs.Standing.{AreTogether}
use Rattle.scope_hoist.specs.Rooting.{MaySet, IsSetOf, HaveSets}

-- ---- a set of one

none_pass : (test : ℕ → Bool) (from count : ℕ) → ((k : ℕ) → from ≤ k → k < from + count → test k ≡ false) → filter test (range_with_len from count) ≡ []
none_pass test from zero fails = refl
none_pass test from (suc count) fails =
    ap (λ b. cond b (from ∷ filter test (range_with_len (from + 1) count)) (filter test (range_with_len (from + 1) count))) (fails from (omega arith) (omega arith))
    ∙ none_pass test (from + 1) count (λ k h g. fails k (omega (arith, h)) (omega (arith, g)))

one_passes : (test : ℕ → Bool) (root from count : ℕ) → from ≤ root → root < from + count → test root ≡ true
    → ((k : ℕ) → from ≤ k → k < from + count → k ≢ root → test k ≡ false) → filter test (range_with_len from count) ≡ root ∷ []
one_passes test root from zero low high passes others = absurd (omega (arith, low, high))
one_passes test root from (suc count) low high passes others = ⊎_elim
    (λ e. ap (λ b. cond b (from ∷ filter test (range_with_len (from + 1) count)) (filter test (range_with_len (from + 1) count))) (ap test e ∙ passes)
    ∙ ap (λ l. from ∷ l) (none_pass test (from + 1) count (λ k h g. others k (omega (arith, h)) (omega (arith, g)) (λ same. absurd (omega (arith, h, same, e)))))
    ∙ ap (λ n. n ∷ []) e)
    (λ ne. ap (λ b. cond b (from ∷ filter test (range_with_len (from + 1) count)) (filter test (range_with_len (from + 1) count))) (others from (omega arith) (omega arith) ne)
    ∙ one_passes test root (from + 1) count (omega (arith, low, ne)) (omega (arith, high)) passes (λ k h g. others k (omega (arith, h)) (omega (arith, g))))
    (cases_eq from root)

pub set_of_one : (roots : List ℕ) (root : ℕ) → root < length roots → slice_index roots root ≡ root → ((member : ℕ) → member < length roots → slice_index roots member ≡ root → member ≡ root)
    → set_of roots root ≡ root ∷ []
set_of_one roots root inside itself only = one_passes (λ member. slice_index roots member == root) root 0 (length roots) (omega arith) (omega (arith, inside)) (eq-eqb (slice_index roots root) root itself)
    (λ k h g ne. ne_eqb (slice_index roots k) root (λ e. ne (only k (omega (arith, g)) e)))

module _ (scene : Scene) (concatenate : Bool) (asks homes : List (List ℕ)) (may_join shares : List Bool) (barred roots : List ℕ)
    (requests : AreRequests scene.active asks) (are_homes : AreHomes scene.chunks (length scene.graph.rows) homes) (sharing : AreSharing scene.graph homes concatenate shares)
    (barring : (member : ℕ) → Contains barred member ↔ IsBarred scene.graph scene.active member)
    (joining : (member : ℕ) → (get_or may_join member false ≡ true) ↔ ((get_or shares member false ≡ true) × (¬ Contains barred member) × ¬ (slice_get scene.used.whole member ≡ Some true)))
    (long : length asks ≡ length scene.graph.rows) (have : HaveSets asks homes may_join shares roots) where
  row_there : (member : ℕ) → kind_at scene.graph member ≡ Some Es → member < length scene.graph.rows
  row_there member is = ⊎_elim (λ h. h)
      (λ past. absurd (none-some Es (sym (ap (option_map (λ (row : Row). row.facts.kind)) (slice_get_past scene.graph.rows member past)) ∙ is))) (cases_lt member (length scene.graph.rows))

  pub may_share_so : (member : ℕ) → get_or shares member false ≡ true → MayShare scene concatenate member
  may_share_so member is =
      let three = (sharing.flags member).0 is in
      record { concatenates = three.0; kind = three.1; placed = (three.2.0, ((are_homes.lists member (row_there member three.1)).each three.2.0).0 three.2.1) }

  pub so_may_share : (member : ℕ) → MayShare scene concatenate member → get_or shares member false ≡ true
  so_may_share member may = (sharing.flags member).1 (may.concatenates, may.kind, (may.placed.0, ((are_homes.lists member (row_there member may.kind)).each may.placed.0).1 may.placed.1))

  low : (number : ℕ) → number < length roots → number < length asks
  low number h = let each = have.each in omega (arith, h)

  same_chunks : (member root : ℕ) → member < length scene.graph.rows → root < length scene.graph.rows → AreTogether homes member root
      → (chunk : ℕ) → IsInChunk scene.chunks chunk member ↔ IsInChunk scene.chunks chunk root
  same_chunks member root inside root_inside together chunk =
      let one = (are_homes.lists member inside).each chunk in
      let other = (are_homes.lists root root_inside).each chunk in (
        λ c. other.0 (subst (λ l. Contains l chunk) together (one.1 c)),
        λ c. one.0 (subst (λ l. Contains l chunk) (sym together) (other.1 c)),
      )

  are_together : (member root : ℕ) → member < length scene.graph.rows → root < length scene.graph.rows
      → ((chunk : ℕ) → IsInChunk scene.chunks chunk member ↔ IsInChunk scene.chunks chunk root) → AreTogether homes member root
  are_together member root inside root_inside same = same_all (λ chunk. IsInChunk scene.chunks chunk root) (get_or homes member []) (get_or homes root [])
      (all_same (λ chunk. IsInChunk scene.chunks chunk member) (λ chunk. IsInChunk scene.chunks chunk root) (get_or homes member []) (are_homes.lists member inside) same)
      (are_homes.lists root root_inside)

  members_low : (root member : ℕ) → Contains (set_of roots root) member → member < length roots
  members_low root member c =
      let from = unfiltered (λ number. slice_index roots number == root) (range_with_len 0 (length roots)) member c in
      let range = range_of 0 (length roots) member from.0 in omega (arith, range.1)

  taken_low : (root member : ℕ) → Contains (taken_before roots root) member → slice_index roots member < root
  taken_low root member c = ltb-true (slice_index roots member) root (unfiltered (λ number. nat_lt (slice_index roots number) root) (range_with_len 0 (length roots)) member c).1

  low_taken : (root member : ℕ) → member < length roots → slice_index roots member < root → Contains (taken_before roots root) member
  low_taken root member inside less = filtered (λ number. nat_lt (slice_index roots number) root) (range_with_len 0 (length roots)) member
      (in_range 0 (length roots) member (omega arith) (omega (arith, inside))) (lt-ltb (slice_index roots member) root less)

  module _ (root : ℕ) (inside : root < length roots) (itself : slice_index roots root ≡ root) where
    root_row : root < length scene.graph.rows
    root_row = let h = low root inside in omega (arith, h, long)

    greatest_set : MayShare scene concatenate root → IsGreatestSet scene (taken_before roots root) root (set_of roots root)
    greatest_set may_root = record {
      is_set = record {
        holds_root = in_set roots root root inside itself;
        joins = λ member c ne.
            let h = members_low root member c in
            let own = of_set roots root member c in
            let flags = (joining member).0 (set.able member h own ne) in
            let may = may_share_so member flags.0 in
            record {
              kind = may.kind;
              free = λ taken. let less = taken_low root member taken in absurd (omega (arith, less, own));
              chunks = same_chunks member root (let g = low member h in omega (arith, g, long)) root_row (set.together member h own ne);
              no_entry = λ entry. flags.1 ((barring member).1 (inl entry));
              no_import_target = λ imported. flags.1 ((barring member).1 (inr (inl imported)));
              not_required = λ required. flags.1 ((barring member).1 (inr (inr required)));
              not_whole = flags.2;
            };
        requesters = λ member from c ne asking.
            let asks_it = (requests.lists from member).1 asking in
            let h = in_row asks from member asks_it in
            in_set roots root from (let each = have.each in omega (arith, h)) (set.closed member from (members_low root member c) (of_set roots root member c) ne asks_it);
      };
      greatest = λ others hoist member c. in_set roots root member (inside_of others hoist member c) (set.greatest others (may_set others hoist) member c);
    }
      where
        set : IsSetOf asks homes may_join roots root
        set = have.sets root (low root inside) itself (so_may_share root may_root)

        inside_of : (others : List ℕ) → IsHoistSet scene (taken_before roots root) root others → (member : ℕ) → Contains others member → member < length roots
        inside_of others hoist member c = ⊎_elim (λ e. subst (λ m. m < length roots) (sym e) inside)
            (λ ne. let h = row_there member (hoist.joins member c ne).kind in let each = have.each in omega (arith, h, long)) (cases_eq member root)

        may_set : (others : List ℕ) → IsHoistSet scene (taken_before roots root) root others → MaySet asks homes may_join roots root others
        may_set others hoist = record {
          able = λ member c ne.
              let joins = hoist.joins member c ne in
              (joining member).1 (
                so_may_share member (record { concatenates = may_root.concatenates; kind = joins.kind; placed = (may_root.placed.0, (joins.chunks may_root.placed.0).1 may_root.placed.1) }),
                λ is. ⊎_elim (λ entry. joins.no_entry entry) (λ called. ⊎_elim (λ imported. joins.no_import_target imported) (λ required. joins.not_required required) called) ((barring member).0 is),
                joins.not_whole,
              );
          free = λ member c ne less. (hoist.joins member c ne).free (low_taken root member (inside_of others hoist member c) less);
          together = λ member c ne. let joins = hoist.joins member c ne in are_together member root (row_there member joins.kind) root_row joins.chunks;
          closed = λ member from c ne asking. hoist.requesters member from c ne ((requests.lists from member).0 asking);
        }

    pub is_root : IsRoot scene concatenate roots root
    is_root = record {
      itself = itself;
      shared = greatest_set;
      alone = λ none. set_of_one roots root inside itself (have.alone root (low root inside) itself (λ is. none (may_share_so root is)));
    }

  pub hoist_sets : AreHoistSets scene concatenate roots
  hoist_sets = record {
    each = have.each ∙ long;
    rooted = λ member h.
        let order = have.in_order member h in
        is_root (slice_index roots member) (omega (arith, order, h))
        (⊎_elim (λ less. have.rooted member h less) (λ own. ap (slice_index roots) own) (have.before member h));
    in_order = have.in_order;
  }

-- ---- what is asked of the graph

module _ (graph : Graph) (active : Active) (fits : Fits graph) (of : AreOfGraph graph active) (count : ℕ) (is : count ≡ length graph.rows) where
  target_low : (number request target : ℕ) (row : Row) → slice_get graph.rows number ≡ Some row → slice_get row.targets request ≡ Some target → target < length graph.rows
  target_low number request target row at to =
      let one = All-contains (RowFits graph) graph.rows row fits.rows (Contains-at graph.rows number row at) in
      All-contains (λ t. t < length graph.rows) row.targets target one.targets (Contains-at row.targets request target to)

  barred_one : (member : ℕ) → IsBarred graph active member → member < length graph.rows
  barred_one member barred = ⊎_elim (λ entry. All-contains (λ m. m < length graph.rows) graph.entries member fits.entries entry)
      (λ called. ⊎_elim (λ some. target_low some.0 some.2.1 member some.2.0 some.2.2 some.2.4) (λ some. target_low some.0 some.2.1 member some.2.0 some.2.2 some.2.4) called) barred

  pub barred_low : (numbers : List ℕ) → ((member : ℕ) → Contains numbers member ↔ IsBarred graph active member) → (bound : ℕ) → bound ≡ length graph.rows → All (λ m. m < bound) numbers
  barred_low numbers are bound e = All-from_get_or (λ m. m < bound) numbers 0 (λ k h. let low = barred_one (get_or numbers k 0) ((are (get_or numbers k 0)).0 (Contains-get_or numbers k 0 h)) in omega (arith, low, e))

  pub asks_low : (asks : List (List ℕ)) → AreRequests active asks → (bound : ℕ) → bound ≡ length graph.rows → All (All (λ m. m < bound)) asks
  asks_low asks requests bound e = All-from_get_or (All (λ m. m < bound)) asks [] (λ k h. All-from_get_or (λ m. m < bound) (get_or asks k []) 0 (λ j g.
      let requester = (requests.lists k (get_or (get_or asks k []) j 0)).0 (Contains-get_or (get_or asks k []) j 0 g) in
      let inside = in_row active.edges k (get_or (get_or asks k []) j 0) requester.1 in
      let low = All-contains (λ m. m < length graph.rows) (get_or active.edges k []) (get_or (get_or asks k []) j 0)
      (All-get_or (ArePlacesIn graph.rows) active.edges k [] inside of.edges) requester.1 in
      omega (arith, low, e)))

-- ---- items

pub items_more : (edges : List (List ℕ)) (roots : List ℕ) (items more : List (List Item)) (one : List Item) (count : ℕ) → length items ≡ count
    → ((k : ℕ) → k < count → slice_index roots k ≡ k → IsWalked edges roots k (slice_index_or items k [])) → ((k : ℕ) → k < count → slice_index roots k ≢ k → slice_index_or items k [] ≡ [])
    → more ≡ items ++ one ∷ [] → (slice_index roots count ≡ count → IsWalked edges roots count one) → (slice_index roots count ≢ count → one ≡ [])
    → (length more ≡ count + 1) × ((k : ℕ) → k < count + 1 → slice_index roots k ≡ k → IsWalked edges roots k (slice_index_or more k []))
    × ((k : ℕ) → k < count + 1 → slice_index roots k ≢ k → slice_index_or more k [] ≡ [])
items_more edges roots items more one count each walked others is walks empty = (
  ap length is ∙ length_push items one ∙ ap (λ n. n + 1) each,
  λ k h own. ⊎_elim (λ e. subst (λ n. IsWalked edges roots n (slice_index_or more n [])) (sym e) (subst (IsWalked edges roots count) (sym last) (walks (subst (λ n. slice_index roots n ≡ n) e own))))
      (λ ne. subst (IsWalked edges roots k) (sym (before k (omega (arith, h, ne)))) (walked k (omega (arith, h, ne)) own)) (cases_eq k count),
  λ k h other. ⊎_elim (λ e. ap (λ n. slice_index_or more n []) e ∙ last ∙ empty (subst (λ n. slice_index roots n ≢ n) e other))
      (λ ne. before k (omega (arith, h, ne)) ∙ others k (omega (arith, h, ne)) other) (cases_eq k count),
)
  where
    last : slice_index_or more count [] ≡ one
    last = ap (λ l. slice_index_or l count []) is ∙ get_or_push items one [] count each

    before : (k : ℕ) → k < count → slice_index_or more k [] ≡ slice_index_or items k []
    before k h = ap (λ l. slice_index_or l k []) is ∙ get_or_append_left items (one ∷ []) [] k (omega (arith, h, each))

pub all_hoisted : (scene : Scene) (concatenate : Bool) (roots : List ℕ) (items : List (List Item)) → AreHoistSets scene concatenate roots → AreItemsOfAll scene.active.edges roots items
    → AreHoists scene concatenate (record { root = roots; items = items })
all_hoisted scene concatenate roots items sets all = record {
  sets = sets;
  each = all.each;
  items = λ root some at own. subst (AreItems scene.active (set_of roots root) root) (get_or_from_slice_get items root some [] at)
      (all.walked root (let h = slice_get_within items root some at in let each = all.each in omega (arith, h, each)) own scene.active refl);
  others = λ member some at other. sym (get_or_from_slice_get items member some [] at) ∙ all.others member (let h = slice_get_within items member some at in let each = all.each in omega (arith, h, each)) other;
}
