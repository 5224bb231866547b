-- From the numbers of modules to their paths.
use Rattle.std.proofs.Common.{◌≡◌, ℕ, zero, suc, ◌<◌, inl, inr, List, [], ◌∷◌, map, get_or, All, Option, Some, None, slice_get, option_map, option_and_then, refl, sym, ap, subst, ◌∙◌}
use Rattle.std.specs.List.{IsDistinct}
use Rattle.std.specs.Str.{bytes_eq}
use Rattle.std.specs.Cmp.Lexicographic.{bytes_decides}
use Rattle.std.proofs.lemmas.Bool.{true≢false, cases_order}
use Rattle.std.proofs.lemmas.List.{length-map}
use Rattle.std.proofs.lemmas.List.Elements.{All-contains}
use Rattle.std.proofs.lemmas.Map.Keys.{apart_from_distinct}
use Rattle.std.proofs.lemmas.Option.{same_Some, none-some, slice_get-map, option_and_then_some, slice_get_within, slice_get-get_or, get_or_from_slice_get}
use Rattle.pk_types.specs.declared.graph.Graph.{Graph}
use Rattle.pk_types.specs.declared.graph.Row.{Row}
use Rattle.module_graph.specs.Addresses.{target_of, followed, HasAddress}
use Rattle.module_graph.specs.ModuleOrder.{IsLeastAddress, IsModuleOrder}
use Rattle.module_graph.specs.ModuleGraph.{path_after, path_at, IsLeastOf, labels_of, LeadsTo, IsModuleGraph}

module _ (labels : List (List ℕ)) where
  -- numbers and paths that belong together, place by place
  path_of : (numbers : List ℕ) (paths : List (List ℕ)) (k n : ℕ) → map (slice_get labels) numbers ≡ map Some paths → slice_get numbers k ≡ Some n → (path : List ℕ) × (slice_get labels n ≡ Some path) × (slice_get paths k ≡ Some path)
  path_of [] paths k n e h = absurd (none-some n h)
  path_of (number ∷ numbers) [] k n e h = absurd (cc)
  path_of (number ∷ numbers) (path ∷ paths) zero n e h = (path, subst (λ i. slice_get labels i ≡ Some path) (same_Some number n h) (cc), refl)
  path_of (number ∷ numbers) (path ∷ paths) (suc k) n e h = path_of numbers paths k n (cc) h

  number_of : (numbers : List ℕ) (paths : List (List ℕ)) (k : ℕ) (path : List ℕ) → map (slice_get labels) numbers ≡ map Some paths → slice_get paths k ≡ Some path → (n : ℕ) × (slice_get numbers k ≡ Some n) × (slice_get labels n ≡ Some path)
  number_of numbers [] k path e h = absurd (none-some path h)
  number_of [] (first ∷ paths) k path e h = absurd (cc)
  number_of (number ∷ numbers) (first ∷ paths) zero path e h = (number, refl, subst (λ p. slice_get labels number ≡ Some p) (same_Some first path h) (cc))
  number_of (number ∷ numbers) (first ∷ paths) (suc k) path e h = number_of numbers paths k path (cc) h

  ordered_apart : IsDistinct bytes_eq labels → (i j : ℕ) (path : List ℕ) → i < j → slice_get labels i ≡ Some path → slice_get labels j ≡ Some path → ⊥
  ordered_apart distinct i j path l e f =
      let apart = apart_from_distinct bytes_eq labels i j path distinct l (slice_get_within labels j path f) in
      true≢false (sym ((bytes_decides (get_or labels i path) (get_or labels j path)).1 (get_or_from_slice_get labels i path path e ∙ sym (get_or_from_slice_get labels j path path f))) ∙ apart)

  one_number : IsDistinct bytes_eq labels → (i j : ℕ) (path : List ℕ) → slice_get labels i ≡ Some path → slice_get labels j ≡ Some path → i ≡ j
  one_number distinct i j path e f = elim (cases_order i j) [
    | inl same ↦ same
    | inr apart ↦ elim apart [ inl below ↦ absurd (ordered_apart distinct i j path below e f) | inr above ↦ absurd (ordered_apart distinct j i path above f e) ]
  ]

abbrev label_of : Row → List ℕ
label_of row = row.label

labelled : (row : Option Row) (path : List ℕ) → option_map label_of row ≡ Some path → (r : Row) × (row ≡ Some r) × (r.label ≡ path)
labelled None path e = absurd (none-some path e)
labelled (Some row) path e = (row, refl, same_Some row.label path e)

module _ (entries : List (List ℕ)) (leads : List ℕ → List (List ℕ)) (graph : Graph) (leading : LeadsTo entries leads graph) where
  row_at : (m : ℕ) (path : List ℕ) → slice_get (labels_of graph) m ≡ Some path → (row : Row) × (slice_get graph.rows m ≡ Some row) × (map (slice_get (labels_of graph)) row.targets ≡ map Some (leads path))
  row_at m path e =
      let r = labelled (slice_get graph.rows m) path (sym (slice_get-map label_of graph.rows m) ∙ e) in
      let here : get_or graph.rows m r.0 ≡ r.0 = get_or_from_slice_get graph.rows m r.0 r.0 r.1 in
      let targets = subst (λ row. map (slice_get (labels_of graph)) row.targets ≡ map Some (leads row.label)) here (leading.next m r.0 (slice_get_within graph.rows m r.0 r.1)) in
      (r.0, r.1, subst (λ p. map (slice_get (labels_of graph)) r.0.targets ≡ map Some (leads p)) r.2 targets)

  path_along : (requests : List ℕ) (m n : ℕ) (path : List ℕ) → slice_get (labels_of graph) m ≡ Some path → followed graph m requests ≡ Some n → (other : List ℕ) × (slice_get (labels_of graph) n ≡ Some other) × (path_after leads path requests ≡ Some other)
  path_along [] m n path e h = (path, subst (λ i. slice_get (labels_of graph) i ≡ Some path) (same_Some m n h) e, refl)
  path_along (request ∷ requests) m n path e h =
      option_and_then_some (λ next. followed graph next requests) (target_of graph m request) n h
      (λ next t g.
      let r = row_at m path e in
      let seen = path_of (labels_of graph) r.0.targets (leads path) request next r.2 (sym (ap (λ o. option_and_then (λ row. slice_get row.targets request) o) r.1) ∙ t) in
      let rest = path_along requests next n seen.0 seen.1 g in
      (rest.0, rest.1, ap (λ o. option_and_then (λ p. path_after leads p requests) o) seen.2 ∙ rest.2))

  number_along : (requests : List ℕ) (m : ℕ) (path other : List ℕ) → slice_get (labels_of graph) m ≡ Some path → path_after leads path requests ≡ Some other → (n : ℕ) × (followed graph m requests ≡ Some n) × (slice_get (labels_of graph) n ≡ Some other)
  number_along [] m path other e h = (m, refl, e ∙ h)
  number_along (request ∷ requests) m path other e h =
      option_and_then_some (λ next. path_after leads next requests) (slice_get (leads path) request) other h
      (λ next t g.
      let r = row_at m path e in
      let seen = number_of (labels_of graph) r.0.targets (leads path) request next r.2 t in
      let rest = number_along requests seen.0 next other seen.2 g in
      (rest.0, ap (λ o. option_and_then (λ i. followed graph i requests) o) (ap (λ o. option_and_then (λ row. slice_get row.targets request) o) r.1 ∙ seen.1) ∙ rest.1, rest.2))

  path_there : (address : List ℕ) (n : ℕ) → HasAddress graph n address → (path : List ℕ) × (slice_get (labels_of graph) n ≡ Some path) × (path_at entries leads address ≡ Some path)
  path_there [] n h = absurd (none-some n h)
  path_there (entry ∷ requests) n h =
      option_and_then_some (λ first. followed graph first requests) (slice_get graph.entries entry) n h
      (λ first t g.
      let seen = path_of (labels_of graph) graph.entries entries entry first leading.first t in
      let rest = path_along requests first n seen.0 seen.1 g in
      (rest.0, rest.1, ap (λ o. option_and_then (λ p. path_after leads p requests) o) seen.2 ∙ rest.2))

  number_there : (address path : List ℕ) → path_at entries leads address ≡ Some path → (n : ℕ) × HasAddress graph n address × (slice_get (labels_of graph) n ≡ Some path)
  number_there [] path h = absurd (none-some path h)
  number_there (entry ∷ requests) path h =
      option_and_then_some (λ first. path_after leads first requests) (slice_get entries entry) path h
      (λ first t g.
      let seen = number_of (labels_of graph) graph.entries entries entry first leading.first t in
      let rest = number_along requests seen.0 first path seen.2 g in
      (rest.0, ap (λ o. option_and_then (λ i. followed graph i requests) o) seen.1 ∙ rest.1, rest.2))

  least_by_number : IsDistinct bytes_eq (labels_of graph) → (m : ℕ) (path address : List ℕ) → slice_get (labels_of graph) m ≡ Some path → IsLeastOf entries leads path address → IsLeastAddress graph m address
  least_by_number distinct m path address e least =
      let there = number_there address path least.has in
      record {
        has = subst (λ i. HasAddress graph i address) (one_number (labels_of graph) distinct there.0 m path there.2 e) there.1;
        least = λ other h. let seen = path_there other m h in
            least.least other (seen.2 ∙ sym seen.1 ∙ e);
      }

  least_by_path : IsDistinct bytes_eq (labels_of graph) → (m : ℕ) (path address : List ℕ) → slice_get (labels_of graph) m ≡ Some path → IsLeastAddress graph m address → IsLeastOf entries leads path address
  least_by_path distinct m path address e least =
      let seen = path_there address m least.has in
      record {
        has = seen.2 ∙ sym seen.1 ∙ e;
        least = λ other h. let there = number_there other path h in
            least.least other (subst (λ i. HasAddress graph i other) (one_number (labels_of graph) distinct there.0 m path there.2 e) there.1);
      }

  least_of : IsDistinct bytes_eq (labels_of graph) → IsModuleOrder graph → All (λ path. (address : List ℕ) × IsLeastOf entries leads path address) (labels_of graph)
  least_of distinct order = λ m d h.
      let l = order.addressed m (subst (λ n. m < n) (length-map graph.rows label_of) h) in
      (l.0, least_by_path distinct m (get_or (labels_of graph) m d) l.0 (slice_get-get_or (labels_of graph) m d h) l.1)

  pub is_module_graph : IsDistinct bytes_eq (labels_of graph) → IsModuleOrder graph → IsModuleGraph entries leads graph
  is_module_graph distinct order = record {
    modules = λ path. (
      (λ c. let l = All-contains (λ p. (address : List ℕ) × IsLeastOf entries leads p address) (labels_of graph) path (least_of distinct order) c in
          (l.0, l.1.has)),
      (λ a. let there = number_there a.0 path a.1 in
          (there.0, slice_get_within (labels_of graph) there.0 path there.2, get_or_from_slice_get (labels_of graph) there.0 path path there.2)),
    );
    addressed = least_of distinct order;
    ascending = λ m n p q before after l e f a b. order.ascending m n before after l (subst (λ i. n < i) (length-map graph.rows label_of) (slice_get_within (labels_of graph) n q f))
        (least_by_number distinct m p before e a) (least_by_number distinct n q after f b);
  }
