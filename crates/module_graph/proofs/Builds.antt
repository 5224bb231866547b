-- A builder stays sound, and its graph so far fits and stands in order.
use Rattle.std.proofs.Common.{◌≡◌, ℕ, ◌+◌, ◌<◌, ◌≤◌, ◌^◌, Bool, IsTrue, List, [], ◌∷◌, ◌++◌, length, take, drop, map, get_or, All, refl, sym, ap, subst, ◌∙◌, arith}
use Rattle.std.specs.List.{IsDistinct}
use Rattle.std.specs.Str.{bytes_eq}
use Rattle.std.proofs.lemmas.List.{length-map, length-append, length_push, map-append, map_push, append-nil, take_more, take-append-drop, take-append-le, drop_all, get_or-map}
use Rattle.std.proofs.lemmas.List.Elements.{All-nil, All-append, All-map, All-push}
use Rattle.std.proofs.lemmas.Map.Keys.{IsDistinct-from_apart}
use Rattle.pk_base.specs.Paths.{is_path}
use Rattle.pk_types.specs.declared.limits.TheConstants.{MAX_MODULES}
use Rattle.pk_types.specs.declared.facts.Facts.{Facts}
use Rattle.pk_types.specs.declared.facts.Kind.TheVariants.{Cjs}
use Rattle.pk_types.specs.declared.graph.Graph.{Graph}
use Rattle.pk_types.specs.declared.graph.Row.{Row}
use Rattle.pk_types.specs.Fitting.{AreFitting, RowFits, Fits}
use Rattle.pk_types.proofs.FittingNone.{no_facts_fit}
use Rattle.module_graph.specs.Building.{Building, IsWanting, wanted_path, row_of, leaf_of, so_far}
use Rattle.module_graph.specs.Known.{with_paths, numbers_in, number_in}
use Rattle.module_graph.specs.ModuleOrder.{IsModuleOrder}
use Rattle.module_graph.specs.Sightings.{count_after, RowsAreSeenInOrder}
use Rattle.module_graph.specs.Soundness.{IsSoundRow, IsSound}
use Rattle.module_graph.proofs.LeastAddresses.{is_module_order}
use Rattle.module_graph.proofs.Rows.{rows_push, rows_with_leaves, within, known_within, no_fewer_rows, rows_within}
use Rattle.module_graph.proofs.Sights.{extends, in_order, counted, distinct}

abbrev label_of : Row → List ℕ
label_of row = row.label

abbrev targets_of : Row → List ℕ
targets_of row = row.targets

-- ---- none added yet

pub starts : (paths : List (List ℕ)) → length paths < 2 ^ 32 → length (with_paths [] paths) ≤ MAX_MODULES
    → IsSound (record { known = with_paths [] paths; rows = []; entries = numbers_in (with_paths [] paths) paths })
starts paths short few = record {
  few = few;
  few_entries = omega (arith, length-map paths (number_in (with_paths [] paths)));
  distinct = distinct paths [] (IsDistinct-from_apart bytes_eq [] (λ i j d h k. absurd (omega arith)));
  labels = refl;
  rows = All-nil IsSoundRow;
  first = in_order paths [];
  next = counted paths [];
}

-- ---- a module of which the path alone is known

labels_of_leaves : (paths : List (List ℕ)) → map label_of (map leaf_of paths) ≡ paths
labels_of_leaves [] = refl
labels_of_leaves (path ∷ paths) = ap (λ l. path ∷ l) (labels_of_leaves paths)

-- ---- one more

labels_push : (known : List (List ℕ)) (paths : List (List ℕ)) (n : ℕ) → n < length known → take n known ++ get_or known n [] ∷ [] ≡ take (n + 1) (with_paths known paths)
labels_push known paths n h =
    let e = extends paths known in
    sym (ap (λ l. take (n + 1) l) e.is ∙ take-append-le (n + 1) known e.more (omega arith) ∙ take_more known n [] h)

module _ (known : List (List ℕ)) (rows : List Row) (entries : List ℕ) where
  abbrev before : Building
  before = record { known = known; rows = rows; entries = entries }

  pub adds : IsSound before → IsWanting before → (facts : Facts) (paths : List (List ℕ)) (flagged : Bool) (size : ℕ) → AreFitting facts → length paths ≡ length facts.requests
      → length (with_paths known paths) ≤ MAX_MODULES → IsTrue (is_path (wanted_path before))
      → IsSound (record { known = with_paths known paths; rows = rows ++ row_of before (with_paths known paths) facts paths flagged size ∷ []; entries = entries })
  adds sound wanted facts paths flagged size fitting each few path =
      let row : Row = row_of before (with_paths known paths) facts paths flagged size in
      record {
        few = few;
        few_entries = sound.few_entries;
        distinct = distinct paths known sound.distinct;
        labels = map_push label_of rows row ∙ ap (λ l. l ++ wanted_path before ∷ []) sound.labels ∙ labels_push known paths (length rows) wanted
            ∙ ap (λ n. take n (with_paths known paths)) (sym (length_push rows row));
        rows = All-push IsSoundRow rows row sound.rows (record { facts = fitting; each = length-map paths (number_in (with_paths known paths)) ∙ each; path = path });
        first = sound.first;
        next = subst (λ l. RowsAreSeenInOrder 0 (count_after 0 entries) l (length (with_paths known paths))) (sym (map_push targets_of rows row))
            (subst (λ n. RowsAreSeenInOrder 0 (count_after 0 entries) (map targets_of rows ++ numbers_in (with_paths known paths) paths ∷ []) n) (counted paths known)
            (rows_push (map targets_of rows) 0 (count_after 0 entries) (length known) (numbers_in (with_paths known paths) paths) sound.next (omega (arith, length-map rows targets_of)) (in_order paths known)));
      }

-- ---- the graph so far

graph_of : List Row → List ℕ → Graph
graph_of rows entries = record { rows = rows; entries = entries }

module _ (building : Building) where
  abbrev further : List (List ℕ)
  further = drop (length building.rows) building.known

  pub labels_so_far : IsSound building → map label_of (so_far building).rows ≡ building.known
  labels_so_far sound =
      map-append label_of building.rows (map leaf_of further) ∙ ap (λ l. l ++ map label_of (map leaf_of further)) sound.labels
      ∙ ap (λ l. take (length building.rows) building.known ++ l) (labels_of_leaves further) ∙ take-append-drop (length building.rows) building.known

  count_so_far : IsSound building → length (so_far building).rows ≡ length building.known
  count_so_far sound = sym (length-map (so_far building).rows label_of) ∙ ap length (labels_so_far sound)

  pub fits_so_far : IsSound building → Fits (so_far building)
  fits_so_far sound =
      let targets : List (List ℕ) = map targets_of building.rows in
      let first : ℕ = count_after 0 building.entries in
      let numbered : All (All (λ n. n < length building.known)) (map targets_of building.rows) = rows_within targets 0 first (length building.known) sound.next in
      record {
        rows = All-append (RowFits (so_far building)) building.rows (map leaf_of further)
            (λ k d h. record {
              facts = (sound.rows k d h).facts;
              each = (sound.rows k d h).each;
              targets = subst (λ n. All (λ number. number < n) (get_or building.rows k d).targets) (sym (count_so_far sound))
                  (subst (All (λ n. n < length building.known)) (get_or-map targets_of building.rows k d (targets_of d) h) (numbered k (targets_of d) (omega (arith, length-map building.rows targets_of))));
            })
            (All-map (RowFits (so_far building)) leaf_of further (λ k d h. record { facts = no_facts_fit Cjs; each = refl; targets = All-nil _ }));
        entries = known_within building.entries (count_after 0 building.entries) (length (so_far building).rows)
            (omega (arith, count_so_far sound, no_fewer_rows targets 0 first (length building.known) sound.next)) (within building.entries 0 sound.first);
        few_rows = omega (arith, sound.few, count_so_far sound);
        few_entries = sound.few_entries;
        labels = subst (IsDistinct bytes_eq) (sym (labels_so_far sound)) sound.distinct;
      }

  pub order_so_far : IsSound building → IsModuleOrder (so_far building)
  order_so_far sound =
      let targets : List (List ℕ) = map targets_of building.rows in
      let first : ℕ = count_after 0 building.entries in
      let all : 0 + length (map targets_of building.rows) + length further ≡ length building.known =
      omega (arith, count_so_far sound, length-map building.rows targets_of, length-append building.rows (map leaf_of further), length-map further leaf_of) in
      is_module_order (so_far building) sound.first
      (subst (λ n. RowsAreSeenInOrder 0 (count_after 0 building.entries) (map targets_of (so_far building).rows) n) (sym (count_so_far sound))
      (subst (λ l. RowsAreSeenInOrder 0 (count_after 0 building.entries) l (length building.known)) (sym (map-append targets_of building.rows (map leaf_of further)))
      (rows_with_leaves targets further 0 first (length building.known) sound.next all)))

  -- once all are added, the graph so far is that of the rows
  pub all_so_far : length building.rows ≡ length building.known → (rows : List Row) (entries : List ℕ) → rows ≡ building.rows → entries ≡ building.entries → so_far building ≡ record { rows = rows; entries = entries }
  unfolding graph_of
  all_so_far all rows entries same_rows same_entries =
      ap (λ l. graph_of (building.rows ++ map leaf_of l) building.entries) (drop_all (length building.rows) building.known (omega arith))
      ∙ ap (λ l. graph_of l building.entries) (append-nil building.rows ∙ sym same_rows) ∙ ap (graph_of rows) (sym same_entries)

pub same_building : (known known' : List (List ℕ)) (rows rows' : List Row) (entries entries' : List ℕ) → known ≡ known' → rows ≡ rows' → entries ≡ entries'
    → IsSound (record { known = known'; rows = rows'; entries = entries' }) → IsSound (record { known = known; rows = rows; entries = entries })
same_building known known' rows rows' entries entries' e f g sound =
    subst (λ l. IsSound (record { known = l; rows = rows; entries = entries })) (sym e)
    (subst (λ l. IsSound (record { known = known'; rows = l; entries = entries })) (sym f)
    (subst (λ l. IsSound (record { known = known'; rows = rows'; entries = l })) (sym g) sound))
