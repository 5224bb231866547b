-- A tree has one answer alone, with its asks.
use Rattle.std.proofs.Common.{◌≡◌, ℕ, zero, suc, ◌+◌, ◌<◌, ◌≤◌, Bool, true, false, inl, inr, List, [], ◌∷◌, ◌++◌, length, get_or, All, Some, Result, Ok, Err, IsTrue, slice_get, refl, sym, ap, subst, ◌∙◌, arith}
use Rattle.std.specs.List.{IsDistinct, list_any}
use Rattle.std.specs.Str.{bytes_eq}
use Rattle.std.specs.Cmp.Lexicographic.{bytes_decides, nat_list_eq_equiv}
use Rattle.std.proofs.lemmas.Bool.{true≢false, or_left, or_right, cases_order}
use Rattle.std.proofs.lemmas.List.{length-map}
use Rattle.std.proofs.lemmas.Map.Keys.{IsDistinct-from_apart}
use Rattle.std.proofs.lemmas.Map.Made.{length-le_from_is_member}
use Rattle.std.proofs.lemmas.Option.{same_Some, none-some, slice_get_within, slice_get-get_or, get_or_from_slice_get}
use Rattle.std.proofs.lemmas.Slice.Zip.{AllZip-long}
use Rattle.emit_body.specs.declared.body.Body.{Body}
use Rattle.module_graph.proofs.Sights.{at_number, distinct}
use Rattle.module_graph.specs.Building.{Building, so_far}
use Rattle.module_graph.specs.Known.{with_paths, number_in}
use Rattle.pk_base.specs.FileTree.{FileTree}
use Rattle.pk_types.specs.declared.graph.Graph.{Graph}
use Rattle.pk_types.specs.declared.graph.Row.{Row}
use Rattle.watch_core.proofs.WalkPaths.{all_with}
use Rattle.watch_core.specs.Followed.{IsKnown, IsFollowed, AreFollowed, source_bytes, rows_asks}
use Rattle.watch_core.specs.Modules.{IsModule, HasFault}
use Rattle.watch_core.specs.Walks.{AreModules, IsStopped, building_of}
use Rattle.pk_base.specs.declared.outside.Read.TheVariants.{Absent}
use Rattle.module_graph.specs.ModuleGraph.{labels_of}
use Rattle.watch_core.specs.Trees.{seen, is_there}
use Rattle.watch_core.specs.Builds.{pack_json, index_js, HasModules, HasFirstFault, settings, entry, of_module, asks_of, Finds}
use Rattle.watch_core.specs.declared.walk.FoundModules.{FoundModules}
use Rattle.watch_core.specs.declared.faults.BuildFault.{BuildFault}
use Rattle.watch_laws.proofs.OneNumbering.{one_place}
use Rattle.watch_laws.proofs.OneModules.{one_fault, no_fault}
use Rattle.watch_laws.proofs.OneWalks.{LeadsIn, from_places, bytes_up_to, numbered, both_at, label_at, known_agree, rows_agree, knows_no_more}

member_at : (known : List (List ℕ)) (n : ℕ) (path : List ℕ) → slice_get known n ≡ Some path → IsKnown known path
member_at [] n path e = absurd (none-some path e)
member_at (x ∷ xs) zero path e = or_left (bytes_eq path x) (list_any (bytes_eq path) xs) ((bytes_decides path x).1 (sym (same_Some x path e)))
member_at (x ∷ xs) (suc n) path e = or_right (bytes_eq path x) (list_any (bytes_eq path) xs) (member_at xs n path e)

-- distinct paths that are all known are no more than the known ones
no_more_than : (paths known : List (List ℕ)) → IsDistinct bytes_eq paths → All (IsKnown known) paths → length paths ≤ length known
no_more_than paths known d all = length-le_from_is_member nat_list_eq_equiv paths known d
    (λ path h. let e = at_number paths path h in
    subst (IsKnown known) (get_or_from_slice_get paths (number_in paths path) path path e) (all (number_in paths path) path (slice_get_within paths (number_in paths path) path e)))

graph_made : List Row → List ℕ → Graph
graph_made rows entries = record { rows = rows; entries = entries }

found_made : Graph → List Body → FoundModules
found_made graph bodies = record { graph = graph; bodies = bodies }

module _ (t : FileTree) (start : List ℕ) where
  distinct_known : (building : Building) (bodies : List Body) → AreFollowed t start building bodies → IsDistinct bytes_eq building.known
  distinct_known building bodies a = IsDistinct-from_apart bytes_eq building.known
      (λ i j d h l. by i j d h l (bytes_eq (get_or building.known i d) (get_or building.known j d)) refl)
    where
      by : (i j : ℕ) (d : List ℕ) → i < j → j < length building.known → (b : Bool) → bytes_eq (get_or building.known i d) (get_or building.known j d) ≡ b → bytes_eq (get_or building.known i d) (get_or building.known j d) ≡ false
      by i j d h l true e =
          let same = (bytes_decides (get_or building.known i d) (get_or building.known j d)).0 e in
          absurd (one_place (LeadsIn t) start (so_far building) building.known (length building.rows) (numbered t start building bodies a) i j (get_or building.known j d) h
          (slice_get-get_or building.known i d (omega arith) ∙ ap Some same) (slice_get-get_or building.known j d l))
      by i j d h l false e = e

  -- a walk that goes on at the module where another one stops
  no_stop : (left right : Building) (bodies others : List Body) → AreFollowed t start left bodies → AreFollowed t start right others → length right.rows < length left.rows
      → (path : List ℕ) → slice_get right.known (length right.rows) ≡ Some path → (fault : BuildFault) (asked : List (List ℕ)) → HasFault t (source_bytes right.rows) right.known path fault asked → ⊥
  no_stop left right bodies others a b fewer path wanted fault asked is =
      let m : ℕ = length right.rows in
      let x = both_at t start left bodies a (length right.rows) fewer in
      let f = x.holds in
      let p = label_at t start left bodies a (length right.rows) x.row x.row_is in
      let label : x.row.label ≡ path = same_Some x.row.label path (sym p ∙ known_agree t start left right bodies others a b (length right.rows) (slice_get_within left.known (length right.rows) x.row.label p) (slice_get_within right.known (length right.rows) path wanted) ∙ wanted) in
      let few : length right.known ≤ length left.known = knows_no_more t start left right bodies others a b (λ k h l. omega arith) in
      let module_is : IsModule t path f.bytes f.said f.targets = subst (λ q. IsModule t q f.bytes f.said f.targets) label f.is in
      let size : x.row.size ≡ length f.bytes = f.size in
      let bytes : source_bytes right.rows + x.row.size ≤ source_bytes left.rows = bytes_up_to right.rows left.rows x.row (λ n h. sym (rows_agree t start left right bodies others a b n (omega arith) h).0) x.row_is in
      let old : All (IsKnown left.known) right.known = λ i d h. let here = slice_get-get_or right.known i d h in
      member_at left.known i (get_or right.known i d) (known_agree t start left right bodies others a b i (omega arith) h ∙ here) in
      let new : All (IsKnown left.known) (with_paths right.known f.targets) = all_with (IsKnown left.known) right.known f.targets old f.are_known in
      let count : length (with_paths right.known f.targets) ≤ length left.known = no_more_than (with_paths right.known f.targets) left.known (distinct f.targets right.known (distinct_known right others b)) new in
      no_fault t path (source_bytes right.rows) right.known f.bytes f.said f.targets module_is (omega (arith, a.few_bytes)) (omega (arith, a.few)) fault asked is

  -- one first fault
  one_stop : (fault other : BuildFault) (looked more : List (List ℕ)) → IsStopped t start fault looked → IsStopped t start other more → (fault ≡ other) × (looked ≡ more)
  one_stop fault other looked more a b = elim (cases_order (length a.building.rows) (length b.building.rows)) [
    | inl equal ↦ at_one equal
    | inr apart ↦ elim apart [
      | inl below ↦ absurd (no_stop b.building a.building b.bodies a.bodies b.followed a.followed below a.path a.wanted fault a.asked a.fault_is)
      | inr above ↦ absurd (no_stop a.building b.building a.bodies b.bodies a.followed b.followed above b.path b.wanted other b.asked b.fault_is)
    ]
  ]
    where
      at_one : length a.building.rows ≡ length b.building.rows → (fault ≡ other) × (looked ≡ more)
      at_one equal =
          let up = knows_no_more t start a.building b.building a.bodies b.bodies a.followed b.followed (λ k h l. omega arith) in
          let down = knows_no_more t start b.building a.building b.bodies a.bodies b.followed a.followed (λ k h l. omega arith) in
          let known : a.building.known ≡ b.building.known = from_places a.building.known b.building.known (omega arith)
          (λ n h. known_agree t start a.building b.building a.bodies b.bodies a.followed b.followed n h (omega arith)) in
          let rows : a.building.rows ≡ b.building.rows = from_places a.building.rows b.building.rows equal
          (λ n h. (rows_agree t start a.building b.building a.bodies b.bodies a.followed b.followed n h (omega arith)).0) in
          let path : a.path ≡ b.path = same_Some a.path b.path (sym a.wanted ∙ ap (slice_get a.building.known) equal ∙ ap (λ l. slice_get l (length b.building.rows)) known ∙ b.wanted) in
          let fault_is : HasFault t (source_bytes b.building.rows) b.building.known b.path fault a.asked =
          subst (λ q. HasFault t (source_bytes b.building.rows) b.building.known q fault a.asked) path
          (subst (λ l. HasFault t (source_bytes b.building.rows) l a.path fault a.asked) known
          (subst (λ l. HasFault t (source_bytes l) a.building.known a.path fault a.asked) rows a.fault_is)) in
          let one = one_fault t b.path (source_bytes b.building.rows) b.building.known fault other a.asked b.asked fault_is b.fault_is in
          (one.0, a.looked_is ∙ ap (λ l. rows_asks t l ++ a.path ∷ a.asked) rows ∙ ap (λ q. rows_asks t b.building.rows ++ q ∷ a.asked) path ∙ ap (λ l. rows_asks t b.building.rows ++ b.path ∷ l) one.1 ∙ sym b.looked_is)

  -- one list of modules
  one_modules : (graph other : Graph) (bodies others : List Body) (looked more : List (List ℕ)) → AreModules t start graph bodies looked → AreModules t start other others more → (graph ≡ other) × (bodies ≡ others) × (looked ≡ more)
  unfolding graph_made
  one_modules graph other bodies others looked more a b =
      let left : Building = building_of graph in
      let right : Building = building_of other in
      let count : length (labels_of graph) ≡ length graph.rows = length-map graph.rows (λ row. row.label) in
      let count_other : length (labels_of other) ≡ length other.rows = length-map other.rows (λ row. row.label) in
      let up : length (labels_of other) ≤ length (labels_of graph) = knows_no_more t start left right bodies others a.followed b.followed (λ k h l. omega arith) in
      let down : length (labels_of graph) ≤ length (labels_of other) = knows_no_more t start right left others bodies b.followed a.followed (λ k h l. omega arith) in
      let long : length bodies ≡ length graph.rows = AllZip-long (IsFollowed t (labels_of graph)) graph.rows bodies a.followed.each in
      let long_other : length others ≡ length other.rows = AllZip-long (IsFollowed t (labels_of other)) other.rows others b.followed.each in
      let rows : graph.rows ≡ other.rows = from_places graph.rows other.rows (omega arith) (λ n h. (rows_agree t start left right bodies others a.followed b.followed n h (omega arith)).0) in
      let same_bodies : bodies ≡ others = from_places bodies others (omega arith) (λ n h. (rows_agree t start left right bodies others a.followed b.followed n (omega arith) (omega arith)).1) in (
        ap (λ l. graph_made l graph.entries) rows ∙ ap (graph_made other.rows) (a.followed.entries ∙ sym b.followed.entries),
        same_bodies,
        a.looked_is ∙ ap (rows_asks t) rows ∙ sym b.looked_is,
      )

  -- and no fault beside it
  no_stop_in : (graph : Graph) (bodies : List Body) (looked more : List (List ℕ)) (fault : BuildFault) → AreModules t start graph bodies looked → IsStopped t start fault more → ⊥
  no_stop_in graph bodies looked more fault a b =
      let left : Building = building_of graph in
      let count : length (labels_of graph) ≡ length graph.rows = length-map graph.rows (λ row. row.label) in
      let up : length b.building.known ≤ length (labels_of graph) = knows_no_more t start left b.building bodies b.bodies a.followed b.followed (λ k h l. omega arith) in
      let wanting : length b.building.rows < length b.building.known = slice_get_within b.building.known (length b.building.rows) b.path b.wanted in
      no_stop left b.building bodies b.bodies a.followed b.followed (omega arith) b.path b.wanted fault b.asked b.fault_is

absent : (t : FileTree) (path : List ℕ) → seen t path ≡ Absent → IsTrue (is_there (seen t path)) → ⊥
absent t path e h = let there : IsTrue (is_there Absent) = subst (λ r. IsTrue (is_there r)) e h in true≢false (sym there)

no_first : (t : FileTree) (graph : Graph) (bodies : List Body) (asks looked : List (List ℕ)) (fault : BuildFault) → HasModules t graph bodies asks → HasFirstFault t fault looked → ⊥
no_first t graph bodies asks looked fault a (settings h) = absent t pack_json a.entry.settings h
no_first t graph bodies asks looked fault a (entry e f) = absent t index_js f a.entry.entry
no_first t graph bodies asks looked fault a (of_module first more e s) = no_stop_in t index_js graph bodies a.looked more first a.modules s

one_first : (t : FileTree) (fault other : BuildFault) (looked more : List (List ℕ)) → HasFirstFault t fault looked → HasFirstFault t other more → (fault ≡ other) × (looked ≡ more)
one_first t fault other looked more (settings h) (settings k) = (refl, refl)
one_first t fault other looked more (settings h) (entry e f) = absurd (absent t pack_json e h)
one_first t fault other looked more (settings h) (of_module g l e s) = absurd (absent t pack_json e.settings h)
one_first t fault other looked more (entry e f) (settings k) = absurd (absent t pack_json e k)
one_first t fault other looked more (entry e f) (entry p q) = (refl, refl)
one_first t fault other looked more (entry e f) (of_module g l h s) = absurd (absent t index_js f h.entry)
one_first t fault other looked more (of_module g l h s) (settings k) = absurd (absent t pack_json h.settings k)
one_first t fault other looked more (of_module g l h s) (entry e f) = absurd (absent t index_js f h.entry)
one_first t fault other looked more (of_module g l h s) (of_module p q k r) =
    let one = one_stop t index_js g p l q s r in
    (one.0, ap (λ a. pack_json ∷ index_js ∷ a) one.1)

pub one_answer : (t : FileTree) (a b : List (List ℕ)) (x y : Result FoundModules BuildFault) → Finds t a x → Finds t b y → (x ≡ y) × (a ≡ b)
unfolding found_made
one_answer t a b (Ok found) (Ok other) h k =
    let one = one_modules t index_js found.graph other.graph found.bodies other.bodies h.looked k.looked h.modules k.modules in (
      ap Ok (ap (λ g. found_made g found.bodies) one.0 ∙ ap (found_made other.graph) one.1),
      h.asked ∙ ap (λ l. asks_of (pack_json ∷ index_js ∷ l)) one.2 ∙ sym k.asked,
    )
one_answer t a b (Ok found) (Err fault) h k = absurd (no_first t found.graph found.bodies a k.looked fault h k.is)
one_answer t a b (Err fault) (Ok other) h k = absurd (no_first t other.graph other.bodies b h.looked fault k h.is)
one_answer t a b (Err fault) (Err other) h k =
    let one = one_first t fault other h.looked k.looked h.is k.is in
    (ap Err one.0, h.asked ∙ ap asks_of one.1 ∙ sym k.asked)
