-- What is answered once the modules were followed, or at the first fault of one.
use Rattle.std.proofs.Common.{◌≡◌, ℕ, Result, Ok, Err, ◌≤◌, ◌<◌, List, ◌∷◌, ◌++◌, Some, length, map, take, drop, refl, sym, ap, subst, ◌∙◌, slice_get}
use Rattle.std.proofs.lemmas.List.{map-append, length-map, take_at}
use Rattle.pk_types.specs.declared.limits.TheConstants.{MAX_MODULES, MAX_SOURCE_BYTES}
use Rattle.emit_body.specs.declared.body.Body.{Body}
use Rattle.module_graph.specs.Building.{Building, so_far, leaf_of}
use Rattle.module_graph.specs.Known.{with_path, with_paths}
use Rattle.module_graph.specs.ModuleGraph.{labels_of}
use Rattle.module_graph.specs.ModuleOrder.{IsModuleOrder}
use Rattle.pk_base.specs.FileTree.{FileTree}
use Rattle.pk_types.specs.declared.graph.Graph.{Graph}
use Rattle.pk_types.specs.declared.graph.Row.{Row}
use Rattle.watch_core.proofs.Looking.{with_more}
use Rattle.watch_core.proofs.WalkPaths.{IsThere, there_at}
use Rattle.watch_core.proofs.WalkSteps.{IsWalking, HasFollowed}
use Rattle.watch_core.specs.Followed.{AreFollowed, rows_asks}
use Rattle.watch_core.specs.Modules.{HasFault, modules, module_asks}
use Rattle.watch_core.specs.Visits.{IsVisited, RefusesModule, Visits}
use Rattle.watch_core.specs.Walks.{Walks, building_of}
use Rattle.watch_core.specs.declared.faults.BuildFault.TheVariants.{TooMany}
use Rattle.watch_core.specs.declared.faults.BuildFault.{BuildFault}
use Rattle.watch_core.specs.declared.faults.What.TheVariants.{Modules}
use Rattle.watch_core.specs.declared.module.Visited.{Visited}
use Rattle.watch_core.specs.declared.walk.Walker.{Walker}

pub wanted_is : (building : Building) (number : ℕ) (path : List ℕ) → number ≡ length building.rows → slice_get building.known number ≡ Some path → slice_get building.known (length building.rows) ≡ Some path
wanted_is building number path e h = ap (slice_get building.known) (sym e) ∙ h

-- the answer of a look at the wanted module, where something stands
pub looked : (t : FileTree) (walker : Walker) (path : List ℕ) (keys keys_new : List (List ℕ)) (answer made : Result Visited BuildFault) → slice_get walker.builder.known (length walker.builder.rows) ≡ Some path → HasFollowed t walker → answer ≡ made
    → (IsThere t path → Visits t walker.source_bytes path (with_path keys path) keys_new answer) → Visits t walker.source_bytes path (with_path keys path) keys_new made
looked t walker path keys keys_new answer made wanted followed is look =
    subst (Visits t walker.source_bytes path (with_path keys path) keys_new) is (look (there_at t walker.builder.known (length walker.builder.rows) path wanted followed.there))

abbrev built : List (List ℕ) → List Row → List ℕ → Building
built known rows entries = record { known = known; rows = rows; entries = entries }

same_building : (building : Building) (known : List (List ℕ)) (rows : List Row) (entries : List ℕ) → known ≡ building.known → rows ≡ building.rows → entries ≡ building.entries → built known rows entries ≡ building
same_building building known rows entries a b c =
    ap (λ l. built l rows entries) a ∙ ap (λ l. built building.known l entries) b ∙ ap (built building.known building.rows) c

module _ (t : FileTree) (entry : List ℕ) (walker : Walker) (walking : IsWalking entry walker) (followed : HasFollowed t walker)
    (labels : map (λ row. row.label) (so_far walker.builder).rows ≡ walker.builder.known) (order : IsModuleOrder (so_far walker.builder)) where
  row_labels : map (λ row. row.label) walker.builder.rows ≡ take (length walker.builder.rows) walker.builder.known
  row_labels =
      let leaves = map leaf_of (drop (length walker.builder.rows) walker.builder.known) in
      sym (ap (take (length walker.builder.rows)) (sym labels ∙ map-append (λ row. row.label) walker.builder.rows leaves)
      ∙ take_at (map (λ row. row.label) walker.builder.rows) (map (λ row. row.label) leaves) (length walker.builder.rows) (length-map walker.builder.rows (λ row. row.label)))

  are_followed : AreFollowed t entry walker.builder walker.bodies.items
  are_followed = record {
    first = walking.first;
    entries = walking.entries;
    labels = row_labels;
    each = followed.each;
    few = walking.few;
    few_bytes = subst (λ n. n ≤ MAX_SOURCE_BYTES) walking.bytes walking.few_bytes;
    order = order;
  }

  stops : (path : List ℕ) (fault : BuildFault) (asked start keys keys_new : List (List ℕ)) → slice_get walker.builder.known (length walker.builder.rows) ≡ Some path → HasFault t walker.source_bytes walker.builder.known path fault asked
      → keys ≡ with_paths start (rows_asks t walker.builder.rows) → keys_new ≡ with_paths (with_path keys path) asked → Walks t entry start keys_new (Err fault)
  stops path fault asked start keys keys_new wanted is before after = (
    rows_asks t walker.builder.rows ++ path ∷ asked,
    record {
      building = walker.builder;
      bodies = walker.bodies.items;
      path = path;
      asked = asked;
      followed = are_followed;
      wanted = wanted;
      fault_is = subst (λ n. HasFault t n walker.builder.known path fault asked) walking.bytes is;
      looked_is = refl;
    },
    after ∙ ap (λ k. with_paths k (path ∷ asked)) before ∙ sym (with_more start (rows_asks t walker.builder.rows) (path ∷ asked)),
  )

  pub refuses : (path : List ℕ) (fault : BuildFault) (start keys keys_new : List (List ℕ)) → slice_get walker.builder.known (length walker.builder.rows) ≡ Some path → keys ≡ with_paths start (rows_asks t walker.builder.rows)
      → RefusesModule t walker.source_bytes path (with_path keys path) keys_new fault → Walks t entry start keys_new (Err fault)
  refuses path fault start keys keys_new wanted before h = stops path fault h.asked start keys keys_new wanted (h.is walker.builder.known) before h.looked

  pub overflows : (path : List ℕ) (visited : Visited) (start keys keys_new : List (List ℕ)) → slice_get walker.builder.known (length walker.builder.rows) ≡ Some path → keys ≡ with_paths start (rows_asks t walker.builder.rows)
      → IsVisited t walker.source_bytes path (with_path keys path) keys_new visited → MAX_MODULES < length (with_paths walker.builder.known visited.targets.items) → Walks t entry start keys_new (Err (TooMany Modules))
  overflows path visited start keys keys_new wanted before h many =
      stops path (TooMany Modules) (module_asks t path visited.said.requests) start keys keys_new wanted (modules h.bytes visited.said visited.targets.items h.few h.is many) before h.looked

  pub ends : (graph : Graph) (bodies : List Body) (start keys : List (List ℕ)) → graph.rows ≡ walker.builder.rows → graph.entries ≡ walker.builder.entries → labels_of graph ≡ walker.builder.known → bodies ≡ walker.bodies.items
      → keys ≡ with_paths start (rows_asks t walker.builder.rows) → Walks t entry start keys (Ok (record { graph = graph; bodies = bodies }))
  ends graph bodies start keys rows entries known same asked =
      let building : building_of graph ≡ walker.builder = same_building walker.builder (labels_of graph) graph.rows graph.entries known rows entries in (
        rows_asks t graph.rows,
        record {
          followed = subst (λ b. AreFollowed t entry b bodies) (sym building) (subst (AreFollowed t entry walker.builder) (sym same) are_followed);
          looked_is = refl;
        },
        asked ∙ ap (λ l. with_paths start (rows_asks t l)) (sym rows),
      )
