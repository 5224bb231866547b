-- The parts of the bundle hold together.
use Rattle.std.proofs.Common.{◌≡◌, ℕ, ◌<◌, List, [], ◌∷◌, map, refl, ap, ◌∙◌, lit<, lit≤}
use Rattle.std.specs.List.{All, IsDistinct}
use Rattle.std.specs.Prelude.{IsTrue}
use Rattle.std.specs.Str.{bytes_eq}
use Rattle.std.proofs.lemmas.List.Elements.{All-nil, All-cons, All-from_recursion}
use Rattle.std.proofs.lemmas.Map.Keys.{IsDistinct-cons}
use Rattle.pk_types.specs.declared.facts.Kind.TheVariants.{Es, Cjs, Json}
use Rattle.pk_types.specs.declared.plan.Item.{Item}
use Rattle.pk_types.specs.declared.plan.Item.TheVariants.{Segment, Evaluate}
use Rattle.pk_types.specs.Places.{ArePlacesIn}
use Rattle.pk_types.specs.Sites.{site_bindings, site_imports, space_requests, called_requests, is_call}
use Rattle.pk_types.specs.declared.graph.Graph.{Graph}
use Rattle.pk_types.specs.declared.plan.Plan.{Plan}
use Rattle.pk_types.specs.Fitting.{AreFitting, RowFits, Fits}
use Rattle.pk_types.proofs.FittingNone.{no_facts_fit}
use Rattle.emit_body.specs.declared.body.Body.{Body}
use Rattle.emit_body.specs.declared.getters.Getters.{Getters}
use Rattle.emit_body.specs.Pieces.{HoldsPieces}
use Rattle.emit_chunk.specs.Ranges.{AreBelow, module_of}
use Rattle.chunk_files.specs.Holding.{HoldsTogether, HasModules, HasChunks, HasGroups}
use Rattle.chunk_files.specs.Materials.{MaterialOf}
use Rattle.chunk_tests.specs.Worked.{view_site, view_facts, index_row, data_row, view_row, the_graph, the_plan, the_bodies, the_sources, the_getters, the_material}

one : {A : Type 0} (P : A → Type 0) (x : A) → P x → All P (x ∷ [])
one P x holds = All-cons P x [] holds (All-nil P)

below_one : (count number : ℕ) → number < count → AreBelow count (number ∷ [])
below_one count number within = one (λ n. n < count) number within

below_none : (count : ℕ) → AreBelow count []
below_none count = All-nil (λ n. n < count)

view_facts_fit : AreFitting view_facts
view_facts_fit = record {
  places = record {
    order = All-nil _;
    stars = All-nil _;
    imports = All-nil _;
    export_requests = All-nil _;
    export_bindings = All-nil _;
    site_bindings = one (λ site. ArePlacesIn view_facts.bindings (site_bindings site.kind)) view_site (below_none 0);
    site_imports = one (λ site. ArePlacesIn view_facts.imports (site_imports site.kind)) view_site (below_none 0);
    site_spaces = one (λ site. ArePlacesIn view_facts.requests (space_requests site.kind)) view_site (below_none 1);
    site_calls = one (λ site. ArePlacesIn view_facts.requests (called_requests site.kind)) view_site (below_one 1 0 (lit< tt));
  };
  lawful = record {
    bindings = (no_facts_fit Cjs).lawful.bindings;
    exports = (no_facts_fit Cjs).lawful.exports;
    order = (no_facts_fit Cjs).lawful.order;
    kind = record { order = refl; imports = refl; exports = refl; stars = refl; calls = one (λ site. IsTrue (is_call site.kind)) view_site refl };
  };
  short = record {
    requests = lit< tt;
    order = lit< tt;
    imports = lit< tt;
    exports = lit< tt;
    stars = lit< tt;
    bindings = lit< tt;
    sites = lit< tt;
    free = lit< tt;
    inner = lit< tt;
  };
}

index_fits : RowFits the_graph index_row
index_fits = record { facts = no_facts_fit Es; each = refl; targets = All-nil _ }

data_fits : RowFits the_graph data_row
data_fits = record { facts = no_facts_fit Json; each = refl; targets = All-nil _ }

view_fits : RowFits the_graph view_row
view_fits = record { facts = view_facts_fit; each = refl; targets = below_one 3 1 (lit< tt) }

labels_differ : IsDistinct bytes_eq (map (λ row. row.label) the_graph.rows)
labels_differ =
    IsDistinct-cons bytes_eq _ _ (refl, (refl, tt)) (IsDistinct-cons bytes_eq _ _ (refl, tt) (IsDistinct-cons bytes_eq _ _ tt (no_facts_fit Cjs).lawful.bindings))

graph_fits : Fits the_graph
graph_fits = record {
  rows = All-from_recursion (RowFits the_graph) the_graph.rows (index_fits, (data_fits, (view_fits, tt)));
  entries = below_one 3 0 (lit< tt);
  few_rows = lit< tt;
  few_entries = lit< tt;
  labels = labels_differ;
}

abbrev IsWithin : Item → Type 0
IsWithin item = module_of item < 3

below_two : (count first second : ℕ) → first < count → second < count → AreBelow count (first ∷ second ∷ [])
below_two count first second within also = All-cons (λ n. n < count) first (second ∷ []) within (below_one count second also)

has_modules : HasModules the_material
has_modules = record {
  roots = refl;
  scopes = refl;
  items = All-from_recursion (All IsWithin) the_plan.hoists.items (
    All-from_recursion IsWithin (Evaluate 1 ∷ Segment 0 ∷ []) (lit< tt, (lit< tt, tt)),
    (one IsWithin (Segment 1) (lit< tt), (one IsWithin (Segment 2) (lit< tt), tt)),
  );
  ids = refl;
  bodies = refl;
  pieces = All-from_recursion HoldsPieces the_bodies (lit≤ tt, (lit≤ tt, (lit≤ tt, tt)));
  sources = refl;
  getters = refl;
}

has_chunks : HasChunks the_material
has_chunks = record {
  modules = All-from_recursion (AreBelow 3) the_plan.chunks.modules (below_two 3 0 1 (lit< tt) (lit< tt), (below_one 3 2 (lit< tt), tt));
  ids = refl;
}

has_groups : HasGroups the_material
has_groups = record {
  targets = below_two 3 0 2 (lit< tt) (lit< tt);
  entries = lit≤ tt;
  each_lead = refl;
  leads = All-from_recursion (AreBelow 2) the_plan.groups.leads (below_one 2 1 (lit< tt), (below_none 2, tt));
  each_list = refl;
  lists = All-from_recursion (AreBelow 1) the_plan.chunks.lists (below_none 1, (below_one 1 0 (lit< tt), tt));
}

pub holds_together : HoldsTogether the_material
holds_together = record { graph = graph_fits; modules = has_modules; chunks = has_chunks; groups = has_groups }

-- ---- the parts as they are made

abbrev pub material_of : Graph → Plan → List Body → List (List ℕ) → Getters → MaterialOf
material_of graph plan bodies sources getters = record { graph = graph; plan = plan; bodies = bodies; sources = sources; getters = getters }

pub same_material : (graph : Graph) (plan : Plan) (bodies : List Body) (sources : List (List ℕ)) (getters : Getters) → graph ≡ the_graph → plan ≡ the_plan
    → bodies ≡ the_bodies → sources ≡ the_sources → getters ≡ the_getters → material_of graph plan bodies sources getters ≡ the_material
same_material graph plan bodies sources getters a b c d e =
    ap (λ (g : Graph). material_of g plan bodies sources getters) a ∙ ap (λ (p : Plan). material_of the_graph p bodies sources getters) b
    ∙ ap (λ (l : List Body). material_of the_graph the_plan l sources getters) c ∙ ap (λ (l : List (List ℕ)). material_of the_graph the_plan the_bodies l getters) d
    ∙ ap (λ (g : Getters). material_of the_graph the_plan the_bodies the_sources g) e
