-- A graph whose groups are those of `one_parent`: an entry that imports two modules when it runs, each of which imports a third one when it runs.
use Rattle.std.specs.Prelude.{ℕ, ◌+◌, List, [], ◌∷◌, true, false, codes}
use Rattle.pk_types.specs.declared.facts.Kind.{Kind}
use Rattle.pk_types.specs.declared.facts.Kind.TheVariants.{Es, Cjs}
use Rattle.pk_types.specs.declared.facts.Request.{Request}
use Rattle.pk_types.specs.declared.facts.Site.{Site}
use Rattle.pk_types.specs.declared.facts.SiteKind.TheVariants.{Import}
use Rattle.pk_types.specs.declared.graph.Graph.{Graph}
use Rattle.pk_types.specs.declared.graph.Row.{Row}
use Rattle.pk_types.specs.declared.plan.Active.{Active}
use Rattle.pk_types.specs.declared.plan.Used.{Used}
use Rattle.graph_laws.specs.SmallUse.{asks}

-- an `import()` by this request, whose text of 16 bytes begins here
abbrev pub later : ℕ → ℕ → Site
later request start = record { kind = Import request; start = start; end = start + 16 }

-- a module that binds nothing, with these requests, declarations, sites, free names and targets, and a text of this size
abbrev pub plain : List ℕ → Kind → List Request → List ℕ → List Site → List (List ℕ) → List ℕ → ℕ → Row
plain label kind requests order sites free targets size = record {
  label = label;
  facts = record {
    kind = kind;
    requests = requests;
    order = order;
    imports = [];
    exports = [];
    stars = [];
    bindings = [];
    sites = sites;
    free = free;
    inner = [];
  };
  targets = targets;
  flagged = false;
  size = size;
}

-- import("./p.js"); import("./q.js");
abbrev pub module_index : Row
module_index = plain (codes "src/index.js") Cjs (asks (codes "./p.js") ∷ asks (codes "./q.js") ∷ []) [] (later 0 0 ∷ later 1 18 ∷ []) [] (1 ∷ 2 ∷ []) 36

-- import "./m.js"; import("./t.js");
abbrev pub module_p : Row
module_p = plain (codes "src/p.js") Es (asks (codes "./m.js") ∷ asks (codes "./t.js") ∷ []) (0 ∷ []) (later 1 17 ∷ []) [] (3 ∷ 4 ∷ []) 35

-- import("./t.js");
abbrev pub module_q : Row
module_q = plain (codes "src/q.js") Cjs (asks (codes "./t.js") ∷ []) [] (later 0 0 ∷ []) [] (4 ∷ []) 18

-- f();
abbrev pub module_m : Row
module_m = plain (codes "src/m.js") Cjs [] [] [] (codes "f" ∷ []) [] 5

-- import "./m.js";
abbrev pub module_t : Row
module_t = plain (codes "src/t.js") Es (asks (codes "./m.js") ∷ []) (0 ∷ []) [] [] (3 ∷ []) 17

abbrev pub shared_graph : Graph
shared_graph = record { rows = module_index ∷ module_p ∷ module_q ∷ module_m ∷ module_t ∷ []; entries = 0 ∷ [] }

abbrev pub shared_used : Used
shared_used = record { names = [] ∷ [] ∷ [] ∷ [] ∷ [] ∷ []; whole = false ∷ false ∷ false ∷ false ∷ false ∷ [] }

abbrev pub shared_active : Active
shared_active = record { edges = [] ∷ (3 ∷ []) ∷ [] ∷ [] ∷ (3 ∷ []) ∷ []; reached = true ∷ true ∷ true ∷ true ∷ true ∷ [] }
