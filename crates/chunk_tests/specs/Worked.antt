-- A bundle of three modules: an entry that evaluates a JSON module, and a module of CommonJS that an `import()` leads to.
use Rattle.std.specs.Prelude.{ℕ, List, [], ◌∷◌, ◌++◌, Some, None, true, false, codes}
use Rattle.pk_types.specs.declared.facts.BindKind.TheVariants.{Const}
use Rattle.pk_types.specs.declared.facts.Facts.{Facts}
use Rattle.pk_types.specs.declared.facts.Kind.TheVariants.{Es, Cjs, Json}
use Rattle.pk_types.specs.declared.facts.Site.{Site}
use Rattle.pk_types.specs.declared.facts.SiteKind.TheVariants as site
use Rattle.pk_types.specs.declared.form.Form.TheVariants as form
use Rattle.pk_types.specs.declared.graph.Graph.{Graph}
use Rattle.pk_types.specs.declared.graph.Row.{Row}
use Rattle.pk_types.specs.declared.plan.Item.TheVariants.{Segment, Evaluate}
use Rattle.pk_types.specs.declared.plan.Plan.{Plan}
use Rattle.pk_types.specs.NoFacts.{no_facts}
use Rattle.emit_body.specs.declared.body.Body.{Body}
use Rattle.emit_body.specs.declared.getters.Getters.{Getters}
use Rattle.emit_body.specs.declared.getters.ScopeGetters.{ScopeGetters}
use Rattle.chunk_files.specs.Materials.{MaterialOf}

abbrev pub view_site : Site
view_site = record { kind = site.Require 0; start = 12; end = 34 }

-- exports.n = require("./data.json").n;
abbrev pub view_facts : Facts
view_facts = record {
  kind = Cjs;
  requests = record { text = codes "./data.json"; form = form.Require; json = false } ∷ [];
  order = [];
  imports = [];
  exports = [];
  stars = [];
  bindings = [];
  sites = view_site ∷ [];
  free = [];
  inner = [];
}

abbrev pub index_row : Row
index_row = record { label = codes "src/index.js"; facts = no_facts Es; targets = []; flagged = false; size = 0 }

abbrev pub data_row : Row
data_row = record { label = codes "src/data.json"; facts = no_facts Json; targets = []; flagged = false; size = 0 }

abbrev pub view_row : Row
view_row = record { label = codes "src/view.js"; facts = view_facts; targets = 1 ∷ []; flagged = false; size = 0 }

abbrev pub the_graph : Graph
the_graph = record { rows = index_row ∷ data_row ∷ view_row ∷ []; entries = 0 ∷ [] }

abbrev pub the_plan : Plan
the_plan = record {
  active = record { edges = (1 ∷ []) ∷ [] ∷ [] ∷ []; reached = true ∷ true ∷ true ∷ [] };
  used = record { names = [] ∷ [] ∷ [] ∷ []; whole = false ∷ false ∷ false ∷ [] };
  groups = record { targets = 0 ∷ 2 ∷ []; entries = 1; closures = (0 ∷ 1 ∷ []) ∷ (1 ∷ 2 ∷ []) ∷ []; leads = (1 ∷ []) ∷ [] ∷ [] };
  chunks = record { modules = (0 ∷ 1 ∷ []) ∷ (2 ∷ []) ∷ []; entries = 1; lists = [] ∷ (0 ∷ []) ∷ [] };
  hoists = record { root = 0 ∷ 1 ∷ 2 ∷ []; items = (Evaluate 1 ∷ Segment 0 ∷ []) ∷ (Segment 1 ∷ []) ∷ (Segment 2 ∷ []) ∷ [] };
  names = [] ∷ [] ∷ [] ∷ [];
  ids = record { modules = 3 ∷ 12 ∷ 7 ∷ []; chunks = 4 ∷ [] };
}

-- the letters of marks are `i`, `r`, `d` and `q`
abbrev pub the_bodies : List Body
the_bodies =
    record {
      text = codes "const see = __webpack_r.w(12).n;\n__webpack_r.d(7);";
      pieces = record { plain = 6; kind = 105; site = 3 } ∷ record { plain = 3; kind = 114; site = 19 } ∷ record { plain = 2; kind = 100; site = 16 } ∷ [];
    }
    ∷ record { text = []; pieces = [] }
    ∷ record { text = codes "exports.n = __webpack_r(12).n;"; pieces = record { plain = 12; kind = 113; site = 15 } ∷ [] }
    ∷ []

-- the JSON module begins with U+FEFF and ends with CR LF
abbrev pub the_sources : List (List ℕ)
the_sources = [] ∷ ((239 ∷ 187 ∷ 191 ∷ []) ++ codes "{\"n\": \"it's \\\\\"}" ++ (13 ∷ 10 ∷ [])) ∷ [] ∷ []

abbrev pub no_lists : ScopeGetters
no_lists = record { variables = []; cells = []; space = None }

abbrev pub the_getters : Getters
the_getters = record {
  scopes = record {
    variables = record { kind = Const; name = codes "see" } ∷ [];
    cells = codes "see" ∷ [];
    space = Some (record { name = codes "see"; spelling = codes "see" } ∷ []);
  } ∷ no_lists ∷ no_lists ∷ [];
}

abbrev pub the_material : MaterialOf
the_material = record { graph = the_graph; plan = the_plan; bodies = the_bodies; sources = the_sources; getters = the_getters }
