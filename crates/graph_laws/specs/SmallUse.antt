-- A graph in which a module without side effects only exports the names of others: of three names one is used.
use Rattle.std.specs.Prelude.{ℕ, List, [], ◌∷◌, true, false, Some, codes}
use Rattle.pk_types.specs.declared.form.Form.TheVariants as form
use Rattle.pk_types.specs.declared.facts.BindKind.TheVariants.{Const}
use Rattle.pk_types.specs.declared.facts.Kind.TheVariants.{Es}
use Rattle.pk_types.specs.declared.facts.Origin.TheVariants.{Own, Other}
use Rattle.pk_types.specs.declared.facts.Ref.TheVariants.{Imported}
use Rattle.pk_types.specs.declared.facts.Request.{Request}
use Rattle.pk_types.specs.declared.facts.SiteKind.TheVariants.{Init, Read}
use Rattle.pk_types.specs.declared.graph.Graph.{Graph}
use Rattle.pk_types.specs.declared.graph.Row.{Row}
use Rattle.pk_types.specs.declared.plan.Active.{Active}
use Rattle.pk_types.specs.declared.plan.Used.{Used}

abbrev pub v1 : List ℕ
v1 = codes "v1"

abbrev pub v2 : List ℕ
v2 = codes "v2"

abbrev pub v3 : List ℕ
v3 = codes "v3"

-- an import of this text
abbrev pub asks : List ℕ → Request
asks text = record { text = text; form = form.Import; json = false }

-- import { v2 } from "lib"; use(v2);
abbrev pub user : Row
user = record {
  label = codes "src/index.js";
  facts = record {
    kind = Es;
    requests = asks (codes "lib") ∷ [];
    order = 0 ∷ [];
    imports = record { request = 0; name = Some v2; place = 9 } ∷ [];
    exports = [];
    stars = [];
    bindings = [];
    sites = record { kind = Read (Imported 0); start = 30; end = 32 } ∷ [];
    free = codes "use" ∷ [];
    inner = [];
  };
  targets = 1 ∷ [];
  flagged = false;
  size = 34;
}

-- export { v1 } from "./v1.js"; export { v2 } from "./v2.js"; export { v3 } from "./v3.js";
abbrev pub barrel : Row
barrel = record {
  label = codes "lib/index.js";
  facts = record {
    kind = Es;
    requests = asks (codes "./v1.js") ∷ asks (codes "./v2.js") ∷ asks (codes "./v3.js") ∷ [];
    order = 0 ∷ 1 ∷ 2 ∷ [];
    imports = [];
    exports = record { name = v1; origin = Other 0 v1; place = 9 } ∷ record { name = v2; origin = Other 1 v2; place = 39 }
        ∷ record { name = v3; origin = Other 2 v3; place = 69 } ∷ [];
    stars = [];
    bindings = [];
    sites = [];
    free = [];
    inner = [];
  };
  targets = 2 ∷ 3 ∷ 4 ∷ [];
  flagged = true;
  size = 89;
}

-- export const v1 = 1; and likewise for the other names
abbrev pub owner : List ℕ → Row
owner name = record {
  label = name;
  facts = record {
    kind = Es;
    requests = [];
    order = [];
    imports = [];
    exports = record { name = name; origin = Own 0; place = 13 } ∷ [];
    stars = [];
    bindings = record { name = name; kind = Const } ∷ [];
    sites = record { kind = Init 0; start = 13; end = 15 } ∷ [];
    free = [];
    inner = [];
  };
  targets = [];
  flagged = true;
  size = 20;
}

abbrev pub barrel_graph : Graph
barrel_graph = record { rows = user ∷ barrel ∷ owner v1 ∷ owner v2 ∷ owner v3 ∷ []; entries = 0 ∷ [] }

-- the one name is used at the module that passes it on and at its owner
abbrev pub barrel_used : Used
barrel_used = record { names = [] ∷ (v2 ∷ []) ∷ [] ∷ (v2 ∷ []) ∷ [] ∷ []; whole = false ∷ false ∷ false ∷ false ∷ false ∷ [] }

-- the edge goes to the owner, and the three other modules are not reached
abbrev pub barrel_active : Active
barrel_active = record { edges = (3 ∷ []) ∷ [] ∷ [] ∷ [] ∷ [] ∷ []; reached = true ∷ false ∷ false ∷ true ∷ false ∷ [] }
