-- A graph in which a module without side effects passes names on by stars, and exports a namespace. Two modules are used as a namespace: one is
-- imported so, the other is exported so.
use Rattle.std.specs.Prelude.{ℕ, List, [], ◌∷◌, true, false, Some, None, codes}
use Rattle.pk_types.specs.declared.facts.Kind.TheVariants.{Es}
use Rattle.pk_types.specs.declared.facts.Origin.TheVariants as origin
use Rattle.pk_types.specs.declared.facts.Ref.TheVariants.{Imported}
use Rattle.pk_types.specs.declared.facts.SiteKind.TheVariants.{Read, Space}
use Rattle.pk_types.specs.declared.graph.Graph.{Graph}
use Rattle.pk_types.specs.declared.graph.Row.{Row}
use Rattle.pk_types.specs.declared.plan.Active.{Active}
use Rattle.pk_types.specs.declared.plan.Groups.{Groups}
use Rattle.pk_types.specs.declared.plan.Used.{Used}
use Rattle.graph_laws.specs.SmallUse.{v1, v2, v3, asks, owner}
use Rattle.graph_laws.specs.OpenBarrel.{open_owner}

abbrev pub v4 : List ℕ
v4 = codes "v4"

abbrev pub ns : List ℕ
ns = codes "ns"

-- import { v1, ns } from "lib"; import * as all from "./v2.js"; use(v1, ns, all);
abbrev pub star_user : Row
star_user = record {
  label = codes "src/index.js";
  facts = record {
    kind = Es;
    requests = asks (codes "lib") ∷ asks (codes "./v2.js") ∷ [];
    order = 0 ∷ 1 ∷ [];
    imports = record { request = 0; name = Some v1; place = 9 } ∷ record { request = 0; name = Some ns; place = 13 }
        ∷ record { request = 1; name = None; place = 37 } ∷ [];
    exports = [];
    stars = [];
    bindings = [];
    sites = record { kind = Read (Imported 0); start = 66; end = 68 } ∷ record { kind = Read (Imported 1); start = 70; end = 72 }
        ∷ record { kind = Space 1; start = 74; end = 77 } ∷ [];
    free = codes "use" ∷ [];
    inner = [];
  };
  targets = 1 ∷ 2 ∷ [];
  flagged = false;
  size = 79;
}

-- export * from "./v1.js"; export * as ns from "./v3.js"; export * from "./v4.js";
abbrev pub star_barrel : Row
star_barrel = record {
  label = codes "lib/index.js";
  facts = record {
    kind = Es;
    requests = asks (codes "./v1.js") ∷ asks (codes "./v3.js") ∷ asks (codes "./v4.js") ∷ [];
    order = 0 ∷ 1 ∷ 2 ∷ [];
    imports = [];
    exports = record { name = ns; origin = origin.Space 1; place = 32 } ∷ [];
    stars = 0 ∷ 2 ∷ [];
    bindings = [];
    sites = [];
    free = [];
    inner = [];
  };
  targets = 3 ∷ 4 ∷ 5 ∷ [];
  flagged = true;
  size = 80;
}

-- The owners of the first three names have no side effects; that of the last one may have some.
abbrev pub star_graph : Graph
star_graph = record { rows = star_user ∷ star_barrel ∷ owner v2 ∷ owner v1 ∷ owner v3 ∷ open_owner v4 ∷ []; entries = 0 ∷ [] }

-- Two names are used of the module that passes them on. The name that it has by a star is used at its owner, and so is each name of the two
-- namespaces.
abbrev pub star_used : Used
star_used = record {
  names = [] ∷ (ns ∷ v1 ∷ []) ∷ (v2 ∷ []) ∷ (v1 ∷ []) ∷ (v3 ∷ []) ∷ [] ∷ [];
  whole = false ∷ false ∷ true ∷ false ∷ true ∷ false ∷ [];
}

-- The stops of the names in byte order, and then the module whose namespace is imported. The module that passes names on is not reached, and
-- neither is what only its other star leads to, though that may have side effects.
abbrev pub star_active : Active
star_active = record {
  edges = (4 ∷ 3 ∷ 2 ∷ []) ∷ [] ∷ [] ∷ [] ∷ [] ∷ [] ∷ [];
  reached = true ∷ false ∷ true ∷ true ∷ true ∷ false ∷ [];
}

abbrev pub star_groups : Groups
star_groups = record { targets = 0 ∷ []; entries = 1; closures = (0 ∷ 2 ∷ 3 ∷ 4 ∷ []) ∷ []; leads = [] ∷ [] }
