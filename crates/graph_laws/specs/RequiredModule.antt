-- A graph in which a module of CommonJS requires one of ECMAScript, and imports another one when it runs. The first of these passes on a name of
-- a module of CommonJS. None but the entry has side effects.
use Rattle.std.specs.Prelude.{[], ◌∷◌, true, false, codes}
use Rattle.pk_types.specs.declared.form.Form.TheVariants as form
use Rattle.pk_types.specs.declared.facts.Kind.TheVariants.{Es, Cjs}
use Rattle.pk_types.specs.declared.facts.Origin.TheVariants.{Other}
use Rattle.pk_types.specs.declared.facts.SiteKind.TheVariants.{Require, Import}
use Rattle.pk_types.specs.declared.graph.Graph.{Graph}
use Rattle.pk_types.specs.declared.graph.Row.{Row}
use Rattle.pk_types.specs.declared.plan.Active.{Active}
use Rattle.pk_types.specs.declared.plan.Groups.{Groups}
use Rattle.pk_types.specs.declared.plan.Used.{Used}
use Rattle.graph_laws.specs.SmallUse.{v1, v2, asks, owner}
use Rattle.graph_laws.specs.SharedLater.{plain}

-- require("./a.js"); import("./v2.js");
abbrev pub requirer : Row
requirer = plain (codes "src/index.js") Cjs (record { text = codes "./a.js"; form = form.Require; json = false } ∷ asks (codes "./v2.js") ∷ []) []
    (record { kind = Require 0; start = 0; end = 17 } ∷ record { kind = Import 1; start = 19; end = 36 } ∷ []) (codes "require" ∷ []) (1 ∷ 2 ∷ []) 38

-- export { v1 } from "./c.js";
abbrev pub passer : Row
passer = record {
  label = codes "src/a.js";
  facts = record {
    kind = Es;
    requests = asks (codes "./c.js") ∷ [];
    order = 0 ∷ [];
    imports = [];
    exports = record { name = v1; origin = Other 0 v1; place = 9 } ∷ [];
    stars = [];
    bindings = [];
    sites = [];
    free = [];
    inner = [];
  };
  targets = 3 ∷ [];
  flagged = true;
  size = 29;
}

-- f();
abbrev pub common : Row
common = record (plain (codes "src/c.js") Cjs [] [] [] (codes "f" ∷ []) [] 5) { flagged = true }

abbrev pub require_graph : Graph
require_graph = record { rows = requirer ∷ passer ∷ owner v2 ∷ common ∷ []; entries = 0 ∷ [] }

-- All names of what is required or imported are used, and no namespace is used as a value. A name can be used of a module of CommonJS too.
abbrev pub require_used : Used
require_used = record { names = [] ∷ (v1 ∷ []) ∷ (v2 ∷ []) ∷ (v1 ∷ []) ∷ []; whole = false ∷ false ∷ false ∷ false ∷ [] }

-- What is required is no edge. The edge of the module that is required goes to a stop, which is none of ECMAScript.
abbrev pub require_active : Active
require_active = record { edges = [] ∷ (3 ∷ []) ∷ [] ∷ [] ∷ []; reached = true ∷ true ∷ true ∷ true ∷ [] }

-- The group of the entry has what is required, and what that evaluates.
abbrev pub require_groups : Groups
require_groups = record { targets = 0 ∷ 2 ∷ []; entries = 1; closures = (0 ∷ 1 ∷ 3 ∷ []) ∷ (2 ∷ []) ∷ []; leads = (1 ∷ []) ∷ [] ∷ [] }
