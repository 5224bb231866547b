-- A graph whose groups are those of `two_entries`: two entries that import a third module when they run.
use Rattle.std.specs.Prelude.{[], ◌∷◌, true, false, codes}
use Rattle.pk_types.specs.declared.facts.Kind.TheVariants.{Cjs}
use Rattle.pk_types.specs.declared.graph.Graph.{Graph}
use Rattle.pk_types.specs.declared.graph.Row.{Row}
use Rattle.pk_types.specs.declared.plan.Active.{Active}
use Rattle.pk_types.specs.declared.plan.Used.{Used}
use Rattle.graph_laws.specs.SmallUse.{asks}
use Rattle.graph_laws.specs.SharedLater.{later, plain}

-- import("./c.js");
abbrev pub module_a : Row
module_a = plain (codes "src/a.js") Cjs (asks (codes "./c.js") ∷ []) [] (later 0 0 ∷ []) [] (2 ∷ []) 18

-- import("./c.js");
abbrev pub module_b : Row
module_b = plain (codes "src/b.js") Cjs (asks (codes "./c.js") ∷ []) [] (later 0 0 ∷ []) [] (2 ∷ []) 18

-- f();
abbrev pub module_c : Row
module_c = plain (codes "src/c.js") Cjs [] [] [] (codes "f" ∷ []) [] 5

abbrev pub entries_graph : Graph
entries_graph = record { rows = module_a ∷ module_b ∷ module_c ∷ []; entries = 0 ∷ 1 ∷ [] }

abbrev pub entries_used : Used
entries_used = record { names = [] ∷ [] ∷ [] ∷ []; whole = false ∷ false ∷ false ∷ [] }

abbrev pub entries_active : Active
entries_active = record { edges = [] ∷ [] ∷ [] ∷ []; reached = true ∷ true ∷ true ∷ [] }
