-- A graph whose groups are those of `entry_itself`: an entry that evaluates a module before itself, and imports it when it runs too.
use Rattle.std.specs.Prelude.{[], ◌∷◌, true, false, codes}
use Rattle.pk_types.specs.declared.facts.Kind.TheVariants.{Es, Cjs}
use Rattle.pk_types.specs.declared.graph.Graph.{Graph}
use Rattle.pk_types.specs.declared.graph.Row.{Row}
use Rattle.pk_types.specs.declared.plan.Active.{Active}
use Rattle.pk_types.specs.declared.plan.Used.{Used}
use Rattle.graph_laws.specs.SmallUse.{asks}
use Rattle.graph_laws.specs.SharedLater.{later, plain}

-- import "./a.js"; import("./a.js");
abbrev pub module_index : Row
module_index = plain (codes "src/index.js") Es (asks (codes "./a.js") ∷ []) (0 ∷ []) (later 0 17 ∷ []) [] (1 ∷ []) 35

-- f();
abbrev pub module_a : Row
module_a = plain (codes "src/a.js") Cjs [] [] [] (codes "f" ∷ []) [] 5

abbrev pub itself_graph : Graph
itself_graph = record { rows = module_index ∷ module_a ∷ []; entries = 0 ∷ [] }

abbrev pub itself_used : Used
itself_used = record { names = [] ∷ [] ∷ []; whole = false ∷ false ∷ [] }

abbrev pub itself_active : Active
itself_active = record { edges = (1 ∷ []) ∷ [] ∷ []; reached = true ∷ true ∷ [] }
